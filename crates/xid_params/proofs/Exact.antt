-- A field has one offer or one first fault, and never both.
use Rattle.xid_params.proofs.Names.{◌≡◌, ◌≢◌, ℕ, ◌+◌, ◌/◌, ◌%◌, ◌<◌, ◌≤◌, ◌⊎◌, inl, inr, List, [], ◌∷◌, ◌++◌, length, Option, Some, None}
use Rattle.xid_params.proofs.Names.{length-append, arith, refl, sym, ◌∙◌, ap, subst, false≢true, nat_tests, flat_map, IfOk, IfErr, INFO}
use Rattle.xid_params.proofs.Names.{place_of, place_behind, IsGroupWrong, IsParameterWrong, GroupHas, InnerHas, Has, FirstFault, Offers}
use Rattle.xid_params.proofs.Names.{IsEnd, GroupsSpell, OfferSpelling, offer_in, IsAllowed, identifier_of, accepts, is_low, octets_of_bits}
use Rattle.xid_params.proofs.Names.{segments_of, stands_well, said, offer_of, AreWell, Part, group_octets, named, number_of, XidFault}
use Rattle.xid_params.proofs.Names.{Offer, TxLength, RxLength, TxWindow, RxWindow}
use Rattle.std.proofs.Common.{Result}
use Rattle.std.proofs.Common.{Ok, Err, lit≤}
use Rattle.std.specs.Prelude.{◌↔◌, IsTrue, not, unwrap_or}
use Rattle.std.proofs.lemmas.Result.{IfOk-weaker}
use Rattle.std.specs.Result.{result_ok}
use Rattle.xid_params.specs.Faults.{IsNoXid}
use Rattle.xid_params.proofs.Lists.{group-free, compare}
use Rattle.xid_params.proofs.Tables.{and-right, well-none}
use Rattle.xid_params.proofs.Parameters.{within}
use Rattle.xid_params.proofs.Groups.{further, place-more, inner-from}
use Rattle.xid_params.proofs.Found.{spelled-is-found, found-is-spelled}
use Rattle.xid_params.proofs.Small.{AreSmall}

-- what is gathered of the groups of a spelling
gathered : (groups : List Part) (offer : Offer) → GroupsSpell (named 128 groups) offer → (o : Option Offer) × Offers o groups
gathered groups offer s = go (named 128 groups) refl s where
  go : (found : List Part) → named 128 groups ≡ found → GroupsSpell found offer → (o : Option Offer) × Offers o groups
  go [] e h = (None, e)
  go (group ∷ []) e h = (Some offer, record { group = group; alone = e; spells = h })
  go (group ∷ again ∷ more) e h = absurd h

-- no group stands at the end
nothing-more : (rest tail : List ℕ) (more : List Part) (identifier : ℕ) → IsEnd rest
    → rest ≡ flat_map group_octets more ++ identifier ∷ tail → named 255 more ≡ [] → identifier ≢ 255 → ⊥
nothing-more [] tail more identifier ends e none no_end =
    absurd (omega (arith, ap length e, length-append (flat_map group_octets more) (identifier ∷ tail)))
nothing-more (x ∷ rest) tail [] identifier ends e none no_end = let is : x ≡ identifier = cc in no_end (sym is ∙ ends)
nothing-more (x ∷ rest) tail (m ∷ more) identifier ends e none no_end = grind (arith)

pub never-both : (octets : List ℕ) (offer : Offer) (q : ℕ) (fault : XidFault) → OfferSpelling octets offer → Has octets q fault → ⊥
never-both octets offer q fault s h =
    let o = gathered s.groups offer s.offers in
    elim (further octets s.rest s.groups o.0 q fault s.passes o.1 h) [
      | inl b ↦ nothing-more s.rest b.tail b.more b.identifier s.ends b.rest_is b.ends b.no_end
      | inr w ↦ nothing-more s.rest
          ((length w.content / 256) ∷ (length w.content % 256) ∷ (w.content ++ w.after)) w.more 128 s.ends w.rest_is w.ends
          (λ e. absurd (omega (arith, e)))
    ]

pub one-offer : (octets : List ℕ) (offer other : Offer) → OfferSpelling octets offer → OfferSpelling octets other → offer ≡ other
one-offer octets offer other s t =
    (let e : Some offer ≡ Some other = sym (spelled-is-found octets offer s) ∙ spelled-is-found octets other t in cc)

-- one place of one part has one fault

group-one : (before others : List Part) (identifier other : ℕ) (tail other_tail : List ℕ) (at : ℕ) (f g : XidFault)
    → IsGroupWrong before identifier tail at f → IsGroupWrong others other other_tail at g → place_of f ≡ place_of g → f ≡ g
group-one before others identifier other tail other_tail at q7 g h k e = grind (arith)

parameter-one : (before others : List Part) (identifier other : ℕ) (tail other_tail : List ℕ) (at : ℕ) (f g : XidFault)
    → IsParameterWrong before identifier tail at f → IsParameterWrong others other other_tail at g → place_of f ≡ place_of g → f ≡ g
parameter-one before others identifier other tail other_tail at q7 g h k e = grind (arith)

-- no group begins where a parameter does
apart : (octets : List ℕ) (q : ℕ) (f g : XidFault) → GroupHas octets q f → InnerHas octets q g → ⊥
apart octets q f g h i =
    let part : Part = record { identifier = 128; value = i.content } in
    let both : flat_map group_octets h.groups ++ h.identifier ∷ h.tail ≡ flat_map group_octets i.groups ++ (group_octets part ++ i.rest) =
    (let e : 130 ∷ (flat_map group_octets h.groups ++ h.identifier ∷ h.tail) ≡ 130 ∷
    (flat_map group_octets i.groups ++ (group_octets part ++ i.rest)) = sym h.passes.whole ∙ i.passes.whole in cc) in
    let from = inner-from i.content (place_behind i.groups + 3) q g i.inner in
    let to = within i.content (place_behind i.groups + 3) q g i.inner in
    elim (compare group_octets group-free h.groups i.groups (h.identifier ∷ h.tail) (group_octets part ++ i.rest) both) [
      | inl n ↦ (let behind : place_behind i.groups ≡ place_behind h.groups + length (flat_map group_octets n.more) =
          ap place_behind n.parts_are ∙ place-more h.groups n.more in absurd (omega (arith, h.at_is, from.0)))
      | inr l ↦
          let same = group-free.free part l.next i.rest (flat_map group_octets l.more ++ h.identifier ∷ h.tail) l.rest_is in
          let size : length i.content ≡ length l.next.value = ap (λ p. length p.value) same.0 in
          let behind : place_behind h.groups ≡ place_behind i.groups + length (flat_map group_octets (l.next ∷ l.more)) =
          ap place_behind l.parts_are ∙ place-more i.groups (l.next ∷ l.more) in
          absurd (omega (arith, h.at_is, to.1, length-append l.next.value (flat_map group_octets l.more)))
    ]

format-alone : (octets rest : List ℕ) → octets ≡ 130 ∷ rest → IsNoXid octets → ⊥
format-alone q0 rest e h = grind (arith)

one-here : (octets : List ℕ) (q : ℕ) (f g : XidFault) → Has octets q f → Has octets q g → place_of f ≡ place_of g → f ≡ g
one-here octets q f g (inl h) (inl k) e = h.fault_is ∙ sym k.fault_is
one-here octets q f g (inl h) (inr (inl k)) e = grind (arith, format-alone)
one-here octets q f g (inl h) (inr (inr k)) e = grind (arith, format-alone)
one-here octets q f g (inr (inl h)) (inl k) e = grind (arith, format-alone)
one-here octets q f g (inr (inr h)) (inl k) e = grind (arith, format-alone)
one-here octets q f g (inr (inl h)) (inr (inl k)) e = grind (arith, group-one)
one-here octets q f g (inr (inl h)) (inr (inr k)) e = absurd (apart octets q f g h k)
one-here octets q f g (inr (inr h)) (inr (inl k)) e = absurd (apart octets q g f k h)
one-here octets q f g (inr (inr h)) (inr (inr k)) e = grind (arith, parameter-one)

both-first : (f g p q : ℕ) → (f < g) ⊎ ((f ≡ g) × (p ≤ q)) → (g < f) ⊎ ((g ≡ f) × (q ≤ p)) → (f ≡ g) × (p ≡ q)
both-first f g p q q4 q5 = grind (arith)

pub one-fault : (octets : List ℕ) (fault other : XidFault) → FirstFault octets fault → FirstFault octets other → fault ≡ other
one-fault octets fault other h k =
    let p = both-first (place_of fault) (place_of other) h.at k.at (h.first k.at other k.here) (k.first h.at fault h.here) in
    one-here octets h.at fault other h.here (subst (λ n. Has octets n other) (sym p.1) k.here) p.0

-- the answers of a reader that is right on both sides

pub all-offers : (octets : List ℕ) (result : Result Offer XidFault) → IfOk result (OfferSpelling octets) → IfErr result (FirstFault octets)
    → (offer : Offer) → OfferSpelling octets offer → result ≡ Ok offer
all-offers octets (Ok found) ok err offer s = ap Ok (one-offer octets found offer ok s)
all-offers octets (Err fault) ok err offer s = absurd (never-both octets offer err.at fault s err.here)

fault-is : (octets : List ℕ) (result : Result Offer XidFault) → IfOk result (OfferSpelling octets) → IfErr result (FirstFault octets)
    → (fault : XidFault) → FirstFault octets fault → result ≡ Err fault
fault-is octets (Ok found) ok err fault f = absurd (never-both octets found f.at fault ok f.here)
fault-is octets (Err first) ok err fault f = ap Err (one-fault octets first fault err f)

is-fault : (octets : List ℕ) (result : Result Offer XidFault) → IfErr result (FirstFault octets) → (fault : XidFault) → result ≡ Err fault
    → FirstFault octets fault
is-fault octets q1 err fault e = grind (arith)

pub all-faults : (octets : List ℕ) (result : Result Offer XidFault) → IfOk result (OfferSpelling octets) → IfErr result (FirstFault octets)
    → (fault : XidFault) → (result ≡ Err fault) ↔ FirstFault octets fault
all-faults octets result ok err fault = (is-fault octets result err fault, fault-is octets result ok err fault)

pub same-found : (octets : List ℕ) (result : Result Offer XidFault) → AreSmall octets → IfOk result (OfferSpelling octets)
    → IfErr result (FirstFault octets) → result_ok result ≡ offer_in octets
same-found octets (Ok found) are ok err = sym (spelled-is-found octets found ok)
same-found octets (Err fault) are ok err = go (offer_in octets) refl where
  go : (found : Option Offer) → offer_in octets ≡ found → None ≡ offer_in octets
  go None e = sym e
  go (Some offer) e = absurd (never-both octets offer err.at fault (found-is-spelled octets offer are e) err.here)

pub some-answer : (octets : List ℕ) (result : Result Offer XidFault) → IfOk result (OfferSpelling octets)
    → ((fault : XidFault) → (result ≡ Err fault) ↔ FirstFault octets fault)
    → ((offer : Offer) × OfferSpelling octets offer) ⊎ ((fault : XidFault) × FirstFault octets fault)
some-answer octets (Ok offer) ok faults = inl (offer, ok)
some-answer octets (Err fault) ok faults = inr (fault, (faults fault).0 refl)

-- the offer that is spelled keeps to the least and the most

length-allowed : (parts : List Part) → IsTrue (stands_well TxLength parts)
    → (1 ≤ unwrap_or (said octets_of_bits parts) 128) × (unwrap_or (said octets_of_bits parts) 128 ≤ INFO)
length-allowed [] w = (lit≤ tt, lit≤ tt)
length-allowed (part ∷ []) w =
    let high = and-right (accepts TxLength (length part.value)) (not (is_low TxLength part.value)) w in
    let least : 1 ≤ number_of part.value / 8 = grind (arith, nat_tests) in
    (omega arith, omega arith)
length-allowed (part ∷ again ∷ parts) w = absurd (false≢true w)

window-allowed : (parts : List Part) → IsTrue (stands_well TxWindow parts)
    → (1 ≤ unwrap_or (said segments_of parts) 15) × (unwrap_or (said segments_of parts) 15 ≤ 127)
window-allowed [] w = (lit≤ tt, lit≤ tt)
window-allowed (part ∷ []) w =
    let high = and-right (accepts TxWindow (length part.value)) (not (is_low TxWindow part.value)) w in
    let least : 1 ≤ number_of part.value = grind (arith, nat_tests) in
    (omega arith, omega arith)
window-allowed (part ∷ again ∷ parts) w = absurd (false≢true w)

pub offer-allowed : (parts : List Part) → AreWell parts → IsAllowed (offer_of parts)
offer-allowed parts w =
    let tx_len = length-allowed (named (identifier_of TxLength) parts) (w.each TxLength) in
    let rx_len = length-allowed (named (identifier_of RxLength) parts) (w.each RxLength) in
    let tx_window = window-allowed (named (identifier_of TxWindow) parts) (w.each TxWindow) in
    let rx_window = window-allowed (named (identifier_of RxWindow) parts) (w.each RxWindow) in
    record {
      tx_len_low = tx_len.0;
      tx_len_high = tx_len.1;
      rx_len_low = rx_len.0;
      rx_len_high = rx_len.1;
      tx_window_low = tx_window.0;
      tx_window_high = tx_window.1;
      rx_window_low = rx_window.0;
      rx_window_high = rx_window.1;
    }

groups-allowed : (groups : List Part) (offer : Offer) → GroupsSpell groups offer → IsAllowed offer
groups-allowed [] offer e = subst IsAllowed (sym e) (offer-allowed [] well-none)
groups-allowed (group ∷ []) offer s = subst IsAllowed (sym s.offer_is) (offer-allowed s.parts s.well)
groups-allowed (group ∷ again ∷ groups) offer h = absurd h

pub spelled-allowed : (octets : List ℕ) (offer : Offer) → OfferSpelling octets offer → IsAllowed offer
spelled-allowed octets offer s = groups-allowed (named 128 s.groups) offer s.offers

pub all-allowed : (octets : List ℕ) (result : Result Offer XidFault) → IfOk result (OfferSpelling octets) → IfOk result IsAllowed
all-allowed octets result ok = IfOk-weaker result (OfferSpelling octets) IsAllowed (spelled-allowed octets) ok
