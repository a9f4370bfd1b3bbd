-- The offer that is found is the one that is spelled.
use Rattle.xid_params.proofs.Names.{◌≡◌, ℕ, zero, suc, ◌+◌, ◌*◌, ◌/◌, ◌%◌, ◌<◌, ◌≤◌, Bool, true, false, IsTrue, ◌&&◌, List, [], ◌∷◌, ◌++◌}
use Rattle.xid_params.proofs.Names.{length, take, nat_eq, cond, Option, Some, None, append_assoc, length-append, arith, refl, sym, ◌∙◌, ap}
use Rattle.xid_params.proofs.Names.{subst, nat_tests, flat_map, option_and_then, IsEnd, GroupsSpell, OfferSpelling, groups_in}
use Rattle.xid_params.proofs.Names.{parameters_in, all_well, offer_with, offer_of_groups, offer_in, identifier_of, stands_well, offer_of}
use Rattle.xid_params.proofs.Names.{AreWell, ParametersSpell, Part, group_octets, parameter_octets, named, Offer, Parameter, Functions}
use Rattle.xid_params.proofs.Names.{TxLength, RxLength, TxWindow, RxWindow}
use Rattle.std.proofs.Common.{drop, nat_le, length-drop}
use Rattle.std.proofs.lemmas.List.{take-append-drop, length-take-le}
use Rattle.std.proofs.lemmas.Grind.{common_steps}
use Rattle.std.proofs.Math.Seq.{take-append_seam, drop-append_seam}
use Rattle.std.proofs.lemmas.Option.{cond_some}
use Rattle.xid_params.specs.Offers.{before}
use Rattle.xid_params.specs.Offers.{SpellingIsFound}
use Rattle.xid_params.proofs.Tables.{and-left, and-right, and-both}
use Rattle.xid_params.proofs.Small.{AreSmall, small}

-- from a spelling to what is found

take-whole : (n : ℕ) (xs ys : List ℕ) → n ≡ length xs → take n (xs ++ ys) ≡ xs
take-whole n xs ys e = ap (λ m. take m (xs ++ ys)) e ∙ take-append_seam xs ys

drop-whole : (n : ℕ) (xs ys : List ℕ) → n ≡ length xs → drop n (xs ++ ys) ≡ ys
drop-whole n xs ys e = ap (λ m. drop m (xs ++ ys)) e ∙ drop-append_seam xs ys

end-in : (room : ℕ) (rest : List ℕ) → IsEnd rest → groups_in room rest ≡ Some []
end-in zero rest h = refl
end-in (suc room) [] h = refl
end-in (suc room) (x ∷ []) h = rw h refl
end-in (suc room) (x ∷ y ∷ []) h = rw h refl
end-in (suc room) (x ∷ y ∷ z ∷ rest) h = rw h refl

group-step : (room identifier high low : ℕ) (tail : List ℕ) → nat_eq identifier 255 ≡ false → nat_le (256 * high + low) (length tail) ≡ true
    → groups_in (suc room) (identifier ∷ high ∷ low ∷ tail) ≡ before identifier (take (256 * high + low) tail)
    (groups_in room (drop (256 * high + low) tail))
group-step room identifier high low tail e f = rw (e, f) refl

parameter-step : (room identifier count : ℕ) (tail : List ℕ) → nat_le count (length tail) ≡ true
    → parameters_in (suc room) (identifier ∷ count ∷ tail) ≡ before identifier (take count tail) (parameters_in room (drop count tail))
parameter-step room identifier count tail e = rw e refl

no-end-first : (part : Part) (parts : List Part) → named 255 (part ∷ parts) ≡ []
    → (nat_eq part.identifier 255 ≡ false) × (named 255 parts ≡ [])
no-end-first part parts = go (nat_eq part.identifier 255) where
  go : (b : Bool) → cond b (part ∷ named 255 parts) (named 255 parts) ≡ [] → (b ≡ false) × (named 255 parts ≡ [])
  go q0 e = grind (arith)

two-octets : (n m : ℕ) → m ≡ 256 * (n / 256) + n % 256 → m ≡ n
two-octets n m e = omega arith

groups-found : (room : ℕ) (groups : List Part) (rest : List ℕ) → named 255 groups ≡ [] → IsEnd rest
    → length (flat_map group_octets groups ++ rest) ≤ room → groups_in room (flat_map group_octets groups ++ rest) ≡ Some groups
groups-found room [] rest none ends fits = end-in room rest ends
groups-found zero (group ∷ groups) rest none ends fits = absurd (omega arith)
groups-found (suc room) (group ∷ groups) rest none ends fits =
    let octets : List ℕ = flat_map group_octets groups ++ rest in
    let tail_is : (group.value ++ flat_map group_octets groups) ++ rest ≡ group.value ++ octets =
    append_assoc group.value (flat_map group_octets groups) rest in
    let n : ℕ = 256 * (length group.value / 256) + length group.value % 256 in
    let count : n ≡ length group.value = omega arith in
    let p = no-end-first group groups none in
    let fit : nat_le n (length (group.value ++ octets)) ≡ true =
    (let sum : length (group.value ++ octets) ≡ length group.value + length octets = length-append group.value octets in
    grind (arith, nat_tests)) in
    let room_left : length octets ≤ room = omega (arith, length-append group.value octets, ap length tail_is) in
    let found : groups_in room octets ≡ Some groups = groups-found room groups rest p.1 ends room_left in
    ap (λ t. groups_in (suc room) (group.identifier ∷ (length group.value / 256) ∷ (length group.value % 256) ∷ t)) tail_is
    ∙ group-step room group.identifier (length group.value / 256) (length group.value % 256) (group.value ++ octets) p.0 fit
    ∙ ap (λ v. before group.identifier v (groups_in room (drop n (group.value ++ octets)))) (take-whole n group.value octets count)
    ∙ ap (λ o. before group.identifier group.value (groups_in room o)) (drop-whole n group.value octets count)
    ∙ ap (before group.identifier group.value) found

parameters-found : (room : ℕ) (parts : List Part) → length (flat_map parameter_octets parts) ≤ room
    → parameters_in room (flat_map parameter_octets parts) ≡ Some parts
parameters-found zero [] fits = refl
parameters-found (suc room) [] fits = refl
parameters-found zero (part ∷ parts) fits = absurd (omega arith)
parameters-found (suc room) (part ∷ parts) fits =
    let octets : List ℕ = flat_map parameter_octets parts in
    let fit : nat_le (length part.value) (length (part.value ++ octets)) ≡ true =
    (let sum : length (part.value ++ octets) ≡ length part.value + length octets = length-append part.value octets in
    grind (arith, nat_tests)) in
    let found : parameters_in room octets ≡ Some parts = parameters-found room parts (omega (arith, length-append part.value octets)) in
    parameter-step room part.identifier (length part.value) (part.value ++ octets) fit
    ∙ ap (λ v. before part.identifier v (parameters_in room (drop (length part.value) (part.value ++ octets))))
    (take-append_seam part.value octets)
    ∙ ap (λ o. before part.identifier part.value (parameters_in room o)) (drop-append_seam part.value octets)
    ∙ ap (before part.identifier part.value) found

all-from : (parts : List Part) → AreWell parts → all_well parts ≡ true
all-from parts w =
    and-both (stands_well Functions (named 3 parts))
    (stands_well TxLength (named 5 parts) &&
    (stands_well RxLength (named 6 parts) && (stands_well TxWindow (named 7 parts) && stands_well RxWindow (named 8 parts))))
    (w.each Functions)
    (and-both (stands_well TxLength (named 5 parts))
    (stands_well RxLength (named 6 parts) && (stands_well TxWindow (named 7 parts) && stands_well RxWindow (named 8 parts)))
    (w.each TxLength)
    (and-both (stands_well RxLength (named 6 parts)) (stands_well TxWindow (named 7 parts) && stands_well RxWindow (named 8 parts))
    (w.each RxLength)
    (and-both (stands_well TxWindow (named 7 parts)) (stands_well RxWindow (named 8 parts)) (w.each TxWindow) (w.each RxWindow))))

spelled-with : (content : List ℕ) (offer : Offer) → ParametersSpell content offer
    → option_and_then offer_with (parameters_in (length content) content) ≡ Some offer
spelled-with content offer s =
    ap (λ o. option_and_then offer_with (parameters_in (length o) o)) s.whole
    ∙ ap (option_and_then offer_with) (parameters-found (length (flat_map parameter_octets s.parts)) s.parts (omega arith))
    ∙ ap (λ b. cond b (Some (offer_of s.parts)) None) (all-from s.parts s.well)
    ∙ ap Some (sym s.offer_is)

spelled-groups : (groups : List Part) (offer : Offer) → GroupsSpell groups offer → offer_of_groups groups ≡ Some offer
spelled-groups [] offer e = ap Some (sym e)
spelled-groups (group ∷ []) offer s = spelled-with group.value offer s
spelled-groups (group ∷ again ∷ groups) offer h = absurd h

pub spelled-is-found : (octets : List ℕ) (offer : Offer) → OfferSpelling octets offer → offer_in octets ≡ Some offer
spelled-is-found octets offer s = grind (arith, groups-found, spelled-groups)

-- and back

-- the octets are these parts, and then so
pub record Begins (octets : List ℕ) (groups : List Part) : Type 0 where
  pub rest : List ℕ
  pub whole : octets ≡ flat_map group_octets groups ++ rest
  pub none_ends : named 255 groups ≡ []
  pub ends : IsEnd rest

at-end : (identifier : ℕ) (tail : List ℕ) (groups : List Part) → nat_eq identifier 255 ≡ true
    → (let o : Option (List Part) = Some [] in o) ≡ Some groups → Begins (identifier ∷ tail) groups
at-end identifier tail groups same e =
    let empty : [] ≡ groups = cc in
    subst (Begins (identifier ∷ tail)) empty
    (record { rest = identifier ∷ tail; whole = refl; none_ends = refl; ends = grind (arith, nat_tests) })

high-low : (n high low : ℕ) → n ≡ 256 * high + low → low < 256 → (n / 256 ≡ high) × (n % 256 ≡ low)
high-low n high low e l = (omega arith, omega arith)

one-before : (identifier : ℕ) (value : List ℕ) (found : Option (List Part)) (parts : List Part) → before identifier value found ≡ Some parts
    → (more : List Part) × (found ≡ Some more) × (record { identifier = identifier; value = value } ∷ more ≡ parts)
one-before identifier value q2 parts e = grind (arith)

octets-drop : (n : ℕ) (octets : List ℕ) → AreSmall octets → AreSmall (drop n octets)
octets-drop n octets are i = let here = are (n + i) in grind (arith, common_steps)

begins-more : (identifier high low : ℕ) (tail : List ℕ) (groups more : List Part) → nat_eq identifier 255 ≡ false
    → 256 * high + low ≤ length tail → low < 256 → Begins (drop (256 * high + low) tail) more
    → record { identifier = identifier; value = take (256 * high + low) tail } ∷ more ≡ groups
    → Begins (identifier ∷ high ∷ low ∷ tail) groups
begins-more identifier high low tail groups more other fits small b e =
    let n : ℕ = 256 * high + low in
    let value : List ℕ = take n tail in
    let count : length value ≡ n = length-take-le n tail fits in
    let octets = high-low (length value) high low count small in
    let tail_is : tail ≡ (value ++ flat_map group_octets more) ++ b.rest =
    sym (take-append-drop n tail) ∙ ap (λ o. value ++ o) b.whole ∙ sym (append_assoc value (flat_map group_octets more) b.rest) in
    subst (Begins (identifier ∷ high ∷ low ∷ tail)) e (record {
      rest = b.rest;
      whole = ap (λ t. identifier ∷ high ∷ low ∷ t) tail_is
          ∙ ap (λ h. identifier ∷ h ∷ low ∷ ((value ++ flat_map group_octets more) ++ b.rest)) (sym octets.0)
          ∙ ap (λ l. identifier ∷ (length value / 256) ∷ l ∷ ((value ++ flat_map group_octets more) ++ b.rest)) (sym octets.1);
      none_ends = ap (λ c. cond c (record { identifier = identifier; value = value } ∷ named 255 more) (named 255 more)) other
          ∙ b.none_ends;
      ends = b.ends;
    })

-- a group that isn't the end, by what reads the others
one-group : (room identifier high low : ℕ) (tail : List ℕ) (groups : List Part) → low < 256
    → ((more : List Part) → groups_in room (drop (256 * high + low) tail) ≡ Some more → Begins (drop (256 * high + low) tail) more)
    → (b : Bool) → nat_eq identifier 255 ≡ b
    → cond b (Some []) (cond (nat_le (256 * high + low) (length tail))
    (before identifier (take (256 * high + low) tail) (groups_in room (drop (256 * high + low) tail))) None) ≡ Some groups
    → Begins (identifier ∷ high ∷ low ∷ tail) groups
one-group room identifier high low tail groups small others true same e = at-end identifier (high ∷ low ∷ tail) groups same e
one-group room identifier high low tail groups small others false other e = go (nat_le (256 * high + low) (length tail)) refl e where
  go : (b : Bool) → nat_le (256 * high + low) (length tail) ≡ b
      → cond b (before identifier (take (256 * high + low) tail) (groups_in room (drop (256 * high + low) tail))) None ≡ Some groups
      → Begins (identifier ∷ high ∷ low ∷ tail) groups
  go false f h = cc
  go true f h =
      let fits : 256 * high + low ≤ length tail = grind (arith, nat_tests) in
      let p = one-before identifier (take (256 * high + low) tail) (groups_in room (drop (256 * high + low) tail)) groups h in
      begins-more identifier high low tail groups p.0 other fits small (others p.0 p.1) p.2

groups-back : (room : ℕ) (octets : List ℕ) (groups : List Part) → AreSmall octets → length octets ≤ room
    → groups_in room octets ≡ Some groups → Begins octets groups
groups-back zero [] groups are fits e = let empty : [] ≡ groups = cc in
    subst (Begins []) empty (record { rest = []; whole = refl; none_ends = refl; ends = tt })
groups-back zero (x ∷ octets) groups are fits e = absurd (omega arith)
groups-back (suc room) [] groups are fits e = let empty : [] ≡ groups = cc in
    subst (Begins []) empty (record { rest = []; whole = refl; none_ends = refl; ends = tt })
groups-back (suc room) (g ∷ []) groups are fits e = let p = cond_some (nat_eq g 255) [] groups e in at-end g [] groups p.0 (ap Some p.1)
groups-back (suc room) (g ∷ high ∷ []) groups are fits e = let p = cond_some (nat_eq g 255) [] groups e in
    at-end g (high ∷ []) groups p.0 (ap Some p.1)
groups-back (suc room) (g ∷ high ∷ low ∷ tail) groups are fits e =
    let n : ℕ = 256 * high + low in
    let left : length (drop n tail) ≤ room = omega (arith, length-drop n tail) in
    one-group room g high low tail groups (are 2)
    (λ more. groups-back room (drop n tail) more (octets-drop n tail (λ i. are (suc (suc (suc i))))) left) (nat_eq g 255) refl e

one-parameter : (room identifier count : ℕ) (tail : List ℕ) (parts : List Part)
    → ((more : List Part) → parameters_in room (drop count tail) ≡ Some more → drop count tail ≡ flat_map parameter_octets more)
    → (b : Bool) → nat_le count (length tail) ≡ b
    → cond b (before identifier (take count tail) (parameters_in room (drop count tail))) None ≡ Some parts
    → identifier ∷ count ∷ tail ≡ flat_map parameter_octets parts
one-parameter room identifier count tail parts others false f h = cc
one-parameter room identifier count tail parts others true f h = grind (arith, nat_tests, length-take-le, one-before, take-append-drop)

parameters-back : (room : ℕ) (content : List ℕ) (parts : List Part) → length content ≤ room → parameters_in room content ≡ Some parts
    → content ≡ flat_map parameter_octets parts
parameters-back zero [] parts fits e = let empty : [] ≡ parts = cc in subst (λ ps. [] ≡ flat_map parameter_octets ps) empty refl
parameters-back zero (x ∷ content) parts fits e = absurd (omega arith)
parameters-back (suc room) [] parts fits e = let empty : [] ≡ parts = cc in subst (λ ps. [] ≡ flat_map parameter_octets ps) empty refl
parameters-back (suc room) (p ∷ []) parts fits e = cc
parameters-back (suc room) (p ∷ count ∷ tail) parts fits e =
    let left : length (drop count tail) ≤ room = omega (arith, length-drop count tail) in
    one-parameter room p count tail parts (λ more. parameters-back room (drop count tail) more left) (nat_le count (length tail)) refl e

pub all-each : (parts : List Part) → all_well parts ≡ true → AreWell parts
all-each parts h =
    let functions = and-right (stands_well Functions (named 3 parts))
    (stands_well TxLength (named 5 parts) &&
    (stands_well RxLength (named 6 parts) && (stands_well TxWindow (named 7 parts) && stands_well RxWindow (named 8 parts)))) h in
    let tx_length = and-right (stands_well TxLength (named 5 parts))
    (stands_well RxLength (named 6 parts) && (stands_well TxWindow (named 7 parts) && stands_well RxWindow (named 8 parts))) functions
    in
    let rx_length = and-right (stands_well RxLength (named 6 parts))
    (stands_well TxWindow (named 7 parts) && stands_well RxWindow (named 8 parts)) tx_length in
    record {
      each = each
          (and-left (stands_well Functions (named 3 parts))
          (stands_well TxLength (named 5 parts) &&
          (stands_well RxLength (named 6 parts) && (stands_well TxWindow (named 7 parts) && stands_well RxWindow (named 8 parts)))) h)
          (and-left (stands_well TxLength (named 5 parts))
          (stands_well RxLength (named 6 parts) && (stands_well TxWindow (named 7 parts) && stands_well RxWindow (named 8 parts)))
          functions)
          (and-left (stands_well RxLength (named 6 parts))
          (stands_well TxWindow (named 7 parts) && stands_well RxWindow (named 8 parts)) tx_length)
          (and-left (stands_well TxWindow (named 7 parts)) (stands_well RxWindow (named 8 parts)) rx_length)
          (and-right (stands_well TxWindow (named 7 parts)) (stands_well RxWindow (named 8 parts)) rx_length);
    } where
      each : IsTrue (stands_well Functions (named 3 parts)) → IsTrue (stands_well TxLength (named 5 parts))
          → IsTrue (stands_well RxLength (named 6 parts)) → IsTrue (stands_well TxWindow (named 7 parts))
          → IsTrue (stands_well RxWindow (named 8 parts))
          → (p : Parameter) → IsTrue (stands_well p (named (identifier_of p) parts))
      each a b c d e q5 = grind (arith)

found-with : (content : List ℕ) (found : Option (List Part)) (offer : Offer)
    → ((parts : List Part) → found ≡ Some parts → content ≡ flat_map parameter_octets parts) → option_and_then offer_with found ≡ Some offer
    → ParametersSpell content offer
found-with content None offer back e = cc
found-with content (Some parts) offer back e =
    let p = cond_some (all_well parts) (offer_of parts) offer e in
    record { parts = parts; whole = back parts refl; well = all-each parts p.0; offer_is = sym p.1 }

found-groups : (groups : List Part) (offer : Offer) → offer_of_groups groups ≡ Some offer → GroupsSpell groups offer
found-groups [] offer e = cc
found-groups (group ∷ []) offer e =
    found-with group.value (parameters_in (length group.value) group.value) offer
    (λ parts f. parameters-back (length group.value) group.value parts (omega arith) f) e
found-groups (group ∷ again ∷ groups) offer e = cc

found-behind : (rest : List ℕ) (found : Option (List Part)) (offer : Offer)
    → ((groups : List Part) → found ≡ Some groups → Begins rest groups)
    → option_and_then (λ groups. offer_of_groups (named 128 groups)) found ≡ Some offer → OfferSpelling (130 ∷ rest) offer
found-behind rest None offer back e = cc
found-behind rest (Some groups) offer back e =
    let b = back groups refl in
    record {
      groups = groups;
      rest = b.rest;
      passes = record { whole = ap (λ o. 130 ∷ o) b.whole; none_ends = b.none_ends };
      ends = b.ends;
      offers = found-groups (named 128 groups) offer e;
    }

pub found-is-spelled : (octets : List ℕ) (offer : Offer) → AreSmall octets → offer_in octets ≡ Some offer → OfferSpelling octets offer
found-is-spelled [] offer are e = cc
found-is-spelled (first ∷ rest) offer are e = go (nat_eq first 130) refl e where
  go : (b : Bool) → nat_eq first 130 ≡ b
      → cond b (option_and_then (λ groups. offer_of_groups (named 128 groups)) (groups_in (length rest) rest)) None ≡ Some offer
      → OfferSpelling (first ∷ rest) offer
  go false f h = cc
  go true f h =
      let is : first ≡ 130 = grind (arith, nat_tests) in
      subst (λ x. OfferSpelling (x ∷ rest) offer) (sym is)
      (found-behind rest (groups_in (length rest) rest) offer
      (λ groups g. groups-back (length rest) rest groups (λ i. are (suc i)) (omega arith) g) h)

pub spelling_is_found_always : SpellingIsFound
spelling_is_found_always octets offer are = (found-is-spelled octets offer (small octets are), spelled-is-found octets offer)
