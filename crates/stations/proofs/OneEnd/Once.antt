-- One thing is heard in bits, and one run is made of it.
use Rattle.stations.proofs.Names.{◌≡◌, ◌∙◌, inl, inr, ℕ, ◌+◌, ◌-◌, ◌<◌, Bool, true, false, List, [], ◌∷◌, ◌++◌, length, map, take, get_or}
use Rattle.stations.proofs.Names.{Option, Some, None, Result, Ok, Err, refl, sym, ap, subst, arith, append_assoc, length-append}
use Rattle.stations.proofs.Names.{take-append_seam, false≢true, cases_lt, take-append-le, length-replicate, concat, lent_of, IsLent}
use Rattle.stations.proofs.Names.{EndsPattern, Check, Sixteen, SpellsFrame, Arrived, Frame, Seen, Account, given_break, hear, Said}
use Rattle.stations.proofs.Names.{LoneTurn, hangs_up, lone_served, deliveries, speaks_alone, has_finished, spoken, other, LinkFault, Role}
use Rattle.stations.proofs.Names.{EndsWith, IsQuiet, AreQuiet, IsFirst, stream, slot_bits, IsPeers, Past, Going, Closed, Broken, party_of}
use Rattle.stations.proofs.Names.{Outcome}
use Rattle.std.proofs.lemmas.List.{get_or-append_right}
use Rattle.bit_stuffing.specs.Flags.{FlagEndsAt}
use Rattle.bit_stuffing.specs.Pieces.{EndsWhole}
use Rattle.detection.specs.Patterns.{first, second, ones}
use Rattle.lapm_frames.specs.declared.arrived.Arrived.TheVariants as arrivals
use Rattle.link_run.specs.Run.{Party}
use Rattle.link_run.specs.Alone.{LoneBroken, OneLoneRun}
use Rattle.stations.specs.OneEnd.Peer.{TurnIs, HearsSlots}
use Rattle.stations.specs.OneEnd.Laws.{OneIsHeard, OnePeerRun, OnePeerTurn, HearingBreaks, PeersFaultsAreHeard, OtherFaultsAreWants}
use Rattle.stations.proofs.OneEnd.Breaking.{hears-peers, speaks-wants}

-- ---- what ends with one bit

flag-last : (bits : List Bool) → FlagEndsAt bits (length bits) → get_or bits (length bits - 1) false ≡ false
flag-last bits f = grind (arith)

ones-last : (front : List Bool) (place : ℕ) → place ≡ length front + 7 → get_or (front ++ ones 8) place false ≡ true
ones-last front place e = grind (arith, get_or-append_right)

pattern-last : (seen : Seen) (bits : List Bool) → EndsPattern seen bits → get_or bits (length bits - 1) false ≡ true
pattern-last seen bits p =
    let front : List Bool = first seen ++ ones p.a ++ second seen ++ ones p.b ++ first seen ++ ones p.e ++ second seen in
    let same : bits ≡ (p.before ++ front) ++ ones 8 = p.ends ∙ sym (append_assoc p.before front (ones 8)) in
    subst (λ (b : List Bool). get_or b (length b - 1) false ≡ true) (sym same)
    (ones-last (p.before ++ front) (length ((p.before ++ front) ++ ones 8) - 1)
    (omega (arith, length-append (p.before ++ front) (ones 8), length-replicate {A = Bool} 8 true)))

-- a pattern ends with a one, and a frame's flag with a zero
never-together : (bits : List Bool) (seen : Seen) (whole : List ℕ) → EndsPattern seen bits → EndsWhole bits whole → ⊥
never-together bits seen whole p w = false≢true (sym (flag-last bits w.closes.closing) ∙ pattern-last seen bits p)

pub record EarLaws : Type 0 where
  pub pattern : (bits : List Bool) (one other : Seen) → EndsPattern one bits → EndsPattern other bits → one ≡ other
  pub lent : (bits : List Bool) (octets : List ℕ) → IsLent bits octets → octets ≡ lent_of bits
  pub frame : (check : Check) (frame other : Frame) (sender : Role) (dlci : ℕ) (whole : List ℕ)
      → SpellsFrame check sender dlci whole frame → SpellsFrame check sender dlci whole other → frame ≡ other

one-ends : EarLaws → (peer : Role) (bits : List Bool) (a b : Arrived) → EndsWith peer bits a → EndsWith peer bits b → a ≡ b
one-ends laws peer bits arrivals.Nothing b h k = absurd h
one-ends laws peer bits (arrivals.Pattern s) arrivals.Nothing h k = absurd k
one-ends laws peer bits (arrivals.Frame f) arrivals.Nothing h k = absurd k
one-ends laws peer bits (arrivals.Pattern s) (arrivals.Pattern t) h k = ap (λ x. arrivals.Pattern x) (laws.pattern bits s t h k)
one-ends laws peer bits (arrivals.Pattern s) (arrivals.Frame g) h k = absurd (never-together bits s k.0 h k.1)
one-ends laws peer bits (arrivals.Frame f) (arrivals.Pattern t) h k = absurd (never-together bits t h.0 k h.1)
one-ends laws peer bits (arrivals.Frame f) (arrivals.Frame g) h k =
    let same : h.0 ≡ k.0 = laws.lent bits h.0 (inl h.1) ∙ sym (laws.lent bits k.0 (inl k.1)) in
    let here : SpellsFrame Sixteen peer 0 k.0 f = subst (λ (o : List ℕ). SpellsFrame Sixteen peer 0 o f) same h.2 in
    ap (λ x. arrivals.Frame x) (laws.frame Sixteen f g peer 0 k.0 here k.2)

-- ---- what is heard first

first-here : (peer : Role) (earlier bits : List Bool) (a : Arrived) (f : IsFirst peer earlier bits a)
    → EndsWith peer (earlier ++ take (length f.quiet + 1) bits) a
first-here peer earlier bits a f =
    let upto : take (length f.quiet + 1) bits ≡ f.quiet ++ f.last ∷ [] = front f.quiet f.last f.rest bits f.bits_are in
    subst (λ (b : List Bool). EndsWith peer b a) (append_assoc earlier f.quiet (f.last ∷ []) ∙ ap (λ b. earlier ++ b) (sym upto)) f.ends
  where
    front : (quiet : List Bool) (last : Bool) (rest bits : List Bool) → bits ≡ quiet ++ last ∷ rest
        → take (length quiet + 1) bits ≡ quiet ++ last ∷ []
    front quiet last rest bits e =
        let whole : bits ≡ (quiet ++ last ∷ []) ++ rest = e ∙ sym (append_assoc quiet (last ∷ []) rest) in
        let count : length quiet + 1 ≡ length (quiet ++ last ∷ []) = omega (arith, length-append quiet (last ∷ [])) in
        ap (λ n. take n bits) count ∙ ap (take (length (quiet ++ last ∷ []))) whole ∙ take-append_seam (quiet ++ last ∷ []) rest

first-within : (peer : Role) (earlier bits : List Bool) (a : Arrived) (f : IsFirst peer earlier bits a) → length f.quiet < length bits
first-within peer earlier bits a f = omega (arith, ap length f.bits_are, length-append f.quiet (f.last ∷ f.rest))

quiet-before : (peer : Role) (earlier bits : List Bool) (a : Arrived) (f : IsFirst peer earlier bits a) (n : ℕ) → n < length f.quiet
    → IsQuiet peer (earlier ++ take (n + 1) bits)
quiet-before peer earlier bits a f n less = grind (arith, take-append-le)

one-first : EarLaws → (peer : Role) (earlier bits : List Bool) (a b : Arrived) → IsFirst peer earlier bits a → IsFirst peer earlier bits b
    → a ≡ b
one-first laws peer earlier bits a b f g = elim (cases_lt (length f.quiet) (length g.quiet)) [
  | inl less ↦ absurd (quiet-before peer earlier bits b g (length f.quiet) less a (first-here peer earlier bits a f))
  | inr more ↦ elim (cases_lt (length g.quiet) (length f.quiet)) [
    | inl less ↦ absurd (quiet-before peer earlier bits a f (length g.quiet) less b (first-here peer earlier bits b g))
    | inr most ↦
        let same : length f.quiet ≡ length g.quiet = omega (arith, more, most) in
        let here : EndsWith peer (earlier ++ take (length g.quiet + 1) bits) a =
        subst (λ n. EndsWith peer (earlier ++ take (n + 1) bits) a) same (first-here peer earlier bits a f) in
        one-ends laws peer (earlier ++ take (length g.quiet + 1) bits) a b here (first-here peer earlier bits b g)
  ]
]

never-quiet : (peer : Role) (earlier bits : List Bool) (a : Arrived) → AreQuiet peer earlier bits → IsFirst peer earlier bits a → ⊥
never-quiet peer earlier bits a q f = q (length f.quiet) (first-within peer earlier bits a f) a (first-here peer earlier bits a f)

pub one-heard : EarLaws → OneIsHeard
one-heard laws peer earlier bits given given2 h k = grind (arith, never-quiet, one-first)

-- ---- the turns so far

same-arrived : OneIsHeard → (peer : Role) (slots : List (List ℕ)) (ts us : List LoneTurn) → HearsSlots peer slots ts
    → HearsSlots peer slots us → map (λ (t : LoneTurn). t.arrived) ts ≡ map (λ (t : LoneTurn). t.arrived) us
same-arrived one peer [] [] [] h k = refl
same-arrived one peer [] [] (u ∷ us) h k = absurd k
same-arrived one peer [] (t ∷ ts) us h k = absurd h
same-arrived one peer (slot ∷ slots) [] us h k = absurd h
same-arrived one peer (slot ∷ slots) (t ∷ ts) [] h k = absurd k
same-arrived one peer (slot ∷ slots) (t ∷ ts) (u ∷ us) h k =
    ap (λ a. a ∷ map (λ (x : LoneTurn). x.arrived) ts) (one peer (stream slots) (slot_bits slot) t.arrived u.arrived h.0 k.0)
    ∙ ap (λ l. u.arrived ∷ l) (same-arrived one peer slots ts us h.1 k.1)

pub one-run : OneIsHeard → OneLoneRun → OnePeerRun
one-run one lone role p q h k file slots = grind (arith, same-arrived)

-- ---- the next turn, as a function of what arrives

pub record Made : Type 0 where
  pub turn : LoneTurn
  pub octets : List ℕ
  pub outcome : Outcome

abbrev silent : Arrived → Option ℕ → LoneTurn
silent arrived given = record { arrived = arrived; sent = None; given = given }

abbrev spoke : Arrived → Account → Result Said LinkFault → Made
spoke arrived mid (Ok said) = record {
  turn = record { arrived = arrived; sent = Some (spoken said); given = given_break mid };
  octets = concat (deliveries mid);
  outcome = Going;
}
spoke arrived mid (Err fault) =
    record { turn = silent arrived (given_break mid); octets = concat (deliveries mid); outcome = Broken fault }

abbrev served : Party → ℕ → Arrived → Account → Bool → Made
served party n arrived mid true =
    record { turn = silent arrived (given_break mid); octets = concat (deliveries mid); outcome = Closed }
served party n arrived mid false = spoke arrived mid (speaks_alone party.user n (lone_served party n mid))

abbrev heard : Party → ℕ → Arrived → Result Account LinkFault → Made
heard party n arrived (Ok mid) = served party n arrived mid (hangs_up mid)
heard party n arrived (Err fault) = record { turn = silent arrived None; octets = []; outcome = Broken fault }

abbrev made-of : Party → ℕ → Account → Arrived → Made
made-of party n a arrived = heard party n arrived (hear n arrived a)

abbrev made : LoneTurn → List ℕ → Outcome → Made
made turn octets outcome = record { turn = turn; octets = octets; outcome = outcome }

made-so : (party : Party) (ts : List LoneTurn) (a : Account) (t : LoneTurn) (octets : List ℕ) (outcome : Outcome)
    → TurnIs party ts a t octets outcome → made t octets outcome ≡ made-of party (length ts) a t.arrived
made-so party ts a t octets outcome given = grind (arith)

pub one-turn : OneIsHeard → OnePeerTurn
one-turn one role p slot t u octets others outcome other-outcome h k = grind (arith, made-so)

-- ---- when an end gives its link up

pub hearing-breaks : HearingBreaks
hearing-breaks role p slot t octets outcome fault h e = grind (arith, hears-peers)

wants-by : (role : Role) (p : Past) (t : LoneTurn) (mid : Account) (fault : LinkFault)
    → LoneBroken (party_of role p.file) p.turns p.account t mid fault → IsPeers fault → ⊥
wants-by role p t mid fault b =
    let s = lone_served (party_of role p.file) (length p.turns) mid in
    speaks-wants (length p.turns) (has_finished (party_of role p.file).user (length p.turns) s.account) s.account fault b.says

pub peers-heard : PeersFaultsAreHeard
peers-heard role p slot t octets fault h peers = elim h.is [
  | inl f ↦ f.0.hears
  | inr b ↦ absurd (wants-by role p t b.0 fault b.1 peers)
]

pub others-wants : OtherFaultsAreWants
others-wants role p slot t octets fault h none = grind (arith, hears-peers)
