-- A role, a file and octets have one result at most.
use Rattle.run_commands.proofs.Names.{◌≡◌, ◌≢◌, ◌∙◌, inl, inr, ℕ, ◌+◌, ◌<◌, List, [], ◌∷◌, length, refl, sym, ap, subst, arith, cases_lt}
use Rattle.run_commands.proofs.Names.{LoneTurn, OneResult, PeerEnd, IsDone, GivesUp, MakesTurn, RunsTo, left_after, slot_at, slots_before}
use Rattle.run_commands.proofs.Names.{other, Role, Past, PeerTurn, Outcome, Going, Closed, Broken, party_of}
use Rattle.link_account.specs.Account.{Account}
use Rattle.link_run.specs.Alone.{LoneRun}
use Rattle.stations.specs.OneEnd.Peer.{HearsSlots}
use Rattle.stations.specs.OneEnd.Laws.{OnePeerRun, OnePeerTurn}
use Rattle.run_commands.specs.Peering.Runs.{Left, HearsAll, IsPast}

pub record RunLaws : Type 0 where
  pub run : OnePeerRun
  pub turn : OnePeerTurn

-- ---- what was before a turn

one-past : RunLaws → (role : Role) (file octets : List ℕ) (p q : Past) → IsPast role file octets p → IsPast role file octets q
    → length p.turns ≡ length q.turns → p ≡ q
one-past laws role file octets p q h k e = grind (arith)

-- the turn of that number in a longer run
record Cut (role : Role) (file octets : List ℕ) (n : ℕ) : Type 0 where
  past : Past
  is_past : IsPast role file octets past
  count : length past.turns ≡ n
  turn : LoneTurn
  given : List ℕ
  is : PeerTurn role past (slot_at octets (length past.turns)) turn given Going

cut-in : (role : Role) (file octets : List ℕ) (ts : List LoneTurn) (a : Account) (n : ℕ) → LoneRun (party_of role file) ts a
    → HearsSlots (other role) (slots_before octets (length ts)) ts → n < length ts → Cut role file octets n
cut-in role file octets [] a n h k less = absurd (omega (arith, less))
cut-in role file octets (t ∷ ts) a n h k less = elim (cases_lt n (length ts)) [
  | inl lower ↦ cut-in role file octets ts h.0 n h.1 k.1 lower
  | inr here ↦ record {
    past = record { file = file; slots = slots_before octets (length ts); turns = ts; account = h.0 };
    is_past = record { run = record { run = h.1; hears = k.1 }; file_is = refl; slots_are = refl };
    count = omega (arith, less, here);
    turn = t;
    given = _;
    is = record { run = record { run = h.1; hears = k.1 }; hears = k.0; is = (a, h.2, refl) };
  }
]

cut : (role : Role) (file octets : List ℕ) (p : Past) (n : ℕ) → IsPast role file octets p → n < length p.turns → Cut role file octets n
cut role file octets p n h less = grind (arith, cut-in, other)

-- ---- what a run comes to

abbrev number : Outcome → ℕ
number Going = 0
number Closed = 1
number (Broken fault) = 2

closed-not : Closed ≢ Going
closed-not z = omega (arith, ap number z)

broken-not : (fault : _) → Broken fault ≢ Going
broken-not fault z = omega (arith, ap number z)

-- a run that ends in a turn doesn't go on behind it
never-on : RunLaws → (role : Role) (file octets : List ℕ) (turn : ℕ) (outcome : Outcome) (left : Left) (q : Past)
    → MakesTurn role file octets turn outcome left → outcome ≢ Going → IsPast role file octets q → turn < length q.turns → ⊥
never-on laws role file octets turn outcome left q m not k less =
    let c = cut role file octets q turn k less in
    let same : c.past ≡ m.past = one-past laws role file octets c.past m.past c.is_past m.is_past (c.count ∙ m.turn_is) in
    let going : PeerTurn role m.past (slot_at octets (length m.past.turns)) c.turn c.given Going =
    subst (λ (p : Past). PeerTurn role p (slot_at octets (length p.turns)) c.turn c.given Going) same c.is in
    let made : PeerTurn role m.past (slot_at octets (length m.past.turns)) m.last m.given outcome =
    subst (λ n. PeerTurn role m.past (slot_at octets n) m.last m.given outcome) m.turn_is m.is in
    not (sym (laws.turn role m.past (slot_at octets (length m.past.turns)) c.turn m.last c.given m.given Going outcome going made).2)

-- all slots are heard in no run that ends in a turn
never-all : RunLaws → (role : Role) (file octets : List ℕ) (turns turn : ℕ) (outcome : Outcome) (left others : Left)
    → HearsAll role file octets turns left → MakesTurn role file octets turn outcome others → outcome ≢ Going → ⊥
never-all laws role file octets turns turn outcome left others h m not =
    never-on laws role file octets turn outcome others h.past m not h.is_past (omega (arith, h.turns_are, h.all, m.has_slot))

-- two last turns are one
record OneEnd (n m : ℕ) (outcome result : Outcome) (left others : Left) : Type 0 where
  turns : n ≡ m
  outcomes : outcome ≡ result
  lefts : left ≡ others

one-end : RunLaws → (role : Role) (file octets : List ℕ) (n m : ℕ) (outcome result : Outcome) (left others : Left)
    → MakesTurn role file octets n outcome left → MakesTurn role file octets m result others → outcome ≢ Going → result ≢ Going
    → OneEnd n m outcome result left others
one-end laws role file octets n m outcome result left others h k not never = elim (cases_lt n m) [
  | inl less ↦ absurd (never-on laws role file octets n outcome left k.past h not k.is_past (omega (arith, less, k.turn_is)))
  | inr more ↦ elim (cases_lt m n) [
    | inl less ↦ absurd (never-on laws role file octets m result others h.past k never h.is_past (omega (arith, less, h.turn_is)))
    | inr most ↦
        let turns : n ≡ m = omega (arith, more, most) in
        let same : h.past ≡ k.past = one-past laws role file octets h.past k.past h.is_past k.is_past (sym h.turn_is ∙ turns ∙ k.turn_is) in
        let here : PeerTurn role k.past (slot_at octets m) h.last h.given outcome =
        subst (λ x. PeerTurn role k.past (slot_at octets x) h.last h.given outcome) turns
        (subst (λ (p : Past). PeerTurn role p (slot_at octets n) h.last h.given outcome) same h.is) in
        let one = laws.turn role k.past (slot_at octets m) h.last k.last h.given k.given outcome result here k.is in
        record {
          turns = turns;
          outcomes = one.2;
          lefts = h.left_is ∙ ap (λ p. left_after role p h.last h.given) same ∙ ap (λ t. left_after role k.past t h.given) one.0
              ∙ ap (left_after role k.past k.last) one.1 ∙ sym k.left_is;
        }
  ]
]

-- ---- how a run ends

abbrev end_of : ℕ → Outcome → PeerEnd
end_of n Going = IsDone n
end_of n Closed = IsDone (n + 1)
end_of n (Broken fault) = GivesUp fault n

-- behind all slots, or in a turn
data Ended (role : Role) (file octets : List ℕ) (end : PeerEnd) (left : Left) : Type 0 where
  all : (turns : ℕ) → HearsAll role file octets turns left → end ≡ IsDone turns → Ended role file octets end left
  in_turn : (turn : ℕ) (outcome : Outcome) → MakesTurn role file octets turn outcome left → outcome ≢ Going → end ≡ end_of turn outcome
      → Ended role file octets end left

ended : (role : Role) (file octets : List ℕ) (end : PeerEnd) (left : Left) → RunsTo role file octets end left
    → Ended role file octets end left
ended role file octets (IsDone turns) left (inl h) = all turns h refl
ended role file octets (IsDone turns) left (inr (turn, e, m)) = in_turn turn Closed m closed-not (ap IsDone e)
ended role file octets (GivesUp fault turn) left m = in_turn turn (Broken fault) m (broken-not fault) refl

pub one-result : RunLaws → OneResult
one-result laws role file octets a b left others h k = by (ended role file octets a left h) (ended role file octets b others k)
  where
    by : Ended role file octets a left → Ended role file octets b others → (a ≡ b) × (left ≡ others)
    by (all turns x e) (all more y f) = grind (arith, one-past)
    by (all turns x e) (in_turn turn outcome m not f) = absurd (never-all laws role file octets turns turn outcome left others x m not)
    by (in_turn turn outcome m not e) (all turns y f) = absurd (never-all laws role file octets turns turn outcome others left y m not)
    by (in_turn n outcome x not e) (in_turn m result y never f) =
        let one = one-end laws role file octets n m outcome result left others x y not never in
        (e ∙ ap (λ z. end_of z outcome) one.turns ∙ ap (end_of m) one.outcomes ∙ sym f, one.lefts)
