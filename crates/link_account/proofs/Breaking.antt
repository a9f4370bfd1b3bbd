-- The breaks of one end, what the other was given, and their words on both lines.
use Rattle.link_account.proofs.Names.{◌≡◌, ℕ, ◌+◌, ◌-◌, ◌%◌, ◌<◌, ◌≤◌, ◌≢◌, ◌&&◌, Bool, true, false, cond, nat_eq, nat_lt, nat_le, List, []}
use Rattle.link_account.proofs.Names.{◌∷◌, ◌++◌, length, take, slice_index_or, arith, length-append, refl, sym, ◌∙◌, ap, Option, Some, None}
use Rattle.link_account.proofs.Names.{false≢true, ltb-false, eqb-false, common_steps, take-append-le, take_more, AllByRecursion, OwnBreaks}
use Rattle.link_account.proofs.Names.{TheirBreaks, after_ack, after_answer, after_ask, after_break, after_brk, ticked, with_given}
use Rattle.link_account.proofs.Names.{BreakWord, Ack, Brk, eqb-true}
use Rattle.std.proofs.Common.{not}
use Rattle.link_account.proofs.Flow.{all_weaker, all_both, all_snoc}

-- a BRK and a BRKACK on the line, with the place of the break among those taken
pub record BrkOn : Type 0 where
  pub place : ℕ
  pub number : ℕ
  pub length_octet : ℕ

pub record AckOn : Type 0 where
  pub place : ℕ
  pub number : ℕ

abbrev pub BrksInOrder : List BrkOn → Type 0
BrksInOrder [] = Unit {0}
BrksInOrder (b ∷ rest) = AllByRecursion (λ c. b.place ≤ c.place) rest × BrksInOrder rest

abbrev pub AcksInOrder : List AckOn → Type 0
AcksInOrder [] = Unit {0}
AcksInOrder (b ∷ rest) = AllByRecursion (λ c. b.place ≤ c.place) rest × AcksInOrder rest

pub record IsBrk (lengths : List ℕ) (answered given : ℕ) (e : BrkOn) : Type 0 where
  pub within : e.place < length lengths
  pub low : given ≤ e.place + 1
  pub high : e.place ≤ answered
  pub number : e.number ≡ e.place % 2
  pub is : e.length_octet ≡ slice_index_or lengths e.place 0

pub record IsAck (answered given : ℕ) (e : AckOn) : Type 0 where
  pub high : e.place + 1 ≤ given
  pub low : answered ≤ e.place + 1
  pub number : e.number ≡ e.place % 2

-- the answer that is due is to the last break that was given
abbrev pub IsPending : ℕ → Option BreakWord → Type 0
IsPending given None = Unit {0}
IsPending given (Some (Ack number length_octet)) = (1 ≤ given) × (number ≡ (given - 1) % 2)
IsPending given (Some (Brk number length_octet)) = ⊥

-- The parts of what holds, each over what it speaks of: what doesn't change is handed on whole.

-- what is answered, given and taken, in this order, and one break at a time
pub record AreGiven (lengths : List ℕ) (answered : ℕ) (given : List ℕ) : Type 0 where
  pub low : answered ≤ length given
  pub high : length given ≤ answered + 1
  pub taken : length given ≤ length lengths
  pub waits_low : answered ≤ length lengths
  pub waits_high : length lengths ≤ answered + 1
  pub is : given ≡ take (length given) lengths

pub record AreBrks (lengths : List ℕ) (answered given : ℕ) (brks : List BrkOn) : Type 0 where
  pub each : AllByRecursion (IsBrk lengths answered given) brks
  pub in_order : BrksInOrder brks

pub record AreAcks (answered given : ℕ) (acks : List AckOn) : Type 0 where
  pub each : AllByRecursion (IsAck answered given) acks
  pub in_order : AcksInOrder acks

-- breaks of one end, what the other was given, and both kinds of words on the lines
pub record BreaksGo (lengths : List ℕ) (answered : ℕ) (brk : Bool) (given : List ℕ) (ack : Option BreakWord) (forward : List BrkOn)
    (back : List AckOn) : Type 0 where
  pub given_are : AreGiven lengths answered given
  pub due : brk ≡ true → answered < length lengths
  pub pending : IsPending (length given) ack
  pub brks : AreBrks lengths answered (length given) forward
  pub acks : AreAcks answered (length given) back

abbrev pub Go : OwnBreaks → TheirBreaks → List BrkOn → List AckOn → Type 0
Go b t brks acks = BreaksGo b.lengths b.answered b.brk t.lengths t.ack brks acks

brks-snoc : (xs : List BrkOn) (y : BrkOn) → BrksInOrder xs → AllByRecursion (λ r. r.place ≤ y.place) xs → BrksInOrder (xs ++ y ∷ [])
brks-snoc [] y h each = (tt, tt)
brks-snoc (x ∷ xs) y h each = (all_snoc (λ t. x.place ≤ t.place) xs y h.0 each.0, brks-snoc xs y h.1 each.1)

acks-snoc : (xs : List AckOn) (y : AckOn) → AcksInOrder xs → AllByRecursion (λ r. r.place ≤ y.place) xs → AcksInOrder (xs ++ y ∷ [])
acks-snoc [] y h each = (tt, tt)
acks-snoc (x ∷ xs) y h each = (all_snoc (λ t. x.place ≤ t.place) xs y h.0 each.0, acks-snoc xs y h.1 each.1)

number-append : (lengths : List ℕ) (l n : ℕ) → n < length lengths → slice_index_or (lengths ++ l ∷ []) n 0 ≡ slice_index_or lengths n 0
number-append lengths l n h = grind (arith, common_steps)

-- a break is taken
pub go-asked : (b : OwnBreaks) (t : TheirBreaks) (brks : List BrkOn) (acks : List AckOn) (turn l : ℕ) → Go b t brks acks
    → Go (after_ask turn l b) t brks acks
go-asked b t brks acks turn l h = go (nat_lt b.answered (length b.lengths)) refl (nat_le b.rest turn)
  where
    more : length b.lengths ≤ b.answered → Go (record b { lengths = b.lengths ++ l ∷ []; brk = true; set = turn; count = 0 }) t brks acks
    more none = grind (arith, length-append, take-append-le, all_weaker, number-append)

    go : (w : Bool) → nat_lt b.answered (length b.lengths) ≡ w → (r : Bool)
        → Go (cond (not w && r) (record b { lengths = b.lengths ++ l ∷ []; brk = true; set = turn; count = 0 }) b) t brks acks
    go w e r = grind (arith, more, ltb-false)

-- whether a BRK is due changes
abbrev pub OnTicked : TheirBreaks → List BrkOn → List AckOn → Option OwnBreaks → Type 0
OnTicked t brks acks None = Unit {0}
OnTicked t brks acks (Some b) = Go b t brks acks

pub go-ticked : (b : OwnBreaks) (t : TheirBreaks) (brks : List BrkOn) (acks : List AckOn) (turn period tries : ℕ) → Go b t brks acks
    → OnTicked t brks acks (ticked turn period tries b)
go-ticked b t brks acks turn period tries h = grind (arith)

-- a BRK goes on the line
pub go-brk : (b : OwnBreaks) (t : TheirBreaks) (brks : List BrkOn) (acks : List AckOn) → b.brk ≡ true → Go b t brks acks
    → Go (after_brk b) t (brks
    ++ (record { place = b.answered; number = b.answered % 2; length_octet = slice_index_or b.lengths b.answered 0 }) ∷ []) acks
go-brk b t brks acks e h = record {
  given_are = h.given_are;
  due = λ z. absurd (false≢true z);
  pending = h.pending;
  brks = record {
    each = all_snoc (IsBrk b.lengths b.answered (length t.lengths)) brks new h.brks.each
        (record { within = h.due e; low = h.given_are.high; high = omega arith; number = refl; is = refl });
    in_order = brks-snoc brks new h.brks.in_order
        (all_weaker (IsBrk b.lengths b.answered (length t.lengths)) (λ r. r.place ≤ b.answered) brks (λ r o. o.high) h.brks.each);
  };
  acks = h.acks;
}
  where
    new : BrkOn
    new = record { place = b.answered; number = b.answered % 2; length_octet = slice_index_or b.lengths b.answered 0 }

-- a BRKACK goes on the line
pub go-ack : (b : OwnBreaks) (t : TheirBreaks) (brks : List BrkOn) (acks : List AckOn) (number length_octet : ℕ)
    → t.ack ≡ Some (Ack number length_octet) → Go b t brks acks
    → Go b (after_ack t) brks (acks ++ (record { place = length t.lengths - 1; number = number }) ∷ [])
go-ack b t brks acks number length_octet e h = grind (arith, all_snoc, acks-snoc, all_weaker)

-- words are lost, or pass unheard
pub go-ack-lost : (b : OwnBreaks) (t : TheirBreaks) (e : AckOn) (brks : List BrkOn) (acks : List AckOn) → Go b t brks (e ∷ acks)
    → Go b t brks acks
go-ack-lost b t e brks acks h = grind (arith)

-- a BRK is heard
pub go-brk-heard : (b : OwnBreaks) (t : TheirBreaks) (place number length_octet : ℕ) (brks : List BrkOn) (acks : List AckOn)
    → Go b t ((record { place = place; number = number; length_octet = length_octet }) ∷ brks) acks
    → Go b (after_break number length_octet t) brks acks
go-brk-heard b t place number length_octet brks acks h = go (nat_eq number (length t.lengths % 2)) refl
  where
    same_place : number ≡ length t.lengths % 2 → place ≡ length t.lengths
    same_place e = omega (arith, e, h.brks.each.0.number, h.brks.each.0.low, h.brks.each.0.high, h.given_are.low)

    other_place : number ≢ length t.lengths % 2 → place + 1 ≡ length t.lengths
    other_place e = grind (arith, place)

    given : place ≡ length t.lengths
        → BreaksGo b.lengths b.answered b.brk (t.lengths ++ length_octet ∷ []) (Some (Ack number length_octet)) brks acks
    given e =
        let longer : length (t.lengths ++ length_octet ∷ []) ≡ length t.lengths + 1 = omega (arith, length-append {A = ℕ}) in
        let within : length t.lengths < length b.lengths = omega (arith, h.brks.each.0.within, e) in
        let less : (length t.lengths + 1) - 1 ≡ place = omega (arith, e) in
        record {
          given_are = record {
            low = omega (arith, h.given_are.low, longer);
            high = omega (arith, h.brks.each.0.high, e, longer);
            taken = omega (arith, within, longer);
            waits_low = h.given_are.waits_low;
            waits_high = h.given_are.waits_high;
            is = rw (longer, take_more b.lengths (length t.lengths) 0 within, ← h.given_are.is)
                (ap (λ x. t.lengths ++ x ∷ []) (h.brks.each.0.is ∙ ap (λ m. slice_index_or b.lengths m 0) e));
          };
          due = h.due;
          pending = (omega (arith, longer), h.brks.each.0.number ∙ ap (λ m. m % 2) (sym (ap (λ m. m - 1) longer ∙ less)));
          brks = record {
            each = all_both (IsBrk b.lengths b.answered (length t.lengths)) (λ c. place ≤ c.place)
                (IsBrk b.lengths b.answered (length (t.lengths ++ length_octet ∷ []))) brks
                (λ c o q. record { within = o.within; low = omega (arith, q, e, longer); high = o.high; number = o.number; is = o.is })
                h.brks.each.1 h.brks.in_order.0;
            in_order = h.brks.in_order.1;
          };
          acks = record {
            each = all_weaker (IsAck b.answered (length t.lengths)) (IsAck b.answered (length (t.lengths ++ length_octet ∷ []))) acks
                (λ c o. record { high = omega (arith, o.high, longer); low = o.low; number = o.number }) h.acks.each;
            in_order = h.acks.in_order;
          };
        }

    again : place + 1 ≡ length t.lengths → BreaksGo b.lengths b.answered b.brk t.lengths (Some (Ack number length_octet)) brks acks
    again e = grind (arith)

    go : (w : Bool) → nat_eq number (length t.lengths % 2) ≡ w
        → BreaksGo b.lengths b.answered b.brk (with_given (cond w (Some length_octet) None) t.lengths)
        (Some (Ack number length_octet)) brks acks
    go true e = given (same_place (eqb-true number (length t.lengths % 2) e))
    go false e = again (other_place (eqb-false number (length t.lengths % 2) e))

-- a BRKACK is heard
pub go-ack-heard : (b : OwnBreaks) (t : TheirBreaks) (turn place number : ℕ) (brks : List BrkOn) (acks : List AckOn)
    → Go b t brks ((record { place = place; number = number }) ∷ acks) → Go (after_answer turn number b) t brks acks
go-ack-heard b t turn place number brks acks h = go (nat_lt b.answered (length b.lengths)) refl (nat_eq number (b.answered % 2)) refl
  where
    ended : number ≡ b.answered % 2 → Go (record b { answered = b.answered + 1; brk = false; count = 0; rest = turn + 8 }) t brks acks
    ended e = grind (arith, place, all_weaker, all_both)

    go : (w : Bool) → nat_lt b.answered (length b.lengths) ≡ w → (c : Bool) → nat_eq number (b.answered % 2) ≡ c
        → Go (cond (w && c) (record b { answered = b.answered + 1; brk = false; count = 0; rest = turn + 8 }) b) t brks acks
    go true e true f = ended (eqb-true number (b.answered % 2) f)
    go true e false f = go-ack-lost b t (record { place = place; number = number }) brks acks h
    go false e c f = go-ack-lost b t (record { place = place; number = number }) brks acks h
