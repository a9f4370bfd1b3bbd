-- The flag that is open, at one more bit.
use Rattle.std.proofs.lemmas.List.{length_push}
use Rattle.bit_stuffing.proofs.Names.{◌≡◌, ◌≢◌, ℕ, ◌+◌, ◌-◌, ◌<◌, ◌≤◌, inl, inr, Bool, true, false, List, [], ◌∷◌, ◌++◌, length, arith}
use Rattle.bit_stuffing.proofs.Names.{min, Some, None, IsTrue, nat_eq, cases_lt, eq-eqb, CountsSince, bit_of, FlagEndsAt}
use Rattle.bit_stuffing.proofs.Names.{SevenOnesEndAt, OpenedAt, IsFar, IsNear, Aborts, Closes}
use Rattle.bit_stuffing.proofs.Places.{bit-before, flag-stays, flag-was, seven-was, seven-stays, flag_or_seven}

-- only one flag is the latest
pub opened-once : (bits : List Bool) (p q : ℕ) → OpenedAt bits p → OpenedAt bits q → p ≡ q
opened-once bits p q a b =
    elim (cases_lt p q) [
      | inl l ↦ absurd (a.latest q l b.flag_ends)
      | inr l ↦
          elim (cases_lt q p) [ inl m ↦ absurd (b.latest p m a.flag_ends) | inr m ↦ omega arith ]
    ]

-- what was opened stays so, unless a flag or seven ones end
pub opened-stays : (bits : List Bool) (b : Bool) (p : ℕ) → OpenedAt bits p → (FlagEndsAt (bits ++ b ∷ []) (length bits + 1) → ⊥)
    → (SevenOnesEndAt (bits ++ b ∷ []) (length bits + 1) → ⊥) → OpenedAt (bits ++ b ∷ []) p
opened-stays bits b p h no_flag no_seven = record {
  flag_ends = flag-stays bits b p h.flag_ends;
  latest = λ q above f. elim (cases_lt (length bits) q) [
    | inl l ↦ let e : q ≡ length bits + 1 = omega (arith, f.within, length_push bits b) in no_flag (rw e at f)
    | inr l ↦ h.latest q above (flag-was bits b q l f)
  ];
  alive = λ q above s. elim (cases_lt (length bits) q) [
    | inl l ↦ let e : q ≡ length bits + 1 = omega (arith, s.within, length_push bits b) in no_seven (rw e at s)
    | inr l ↦ h.alive q above (seven-was bits b q l s)
  ];
}

pub opened-was : (bits : List Bool) (b : Bool) (p : ℕ) → p ≤ length bits → OpenedAt (bits ++ b ∷ []) p → OpenedAt bits p
opened-was bits b p within h = record {
  flag_ends = flag-was bits b p within h.flag_ends;
  latest = λ q above f. h.latest q above (flag-stays bits b q f);
  alive = λ q above s. h.alive q above (seven-stays bits b q s);
}

-- a flag opens
pub opened-by_flag : (bits : List Bool) (b : Bool) → FlagEndsAt (bits ++ b ∷ []) (length bits + 1)
    → OpenedAt (bits ++ b ∷ []) (length bits + 1)
opened-by_flag bits b f = record {
  flag_ends = f;
  latest = λ q above g. absurd (omega (arith, g.within, length_push bits b));
  alive = λ q above s. absurd (omega (arith, s.within, length_push bits b));
}

pub before_open : (bits : List Bool) (p : ℕ) → OpenedAt bits p → bit_of bits (p - 1) ≡ false
before_open bits p o = let e : p - 8 + 7 ≡ p - 1 = omega (arith, o.flag_ends.room) in rw e at (o.flag_ends.spelled 7 (omega arith))

-- seven ones end behind the flag that opened
pub seven_behind : (bits : List Bool) (b : Bool) (p : ℕ) → OpenedAt bits p → SevenOnesEndAt (bits ++ b ∷ []) (length bits + 1)
    → p + 7 ≤ length bits + 1
seven_behind bits b p o s = elim (cases_lt (length bits + 1) (p + 7)) [ inl near ↦ absurd (too_near near) | inr far ↦ far ]
  where
    too_near : length bits + 1 < p + 7 → ⊥
    too_near near =
        let place : length bits + 1 - 7 + (p + 5 - length bits) ≡ p - 1 = omega (arith, s.room, o.flag_ends.room, o.flag_ends.within) in
        let set = s.ones (p + 5 - length bits) (omega (arith, o.flag_ends.within, o.flag_ends.room)) in
        let here : bit_of (bits ++ b ∷ []) (p - 1) ≡ true = rw place at set in grind (arith, bit-before, before_open)

pub at_end : (bits : List Bool) (b : Bool) → FlagEndsAt (bits ++ b ∷ []) (length (bits ++ b ∷ []))
    → FlagEndsAt (bits ++ b ∷ []) (length bits + 1)
at_end bits b f = let e = length_push bits b in rw e at f

pub seven_at_end : (bits : List Bool) (b : Bool) → SevenOnesEndAt (bits ++ b ∷ []) (length (bits ++ b ∷ []))
    → SevenOnesEndAt (bits ++ b ∷ []) (length bits + 1)
seven_at_end bits b f = let e = length_push bits b in rw e at f

pub from_end : (bits : List Bool) (b : Bool) → FlagEndsAt (bits ++ b ∷ []) (length bits + 1)
    → FlagEndsAt (bits ++ b ∷ []) (length (bits ++ b ∷ []))
from_end bits b f = rw (length_push bits b) f

pub seven_from_end : (bits : List Bool) (b : Bool) → SevenOnesEndAt (bits ++ b ∷ []) (length bits + 1)
    → SevenOnesEndAt (bits ++ b ∷ []) (length (bits ++ b ∷ []))
seven_from_end bits b f = rw (length_push bits b) f

-- behind an open flag there are seven bits at least
pub room-open : (bits : List Bool) (b : Bool) (count : ℕ) → CountsSince (Some count) bits → 7 ≤ length (bits ++ b ∷ [])
room-open bits b count s = omega (arith, s.1.flag_ends.room, s.1.flag_ends.within, length_push bits b)

-- nothing was open, and no flag ends: nothing is open
pub shut-stays : (bits : List Bool) (b : Bool) → (FlagEndsAt (bits ++ b ∷ []) (length bits + 1) → ⊥) → CountsSince None bits
    → CountsSince None (bits ++ b ∷ [])
shut-stays bits b no_flag shut p o = elim (cases_lt (length bits) p) [
  | inl l ↦ let e : p ≡ length bits + 1 = omega (arith, o.flag_ends.within, length_push bits b) in no_flag (rw e at o.flag_ends)
  | inr l ↦ shut p (opened-was bits b p l o)
]

-- a flag ends at the bit
module _ (bits : List Bool) (b : Bool) (f : FlagEndsAt (bits ++ b ∷ []) (length bits + 1)) where
  pub flag-opens : CountsSince (Some 0) (bits ++ b ∷ [])
  flag-opens = (length bits + 1, opened-by_flag bits b f, omega (arith, length_push bits b))

  pub flag-closes : IsFar bits → Closes bits (bits ++ b ∷ [])
  flag-closes far = record {
    opened = far.opened;
    is_opened = far.is_opened;
    closing = rw (length_push bits b) f;
    some = omega (arith, far.far, length_push bits b);
  }

  no_abort : Aborts bits (bits ++ b ∷ []) → ⊥
  no_abort a = flag_or_seven (bits ++ b ∷ []) (length bits + 1) f (seven_at_end bits b a.seventh)

  pub flag-near : IsNear bits → (Aborts bits (bits ++ b ∷ []) → ⊥) × (Closes bits (bits ++ b ∷ []) → ⊥)
  flag-near near = (no_abort, λ c. let some = c.some in absurd (omega (arith, near c.opened c.is_opened, length_push bits b)))

-- seven ones end at the bit
module _ (bits : List Bool) (b : Bool) (s : SevenOnesEndAt (bits ++ b ∷ []) (length bits + 1)) where
  pub seven-aborts : (count : ℕ) → CountsSince (Some count) bits → Aborts bits (bits ++ b ∷ [])
  seven-aborts count k = record { opened = k.0; is_opened = k.1; seventh = rw (length_push bits b) s }

  pub seven-shuts : CountsSince None (bits ++ b ∷ [])
  seven-shuts p o = elim (cases_lt (length bits) p) [
    | inl l ↦ let e : p ≡ length bits + 1 = omega (arith, o.flag_ends.within, length_push bits b) in
        flag_or_seven (bits ++ b ∷ []) (length bits + 1) (rw e at o.flag_ends) s
    | inr l ↦ o.alive (length bits + 1) (seven_behind bits b p (opened-was bits b p l o) s) s
  ]

-- neither ends at the bit
module _ (bits : List Bool) (b : Bool) (no_flag : FlagEndsAt (bits ++ b ∷ []) (length bits + 1) → ⊥)
    (no_seven : SevenOnesEndAt (bits ++ b ∷ []) (length bits + 1) → ⊥) where
  pub quiet : (Aborts bits (bits ++ b ∷ []) → ⊥) × (Closes bits (bits ++ b ∷ []) → ⊥)
  quiet = (λ a. no_seven (seven_at_end bits b a.seventh), λ c. no_flag (at_end bits b c.closing))

  pub counts-more : (count : ℕ) → CountsSince (Some count) bits → CountsSince (Some (min count 7 + 1)) (bits ++ b ∷ [])
  counts-more count s = (s.0, opened-stays bits b s.0 s.1 no_flag no_seven, omega (arith, s.2, s.1.flag_ends.within, length_push bits b))

-- nothing is open
pub shut-quiet : (bits : List Bool) (b : Bool) → CountsSince None bits
    → (Aborts bits (bits ++ b ∷ []) → ⊥) × (Closes bits (bits ++ b ∷ []) → ⊥)
shut-quiet bits b s = (λ a. s a.opened a.is_opened, λ c. s c.opened c.is_opened)

-- whether eight bits or more stand behind the flag that is open
pub is_far : (bits : List Bool) (count : ℕ) → count ≡ 8 → CountsSince (Some count) bits → IsFar bits
is_far bits count eight s = record { opened = s.0; is_opened = s.1; far = omega (arith, s.2) }

pub is_near : (bits : List Bool) (count : ℕ) → (IsTrue (nat_eq count 8) → ⊥) → CountsSince (Some count) bits → IsNear bits
is_near bits count isnt s p o =
    let other : count ≢ 8 = λ e. isnt (eq-eqb count 8 e) in
    omega (arith, s.2, opened-once bits p s.0 o s.1)
