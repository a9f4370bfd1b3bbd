use Rattle.turn_bound.proofs.Names.{◌≡◌, ℕ, ◌+◌, ◌*◌, ◌≤◌, Bool, List, [], ◌∷◌, ◌++◌, length, arith, refl, AllByRecursion, Arrived, Slot}
use Rattle.turn_bound.proofs.Names.{is_busy, BusyLine, busy_left, busy_turns}
use Rattle.link_account.proofs.Names.{Account}
use Rattle.turn_bound.proofs.Value.{one_if, weight, rnrs, arrived_weight, arrived_rnrs, dues, two_if, four_if}
use Rattle.turn_bound.proofs.Run.{arrival, left_on, weights, rnrs_on}

abbrev pub IsLight : Slot → Type 0
IsLight slot = weight slot.sent ≤ 2

abbrev pub AllLight : List Slot → Type 0
AllLight line = AllByRecursion {X = Slot} IsLight line

-- what arrives of a line leaves it
pub record Arrives (delay : ℕ) (line rest : List Slot) (arrived : Arrived) : Type 0 where
  pub weighs : weights rest + arrived_weight arrived ≤ weights line
  pub rnrs : rnrs_on rest + arrived_rnrs arrived ≤ rnrs_on line
  pub fits : length line ≤ delay → 1 ≤ delay → length rest + 1 ≤ delay
  pub light : AllLight line → AllLight rest

pub arrived-well : (delay : ℕ) (loses : Bool) (line : List Slot) → Arrives delay line (left_on delay line) (arrival delay loses line)
arrived-well delay loses [] = record { weighs = omega arith; rnrs = omega arith; fits = λ h k. omega (arith, k); light = λ h. h }
arrived-well delay loses (slot ∷ rest) = grind (arith)

pub weights-snoc : (line : List Slot) (slot : Slot) → weights (line ++ slot ∷ []) ≡ weights line + weight slot.sent
weights-snoc [] slot = omega arith
weights-snoc (s ∷ line) slot = omega (arith, weights-snoc line slot)

pub rnrs-snoc : (line : List Slot) (slot : Slot) → rnrs_on (line ++ slot ∷ []) ≡ rnrs_on line + rnrs slot.sent
rnrs-snoc [] slot = omega arith
rnrs-snoc (s ∷ line) slot = omega (arith, rnrs-snoc line slot)

pub light-snoc : (line : List Slot) (slot : Slot) → AllLight line → IsLight slot → AllLight (line ++ slot ∷ [])
light-snoc [] slot h k = (k, tt)
light-snoc (s ∷ line) slot h k = (h.0, light-snoc line slot h.1 k)

pub weights-most : (line : List Slot) → AllLight line → weights line ≤ 2 * length line
weights-most [] h = omega arith
weights-most (s ∷ line) h = omega (arith, h.0, weights-most line h.1)

two-most : (b : Bool) → two_if b ≤ 2
two-most b = grind (arith)

four-most : (b : Bool) → four_if b ≤ 4
four-most b = grind (arith)

pub one-most : (b : Bool) → one_if b ≤ 1
one-most b = grind (arith)

pub dues-most : (total : ℕ) (a : Account) → dues total a ≤ 15
dues-most total a = grind (arith, two-most, four-most, one-most)

-- a busy turn is one fewer to come
pub busy-falls : (turn : ℕ) (lines : List BusyLine) → busy_left (turn + 1) lines + one_if (is_busy turn lines) ≤ busy_left turn lines
busy-falls turn [] = omega arith
busy-falls turn (l ∷ ls) = grind (arith, busy-falls turn ls)

pub busy-start : (lines : List BusyLine) → busy_left 0 lines ≡ busy_turns lines
busy-start [] = refl
busy-start (l ∷ ls) = omega (arith, busy-start ls)
