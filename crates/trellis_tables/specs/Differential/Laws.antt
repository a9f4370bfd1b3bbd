-- Laws of differential coding, over all lists of numbers below 4.
use Rattle.std.specs.Prelude.{◌≡◌, ℕ, ◌+◌, ◌/◌, ◌%◌, ◌<◌, ◌≤◌, List, length, map, take, slice_index, All}
use Rattle.trellis_tables.specs.Differential.Turned.{turned, before, unturned}
use Rattle.trellis_tables.specs.Xor.{xor_ℕ, and_ℕ}

-- each number is a quarter turn below 4
abbrev pub AreTurns : List ℕ → Type 0
AreTurns q = All (λ n. n < 4) q

-- what was turned comes back
abbrev pub GivesBack : Type 0
GivesBack = (q : List ℕ) → AreTurns q → unturned (turned q) ≡ q

-- turning makes again what was turned back
abbrev pub TurnsAgain : Type 0
TurnsAgain = (y : List ℕ) → AreTurns y → turned (unturned y) ≡ y

-- what is sent at a place is what was sent before it and one turn more
abbrev pub GoesOn : Type 0
GoesOn = (q : List ℕ) (n : ℕ) → n < length q → slice_index (turned q) n ≡ (before (turned q) n + slice_index q n) % 4

-- One turn in bits, with q = Q1 + 2·Q2 and y = Y1 + 2·Y2: Y1 becomes Q1 xor Y1, and Y2 becomes
-- Q2 xor Y2 xor (Q1 and Y1).
abbrev pub TurnsInBits : Type 0
TurnsInBits = (y q : ℕ) → y < 4 → q < 4 → let sent = (y + q) % 4 in
    (sent % 2 ≡ xor_ℕ (q % 2) (y % 2)) × (sent / 2 ≡ xor_ℕ (xor_ℕ (q / 2) (y / 2)) (and_ℕ (q % 2) (y % 2)))

-- what was sent of the first turns stays, whatever follows
abbrev pub FirstTurnsStay : Type 0
FirstTurnsStay = (q : List ℕ) (n : ℕ) → turned (take n q) ≡ take n (turned q)

-- what was read of the first numbers stays, whatever follows
abbrev pub FirstReadingsStay : Type 0
FirstReadingsStay = (y : List ℕ) (n : ℕ) → unturned (take n y) ≡ take n (unturned y)

-- where the whole line is turned by as much, only the first reading can differ
abbrev pub ForgetsATurn : Type 0
ForgetsATurn = (y : List ℕ) (turns n : ℕ) → AreTurns y → 1 ≤ n → n < length y
    → slice_index (unturned (map (λ v. (v + turns) % 4) y)) n ≡ slice_index (unturned y) n
