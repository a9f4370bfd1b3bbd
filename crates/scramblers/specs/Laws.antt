-- Laws of scrambling, over all lists of bits.
use Rattle.std.specs.Prelude.{◌≡◌, ℕ, ◌<◌, ◌≤◌, ◌↔◌, Bool, List, length, take}
use Rattle.scramblers.specs.Stream.{bit_at_place, earlier}
use Rattle.scramblers.specs.Scrambles.{Scrambles, Descrambles}

-- to descramble is to read a scrambling backwards
abbrev pub ReadsBackwards : Type 0
ReadsBackwards = (tap : ℕ) (input line : List Bool) → Scrambles tap input line ↔ Descrambles tap line input

-- what a descrambler makes of a scrambler's line is the scrambler's input
abbrev pub GivesBack : Type 0
GivesBack = (tap : ℕ) (input line output : List Bool) → Scrambles tap input line → Descrambles tap line output
    → output ≡ input

-- an input has one line
abbrev pub HasOneLine : Type 0
HasOneLine = (tap : ℕ) (input line other : List Bool) → 1 ≤ tap → Scrambles tap input line → Scrambles tap input other
    → line ≡ other

-- what was sent of the first bits stays, whatever is put in later
abbrev pub FirstBitsStay : Type 0
FirstBitsStay = (tap n : ℕ) (input line : List Bool) → 1 ≤ tap → Scrambles tap input line
    → Scrambles tap (take n input) (take n line)

-- the line a up to place i and the line b up to place j have the same bit so many places before
abbrev pub SameBefore : ℕ → List Bool → ℕ → List Bool → ℕ → Type 0
SameBefore places a i b j = earlier a i places ≡ earlier b j places

-- an output depends on three bits of the line: the one at its place, and those tap places and 23 places before
abbrev pub DependsOnThree : Type 0
DependsOnThree = (tap : ℕ) (a b of_a of_b : List Bool) (i j : ℕ) → i < length a → j < length b
    → Descrambles tap a of_a → Descrambles tap b of_b
    → SameBefore 0 a i b j → SameBefore tap a i b j → SameBefore 23 a i b j
    → bit_at_place of_a i ≡ bit_at_place of_b j

-- Where a received line and a scrambler's line agree in one bit and in the 23 before it, the output there is the
-- input's bit, whatever was received earlier and wherever the two lines began.
abbrev pub RightAfter23 : Type 0
RightAfter23 = (tap : ℕ) (input line received output : List Bool) (i j : ℕ)
    → tap ≤ 23 → i < length received → j < length line
    → Scrambles tap input line → Descrambles tap received output
    → ((places : ℕ) → places ≤ 23 → SameBefore places received i line j)
    → bit_at_place output i ≡ bit_at_place input j
