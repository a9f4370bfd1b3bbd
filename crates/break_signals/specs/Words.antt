-- The words of a break in a UI frame: BRK and BRKACK, each with a number and a length.
use Rattle.std.specs.Prelude.{◌≡◌, ℕ, ◌<◌, if◌then◌else◌, ◌||◌, nat_eq, nat_lt, List, [], ◌∷◌, length, Result, Ok, Err}
use Rattle.break_signals.specs.declared.word.BreakWord.{BreakWord}
use Rattle.break_signals.specs.declared.word.BreakWord.TheVariants.{Brk, Ack}
use Rattle.break_signals.specs.declared.fault.BreakFault.{BreakFault}
use Rattle.break_signals.specs.declared.fault.BreakFault.TheVariants.{Kind, Number, Length}

abbrev pub word_of : ℕ → ℕ → ℕ → BreakWord
word_of kind number length_octet = if nat_eq kind 64 then Brk number length_octet else Ack number length_octet

abbrev pub word_behind : ℕ → List ℕ → Result BreakWord BreakFault
word_behind kind (number ∷ length_octet ∷ []) = if nat_lt number 2 then Ok (word_of kind number length_octet) else Err (Number number)
word_behind kind [] = Err (Length 1)
word_behind kind (number ∷ []) = Err (Length 2)
word_behind kind (number ∷ length_octet ∷ more ∷ rest) = Err (Length (length (kind ∷ number ∷ length_octet ∷ more ∷ rest)))

-- the break's word that an information field spells, or the first fault
abbrev pub word_in : List ℕ → Result BreakWord BreakFault
word_in [] = Err (Length 0)
word_in (kind ∷ rest) = if nat_eq kind 64 || nat_eq kind 96 then word_behind kind rest else Err (Kind kind)

abbrev pub spelled : BreakWord → List ℕ
spelled (Brk number length_octet) = 64 ∷ number ∷ length_octet ∷ []
spelled (Ack number length_octet) = 96 ∷ number ∷ length_octet ∷ []

abbrev pub number_of : BreakWord → ℕ
number_of (Brk number length_octet) = number
number_of (Ack number length_octet) = number

abbrev pub IsReadBack : Type 0
IsReadBack = (word : BreakWord) → number_of word < 2 → word_in (spelled word) ≡ Ok word

abbrev pub IsSpelledBack : Type 0
IsSpelledBack = (octets : List ℕ) (word : BreakWord) → word_in octets ≡ Ok word → spelled word ≡ octets
