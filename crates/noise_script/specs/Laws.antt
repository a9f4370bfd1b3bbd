-- Laws of scripts' texts.
use Rattle.std.specs.Prelude.{◌≡◌, ◌≢◌, ◌⊎◌, ℕ, ◌<◌, Bool, true, not, nat_eq, List, [], ◌∷◌, ◌++◌, All}
use Rattle.std.specs.List.{list_all}
use Rattle.noise_script.specs.Lines.{lines_of, without_return, words_of, is_blank}
use Rattle.shared_terms.specs.declared.cause.Cause.{Cause}
use Rattle.noise_script.specs.declared.entry.Break.{Break}
use Rattle.noise_script.specs.Breaks.{in_order, IsOrder}
use Rattle.noise_script.specs.Script.{ScriptValue, IsInLimits}
use Rattle.noise_script.specs.Grammar.{ScriptSpelling, FirstFault}

-- a text spells one script at most
abbrev pub ScriptsAreOne : Type 0
ScriptsAreOne = (text : List ℕ) (a b : ScriptValue) → ScriptSpelling text a → ScriptSpelling text b → a ≡ b

-- a text has one first fault at most, and that has one cause
abbrev pub FaultsAreOne : Type 0
FaultsAreOne = (text : List ℕ) (m n : ℕ) (a b : Cause) → FirstFault text m a → FirstFault text n b → (m ≡ n) × (a ≡ b)

-- a text that spells a script has no fault
abbrev pub NoFaultInScripts : Type 0
NoFaultInScripts = (text : List ℕ) (script : ScriptValue) (number : ℕ) (cause : Cause) → ScriptSpelling text script
    → FirstFault text number cause → ⊥

-- each text spells a script or has a first fault
abbrev pub SomeAnswer : List ℕ → Type 0
SomeAnswer text = ((script : ScriptValue) × ScriptSpelling text script) ⊎ ((number : ℕ) × (cause : Cause) × FirstFault text number cause)

abbrev pub EachHasAnswer : Type 0
EachHasAnswer = (text : List ℕ) → SomeAnswer text

abbrev pub has_no_feed : List ℕ → Bool
has_no_feed octets = list_all (λ octet. not (nat_eq octet 10)) octets

abbrev pub has_no_blank : List ℕ → Bool
has_no_blank octets = list_all (λ octet. not (is_blank octet)) octets

-- A text's lines from its front: up to the first line feed, without a carriage return at the end, and then the lines of the
-- rest. A text without a line feed is one line, and keeps its carriage return.
pub record LinesFromFront : Type 0 where
  pub none : lines_of [] ≡ []
  pub ended : (line rest : List ℕ) → has_no_feed line ≡ true → lines_of (line ++ 10 ∷ rest) ≡ without_return line ∷ lines_of rest
  pub last : (line : List ℕ) → line ≢ [] → has_no_feed line ≡ true → lines_of line ≡ line ∷ []

-- a line's words from its front: blanks are dropped, and a word goes up to the next blank or to the line's end
pub record WordsFromFront : Type 0 where
  pub none : words_of [] ≡ []
  pub blank : (octet : ℕ) (line : List ℕ) → is_blank octet ≡ true → words_of (octet ∷ line) ≡ words_of line
  pub ended : (word : List ℕ) (octet : ℕ) (line : List ℕ) → word ≢ [] → has_no_blank word ≡ true → is_blank octet ≡ true
      → words_of (word ++ octet ∷ line) ≡ word ∷ words_of line
  pub last : (word : List ℕ) → word ≢ [] → has_no_blank word ≡ true → words_of word ≡ word ∷ []

-- a script's breaks rise in turn, and those of one turn stand as in the text
abbrev pub BreaksInOrder : Type 0
BreaksInOrder = (lines : List Break) → IsOrder lines (in_order lines)

-- what a text spells is within the limits of scripts,
abbrev pub SpelledIsInLimits : Type 0
SpelledIsInLimits = (text : List ℕ) (script : ScriptValue) → ScriptSpelling text script → IsInLimits script

-- and the length of each break is an octet
abbrev pub BreaksAreOctets : Type 0
BreaksAreOctets = (text : List ℕ) (script : ScriptValue) → ScriptSpelling text script
    → All (λ (line : Break). line.length < 256) script.breaks
