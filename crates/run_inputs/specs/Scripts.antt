-- Which file is a run's script, and why another one is refused. What is said of its octets holds where the folder tells its name.
use Rattle.std.specs.Prelude.{◌≡◌, ℕ, IsTrue, List}
use Rattle.outside_calls.specs.Folder.{FolderState, TellsOctets, octets_at}
use Rattle.shared_terms.specs.declared.cause.Cause.{Cause}
use Rattle.noise_script.specs.Script.{ScriptValue}
use Rattle.noise_script.specs.Grammar.{ScriptSpelling, FirstFault}
use Rattle.command_base.specs.Inputs.{IsWithin, IsLonger}
use Rattle.command_base.specs.declared.status.Status.{Status}
use Rattle.command_base.specs.declared.status.Status.TheVariants.{BadScript, TooLong}
use Rattle.command_base.specs.declared.stop.Stop.{Stop}
use Rattle.command_base.specs.declared.stop.Stop.TheVariants.{Own, Read, NoMemory}

-- some text spells this script, whether the folder tells it or not
abbrev pub IsSpelled : ScriptValue → Type 0
IsSpelled script = (text : List ℕ) × ScriptSpelling text script

-- A file within its limit that spells this script.
pub record ReadsScript (limit : ℕ) (f : FolderState) (name : List ℕ) (script : ScriptValue) : Type 0 where
  pub within : IsWithin f name limit
  pub octets : TellsOctets f name
  pub spelled : IsTrue (f.tells name) → ScriptSpelling (octets_at f name) script

-- A file within its limit whose first faulty line is that one, with that cause.
pub record ScriptFaulty (limit : ℕ) (f : FolderState) (name : List ℕ) (line : ℕ) (cause : Cause) : Type 0 where
  pub within : IsWithin f name limit
  pub first : IsTrue (f.tells name) → FirstFault (octets_at f name) line cause

-- The file is longer than its limit, and this word names it.
pub record ScriptTooLong (limit : ℕ) (f : FolderState) (name : List ℕ) (place word : ℕ) : Type 0 where
  pub word_is : word ≡ place
  pub longer : IsLonger f name limit

-- what is refused of a script whose name stands at that place of the words, by the answer
abbrev pub RefusesScriptOwn : ℕ → FolderState → List ℕ → ℕ → Status → Type 0
RefusesScriptOwn limit f name place (TooLong word) = ScriptTooLong limit f name place word
RefusesScriptOwn limit f name place (BadScript line cause) = ScriptFaulty limit f name line cause
RefusesScriptOwn limit f name place answer = ⊥

-- why a script is not taken; where there was no memory but by the folder, it is within its limit
abbrev pub RefusesScript : ℕ → FolderState → List ℕ → ℕ → Stop → Type 0
RefusesScript limit f name place (Own answer) = RefusesScriptOwn limit f name place answer
RefusesScript limit f name place (Read fault) = Unit {0}
RefusesScript limit f name place NoMemory = IsWithin f name limit
RefusesScript limit f name place stop = ⊥
