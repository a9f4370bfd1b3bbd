-- Which inputs a run takes, and why it refuses others. What is said of a file holds where the folder tells its name.
use Rattle.std.specs.Prelude.{◌⊎◌, ℕ, List, [], ◌∷◌}
use Rattle.outside_calls.specs.Folder.{FolderState}
use Rattle.outside_calls.specs.declared.folder.FolderFault.{FolderFault}
use Rattle.noise_script.specs.Script.{ScriptValue}
use Rattle.command_base.specs.Inputs.{IsWithin}
use Rattle.command_base.specs.declared.status.Status.{Status}
use Rattle.command_base.specs.declared.status.Status.TheVariants.{BadScript, TooLong}
use Rattle.command_base.specs.declared.stop.Stop.{Stop}
use Rattle.command_base.specs.declared.stop.Stop.TheVariants.{Own, Read, NoMemory}
use Rattle.command_base.specs.Stops.{ReadFails}
use Rattle.run_inputs.specs.declared.limits.Limits.{Limits}
use Rattle.run_inputs.specs.Scripts.{ReadsScript, ScriptTooLong, ScriptFaulty}
use Rattle.run_inputs.specs.Lengths.{AreWithin, TellOctets, IsFirstLong, FailsInOrder}

-- The inputs are octets within their limits: the script of that name, which is this one, and the files of these.
pub record Opens (l : Limits) (f : FolderState) (name : List ℕ) (names : List (List ℕ)) (script : ScriptValue) : Type 0 where
  pub reads : ReadsScript l.script f name script
  pub files : AreWithin l.file f names
  pub octets : TellOctets f names

-- The script is right, and that file is the first that is too long.
pub record FileTooLong (l : Limits) (f : FolderState) (name : List ℕ) (names : List (List ℕ)) (place word : ℕ) : Type 0 where
  pub script : ScriptValue
  pub reads : ReadsScript l.script f name script
  pub first : IsFirstLong l.file f place names word

-- what is refused of the inputs, by the answer: the script first, whose name is the first of these words; that of the first file is the other one
abbrev pub RefusesOwn : Limits → FolderState → List ℕ → ℕ → List (List ℕ) → ℕ → Status → Type 0
RefusesOwn l f name at names place (TooLong word) = ScriptTooLong l.script f name at word ⊎ FileTooLong l f name names place word
RefusesOwn l f name at names place (BadScript line cause) = ScriptFaulty l.script f name line cause
RefusesOwn l f name at names place answer = ⊥

-- The script is right, and a file was not read: the first, or another one, and then those before it are within the limit.
pub record FileFails (l : Limits) (old new : FolderState) (name : List ℕ) (names : List (List ℕ)) (fault : FolderFault) : Type 0 where
  pub script : ScriptValue
  pub reads : ReadsScript l.script old name script
  pub fails : FailsInOrder l.file old new names fault

-- which input was not read: the script, or a file behind it
abbrev pub FailsToRead : Limits → FolderState → FolderState → List ℕ → List (List ℕ) → FolderFault → Type 0
FailsToRead l old new name names fault = ReadFails old new (name ∷ []) fault ⊎ FileFails l old new name names fault

-- why the inputs are not taken; where there was no memory but by the folder, the script is within its limit
abbrev pub Refuses : Limits → FolderState → FolderState → List ℕ → ℕ → List (List ℕ) → ℕ → Stop → Type 0
Refuses l old new name at names place (Own answer) = RefusesOwn l old name at names place answer
Refuses l old new name at names place (Read fault) = FailsToRead l old new name names fault
Refuses l old new name at names place NoMemory = IsWithin old name l.script
Refuses l old new name at names place stop = ⊥
