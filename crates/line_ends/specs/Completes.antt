-- Which runs of a script over the line of samples are done.
use Rattle.std.specs.Prelude.{◌≡◌, ℕ, ◌+◌, ◌*◌, ◌<◌, ◌≤◌, List, [], ◌∷◌, All}
use Rattle.frame_check.specs.Octets.{AreOctets}
use Rattle.shared_terms.specs.declared.role.Role.{Role}
use Rattle.shared_terms.specs.Both.{Both, of}
use Rattle.noise_script.specs.declared.entry.Break.{Break}
use Rattle.noise_script.specs.declared.entry.Loss.{Loss}
use Rattle.noise_script.specs.Script.{ScriptValue, IsInLimits}
use Rattle.line_run.specs.Faint.{IsFaintBefore}
use Rattle.link_run.specs.Run.{Accounts, Turn}
use Rattle.link_run.specs.Counts.{lost_slots}
use Rattle.line_run.specs.Sampled.{Wire, LineRun, LineEnd, EndsLine}
use Rattle.line_run.specs.Scripted.{wire_of, link_of}
use Rattle.line_run.specs.Stream.{AllSendable}
use Rattle.line_run.specs.Ends.{RunEnd, IsDone, Left, LineEnds, RunsTo, turns_heard, StarvedBy}

-- a script's run, over two users' files, that ends so
abbrev pub ScriptRunsTo : ScriptValue → Both (List ℕ) → RunEnd → Left → Type 0
ScriptRunsTo script files end left = RunsTo (wire_of script) (link_of script files) end left

-- the turns in which something was heard in it
abbrev pub heard_turns : (script : ScriptValue) (files : Both (List ℕ)) (end : RunEnd) (left : Left) → ScriptRunsTo script files end left
    → List Turn
heard_turns script files end left r = turns_heard (wire_of script) (link_of script files) r.turns r.ends end left r.ended

-- both files are whole, and the link is released
abbrev pub EndsDone : RunEnd → Type 0
EndsDone end = (turn : ℕ) × (end ≡ IsDone turn)

-- A run that isn't starved is done, unless the line ends it.
abbrev pub CompletesUnstarved : Type 0
CompletesUnstarved = (script : ScriptValue) (files : Both (List ℕ)) (end : RunEnd) (left : Left) → IsInLimits script
    → (r : ScriptRunsTo script files end left)
    → (StarvedBy script (heard_turns script files end left r) → ⊥) → (LineEnds end → ⊥) → EndsDone end

-- So is a run in which fewer slots are lost than one for each two tries.
abbrev pub CompletesWithFewLosses : Type 0
CompletesWithFewLosses = (script : ScriptValue) (files : Both (List ℕ)) (end : RunEnd) (left : Left) → IsInLimits script
    → (r : ScriptRunsTo script files end left)
    → 2 * lost_slots (heard_turns script files end left r) < script.tries → (LineEnds end → ⊥) → EndsDone end

-- The squares of the parts of all that a script adds to the symbols of a sender add up to less than 2.5 squares of a map unit, for either.
abbrev pub IsFaint : ScriptValue → Type 0
IsFaint script = (sender : Role) (count : ℕ) → IsFaintBefore script sender count

-- and no line of it loses a slot
pub record IsQuiet (script : ScriptValue) : Type 0 where
  pub no_losses : script.losses ≡ []
  pub faint : IsFaint script

-- no line of the script displaces a symbol
pub record DisplacesNone (script : ScriptValue) : Type 0 where
  pub no_hits : script.hits ≡ []
  pub no_noises : script.noises ≡ []

-- So it adds nothing, which is faint.
abbrev pub DisplacesNoneIsFaint : Type 0
DisplacesNoneIsFaint = (script : ScriptValue) → DisplacesNone script → IsFaint script

-- what the two users hand over are octets: their files, and the lengths of the breaks that they ask for
pub record AreOfOctets (script : ScriptValue) (files : Both (List ℕ)) : Type 0 where
  pub files_are : (role : Role) → AreOctets (of role files)
  pub breaks_are : All (λ (b : Break). b.length < 256) script.breaks

-- Ends that are handed octets send what can be sent.
abbrev pub OctetsAreSendable : Type 0
OctetsAreSendable = (c : Wire) (files : Both (List ℕ)) (ts : List Turn) (ends : Accounts) → IsInLimits c.script
    → AreOfOctets c.script files → LineRun c (link_of c.script files) ts ends → AllSendable ts

-- The line doesn't end a run whose noise is faint.
abbrev pub FaintGoOn : Type 0
FaintGoOn = (script : ScriptValue) (files : Both (List ℕ)) (ts : List Turn) (ends : Accounts) (end : LineEnd) → IsInLimits script
    → IsFaint script → LineRun (wire_of script) (link_of script files) ts ends → AllSendable ts
    → EndsLine (wire_of script) ts ends end → ⊥

-- how many slots the lose lines of a script name
abbrev pub slots_named : List Loss → ℕ
slots_named [] = 0
slots_named (loss ∷ losses) = loss.count + slots_named losses

-- In such a run no more slots are lost than the lose lines name.
abbrev pub LosesWhatIsNamed : Type 0
LosesWhatIsNamed = (script : ScriptValue) (files : Both (List ℕ)) (end : RunEnd) (left : Left) → IsInLimits script
    → IsFaint script → (r : ScriptRunsTo script files end left) → AllSendable r.turns
    → lost_slots (heard_turns script files end left r) ≤ slots_named script.losses

-- Where noise is faint, and the lose lines name fewer slots than one for each two tries, each run is done;
abbrev pub CompletesWithFewNamed : Type 0
CompletesWithFewNamed = (script : ScriptValue) (files : Both (List ℕ)) (end : RunEnd) (left : Left) → IsInLimits script
    → IsFaint script → AreOfOctets script files → 2 * slots_named script.losses < script.tries
    → ScriptRunsTo script files end left → EndsDone end

-- so is each run of a script that is quiet,
abbrev pub CompletesQuiet : Type 0
CompletesQuiet = (script : ScriptValue) (files : Both (List ℕ)) (end : RunEnd) (left : Left) → IsInLimits script
    → IsQuiet script → AreOfOctets script files → ScriptRunsTo script files end left → EndsDone end

-- and so is each run of a script without lines that lose, hit or displace.
abbrev pub CompletesUndisturbed : Type 0
CompletesUndisturbed = (script : ScriptValue) (files : Both (List ℕ)) (end : RunEnd) (left : Left) → IsInLimits script
    → script.losses ≡ [] → script.hits ≡ [] → script.noises ≡ [] → AreOfOctets script files
    → ScriptRunsTo script files end left → EndsDone end

-- The noise of the script is faint, as it is where no symbol is displaced, and its lose lines name fewer slots than one for each two tries.
pub record NamesFew (script : ScriptValue) : Type 0 where
  pub faint : IsFaint script
  pub few : 2 * slots_named script.losses < script.tries

-- No line of the script loses, hits or displaces.
pub record IsUndisturbed (script : ScriptValue) : Type 0 where
  pub no_losses : script.losses ≡ []
  pub no_hits : script.hits ≡ []
  pub no_noises : script.noises ≡ []
