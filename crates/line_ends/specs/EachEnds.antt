-- Each run of a script over the line of samples goes on or ends, and so it ends.
use Rattle.std.specs.Prelude.{◌≡◌, ◌⊎◌, ℕ, ◌≤◌, List, [], length}
use Rattle.frame_check.specs.declared.check.Check.{Check}
use Rattle.shared_terms.specs.declared.role.Role.{Role}
use Rattle.shared_terms.specs.Role.{other}
use Rattle.shared_terms.specs.Both.{Both, of}
use Rattle.lapm_frames.specs.declared.heard.Heard.TheVariants.{Chance}
use Rattle.noise_script.specs.Script.{ScriptValue, IsInLimits}
use Rattle.link_account.specs.Account.{check_of}
use Rattle.link_run.specs.Run.{Accounts, Turn}
use Rattle.turn_bound.specs.Limits.{file_limit}
use Rattle.line_run.specs.Sampled.{Wire, IsHeardOf, LineRun, LineEnd, LosesLine, IsHeardWell, EndsLine}
use Rattle.line_run.specs.Scripted.{wire_of, link_of}
use Rattle.line_run.specs.Ends.{RunEnd, IsDone, Left}
use Rattle.line_ends.specs.Causes.{MadeOver}
use Rattle.line_ends.specs.Completes.{ScriptRunsTo, AreOfOctets, IsQuiet}

-- What becomes of the slot of a sender that arrives in the turn after these.
pub data Becomes (c : Wire) (sender : Role) (ts : List Turn) (hearing : Check) : Type 0 where
  Lost : (symbol : ℕ) → LosesLine c sender ts symbol → Becomes c sender ts hearing
  Mistaken : IsHeardOf c sender ts hearing Chance → Becomes c sender ts hearing
  Heard : IsHeardWell c sender ts hearing → Becomes c sender ts hearing

-- In each turn the line is lost, or the slot is a chance match, or something is heard.
abbrev pub EachSlotBecomes : Type 0
EachSlotBecomes = (script : ScriptValue) (files : Both (List ℕ)) (ts : List Turn) (ends : Accounts) (role : Role) → IsInLimits script
    → AreOfOctets script files → LineRun (wire_of script) (link_of script files) ts ends
    → Becomes (wire_of script) (other role) ts (check_of (of role ends))

-- So each run that goes on so far is ended by the line, or a next turn is made.
abbrev pub EachTurnIsDecided : Type 0
EachTurnIsDecided = (script : ScriptValue) (files : Both (List ℕ)) (ts : List Turn) (ends : Accounts) → IsInLimits script
    → AreOfOctets script files → LineRun (wire_of script) (link_of script files) ts ends
    → ((end : LineEnd) × EndsLine (wire_of script) ts ends end) ⊎ MadeOver (wire_of script) files ts ends

-- a run ends so, and this is left
pub record HasEnd (script : ScriptValue) (files : Both (List ℕ)) : Type 0 where
  pub end : RunEnd
  pub left : Left
  pub runs : ScriptRunsTo script files end left

-- So each script within its limits and each two files of octets within theirs have a run that ends.
abbrev pub EachRunEnds : Type 0
EachRunEnds = (script : ScriptValue) (files : Both (List ℕ)) → IsInLimits script → ((role : Role) → length (of role files) ≤ file_limit)
    → AreOfOctets script files → HasEnd script files

-- a run that is done, and each user has the whole file of the other
pub record IsDelivered (script : ScriptValue) (files : Both (List ℕ)) : Type 0 where
  pub turn : ℕ
  pub left : Left
  pub runs : ScriptRunsTo script files (IsDone turn) left
  pub whole : (role : Role) → of role left.got ≡ of (other role) files

-- So a quiet script delivers each two files of octets within their limits,
abbrev pub QuietRunsDeliver : Type 0
QuietRunsDeliver = (script : ScriptValue) (files : Both (List ℕ)) → IsInLimits script
    → ((role : Role) → length (of role files) ≤ file_limit)
    → IsQuiet script → AreOfOctets script files → IsDelivered script files

-- and so does a script without lines that lose, hit or displace.
abbrev pub UndisturbedRunsDeliver : Type 0
UndisturbedRunsDeliver = (script : ScriptValue) (files : Both (List ℕ)) → IsInLimits script
    → ((role : Role) → length (of role files) ≤ file_limit)
    → script.losses ≡ [] → script.hits ≡ [] → script.noises ≡ [] → AreOfOctets script files → IsDelivered script files
