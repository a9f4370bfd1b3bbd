-- The lines of a run's trace are lines that are read.
use Rattle.std.specs.Prelude.{ℕ, ◌<◌, ◌^◌, List, length}
use Rattle.std.specs.Option.{option_map}
use Rattle.shared_terms.specs.declared.role.Role.{Role}
use Rattle.shared_terms.specs.Both.{Both, of}
use Rattle.noise_script.specs.Script.{ScriptValue, IsInLimits}
use Rattle.link_run.specs.Run.{Accounts, Side, Spoken, Turn}
use Rattle.link_run.specs.Outcomes.{Outcome, TurnIs}
use Rattle.line_run.specs.Sampled.{HeardIn, LineRun}
use Rattle.line_run.specs.Scripted.{wire_of, link_of}
use Rattle.line_texts.specs.declared.trace_line.TraceLine.{TraceLine}
use Rattle.trace_audit.specs.Written.{IsReadable}
use Rattle.line_ends.specs.Plain.{AsksInOctets}

-- the line of an end in a turn
abbrev pub line_of : ℕ → Role → Side → TraceLine
line_of turn role s =
    record { turn = turn; role = role; arrived = s.heard; sent = option_map (λ (slot : Spoken). slot.sent) s.sent; given = s.given }

-- Both lines of a turn are lines that are read, whatever the turn comes to.
abbrev pub LinesAreRead : Type 0
LinesAreRead = (script : ScriptValue) (files : Both (List ℕ)) (ts : List Turn) (ends : Accounts) (t : Turn) (mid : Accounts) (outcome : Outcome)
    → IsInLimits script → AsksInOctets script → LineRun (wire_of script) (link_of script files) ts ends → HeardIn (wire_of script) ts t
    → TurnIs (link_of script files) ts ends t mid outcome → length ts < 2 ^ 40
    → (role : Role) → IsReadable (line_of (length ts) role (of role t))
