-- How many turns a script's run over the line of samples has.
use Rattle.std.specs.Prelude.{◌≡◌, ℕ, ◌^◌, ◌<◌, ◌≤◌, false, List, [], ◌++◌, length}
use Rattle.shared_terms.specs.declared.role.Role.{Role}
use Rattle.shared_terms.specs.Both.{Both, of}
use Rattle.lapm_sender.specs.Outgoing.{is_whole}
use Rattle.noise_script.specs.Script.{ScriptValue, IsInLimits, delay_of}
use Rattle.link_run.specs.Run.{Accounts, Turn}
use Rattle.line_run.specs.Sampled.{Wire, IsHeardOver, LineRun}
use Rattle.line_run.specs.Scripted.{period_of, link_of}
use Rattle.turn_bound.specs.Time.{KeepsTime}
use Rattle.turn_bound.specs.Bound.{quota, most_turns, offered_to}
use Rattle.turn_bound.specs.Offered.{HoldsFile}
use Rattle.turn_bound.specs.Advance.{MaySend, GoesOn}
use Rattle.turn_bound.specs.Limits.{file_limit}

-- The two ends that a script makes try as often as it says, and wait for the period of its delays.
abbrev pub ScriptsKeepTime : Type 0
ScriptsKeepTime = (script : ScriptValue) (files : Both (List ℕ)) → IsInLimits script
    → KeepsTime script.tries (period_of script) (delay_of script) (link_of script files)

-- A script's run ends soon: by the segments that were offered, by those of the files where these are told, and by the files' octets.
pub record HasFewTurns (script : ScriptValue) (files : Both (List ℕ)) (ts : List Turn) (ends : Accounts) : Type 0 where
  pub offered : length ts < most_turns script.tries (period_of script) (link_of script files) (offered_to ends)
  pub told : (segments : Role → ℕ) → ((role : Role) → HoldsFile (of role files) (of role ends).outgoing (segments role))
      → length ts < most_turns script.tries (period_of script) (link_of script files) segments
  pub octets : length ts < most_turns script.tries (period_of script) (link_of script files) (λ role. length (of role files))

abbrev pub LineRunsEndSoon : Type 0
LineRunsEndSoon = (c : Wire) (files : Both (List ℕ)) (ts : List Turn) (ends : Accounts)
    → IsInLimits c.script → LineRun c (link_of c.script files) ts ends → HasFewTurns c.script files ts ends

-- Without pauses the front of an end that may send advances within the turns of one segment, or it is whole, or the run ends.
abbrev pub LineRunsAdvance : Type 0
LineRunsAdvance = (c : Wire) (files : Both (List ℕ)) (ts us : List Turn) (before after : Accounts) (role : Role)
    → IsInLimits c.script → c.script.pauses ≡ [] → LineRun c (link_of c.script files) ts before → MaySend (of role before)
    → GoesOn (link_of c.script files) ts before us after → IsHeardOver c (us ++ ts)
    → is_whole (of role after).outgoing ≡ false → (of role after).outgoing.front ≡ (of role before).outgoing.front
    → length us < quota c.script.tries (period_of c.script)

-- No run of a script, of files within their limit, is half as long as the turns that an end can count.
abbrev pub NoLineRunIsLong : Type 0
NoLineRunIsLong = (c : Wire) (files : Both (List ℕ)) (ts : List Turn) (ends : Accounts)
    → IsInLimits c.script → ((role : Role) → length (of role files) ≤ file_limit)
    → LineRun c (link_of c.script files) ts ends → length ts < 2 ^ 39
