-- What the laws of all runs say of a script's.
use Rattle.line_run.proofs.Cited.{◌≡◌, ℕ, ◌≤◌, List, [], ◌++◌, length, arith, AllByRecursion, SamplesAreCarried, break_line, busy_line}
use Rattle.line_run.proofs.Cited.{link_of, period_of, IsCarried, Accounts, IsInLimits, ScriptValue, delay_of, Break, Pause, Both, of, Role}
use Rattle.line_run.proofs.Cited.{Answerer, Originator}
use Rattle.turn_bound.specs.Bound.{EndsSoon, EndsSoonByFiles, EndsSoonByOctets}
use Rattle.turn_bound.specs.Offered.{HoldsFile}
use Rattle.turn_bound.specs.Advance.{NeverBusy, AdvancesSoon}
use Rattle.turn_bound.specs.Limits.{IsLimited, NoRunIsLong, file_limit}
use Rattle.turn_bound.specs.Limits as limits
use Rattle.line_run.specs.Scripts.{ScriptsKeepTime, LineRunsEndSoon, LineRunsAdvance, NoLineRunIsLong}
use Rattle.line_run.proofs.Pausing.{parted, shorts}

pub scripts-keep-time : ScriptsKeepTime
scripts-keep-time script files h = grind (arith)

-- the files of the link are those
same-hold : (script : ScriptValue) (files : Both (List ℕ)) (ends : Accounts) (segments : Role → ℕ)
    → ((role : Role) → HoldsFile (of role files) (of role ends).outgoing (segments role))
    → (role : Role) → HoldsFile (of role (link_of script files)).user.file (of role ends).outgoing (segments role)
same-hold script files ends segments h role = grind (arith)

pub line-runs-end-soon : SamplesAreCarried → EndsSoon → EndsSoonByFiles → EndsSoonByOctets → LineRunsEndSoon
line-runs-end-soon carried soon by_files by_octets c files ts ends h run =
    let k = scripts-keep-time c.script files h in
    let all : IsCarried (delay_of c.script) ts = carried c ts run.heard in
    record {
      offered = soon c.script.tries (period_of c.script) (delay_of c.script) (link_of c.script files) ts ends k run.run all;
      told = λ segments holds. by_files c.script.tries (period_of c.script) (delay_of c.script)
          (link_of c.script files) ts ends segments k run.run all (same-hold c.script files ends segments holds);
      octets = by_octets c.script.tries (period_of c.script) (delay_of c.script) (link_of c.script files) ts ends k run.run all;
    }

never-busy : (script : ScriptValue) (files : Both (List ℕ)) → script.pauses ≡ [] → NeverBusy (link_of script files)
never-busy script files e given = grind (arith, busy_line)

pub line-runs-advance : SamplesAreCarried → AdvancesSoon → LineRunsAdvance
line-runs-advance carried advances c files ts us before after role h none run may goes heard unwhole same =
    advances c.script.tries (period_of c.script) (delay_of c.script) (link_of c.script files) ts us before after role
    (scripts-keep-time c.script files h) (never-busy c.script files none) run.run may goes
    (carried c (us ++ ts) heard) unwhole same

limited : (script : ScriptValue) (files : Both (List ℕ)) → IsInLimits script → ((role : Role) → length (of role files) ≤ file_limit)
    → IsLimited script.tries (delay_of script) (link_of script files)
limited script files h short = record {
  tries_few = h.tries_few;
  delays_few = delays;
  files_short = shortly;
  breaks_few = omega (arith, parted break_line (λ (b : Break). b.role) script.breaks, h.breaks_few);
  busy_few = omega (arith, parted busy_line (λ (p : Pause). p.role) script.pauses, h.pauses_few);
  busy_short = pauses;
}
  where
    delays : (role : Role) → delay_of script role ≤ 60
    delays role = grind (arith)

    shortly : (role : Role) → length (of role (link_of script files)).user.file ≤ file_limit
    shortly Originator = short Originator
    shortly Answerer = short Answerer

    pauses : (role : Role) → AllByRecursion limits.IsShort (of role (link_of script files)).user.busy
    pauses Originator = shorts Originator script.pauses h.pauses_short
    pauses Answerer = shorts Answerer script.pauses h.pauses_short

pub no-line-run-is-long : SamplesAreCarried → NoRunIsLong → NoLineRunIsLong
no-line-run-is-long carried long c files ts ends h few run =
    long c.script.tries (period_of c.script) (delay_of c.script) (link_of c.script files) ts ends (scripts-keep-time c.script files h)
    (limited c.script files h few) run.run (carried c ts run.heard)
