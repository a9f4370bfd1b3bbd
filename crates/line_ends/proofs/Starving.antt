-- A run that ends by a lost link was starved, and what else its end says.
use Rattle.std.proofs.Common.{arith, ◌≡◌, ◌∙◌, ℕ, List, []}
use Rattle.line_ends.proofs.Names.{Accounts, Both, DoneIsWhole, EndsHaveCauses, FewLossesKeepLinks, GivesEachBreak, GivesUp, GivesUpOnTime}
use Rattle.line_ends.proofs.Names.{HearingsGiveAllBreaks, IsDone, IsInLimits, Left, LineRun, LinkLost, LosesInPeriods, LostLinksWereStarved}
use Rattle.line_ends.proofs.Names.{NotDetected, OneIsCarried, Originator, Role, RunEnd, RunsOver, RunsTo, SamplesAreCarried, ScriptValue}
use Rattle.line_ends.proofs.Names.{ScriptsHaveDelays, ScriptsMayPlay, Turn, WaitsForNoBreak, Wire, delay_of, link_of, of, period_of}
use Rattle.line_ends.proofs.Names.{turns_heard}
use Rattle.shared_terms.specs.declared.fault.LinkFault.TheVariants as faults
use Rattle.turn_losses.specs.Losses.{OriginatorWantsPattern, UndetectedOnTime, StarvedLosesMany}
use Rattle.turn_losses.specs.Tries.{GivesUpForLosses, GivesUpUnbroken}
use Rattle.turn_losses.proofs.Periods.{later-loses}
use Rattle.turn_losses.specs.Breaks.{GivesUpStarved}
use Rattle.line_run.specs.Scripts.{ScriptsKeepTime}

pub record Laws : Type 0 where
  pub play : ScriptsMayPlay
  pub delays : ScriptsHaveDelays
  pub time : ScriptsKeepTime
  pub carried : SamplesAreCarried
  pub one : OneIsCarried
  pub quiet : GivesUpForLosses
  pub unbroken : GivesUpUnbroken
  pub pattern : OriginatorWantsPattern
  pub starves : GivesUpStarved
  pub on_time : UndetectedOnTime
  pub whole : DoneIsWhole
  pub given : HearingsGiveAllBreaks

-- the line of samples as any line
over : Laws → (c : Wire) (files : Both (List ℕ)) (ts : List Turn) (ends : Accounts) → IsInLimits c.script
    → LineRun c (link_of c.script files) ts ends → RunsOver (link_of c.script files) (delay_of c.script) ts ends
over laws c files ts ends h r = grind (arith)

pub lost-links-were-starved : Laws → LostLinksWereStarved
lost-links-were-starved laws c files (LinkLost role segment turn) left h r g =
    let e = r.ended.1 in
    laws.starves c.script.tries (period_of c.script) (delay_of c.script) (link_of c.script files) r.turns r.ends e.last e.mid role
    (faults.Spent segment r.ended.0) (laws.time c.script files h)
    (over laws c files r.turns r.ends h r.run) (laws.one c r.turns e.last e.heard) e.is
lost-links-were-starved laws c files (NotDetected turn) left h r g =
    let e = r.ended in
    laws.starves c.script.tries (period_of c.script) (delay_of c.script)
    (link_of c.script files) r.turns r.ends e.last e.mid Originator faults.NotDetected (laws.time c.script files h)
    (over laws c files r.turns r.ends h r.run) (laws.one c r.turns e.last e.heard) e.is
lost-links-were-starved laws c files end left h r g = absurd g

undetected : Laws → (c : Wire) (files : Both (List ℕ)) (turn : ℕ) (left : Left) → IsInLimits c.script
    → (r : RunsTo c (link_of c.script files) (NotDetected turn) left) → LosesInPeriods c files (NotDetected turn) left r
undetected laws c files turn left h r n l =
    let e = r.ended in
    let run = over laws c files r.turns r.ends h r.run in
    later-loses (period_of c.script) e.last r.turns n
    (laws.pattern c.script.tries (period_of c.script) (delay_of c.script) (link_of c.script files) r.turns r.ends e.last e.mid
    (laws.time c.script files h) run.run run.carried e.is n l)

loses-without-break : Laws → (c : Wire) (files : Both (List ℕ)) (end : RunEnd) (left : Left) → IsInLimits c.script
    → (r : RunsTo c (link_of c.script files) end left) → GivesUp end
    → WaitsForNoBreak c (link_of c.script files) r.turns r.ends end left r.ended → LosesInPeriods c files end left r
loses-without-break laws c files (LinkLost role segment turn) left h r g quiet =
    let e = r.ended.1 in
    (laws.quiet c.script.tries (period_of c.script) (delay_of c.script) (link_of c.script files) r.turns r.ends e.last e.mid role
    (faults.Spent segment r.ended.0) (laws.time c.script files h)
    (over laws c files r.turns r.ends h r.run) (laws.one c r.turns e.last e.heard) e.is quiet).each
loses-without-break laws c files (NotDetected turn) left h r g quiet = undetected laws c files turn left h r
loses-without-break laws c files end left h r g quiet = absurd g

no-breaks : (script : ScriptValue) (files : Both (List ℕ)) → script.breaks ≡ [] → (role : Role)
    → (of role (link_of script files)).user.breaks ≡ []
no-breaks script files e role = grind (arith)

loses-unasked : Laws → (c : Wire) (files : Both (List ℕ)) (end : RunEnd) (left : Left) → IsInLimits c.script
    → (r : RunsTo c (link_of c.script files) end left) → GivesUp end → c.script.breaks ≡ [] → LosesInPeriods c files end left r
loses-unasked laws c files (LinkLost role segment turn) left h r g none =
    let e = r.ended.1 in
    (laws.unbroken c.script.tries (period_of c.script) (delay_of c.script) (link_of c.script files) r.turns r.ends e.last e.mid role
    (faults.Spent segment r.ended.0) (laws.time c.script files h)
    (no-breaks c.script files none role) (over laws c files r.turns r.ends h r.run) (laws.one c r.turns e.last e.heard) e.is).each
loses-unasked laws c files (NotDetected turn) left h r g none = undetected laws c files turn left h r
loses-unasked laws c files end left h r g none = absurd g

gives-up-on-time : Laws → (c : Wire) (files : Both (List ℕ)) (end : RunEnd) (left : Left) → IsInLimits c.script
    → (r : RunsTo c (link_of c.script files) end left) → GivesUpOnTime c (link_of c.script files) r.turns r.ends end left r.ended
gives-up-on-time laws c files (NotDetected turn) left h r =
    let e = r.ended in
    let run = over laws c files r.turns r.ends h r.run in
    let told = laws.on_time c.script.tries (period_of c.script) (delay_of c.script) (link_of c.script files) r.turns r.ends e.last e.mid
    (laws.time c.script files h) run.run run.carried e.is in grind (arith)
gives-up-on-time laws c files end left h r = tt

gives-each-break : Laws → (c : Wire) (files : Both (List ℕ)) (end : RunEnd) (left : Left) → IsInLimits c.script
    → (r : RunsTo c (link_of c.script files) end left) → GivesEachBreak c (link_of c.script files) r.turns r.ends end left r.ended
gives-each-break laws c files (IsDone turn) left h r =
    let e = r.ended in
    let link = link_of c.script files in
    λ role. laws.given link r.turns r.ends e.last e.mid r.run.run e.is.hearing role
    ∙ (laws.whole link (delay_of c.script) r.turns r.ends e.last e.mid (over laws c files r.turns r.ends h r.run)
    (laws.one c r.turns e.last e.heard) e.is role).breaks_are
gives-each-break laws c files end left h r = tt

pub ends-have-causes : Laws → EndsHaveCauses
ends-have-causes laws c files end left h r = assumption (
  lost-links-were-starved laws c files end left h r,
  loses-without-break laws c files end left h r,
  loses-unasked laws c files end left h r,
  gives-up-on-time laws c files end left h r,
  gives-each-break laws c files end left h r,
)

pub few-losses-keep-links : ScriptsKeepTime → LostLinksWereStarved → StarvedLosesMany → FewLossesKeepLinks
few-losses-keep-links time starved many c files end left h r few g =
    let lost = many c.script.tries (period_of c.script) (delay_of c.script) (link_of c.script files)
    (turns_heard c (link_of c.script files) r.turns r.ends end left r.ended) (time c.script files h)
    (starved c files end left h r g) in grind (arith)
