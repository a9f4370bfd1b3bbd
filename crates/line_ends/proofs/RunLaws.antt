-- The laws of runs that the promises of commands rest on.
use Rattle.std.proofs.Common.{arith, ℕ, List}
use Rattle.line_ends.proofs.Names.{Accounts, Both, DoneLeavesWhole, EndsHaveCauses, HearingsDeliver, HearsPrefixes, IsInLimits, LineRun}
use Rattle.line_ends.proofs.Names.{MayRun, OneIsCarried, RunsLeavePrefixes, RunsLeaveWhatPassed, RunsOver, SamplesAreCarried}
use Rattle.line_ends.proofs.Names.{ScriptsHaveDelays, ScriptsMayPlay, TakesPrefixes, Turn, Wire, delay_of, link_of}
use Rattle.exact_decoder.specs.Surviving.Laws.{ReleasedIsLeast, OfEachCode}
use Rattle.line_run.specs.Scripts.{LineRunsEndSoon}

pub record RunLaws : Type 0 where
  pub play : ScriptsMayPlay
  pub delays : ScriptsHaveDelays
  pub carried : SamplesAreCarried
  pub one : OneIsCarried
  pub takes : TakesPrefixes
  pub hears : HearsPrefixes
  pub delivers : HearingsDeliver
  pub prefixes : RunsLeavePrefixes
  pub whole : DoneLeavesWhole
  pub passed : RunsLeaveWhatPassed
  pub soon : LineRunsEndSoon
  pub causes : EndsHaveCauses
  pub least : OfEachCode ReleasedIsLeast

pub may-run : RunLaws → (c : Wire) (files : Both (List ℕ)) → IsInLimits c.script → MayRun c (link_of c.script files)
may-run laws c files h = record { may_play = laws.play c.script files h; delays = laws.delays c.script h }

pub runs-over : RunLaws → (c : Wire) (files : Both (List ℕ)) (ts : List Turn) (ends : Accounts) → IsInLimits c.script
    → LineRun c (link_of c.script files) ts ends → RunsOver (link_of c.script files) (delay_of c.script) ts ends
runs-over laws c files ts ends h r = grind (arith)
