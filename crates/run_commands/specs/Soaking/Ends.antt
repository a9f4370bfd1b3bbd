-- How a soak ends, before its line is said: by its answer, the run of its seed ended so.
use Rattle.std.specs.Prelude.{◌≡◌, ℕ, List, [], ◌∷◌, Result, Ok, Err}
use Rattle.std.specs.Option.{MatchOption}
use Rattle.shared_terms.specs.declared.role.Role.TheVariants.{Originator, Answerer}
use Rattle.shared_terms.specs.Both.{Both}
use Rattle.noise_script.specs.Script.{IsInLimits}
use Rattle.link_run.specs.Counts.{lost_slots, sent_again}
use Rattle.link_run.specs.Run.{Link}
use Rattle.line_run.specs.Sampled.{Wire}
use Rattle.line_run.specs.Ends.{RunEnd, Left, RunsTo}
use Rattle.line_run.specs.Ends as runs
use Rattle.line_run.specs.Scripted.{wire_of, link_of}
use Rattle.line_run.specs.declared.fault.RunFault.{RunFault}
use Rattle.line_run.specs.declared.fault.RunFault.TheVariants as faults
use Rattle.command_base.specs.declared.status.Status.{Status}
use Rattle.command_base.specs.declared.stop.Stop.{Stop}
use Rattle.command_base.specs.declared.stop.Stop.TheVariants.{Own, NoMemory}
use Rattle.run_inputs.specs.Answers.{stop_by, fault_stop}
use Rattle.command_base.specs.Job.{Job}
use Rattle.command_base.specs.Lines.{soak_line}
use Rattle.run_commands.specs.Soaking.Soak.{soak_file, soak_script}
use Rattle.run_commands.specs.declared.soak.counts.SoakCounts.{SoakCounts}

-- both files of a seed
abbrev pub soak_files : ℕ → Both (List ℕ)
soak_files seed = record { orig = soak_file seed Originator; answ = soak_file seed Answerer }

-- the line and the link of a seed
abbrev pub soak_wire : ℕ → Wire
soak_wire seed = wire_of (soak_script seed)

abbrev pub soak_link : ℕ → Link
soak_link seed = link_of (soak_script seed) (soak_files seed)

-- The run of the seed's script and files ends so.
pub record SoakEnds (seed : ℕ) (end : RunEnd) : Type 0 where
  pub limits : IsInLimits (soak_script seed)
  pub left : Left
  pub run : RunsTo (soak_wire seed) (soak_link seed) end left

-- It is done in this turn, with so many slots lost and so many segments sent again in all its turns, the last one too.
pub record IsSoaked (seed : ℕ) (counts : SoakCounts) : Type 0 where
  pub ends : SoakEnds seed (runs.IsDone counts.turn)
  pub lost_is : counts.lost ≡ lost_slots (ends.run.ended.last ∷ ends.run.turns)
  pub again_is : counts.again ≡ sent_again (ends.run.ended.last ∷ ends.run.turns)

-- the answers by which the run itself ends, each by its cause
abbrev pub RanBy : ℕ → Status → Type 0
RanBy seed answer = MatchOption (stop_by answer) ⊥ (SoakEnds seed)

-- how a soak ends: done, or as its run does; there may be no memory at any time, and no call of its folder fails
abbrev pub Ends : ℕ → Result SoakCounts Stop → Type 0
Ends seed (Ok counts) = IsSoaked seed counts
Ends seed (Err (Own answer)) = RanBy seed answer
Ends seed (Err NoMemory) = Unit {0}
Ends seed (Err stop) = ⊥

-- why a soak stops whose turns end by this fault: all that its folder can lack is memory, which no folder of the user's refused
abbrev pub soak_stop : RunFault → Stop
soak_stop faults.NoMemory = NoMemory
soak_stop fault = fault_stop fault

-- The job of the command: it reads and writes no name, and its line says the last turn and what the turns show.
abbrev pub soak_job : ℕ → Job SoakCounts
soak_job seed = record {
  inputs = [];
  outputs = [];
  Ends = λ old new end. Ends seed end × (new ≡ old);
  line_of = λ counts. soak_line seed counts.turn counts.lost counts.again;
}
