-- What a soak promises, over the folder before and after it.
use Rattle.std.specs.Prelude.{◌≡◌, ℕ, []}
use Rattle.std.specs.Option.{MatchOption}
use Rattle.shared_terms.specs.Prefix.{IsPrefixOf}
use Rattle.outside_calls.specs.Folder.{FolderState, Said}
use Rattle.shared_terms.specs.declared.role.Role.{Role}
use Rattle.shared_terms.specs.Role.{other}
use Rattle.shared_terms.specs.Both.{of}
use Rattle.line_run.specs.Ends.{RunEnd}
use Rattle.line_run.specs.Ends as runs
use Rattle.line_ends.specs.Scripts.{HasFewTurns}
use Rattle.line_ends.specs.Causes.{HasCause}
use Rattle.command_base.specs.declared.status.Status.{Status}
use Rattle.command_base.specs.declared.status.Status.TheVariants.{Done}
use Rattle.run_inputs.specs.Answers.{stop_by}
use Rattle.command_base.specs.Job.{Shared}
use Rattle.command_base.specs.Lines.{soak_line}
use Rattle.run_commands.specs.Soaking.Soak.{soak_file, soak_script}
use Rattle.run_commands.specs.declared.soak.counts.SoakCounts.{SoakCounts}
use Rattle.run_commands.specs.Soaking.Ends.{SoakEnds, IsSoaked, soak_wire, soak_files}

-- The run of the seed ended so: each end received the beginning of the other's file, there were few turns, and its end has its cause: no link
-- was given up but for losses that went on.
pub record Soaks (seed : ℕ) (end : RunEnd) : Type 0 where
  pub ends : SoakEnds seed end
  pub begins : (role : Role) → IsPrefixOf (of role ends.left.got) (soak_file seed (other role))
  pub few : HasFewTurns (soak_script seed) (soak_files seed) ends.run.turns ends.run.ends
  pub cause : HasCause (soak_wire seed) (soak_files seed) end ends.left ends.run

-- It was done, what its turns show was said, and each end received the other's file whole.
pub record SoaksWhole (old new : FolderState) (seed : ℕ) : Type 0 where
  pub counts : SoakCounts
  pub said : Said old new (soak_line seed counts.turn counts.lost counts.again)
  pub soaked : IsSoaked seed counts
  pub whole : (role : Role) → of role soaked.ends.left.got ≡ soak_file seed (other role)
  pub soaks : Soaks seed (runs.IsDone counts.turn)

-- the run, where the answer is one by which it ends
abbrev pub RanBy : FolderState → FolderState → ℕ → Status → Type 0
RanBy old new seed Done = SoaksWhole old new seed
RanBy old new seed status = MatchOption (stop_by status) (Unit {0}) (Soaks seed)

-- No name changes, and each end of the run has its cause.
pub record Headline (old new : FolderState) (seed : ℕ) (s : Status) : Type 0 where
  pub shared : Shared [] [] old new s
  pub ran : RanBy old new seed s
