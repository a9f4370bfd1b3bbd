-- What a command promises: one record, which it hands over to the top call.
use Rattle.std.specs.Prelude.{◌≡◌, true, ℕ, List}
use Rattle.outside_calls.specs.Folder.{FolderState}
use Rattle.command_base.specs.declared.status.Status.{Status}
use Rattle.command_base.specs.Apart.{are_apart}
use Rattle.command_base.specs.Job.{Job, Answers}

-- What a command asks and promises, for the names that words give it.
pub record Promise : Type 1 where
  pub Apart : Type 0  -- asked: no output is another one or an input
  pub Headline : FolderState → FolderState → Status → Type 0  -- what holds of the files afterwards
  pub Answer : List (List ℕ) → FolderState → FolderState → Status → Type 0  -- how it answers these words: its job ends, then its line is printed
  pub Completes : FolderState → FolderState → Status → Type 0  -- when it is done, unless memory runs out

-- the promise of a job's command, with this headline and these conditions of completion
abbrev pub promise_of : {D : Type 0} → Job D → (FolderState → FolderState → Status → Type 0) → (FolderState → FolderState → Status → Type 0) → Promise
promise_of job headline completes = record {
  Apart = are_apart job.inputs job.outputs ≡ true;
  Headline = headline;
  Answer = λ words old new s. Answers job words old new s;
  Completes = completes;
}
