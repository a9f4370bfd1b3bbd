-- How a run ended that an answer is of, and that a job which has the answer stopped for it.
use Rattle.run_inputs.proofs.Names.{◌≡◌, ◌∙◌, List, ℕ, Result, Ok, Err, refl, sym, ap, Stop, FolderState, FolderFault}
use Rattle.std.proofs.Common.{Bool, true, false, is_some}
use Rattle.std.specs.Option.{MatchOption}
use Rattle.std.proofs.lemmas.Bool.{false≢true}
use Rattle.outside_calls.specs.declared.folder.FolderFault.TheVariants as folder
use Rattle.line_run.specs.Ends.{RunEnd, GivesUp, LineEnds}
use Rattle.line_run.specs.Ends as runs
use Rattle.command_base.specs.declared.status.Status.{Status}
use Rattle.command_base.specs.declared.status.Status.TheVariants.{Done, ReadFault, WriteFault, NoMemory}
use Rattle.command_base.specs.declared.status.Status.TheVariants.{LinkLost, NotDetected, LineLost, ChanceMatch}
use Rattle.command_base.specs.declared.stop.Stop.TheVariants as stops
use Rattle.command_base.specs.Job.{SaysLast}
use Rattle.command_base.specs.Stops.{fault_status, end_status}
use Rattle.command_base.proofs.Jobs.{last-plain}
use Rattle.run_inputs.specs.Answers.{answer_of, stop_by}

-- what is so of the end of a run that an answer stops is so of an end to which that is the answer
pub stopped-by : (P : RunEnd → Type 0) (answer : Status) → MatchOption (stop_by answer) ⊥ P
    → (end : RunEnd) × (answer ≡ answer_of end) × P end
stopped-by P (LinkLost role segment turn) h = (runs.LinkLost role segment turn, refl, h)
stopped-by P (NotDetected turn) h = (runs.NotDetected turn, refl, h)
stopped-by P (LineLost role symbol) h = (runs.LineLost role symbol, refl, h)
stopped-by P (ChanceMatch role turn) h = (runs.ChanceMatch role turn, refl, h)
stopped-by P answer h = absurd h

-- in such a run an end gave the link up, or the line ended it
pub stopped-how : {C : Type 0} (P : RunEnd → Type 0) (answer : Status) → MatchOption (stop_by answer) ⊥ P
    → ((end : RunEnd) → GivesUp end → P end → C) → ((end : RunEnd) → LineEnds end → P end → C) → C
stopped-how P (LinkLost role segment turn) h up line = up (runs.LinkLost role segment turn) tt h
stopped-how P (NotDetected turn) h up line = up (runs.NotDetected turn) tt h
stopped-how P (LineLost role symbol) h up line = line (runs.LineLost role symbol) tt h
stopped-how P (ChanceMatch role turn) h up line = line (runs.ChanceMatch role turn) tt h
stopped-how P answer h up line = absurd h

-- ---- a job that is answered so stopped for that answer

-- A test that a command's own answers alone pass: none that a job has which is done, or stopped by the folder or for want of memory.
pub record IsOfOwn (test : Status → Bool) : Type 0 where
  pub done : test Done ≡ false
  pub read : test ReadFault ≡ false
  pub write : test WriteFault ≡ false
  pub memory : test NoMemory ≡ false

module _ (test : Status → Bool) (own : IsOfOwn test) where
  passes-none : {s t : Status} → test s ≡ false → s ≡ t → test t ≡ true → ⊥
  passes-none f e k = false≢true (sym f ∙ ap test e ∙ k)

  no-fault : (failed : Status) (fault : FolderFault) (t : Status) → test failed ≡ false → fault_status failed fault ≡ t → test t ≡ true
      → ⊥
  no-fault failed folder.Failed t f e k = passes-none f e k
  no-fault failed folder.NoMemory t f e k = passes-none own.memory e k

  own-end : {D : Type 0} (end : Result D Stop) (t : Status) → test t ≡ true → end_status end ≡ t → end ≡ Err (stops.Own t)
  own-end (Ok done) t k e = absurd (passes-none own.done e k)
  own-end (Err (stops.Own answer)) t k e = ap (λ x. Err (stops.Own x)) e
  own-end (Err (stops.Read fault)) t k e = absurd (no-fault ReadFault fault t own.read e k)
  own-end (Err (stops.Write fault)) t k e = absurd (no-fault WriteFault fault t own.write e k)
  own-end (Err (stops.Say fault)) t k e = absurd (no-fault WriteFault fault t own.write e k)
  own-end (Err stops.NoMemory) t k e = absurd (passes-none own.memory e k)

  pub stopped-so : {D : Type 0} (line_of : D → List ℕ) (words : List (List ℕ)) (before new : FolderState) (end : Result D Stop)
      (s t : Status)
      → SaysLast line_of words before new end s → s ≡ t → test t ≡ true → end ≡ Err (stops.Own t)
  stopped-so line_of words before new end s t says e k =
      own-end end t k (last-plain line_of words before new end s t says e (record {
        write = λ f. passes-none own.write (sym f) k;
        memory = λ f. passes-none own.memory (sym f) k;
      }))

-- by which a run itself ends
abbrev pub is_run_end : Status → Bool
is_run_end answer = is_some (stop_by answer)

pub run-ends-own : IsOfOwn is_run_end
run-ends-own = record { done = refl; read = refl; write = refl; memory = refl }
