-- What calls leave of the folder handed in, over any number of them.
use Rattle.std.specs.Prelude.{ℕ, ◌≤◌}
use Rattle.std.proofs.Math.Nat.{le_refl, le_trans}
use Rattle.outside_calls.specs.Folder.{FolderState, OnlyReads}
use Rattle.outside_calls.proofs.Steps.{OnlyReads-refl, OnlyReads-trans}

-- Of the folder handed in nothing changed but counts of reading and of memory; of the folder's own refusals none was taken back.
pub record OnlyPassed (old new : FolderState) (refusals_old refusals_new : ℕ) : Type 0 where
  pub reads : OnlyReads old new
  pub refused : refusals_old ≤ refusals_new

-- no call at all
pub OnlyPassed-refl : (a : FolderState) (r : ℕ) → OnlyPassed a a r r
OnlyPassed-refl a r = record { reads = OnlyReads-refl a; refused = le_refl r }

-- calls after calls
pub OnlyPassed-trans : {a b c : FolderState} {r s t : ℕ} → OnlyPassed a b r s → OnlyPassed b c s t → OnlyPassed a c r t
OnlyPassed-trans p q = record { reads = OnlyReads-trans p.reads q.reads; refused = le_trans p.refused q.refused }
