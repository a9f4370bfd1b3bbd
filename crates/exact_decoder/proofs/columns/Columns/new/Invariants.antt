use Rattle.exact_decoder.proofs.Names.{◌≡◌, ℕ, ◌≤◌, length, columns_in, AreColumns}
use Rattle.exact_decoder.proofs.columns.Columns.new.Given as goal

abbrev pub invariant-loop : goal.invariant-loop
invariant-loop g l = (length l.items.items ≡ l.counter)
    × ((labels : ℕ) → 1 ≤ labels → AreColumns g.row.STATES labels (columns_in l.items.items))
