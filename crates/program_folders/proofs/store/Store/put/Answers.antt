use Rattle.std.proofs.Common.{◌∙◌}
use Rattle.std.specs.FinMap as finite
use Rattle.program_folders.proofs.Stored.{files_of-updates, get-updates_other}
use Rattle.program_folders.proofs.store.Store.put.Goals as goal

pub returns-clause-ok : goal.returns-clause-ok
returns-clause-ok c =
    files_of-updates c.self.inside.files c.insert.new.self _ _ c.in_ok-insert.ensures.updates
    ∙ (λ i. finite.insert (c.self.view_is i) (c.in_ok-key.ensures.ok i) (c.in_ok-value.ensures.items i))

pub returns-clause-others : goal.returns-clause-others
returns-clause-others c =
    rw (← c.self.view_is)
    (get-updates_other c.self.inside.files c.insert.new.self c.args.name.now c.in_ok-value.value
    (rw (← c.in_ok-key.ensures.ok) c.in_ok-insert.ensures.updates))
