use Rattle.command_base.proofs.Names.{Bool, List, ℕ, sym, subst, Hears, low_bits, FolderState}
use Rattle.command_base.proofs.Hearing.{low-four}
use Rattle.command_base.proofs.listener.Listener.hear_some.Goals as goal

pub returns-in-4-clause-hears : goal.returns-in-4-clause-hears
returns-in-4-clause-hears g c =
    let old : FolderState = g.F.Folder.state c.args.folder.now in let new : FolderState = g.F.Folder.state c.hear_four.new.folder in
    subst (λ (n : ℕ). Hears old new c.args.self.now c.hear_four.new.self (low_bits n c.args.octet) c.hear_four.result) (sym c.in-4.is)
    (subst (λ (bits : List Bool). Hears old new c.args.self.now c.hear_four.new.self bits c.hear_four.result) (low-four c.args.octet)
    c.hear_four.ensures.hears)
