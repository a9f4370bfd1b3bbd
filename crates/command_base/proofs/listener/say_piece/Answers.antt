use Rattle.command_base.proofs.Names.{List, ℕ, sym, subst, IsLine, FolderState, Said, PartlySaid}
use Rattle.command_base.proofs.Saying.{on-err-map, on-ok-map}
use Rattle.command_base.proofs.listener.say_piece.Goals as goal

pub returns-clause-ok : goal.returns-clause-ok
returns-clause-ok g c = λ found piece octets.
    let now : FolderState = g.F.Folder.state c.args.folder.now in let new : FolderState = g.F.Folder.state c.say_line.new.folder in
    on-ok-map {P = Said now new c.as_slice.result.now} c.say_line.result (λ said. record {
      line = c.as_slice.result.now;
      is_line = subst (λ (xs : List ℕ). IsLine c.args.sender found xs) (sym c.as_slice.ensures.items)
          (c.put_piece.ensures found piece octets);
      said = said;
    }) c.say_line.ensures.ok

pub returns-clause-err : goal.returns-clause-err
returns-clause-err g c = λ found piece octets.
    let now : FolderState = g.F.Folder.state c.args.folder.now in let new : FolderState = g.F.Folder.state c.say_line.new.folder in
    on-err-map {P = PartlySaid now new c.as_slice.result.now} c.say_line.result (λ said. record {
      line = c.as_slice.result.now;
      is_line = subst (λ (xs : List ℕ). IsLine c.args.sender found xs) (sym c.as_slice.ensures.items)
          (c.put_piece.ensures found piece octets);
      said = said;
    }) c.say_line.ensures.err
