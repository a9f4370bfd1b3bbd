use Rattle.command_base.proofs.Names.{◌≡◌, ◌≤◌, length, take, sym, subst, length-take-le, FolderState}
use Rattle.command_base.proofs.Reading.{ReadTo-more, ReadTo-end}
use Rattle.command_base.proofs.input.read_piece.Goals as goal

pub returns-in-Ok : goal.returns-in-Ok
returns-in-Ok g c =
    let old : FolderState = g.F.Folder.state c.args.folder.now in
    let new : FolderState = g.F.Folder.state c.read_part.new.folder in
    let count = c.in-Ok.count in
    let long : length (take count c.read_part.new.piece) ≡ count =
    length-take-le count c.read_part.new.piece (subst (λ n. count ≤ n) (sym c.read_part.ensures.kept) c.in-Ok.ensures.bound) in
    record {
      more = λ start octets r.
          ReadTo-more start old new c.args.name.now c.args.limit c.args.at count octets _ r c.read_part.ensures.reads long
          c.in-Ok.ensures.front;
      end = λ start octets r few told.
          ReadTo-end start old new c.args.name.now c.args.limit c.args.at count _ octets _ r c.read_part.ensures.reads long
          c.in-Ok.ensures.front c.in-Ok.ensures.count few told;
      bound = c.in-Ok.ensures.bound;
      within = c.in-Ok.ensures.within;
      kept = c.read_part.ensures.kept;
      reads = c.read_part.ensures.reads;
      fails = tt;
      stand = c.in-Ok.ensures.stand;
    }

pub returns-in-Err : goal.returns-in-Err
returns-in-Err g c = record {
  more = λ start octets r. tt;
  end = λ start octets r. tt;
  bound = tt;
  within = tt;
  kept = c.read_part.ensures.kept;
  reads = c.read_part.ensures.reads;
  fails = c.in-Err.ensures.fails;
  stand = tt;
}
