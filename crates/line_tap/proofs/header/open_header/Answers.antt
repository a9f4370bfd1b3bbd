use Rattle.line_tap.proofs.Cited.{◌≡◌, ℕ, ◌+◌, List, [], length, take, ap, subst, arith, ReadTo, IsNotHeader, FolderState, header_of}
use Rattle.line_tap.specs.declared.limits.TheConstants.{TAP_LIMIT}
use Rattle.line_tap.proofs.HeaderRead.{header-octets}
use Rattle.line_tap.proofs.header.open_header.Goals as goal

pub returns-in-Ok-check_header : goal.returns-in-Ok-check_header
returns-in-Ok-check_header g c = record {
  ok = λ start h.
      let name : List ℕ = c.args.name.now in
      let new : FolderState = g.F.Folder.state c.read_piece.new.folder in
      let piece : List ℕ = take c.in-Ok.count c.read_piece.new.piece in
      let is : piece ≡ header_of c.args.mode = c.in-Ok-check_header.ensures.ok in
      let r : ReadTo start new name TAP_LIMIT (0 + c.in-Ok.count) piece = c.in-Ok.ensures.more start [] h in
      let eight : 0 + c.in-Ok.count ≡ 8 = omega (arith, r.count, ap (λ (xs : List ℕ). length xs) is) in
      subst (λ (at : ℕ). ReadTo start new name TAP_LIMIT at (header_of c.args.mode)) eight
      (subst (λ (xs : List ℕ). ReadTo start new name TAP_LIMIT (0 + c.in-Ok.count) xs) is r);
  err = λ start h. tt;
  reads = c.in-Ok.ensures.reads;
  stand = c.in-Ok.ensures.stand;
  counts = λ outputs. tt;
}

pub returns-in-Err-check_header : goal.returns-in-Err-check_header
returns-in-Err-check_header g c = record {
  ok = λ start h. tt;
  err = λ start h told.
      let piece : List ℕ = take c.in-Ok.count c.read_piece.new.piece in
      subst (λ (xs : List ℕ). IsNotHeader c.args.mode xs c.in-Err-check_header.at)
      (header-octets start (g.F.Folder.state c.read_piece.new.folder) c.args.name.now c.in-Ok.count piece c.in-Ok.ensures.bound
      (c.in-Ok.ensures.more start [] h) (c.in-Ok.ensures.end start [] h) told) c.in-Err-check_header.ensures.err;
  reads = c.in-Ok.ensures.reads;
  stand = tt;
  counts = λ outputs. (tt, c.in-Ok.ensures.stand);
}

pub returns-in-Err : goal.returns-in-Err
returns-in-Err g c = record {
  ok = λ start h. tt;
  err = λ start h. tt;
  reads = c.in-Err.ensures.reads;
  stand = tt;
  counts = λ outputs. c.in-Err.ensures.fails;
}
