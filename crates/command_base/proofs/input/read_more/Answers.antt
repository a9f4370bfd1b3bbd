use Rattle.command_base.proofs.Names.{◌≡◌, ◌∙◌, ◌≤◌, ◌+◌, ◌++◌, [], sym, ap, subst, take, drop, vec_len, arith, length-take-le, octets_at}
use Rattle.command_base.specs.declared.input.TheConstants.{READ}
use Rattle.command_base.proofs.Reading.{none-left}
use Rattle.command_base.proofs.input.read_more.Goals as goal

pub returns-in-Err : goal.returns-in-Err
returns-in-Err g c =
    record { more = tt; bound = tt; octets = tt; reads = c.read_part.ensures.reads; fault = c.in-Err.ensures.fails; stand = tt }

pub returns-in-Ok-extend_from_slice : goal.returns-in-Ok-extend_from_slice
returns-in-Ok-extend_from_slice g c =
    let octets = octets_at (g.F.Folder.state c.args.folder.now) c.args.name.now in
    record {
      more = c.in-Ok-extend_from_slice.ensures.len
          ∙ ap (λ n. vec_len c.args.file.now + n) (length-take-le c.in-Ok.count c.read_part.new.piece
          (subst (λ n. c.in-Ok.count ≤ n) (sym c.in-Ok.ensures.kept) c.in-Ok.ensures.bound));
      bound = subst (λ n. n + c.in-Ok.count ≤ c.args.limit) c.len.ensures c.in-Ok.ensures.within;
      octets = λ told. (
        subst (λ n. c.extend_from_slice.new.self.items ≡ c.args.file.now.items ++ take c.in-Ok.count (drop n octets)) c.len.ensures
            (subst (λ xs. c.extend_from_slice.new.self.items ≡ c.args.file.now.items ++ xs) (c.in-Ok.ensures.front told)
            c.in-Ok-extend_from_slice.ensures.items),
        λ none. subst (λ n. drop n octets ≡ []) c.len.ensures
            (none-left octets READ c.args.limit c.len.result c.in-Ok.count (omega arith) (omega (arith, c.requires, c.len.ensures))
            (c.in-Ok.ensures.count told) none),
      );
      reads = c.read_part.ensures.reads;
      fault = tt;
      stand = c.in-Ok.ensures.stand;
    }

pub returns-in-Err-extend_from_slice : goal.returns-in-Err-extend_from_slice
returns-in-Err-extend_from_slice g c =
    record { more = tt; bound = tt; octets = tt; reads = c.read_part.ensures.reads; fault = c.in-Ok.ensures.stand.faults; stand = tt }
