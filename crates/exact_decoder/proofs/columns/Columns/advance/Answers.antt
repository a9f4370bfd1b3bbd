use Rattle.exact_decoder.proofs.Names.{◌≡◌, ◌+◌, ◌-◌, arith, choices_of, columns_in, from_newest}
use Rattle.exact_decoder.proofs.Rings.{columns-more}
use Rattle.exact_decoder.proofs.columns.Columns.advance.Goals as goal

pub returns : goal.returns
returns g c =
    let items = c.make_room-newest.new.items.items in
    let room = c.make_room-newest.result in
    let count = c.self.inside.count in
    let next : room ≡ room - 1 + 1 = omega (arith, c.make_room-newest.ensures.room) in
    let old : columns_in (from_newest (room - 1 + 1) count items) ≡ c.args.self.now = grind (arith) in (
      choices_of c.advance.new.column,
      columns-more items (room - 1) count c.advance.new.column c.args.self.now c.self.invariant.0
          (omega (arith, c.make_room-newest.ensures.room, c.make_room-newest.ensures.within)) old,
      c.advance.ensures,
    )
