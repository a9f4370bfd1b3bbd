use Rattle.signal_commands.proofs.Names.{◌≡◌, rules, Bits}
use Rattle.signal_commands.proofs.Decoding.Joined.{above, not-wrapped}
use Rattle.signal_commands.proofs.decode.octet_joiner.joined.Goals as goal

pub returns : goal.returns
returns c =
    let low : Bits = c.args.low in
    let high : Bits = c.args.high in
    let one : c.from.result ≡ c.args.low.number = search rules in
    let two : c.from-2.result ≡ c.args.high.number = search rules in
    let room = not-wrapped low.count high.count low.number high.number c.requires.count c.requires.few.0 c.requires.low c.requires.few.1 in
    record {
      bits = rw (one, two, room) (above low.count high.count low.number high.number c.requires.low c.requires.few.1).bits;
      small = rw (one, two, room) (above low.count high.count low.number high.number c.requires.low c.requires.few.1).small;
    }
