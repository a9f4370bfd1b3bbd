use Rattle.scramblers.proofs.Names.{arith}
use Rattle.scramblers.proofs.Streams.{Descrambles-more}
use Rattle.scramblers.proofs.descrambler.Descrambler.push.Goals as goal

pub returns : goal.returns
returns g c = λ line output h.
    let near = c.bit_before.ensures line (rw c.self.view_is h.holds) in
    let far = c.bit_before-2.ensures line (rw c.self.view_is h.holds) in
    record {
      descrambled = Descrambles-more g.row.TAP line output c.args.bit _ (omega arith) h.descrambled cc;
      holds = c.shifted-self-inside.ensures line (rw c.self.view_is h.holds);
    }
