use Rattle.scramblers.proofs.Names.{arith}
use Rattle.scramblers.proofs.Streams.{Scrambles-more}
use Rattle.scramblers.proofs.scrambler.Scrambler.push.Goals as goal

pub returns : goal.returns
returns g c = λ input line h.
    let near = c.bit_before.ensures line (rw c.self.view_is h.holds) in
    let far = c.bit_before-2.ensures line (rw c.self.view_is h.holds) in
    record {
      scrambled = Scrambles-more g.row.TAP input line c.args.bit _ (omega arith) h.scrambled cc;
      holds = c.shifted-self-inside.ensures line (rw c.self.view_is h.holds);
    }
