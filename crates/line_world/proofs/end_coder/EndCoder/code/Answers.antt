use Rattle.line_world.proofs.Cited.{signal_of}
use Rattle.line_world.proofs.Coded.{signals_of, same-signal, codes-as, codes-on}
use Rattle.line_world.proofs.end_coder.EndCoder.code.Goals as goal

pub returns : goal.returns
returns c =
    let e = c.args.self.now in
    let signal = signal_of c.args.check e.coder.sender c.args.dlci c.args.sent.now in
    record {
      labels = λ channel role stream x h p. codes-as e channel role stream x signal c.code.new.labels h
          (same-signal e channel role stream x c.args.sent.now c.args.check c.args.dlci h p)
          (c.code.ensures.labels (signals_of role stream) h.stands);
      stands = λ channel role stream x h p. codes-on e c.code.new.self c.code.new.bits channel role stream x signal h
          (same-signal e channel role stream x c.args.sent.now c.args.check c.args.dlci h p) c.code.ensures.sender c.code.ensures.symbols
          (c.code.ensures.stands (signals_of role stream) h.stands) (c.code.ensures.bits (signals_of role stream) h.stands);
    }
