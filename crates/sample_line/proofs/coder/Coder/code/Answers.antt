use Rattle.sample_line.proofs.Names.{◌≡◌, ◌∷◌, [], ◌++◌, refl, sym, subst, line_bits, Signal, Coding, CoderStands, IsCodedAs, bits_in}
use Rattle.sample_line.proofs.Names.{bits_behind, signal_of}
use Rattle.sample_line.proofs.SlotCoding.{codes-bits, codes-labels, codes-stand}
use Rattle.sample_line.proofs.coder.Coder.code.Goals as goal

pub returns : goal.returns
returns c =
    let old : Coding =
    record { sender = c.self.inside.sender; writer = c.self.inside.writer; modulator = c.self.inside.modulator } in
    let new : Coding =
    record { sender = c.self.inside.sender; writer = c.write_sent.new.writer; modulator = c.write_labels.new.modulator } in
    let signal : Signal = signal_of c.args.check old.sender c.args.dlci c.args.sent.now in
    record {
      bits = λ signals h.
          let s = subst (λ (k : Coding). CoderStands k signals) (sym c.self.view_is) h in
          subst (λ (k : Coding). line_bits c.write_sent.new.out
          ≡ bits_behind (bits_in k) signals (signal_of c.args.check k.sender c.args.dlci c.args.sent.now)) c.self.view_is
          (codes-bits old signals signal (line_bits c.write_sent.new.out) s c.write_sent.ensures.bits);
      labels = λ signals h.
          let s = subst (λ (k : Coding). CoderStands k signals) (sym c.self.view_is) h in
          subst (λ (k : Coding). IsCodedAs k.sender (bits_in k) signals (signal_of c.args.check k.sender c.args.dlci c.args.sent.now)
          c.write_labels.new.out) c.self.view_is
          (codes-labels old c.write_labels.new.modulator signals signal (line_bits c.write_sent.new.out) c.write_labels.new.out s
          (codes-bits old signals signal (line_bits c.write_sent.new.out) s c.write_sent.ensures.bits) c.write_labels.ensures);
      stands = λ signals h.
          let s = subst (λ (k : Coding). CoderStands k signals) (sym c.self.view_is) h in
          subst (λ (k : Coding). CoderStands new (signals ++ signal_of c.args.check k.sender c.args.dlci c.args.sent.now ∷ []))
          c.self.view_is
          (codes-stand old c.write_sent.new.writer c.write_labels.new.modulator signals signal (line_bits c.write_sent.new.out)
          c.write_labels.new.out s (codes-bits old signals signal (line_bits c.write_sent.new.out) s c.write_sent.ensures.bits)
          c.write_sent.ensures.symbols c.write_sent.ensures.stands c.write_labels.ensures);
      sender = subst (λ (k : Coding). new.sender ≡ k.sender) c.self.view_is refl;
      symbols = subst (λ (k : Coding). new.writer.symbols ≡ k.writer.symbols) c.self.view_is c.write_sent.ensures.symbols;
    }
