use Rattle.line_coding.proofs.Names.{[], ◌∷◌, ◌++◌, sym, subst, low_bits, ModulatorStands, Sample}
use Rattle.line_coding.proofs.modulator.Modulator.push.Goals as goal

pub returns : goal.returns
returns c mode bits samples s =
    subst (λ (p : Sample). ModulatorStands mode c.label.new.self (bits ++ low_bits 4 c.args.quad) (samples ++ p ∷ [])) (sym c.point.ensures)
    (c.label.ensures.stands mode bits samples s)
