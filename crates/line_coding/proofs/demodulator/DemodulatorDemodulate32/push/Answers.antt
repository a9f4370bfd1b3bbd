use Rattle.line_coding.proofs.Names.{◌∙◌, ℕ, Bool, List, [], ◌∷◌, ◌++◌, ap, subst, refl, flat_map, low_bits, line_of, DescramblesAs}
use Rattle.line_coding.proofs.Names.{LabelReaderStands, quads_of}
use Rattle.line_coding.proofs.Fours.{fours-more}
use Rattle.line_coding.proofs.demodulator.DemodulatorDemodulate32.push.Goals as goal

pub returns-clause-stands : goal.returns-clause-stands
returns-clause-stands c mode labels bits s =
    let read = c.push-quad.ensures.stands labels (quads_of labels) s.reader in
    let line = fours-more (line_of labels) (quads_of labels) c.push-quad.result _ refl refl
    ∙ ap (λ quads. flat_map (low_bits 4) quads) read.quads_is in
    record {
      reader = subst (λ (quads : List ℕ). LabelReaderStands c.push-quad.new.self (labels ++ c.args.label ∷ []) quads) read.quads_is read;
      descrambler = subst (λ (line : List Bool). DescramblesAs mode c.push_four.new.self line (bits ++ low_bits 4 c.push_four.result)) line
          (c.push_four.ensures.stands mode (line_of labels) bits s.descrambler);
    }
