use Rattle.line_coding.proofs.Names.{◌≡◌, ◌∙◌, Bool, List, ℕ, [], ◌∷◌, ◌++◌, refl, ap, subst, append_assoc, flat_map, low_bits, octet_bits}
use Rattle.line_coding.proofs.Names.{line_of, DescramblesAs, LabelReaderStands, quads_of}
use Rattle.line_coding.proofs.Fours.{octets-more}
use Rattle.line_coding.proofs.demodulator.DemodulatorDemodulate32.push_two.Goals as goal

pub returns-clause-stands : goal.returns-clause-stands
returns-clause-stands c mode labels bits s =
    let first = c.push-low.ensures.stands labels (quads_of labels) s.reader in
    let second = c.push-high.ensures.stands (labels ++ c.args.first ∷ []) (quads_of labels ++ c.push-low.result ∷ []) first in
    let all : (labels ++ c.args.first ∷ []) ++ c.args.second ∷ [] ≡ labels ++ c.args.first ∷ c.args.second ∷ [] =
    append_assoc labels (c.args.first ∷ []) (c.args.second ∷ []) in
    let read = subst (λ (l : List ℕ). LabelReaderStands c.push-high.new.self l
    ((quads_of labels ++ c.push-low.result ∷ []) ++ c.push-high.result ∷ [])) all second in
    let line = octets-more (line_of labels) (quads_of labels) c.push-low.result c.push-high.result c.push-low.ensures.bound
    c.push-high.ensures.bound refl ∙ ap (λ quads. flat_map (low_bits 4) quads) read.quads_is in
    record {
      reader = subst (λ (quads : List ℕ). LabelReaderStands c.push-high.new.self (labels ++ c.args.first ∷ c.args.second ∷ []) quads)
          read.quads_is read;
      descrambler = subst (λ (line : List Bool). DescramblesAs mode c.push_octet.new.self line
          (bits ++ octet_bits c.push_octet.result)) line
          (c.push_octet.ensures mode (line_of labels) bits s.descrambler);
    }
