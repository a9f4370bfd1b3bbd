use Rattle.rate_4800.proofs.Names.{◌≡◌, ◌∙◌, ℕ, Bool, List, [], ◌∷◌, ◌++◌, refl, ap, subst, append_assoc, flat_map, low_bits, DescramblesAs}
use Rattle.rate_4800.proofs.Names.{line_of, UnturnerStands, unturned}
use Rattle.rate_4800.proofs.Twos.{fours-more}
use Rattle.rate_4800.proofs.demodulator.DemodulatorDemodulate4.push_two.Goals as goal

pub returns-clause-stands : goal.returns-clause-stands
returns-clause-stands c mode labels bits s =
    let first = c.decode-low.ensures.stands labels (unturned labels) s.unturner in
    let second = c.decode-high.ensures.stands (labels ++ c.args.first ∷ []) (unturned labels ++ c.decode-low.result ∷ []) first in
    let all : (labels ++ c.args.first ∷ []) ++ c.args.second ∷ [] ≡ labels ++ c.args.first ∷ c.args.second ∷ [] =
    append_assoc labels (c.args.first ∷ []) (c.args.second ∷ []) in
    let read = subst (λ (l : List ℕ). UnturnerStands c.decode-high.new.self l
    ((unturned labels ++ c.decode-low.result ∷ []) ++ c.decode-high.result ∷ [])) all second in
    let line = fours-more (line_of labels) (unturned labels) c.decode-low.result c.decode-high.result c.decode-low.ensures.below refl
    ∙ ap (λ turns. flat_map (low_bits 2) turns) read.unturned_is in
    record {
      unturner = subst (λ (turns : List ℕ). UnturnerStands c.decode-high.new.self (labels ++ c.args.first ∷ c.args.second ∷ []) turns)
          read.unturned_is read;
      descrambler = subst (λ (line : List Bool). DescramblesAs mode c.push_four.new.self line (bits ++ low_bits 4 c.push_four.result)) line
          (c.push_four.ensures.stands mode (line_of labels) bits s.descrambler);
    }
