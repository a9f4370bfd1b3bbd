use Rattle.rate_4800.proofs.Names.{ℕ, Bool, List, [], ◌∷◌, ◌++◌, subst, refl, ◌∙◌, ap, flat_map, low_bits, DescramblesAs, line_of}
use Rattle.rate_4800.proofs.Names.{UnturnerStands, unturned}
use Rattle.rate_4800.proofs.Twos.{twos-more}
use Rattle.rate_4800.proofs.demodulator.DemodulatorDemodulate4.push.Goals as goal

pub returns-clause-stands : goal.returns-clause-stands
returns-clause-stands c mode labels bits s =
    let read = c.decode-turns.ensures.stands labels (unturned labels) s.unturner in
    let line = twos-more (line_of labels) (unturned labels) c.decode-turns.result refl
    ∙ ap (λ turns. flat_map (low_bits 2) turns) read.unturned_is in
    record {
      unturner = subst (λ (turns : List ℕ). UnturnerStands c.decode-turns.new.self (labels ++ c.args.label ∷ []) turns) read.unturned_is
          read;
      descrambler = subst (λ (line : List Bool). DescramblesAs mode c.push_two.new.self line (bits ++ low_bits 2 c.push_two.result)) line
          (c.push_two.ensures.stands mode (line_of labels) bits s.descrambler);
    }
