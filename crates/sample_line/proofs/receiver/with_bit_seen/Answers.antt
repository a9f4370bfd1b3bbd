use Rattle.sample_line.proofs.Names.{◌+◌, List, [], ◌∷◌, ◌++◌, length, sym, ap, subst, ◌∙◌, option_to_list, seen_at, sights_at, Seen}
use Rattle.sample_line.proofs.Names.{Tallies}
use Rattle.sample_line.proofs.Finding.{kinds-at}
use Rattle.sample_line.proofs.receiver.with_bit_seen.Goals as goal
use Rattle.detection.proofs.Sightings.{sights-more}

pub returns-clause-tallied : goal.returns-clause-tallied
returns-clause-tallied c = λ sender dlci bits octets patterns h tallied.
    let seen = seen_at (bits ++ c.args.bit ∷ []) in
    record {
      sights = sights_at (length bits + 1) seen;
      sights_are = sights-more bits c.args.bit;
      tallies = subst (λ (xs : List Seen). Tallies sender dlci c.args.sent.now octets (patterns ++ xs) c.with_pattern.result)
          (ap option_to_list (c.push-pattern.ensures.value bits h) ∙ sym (kinds-at (length bits + 1) seen))
          (c.with_pattern.ensures sender dlci octets patterns tallied);
    }
