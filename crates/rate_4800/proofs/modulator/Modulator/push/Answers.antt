use Rattle.rate_4800.proofs.Names.{◌∙◌, ℕ, ◌<◌, [], ◌∷◌, ◌++◌, sym, ap, map, low_bits, point_of}
use Rattle.std.proofs.lemmas.List.Elements.{All-push}
use Rattle.std.proofs.lemmas.List.{map-append}
use Rattle.rate_4800.proofs.Twos.{twos-more}
use Rattle.rate_4800.proofs.modulator.Modulator.push.Goals as goal

pub returns : goal.returns
returns c mode bits samples s =
    let turns : ℕ = c.push_two-turns.result in
    record {
      line = s.line ++ low_bits 2 turns;
      turns = s.turns ++ turns ∷ [];
      labels = s.labels ++ c.encode-label.result ∷ [];
      scrambler = c.push_two-turns.ensures.stands mode bits s.line s.scrambler;
      in_twos = twos-more s.line s.turns turns s.in_twos;
      are_turns = All-push (λ n. n < 4) s.turns turns s.are_turns c.push_two-turns.ensures.bound;
      turner = c.encode-label.ensures.stands s.turns s.labels s.turner;
      points = ap (λ xs. xs ++ c.point.result ∷ []) s.points ∙ ap (λ p. map point_of s.labels ++ p ∷ []) c.point.ensures
          ∙ sym (map-append point_of s.labels (c.encode-label.result ∷ []));
    }
