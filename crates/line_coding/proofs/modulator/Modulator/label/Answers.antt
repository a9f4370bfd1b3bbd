use Rattle.line_coding.proofs.Names.{◌∙◌, ℕ, ◌<◌, [], ◌∷◌, ◌++◌, refl, sym, ap, low_bits}
use Rattle.std.proofs.lemmas.List.Elements.{All-push}
use Rattle.std.proofs.lemmas.List.{map-append}
use Rattle.symbol_map.specs.Points.{point_of}
use Rattle.line_coding.proofs.Fours.{fours-more}
use Rattle.line_coding.proofs.modulator.Modulator.label.Goals as goal

pub returns-clause-stands : goal.returns-clause-stands
returns-clause-stands c mode bits samples s =
    let quad : ℕ = c.push_four-scrambled.result in
    record {
      line = s.line ++ low_bits 4 quad;
      quads = s.quads ++ quad ∷ [];
      labels = s.labels ++ c.push.result ∷ [];
      scrambler = c.push_four-scrambled.ensures.stands mode bits s.line s.scrambler;
      in_fours = fours-more s.line s.quads quad _ s.in_fours refl;
      are_quads = All-push (λ quad. quad < 16) s.quads quad s.are_quads c.push_four-scrambled.ensures.bound;
      encoder = c.push.ensures.stands s.quads s.labels s.encoder;
      points = ap (λ xs. xs ++ point_of c.push.result ∷ []) s.points ∙ sym (map-append point_of s.labels (c.push.result ∷ []));
    }
