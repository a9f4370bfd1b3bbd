use Rattle.sample_line.proofs.Names.{◌≡◌, ◌∙◌, ℕ, nat_eq, List, [], sym, ap, subst, signal_bits, DecoderStands, line_depth, Kept, size_of}
use Rattle.sample_line.proofs.Names.{sender_of, decoder_of, Records, point_of, Sample, next_state}
use Rattle.exact_decoder.specs.Decoder.{Decoding}
use Rattle.sample_line.proofs.Passing.{line-heard}
use Rattle.sample_line.proofs.line.Line.decoder.Goals as goal

pub returns-clause-heard : goal.returns-clause-heard
returns-clause-heard c = λ script passed h.
    let line : Kept = c.args.self.now in
    subst (λ (d : Decoding). (samples : List Sample) × (taken : List ℕ)
    × Records script (sender_of line) (signal_bits (size_of line) passed) samples
    × DecoderStands next_state point_of (λ state. nat_eq state 0) line_depth d samples taken × (d.pending ≡ []))
    (ap decoder_of (sym c.self.view_is) ∙ sym c.decoder.ensures) (line-heard script line passed h)
