use Rattle.std.proofs.Common.{◌≡◌, ◌∙◌, ℕ, ◌+◌, ◌<◌, List, [], ◌∷◌, ◌++◌, length, sym, ap, subst, append-nil, arith}
use Rattle.exact_decoder.specs.Decoder.{Decoding, DecoderStands}
use Rattle.line_coding.specs.Reading.{Reading, SamplesRead}
use Rattle.line_coding.proofs.reader.SampleReader.take_two.Goals as goal

two-more : (first second : ℕ) (labels : List ℕ) → length (first ∷ second ∷ labels) ≡ length labels + 2
two-more first second labels = omega arith

pub returns-in-Some : goal.returns-in-Some
returns-in-Some g c = record {
  stands = λ mode starts samples bits s.
      let read = subst (λ r. SamplesRead g.C.TrellisCode.table g.C.TrellisCode.points (g.D.Demodulate.reads mode) starts g.row.DEPTH r
      samples
      bits) (sym c.self.view_is) s in
      record {
        labels = read.labels ++ c.in-Some.first ∷ c.in-Some.second ∷ [];
        decoder = c.in-Some.ensures.stands starts samples read.labels read.decoder;
        demodulator = c.push_two.ensures.stands mode read.labels bits read.demodulator;
      };
  first = (
    c.push_two.ensures.bound,
    ap (λ (r : Reading g.row.D.Denot). length r.decoder.pending) (sym c.self.view_is) ∙ ap length c.in-Some.ensures.first
        ∙ two-more c.in-Some.first c.in-Some.second c.take_two.new.self.pending,
  );
  stays = λ none. cc none;
  count = ap (λ (d : Decoding). d.count) c.take_two.ensures.rest ∙ ap (λ (r : Reading g.row.D.Denot). r.decoder.count) c.self.view_is;
  lost = ap (λ (d : Decoding). d.lost) c.take_two.ensures.rest ∙ ap (λ (r : Reading g.row.D.Denot). r.decoder.lost) c.self.view_is;
}

pub returns-in-None : goal.returns-in-None
returns-in-None g c = record {
  stands = λ mode starts samples bits s.
      let read = subst (λ r. SamplesRead g.C.TrellisCode.table g.C.TrellisCode.points (g.D.Demodulate.reads mode) starts g.row.DEPTH r
      samples
      bits) (sym c.self.view_is) s in
      record {
        labels = read.labels;
        decoder = subst (λ labels. DecoderStands g.C.TrellisCode.table g.C.TrellisCode.points starts g.row.DEPTH c.take_two.new.self samples
            labels)
            (append-nil read.labels) (c.in-None.ensures.stands starts samples read.labels read.decoder);
        demodulator = subst (λ bits. g.D.Demodulate.reads mode c.self.inside.demodulator read.labels bits) (sym (append-nil bits))
            read.demodulator;
      };
  first = subst (λ (r : Reading g.row.D.Denot). length r.decoder.pending < 2) c.self.view_is c.in-None.ensures.first.0;
  stays = λ none. ap (λ (d : Decoding). record { decoder = d; demodulator = c.self.inside.demodulator }) c.in-None.ensures.first.1
      ∙ c.self.view_is;
  count = ap (λ (d : Decoding). d.count) c.take_two.ensures.rest ∙ ap (λ (r : Reading g.row.D.Denot). r.decoder.count) c.self.view_is;
  lost = ap (λ (d : Decoding). d.lost) c.take_two.ensures.rest ∙ ap (λ (r : Reading g.row.D.Denot). r.decoder.lost) c.self.view_is;
}
