use Rattle.line_coding.proofs.Names.{◌≡◌, ◌∙◌, ℕ, ◌+◌, List, [], ◌∷◌, ◌++◌, length, drop, sym, ap, subst, append-nil, arith, Reading}
use Rattle.line_coding.proofs.Names.{SamplesRead}
use Rattle.exact_decoder.specs.Decoder.{Decoding, DecoderStands}
use Rattle.line_coding.proofs.reader.SampleReader.take.Goals as goal

one-more : (label : ℕ) (labels : List ℕ) → length (label ∷ labels) ≡ length labels + 1
one-more label labels = omega arith

pub returns-in-Some : goal.returns-in-Some
returns-in-Some g c = record {
  stands = λ mode starts samples bits s.
      let read = subst (λ r. SamplesRead g.C.TrellisCode.table g.C.TrellisCode.points (g.D.Demodulate.reads mode) starts g.row.DEPTH r
      samples
      bits) (sym c.self.view_is) s in
      record {
        labels = read.labels ++ c.in-Some.label ∷ [];
        decoder = c.in-Some.ensures.stands starts samples read.labels read.decoder;
        demodulator = c.push.ensures.stands mode read.labels bits read.demodulator;
      };
  first = (
    c.push.ensures.bound,
    ap (λ (r : Reading g.row.D.Denot). length r.decoder.pending) (sym c.self.view_is) ∙ ap length c.in-Some.ensures.first
        ∙ one-more c.in-Some.label c.take.new.self.pending,
  );
  pending = ap (λ (d : Decoding). d.pending) c.take.ensures.rest
      ∙ ap (λ (r : Reading g.row.D.Denot). drop 1 r.decoder.pending) c.self.view_is;
  count = ap (λ (d : Decoding). d.count) c.take.ensures.rest ∙ ap (λ (r : Reading g.row.D.Denot). r.decoder.count) c.self.view_is;
  lost = ap (λ (d : Decoding). d.lost) c.take.ensures.rest ∙ ap (λ (r : Reading g.row.D.Denot). r.decoder.lost) c.self.view_is;
}

pub returns-in-None : goal.returns-in-None
returns-in-None g c = record {
  stands = λ mode starts samples bits s.
      let read = subst (λ r. SamplesRead g.C.TrellisCode.table g.C.TrellisCode.points (g.D.Demodulate.reads mode) starts g.row.DEPTH r
      samples
      bits) (sym c.self.view_is) s in
      record {
        labels = read.labels;
        decoder = subst (λ labels. DecoderStands g.C.TrellisCode.table g.C.TrellisCode.points starts g.row.DEPTH c.take.new.self samples
            labels)
            (append-nil read.labels) (c.in-None.ensures.stands starts samples read.labels read.decoder);
        demodulator = subst (λ bits. g.D.Demodulate.reads mode c.self.inside.demodulator read.labels bits) (sym (append-nil bits))
            read.demodulator;
      };
  first = ap (λ (r : Reading g.row.D.Denot). r.decoder.pending) (sym c.self.view_is) ∙ c.in-None.ensures.first;
  pending = ap (λ (d : Decoding). d.pending) c.take.ensures.rest
      ∙ ap (λ (r : Reading g.row.D.Denot). drop 1 r.decoder.pending) c.self.view_is;
  count = ap (λ (d : Decoding). d.count) c.take.ensures.rest ∙ ap (λ (r : Reading g.row.D.Denot). r.decoder.count) c.self.view_is;
  lost = ap (λ (d : Decoding). d.lost) c.take.ensures.rest ∙ ap (λ (r : Reading g.row.D.Denot). r.decoder.lost) c.self.view_is;
}
