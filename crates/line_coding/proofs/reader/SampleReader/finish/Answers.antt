use Rattle.line_coding.proofs.Names.{subst, sym, SamplesRead}
use Rattle.line_coding.proofs.reader.SampleReader.finish.Goals as goal

pub returns : goal.returns
returns g c = record {
  least = λ mode starts samples bits s.
      let read = subst (λ r. SamplesRead g.C.TrellisCode.table g.C.TrellisCode.points (g.D.Demodulate.reads mode) starts g.row.DEPTH r
      samples
      bits) (sym c.self.view_is) s in
      record { labels = read.labels; read = read.demodulator; least = c.finish.ensures.least starts samples read.labels read.decoder };
  bound = c.finish.ensures.bound;
}
