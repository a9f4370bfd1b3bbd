use Rattle.line_coding.proofs.Names.{◌≤◌, ◌+◌, sym, subst, Reading, SamplesRead}
use Rattle.line_coding.proofs.reader.SampleReader.push.Goals as goal

pub returns : goal.returns
returns g c = record {
  stands = λ mode starts samples bits s.
      let read = subst (λ r. SamplesRead g.C.TrellisCode.table g.C.TrellisCode.points (g.D.Demodulate.reads mode) starts g.row.DEPTH r
      samples
      bits) (sym c.self.view_is) s in
      record {
        labels = read.labels;
        decoder = c.push.ensures.stands starts samples read.labels read.decoder;
        demodulator = read.demodulator;
      };
  answer = c.push.ensures.answer;
  count = subst (λ (r : Reading g.row.D.Denot). c.push.new.self.count ≤ r.decoder.count + 1) c.self.view_is c.push.ensures.count;
}
