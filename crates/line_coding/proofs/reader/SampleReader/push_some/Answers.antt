use Rattle.line_coding.proofs.Names.{◌≤◌, ◌+◌, length, sym, subst, Reading, SamplesRead}
use Rattle.std.proofs.Common.{MatchResult}
use Rattle.line_coding.proofs.reader.SampleReader.push_some.Goals as goal

pub returns : goal.returns
returns g c = record {
  stands = λ mode starts past bits s.
      let read = subst (λ r. SamplesRead g.C.TrellisCode.table g.C.TrellisCode.points (g.D.Demodulate.reads mode) starts g.row.DEPTH r past
      bits) (sym c.self.view_is) s in
      record {
        labels = read.labels;
        decoder = c.push_some.ensures.stands starts past read.labels read.decoder;
        demodulator = read.demodulator;
      };
  answer = c.push_some.ensures.answer;
  within = c.push_some.ensures.within;
  some = c.push_some.ensures.some;
  count = subst (λ (r : Reading g.row.D.Denot). MatchResult c.push_some.result
      (λ heard. c.push_some.new.self.count ≤ r.decoder.count + heard)
      (λ _. c.push_some.new.self.count ≤ r.decoder.count + length c.args.samples.now)) c.self.view_is c.push_some.ensures.count;
}
