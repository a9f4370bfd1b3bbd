use Rattle.line_coding.proofs.Names.{◌∙◌, length, ap, Reading}
use Rattle.line_coding.proofs.reader.SampleReader.pending.Goals as goal

pub returns : goal.returns
returns g c = record {
  value = c.pending.ensures.value ∙ ap (λ (r : Reading g.row.D.Denot). length r.decoder.pending) c.self.view_is;
  few = c.pending.ensures.few;
}
