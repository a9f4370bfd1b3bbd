use Rattle.line_coding.proofs.Names.{◌∙◌, ◌<◌, length, drop, arith, sym, ap, subst, at_any, low_bits, Middle, MiddleRead}
use Rattle.line_coding.proofs.Taking.{middle-early, middle-sixth, middle-later, middle-none}
use Rattle.line_coding.proofs.middle_reader.MiddleReader.take.Goals as goal

pub returns-then-self-lt-SILENT : goal.returns-then-self-lt-SILENT
returns-then-self-lt-SILENT g c = record {
  stands = λ mode samples bits h.
      middle-early mode g.row.DEPTH c.self.inside.reader c.take.new.self c.self.inside.taken c.in-Some.four samples bits
      c.if-self-lt-SILENT.true (c.in-Some.ensures.stands mode at_any samples)
      (subst (λ (m : Middle). MiddleRead mode g.row.DEPTH m samples bits) (sym c.self.view_is) h);
  first = ap (λ (m : Middle). length m.reading.decoder.pending) (sym c.self.view_is) ∙ c.in-Some.ensures.first.1;
  pending = c.take.ensures.pending ∙ ap (λ (m : Middle). drop 1 m.reading.decoder.pending) c.self.view_is;
  count = c.take.ensures.count ∙ ap (λ (m : Middle). m.reading.decoder.count) c.self.view_is;
  lost = c.take.ensures.lost ∙ ap (λ (m : Middle). m.reading.decoder.lost) c.self.view_is;
}

pub returns-then-self-eq-SILENT : goal.returns-then-self-eq-SILENT
returns-then-self-eq-SILENT g c = record {
  stands = λ mode samples bits h.
      middle-sixth mode g.row.DEPTH c.self.inside.reader c.take.new.self c.self.inside.taken c.in-Some.four samples bits
      c.if-self-eq-SILENT.true c.in-Some.ensures.first.0 (c.in-Some.ensures.stands mode at_any samples)
      (subst (λ (m : Middle). MiddleRead mode g.row.DEPTH m samples bits) (sym c.self.view_is) h);
  first = ap (λ (m : Middle). length m.reading.decoder.pending) (sym c.self.view_is) ∙ c.in-Some.ensures.first.1;
  pending = c.take.ensures.pending ∙ ap (λ (m : Middle). drop 1 m.reading.decoder.pending) c.self.view_is;
  count = c.take.ensures.count ∙ ap (λ (m : Middle). m.reading.decoder.count) c.self.view_is;
  lost = c.take.ensures.lost ∙ ap (λ (m : Middle). m.reading.decoder.lost) c.self.view_is;
}

pub returns-else-self-eq-SILENT : goal.returns-else-self-eq-SILENT
returns-else-self-eq-SILENT g c =
    let many : 6 < c.self.inside.taken = omega (arith, c.if-self-lt-SILENT.false, c.if-self-eq-SILENT.false) in
    record {
      stands = λ mode samples bits h.
          middle-later mode g.row.DEPTH c.self.inside.reader c.take.new.self c.self.inside.taken
          (low_bits 4 c.in-Some.four) samples bits many
          (c.in-Some.ensures.stands mode at_any samples)
          (subst (λ (m : Middle). MiddleRead mode g.row.DEPTH m samples bits) (sym c.self.view_is) h);
      first = ap (λ (m : Middle). length m.reading.decoder.pending) (sym c.self.view_is) ∙ c.in-Some.ensures.first.1;
      pending = c.take.ensures.pending ∙ ap (λ (m : Middle). drop 1 m.reading.decoder.pending) c.self.view_is;
      count = c.take.ensures.count ∙ ap (λ (m : Middle). m.reading.decoder.count) c.self.view_is;
      lost = c.take.ensures.lost ∙ ap (λ (m : Middle). m.reading.decoder.lost) c.self.view_is;
    }

pub returns-in-None : goal.returns-in-None
returns-in-None g c = record {
  stands = λ mode samples bits h.
      middle-none mode g.row.DEPTH c.self.inside.reader c.take.new.self c.self.inside.taken samples bits
      (c.in-None.ensures.stands mode at_any samples)
      (subst (λ (m : Middle). MiddleRead mode g.row.DEPTH m samples bits) (sym c.self.view_is) h);
  first = ap (λ (m : Middle). m.reading.decoder.pending) (sym c.self.view_is) ∙ c.in-None.ensures.first;
  pending = c.take.ensures.pending ∙ ap (λ (m : Middle). drop 1 m.reading.decoder.pending) c.self.view_is;
  count = c.take.ensures.count ∙ ap (λ (m : Middle). m.reading.decoder.count) c.self.view_is;
  lost = c.take.ensures.lost ∙ ap (λ (m : Middle). m.reading.decoder.lost) c.self.view_is;
}
