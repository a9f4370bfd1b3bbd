use Rattle.sample_line.proofs.Names.{◌≡◌, ◌+◌, ◌*◌, length, List, Bool, HearsBetween, Mode, Sample}
use Rattle.sample_line.proofs.hearer.Hearer.read_labels.Given as goal

abbrev pub invariant-loop : goal.invariant-loop
invariant-loop l = record {
  stands : (mode : Mode) (samples : List Sample) (earlier : List Bool)
      → HearsBetween mode l.fn.self samples l.slot.framing.check l.slot.framing.sender l.slot.framing.dlci l.slot.sent.now earlier
      l.fn.tally
      → HearsBetween mode l.self samples l.slot.framing.check l.slot.framing.sender l.slot.framing.dlci l.slot.sent.now earlier l.tally;
  left : length l.self.reader.decoder.pending + 2 * l.counter ≡ length l.fn.self.reader.decoder.pending;
  count : l.self.reader.decoder.count ≡ l.fn.self.reader.decoder.count;
  lost : l.self.reader.decoder.lost ≡ l.fn.self.reader.decoder.lost;
}
