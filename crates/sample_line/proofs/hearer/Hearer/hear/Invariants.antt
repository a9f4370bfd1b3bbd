use Rattle.sample_line.proofs.Names.{◌≡◌, ◌+◌, ◌-◌, ◌≤◌, ◌++◌, [], Bool, List, length, take, None, HearsBetween, Mode, Sample}
use Rattle.sample_line.proofs.hearer.Hearer.hear.Given as goal

abbrev pub invariant-loop-at : goal.invariant-loop-at
invariant-loop-at l = record {
  stands : (mode : Mode) (past : List Sample) (earlier : List Bool)
      → HearsBetween mode l.fn.self past l.slot.framing.check l.slot.framing.sender l.slot.framing.dlci l.slot.sent.now earlier l.fn.tally
      → HearsBetween mode l.self (past ++ take l.at l.samples) l.slot.framing.check l.slot.framing.sender l.slot.framing.dlci
      l.slot.sent.now earlier l.tally;
  pending : l.self.reader.decoder.pending ≡ [];
  lost : l.self.reader.decoder.lost ≡ None;
  count : l.self.reader.decoder.count ≤ l.fn.self.reader.decoder.count + l.at;
  within : l.at ≤ length l.samples;
}

abbrev pub decreases-loop-at : goal.decreases-loop-at
decreases-loop-at l = length l.samples - l.at
