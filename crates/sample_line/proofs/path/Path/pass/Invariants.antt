use Rattle.sample_line.proofs.Names.{◌≡◌, ◌+◌, ◌-◌, ◌%◌, ◌<◌, ◌≤◌, ◌++◌, [], None, length, map, take, List, Bool, Carries, CarriesBetween}
use Rattle.sample_line.proofs.Names.{point_of, Sample}
use Rattle.sample_line.proofs.path.Path.pass.Given as goal

abbrev pub invariant-loop-at : goal.invariant-loop-at
invariant-loop-at l = record {
  carries : (before : List Sample) (earlier : List Bool) → Carries l.fn.self l.script before earlier
      → CarriesBetween l.self l.script
      (before ++ map point_of (take l.at l.labels)) l.slot.framing.check l.slot.framing.sender l.slot.framing.dlci l.slot.sent.now earlier
      l.tally;
  sender : l.self.transmitter.sender ≡ l.fn.self.transmitter.sender;
  symbol : l.self.transmitter.symbol ≡ l.fn.self.transmitter.symbol + l.at;
  count : l.self.hearer.reader.decoder.count ≤ l.fn.self.hearer.reader.decoder.count + l.at;
  within : l.at ≤ length l.labels;
  multiple : l.at < length l.labels → l.at % 8 ≡ 0;
  pending : l.self.hearer.reader.decoder.pending ≡ [];
  lost : l.self.hearer.reader.decoder.lost ≡ None;
}

abbrev pub decreases-loop-at : goal.decreases-loop-at
decreases-loop-at l = length l.labels - l.at
