use Rattle.gateway.proofs.Names.{◌≡◌, ◌≤◌, ◌++◌, Bool, List, length, decoding_of, given, AreBits, ReadsAs, LineKind, Mode, Sample}
use Rattle.gateway.proofs.decoder.take_octets.Given as goal

abbrev pub invariant-loop-bits : goal.invariant-loop-bits
invariant-loop-bits l = record {
  same : length l.bits ≡ length l.fn.bits;
  next : l.next ≤ length l.bits;
  count : (decoding_of l.reader).count ≡ (decoding_of l.fn.reader).count;
  lost : (decoding_of l.reader).lost ≡ (decoding_of l.fn.reader).lost;
  bits : AreBits l.at l.fn.bits → AreBits l.next l.bits;
  reads : (line : LineKind) (mode : Mode) (samples : List Sample) (before : List Bool)
      → ReadsAs line mode l.fn.reader samples (before ++ given l.at l.fn.bits)
      → ReadsAs line mode l.reader samples (before ++ given l.next l.bits);
}

abbrev pub decreases-loop-bits : goal.decreases-loop-bits
decreases-loop-bits l = length (decoding_of l.reader).pending
