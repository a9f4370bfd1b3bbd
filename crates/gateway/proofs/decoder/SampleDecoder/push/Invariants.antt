use Rattle.gateway.proofs.Names.{◌≡◌, ◌+◌, ◌-◌, ◌/◌, ◌≤◌, ◌++◌, Bool, List, length, HasDecoded, given, samples_in, AreBits, LineKind, Mode}
use Rattle.gateway.proofs.Names.{Sample}
use Rattle.gateway.proofs.decoder.SampleDecoder.push.Given as goal

abbrev pub invariant-loop-read : goal.invariant-loop-read
invariant-loop-read l = record {
  same : length l.bits ≡ length l.fn.bits;
  written : l.written ≤ length l.bits;
  within : l.read ≤ length l.parts / 2;
  samples : l.self.samples ≡ l.fn.self.samples + l.read;
  bits : AreBits l.written l.bits;
  decodes : (line : LineKind) (mode : Mode) (samples : List Sample) (before : List Bool) → HasDecoded line mode l.fn.self samples before
      → HasDecoded line mode l.self (samples ++ samples_in l.read l.parts) (before ++ given l.written l.bits);
}

abbrev pub decreases-loop-read : goal.decreases-loop-read
decreases-loop-read l = length l.parts / 2 - l.read
