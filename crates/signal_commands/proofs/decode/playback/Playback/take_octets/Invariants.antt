use Rattle.signal_commands.proofs.Names.{◌≡◌, ◌≤◌, ◌+◌, ◌*◌, ◌++◌, ℕ, List, length, Rate, Mode, decoding_of, Hears, Sample}
use Rattle.signal_commands.proofs.decode.playback.Playback.take_octets.Given as goal

abbrev pub invariant-loop-two : goal.invariant-loop-two
invariant-loop-two l = record {
  hears : (rate : Rate) (mode : Mode) (samples : List Sample) (before : List ℕ) → Hears rate mode l.fn.self samples (before ++ l.fn.octets)
      → Hears rate mode l.self samples (before ++ l.octets);
  lost : (decoding_of l.self.reader).lost ≡ (decoding_of l.fn.self.reader).lost;
  count : (decoding_of l.self.reader).count ≡ (decoding_of l.fn.self.reader).count;
  room : 8 * length l.octets + l.self.joiner.count + 4 * length (decoding_of l.self.reader).pending
      ≤ 8 * length l.fn.octets + 7 + 4 * length (decoding_of l.fn.self.reader).pending;
}

abbrev pub decreases-loop-two : goal.decreases-loop-two
decreases-loop-two l = length (decoding_of l.self.reader).pending
