use Rattle.signal_commands.proofs.Names.{◌≡◌, ◌≤◌, ◌+◌, ◌-◌, ◌*◌, ◌/◌, ◌++◌, ℕ, List, [], length, take, None, samples_in, Rate, Mode}
use Rattle.signal_commands.proofs.Names.{decoding_of, Hears, Sample}
use Rattle.signal_commands.specs.declared.decode.playback.TheConstants.{GIVEN}
use Rattle.signal_commands.proofs.decode.player.play_piece.Given as goal

abbrev pub invariant-loop-at : goal.invariant-loop-at
invariant-loop-at l = record {
  hears : (rate : Rate) (mode : Mode) (samples : List Sample) (before : List ℕ) → Hears rate mode l.fn.playback samples before
      → Hears rate mode l.playback (samples ++ samples_in (take (4 * l.at) l.piece)) (before ++ l.octets);
  not_lost : (decoding_of l.playback.reader).lost ≡ None;
  all_taken : (decoding_of l.playback.reader).pending ≡ [];
  count : (decoding_of l.playback.reader).count ≤ (decoding_of l.fn.playback.reader).count + l.at;
  room : length l.octets ≤ GIVEN * l.at;
  within : 4 * l.at ≤ length l.piece;
}

abbrev pub decreases-loop-at : goal.decreases-loop-at
decreases-loop-at l = length l.piece / 4 - l.at
