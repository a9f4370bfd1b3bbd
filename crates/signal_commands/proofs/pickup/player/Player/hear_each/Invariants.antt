use Rattle.signal_commands.proofs.Names.{◌≡◌, ◌≤◌, ◌+◌, ◌*◌, List, length, FolderState, OnlySays, CountsStand, Mode, Plays, playing_of}
use Rattle.signal_commands.proofs.Names.{Sample}
use Rattle.signal_commands.proofs.pickup.player.Player.hear_each.Given as goal

abbrev pub invariant-loop-taken : goal.invariant-loop-taken
invariant-loop-taken g l = record {
  plays : (start : FolderState) (mode : Mode) (samples : List Sample) → Plays start (g.F.Folder.state l.fn.folder) mode l.fn.self samples
      → Plays start (g.F.Folder.state l.folder) mode (playing_of l.self-inside.reader l.self-inside.listener) samples;
  lost : l.self-inside.reader.reading.decoder.lost ≡ l.fn.self.reader.reading.decoder.lost;
  count : l.self-inside.reader.reading.decoder.count ≡ l.fn.self.reader.reading.decoder.count;
  room : l.self-inside.listener.pieces + 4 * length l.self-inside.reader.reading.decoder.pending ≤ l.fn.self.listener.pieces + 4 * length
      l.fn.self.reader.reading.decoder.pending;
  only : OnlySays (g.F.Folder.state l.fn.folder) (g.F.Folder.state l.folder);
  stand : CountsStand (g.F.Folder.state l.fn.folder) (g.F.Folder.state l.folder);
}

abbrev pub decreases-loop-taken : goal.decreases-loop-taken
decreases-loop-taken g l = length l.self-inside.reader.reading.decoder.pending
