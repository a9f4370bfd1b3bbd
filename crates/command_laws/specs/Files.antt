-- What a decoding of an encoded file leaves.
use Rattle.std.specs.Prelude.{◌≡◌, ◌⊎◌, ◌≤◌, IsTrue, length, Some}
use Rattle.frame_check.specs.Octets.{AreOctets}
use Rattle.outside_calls.specs.Folder.{FolderState, held_at, octets_at}
use Rattle.command_base.specs.declared.status.Status.{Status}
use Rattle.command_base.specs.declared.status.Status.TheVariants.{Done, NoMemory}
use Rattle.command_base.specs.Sound.{IsSound}
use Rattle.signal_commands.specs.Encoding.Words.{EncodeNames}
use Rattle.signal_commands.specs.Encoding.Headline as encode
use Rattle.signal_commands.specs.Decoding.Words.{DecodeNames, inputs_of, outputs_of}
use Rattle.signal_commands.specs.Decoding.Headline as decode
use Rattle.signal_commands.specs.Decoding.Completes.{Completes}

-- What is decoded is what was encoded at this rate: `old` and `mid` are the folders before and behind the encoding, `was` the one before the
-- decoding. All is told, and the recording is no longer than one that is decoded.
pub record AreOfFile (n : EncodeNames) (m : DecodeNames) (old mid was : FolderState) : Type 0 where
  pub file_told : IsTrue (old.tells n.file)
  pub file_octets : AreOctets (octets_at old n.file)
  pub rec_told : IsTrue (old.tells n.rec)
  pub rec_left : IsTrue (mid.tells n.rec)
  pub rate_is : n.rate ≡ m.rate
  pub rec_given : IsTrue (was.tells m.rec)
  pub rec_is : octets_at was m.rec ≡ octets_at mid n.rec
  pub rec_short : length (octets_at was m.rec) ≤ 8388616
  pub file_given : IsTrue (was.tells m.file)

-- Of a file that was encoded, a decoding over a sound folder leaves the file: to which names, and in which folder, is all the same.
abbrev pub FilesComeBack : Type 0
FilesComeBack = (n : EncodeNames) (m : DecodeNames) (old mid was then : FolderState) (s : Status)
    → encode.Headline old mid n Done → AreOfFile n m old mid was → IsSound was then (inputs_of m) (outputs_of m)
    → decode.Headline was then m s → Completes was then m s
    → ((s ≡ Done) × (held_at then m.file ≡ Some (octets_at old n.file))) ⊎ (s ≡ NoMemory)
