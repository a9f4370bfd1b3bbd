-- When nothing but want of memory keeps the command from being done.
use Rattle.std.specs.Prelude.{◌≡◌, ℕ, ◌%◌, ◌≤◌, IsTrue, List, ◌++◌, length, None}
use Rattle.scramblers.specs.declared.mode.Mode.{Mode}
use Rattle.outside_calls.specs.Folder.{FolderState, octets_at}
use Rattle.exact_decoder.specs.Surviving.Survivors.{LostIs}
use Rattle.exact_decoder.specs.Surviving.V32.{line_depth}
use Rattle.recordings.specs.declared.rate.Rate.{Rate}
use Rattle.recordings.specs.declared.rate.Rate.TheVariants as rates
use Rattle.recordings.specs.Recording.{header_at}
use Rattle.recordings.specs.Samples.{samples_in}
use Rattle.command_base.specs.declared.status.Status.{Status}
use Rattle.command_base.specs.Sound.{IsSound, DoneUnlessMemory}
use Rattle.signal_commands.specs.Decoding.Words.{DecodeNames, inputs_of, outputs_of}
use Rattle.signal_commands.specs.Decoding.Rates.{trellis_at}

-- A recording at this rate of at most 8,388,616 octets: a header, and whole samples, with which a line of the trellis code isn't lost.
pub record IsRecording (rate : Rate) (octets : List ℕ) : Type 0 where
  pub within : length octets ≤ 8388616
  pub mode : Mode
  pub content : List ℕ
  pub octets_are : octets ≡ header_at rate mode ++ content
  pub whole : length content % 4 ≡ 0
  pub not_lost : rate ≡ rates.Trellis → LostIs (trellis_at rate) line_depth (samples_in content) None

-- the name is told and holds such a recording, and the folder is sound
abbrev pub Completes : FolderState → FolderState → DecodeNames → Status → Type 0
Completes old new n s =
    IsSound old new (inputs_of n) (outputs_of n) → IsTrue (old.tells n.rec) → IsRecording n.rate (octets_at old n.rec) → DoneUnlessMemory s
