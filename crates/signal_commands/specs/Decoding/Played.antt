-- How far a recording is played.
use Rattle.std.specs.Prelude.{◌≡◌, ℕ, ◌%◌, List, [], ◌++◌, length, Some, Result, Ok, Err}
use Rattle.scramblers.specs.declared.mode.Mode.{Mode}
use Rattle.symbol_map.specs.declared.sample.Sample.{Sample}
use Rattle.outside_calls.specs.Folder.{FolderState}
use Rattle.recordings.specs.declared.rate.Rate.{Rate}
use Rattle.exact_decoder.specs.declared.decoder.Lost.{Lost}
use Rattle.outside_calls.specs.Outputs.{Holds, OnlyOutput}
use Rattle.signal_commands.specs.Decoding.Words.{DecodeNames}
use Rattle.recordings.specs.Samples.{samples_in}
use Rattle.command_base.specs.Recordings.{ReadBehind}
use Rattle.signal_commands.specs.declared.decode.playback.Playback.{Playback}
use Rattle.signal_commands.specs.Decoding.Playing.{decoding_of, Hears}

-- The line is lost within these samples: the first of them were heard.
pub record LosesWithin (rate : Rate) (mode : Mode) (p : Playback) (samples : List Sample) (octets : List ℕ) (symbol : ℕ) : Type 0 where
  pub heard : List Sample
  pub more : List Sample
  pub split : samples ≡ heard ++ more
  pub hears : Hears rate mode p heard octets
  pub all_taken : (decoding_of p.reader).pending ≡ []
  pub lost : (decoding_of p.reader).lost ≡ Some symbol

-- the samples of a piece were heard behind these, or the line is lost within them
abbrev pub PlaysPiece : Rate → Mode → Playback → List Sample → List ℕ → List ℕ → Result (Unit {0}) Lost → Type 0
PlaysPiece rate mode p samples piece octets (Ok _) = Hears rate mode p (samples ++ samples_in piece) octets
PlaysPiece rate mode p samples piece octets (Err lost) = LosesWithin rate mode p (samples ++ samples_in piece) octets lost.symbol

-- The octets behind the header, up to this place, are played, and the output holds what they gave.
pub record PlayedTo (start now : FolderState) (n : DecodeNames) (mode : Mode) (p : Playback) (at written : ℕ) : Type 0 where
  pub content : List ℕ
  pub octets : List ℕ
  pub hears : Hears n.rate mode p (samples_in content) octets
  pub whole : length content % 4 ≡ 0
  pub written_is : written ≡ length octets
  pub behind : ReadBehind start now n.rec n.rate mode content at
  pub only : OnlyOutput start now n.file
  pub file : Holds now n.file octets
