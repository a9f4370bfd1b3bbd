-- How the decoding of a recording ends, before its line is said. What is said of a name's octets holds where the folder tells
-- that name.
use Rattle.std.specs.Prelude.{◌≡◌, ◌≢◌, ◌⊎◌, ℕ, ◌+◌, ◌%◌, IsTrue, List, length, take, Some, None, Result, Ok, Err}
use Rattle.scramblers.specs.declared.mode.Mode.{Mode}
use Rattle.scramblers.specs.Mode.{tap_of}
use Rattle.symbol_map.specs.declared.sample.Sample.{Sample}
use Rattle.shared_terms.specs.Prefix.{IsPrefixOf}
use Rattle.shared_terms.specs.declared.role.Role.{Role}
use Rattle.outside_calls.specs.Folder.{FolderState, octets_at, KeepsName, CountsStand}
use Rattle.recordings.specs.declared.header.TheConstants.{HEADER}
use Rattle.recordings.specs.declared.rate.Rate.{Rate}
use Rattle.recordings.specs.declared.rate.Rate.TheVariants as rates
use Rattle.recordings.specs.Recording.{header_at}
use Rattle.exact_decoder.specs.Surviving.Survivors.{IsReleased, LostIs}
use Rattle.exact_decoder.specs.Surviving.V32.{line_depth}
use Rattle.command_base.specs.declared.limits.TheConstants.{RECORDING_LIMIT}
use Rattle.command_base.specs.Inputs.{IsWithin, IsLonger}
use Rattle.outside_calls.specs.Outputs.{KeepsAll, Holds, HoldsFront, SaysNothing}
use Rattle.command_base.specs.Job.{Job}
use Rattle.command_base.specs.Lines.{octets_line}
use Rattle.command_base.specs.declared.status.Status.{Status}
use Rattle.command_base.specs.declared.status.Status.TheVariants.{TooLong, BadRecording, LineLost}
use Rattle.command_base.specs.declared.stop.Stop.{Stop}
use Rattle.command_base.specs.declared.stop.Stop.TheVariants.{Own, Read, Write, Say, NoMemory}
use Rattle.signal_commands.specs.Decoding.Words.{DecodeNames, inputs_of, outputs_of}
use Rattle.recordings.specs.Samples.{samples_in}
use Rattle.command_base.specs.Recordings.{hearer_of, ReadsRecording, HasNoHeader}
use Rattle.signal_commands.specs.Decoding.Octets.{Carries}
use Rattle.signal_commands.specs.Decoding.Playing.{Finishes}
use Rattle.signal_commands.specs.Decoding.Rates.{trellis_at}

-- it ends with a whole sample, and is not lost
pub record IsFollowed (rate : Rate) (content : List ℕ) : Type 0 where
  pub whole : length content % 4 ≡ 0
  pub not_lost : LostIs (trellis_at rate) line_depth (samples_in content) None

-- The output holds the whole octets of the least sequence, so many.
pub record DecodesAll (old new : FolderState) (n : DecodeNames) (count : ℕ) : Type 0 where
  pub mode : Mode
  pub content : List ℕ
  pub reads : ReadsRecording old n.rec n.rate mode content
  pub followed : IsFollowed n.rate content
  pub octets : List ℕ
  pub finishes : Finishes n.rate (tap_of mode) (samples_in content) octets
  pub file : Holds new n.file octets
  pub count_is : count ≡ length octets

-- the first octets of the recording are no header
pub record HeaderRefused (old new : FolderState) (n : DecodeNames) (at : ℕ) : Type 0 where
  pub keeps : KeepsAll old new
  pub header : HasNoHeader old n.rec n.rate at

-- The last sample is cut at this place. The output holds the whole octets of the labels that the others release.
pub record SampleCut (old new : FolderState) (n : DecodeNames) (at : ℕ) : Type 0 where
  pub mode : Mode
  pub content : List ℕ
  pub reads : ReadsRecording old n.rec n.rate mode content
  pub cut : length content % 4 ≢ 0
  pub at_is : at + length content % 4 ≡ HEADER + length content
  pub not_lost : LostIs (trellis_at n.rate) line_depth (samples_in content) None
  pub labels : List ℕ
  pub released : IsReleased (trellis_at n.rate) (samples_in content) labels
  pub octets : List ℕ
  pub carried : Carries n.rate (tap_of mode) labels octets
  pub file : Holds new n.file octets

-- The line is lost with this symbol. The output holds the whole octets of the labels that were released then.
pub record RecordingLost (old new : FolderState) (n : DecodeNames) (role : Role) (symbol : ℕ) : Type 0 where
  pub mode : Mode
  pub content : List ℕ
  pub reads : ReadsRecording old n.rec n.rate mode content
  pub role_is : role ≡ hearer_of mode
  pub lost : LostIs (trellis_at n.rate) line_depth (samples_in content) (Some symbol)
  pub labels : List ℕ
  pub released : IsReleased (trellis_at n.rate) (take (symbol + 1) (samples_in content)) labels
  pub octets : List ℕ
  pub carried : Carries n.rate (tap_of mode) labels octets
  pub file : Holds new n.file octets

-- the whole octets of the labels that the recording releases; or, where it ends with a whole sample and isn't lost, of the least sequence
abbrev pub MayWrite : Rate → Mode → List ℕ → List ℕ → Type 0
MayWrite rate mode content octets =
    ((labels : List ℕ) × IsReleased (trellis_at rate) (samples_in content) labels × Carries rate (tap_of mode) labels octets)
    ⊎ (IsFollowed rate content × Finishes rate (tap_of mode) (samples_in content) octets)

-- The output holds the beginning of such octets.
pub record DecodesPart (old new : FolderState) (n : DecodeNames) : Type 0 where
  pub mode : Mode
  pub content : List ℕ
  pub reads : ReadsRecording old n.rec n.rate mode content
  pub octets : List ℕ
  pub may : MayWrite n.rate mode content octets
  pub file : HoldsFront new n.file octets

-- The output holds the whole octets of the labels that the first samples release, within which the line isn't lost.
pub record DecodesFront (old new : FolderState) (n : DecodeNames) : Type 0 where
  pub mode : Mode
  pub content : List ℕ
  pub reads : ReadsRecording old n.rec n.rate mode content
  pub first : List Sample
  pub front : IsPrefixOf first (samples_in content)
  pub not_lost : LostIs (trellis_at n.rate) line_depth first None
  pub labels : List ℕ
  pub released : IsReleased (trellis_at n.rate) first labels
  pub octets : List ℕ
  pub carried : Carries n.rate (tap_of mode) labels octets
  pub file : Holds new n.file octets

-- the output is as it was, or holds the beginning of such octets
abbrev pub LeavesPart : FolderState → FolderState → DecodeNames → Type 0
LeavesPart old new n = KeepsName old new n.file ⊎ DecodesPart old new n

-- There is no memory for a decoder. The recording is within its limit and begins with a header, nothing was written, and the folder
-- counted no fault.
pub record WantsMemory (old new : FolderState) (n : DecodeNames) : Type 0 where
  pub keeps : KeepsAll old new
  pub stand : CountsStand old new
  pub within : IsWithin old n.rec RECORDING_LIMIT
  pub mode : Mode
  pub header : IsTrue (old.tells n.rec) → header_at n.rate mode ≡ take HEADER (octets_at old n.rec)

-- what ends it but a fault: the recording is too long, is none, or is lost, which one of four points never is; word 1 names it
abbrev pub EndsOwn : FolderState → FolderState → DecodeNames → Status → Type 0
EndsOwn old new n (TooLong word) = (word ≡ 1) × KeepsAll old new × IsLonger old n.rec RECORDING_LIMIT
EndsOwn old new n (BadRecording at) = HeaderRefused old new n at ⊎ SampleCut old new n at
EndsOwn old new n (LineLost role symbol) = (n.rate ≡ rates.Trellis) × RecordingLost old new n role symbol
EndsOwn old new n answer = ⊥

-- why a recording is not decoded, or not to its end
abbrev pub EndsBy : FolderState → FolderState → DecodeNames → Stop → Type 0
EndsBy old new n (Own answer) = EndsOwn old new n answer
EndsBy old new n (Read fault) = KeepsAll old new ⊎ DecodesFront old new n
EndsBy old new n (Write fault) = IsWithin old n.rec RECORDING_LIMIT × LeavesPart old new n
EndsBy old new n (Say fault) = ⊥
EndsBy old new n NoMemory = WantsMemory old new n

-- how the decoding of a recording ends: with so many octets, or before
abbrev pub Ends : FolderState → FolderState → DecodeNames → Result ℕ Stop → Type 0
Ends old new n (Ok count) = DecodesAll old new n count
Ends old new n (Err stop) = EndsBy old new n stop

-- The job of the command: done, its line says the number of octets.
abbrev pub decode_job : DecodeNames → Job ℕ
decode_job n = record {
  inputs = inputs_of n;
  outputs = outputs_of n;
  Ends = λ old new end. Ends old new n end × SaysNothing old new;
  line_of = octets_line;
}
