-- What the command promises, over the folder before and after it. What is said of a name's octets holds where the folder
-- tells that name.
use Rattle.std.specs.Prelude.{◌≡◌, ◌⊎◌, ℕ, ◌%◌, IsTrue, List, ◌++◌, length, Some}
use Rattle.symbol_map.specs.declared.sample.Sample.{Sample}
use Rattle.shared_terms.specs.declared.role.Role.{Role}
use Rattle.scramblers.specs.declared.mode.Mode.{Mode}
use Rattle.scramblers.specs.Mode.{tap_of}
use Rattle.shared_terms.specs.Prefix.{IsPrefixOf}
use Rattle.outside_calls.specs.Folder.{FolderState, held_at, octets_at, KeepsName, Said}
use Rattle.recordings.specs.declared.rate.Rate.{Rate}
use Rattle.recordings.specs.declared.rate.Rate.TheVariants as rates
use Rattle.recordings.specs.Recording.{header_at}
use Rattle.exact_decoder.specs.Surviving.Survivors.{IsLeast}
use Rattle.command_base.specs.declared.status.Status.{Status}
use Rattle.command_base.specs.declared.status.Status.TheVariants.{Done, LineLost}
use Rattle.command_base.specs.Job.{Shared}
use Rattle.command_base.specs.Lines.{octets_line}
use Rattle.signal_commands.specs.Decoding.Words.{DecodeNames, inputs_of, outputs_of}
use Rattle.recordings.specs.Samples.{samples_in}
use Rattle.signal_commands.specs.Decoding.Octets.{Carries}
use Rattle.signal_commands.specs.Decoding.Rates.{trellis_at}

-- the labels begin a code sequence that is no farther from the samples than any other
abbrev pub BeginNearest : Rate → List Sample → List ℕ → Type 0
BeginNearest rate samples labels = (rest : List ℕ) × IsLeast (trellis_at rate) samples (labels ++ rest)

-- The octets begin those that such labels carry, for the recording's samples up to some place.
pub record IsBeginning (rate : Rate) (recording octets : List ℕ) : Type 0 where
  pub mode : Mode
  pub content : List ℕ
  pub recording_is : recording ≡ header_at rate mode ++ content
  pub samples : List Sample
  pub front : IsPrefixOf samples (samples_in content)
  pub labels : List ℕ
  pub nearest : BeginNearest rate samples labels
  pub carried : List ℕ
  pub carries : Carries rate (tap_of mode) labels carried
  pub begins : IsPrefixOf octets carried

-- The octets are all the whole ones that a code sequence carries which is no farther from the recording's samples than any other.
pub record IsDecoding (rate : Rate) (recording octets : List ℕ) : Type 0 where
  pub mode : Mode
  pub content : List ℕ
  pub recording_is : recording ≡ header_at rate mode ++ content
  pub whole : length content % 4 ≡ 0
  pub labels : List ℕ
  pub nearest : IsLeast (trellis_at rate) (samples_in content) labels
  pub carries : Carries rate (tap_of mode) labels octets

abbrev pub HoldsBeginning : FolderState → FolderState → DecodeNames → Type 0
HoldsBeginning old new n = IsTrue (old.tells n.rec) → IsTrue (old.tells n.file)
    → (octets : List ℕ) × (held_at new n.file ≡ Some octets) × IsBeginning n.rate (octets_at old n.rec) octets

-- the output holds the decoding of the recording, and how many octets it has was said
abbrev pub HoldsWhole : FolderState → FolderState → DecodeNames → Type 0
HoldsWhole old new n = (count : ℕ) × Said old new (octets_line count)
    × (IsTrue (old.tells n.rec) → IsTrue (old.tells n.file)
    → (octets : List ℕ) × (held_at new n.file ≡ Some octets) × IsDecoding n.rate (octets_at old n.rec) octets × (count ≡ length octets))

-- The output becomes what a nearest code sequence carries, or the beginning of it where the command ends otherwise. A line of four points is
-- never lost.
pub record Headline (old new : FolderState) (n : DecodeNames) (s : Status) : Type 0 where
  pub shared : Shared (inputs_of n) (outputs_of n) old new s
  pub file : KeepsName old new n.file ⊎ HoldsBeginning old new n
  pub whole : s ≡ Done → HoldsWhole old new n
  pub never_lost : (role : Role) (symbol : ℕ) → n.rate ≡ rates.Quarters → s ≡ LineLost role symbol → ⊥
