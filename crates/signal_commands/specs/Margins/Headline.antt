-- What the command promises, over the folder before and after it. What is said of a name's octets holds where the folder tells that
-- name.
use Rattle.std.specs.Prelude.{◌≡◌, ℕ, ◌*◌, ◌<◌, nat_lt, IsTrue, List, [], ◌++◌, length, None}
use Rattle.scramblers.specs.declared.mode.Mode.{Mode}
use Rattle.symbol_map.specs.declared.sample.Sample.{Sample}
use Rattle.shared_terms.specs.Prefix.{IsPrefixOf}
use Rattle.exact_decoder.specs.Surviving.Survivors.{IsReleased, LostIs}
use Rattle.exact_decoder.specs.Surviving.V32.{line_trellis, line_depth}
use Rattle.outside_calls.specs.Folder.{FolderState, octets_at, Said}
use Rattle.noise_bound.specs.Margins.{IsCostOf}
use Rattle.recordings.specs.Recording.{header_of}
use Rattle.recordings.specs.Samples.{samples_in}
use Rattle.command_base.specs.declared.status.Status.{Status}
use Rattle.command_base.specs.declared.status.Status.TheVariants.{Done}
use Rattle.command_base.specs.Job.{Shared}
use Rattle.command_base.specs.Lines.{margin_line}
use Rattle.signal_commands.specs.Margins.Words.{MarginNames, inputs_of}

-- The samples are not lost, and what they release begins these labels.
pub record AreDecoded (samples : List Sample) (labels : List ℕ) : Type 0 where
  pub not_lost : LostIs line_trellis line_depth samples None
  pub released : (front : List ℕ) → IsReleased line_trellis samples front → IsPrefixOf front labels

-- The recording is a header, and eight octets for each octet of the file, and the line says what the file's octets cost against its
-- samples. Below 10,485,760 the recording isn't lost, and the labels that it releases begin those of the file.
pub record MeasuresAll (old new : FolderState) (n : MarginNames) : Type 0 where
  pub mode : Mode
  pub content : List ℕ
  pub recording_is : IsTrue (old.tells n.rec) → octets_at old n.rec ≡ header_of mode ++ content
  pub octets : List ℕ
  pub file_is : IsTrue (old.tells n.file) → octets ≡ octets_at old n.file
  pub fits : length content ≡ 8 * length octets
  pub price : ℕ
  pub costs : IsCostOf mode octets (samples_in content) price
  pub said : Said old new (margin_line price (nat_lt price 10485760))
  pub decoded : price < 10485760 → AreDecoded (samples_in content) costs.modulated.labels

-- The recording is measured, and no file changes.
pub record Headline (old new : FolderState) (n : MarginNames) (s : Status) : Type 0 where
  pub shared : Shared (inputs_of n) [] old new s
  pub measures : s ≡ Done → MeasuresAll old new n
