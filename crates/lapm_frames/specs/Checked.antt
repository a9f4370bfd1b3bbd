-- The octets of a frame of ITU-T V.42 with its check, for ends that agreed on one of the two checks.
use Rattle.std.specs.Prelude.{ℕ, ◌%◌, nat_eq, if◌then◌else◌, List, slice_index_or}
use Rattle.frame_check.specs.declared.check.Check.{Check}
use Rattle.frame_check.specs.declared.check.Check.TheVariants.{Sixteen}
use Rattle.frame_check.specs.FrameCheck.{IsChecked, Passes}
use Rattle.frame_check.specs.Division.{with_check}
use Rattle.shared_terms.specs.declared.role.Role.{Role}
use Rattle.lapm_frames.specs.declared.frame.Frame.{Frame}
use Rattle.lapm_frames.specs.declared.fault.FrameFault.{FrameFault}
use Rattle.lapm_frames.specs.declared.fault.CheckedFault.{CheckedFault}
use Rattle.lapm_frames.specs.declared.fault.CheckedFault.TheVariants.{BadCheck, Refused}
use Rattle.lapm_frames.specs.Frame.{FrameSpelling, has_number, spelled}
use Rattle.lapm_frames.specs.Fault.{FirstFault}

-- the check of a frame: the frames that carry numbers have the agreed one, all others that of 16 bits
abbrev pub check_for : Check → Frame → Check
check_for check frame = if has_number frame then check else Sixteen

-- a frame's octets with its check
abbrev pub checked : Check → Role → ℕ → Frame → List ℕ
checked check sender dlci frame = with_check (check_for check frame) (spelled frame sender dlci)

-- the check by which octets are judged: the low bits of the second octet tell which frames carry no numbers
abbrev pub check_heard : Check → List ℕ → Check
check_heard check whole = if nat_eq (slice_index_or whole 1 0 % 4) 3 then Sixteen else check

-- the octets pass the check, and those before it spell a frame of the sender on this channel
pub record SpellsFrame (check : Check) (sender : Role) (dlci : ℕ) (whole : List ℕ) (frame : Frame) : Type 0 where
  pub octets : List ℕ
  pub passes : IsChecked (check_heard check whole) octets whole
  pub spelling : FrameSpelling frame sender dlci octets

-- the octets pass the check, and those before it have this fault
pub record SpellsFault (check : Check) (sender : Role) (dlci : ℕ) (whole : List ℕ) (fault : FrameFault) : Type 0 where
  pub octets : List ℕ
  pub passes : IsChecked (check_heard check whole) octets whole
  pub is_first : FirstFault sender dlci octets fault

-- why octets are no frame with its check
abbrev pub IsCheckedFault : Check → Role → ℕ → List ℕ → CheckedFault → Type 0
IsCheckedFault check sender dlci whole BadCheck = Passes (check_heard check whole) whole → ⊥
IsCheckedFault check sender dlci whole (Refused fault) = SpellsFault check sender dlci whole fault
