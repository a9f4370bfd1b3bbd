-- What arrives of what a line carries in a turn, and what an end says in one.
use Rattle.std.specs.Prelude.{◌≡◌}
use Rattle.frame_check.specs.declared.check.Check.{Check}
use Rattle.shared_terms.specs.declared.role.Role.{Role}
use Rattle.lapm_frames.specs.Checked.{checked, SpellsFrame}
use Rattle.lapm_frames.specs.declared.frame.Frame.{Frame}
use Rattle.lapm_frames.specs.declared.seen.Seen.TheVariants as seen
use Rattle.lapm_frames.specs.declared.arrived.Arrived.{Arrived}
use Rattle.lapm_frames.specs.declared.arrived.Arrived.TheVariants as arrivals
use Rattle.lapm_frames.specs.declared.sent.Sent.{Sent}
use Rattle.lapm_frames.specs.declared.sent.Sent.TheVariants as slots
use Rattle.gateway.specs.declared.turns.Carried.{Carried}
use Rattle.gateway.specs.declared.turns.Carried.TheVariants as loads
use Rattle.gateway.specs.declared.turns.Told.{Told}
use Rattle.gateway.specs.declared.turns.Told.TheVariants as told

-- What arrives of it at an end whose frames have this check, sent by this role: of octets the frame that they spell with their check, and nothing
-- where they spell none.
abbrev pub Arrives : Check → Role → Carried → Arrived → Type 0
Arrives check sender loads.Nothing arrived = arrived ≡ arrivals.Nothing
Arrives check sender (loads.Pattern pattern) arrived = arrived ≡ arrivals.Pattern pattern
Arrives check sender (loads.Octets octets) (arrivals.Frame frame) = SpellsFrame check sender 0 octets.now frame
Arrives check sender (loads.Octets octets) arrivals.Nothing = (frame : Frame) → SpellsFrame check sender 0 octets.now frame → ⊥
Arrives check sender (loads.Octets octets) (arrivals.Pattern pattern) = ⊥

-- what an end of this role says that sends this, where its frames have this check
abbrev pub told_as : Check → Role → Sent → Told
told_as check sender slots.Mark = told.Mark
told_as check sender slots.Odp = told.Pattern seen.Odp
told_as check sender slots.Adp = told.Pattern seen.Adp
told_as check sender slots.Flags = told.Flags
told_as check sender (slots.Frame frame) = told.Octets (checked check sender 0 frame)
