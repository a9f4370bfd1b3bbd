-- What a line makes of slots if nothing hinders them.
use Rattle.std.specs.Prelude.{◌≡◌, ℕ, ◌<◌, Bool, if◌then◌else◌, List, [], ◌∷◌, replicate}
use Rattle.lapm_frames.specs.declared.seen.Seen.{Seen}
use Rattle.lapm_frames.specs.declared.seen.Seen.TheVariants as seen
use Rattle.frame_check.specs.declared.check.Check.{Check}
use Rattle.shared_terms.specs.declared.role.Role.{Role}
use Rattle.lapm_frames.specs.Checked.{check_for}
use Rattle.lapm_frames.specs.Frame.{spelled}
use Rattle.lapm_frames.specs.declared.sent.Sent.{Sent}
use Rattle.lapm_frames.specs.declared.sent.Sent.TheVariants as sent
use Rattle.noise_script.specs.Offsets.{nothing}
use Rattle.noise_script.specs.Script.{ScriptValue, offset_of}
use Rattle.lapm_frames.specs.declared.heard.Heard.{Heard}
use Rattle.lapm_frames.specs.declared.heard.Heard.TheVariants as heard
use Rattle.sample_line.specs.Outcomes.{is_message}

-- no line of the script displaces one of this sender's first symbols, so many
abbrev pub DisplacesNoneBefore : ScriptValue → Role → ℕ → Type 0
DisplacesNoneBefore script sender count = (symbol : ℕ) → symbol < count → offset_of script sender symbol ≡ nothing

-- the octets that are to be received: those of a frame, once
abbrev pub octets_in : Role → ℕ → Sent → List (List ℕ)
octets_in sender dlci sent.Mark = []
octets_in sender dlci sent.Odp = []
octets_in sender dlci sent.Adp = []
octets_in sender dlci sent.Flags = []
octets_in sender dlci (sent.Frame frame) = spelled frame sender dlci ∷ []

-- and the patterns: a pattern slot has ten, and each is seen with the one before it
abbrev pub patterns_in : Sent → List Seen
patterns_in sent.Mark = []
patterns_in sent.Odp = replicate 9 seen.Odp
patterns_in sent.Adp = replicate 9 seen.Adp
patterns_in sent.Flags = []
patterns_in (sent.Frame frame) = []

-- What is to be heard: a message passes, unless a line of the script loses it, and an empty slot is nothing.
abbrev pub unhindered : Bool → Sent → Heard
unhindered loses s = if is_message s then (if loses then heard.Lost s else heard.Passed s) else heard.Nothing

-- Two ends' checks agree on what is sent. They may differ, as they do while offers cross, unless it is a frame with numbers.
abbrev pub ChecksAgree : Check → Check → Sent → Type 0
ChecksAgree check hearing sent.Mark = Unit {0}
ChecksAgree check hearing sent.Odp = Unit {0}
ChecksAgree check hearing sent.Adp = Unit {0}
ChecksAgree check hearing sent.Flags = Unit {0}
ChecksAgree check hearing (sent.Frame frame) = check_for check frame ≡ check_for hearing frame
