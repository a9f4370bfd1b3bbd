-- What any line makes of the slots of a run: each arrives after its delay, and a message in it passes or is lost.
use Rattle.std.specs.Prelude.{◌≡◌, ℕ, zero, suc, ◌-◌, ◌≤◌, Bool, true, false, List, [], ◌∷◌, ◌++◌, Option, Some, None, slice_get}
use Rattle.shared_terms.specs.declared.role.Role.{Role}
use Rattle.shared_terms.specs.Role.{other}
use Rattle.shared_terms.specs.Both.{of}
use Rattle.lapm_frames.specs.declared.arrived.Arrived.{Arrived}
use Rattle.lapm_frames.specs.declared.arrived.Arrived.TheVariants as arrivals
use Rattle.lapm_frames.specs.declared.sent.Sent.{Sent}
use Rattle.lapm_frames.specs.declared.heard.Heard.{Heard}
use Rattle.lapm_frames.specs.declared.heard.Heard.TheVariants.{Nothing, Passed, Lost, Chance}
use Rattle.link_account.specs.Play.{arrives}
use Rattle.link_run.specs.Run.{Spoken, Turn}

-- what a role sent in a turn; none where there was no such turn
abbrev pub sent_in : Role → Option Turn → Option Spoken
sent_in role None = None
sent_in role (Some t) = (of role t).sent

-- what a role sent so many turns before the turn after these; none where it made fewer
abbrev pub sent_ago : ℕ → Role → List Turn → Option Spoken
sent_ago turns role ts = sent_in role (slice_get ts (turns - 1))

-- a frame or a pattern arrives
abbrev pub is_something : Arrived → Bool
is_something arrivals.Nothing = false
is_something (arrivals.Pattern seen) = true
is_something (arrivals.Frame frame) = true

-- a slot with a message in it
abbrev pub has_message : Sent → Bool
has_message sent = is_something (arrives sent)

-- what may be heard of a slot
abbrev pub Crosses : Option Spoken → Heard → Type 0
Crosses None Nothing = Unit {0}
Crosses None (Passed s) = ⊥
Crosses None (Lost s) = ⊥
Crosses None Chance = ⊥
Crosses (Some slot) Nothing = has_message slot.sent ≡ false
Crosses (Some slot) (Passed s) = (s ≡ slot.sent) × (has_message slot.sent ≡ true)
Crosses (Some slot) (Lost s) = (s ≡ slot.sent) × (has_message slot.sent ≡ true)
Crosses (Some slot) Chance = ⊥

-- What is heard in the turn after these is what the other end sent, as many turns before as that direction's delay.
abbrev pub Carries : (Role → ℕ) → List Turn → Turn → Type 0
Carries delay ts t = (role : Role) → Crosses (sent_ago (delay (other role)) (other role) ts) (of role t).heard

-- and so in each of these turns
abbrev pub IsCarried : (Role → ℕ) → List Turn → Type 0
IsCarried delay [] = Unit {0}
IsCarried delay (t ∷ ts) = Carries delay ts t × IsCarried delay ts

-- a slot is on its way for a turn at least
abbrev pub HasDelays : (Role → ℕ) → Type 0
HasDelays delay = (role : Role) → 1 ≤ delay role

-- what a role sent in the last so many of these turns, the oldest first
abbrev pub on_line : ℕ → Role → List Turn → List (Option Spoken)
on_line zero role ts = []
on_line (suc turns) role [] = []
on_line (suc turns) role (t ∷ ts) = on_line turns role ts ++ (of role t).sent ∷ []
