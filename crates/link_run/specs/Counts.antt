-- How many slots were lost in some turns, and how many segments went again.
use Rattle.std.specs.Prelude.{◌≡◌, ℕ, ◌+◌, ◌%◌, Bool, false, if◌then◌else◌, ◌||◌, nat_eq, nat_lt, List, [], ◌∷◌, ◌++◌, Option, Some, None}
use Rattle.shared_terms.specs.declared.role.Role.{Role}
use Rattle.shared_terms.specs.declared.role.Role.TheVariants.{Originator, Answerer}
use Rattle.shared_terms.specs.Both.{of}
use Rattle.lapm_frames.specs.declared.frame.Frame.{Frame}
use Rattle.lapm_frames.specs.declared.frame.Frame.TheVariants.{I}
use Rattle.lapm_frames.specs.declared.sent.Sent.{Sent}
use Rattle.lapm_frames.specs.declared.sent.Sent.TheVariants as slots
use Rattle.lapm_frames.specs.declared.heard.Heard.{Heard}
use Rattle.lapm_frames.specs.declared.heard.Heard.TheVariants.{Nothing, Passed, Lost, Chance}
use Rattle.link_run.specs.Run.{Link, Accounts, Spoken, Turn, GoingTurn}
use Rattle.link_run.specs.Carried.{Carries}
use Rattle.link_run.specs.Laws.{RunsOver}

-- 1 where the slot was lost
abbrev pub lost_in : Heard → ℕ
lost_in Nothing = 0
lost_in (Passed s) = 0
lost_in (Lost s) = 1
lost_in Chance = 0

-- slots whose outcome is lost
abbrev pub lost_slots : List Turn → ℕ
lost_slots [] = 0
lost_slots (t ∷ ts) = lost_slots ts + lost_in t.orig.heard + lost_in t.answ.heard

-- the number of an I frame, where it is one
abbrev pub numbered_frame : ℕ → Frame → List ℕ
numbered_frame number (I ns nr pf info) = number ∷ []
numbered_frame number frame = []

-- the meant number of an I frame
abbrev pub number_in : ℕ → Sent → List ℕ
number_in number (slots.Frame frame) = numbered_frame number frame
number_in number sent = []

-- that of the I frame that was sent, where one was
abbrev pub segment_number : Option Spoken → List ℕ
segment_number None = []
segment_number (Some slot) = number_in slot.number slot.sent

-- the N(S) of an I frame
abbrev pub sequence_number : Frame → Option ℕ
sequence_number (I ns nr pf info) = Some ns
sequence_number frame = None

abbrev pub sequence_in : Sent → Option ℕ
sequence_in (slots.Frame frame) = sequence_number frame
sequence_in sent = None

abbrev pub sequence_of : Option Spoken → Option ℕ
sequence_of None = None
sequence_of (Some slot) = sequence_in slot.sent

-- a number stands among these
abbrev pub is_number : ℕ → List ℕ → Bool
is_number n [] = false
is_number n (m ∷ ms) = nat_eq m n || is_number n ms

-- the numbers of the I frames that a role sent, the newest first
abbrev pub numbers_sent : Role → List Turn → List ℕ
numbers_sent role [] = []
numbers_sent role (t ∷ ts) = segment_number (of role t).sent ++ numbers_sent role ts

-- how many of them had been sent before
abbrev pub repeated : List ℕ → ℕ
repeated [] = 0
repeated (n ∷ ns) = if is_number n ns then repeated ns + 1 else repeated ns

-- I frames whose segment had been sent before
abbrev pub sent_again : List Turn → ℕ
sent_again ts = repeated (numbers_sent Originator ts) + repeated (numbers_sent Answerer ts)

-- Who counts what a role sends by N(S) alone, from how many segments it has sent: one with the next N(S) is the next one, and any other was
-- sent before.
abbrev pub next_count : Option ℕ → ℕ → ℕ
next_count None sent = sent
next_count (Some ns) sent = if nat_eq ns (sent % 128) then sent + 1 else sent

abbrev pub again_in : Option ℕ → ℕ → ℕ
again_in None sent = 0
again_in (Some ns) sent = if nat_eq ns (sent % 128) then 0 else 1

-- So it comes to all that is counted by the meant numbers.
pub record CountsOn (role : Role) (ts : List Turn) (ends : Accounts) (t : Turn) (after : Accounts) : Type 0 where
  pub high : (of role after).outgoing.high ≡ next_count (sequence_of (of role t).sent) (of role ends).outgoing.high
  pub again : repeated (numbers_sent role (t ∷ ts)) ≡ repeated (numbers_sent role ts) + again_in (sequence_of (of role t).sent)
      (of role ends).outgoing.high

abbrev pub CountsByNumber : Type 0
CountsByNumber = (link : Link) (delay : Role → ℕ) (ts : List Turn) (ends : Accounts) (t : Turn) (after : Accounts) → RunsOver link delay ts ends
    → Carries delay ts t → GoingTurn link ts ends t after → (role : Role) → CountsOn role ts ends t after

-- And the segments that were sent are all those before a number.
abbrev pub SentBelowHigh : Type 0
SentBelowHigh = (link : Link) (delay : Role → ℕ) (ts : List Turn) (ends : Accounts) → RunsOver link delay ts ends → (role : Role) (n : ℕ)
    → is_number n (numbers_sent role ts) ≡ nat_lt n (of role ends).outgoing.high
