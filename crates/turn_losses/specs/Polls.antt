-- Polls and their answers, over the turns of a run.
use Rattle.std.specs.Prelude.{◌≡◌, ℕ, ◌+◌, ◌<◌, ◌≤◌, Bool, true, false, not, ◌&&◌, List, ◌∷◌, length, Option, Some, None}
use Rattle.shared_terms.specs.declared.role.Role.{Role}
use Rattle.shared_terms.specs.Both.{of}
use Rattle.lapm_frames.specs.declared.frame.Frame.{Frame}
use Rattle.lapm_frames.specs.declared.frame.Frame.TheVariants.{I, Rr, Rnr, Rej}
use Rattle.lapm_frames.specs.declared.sent.Sent.{Sent}
use Rattle.lapm_frames.specs.declared.sent.Sent.TheVariants as slots
use Rattle.link_account.specs.declared.phase.Phase.TheVariants.{Connected}
use Rattle.link_run.specs.Run.{Link, Accounts, Spoken, Turn, GoingTurn, RunOf}
use Rattle.link_run.specs.Carried.{IsCarried, sent_in, sent_ago}
use Rattle.link_run.specs.Overheard.{passes_in}
use Rattle.link_run.specs.Starved.{turn_at}
use Rattle.turn_bound.specs.Time.{KeepsTime}
use Rattle.turn_bound.specs.Bound.{of_both}

-- a poll: a frame that asks for a response with F = 1
abbrev pub is_poll : Frame → Bool
is_poll (I ns nr pf info) = pf
is_poll (Rr command nr pf) = command && pf
is_poll (Rnr command nr pf) = command && pf
is_poll (Rej command nr pf) = command && pf
is_poll frame = false

-- what answers a poll: a supervisory response with F = 1
abbrev pub is_final : Frame → Bool
is_final (Rr command nr pf) = pf && not command
is_final (Rnr command nr pf) = pf && not command
is_final (Rej command nr pf) = pf && not command
is_final frame = false

-- whether a slot is a frame of this kind
abbrev pub is_frame_of : (Frame → Bool) → Sent → Bool
is_frame_of is (slots.Frame frame) = is frame
is_frame_of is sent = false

abbrev pub sends_of : (Frame → Bool) → Option Spoken → Bool
sends_of is None = false
sends_of is (Some slot) = is_frame_of is slot.sent

-- a role polls in the turn of that number
abbrev pub PollsIn : Role → ℕ → List Turn → Type 0
PollsIn role turn ts = sends_of is_poll (sent_in role (turn_at turn ts)) ≡ true

-- The polls of an end go at least a period less one turn apart.
abbrev pub PollsKeepApart : Type 0
PollsKeepApart = (tries period : ℕ) (delay : Role → ℕ) (link : Link) (ts : List Turn) (ends : Accounts)
    → KeepsTime tries period delay link → RunOf link ts ends → IsCarried delay ts
    → (role : Role) (earlier later : ℕ) → earlier < later → later < length ts → PollsIn role earlier ts → PollsIn role later ts
    → earlier + period ≤ later + 1

-- An end that is Connected before a turn and after it sends the answer to a poll exactly where it hears one in that very turn.
abbrev pub RepliesAtOnce : Type 0
RepliesAtOnce = (tries period : ℕ) (delay : Role → ℕ) (link : Link) (ts : List Turn) (before : Accounts) (t : Turn) (after : Accounts)
    → KeepsTime tries period delay link → RunOf link ts before → GoingTurn link ts before t after → IsCarried delay (t ∷ ts)
    → (role : Role) → (of role before).phase ≡ Connected → (of role after).phase ≡ Connected
    → sends_of is_final (of role t).sent ≡ passes_in is_poll (of role t).heard

-- The answer to a poll comes a round trip after it; until then the poll is awaited, and none is due.
pub record AnswersPoll (delay : Role → ℕ) (ts : List Turn) (before : Accounts) (role : Role) : Type 0 where
  pub polled : sends_of is_poll (sent_ago (of_both delay) role ts) ≡ true
  pub awaited : (of role before).outgoing.awaited ≡ true
  pub none_due : (of role before).wait.poll ≡ false

abbrev pub AnswersMatchPolls : Type 0
AnswersMatchPolls = (tries period : ℕ) (delay : Role → ℕ) (link : Link) (ts : List Turn) (before : Accounts) (t : Turn) (after : Accounts)
    → KeepsTime tries period delay link → RunOf link ts before → GoingTurn link ts before t after → IsCarried delay (t ∷ ts)
    → (role : Role) → (of role before).phase ≡ Connected → passes_in is_final (of role t).heard ≡ true
    → AnswersPoll delay ts before role
