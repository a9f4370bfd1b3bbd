-- What goes over a direction of the line in order, whatever links send it.
use Rattle.std.specs.Prelude.{◌≡◌, ℕ, suc, ◌-◌, ◌<◌, ◌≤◌, is_some, true, List, [], ◌∷◌, ◌++◌, length, map, take, drop, Option, Some, None}
use Rattle.shared_terms.specs.declared.role.Role.{Role}
use Rattle.shared_terms.specs.declared.role.Role.TheVariants.{Originator, Answerer}
use Rattle.shared_terms.specs.Both.{Both, of}
use Rattle.detection.specs.Slots.{Signal}
use Rattle.lapm_frames.specs.Sendable.{IsSendable}
use Rattle.noise_script.specs.Script.{delay_of}
use Rattle.sample_line.specs.Signals.{signal_of}
use Rattle.link_run.specs.Run.{Spoken, Turn}
use Rattle.link_run.specs.Carried.{sent_ago}
use Rattle.line_run.specs.Sampled.{Wire, signals_before}

-- A slot on the line: its link's channel, and what was sent in it.
pub record Carried : Type 0 where
  pub dlci : ℕ
  pub spoken : Spoken

abbrev pub carried_signal : Role → Carried → Signal
carried_signal role x = signal_of x.spoken.check role x.dlci x.spoken.sent

abbrev pub carry : ℕ → Option Spoken → List Carried
carry dlci None = []
carry dlci (Some slot) = (record { dlci = dlci; spoken = slot }) ∷ []

-- what a link alone has sent in these turns
abbrev pub sent_by : ℕ → Role → List Turn → List Carried
sent_by dlci role [] = []
sent_by dlci role (t ∷ ts) = sent_by dlci role ts ++ carry dlci (of role t).sent

-- and at both ends of it
abbrev pub both_sent_by : ℕ → List Turn → Both (List Carried)
both_sent_by dlci ts = record { orig = sent_by dlci Originator ts; answ = sent_by dlci Answerer ts }

-- so much more was sent, once a link made this turn
abbrev pub and_sent : Both (List Carried) → ℕ → Turn → Both (List Carried)
and_sent streams dlci t =
    record { orig = streams.orig ++ carry dlci (of Originator t).sent; answ = streams.answ ++ carry dlci (of Answerer t).sent }

-- something was sent in each of these turns
abbrev pub AreSent : Role → List Turn → Type 0
AreSent role [] = Unit {0}
AreSent role (t ∷ ts) = (is_some (of role t).sent ≡ true) × AreSent role ts

-- All that was sent in these turns can be sent: the numbers of its frames are below 128, and it consists of octets.
abbrev pub AllSendable : List Turn → Type 0
AllSendable [] = Unit {0}
AllSendable (t ∷ ts) = ((role : Role) (slot : Spoken) → (of role t).sent ≡ Some slot → IsSendable slot.sent) × AllSendable ts

-- The slot that arrives for a link in the turn after these is the one that has so many slots behind it on the line: it is what the link sent as
-- many turns before as its delay has, and what the link's channel has before it went before it. Before there is one, nothing arrives.
pub record IsDue (c : Wire) (role : Role) (ts : List Turn) (stream : List Carried) (lag : ℕ) : Type 0 where
  pub early : length stream < lag → sent_ago (delay_of c.script role) role ts ≡ None
  pub late : lag ≤ length stream → delay_of c.script role ≤ length ts
  pub due : lag ≤ length stream → (slot : Spoken) × (sent_ago (delay_of c.script role) role ts ≡ Some slot)
      × (drop (length stream - lag) stream ≡ (record { dlci = c.dlci; spoken = slot }) ∷ drop (suc (length stream - lag)) stream)
      × (map (carried_signal role) (take (length stream - lag) stream) ≡ signals_before c role (drop (delay_of c.script role) ts))
