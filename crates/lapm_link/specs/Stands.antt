-- For which account an end stands, and what its calls then answer. An end keeps of its account what its state can still need.
use Rattle.std.specs.Prelude.{◌≡◌, ℕ, ◌≤◌, Bool, false, if◌then◌else◌, nat_lt, length, Option, Some, None, Result, Ok, Err, slice_index_or}
use Rattle.shared_terms.specs.declared.role.Role.TheVariants.{Originator, Answerer}
use Rattle.xid_params.specs.declared.terms.Terms.{Terms}
use Rattle.lapm_sender.specs.Outgoing as outgoing
use Rattle.lapm_sender.specs.Outgoing.{Outgoing}
use Rattle.lapm_sender.specs.Sending.{StandsOut, wanted_by, room_by}
use Rattle.lapm_receiver.specs.Incoming as incoming
use Rattle.lapm_receiver.specs.Taking.{Taking, StandsIn}
use Rattle.break_signals.specs.Breaks.{no_breaks, none_heard}
use Rattle.break_signals.specs.Keeping.{StandsOwn, StandsTheirs}
use Rattle.link_account.specs.declared.setup.Setup.{Setup}
use Rattle.link_account.specs.declared.answer.Answer.{Answer}
use Rattle.lapm_frames.specs.declared.sent.Sent.{Sent}
use Rattle.shared_terms.specs.declared.fault.LinkFault.{LinkFault}
use Rattle.link_account.specs.declared.phase.Phase.{Phase}
use Rattle.link_account.specs.declared.phase.Phase.TheVariants as phases
use Rattle.lapm_link.specs.declared.attempt.Attempt.{Attempt}
use Rattle.lapm_link.specs.declared.asking.Asking.{Asking}
use Rattle.lapm_link.specs.declared.answering.Answering.{Answering}
use Rattle.lapm_link.specs.declared.negotiating.Talk.{Talk}
use Rattle.lapm_link.specs.declared.negotiating.Talk.TheVariants as talks
use Rattle.lapm_link.specs.declared.connected.Breaks.{Breaks}
use Rattle.link_account.specs.declared.owes.Owes.{Owes}
use Rattle.lapm_link.specs.declared.connected.Wait.{Wait}
use Rattle.lapm_link.specs.declared.rules.Waits.{Waits}
use Rattle.lapm_link.specs.declared.connected.Connected.{Connected}
use Rattle.lapm_link.specs.declared.closed.Broken.{Broken}
use Rattle.lapm_link.specs.declared.any_end.AnyEnd.{AnyEnd}
use Rattle.lapm_link.specs.declared.any_end.AnyEnd.TheVariants as ends
use Rattle.link_account.specs.Account.{Account, first_terms}
use Rattle.link_account.specs.Speak.{Said}
use Rattle.lapm_link.specs.Attempt.{Tries}

-- An end that isn't connected yet: of its account nothing has changed but the phase, the terms, the tries of its frames and the answer that
-- is due.
pub record IsUnlinked (setup : Setup) (answer : Option Answer) (a : Account) : Type 0 where
  pub setup_is : setup ≡ a.setup
  pub owes_is : a.owes ≡ record { answer = answer; reply = false; busy = false; busy_told = false }
  pub numbered_is : a.numbered ≡ false
  pub outgoing_is : a.outgoing ≡ outgoing.not_begun
  pub incoming_is : a.incoming ≡ incoming.not_begun
  pub own_is : a.own_breaks ≡ no_breaks
  pub their_is : a.their_breaks ≡ none_heard
  pub told_is : a.breaks_told ≡ 0
  pub poll_is : a.wait.poll ≡ false
  pub urgent_is : a.wait.urgent ≡ false
  pub timer_is : a.wait.timer ≡ None
  pub special_is : a.special ≡ false

-- an end that looks for the other one
pub record Detects (setup : Setup) (answer : Option Answer) (a : Account) : Type 0 where
  pub phase_is : a.phase ≡ phases.Detecting
  pub unlinked : IsUnlinked setup answer a
  pub terms_are : a.terms ≡ first_terms

-- an originator that sends its offer
pub record IsAsking (asking : Asking) (a : Account) : Type 0 where
  pub phase_is : a.phase ≡ phases.Negotiating
  pub originates : a.setup.role ≡ Originator
  pub unlinked : IsUnlinked asking.memory.setup asking.memory.answer a
  pub terms_are : a.terms ≡ first_terms
  pub tries : Tries asking.attempt a

-- an answerer that has heard one
pub record IsAnswering (answering : Answering) (a : Account) : Type 0 where
  pub phase_is : a.phase ≡ phases.Negotiating
  pub answers : a.setup.role ≡ Answerer
  pub unlinked : IsUnlinked answering.agreed.memory.setup answering.agreed.memory.answer a
  pub terms_are : answering.agreed.terms ≡ a.terms

abbrev pub Negotiates : Talk → Account → Type 0
Negotiates (talks.Asking asking) a = IsAsking asking a
Negotiates (talks.Answering answering) a = IsAnswering answering a

-- an originator that sends its SABME
pub record Establishes (setup : Setup) (answer : Option Answer) (terms : Terms) (attempt : Attempt) (a : Account) : Type 0 where
  pub unlinked : IsUnlinked setup answer a
  pub terms_are : terms ≡ a.terms
  pub tries : Tries attempt a

-- the length of the first break that the user wasn't given yet
abbrev pub first_untold : Account → Option ℕ
first_untold a =
    if nat_lt a.breaks_told (length a.their_breaks.lengths) then Some (slice_index_or a.their_breaks.lengths a.breaks_told 0) else None

-- the breaks of both ends, and what the user was given of them
pub record BreaksStand (breaks : Breaks) (a : Account) : Type 0 where
  pub own : StandsOwn breaks.own a.own_breaks
  pub their : StandsTheirs breaks.their a.their_breaks
  pub told_within : a.breaks_told ≤ length a.their_breaks.lengths
  pub given_is : breaks.given ≡ first_untold a

-- what the end waits for
pub record WaitStands (wait : Wait) (a : Account) : Type 0 where
  pub poll_is : wait.poll ≡ a.wait.poll
  pub urgent_is : wait.urgent ≡ a.wait.urgent
  pub timer_is : wait.timer ≡ a.wait.timer

-- a link that is up, but for its sender
pub record LinksBeside (setup : Setup) (terms : Terms) (receiver : Taking) (breaks : Breaks) (owes : Owes) (wait : Wait)
    (numbered special : Bool) (a : Account) : Type 0 where
  pub phase_is : a.phase ≡ phases.Connected
  pub setup_is : setup ≡ a.setup
  pub terms_are : terms ≡ a.terms
  pub numbered_is : numbered ≡ a.numbered
  pub receiver_stands : StandsIn receiver a.incoming
  pub breaks_stand : BreaksStand breaks a
  pub owes_is : owes ≡ a.owes
  pub waits : WaitStands wait a
  pub special_is : special ≡ a.special

-- a link that is up
pub record Links (end : Connected) (a : Account) : Type 0 where
  pub sender_stands : StandsOut end.sender a.outgoing
  pub beside : LinksBeside end.setup end.terms end.receiver end.breaks end.owes end.wait end.numbered end.special a

-- an originator that sends its DISC
pub record Releases (setup : Setup) (answer : Option Answer) (terms : Terms) (front : ℕ) (attempt : Attempt) (a : Account) : Type 0 where
  pub setup_is : setup ≡ a.setup
  pub answer_is : answer ≡ a.owes.answer
  pub terms_are : terms ≡ a.terms
  pub front_is : front ≡ a.outgoing.front
  pub tries : Tries attempt a

-- a link that is over: all that is left is an answer that is due
pub record IsOver (setup : Setup) (answer : Option Answer) (terms : Terms) (a : Account) : Type 0 where
  pub setup_is : setup ≡ a.setup
  pub answer_is : answer ≡ a.owes.answer
  pub terms_are : terms ≡ a.terms

-- the account that an end stands for
abbrev pub StandsFor : AnyEnd → Account → Type 0
StandsFor (ends.Detecting end) a = Detects end.memory.setup end.memory.answer a
StandsFor (ends.Negotiating end) a = Negotiates end.talk a
StandsFor (ends.Establishing end) a =
    (a.phase ≡ phases.Establishing) × Establishes end.agreed.memory.setup end.agreed.memory.answer end.agreed.terms end.attempt a
StandsFor (ends.Connected end) a = Links end a
StandsFor (ends.Releasing end) a = (a.phase ≡ phases.Releasing) × Releases end.setup end.answer end.terms end.front end.attempt a
StandsFor (ends.Closed end) a = (a.phase ≡ phases.Closed) × IsOver end.setup end.answer end.terms a

-- what an end says that isn't connected yet, and has no frame of its own to send
pub record SaysUnlinked (said : Said) (setup : Setup) (answer : Option Answer) (a : Account) (sent : Sent) : Type 0 where
  pub sent_is : sent ≡ said.sent
  pub unlinked : IsUnlinked setup answer said.account
  pub phase_is : said.account.phase ≡ a.phase
  pub terms_are : said.account.terms ≡ a.terms

-- an account whose link broke: nothing is due any more
abbrev pub given_up : Account → Account
given_up a = record a { phase = phases.Closed; owes = record a.owes { answer = None } }

-- A break of the link: the fault, and an end that is closed and owes nothing.
pub record BreaksOff (fault : LinkFault) (a : Account) (broken : Broken) : Type 0 where
  pub fault_is : broken.fault ≡ fault
  pub over : IsOver broken.end.setup broken.end.answer broken.end.terms (given_up a)

-- what a call of hear answers, where this is what the account becomes
abbrev pub Hears : Result Account LinkFault → Account → Result AnyEnd Broken → Type 0
Hears (Ok b) a (Ok end) = StandsFor end b
Hears (Err fault) a (Err broken) = BreaksOff fault a broken
Hears (Ok b) a (Err broken) = ⊥
Hears (Err fault) a (Ok end) = ⊥

-- what a call of speak answers and sends, where this is what the account says; at a fault what was to be sent stays as it was
abbrev pub Speaks : Result Said LinkFault → Account → Sent → Sent → Result AnyEnd Broken → Type 0
Speaks (Ok said) a before sent (Ok end) = (sent ≡ said.sent) × StandsFor end said.account
Speaks (Err fault) a before sent (Err broken) = (sent ≡ before) × BreaksOff fault a broken
Speaks (Ok said) a before sent (Err broken) = ⊥
Speaks (Err fault) a before sent (Ok end) = ⊥

-- how many segments an end took so far, and how many of them aren't delivered
abbrev pub taken_of : AnyEnd → ℕ
taken_of (ends.Detecting end) = 0
taken_of (ends.Negotiating end) = 0
taken_of (ends.Establishing end) = 0
taken_of (ends.Connected end) = end.receiver.taken
taken_of (ends.Releasing end) = 0
taken_of (ends.Closed end) = 0

abbrev pub undelivered_of : AnyEnd → ℕ
undelivered_of (ends.Detecting end) = 0
undelivered_of (ends.Negotiating end) = 0
undelivered_of (ends.Establishing end) = 0
undelivered_of (ends.Connected end) = length end.receiver.ready
undelivered_of (ends.Releasing end) = 0
undelivered_of (ends.Closed end) = 0

-- the break length that waits to be given
abbrev pub waiting_of : AnyEnd → Option ℕ
waiting_of (ends.Detecting end) = None
waiting_of (ends.Negotiating end) = None
waiting_of (ends.Establishing end) = None
waiting_of (ends.Connected end) = end.breaks.given
waiting_of (ends.Releasing end) = None
waiting_of (ends.Closed end) = None

-- what a sender waits for, by the part that it stands for
pub record AreWaits (waits : Waits) (o : Outgoing) : Type 0 where
  pub awaiting_is : waits.awaiting ≡ o.awaited
  pub paused_is : waits.paused ≡ o.paused

-- what a rule makes of a link that is up, where this is what it makes of the account
abbrev pub Becomes : Result Account LinkFault → Connected → Result (Unit {0}) LinkFault → Type 0
Becomes (Ok b) end (Ok done) = Links end b
Becomes (Err fault) end (Err broken) = broken ≡ fault
Becomes (Ok b) end (Err broken) = ⊥
Becomes (Err fault) end (Ok done) = ⊥

-- what a link that is up says, where this is what the account says
pub record SaysLinked (said : Said) (end : Connected) (sent : Sent) : Type 0 where
  pub sent_is : sent ≡ said.sent
  pub links : Links end said.account

-- what a step gives, where this is what it gives of the account
abbrev pub Gives : Option Said → Account → Connected → Option Sent → Type 0
Gives None a end None = Links end a
Gives (Some said) a end (Some sent) = SaysLinked said end sent
Gives None a end (Some sent) = ⊥
Gives (Some said) a end None = ⊥

-- the whole of a speaking
abbrev pub SpeaksLinked : Result Said LinkFault → Connected → Result Sent LinkFault → Type 0
SpeaksLinked (Ok said) end (Ok sent) = SaysLinked said end sent
SpeaksLinked (Err fault) end (Err broken) = broken ≡ fault
SpeaksLinked (Ok said) end (Err broken) = ⊥
SpeaksLinked (Err fault) end (Ok sent) = ⊥

-- the same setup, and the same segments and breaks are taken
pub record SameTaken (old new : Connected) : Type 0 where
  pub setup_is : new.setup ≡ old.setup
  pub terms_is : new.terms ≡ old.terms
  pub taken_is : new.receiver.taken ≡ old.receiver.taken
  pub ready_is : new.receiver.ready ≡ old.receiver.ready
  pub given_is : new.breaks.given ≡ old.breaks.given

-- no segment and no break is taken, so that what may be heard before may be heard after it
pub record TakesNothing (old new : AnyEnd) : Type 0 where
  pub taken_of : taken_of new ≤ taken_of old
  pub undelivered_of : undelivered_of new ≤ undelivered_of old
  pub waiting_of : waiting_of old ≡ None → waiting_of new ≡ None

-- what the other calls read of an end
abbrev pub phase_of : AnyEnd → Phase
phase_of (ends.Detecting end) = phases.Detecting
phase_of (ends.Negotiating end) = phases.Negotiating
phase_of (ends.Establishing end) = phases.Establishing
phase_of (ends.Connected end) = phases.Connected
phase_of (ends.Releasing end) = phases.Releasing
phase_of (ends.Closed end) = phases.Closed

abbrev pub wanted_of : AnyEnd → Option ℕ
wanted_of (ends.Detecting end) = None
wanted_of (ends.Negotiating end) = None
wanted_of (ends.Establishing end) = None
wanted_of (ends.Connected end) = wanted_by end.sender
wanted_of (ends.Releasing end) = None
wanted_of (ends.Closed end) = None

abbrev pub piece_of : AnyEnd → ℕ
piece_of (ends.Detecting end) = 0
piece_of (ends.Negotiating end) = 0
piece_of (ends.Establishing end) = 0
piece_of (ends.Connected end) = end.sender.size
piece_of (ends.Releasing end) = 0
piece_of (ends.Closed end) = 0

-- how many more segments the end wants at most
abbrev pub room_of : AnyEnd → ℕ
room_of (ends.Detecting end) = 0
room_of (ends.Negotiating end) = 0
room_of (ends.Establishing end) = 0
room_of (ends.Connected end) = room_by end.sender
room_of (ends.Releasing end) = 0
room_of (ends.Closed end) = 0
