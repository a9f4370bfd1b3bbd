-- What an end of the link answers and becomes, turn by turn, by the account for which it stands.
use Rattle.std.specs.Prelude.{◌≡◌, ℕ, ◌+◌, ◌<◌, ◌^◌, Bool, true, false, if◌then◌else◌, nat_le, nat_lt, List, length, Option, Some, None, Result, Ok, Err}
use Rattle.shared_terms.specs.declared.role.Role.{Role}
use Rattle.shared_terms.specs.Role.{other}
use Rattle.shared_terms.specs.declared.fault.LinkFault.{LinkFault}
use Rattle.lapm_frames.specs.Sendable.{IsSendable}
use Rattle.lapm_frames.specs.declared.arrived.Arrived.{Arrived}
use Rattle.link_account.specs.declared.setup.Setup.{Setup}
use Rattle.link_account.specs.Account.{Account, fresh, check_of, given_break, after_given, wants, piece_size, delivers, after_delivery, after_offer, after_busy, takes_own, after_break_asked}
use Rattle.link_account.specs.Hear.{hear}
use Rattle.link_account.specs.Speak.{Said, speak}
use Rattle.lapm_link.specs.declared.any_end.AnyEnd.{AnyEnd}
use Rattle.lapm_link.specs.Stands.{StandsFor, given_up}
use Rattle.gateway.specs.declared.turns.Carried.{Carried}
use Rattle.gateway.specs.declared.turns.Told.{Told}
use Rattle.gateway.specs.declared.link.Endpoint.{Endpoint}
use Rattle.gateway.specs.declared.link.TurnState.{TurnState}
use Rattle.gateway.specs.declared.link.LinkStop.{LinkStop}
use Rattle.gateway.specs.declared.link.LinkStop.TheVariants as stops
use Rattle.gateway.specs.declared.link.BreakAsked.{BreakAsked}
use Rattle.gateway.specs.declared.link.BreakAsked.TheVariants as asked
use Rattle.gateway.specs.Turns.{Arrives, told_as}
use Rattle.gateway.specs.TurnStates.{most_turns, may_hear}

-- An end before its first turn.
pub record IsNew (setup : Setup) (end : Endpoint) : Type 0 where
  pub stands : StandsFor end.link (fresh setup)
  pub role_is : end.role ≡ setup.role
  pub state_is : end.state ≡ record { turn = 0; heard = false; delivered = true }

-- A call that leaves an end's role and its turn as they are.
pub record IsSameTurn (old new : Endpoint) : Type 0 where
  pub role_is : new.role ≡ old.role
  pub state_is : new.state ≡ old.state

-- ---- hearing

-- the turn goes on; nothing is left to deliver of a link that broke
abbrev pub after_hearing : Result (Option ℕ) LinkFault → TurnState → TurnState
after_hearing (Ok given) at_turn = record { turn = at_turn.turn; heard = true; delivered = false }
after_hearing (Err fault) at_turn = record { turn = at_turn.turn; heard = true; delivered = true }

-- what hearing answers and leaves, where this is what it makes of the account: a break that waits is given, and a link that broke is closed
abbrev pub HeardAs : Result Account LinkFault → Account → AnyEnd → Result (Option ℕ) LinkFault → Type 0
HeardAs (Ok b) a link (Ok given) = (given ≡ given_break b) × StandsFor link (after_given b)
HeardAs (Err fault) a link (Err broken) = (broken ≡ fault) × StandsFor link (given_up a)
HeardAs (Ok b) a link (Err broken) = ⊥
HeardAs (Err fault) a link (Ok given) = ⊥

-- what arrives of what is carried, and what the account becomes by it
pub record Hears (role : Role) (turn : ℕ) (carried : Carried) (a : Account) (link : AnyEnd) (answer : Result (Option ℕ) LinkFault)
    : Type 0 where
  pub arrived : Arrived
  pub arrives : Arrives (check_of a) (other role) carried arrived
  pub becomes : HeardAs (hear turn arrived a) a link answer

-- An end that hears.
pub record HearsOn (old new : Endpoint) (carried : Carried) (answer : Result (Option ℕ) LinkFault) : Type 0 where
  pub in_order : may_hear old.state ≡ true
  pub early : old.state.turn < most_turns
  pub role_is : new.role ≡ old.role
  pub state_is : new.state ≡ after_hearing answer old.state
  pub hears : (a : Account) → StandsFor old.link a → Hears old.role old.state.turn carried a new.link answer

-- what a call of hear answers, and what the end then is
abbrev pub HearsTurn : Endpoint → Carried → Endpoint → Result (Option ℕ) LinkStop → Type 0
HearsTurn old carried new (Ok given) = HearsOn old new carried (Ok given)
HearsTurn old carried new (Err (stops.Broken fault)) = HearsOn old new carried (Err fault)
HearsTurn old carried new (Err stops.Order) = (may_hear old.state ≡ false) × (new ≡ old)
HearsTurn old carried new (Err stops.Late) = (may_hear old.state ≡ true) × (old.state.turn ≡ most_turns) × (new ≡ old)

-- ---- between hearing and speaking

-- once a delivery gives nothing, all is delivered
abbrev pub after_delivering : Option (List ℕ) → TurnState → TurnState
after_delivering (Some segment) at_turn = at_turn
after_delivering None at_turn = record at_turn { delivered = true }

-- An end that delivers its next segment, or none.
pub record Delivers (old new : Endpoint) (segment : Option (List ℕ)) : Type 0 where
  pub next : (a : Account) → StandsFor old.link a → delivers a ≡ segment
  pub account : (a : Account) → StandsFor old.link a → StandsFor new.link (after_delivery a)
  pub role_is : new.role ≡ old.role
  pub state_is : new.state ≡ after_delivering segment old.state

-- the longest piece that is taken next, by the number of the piece that is wanted and by the agreed length; none is taken behind 2^56 pieces
abbrev pub longest_wanted : Option ℕ → ℕ → Option ℕ
longest_wanted None size = None
longest_wanted (Some number) size = if nat_lt number (2 ^ 56) then Some size else None

abbrev pub wanted_length : Account → Option ℕ
wanted_length a = longest_wanted (wants a) (piece_size a)

-- whether a piece of this length is taken
abbrev pub is_taken : ℕ → Option ℕ → Bool
is_taken count None = false
is_taken count (Some longest) = nat_le count longest

-- what an end is that was offered a piece: unchanged, where it didn't take it
abbrev pub OfferedAs : Bool → List ℕ → Endpoint → Endpoint → Type 0
OfferedAs true piece old new = (a : Account) → StandsFor old.link a → StandsFor new.link (after_offer piece a)
OfferedAs false piece old new = new ≡ old

-- An end that is offered a piece, and answers whether it takes it.
pub record Offers (old new : Endpoint) (piece : List ℕ) (taken : Bool) : Type 0 where
  pub same : IsSameTurn old new
  pub answer : (a : Account) → StandsFor old.link a → taken ≡ is_taken (length piece) (wanted_length a)
  pub account : OfferedAs taken piece old new

-- An end that is told whether its user asks for a pause.
pub record IsToldBusy (old new : Endpoint) (busy : Bool) : Type 0 where
  pub same : IsSameTurn old new
  pub account : (a : Account) → StandsFor old.link a → StandsFor new.link (after_busy busy a)

-- An end that is asked for a break of this length, and answers whether it takes it.
pub record AsksBreak (old new : Endpoint) (units : ℕ) (taken : Bool) : Type 0 where
  pub early : old.state.turn < most_turns
  pub same : IsSameTurn old new
  pub answer : (a : Account) → StandsFor old.link a → taken ≡ takes_own old.state.turn a
  pub account : (a : Account) → StandsFor old.link a → StandsFor new.link (after_break_asked old.state.turn units a)

-- what a call answers that asks for a break, and what the end then is
abbrev pub AnswersBreak : Endpoint → ℕ → Endpoint → BreakAsked → Type 0
AnswersBreak old units new asked.Taken = AsksBreak old new units true
AnswersBreak old units new asked.Refused = AsksBreak old new units false
AnswersBreak old units new asked.Late = (old.state.turn ≡ most_turns) × (new ≡ old)

-- ---- speaking

-- the turn ends; nothing is left to deliver of a link that broke
abbrev pub after_speaking : Result Told LinkFault → TurnState → TurnState
after_speaking (Ok told) at_turn = record { turn = at_turn.turn + 1; heard = false; delivered = at_turn.delivered }
after_speaking (Err fault) at_turn = record { turn = at_turn.turn + 1; heard = false; delivered = true }

-- what speaking says and leaves, where this is what the account says: it can be sent; a link that broke is closed
abbrev pub SaysAs : Result Said LinkFault → Role → Account → AnyEnd → Result Told LinkFault → Type 0
SaysAs (Ok said) role a link (Ok told) =
    (told ≡ told_as (check_of said.account) role said.sent) × IsSendable said.sent × StandsFor link said.account
SaysAs (Err fault) role a link (Err broken) = (broken ≡ fault) × StandsFor link (given_up a)
SaysAs (Ok said) role a link (Err broken) = ⊥
SaysAs (Err fault) role a link (Ok told) = ⊥

-- An end that speaks.
pub record SpeaksOn (old new : Endpoint) (release : Bool) (answer : Result Told LinkFault) : Type 0 where
  pub in_order : old.state.heard ≡ true
  pub role_is : new.role ≡ old.role
  pub state_is : new.state ≡ after_speaking answer old.state
  pub says : (a : Account) → StandsFor old.link a → SaysAs (speak old.state.turn release a) old.role a new.link answer

-- what a call of speak answers, and what the end then is
abbrev pub SpeaksTurn : Endpoint → Bool → Endpoint → Result Told LinkStop → Type 0
SpeaksTurn old release new (Ok told) = SpeaksOn old new release (Ok told)
SpeaksTurn old release new (Err (stops.Broken fault)) = SpeaksOn old new release (Err fault)
SpeaksTurn old release new (Err stops.Order) = (old.state.heard ≡ false) × (new ≡ old)
SpeaksTurn old release new (Err stops.Late) = ⊥
