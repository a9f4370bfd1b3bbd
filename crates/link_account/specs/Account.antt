-- What an end of the link is, in plain values: all pieces offered and taken, what it owes and what it waits for. The parts of the
-- sender, the receiver and the breaks are those of their own crates.
use Rattle.std.specs.Prelude.{ℕ, Bool, true, false, if◌then◌else◌, nat_lt, List, length, Option, Some, None, slice_index_or}
use Rattle.frame_check.specs.declared.check.Check.{Check}
use Rattle.frame_check.specs.declared.check.Check.TheVariants.{Sixteen, ThirtyTwo}
use Rattle.shared_terms.specs.declared.role.Role.{Role}
use Rattle.shared_terms.specs.declared.role.Role.TheVariants.{Originator, Answerer}
use Rattle.xid_params.specs.declared.terms.Terms.{Terms}
use Rattle.xid_params.specs.Terms.{agree, default_offer}
use Rattle.lapm_sender.specs.Outgoing.{Outgoing, wanted, with_piece, is_whole}
use Rattle.lapm_sender.specs.Outgoing as outgoing
use Rattle.lapm_receiver.specs.Incoming.{Incoming, next_delivered, after_delivered}
use Rattle.lapm_receiver.specs.Incoming as incoming
use Rattle.break_signals.specs.Breaks.{OwnBreaks, TheirBreaks, no_breaks, none_heard, takes_break, after_ask, waits}
use Rattle.link_account.specs.declared.setup.Setup.{Setup}
use Rattle.link_account.specs.declared.owes.Owes.{Owes}
use Rattle.link_account.specs.declared.phase.Phase.{Phase}
use Rattle.link_account.specs.declared.phase.Phase.TheVariants.{Detecting, Negotiating, Establishing, Connected, Releasing, Closed}

-- what an end waits for (the retry count and the awaited poll are of the sender's part)
pub record Wait : Type 0 where
  pub try : Bool  -- the frame of a U try is due
  pub try_set : ℕ  -- the turn in which its timer was set
  pub try_count : ℕ
  pub poll : Bool  -- a poll is due
  pub urgent : Bool  -- the first I frame is urgent
  pub timer : Option ℕ  -- the turn in which the timer was set, where it runs

-- what an end is, in plain values
pub record Account : Type 0 where
  pub setup : Setup
  pub phase : Phase
  pub terms : Terms  -- what is agreed, and before that what two default offers give
  pub numbered : Bool  -- an I frame or a supervisory frame was heard
  pub outgoing : Outgoing
  pub incoming : Incoming
  pub own_breaks : OwnBreaks
  pub their_breaks : TheirBreaks
  pub breaks_told : ℕ  -- how many of their lengths the user was given
  pub owes : Owes
  pub wait : Wait
  pub special : Bool  -- a BRK, a BRKACK or an SREJ was sent at the last speaking

-- the terms before any are agreed: those of two ends that offer nothing
abbrev pub first_terms : Terms
first_terms = agree default_offer default_offer

abbrev pub fresh : Setup → Account
fresh setup = record {
  setup = setup;
  phase = Detecting;
  terms = first_terms;
  numbered = false;
  outgoing = outgoing.not_begun;
  incoming = incoming.not_begun;
  own_breaks = no_breaks;
  their_breaks = none_heard;
  breaks_told = 0;
  owes = record { answer = None; reply = false; busy = false; busy_told = false };
  wait = record { try = false; try_set = 0; try_count = 0; poll = false; urgent = false; timer = None };
  special = false;
}

abbrev pub is_connected : Phase → Bool
is_connected Connected = true
is_connected Detecting = false
is_connected Negotiating = false
is_connected Establishing = false
is_connected Releasing = false
is_connected Closed = false

-- what this role's segments have agreed, and its window
abbrev pub size_for : Role → Terms → ℕ
size_for Originator terms = terms.len_o
size_for Answerer terms = terms.len_a

abbrev pub window_for : Role → Terms → ℕ
window_for Originator terms = terms.window_o
window_for Answerer terms = terms.window_a

-- what the other calls of an end read and change

abbrev pub wants : Account → Option ℕ
wants a = if is_connected a.phase then wanted a.outgoing else None

abbrev pub piece_size : Account → ℕ
piece_size a = if is_connected a.phase then a.outgoing.size else 0

abbrev pub after_offer : List ℕ → Account → Account
after_offer piece a = record a { outgoing = with_piece piece a.outgoing }

abbrev pub delivers : Account → Option (List ℕ)
delivers a = if is_connected a.phase then next_delivered a.incoming else None

abbrev pub after_delivery : Account → Account
after_delivery a = if is_connected a.phase then record a { incoming = after_delivered a.incoming } else a

abbrev pub is_done : Account → Bool
is_done a = if is_connected a.phase then is_whole a.outgoing else false

abbrev pub takes_own : ℕ → Account → Bool
takes_own turn a = if is_connected a.phase then takes_break turn a.own_breaks else false

abbrev pub after_break_asked : ℕ → ℕ → Account → Account
after_break_asked turn length_octet a =
    if is_connected a.phase then record a { own_breaks = after_ask turn length_octet a.own_breaks } else a

abbrev pub break_waits : Account → Bool
break_waits a = if is_connected a.phase then waits a.own_breaks else false

abbrev pub given_break : Account → Option ℕ
given_break a =
    if is_connected a.phase then
    (if nat_lt a.breaks_told (length a.their_breaks.lengths) then
    Some (slice_index_or a.their_breaks.lengths a.breaks_told 0)
    else None)
    else None

abbrev pub after_given : Account → Account
after_given a = record a { breaks_told = length a.their_breaks.lengths }

-- the end is told whether its user asks for a pause
abbrev pub after_busy : Bool → Account → Account
after_busy busy a = if is_connected a.phase then record a { owes = record a.owes { busy = busy } } else a

-- the check of the frames with numbers that the end sends and hears
abbrev pub check_of : Account → Check
check_of a = if a.terms.check32 then ThirtyTwo else Sixteen
