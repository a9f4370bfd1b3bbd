-- What a sender keeps, and the part of an account for which it stands.
use Rattle.std.specs.Prelude.{◌≡◌, ℕ, ◌+◌, ◌-◌, ◌^◌, ◌%◌, ◌≤◌, Bool, not, if◌then◌else◌, ◌&&◌, nat_lt, List, [], length, drop, Option, Some, None, slice_index_or}
use Rattle.frame_check.specs.declared.sizes.TheConstants.{INFO}
use Rattle.lapm_sender.specs.declared.faults.BadAck.{BadAck}
use Rattle.lapm_sender.specs.declared.faults.Spent.{Spent}
use Rattle.lapm_sender.specs.Outgoing.{Outgoing, next_number, after_next}

-- what a sender keeps: of the segments only those that aren't acknowledged
pub record Sending : Type 0 where
  pub room : ℕ  -- how many segments it can keep
  pub window : ℕ  -- 0 before it is begun
  pub size : ℕ
  pub tries : ℕ
  pub kept : List (List ℕ)  -- the segments from the front on
  pub ended : Bool
  pub front : ℕ
  pub high : ℕ
  pub from : ℕ
  pub chosen : List ℕ
  pub count : ℕ
  pub awaited : Bool
  pub paused : Bool

-- what is true of each sender
pub record IsSending (front kept room window size tries high from count : ℕ) : Type 0 where
  pub room_low : room ≤ 127
  pub window_room : window ≤ room
  pub kept_window : kept ≤ window
  pub size_low : size ≤ INFO
  pub front_from : front ≤ from
  pub from_high : from ≤ high
  pub high_kept : high ≤ front + kept
  pub few : front + kept ≤ 2 ^ 56
  pub count_tries : count ≤ tries
  pub tries_low : tries ≤ 20

-- a sender stands for a part with these segments offered: it has them all but those that are acknowledged
pub record StandsOut (sender : Sending) (o : Outgoing) : Type 0 where
  pub window_is : sender.window ≡ o.window
  pub size_is : sender.size ≡ o.size
  pub tries_is : sender.tries ≡ o.tries
  pub front_within : o.front ≤ length o.pieces
  pub kept_is : sender.kept ≡ drop o.front o.pieces
  pub ended_is : sender.ended ≡ o.ended
  pub front_is : sender.front ≡ o.front
  pub high_is : sender.high ≡ o.high
  pub from_is : sender.from ≡ o.from
  pub chosen_is : sender.chosen ≡ o.chosen
  pub count_is : sender.count ≡ o.count
  pub awaited_is : sender.awaited ≡ o.awaited
  pub paused_is : sender.paused ≡ o.paused

-- what a sender began with
pub record SameTerms (old new : Sending) : Type 0 where
  pub room_is : new.room ≡ old.room
  pub window_is : new.window ≡ old.window
  pub size_is : new.size ≡ old.size
  pub tries_is : new.tries ≡ old.tries

-- the number of the next segment that a sender wants, of what it keeps
abbrev pub wanted_by : Sending → Option ℕ
wanted_by sender = if not sender.ended && nat_lt (length sender.kept) sender.window then Some (sender.front + length sender.kept) else None

-- how many more segments a sender wants at most: none once the file has ended
abbrev pub room_by : Sending → ℕ
room_by sender = if sender.ended then 0 else sender.window - length sender.kept

-- a segment is given to be sent: this is its number modulo 128, and the sender then stands for the part after it
pub record GivesNext (sender : Sending) (segment : List ℕ) (o : Outgoing) (ns : ℕ) : Type 0 where
  pub number : ℕ
  pub is_next : next_number o ≡ Some number
  pub modulo : ns ≡ number % 128
  pub segment_is : segment ≡ slice_index_or o.pieces number []
  pub stands : StandsOut sender (after_next o)

-- an acknowledgement is taken: there is a part after it, for which the sender then stands, and this is whether the front advances
pub record Advances (sender : Sending) (o : Outgoing) (after : Option Outgoing) (advanced : Bool) : Type 0 where
  pub part : Outgoing
  pub is_after : after ≡ Some part
  pub stands : StandsOut sender part
  pub front_advances : advanced ≡ nat_lt o.front part.front

-- there is a part after a call, for which the sender then stands
pub record Follows (sender : Sending) (after : Option Outgoing) : Type 0 where
  pub part : Outgoing
  pub is_after : after ≡ Some part
  pub stands : StandsOut sender part

-- an acknowledgement is refused: there is no part after it, and this is what is said of it
pub record RefusesAck (nr : ℕ) (o : Outgoing) (after : Option Outgoing) (bad : BadAck) : Type 0 where
  pub is_none : after ≡ None
  pub nr_is : bad.nr ≡ nr
  pub va_is : bad.va ≡ o.front % 128
  pub high_is : bad.high ≡ o.high % 128

-- all tries are spent: there is no part after this one
pub record SpendsAll (o : Outgoing) (after : Option Outgoing) (spent : Spent) : Type 0 where
  pub is_none : after ≡ None
  pub segment_is : spent.segment ≡ o.front
