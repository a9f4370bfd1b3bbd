-- How a run of an end against a peer's octets ends, and what it leaves.
use Rattle.std.specs.Prelude.{◌≡◌, ◌⊎◌, ℕ, zero, suc, ◌+◌, ◌*◌, ◌/◌, ◌<◌, List, [], ◌∷◌, ◌++◌, length, take, drop}
use Rattle.std.specs.List.{concat}
use Rattle.shared_terms.specs.declared.role.Role.{Role}
use Rattle.shared_terms.specs.declared.fault.LinkFault.{LinkFault}
use Rattle.link_run.specs.Alone.{LoneTurn}
use Rattle.stations.specs.OneEnd.Heard.{slot_octets}
use Rattle.stations.specs.OneEnd.Peer.{Past, PeerRun, PeerTurn, Outcome, Closed, Broken, trace_of, turn_line}

-- the slot of that number: 232 octets of the peer's bits, fewer at their end
abbrev pub slot_at : List ℕ → ℕ → List ℕ
slot_at octets n = take slot_octets (drop (slot_octets * n) octets)

-- the first so many slots, the newest first
abbrev pub slots_before : List ℕ → ℕ → List (List ℕ)
slots_before octets zero = []
slots_before octets (suc n) = slot_at octets n ∷ slots_before octets n

-- how many slots there are: the last one may be short
abbrev pub slots_in : List ℕ → ℕ
slots_in octets = (length octets + 231) / 232

-- A run against these octets, so far.
pub record IsPast (role : Role) (file octets : List ℕ) (p : Past) : Type 0 where
  pub run : PeerRun role p
  pub file_is : p.file ≡ file
  pub slots_are : p.slots ≡ slots_before octets (length p.turns)

-- what a run leaves
pub record Left : Type 0 where
  pub got : List ℕ  -- the octets that its user was given
  pub trace : List ℕ  -- as text

-- that of turns after which it goes on: the information of all segments that were taken, in order
abbrev pub left_of : Role → Past → Left
left_of role p = record { got = concat p.account.incoming.taken; trace = trace_of role p.turns }

-- and of one turn more
abbrev pub left_after : Role → Past → LoneTurn → List ℕ → Left
left_after role p turn octets = record {
  got = concat p.account.incoming.taken ++ octets;
  trace = trace_of role p.turns ++ turn_line role (length p.turns) turn;
}

-- All slots were heard, in so many turns.
pub record HearsAll (role : Role) (file octets : List ℕ) (turns : ℕ) (left : Left) : Type 0 where
  pub past : Past
  pub is_past : IsPast role file octets past
  pub turns_are : turns ≡ length past.turns
  pub all : turns ≡ slots_in octets
  pub left_is : left ≡ left_of role past

-- A turn is made after some, with this outcome.
pub record MakesTurn (role : Role) (file octets : List ℕ) (turn : ℕ) (outcome : Outcome) (left : Left) : Type 0 where
  pub past : Past
  pub is_past : IsPast role file octets past
  pub turn_is : turn ≡ length past.turns
  pub has_slot : turn < slots_in octets
  pub last : LoneTurn
  pub given : List ℕ
  pub is : PeerTurn role past (slot_at octets turn) last given outcome
  pub left_is : left ≡ left_after role past last given

-- how a run ends: in so many turns, or as the end gives the link up in the turn of that number
pub data PeerEnd : Type 0 where
  IsDone : (turns : ℕ) → PeerEnd
  GivesUp : (fault : LinkFault) (turn : ℕ) → PeerEnd

-- A run's end, and what it leaves. It is done behind the last slot, or where an originator is closed.
abbrev pub RunsTo : Role → List ℕ → List ℕ → PeerEnd → Left → Type 0
RunsTo role file octets (IsDone turns) left =
    HearsAll role file octets turns left ⊎ ((turn : ℕ) × (turns ≡ turn + 1) × MakesTurn role file octets turn Closed left)
RunsTo role file octets (GivesUp fault turn) left = MakesTurn role file octets turn (Broken fault) left
