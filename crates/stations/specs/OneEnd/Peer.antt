-- The run of one end with its user against a peer's slots.
use Rattle.std.specs.Prelude.{◌≡◌, ◌⊎◌, ℕ, List, [], ◌∷◌, ◌++◌, length}
use Rattle.std.specs.List.{concat}
use Rattle.std.specs.Option.{option_map}
use Rattle.shared_terms.specs.declared.role.Role.{Role}
use Rattle.shared_terms.specs.Role.{other}
use Rattle.xid_params.specs.Terms.{default_offer}
use Rattle.lapm_frames.specs.declared.seen.Seen.TheVariants as seen
use Rattle.lapm_frames.specs.declared.sent.Sent.TheVariants as slots
use Rattle.lapm_frames.specs.declared.arrived.Arrived.{Arrived}
use Rattle.lapm_frames.specs.declared.arrived.Arrived.TheVariants as arrivals
use Rattle.lapm_frames.specs.declared.heard.Heard.{Heard}
use Rattle.lapm_frames.specs.declared.heard.Heard.TheVariants as heard
use Rattle.line_texts.specs.LineText.{trace_line}
use Rattle.shared_terms.specs.declared.fault.LinkFault.{LinkFault}
use Rattle.link_account.specs.declared.setup.Setup.{Setup}
use Rattle.link_account.specs.Account.{Account}
use Rattle.link_run.specs.End.{deliveries}
use Rattle.link_run.specs.Run.{Party}
use Rattle.link_run.specs.Alone.{LoneTurn, LoneRun, LoneGoing, LoneLast, LoneFaulty, LoneBroken}
use Rattle.stations.specs.OneEnd.Heard.{IsHeard, stream, slot_bits}

-- how an end of this role is set up: with the default offer, five tries, and a timer of 20 turns
abbrev pub setup_of : Role → Setup
setup_of role = record { role = role; offer = default_offer; tries = 5; period = 20 }

-- with its user, who sends this file and asks neither for a break nor for a pause
abbrev pub party_of : Role → List ℕ → Party
party_of role file = record { setup = setup_of role; user = record { file = file; breaks = []; busy = [] } }

-- In each turn the end hears what is heard of that turn's slot.
abbrev pub HearsSlots : Role → List (List ℕ) → List LoneTurn → Type 0
HearsSlots peer [] [] = Unit {0}
HearsSlots peer (slot ∷ slots) (t ∷ ts) = IsHeard peer (stream slots) (slot_bits slot) t.arrived × HearsSlots peer slots ts
HearsSlots peer slots ts = ⊥

-- A run so far: the file of the end's user, the peer's slots, the turns that were made against these, and the end's account after them.
pub record Past : Type 0 where
  pub file : List ℕ
  pub slots : List (List ℕ)  -- the newest first
  pub turns : List LoneTurn  -- the newest first
  pub account : Account

-- An end of this role made these turns, and the run goes on.
pub record PeerRun (role : Role) (p : Past) : Type 0 where
  pub run : LoneRun (party_of role p.file) p.turns p.account
  pub hears : HearsSlots (other role) p.slots p.turns

-- what a turn comes to
pub data Outcome : Type 0 where
  Going : Outcome
  Closed : Outcome  -- the originator's link is taken down
  Broken : (fault : LinkFault) → Outcome  -- the end gives it up

-- The turn that is made after these, with its outcome and the octets that its user is given in it.
abbrev pub TurnIs : Party → List LoneTurn → Account → LoneTurn → List ℕ → Outcome → Type 0
TurnIs party ts a t octets Going = (after : Account) × (g : LoneGoing party ts a t after) × (octets ≡ concat (deliveries g.mid))
TurnIs party ts a t octets Closed = (mid : Account) × LoneLast ts a t mid × (octets ≡ concat (deliveries mid))
TurnIs party ts a t octets (Broken fault) =
    (LoneFaulty ts a t fault × (octets ≡ []))
    ⊎ ((mid : Account) × LoneBroken party ts a t mid fault × (octets ≡ concat (deliveries mid)))

-- The turn after a past, against this slot.
pub record PeerTurn (role : Role) (p : Past) (slot : List ℕ) (turn : LoneTurn) (octets : List ℕ) (outcome : Outcome) : Type 0 where
  pub run : PeerRun role p
  pub hears : IsHeard (other role) (stream p.slots) (slot_bits slot) turn.arrived
  pub is : TurnIs (party_of role p.file) p.turns p.account turn octets outcome

-- the past once this turn was made, and the run goes on
abbrev pub after : List ℕ → LoneTurn → Account → Past → Past
after slot turn account p = record { file = p.file; slots = slot ∷ p.slots; turns = turn ∷ p.turns; account = account }

-- the same past over another file
abbrev pub over : List ℕ → Past → Past
over file p = record { file = file; slots = p.slots; turns = p.turns; account = p.account }

-- what is heard of a peer, as a trace names it
abbrev pub heard_as : Arrived → Heard
heard_as arrivals.Nothing = heard.Nothing
heard_as (arrivals.Pattern seen.Odp) = heard.Passed slots.Odp
heard_as (arrivals.Pattern seen.Adp) = heard.Passed slots.Adp
heard_as (arrivals.Frame frame) = heard.Passed (slots.Frame frame)

-- the line of a turn in the trace
abbrev pub turn_line : Role → ℕ → LoneTurn → List ℕ
turn_line role turn t = trace_line turn role (heard_as t.arrived) (option_map (λ slot. slot.sent) t.sent) t.given

-- the lines of turns, the newest of which stands first in the list and last in the text
abbrev pub trace_of : Role → List LoneTurn → List ℕ
trace_of role [] = []
trace_of role (t ∷ ts) = trace_of role ts ++ turn_line role (length ts) t
