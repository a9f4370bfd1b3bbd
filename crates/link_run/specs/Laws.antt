-- The laws of runs over any line.
use Rattle.std.specs.Prelude.{◌≡◌, ◌≤◌, max, ℕ, ◌-◌, Bool, true, List, [], ◌∷◌, ◌++◌, length, map, is_ok, Option, Some, None}
use Rattle.std.specs.List.{concat}
use Rattle.shared_terms.specs.declared.role.Role.{Role}
use Rattle.shared_terms.specs.declared.role.Role.TheVariants.{Originator}
use Rattle.shared_terms.specs.Role.{other}
use Rattle.shared_terms.specs.Both.{Both, of}
use Rattle.shared_terms.specs.Prefix.{IsPrefixOf}
use Rattle.xid_params.specs.Terms.{agree}
use Rattle.lapm_frames.specs.declared.frame.Frame.{Frame}
use Rattle.lapm_frames.specs.Frame.{information_of}
use Rattle.lapm_frames.specs.declared.sent.Sent.{Sent}
use Rattle.lapm_frames.specs.declared.sent.Sent.TheVariants as slots
use Rattle.lapm_frames.specs.declared.heard.Heard.{Heard}
use Rattle.shared_terms.specs.declared.fault.LinkFault.{LinkFault}
use Rattle.shared_terms.specs.declared.fault.LinkFault.TheVariants.{NotDetected, Spent, BadAck, PeerReset, PeerRefused}
use Rattle.link_account.specs.Account.{Account, wants}
use Rattle.link_account.specs.Hear.{hear}
use Rattle.link_account.specs.Play.{Slot, Side, Event, seen_from}
use Rattle.link_account.specs.Laws.{MayPlay, played, WantsAnswers}
use Rattle.link_run.specs.End.{deliveries, offered_at, offered}
use Rattle.link_run.specs.Run.{Link, Accounts, Spoken, Turn, arrival, Hears, GoingTurn, LastTurn, BrokenTurn, RunOf}
use Rattle.link_run.specs.Carried.{sent_ago, Crosses, Carries, IsCarried, HasDelays, on_line}
use Rattle.link_run.specs.Outcomes.{Outcome, TurnIs}
use Rattle.link_run.specs.Taken.{taken_octets}

-- A run of two own ends over a line.
pub record RunsOver (link : Link) (delay : Role → ℕ) (ts : List Turn) (ends : Accounts) : Type 0 where
  pub may_play : MayPlay link.orig.setup link.answ.setup
  pub delays : HasDelays delay
  pub carried : IsCarried delay ts
  pub run : RunOf link ts ends

-- A slot as plays and turns both tell it: what was sent, and its meant number.
abbrev pub told_by_play : List Slot → List (Option (Sent × ℕ))
told_by_play line = map (λ (slot : Slot). Some (slot.sent, slot.number)) line

-- none where nothing was sent
abbrev pub told_by_turn : Option Spoken → Option (Sent × ℕ)
told_by_turn None = None
told_by_turn (Some slot) = Some (slot.sent, slot.number)

-- an end of a play is this one of a run, with these slots on the line behind it
pub record IsAt (s : Side) (a : Account) (line : List (Option Spoken)) : Type 0 where
  pub account_is : s.account ≡ a
  pub line_is : told_by_play s.line ≡ map told_by_turn line
  pub well : s.fault ≡ None

-- There is a play that comes to these ends and lines.
pub record IsPlayed (link : Link) (ends : Accounts) (line : Role → List (Option Spoken)) : Type 0 where
  pub events : List Event
  pub is_at : (role : Role) → IsAt (seen_from role (played link.orig.setup link.answ.setup events)).own (of role ends) (line role)

-- Each run over a line is a play, with what was sent and hasn't arrived on its lines.
abbrev pub RunsArePlays : Type 0
RunsArePlays = (link : Link) (delay : Role → ℕ) (ts : List Turn) (ends : Accounts) → HasDelays delay → IsCarried delay ts → RunOf link ts ends
    → IsPlayed link ends (λ role. on_line (delay role) role ts)

-- And so it is once the ends have heard.
abbrev pub HearingsArePlays : Type 0
HearingsArePlays = (link : Link) (delay : Role → ℕ) (ts : List Turn) (ends : Accounts) (turn : ℕ) (t : Turn) (mid : Accounts)
    → HasDelays delay → IsCarried delay ts → RunOf link ts ends → Carries delay ts t → Hears turn ends t mid
    → IsPlayed link mid (λ role. on_line (delay role - 1) role ts)

-- what each end took begins the other's file
abbrev pub HoldPrefixes : Link → Accounts → Type 0
HoldPrefixes link ends = (role : Role) → IsPrefixOf (concat (of role ends).incoming.taken) (of (other role) link).user.file

-- it is the whole of it, and each break that was taken at the peer was given
pub record HoldsWhole (own peer : Account) (file : List ℕ) : Type 0 where
  pub file_is : concat own.incoming.taken ≡ file
  pub breaks_are : own.their_breaks.lengths ≡ peer.own_breaks.lengths

-- and so at each end
abbrev pub HoldWhole : Link → Accounts → Type 0
HoldWhole link ends = (role : Role) → HoldsWhole (of role ends) (of (other role) ends) (of (other role) link).user.file

-- Whatever the line loses, what each end took begins the other's file, between turns
abbrev pub TakesPrefixes : Type 0
TakesPrefixes = (link : Link) (delay : Role → ℕ) (ts : List Turn) (ends : Accounts) → RunsOver link delay ts ends → HoldPrefixes link ends

-- and once both ends have heard.
abbrev pub HearsPrefixes : Type 0
HearsPrefixes = (link : Link) (delay : Role → ℕ) (ts : List Turn) (ends : Accounts) (t : Turn) (mid : Accounts) → RunsOver link delay ts ends
    → Carries delay ts t → Hears (length ts) ends t mid → HoldPrefixes link mid

-- Done means whole.
abbrev pub DoneIsWhole : Type 0
DoneIsWhole = (link : Link) (delay : Role → ℕ) (ts : List Turn) (ends : Accounts) (t : Turn) (mid : Accounts) → RunsOver link delay ts ends
    → Carries delay ts t → LastTurn ts ends t mid → HoldWhole link mid

-- No end breaks as it hears.
abbrev pub HearingsAreWell : Type 0
HearingsAreWell = (link : Link) (delay : Role → ℕ) (ts : List Turn) (ends : Accounts) (t : Turn) → RunsOver link delay ts ends
    → Carries delay ts t → (role : Role) → is_ok (hear (length ts) (arrival (of role t).heard) (of role ends)) ≡ true

-- And as it speaks it breaks for want of answers alone.
abbrev pub BrokenForWant : Type 0
BrokenForWant = (link : Link) (ts : List Turn) (before : Accounts) (t : Turn) (mid : Accounts) (role : Role) (fault : LinkFault)
    → BrokenTurn link ts before t mid role fault → WantsAnswers (Some fault)

-- what was heard in a turn
abbrev pub heard_in : Turn → Both Heard
heard_in t = record { orig = t.orig.heard; answ = t.answ.heard }

-- What is heard determines a run: its turns and its ends.
abbrev pub OneRun : Type 0
OneRun = (link : Link) (ts us : List Turn) (ends others : Accounts) → RunOf link ts ends → RunOf link us others
    → map heard_in ts ≡ map heard_in us
    → (ts ≡ us) × (ends ≡ others)

-- It determines what becomes of each turn too.
abbrev pub OneOutcome : Type 0
OneOutcome = (link : Link) (ts : List Turn) (before : Accounts) (t u : Turn) (mid others : Accounts) (a b : Outcome)
    → TurnIs link ts before t mid a → TurnIs link ts before u others b → heard_in t ≡ heard_in u → (t ≡ u) × (mid ≡ others) × (a ≡ b)

-- What each end delivers once it has heard is what it took since: it goes behind all that it had taken.
abbrev pub HearingsDeliver : Type 0
HearingsDeliver = (link : Link) (ts : List Turn) (before : Accounts) (t : Turn) (mid : Accounts) → RunOf link ts before
    → Hears (length ts) before t mid
    → (role : Role) → (of role mid).incoming.taken ≡ (of role before).incoming.taken ++ deliveries (of role mid)

-- And as it is served and speaks it takes nothing.
abbrev pub SpeakingTakesNothing : Type 0
SpeakingTakesNothing = (link : Link) (ts : List Turn) (before : Accounts) (t : Turn) (after : Accounts) (g : GoingTurn link ts before t after)
    → (role : Role) → (of role after).incoming.taken ≡ (of role g.mid).incoming.taken

-- the lengths of the breaks that a role's user was given in these turns, in order
abbrev pub given_in : Option ℕ → List ℕ
given_in None = []
given_in (Some length_octet) = length_octet ∷ []

-- over these turns
abbrev pub given_breaks : Role → List Turn → List ℕ
given_breaks role [] = []
given_breaks role (t ∷ ts) = given_breaks role ts ++ given_in (of role t).given

-- The breaks that were given in the turns of a run are all that were taken from the other end: between turns,
abbrev pub GivesAllBreaks : Type 0
GivesAllBreaks = (link : Link) (ts : List Turn) (ends : Accounts) → RunOf link ts ends → (role : Role)
    → given_breaks role ts ≡ (of role ends).their_breaks.lengths

-- and once both ends have heard.
abbrev pub HearingsGiveAllBreaks : Type 0
HearingsGiveAllBreaks = (link : Link) (ts : List Turn) (before : Accounts) (t : Turn) (mid : Accounts) → RunOf link ts before
    → Hears (length ts) before t mid → (role : Role)
    → given_breaks role (t ∷ ts) ≡ (of role mid).their_breaks.lengths

-- both ends offer SREJ
abbrev pub agreed_srej : Link → Bool
agreed_srej link = (agree link.orig.setup.offer link.answ.setup.offer).srej

-- The segments that passed, by their numbers alone, give what the accounts took: between turns,
abbrev pub TakesWhatPassed : Type 0
TakesWhatPassed = (link : Link) (delay : Role → ℕ) (ts : List Turn) (ends : Accounts) → RunsOver link delay ts ends
    → (role : Role) → taken_octets (agreed_srej link) delay role ts ≡ concat (of role ends).incoming.taken

-- and once both ends have heard.
abbrev pub HearsWhatPassed : Type 0
HearsWhatPassed = (link : Link) (delay : Role → ℕ) (ts : List Turn) (ends : Accounts) (t : Turn) (mid : Accounts) → RunsOver link delay ts ends
    → Carries delay ts t → Hears (length ts) ends t mid → (role : Role)
    → taken_octets (agreed_srej link) delay role (t ∷ ts) ≡ concat (of role mid).incoming.taken

-- The frames that an end sends are short: a segment has at most the octets that the end offers, and every other information at most the
-- 23 octets of an offer.
abbrev pub SendsShort : Type 0
SendsShort = (link : Link) (delay : Role → ℕ) (ts : List Turn) (ends : Accounts) (t : Turn) (after : Accounts) → RunsOver link delay ts ends
    → Carries delay ts t → GoingTurn link ts ends t after
    → (role : Role) (slot : Spoken) (frame : Frame) → (of role t).sent ≡ Some slot → slot.sent ≡ slots.Frame frame
    → length (information_of frame) ≤ max 23 (of role link).setup.offer.tx_len

-- An end that breaks is the originator, for want of a pattern, or has spent its tries.
abbrev pub IsNamed : Role → LinkFault → Type 0
IsNamed role (Spent segment since) = Unit {0}
IsNamed role NotDetected = role ≡ Originator
IsNamed role (BadAck nr va high) = ⊥
IsNamed role (PeerReset va vr) = ⊥
IsNamed role PeerRefused = ⊥

-- So each end of a run by a fault has its name: not detected, or lost at that role.
abbrev pub EachEndIsNamed : Type 0
EachEndIsNamed = (link : Link) (ts : List Turn) (before : Accounts) (t : Turn) (mid : Accounts) (role : Role) (fault : LinkFault)
    → MayPlay link.orig.setup link.answ.setup → RunOf link ts before → BrokenTurn link ts before t mid role fault → IsNamed role fault

-- A turn in which this is heard.
pub record MakesTurn (link : Link) (ts : List Turn) (ends : Accounts) (heard : Role → Heard) : Type 0 where
  pub turn : Turn
  pub mid : Accounts
  pub outcome : Outcome
  pub is : TurnIs link ts ends turn mid outcome
  pub heard_is : (role : Role) → (of role turn).heard ≡ heard role

-- Whatever a line makes of what was sent, there is a next turn.
abbrev pub EachTurnIsMade : Type 0
EachTurnIsMade = (link : Link) (delay : Role → ℕ) (ts : List Turn) (ends : Accounts) (heard : Role → Heard) → RunsOver link delay ts ends
    → ((role : Role) → Crosses (sent_ago (delay (other role)) (other role) ts) (heard role)) → MakesTurn link ts ends heard

-- Pieces are offered until none is wanted; where none is, nothing is offered; and one more may be offered first.
pub record OffersAll (file : List ℕ) (a : Account) : Type 0 where
  pub enough : wants (offered file a) ≡ None
  pub none : wants a ≡ None → offered file a ≡ a
  pub next : offered file (offered_at file a (wants a)) ≡ offered file a

-- So a loop that offers the next piece while one is wanted comes to the same.
abbrev pub OffersUntilNoneIsWanted : Type 0
OffersUntilNoneIsWanted = (file : List ℕ) (a : Account) → OffersAll file a
