-- Two ends by the calls that are made of them, over a line that may lose whatever is said.
use Rattle.std.specs.Prelude.{◌≡◌, ℕ, Bool, true, false, List, [], ◌∷◌, ◌++◌, Option, Some, None, Ok, Err}
use Rattle.shared_terms.specs.declared.role.Role.{Role}
use Rattle.shared_terms.specs.Role.{other}
use Rattle.shared_terms.specs.declared.fault.LinkFault.{LinkFault}
use Rattle.shared_terms.specs.Both.{Both, of}
use Rattle.shared_terms.specs.Prefix.{IsPrefixOf}
use Rattle.lapm_frames.specs.declared.arrived.Arrived.TheVariants as arrivals
use Rattle.link_account.specs.declared.setup.Setup.{Setup}
use Rattle.link_account.specs.Account.{Account, check_of}
use Rattle.link_account.specs.Play.{Event, seen_from}
use Rattle.link_account.specs.Laws.{MayPlay, played, WantsAnswers}
use Rattle.lapm_link.specs.Stands.{StandsFor}
use Rattle.gateway.specs.declared.turns.Carried.{Carried}
use Rattle.gateway.specs.Turns.{Arrives}
use Rattle.gateway.specs.declared.turns.Carried.TheVariants as loads
use Rattle.gateway.specs.declared.turns.Told.{Told}
use Rattle.gateway.specs.declared.turns.Told.TheVariants as told
use Rattle.gateway.specs.declared.link.Endpoint.{Endpoint}
use Rattle.gateway.specs.declared.link.LinkStop.TheVariants as stops
use Rattle.gateway.specs.declared.link.BreakAsked.{BreakAsked}
use Rattle.gateway.specs.Endpoints.{IsNew, HearsTurn, Delivers, Offers, IsToldBusy, AnswersBreak, SpeaksTurn}

-- an end, what it said that hasn't arrived, the oldest first, the pieces that it took from its user, and the segments that it gave its user
pub record EndSide : Type 0 where
  pub end : Endpoint
  pub line : List Told
  pub offered : List (List ℕ)
  pub delivered : List (List ℕ)

-- a call of one end, and what becomes of what it said; no call answers a break of the link
pub data Move : Type 0 where
  Speaks : (release : Bool) → Move
  Passes : Move  -- what it said first reaches the other end, which hears it
  Is_lost : Move
  Hears_nothing : Move
  Is_offered : (piece : List ℕ) → Move
  Is_asked : (units : ℕ) → Move
  Is_delivered : Move
  Is_busy : (busy : Bool) → Move

-- what a line carries of what was said
abbrev pub CarriesTold : Told → Carried → Type 0
CarriesTold told.Mark carried = carried ≡ loads.Nothing
CarriesTold told.Flags carried = carried ≡ loads.Nothing
CarriesTold (told.Pattern pattern) carried = carried ≡ loads.Pattern pattern
CarriesTold (told.Octets whole) (loads.Octets lent) = lent.now ≡ whole
CarriesTold (told.Octets whole) loads.Nothing = ⊥
CarriesTold (told.Octets whole) (loads.Pattern pattern) = ⊥

-- An end hears this.
pub record HearsOf (carried : Carried) (old new : EndSide) : Type 0 where
  pub given : Option ℕ
  pub hears : HearsTurn old.end carried new.end (Ok given)
  pub new_is : new ≡ record old { end = new.end }

-- It hears what is no frame by its check, as octets that the line damaged, or nothing at all.
pub record HearsNothing (old new : EndSide) : Type 0 where
  pub carried : Carried
  pub is_nothing : (a : Account) → StandsFor old.end.link a → Arrives (check_of a) (other old.end.role) carried arrivals.Nothing
  pub hears : HearsOf carried old new

-- It speaks.
pub record SpeaksOf (release : Bool) (old new : EndSide) : Type 0 where
  pub said : Told
  pub speaks : SpeaksTurn old.end release new.end (Ok said)
  pub new_is : new ≡ record old { end = new.end; line = old.line ++ said ∷ [] }

-- What it said first is lost.
pub record LosesOf (old new : EndSide) : Type 0 where
  pub said : Told
  pub rest : List Told
  pub line_was : old.line ≡ said ∷ rest
  pub new_is : new ≡ record old { line = rest }

-- It reaches the other end.
pub record PassesOf (old peer new heard : EndSide) : Type 0 where
  pub said : Told
  pub rest : List Told
  pub line_was : old.line ≡ said ∷ rest
  pub new_is : new ≡ record old { line = rest }
  pub carried : Carried
  pub carries : CarriesTold said carried
  pub hears : HearsOf carried peer heard

-- the pieces once one was offered: an empty one is no segment
abbrev pub with_offered : Bool → List ℕ → List (List ℕ) → List (List ℕ)
with_offered false piece pieces = pieces
with_offered true [] pieces = pieces
with_offered true (octet ∷ octets) pieces = pieces ++ (octet ∷ octets) ∷ []

-- the segments once the next one was given
abbrev pub with_delivered : Option (List ℕ) → List (List ℕ) → List (List ℕ)
with_delivered None segments = segments
with_delivered (Some segment) segments = segments ++ segment ∷ []

-- Its user hands a piece over, takes a segment, asks for a break, or says whether it asks for a pause.
pub record OfferedOf (piece : List ℕ) (old new : EndSide) : Type 0 where
  pub taken : Bool
  pub offers : Offers old.end new.end piece taken
  pub new_is : new ≡ record old { end = new.end; offered = with_offered taken piece old.offered }

pub record DeliveredOf (old new : EndSide) : Type 0 where
  pub segment : Option (List ℕ)
  pub delivers : Delivers old.end new.end segment
  pub new_is : new ≡ record old { end = new.end; delivered = with_delivered segment old.delivered }

pub record AskedOf (units : ℕ) (old new : EndSide) : Type 0 where
  pub answer : BreakAsked
  pub answers : AnswersBreak old.end units new.end answer
  pub new_is : new ≡ record old { end = new.end }

pub record BusyOf (busy : Bool) (old new : EndSide) : Type 0 where
  pub told : IsToldBusy old.end new.end busy
  pub new_is : new ≡ record old { end = new.end }

-- a move of one end, and what it makes of both
abbrev pub IsMade : Move → EndSide → EndSide → EndSide → EndSide → Type 0
IsMade (Speaks release) old peer new after = SpeaksOf release old new × (after ≡ peer)
IsMade Passes old peer new after = PassesOf old peer new after
IsMade Is_lost old peer new after = LosesOf old new × (after ≡ peer)
IsMade Hears_nothing old peer new after = HearsNothing old new × (after ≡ peer)
IsMade (Is_offered piece) old peer new after = OfferedOf piece old new × (after ≡ peer)
IsMade (Is_asked units) old peer new after = AskedOf units old new × (after ≡ peer)
IsMade Is_delivered old peer new after = DeliveredOf old new × (after ≡ peer)
IsMade (Is_busy busy) old peer new after = BusyOf busy old new × (after ≡ peer)

-- a move at an end
pub record Step : Type 0 where
  pub role : Role
  pub move : Move

-- an end before its first turn
pub record Begins (setup : Setup) (side : EndSide) : Type 0 where
  pub is_new : IsNew setup side.end
  pub line_is : side.line ≡ []
  pub offered_is : side.offered ≡ []
  pub delivered_is : side.delivered ≡ []

-- the moves of two ends up to now, the newest first, and the ends after them
abbrev pub History : Setup → Setup → List Step → Both EndSide → Type 0
History so sa [] ends = Begins so ends.orig × Begins sa ends.answ
History so sa (step ∷ steps) ends =
    (before : Both EndSide) × History so sa steps before
    × IsMade step.move (of step.role before) (of (other step.role) before) (of step.role ends) (of (other step.role) ends)

-- There is a play to whose accounts the two ends have come.
pub record IsPlayed (so sa : Setup) (ends : Both EndSide) : Type 0 where
  pub events : List Event
  pub stand : (role : Role) → StandsFor (of role ends).end.link (seen_from role (played so sa events)).own.account

abbrev pub HistoriesArePlays : Type 0
HistoriesArePlays = (so sa : Setup) (steps : List Step) (ends : Both EndSide) → MayPlay so sa → History so sa steps ends
    → IsPlayed so sa ends

-- What an end gave its user begins what the other took from its own: in order, with no segment lost, turned round or given twice.
abbrev pub HistoriesKeepPrefixes : Type 0
HistoriesKeepPrefixes = (so sa : Setup) (steps : List Step) (ends : Both EndSide) → MayPlay so sa → History so sa steps ends
    → (role : Role) → IsPrefixOf (of role ends).delivered (of (other role) ends).offered

-- An end that speaks breaks for want of answers alone: the other end answered no pattern, or all tries are spent.
abbrev pub SpeakingBreaksForWant : Type 0
SpeakingBreaksForWant = (so sa : Setup) (steps : List Step) (ends : Both EndSide) → MayPlay so sa → History so sa steps ends
    → (role : Role) (release : Bool) (new : Endpoint) (fault : LinkFault)
    → SpeaksTurn (of role ends).end release new (Err (stops.Broken fault)) → WantsAnswers (Some fault)

-- And no end breaks as it hears what the other said.
abbrev pub HearingNeverBreaks : Type 0
HearingNeverBreaks = (so sa : Setup) (steps : List Step) (ends : Both EndSide) → MayPlay so sa → History so sa steps ends
    → (role : Role) (said : Told) (rest : List Told) (carried : Carried) (new : Endpoint) (fault : LinkFault)
    → (of role ends).line ≡ said ∷ rest → CarriesTold said carried
    → HearsTurn (of (other role) ends).end carried new (Err (stops.Broken fault)) → ⊥
