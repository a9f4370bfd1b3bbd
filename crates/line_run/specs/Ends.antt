-- How a run over the line of samples ends, and what it then leaves: the octets of both users and the trace.
use Rattle.std.specs.Prelude.{◌≡◌, ℕ, List, ◌++◌, ◌∷◌, length, Option, Some, None}
use Rattle.std.specs.List.{concat}
use Rattle.shared_terms.specs.declared.role.Role.{Role}
use Rattle.shared_terms.specs.declared.role.Role.TheVariants.{Originator}
use Rattle.shared_terms.specs.Role.{other}
use Rattle.shared_terms.specs.Both.{Both, of}
use Rattle.shared_terms.specs.Prefix.{IsPrefixOf}
use Rattle.noise_script.specs.Script.{ScriptValue, delay_of}
use Rattle.shared_terms.specs.declared.fault.LinkFault.TheVariants as faults
use Rattle.link_account.specs.Laws.{MayPlay}
use Rattle.link_run.specs.Run.{Link, Accounts, Turn}
use Rattle.link_run.specs.Carried.{HasDelays}
use Rattle.link_run.specs.Outcomes.{Outcome, Done, Broken, TurnIs}
use Rattle.link_run.specs.Starved.{IsStarved}
use Rattle.link_run.specs.Taken.{taken_octets}
use Rattle.line_texts.specs.LineText.{chance_line}
use Rattle.link_run.specs.Trace.{trace_text}
use Rattle.link_run.specs.Laws.{agreed_srej}
use Rattle.line_run.specs.Sampled.{Wire, HeardIn, LineRun, LineEnd, EndsLine}
use Rattle.line_run.specs.Sampled as lines
use Rattle.line_run.specs.Scripted.{period_of}

-- How a run ends, and in which turn.
pub data RunEnd : Type 0 where
  IsDone : (turn : ℕ) → RunEnd
  LinkLost : (role : Role) (segment turn : ℕ) → RunEnd  -- the role of the end whose tries are spent, and its front
  NotDetected : (turn : ℕ) → RunEnd
  LineLost : (role : Role) (symbol : ℕ) → RunEnd  -- the role of the end that hears
  ChanceMatch : (role : Role) (turn : ℕ) → RunEnd  -- likewise

-- An end gives the link up.
abbrev pub GivesUp : RunEnd → Type 0
GivesUp (LinkLost role segment turn) = Unit {0}
GivesUp (NotDetected turn) = Unit {0}
GivesUp end = ⊥

-- The line ends the run, and no end of the link does: the line is lost, or what is received of a slot is a chance match.
abbrev pub LineEnds : RunEnd → Type 0
LineEnds (LineLost role symbol) = Unit {0}
LineEnds (ChanceMatch role turn) = Unit {0}
LineEnds end = ⊥

-- What holds of a run by its end: this of the outcome of its last turn and of that turn's number, where one is made, else this of a lost
-- line, or this of a chance match. A link is lost where an end's tries are spent, at its front's segment.
abbrev pub ByEnd : (Outcome → ℕ → Type 0) → (Role → ℕ → Type 0) → (Role → ℕ → Type 0) → RunEnd → Type 0
ByEnd InTurn Lost Chance (IsDone turn) = InTurn Done turn
ByEnd InTurn Lost Chance (LinkLost role segment turn) = (since : ℕ) × InTurn (Broken role (faults.Spent segment since)) turn
ByEnd InTurn Lost Chance (NotDetected turn) = InTurn (Broken Originator faults.NotDetected) turn
ByEnd InTurn Lost Chance (LineLost role symbol) = Lost role symbol
ByEnd InTurn Lost Chance (ChanceMatch role turn) = Chance role turn

-- What a run leaves.
pub record Left : Type 0 where
  pub got : Both (List ℕ)  -- the octets that each end's user was given
  pub trace : List ℕ  -- as text

-- What is left of turns, and of the ends after them.
pub record Leaves (ends : Accounts) (text : List ℕ) (left : Left) : Type 0 where
  pub got_is : (role : Role) → of role left.got ≡ concat (of role ends).incoming.taken
  pub trace_is : left.trace ≡ text

-- A last turn is made after these, with this outcome.
pub record EndsInTurn (c : Wire) (link : Link) (ts : List Turn) (ends : Accounts) (outcome : Outcome) (turn : ℕ) (left : Left) : Type 0 where
  pub number : turn ≡ length ts
  pub last : Turn
  pub mid : Accounts
  pub heard : HeardIn c ts last
  pub is : TurnIs link ts ends last mid outcome
  pub leaves : Leaves mid (trace_text (last ∷ ts)) left

-- The line ends the run as the turn after these begins.
pub record EndsOnLine (c : Wire) (ts : List Turn) (ends : Accounts) (end : LineEnd) (text : List ℕ) (left : Left) : Type 0 where
  pub is : EndsLine c ts ends end
  pub leaves : Leaves ends text left

-- the ends by their causes
abbrev pub EndsBy : Wire → Link → List Turn → Accounts → RunEnd → Left → Type 0
EndsBy c link ts ends end left =
    ByEnd (λ outcome turn. EndsInTurn c link ts ends outcome turn left)
    (λ role symbol. EndsOnLine c ts ends (lines.LineLost role symbol) (trace_text ts) left)
    (λ role turn. (turn ≡ length ts) × EndsOnLine c ts ends (lines.ChanceMatch role) (trace_text ts ++ chance_line (length ts) role) left)
    end

-- A run goes on for some turns, and ends.
pub record RunsTo (c : Wire) (link : Link) (end : RunEnd) (left : Left) : Type 0 where
  pub turns : List Turn
  pub ends : Accounts
  pub run : LineRun c link turns ends
  pub ended : EndsBy c link turns ends end left

-- two ends that may play, over a line with delays
pub record MayRun (c : Wire) (link : Link) : Type 0 where
  pub may_play : MayPlay link.orig.setup link.answ.setup
  pub delays : HasDelays (delay_of c.script)

-- However a run ends, what was given begins the other's file;
abbrev pub RunsLeavePrefixes : Type 0
RunsLeavePrefixes = (c : Wire) (link : Link) (end : RunEnd) (left : Left) → MayRun c link → RunsTo c link end left
    → (role : Role) → IsPrefixOf (of role left.got) (of (other role) link).user.file

-- done means whole.
abbrev pub DoneLeavesWhole : Type 0
DoneLeavesWhole = (c : Wire) (link : Link) (turn : ℕ) (left : Left) → MayRun c link → RunsTo c link (IsDone turn) left
    → (role : Role) → of role left.got ≡ (of (other role) link).user.file

-- A last turn that was made, and both ends once they have heard in it.
pub record LastTurn : Type 0 where
  pub turn : Turn
  pub mid : Accounts

-- the last turn of a run, where one was made
abbrev pub last_turn : (c : Wire) (link : Link) (ts : List Turn) (ends : Accounts) (end : RunEnd) (left : Left)
    → EndsBy c link ts ends end left → Option LastTurn
last_turn c link ts ends (IsDone turn) left e = Some (record { turn = e.last; mid = e.mid })
last_turn c link ts ends (LinkLost role segment turn) left e = Some (record { turn = e.1.last; mid = e.1.mid })
last_turn c link ts ends (NotDetected turn) left e = Some (record { turn = e.last; mid = e.mid })
last_turn c link ts ends end left e = None

abbrev pub and_last : List Turn → Option LastTurn → List Turn
and_last ts None = ts
and_last ts (Some last) = last.turn ∷ ts

-- the turns in which something was heard: the last one too, where one was made
abbrev pub turns_heard : (c : Wire) (link : Link) (ts : List Turn) (ends : Accounts) (end : RunEnd) (left : Left)
    → EndsBy c link ts ends end left → List Turn
turns_heard c link ts ends end left e = and_last ts (last_turn c link ts ends end left e)

-- What was given is what passed, by the numbers that were meant.
abbrev pub RunsLeaveWhatPassed : Type 0
RunsLeaveWhatPassed = (c : Wire) (link : Link) (end : RunEnd) (left : Left) → MayRun c link → (r : RunsTo c link end left)
    → (role : Role)
    → of role left.got ≡ taken_octets (agreed_srej link) (delay_of c.script) role (turns_heard c link r.turns r.ends end left r.ended)

-- A script and two users have one result at most: one end, and what it leaves.
abbrev pub OneResult : Type 0
OneResult = (c : Wire) (link : Link) (a b : RunEnd) (left others : Left) → RunsTo c link a left → RunsTo c link b others
    → (a ≡ b) × (left ≡ others)

-- losses of a script's line that went on for so long that an end may give up
abbrev pub StarvedBy : ScriptValue → List Turn → Type 0
StarvedBy script ts = IsStarved script.tries (period_of script) (delay_of script) ts
