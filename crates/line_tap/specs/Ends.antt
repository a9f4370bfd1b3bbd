-- How the reading of two recordings ends, and what it leaves: the octets that both users were given and the trace.
use Rattle.std.specs.Prelude.{◌≡◌, ℕ, ◌+◌, ◌<◌, ◌≤◌, List, ◌∷◌, ◌++◌, length}
use Rattle.std.specs.List.{concat}
use Rattle.shared_terms.specs.declared.role.Role.{Role}
use Rattle.shared_terms.specs.declared.role.Role.TheVariants.{Originator, Answerer}
use Rattle.shared_terms.specs.Both.{of}
use Rattle.lapm_frames.specs.declared.sent.Sent.{Sent}
use Rattle.line_texts.specs.LineText.{chance_line}
use Rattle.link_run.specs.Run.{Turn, IsSilent}
use Rattle.link_run.specs.Trace.{trace_text}
use Rattle.link_run.specs.Listened.{check_by, judged_by, received}
use Rattle.line_run.specs.Sampled.{LineEnd}
use Rattle.line_run.specs.Sampled as lines
use Rattle.line_run.specs.Ends.{RunEnd, Left}
use Rattle.line_run.specs.Ends as runs
use Rattle.line_tap.specs.Tapping.{Tapping, line_of, terms_of, octets_of, HoldsNext, Hears, Tells}

-- How the reading ends.
pub data TapEnd : Type 0 where
  IsDone : (turns : ℕ) → TapEnd  -- both recordings end here, and so many turns were traced
  LineLost : (role : Role) (symbol : ℕ) → TapEnd  -- the role of the end that hears
  ChanceMatch : (role : Role) (turn : ℕ) → TapEnd  -- likewise
  BadTap : (role : Role) (turn : ℕ) → TapEnd  -- the role that sent the slot

-- the end of the reading of what was recorded of a run that ended so: a turn more than the last one's number, where one was made
abbrev pub told_end : RunEnd → TapEnd
told_end (runs.LineLost role symbol) = LineLost role symbol
told_end (runs.ChanceMatch role turn) = ChanceMatch role turn
told_end (runs.IsDone turn) = IsDone (turn + 1)
told_end (runs.LinkLost role segment turn) = IsDone (turn + 1)
told_end (runs.NotDetected turn) = IsDone (turn + 1)

-- What is left of turns in which something was heard, with this text: what the receivers took of the I frames that passed.
pub record Leaves (x : Tapping) (ts : List Turn) (text : List ℕ) (left : Left) : Type 0 where
  pub got_is : (role : Role) → of role left.got ≡ concat (received (terms_of x) role ts).taken
  pub trace_is : left.trace ≡ text

-- One turn more, in which nothing is sent.
pub record LastHears (x : Tapping) (ts : List Turn) : Type 0 where
  pub last : Turn
  pub hears : Hears x ts last
  pub silent : IsSilent last

-- Neither recording has anything of the turn after these.
pub record EndsWhole (x : Tapping) (ts : List Turn) (turns : ℕ) (left : Left) : Type 0 where
  pub number : turns ≡ length ts + 1
  pub last : LastHears x ts
  pub none : (role : Role) → length (of role x.bodies) ≤ octets_of (line_of x) (length ts)
  pub leaves : Leaves x (last.last ∷ ts) (trace_text (last.last ∷ ts)) left

-- a role's recording doesn't hold a slot of the turn after these: it isn't all there, or no slot has its samples
abbrev pub HoldsNone : Tapping → List Turn → Role → Type 0
HoldsNone x ts role = (s : Sent) → HoldsNext (line_of x) (check_by (terms_of x)) role ts (of role x.bodies) s → ⊥

-- the first role whose slot is refused, the originator first
abbrev pub IsFirstRefused : Tapping → List Turn → Role → Type 0
IsFirstRefused x ts Originator = HoldsNone x ts Originator
IsFirstRefused x ts Answerer =
    ((s : Sent) × HoldsNext (line_of x) (check_by (terms_of x)) Originator ts (of Originator x.bodies) s) × HoldsNone x ts Answerer

-- One of the recordings has something of the turn after these, and a slot of it is refused. What was heard in the turn was taken, and its
-- lines aren't written.
pub record EndsBadly (x : Tapping) (ts : List Turn) (role : Role) (turn : ℕ) (left : Left) : Type 0 where
  pub number : turn ≡ length ts
  pub last : LastHears x ts
  pub some : (side : Role) × (octets_of (line_of x) (length ts) < length (of side x.bodies))
  pub refused : IsFirstRefused x ts role
  pub leaves : Leaves x (last.last ∷ ts) (trace_text ts) left

-- the line ends the reading in the turn after these, as it ends a run whose ends judge by these checks
abbrev pub EndsLine : Tapping → List Turn → LineEnd → Type 0
EndsLine x ts end = lines.EndsLineBy (line_of x) ts (λ role. judged_by (terms_of x) role ts) end

-- what that role receives of a slot of that turn is a chance match
abbrev pub IsChanceMatch : Tapping → List Turn → Role → Type 0
IsChanceMatch x ts role = EndsLine x ts (lines.ChanceMatch role)

-- the line ends the reading so, and this is left
pub record EndsOnLine (x : Tapping) (ts : List Turn) (end : LineEnd) (text : List ℕ) (left : Left) : Type 0 where
  pub is : EndsLine x ts end
  pub leaves : Leaves x ts text left

-- the ends by their causes
abbrev pub EndsBy : Tapping → List Turn → TapEnd → Left → Type 0
EndsBy x ts (IsDone turns) left = EndsWhole x ts turns left
EndsBy x ts (LineLost role symbol) left = EndsOnLine x ts (lines.LineLost role symbol) (trace_text ts) left
EndsBy x ts (ChanceMatch role turn) left =
    (turn ≡ length ts) × EndsOnLine x ts (lines.ChanceMatch role) (trace_text ts ++ chance_line (length ts) role) left
EndsBy x ts (BadTap role turn) left = EndsBadly x ts role turn left

-- What a script and two recordings tell: their turns, how the reading ends, and what it leaves.
pub record TapOf (x : Tapping) (end : TapEnd) (left : Left) : Type 0 where
  pub turns : List Turn
  pub tells : Tells x turns
  pub ended : EndsBy x turns end left
