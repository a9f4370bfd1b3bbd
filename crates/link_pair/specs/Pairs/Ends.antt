-- How a pair ends, and what it leaves of each link.
use Rattle.std.specs.Prelude.{◌≡◌, ℕ, suc, max, Bool, true, false, ◌||◌, List, [], ◌++◌, length}
use Rattle.shared_terms.specs.declared.role.Role.{Role}
use Rattle.shared_terms.specs.Both.{Both}
use Rattle.noise_script.specs.Script.{ScriptValue}
use Rattle.line_texts.specs.LineText.{chance_line}
use Rattle.link_run.specs.Run.{Accounts, Turn}
use Rattle.link_run.specs.Trace.{trace_text}
use Rattle.line_run.specs.Sampled.{LineEnd, EndsLine}
use Rattle.line_run.specs.Sampled as lines
use Rattle.line_run.specs.Ends.{RunEnd, Left, Leaves}
use Rattle.line_run.specs.Ends as runs
use Rattle.link_pair.specs.Pairs.Beside.{first_wire, second_wire}
use Rattle.link_pair.specs.Pairs.Pair.{Progress, Goes, Ended, turns_in, ends_in, turns_on_line, PairAt}

-- one of the two links
pub data Which : Type 0 where
  First : Which
  Second : Which

-- How a pair ends.
pub data PairEnd : Type 0 where
  BothDone : (first second : ℕ) → PairEnd  -- the last turns of both
  LinkLost : (link : Which) (role : Role) (segment turn : ℕ) → PairEnd
  NotDetected : (link : Which) (turn : ℕ) → PairEnd
  LineLost : (role : Role) (symbol : ℕ) → PairEnd  -- the symbol of all that this role hears, of both links
  ChanceMatch : (role : Role) (round : ℕ) → PairEnd

-- The line ends the pair, and no link does.
abbrev pub IsByLine : PairEnd → Type 0
IsByLine (LineLost role symbol) = Unit {0}
IsByLine (ChanceMatch role round) = Unit {0}
IsByLine end = ⊥

-- the pair's end where both links have ended: the first that isn't done counts
abbrev pub end_of : RunEnd → RunEnd → PairEnd
end_of (runs.IsDone turn) (runs.IsDone last) = BothDone turn last
end_of (runs.IsDone turn) (runs.LinkLost role segment last) = LinkLost Second role segment last
end_of (runs.IsDone turn) (runs.NotDetected last) = NotDetected Second last
end_of (runs.IsDone turn) (runs.LineLost role symbol) = LineLost role symbol
end_of (runs.IsDone turn) (runs.ChanceMatch role last) = ChanceMatch role last
end_of (runs.LinkLost role segment turn) end = LinkLost First role segment turn
end_of (runs.NotDetected turn) end = NotDetected First turn
end_of (runs.LineLost role symbol) end = LineLost role symbol
end_of (runs.ChanceMatch role turn) end = ChanceMatch role turn

-- and where the line ends it
abbrev pub line_end : ℕ → LineEnd → PairEnd
line_end round (lines.LineLost role symbol) = LineLost role symbol
line_end round (lines.ChanceMatch role) = ChanceMatch role round

-- Both links have ended, the later one in the last turn of the pair: where that is the first link's, the second makes none in that round.
pub record BothEnd (script : ScriptValue) (files others : Both (List ℕ)) (first second : RunEnd) (left leaves : Left) : Type 0 where
  pub ts : List Turn
  pub us : List Turn
  pub ends : Accounts
  pub mids : Accounts
  pub at : PairAt script files others (suc (max (length ts) (length us))) (max (length ts) (suc (length us)))
      (Ended ts ends first left) (Ended us mids second leaves)

abbrev pub is_going : Progress → Bool
is_going (Goes turns ends) = true
is_going (Ended turns ends end left) = false

-- how many turns the first link has made as the turn of this link begins in a round
abbrev pub firsts_at : Which → ℕ → ℕ
firsts_at First round = round
firsts_at Second round = suc round

-- the line ends the pair in the turn of this link
abbrev pub EndsTurn : ScriptValue → Which → ℕ → Progress → Progress → LineEnd → Type 0
EndsTurn script First round p q end = EndsLine (first_wire script (turns_in q)) (turns_on_line round p) (ends_in p) end
EndsTurn script Second round p q end = EndsLine (second_wire script (turns_in p)) (turns_on_line round q) (ends_in q) end

-- what is left of a link, with this text behind its trace
abbrev pub LeavesOf : Progress → List ℕ → Left → Type 0
LeavesOf (Goes turns ends) text left = Leaves ends (trace_text turns ++ text) left
LeavesOf (Ended turns ends end had) text left = (left.got ≡ had.got) × (left.trace ≡ had.trace ++ text)

-- the line that a chance match adds to the trace of the link in whose turn it comes, also where that has ended
abbrev pub text_of : ℕ → LineEnd → List ℕ
text_of round (lines.LineLost role symbol) = []
text_of round (lines.ChanceMatch role) = chance_line round role

abbrev pub text_for : Which → Which → ℕ → LineEnd → List ℕ
text_for First First round end = text_of round end
text_for Second Second round end = text_of round end
text_for First Second round end = []
text_for Second First round end = []

-- The line ends the pair in a round.
pub record LineEnds (script : ScriptValue) (files others : Both (List ℕ)) (link : Which) (round : ℕ) (end : LineEnd)
    (left leaves : Left) : Type 0 where
  pub p : Progress
  pub q : Progress
  pub at : PairAt script files others (firsts_at link round) round p q
  pub going : (is_going p || is_going q) ≡ true
  pub is : EndsTurn script link round p q end
  pub first_leaves : LeavesOf p (text_for First link round end) left
  pub second_leaves : LeavesOf q (text_for Second link round end) leaves

-- A pair goes on for some rounds, and ends.
pub data PairRunsTo (script : ScriptValue) (files others : Both (List ℕ)) (end : PairEnd) (left leaves : Left) : Type 0 where
  by_links : (first second : RunEnd) → BothEnd script files others first second left leaves → end ≡ end_of first second
      → PairRunsTo script files others end left leaves
  by_line : (link : Which) (round : ℕ) (cause : LineEnd) → LineEnds script files others link round cause left leaves
      → end ≡ line_end round cause → PairRunsTo script files others end left leaves
