-- A pair of links over one line, after some rounds: each link goes on, or has ended.
use Rattle.std.specs.Prelude.{◌≡◌, ℕ, zero, suc, ◌-◌, ◌<◌, List, length, Option, Some, None}
use Rattle.shared_terms.specs.declared.role.Role.{Role}
use Rattle.shared_terms.specs.Role.{other}
use Rattle.shared_terms.specs.Both.{Both, of}
use Rattle.noise_script.specs.Script.{ScriptValue}
use Rattle.link_account.specs.Account.{check_of}
use Rattle.link_run.specs.Run.{Link, Accounts, Turn}
use Rattle.line_run.specs.Sampled.{Wire, LineRun, IsHeardWell}
use Rattle.line_run.specs.Scripted.{link_of}
use Rattle.line_run.specs.Ends.{RunEnd, IsDone, Left, GivesUp, LastTurn, EndsBy, last_turn, RunsTo}
use Rattle.link_pair.specs.Pairs.Beside.{first_wire, second_wire, lasting}

-- the ends of a run once both have heard in its last turn, where one was made
abbrev pub ends_after : Accounts → Option LastTurn → Accounts
ends_after ends None = ends
ends_after ends (Some last) = last.mid

abbrev pub last_ends : (c : Wire) (link : Link) (ts : List Turn) (ends : Accounts) (end : RunEnd) (left : Left)
    → EndsBy c link ts ends end left → Accounts
last_ends c link ts ends end left e = ends_after ends (last_turn c link ts ends end left e)

-- An end of the link ended the run, and not the line.
abbrev pub IsByLink : RunEnd → Type 0
IsByLink (IsDone turn) = Unit {0}
IsByLink end = GivesUp end

-- How far a link has come: it goes on with these ends, or has ended so, and these are its ends once they have heard in its last turn.
pub data Progress : Type 0 where
  Goes : (turns : List Turn) (ends : Accounts) → Progress
  Ended : (turns : List Turn) (ends : Accounts) (end : RunEnd) (left : Left) → Progress

abbrev pub turns_in : Progress → List Turn
turns_in (Goes turns ends) = turns
turns_in (Ended turns ends end left) = turns

abbrev pub ends_in : Progress → Accounts
ends_in (Goes turns ends) = ends
ends_in (Ended turns ends end left) = ends

-- what the link sent in so many rounds, as turns
abbrev pub turns_on_line : ℕ → Progress → List Turn
turns_on_line rounds (Goes turns ends) = turns
turns_on_line rounds (Ended turns ends end left) = lasting (rounds - length turns) turns

-- The slots of an ended link that arrive in a round end nothing: each is heard well by the checks that its ends had last.
abbrev pub HearsIdly : Wire → List Turn → Accounts → Type 0
HearsIdly c ts ends = (role : Role) → IsHeardWell c (other role) ts (check_of (of role ends))

-- and so in so many rounds behind the one in which it ended
abbrev pub IdlesFor : Wire → Accounts → ℕ → List Turn → Type 0
IdlesFor c ends zero ts = Unit {0}
IdlesFor c ends (suc rounds) ts = HearsIdly c (lasting (suc rounds) ts) ends × IdlesFor c ends rounds ts

-- A link goes on after so many rounds.
pub record GoesFor (c : Wire) (link : Link) (rounds : ℕ) (ts : List Turn) (ends : Accounts) : Type 0 where
  pub run : LineRun c link ts ends
  pub count : length ts ≡ rounds

-- A link has ended in one of so many rounds, and was idle since.
pub record HasEnded (c : Wire) (link : Link) (rounds : ℕ) (ts : List Turn) (ends : Accounts) (end : RunEnd) (left : Left) : Type 0 where
  pub ran : RunsTo c link end left
  pub turns_are : ran.turns ≡ ts
  pub ends_are : last_ends c link ran.turns ran.ends end left ran.ended ≡ ends
  pub by_link : IsByLink end
  pub before : length ts < rounds
  pub idles : IdlesFor c ends (rounds - suc (length ts)) ts

abbrev pub Lasts : Wire → Link → ℕ → Progress → Type 0
Lasts c link rounds (Goes ts ends) = GoesFor c link rounds ts ends
Lasts c link rounds (Ended ts ends end left) = HasEnded c link rounds ts ends end left

-- The pair after so many turns of the first link and so many of the second, counting the rounds in which a link was idle: each goes over the
-- line beside the other.
pub record PairAt (script : ScriptValue) (files others : Both (List ℕ)) (firsts seconds : ℕ) (p q : Progress) : Type 0 where
  pub first : Lasts (first_wire script (turns_in q)) (link_of script files) firsts p
  pub second : Lasts (second_wire script (turns_in p)) (link_of script others) seconds q
