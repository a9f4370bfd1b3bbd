-- How far a pair has come, and how it ends.
use Rattle.std.specs.Prelude.{◌≡◌, ℕ, ◌+◌, max, true, ◌||◌, List, [], ◌∷◌, length, Option, Some, None, Result, Ok, Err}
use Rattle.std.specs.Option.{MatchOption}
use Rattle.outside_calls.specs.Folder.{FolderState}
use Rattle.outside_calls.specs.Outputs.{HoldEach}
use Rattle.shared_terms.specs.declared.role.Role.TheVariants.{Originator, Answerer}
use Rattle.shared_terms.specs.Both.{Both}
use Rattle.noise_script.specs.Script.{ScriptValue, IsInLimits}
use Rattle.link_run.specs.Run.{Link}
use Rattle.line_run.specs.Sampled.{Wire}
use Rattle.line_run.specs.Ends.{Left}
use Rattle.line_run.specs.Scripted.{link_of}
use Rattle.line_run.specs.Stream.{Carried}
use Rattle.line_world.specs.Lines.{LinesWait, none_sent}
use Rattle.line_run.specs.Names.{Written, outputs_of, written}
use Rattle.line_world.specs.Turns.{held_of}
use Rattle.line_world.specs.World.{KnowsFiles}
use Rattle.link_pair.specs.Pairs.Beside.{first_dlci, second_dlci, first_wire, second_wire}
use Rattle.link_pair.specs.Pairs.Pair.{Progress, turns_in, turns_on_line, PairAt}
use Rattle.link_pair.specs.Pairs.Ends.{Which, First, Second, PairEnd, end_of, is_going, firsts_at, PairRunsTo, by_links, by_line}
use Rattle.link_pair.specs.Pairs.Stream.{both_sent, first_sent}
use Rattle.link_pair.specs.declared.half.LinkEnd.{LinkEnd}
use Rattle.line_run.specs.declared.fault.RunFault.{RunFault}
use Rattle.line_run.specs.declared.fault.RunFault.TheVariants as faults
use Rattle.link_pair.specs.declared.two_links.Pair.{Pair}
use Rattle.link_pair.specs.declared.two_links.Endings.{Endings}
use Rattle.link_pair.specs.declared.two_links.PairNames.{PairNames}
use Rattle.link_pair.specs.declared.two_links.WhichLink.{WhichLink}
use Rattle.link_pair.specs.declared.two_links.WhichLink.TheVariants as links
use Rattle.link_pair.specs.Answers.{end_by_line}
use Rattle.link_pair.specs.Half.{run_end, last_turn, StandsFor, StandsFirst, HoldLeft, LinkStops, LinkStopsReading}

-- the files that are sent over both links, and all that is written, in the order of a pair's words
abbrev pub all_inputs : Written → Written → List (List ℕ)
all_inputs n m = n.orig ∷ n.answ ∷ m.orig ∷ m.answ ∷ []

abbrev pub all_outputs : Written → Written → List (List ℕ)
all_outputs n m = n.got_o ∷ n.got_a ∷ m.got_o ∷ m.got_a ∷ n.trace ∷ m.trace ∷ []

abbrev pub inputs_in : PairNames → List (List ℕ)
inputs_in names = all_inputs (written names.first) (written names.second)

abbrev pub outputs_in : PairNames → List (List ℕ)
outputs_in names = all_outputs (written names.first) (written names.second)

-- the script of a pair, and how many rounds it made
abbrev pub script_of : Pair → ScriptValue
script_of x = x.script

abbrev pub round_of : Pair → ℕ
round_of x = x.round

-- how both links ended, where both have
abbrev pub both_ended : Option LinkEnd → Option LinkEnd → Option Endings
both_ended (Some first) (Some second) = Some (record { first = first; second = second })
both_ended (Some first) None = None
both_ended None second = None

abbrev pub ended_of : Pair → Option Endings
ended_of x = both_ended x.first.ended x.second.ended

-- Before its first round a pair stands for all files.
pub record IsFirst (x : Pair) : Type 0 where
  pub limits : IsInLimits x.script
  pub round : x.round ≡ 0
  pub first_dlci_is : x.first.dlci ≡ first_dlci
  pub second_dlci_is : x.second.dlci ≡ second_dlci
  pub first : StandsFirst x.first x.script
  pub second : StandsFirst x.second x.script
  pub lines : LinesWait x.lines (first_wire x.script []) 2 none_sent

-- all that both links have sent as the turn of this one begins in a round
abbrev pub streams_at : Which → ℕ → Progress → Progress → Both (List Carried)
streams_at First round p q = record {
  orig = both_sent Originator (turns_on_line round p) (turns_on_line round q);
  answ = both_sent Answerer (turns_on_line round p) (turns_on_line round q);
}
streams_at Second round p q = record {
  orig = first_sent Originator (turns_on_line (firsts_at Second round) p) (turns_on_line round q);
  answ = first_sent Answerer (turns_on_line (firsts_at Second round) p) (turns_on_line round q);
}

-- The turn of this link is next: each link has come so far over the line beside the other, not both have ended, the files are known as far
-- as they were read, and the outputs hold what the turns left.
pub record Awaits (x : Pair) (f : FolderState) (n m : Written) (link : Which) : Type 0 where
  pub limits : IsInLimits x.script
  pub first_dlci_is : x.first.dlci ≡ first_dlci
  pub second_dlci_is : x.second.dlci ≡ second_dlci
  pub first_wire_is : x.first.modems.dlci ≡ x.first.dlci
  pub second_wire_is : x.second.modems.dlci ≡ x.second.dlci
  pub files : Both (List ℕ)
  pub others : Both (List ℕ)
  pub p : Progress
  pub q : Progress
  pub at : PairAt x.script files others (firsts_at link x.round) x.round p q
  pub going : (is_going p || is_going q) ≡ true
  pub first : StandsFor x.first.ended x.first.modems files p
  pub second : StandsFor x.second.ended x.second.modems others q
  pub lines : LinesWait x.lines (first_wire x.script (turns_in q)) 2 (streams_at link x.round p q)
  pub first_known : KnowsFiles f n files
  pub second_known : KnowsFiles f m others
  pub first_holds : HoldLeft f n p
  pub second_holds : HoldLeft f m q

-- ---- how a pair ends

-- The pair of a script and these files ended so, and the outputs hold what it leaves of each link.
pub record PairEnded (script : ScriptValue) (f : FolderState) (n m : Written) (end : PairEnd) : Type 0 where
  pub files : Both (List ℕ)
  pub others : Both (List ℕ)
  pub first_known : KnowsFiles f n files
  pub second_known : KnowsFiles f m others
  pub left : Left
  pub leaves : Left
  pub runs : PairRunsTo script files others end left leaves
  pub first_holds : HoldEach f (outputs_of n) (held_of left)
  pub second_holds : HoldEach f (outputs_of m) (held_of leaves)

-- both links have ended so
abbrev pub HaveEnded : ScriptValue → FolderState → Written → Written → Endings → Type 0
HaveEnded script f n m endings = PairEnded script f n m (end_of (run_end endings.first) (run_end endings.second))

-- in this round, the last turn of the later one
abbrev pub last_round : Endings → ℕ
last_round endings = max (last_turn endings.first) (last_turn endings.second)

-- the round in which a pair ends: the last turn of the link that ends later, or that in which the line ends it
abbrev pub end_round : {script : ScriptValue} → {files others : Both (List ℕ)} → {end : PairEnd} → {left leaves : Left}
    → PairRunsTo script files others end left leaves → ℕ
end_round (by_links first second both is) = max (length both.ts) (length both.us)
end_round (by_line link round cause ends is) = round

-- It ended so in this round.
pub record EndedIn (script : ScriptValue) (f : FolderState) (n m : Written) (round : ℕ) (end : PairEnd) : Type 0 where
  pub ended : PairEnded script f n m end
  pub in_round : end_round ended.runs ≡ round

-- the folder failed in the turn of one link, and the outputs of the other hold what its turns left
abbrev pub StopsTurn : (Wire → Link → FolderState → Written → ℕ → Progress → Type 0) → Which → ScriptValue → FolderState → Written
    → Written → Both (List ℕ) → Both (List ℕ) → ℕ → Progress → Progress → Type 0
StopsTurn Stops First script f n m files others round p q =
    Stops (first_wire script (turns_in q)) (link_of script files) f n round p × HoldLeft f m q
StopsTurn Stops Second script f n m files others round p q =
    HoldLeft f n p × Stops (second_wire script (turns_in p)) (link_of script others) f m round q

-- The folder failed in a round of the pair of a script and these files, in the turn of this link.
pub record PairStops (Stops : Wire → Link → FolderState → Written → ℕ → Progress → Type 0) (script : ScriptValue) (f : FolderState)
    (n m : Written) : Type 0 where
  pub link : Which
  pub round : ℕ
  pub files : Both (List ℕ)
  pub others : Both (List ℕ)
  pub first_known : KnowsFiles f n files
  pub second_known : KnowsFiles f m others
  pub p : Progress
  pub q : Progress
  pub at : PairAt script files others (firsts_at link round) round p q
  pub going : (is_going p || is_going q) ≡ true
  pub stops : StopsTurn Stops link script f n m files others round p q

-- It failed in this round.
pub record StopsIn (Stops : Wire → Link → FolderState → Written → ℕ → Progress → Type 0) (script : ScriptValue) (f : FolderState)
    (n m : Written) (round : ℕ) : Type 0 where
  pub stops : PairStops Stops script f n m
  pub in_round : stops.round ≡ round

-- why a pair ends before both links have ended
abbrev pub FaultEnds : ScriptValue → FolderState → Written → Written → RunFault → Type 0
FaultEnds script f n m faults.ReadFault = PairStops LinkStopsReading script f n m
FaultEnds script f n m faults.WriteFault = PairStops LinkStops script f n m
FaultEnds script f n m faults.NoMemory = PairStops LinkStops script f n m
FaultEnds script f n m fault = MatchOption (end_by_line fault) ⊥ (PairEnded script f n m)

-- and in which round
abbrev pub FaultEndsIn : ScriptValue → FolderState → Written → Written → ℕ → RunFault → Type 0
FaultEndsIn script f n m round faults.ReadFault = StopsIn LinkStopsReading script f n m round
FaultEndsIn script f n m round faults.WriteFault = StopsIn LinkStops script f n m round
FaultEndsIn script f n m round faults.NoMemory = StopsIn LinkStops script f n m round
FaultEndsIn script f n m round fault = MatchOption (end_by_line fault) ⊥ (EndedIn script f n m round)

-- ---- a turn

-- the link that the code names so
abbrev pub which : WhichLink → Which
which links.First = First
which links.Second = Second

-- whose turn comes behind that of a link, and in which round
abbrev pub next_of : Which → Which
next_of First = Second
next_of Second = First

abbrev pub round_behind : Which → ℕ → ℕ
round_behind First round = round
round_behind Second round = round + 1

-- What the turn of this link in a round comes to: the other one's is next, or the pair ended in it, by both links or by a fault.
abbrev pub Comes : ScriptValue → ℕ → Which → Pair → FolderState → Written → Written → Result (Option Endings) RunFault → Type 0
Comes script round link x f n m (Ok None) = Awaits x f n m (next_of link) × (round_of x ≡ round_behind link round)
Comes script round link x f n m (Ok (Some endings)) = HaveEnded script f n m endings × (last_round endings ≡ round)
Comes script round link x f n m (Err fault) = FaultEndsIn script f n m round fault
