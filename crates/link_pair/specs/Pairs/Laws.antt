-- The laws of pairs of links.
use Rattle.std.specs.Prelude.{◌≡◌, ℕ, suc, ◌*◌, ◌^◌, ◌<◌, ◌≤◌, true, List, length}
use Rattle.shared_terms.specs.declared.role.Role.{Role}
use Rattle.shared_terms.specs.Role.{other}
use Rattle.shared_terms.specs.Both.{Both, of}
use Rattle.shared_terms.specs.Prefix.{IsPrefixOf}
use Rattle.noise_script.specs.Script.{ScriptValue, IsInLimits}
use Rattle.link_run.specs.Carried.{IsCarried}
use Rattle.link_run.specs.Run.{Link, Accounts, RunOf}
use Rattle.line_run.specs.Stream.{IsDue}
use Rattle.link_pair.specs.Pairs.Stream.{both_sent, first_sent}
use Rattle.turn_bound.specs.Limits.{file_limit}
use Rattle.noise_script.specs.Script.{delay_of}
use Rattle.line_run.specs.Ends.{RunEnd, Left, turns_heard, StarvedBy, GivesUp}
use Rattle.line_run.specs.Scripted.{link_of}
use Rattle.line_run.specs.Scripts.{HasFewTurns}
use Rattle.line_ends.specs.Completes.{ScriptRunsTo, IsFaint, IsQuiet, DisplacesNone, AreOfOctets}
use Rattle.link_pair.specs.Pairs.Beside.{first_wire, second_wire}
use Rattle.link_pair.specs.Pairs.Pair.{Progress, turns_in, turns_on_line, IsByLink, HasEnded, PairAt}
use Rattle.link_pair.specs.Pairs.Ends.{PairEnd, BothDone, end_of, is_going, BothEnd, PairRunsTo}

-- Each link runs as it does alone, and the pair's end is that of both.
pub record AreIsolated (script : ScriptValue) (files others : Both (List ℕ)) (end : PairEnd) (left leaves : Left) : Type 0 where
  pub first : RunEnd
  pub second : RunEnd
  pub first_runs : ScriptRunsTo script files first left
  pub second_runs : ScriptRunsTo script others second leaves
  pub first_by_link : IsByLink first
  pub second_by_link : IsByLink second
  pub end_is : end ≡ end_of first second

-- Where noise is faint, each link of a pair runs as it does alone, whatever the other one's users bring;
abbrev pub FaintPairsAreIsolated : Type 0
FaintPairsAreIsolated = (script : ScriptValue) (files others : Both (List ℕ)) (end : PairEnd) (left leaves : Left) → IsInLimits script
    → IsFaint script → AreOfOctets script files → AreOfOctets script others → PairRunsTo script files others end left leaves
    → AreIsolated script files others end left leaves

-- and so it is where no line of the script displaces a symbol.
abbrev pub UndisplacedPairsAreIsolated : Type 0
UndisplacedPairsAreIsolated = (script : ScriptValue) (files others : Both (List ℕ)) (end : PairEnd) (left leaves : Left)
    → IsInLimits script
    → DisplacesNone script → AreOfOctets script files → AreOfOctets script others → PairRunsTo script files others end left leaves
    → AreIsolated script files others end left leaves

-- what users were given begins what the others sent, at each end of a link
abbrev pub ArePrefixes : Left → Both (List ℕ) → Type 0
ArePrefixes left files = (role : Role) → IsPrefixOf (of role left.got) (of (other role) files)

-- However a pair ends, so it is of both links;
abbrev pub PairsLeavePrefixes : Type 0
PairsLeavePrefixes = (script : ScriptValue) (files others : Both (List ℕ)) (end : PairEnd) (left leaves : Left) → IsInLimits script
    → PairRunsTo script files others end left leaves → ArePrefixes left files × ArePrefixes leaves others

-- it is the whole
abbrev pub AreWhole : Left → Both (List ℕ) → Type 0
AreWhole left files = (role : Role) → of role left.got ≡ of (other role) files

-- done means all four whole.
abbrev pub DonePairsAreWhole : Type 0
DonePairsAreWhole = (script : ScriptValue) (files others : Both (List ℕ)) (first second : ℕ) (left leaves : Left) → IsInLimits script
    → PairRunsTo script files others (BothDone first second) left leaves → AreWhole left files × AreWhole leaves others

-- A link of a pair that an end gave up was starved.
abbrev pub PairedLinksWereStarved : Type 0
PairedLinksWereStarved = (script : ScriptValue) (files others : Both (List ℕ)) (firsts seconds : ℕ) (p q : Progress) → IsInLimits script
    → PairAt script files others firsts seconds p q
    → ((end : RunEnd) (left : Left) (ends : Accounts)
    → (h : HasEnded (first_wire script (turns_in q)) (link_of script files) firsts (turns_in p) ends end left) → GivesUp end
    → StarvedBy script (turns_heard (first_wire script (turns_in q)) (link_of script files) h.ran.turns h.ran.ends end left h.ran.ended))
    × ((end : RunEnd) (left : Left) (ends : Accounts)
    → (h : HasEnded (second_wire script (turns_in p)) (link_of script others) seconds (turns_in q) ends end left) → GivesUp end
    → StarvedBy script (turns_heard (second_wire script (turns_in p)) (link_of script others) h.ran.turns h.ran.ends end left h.ran.ended))

-- A link of a pair is a run over a line, as each law of such runs has it.
pub record IsRunOver (link : Link) (script : ScriptValue) (p : Progress) : Type 0 where
  pub ends : Accounts
  pub run : RunOf link (turns_in p) ends
  pub carried : IsCarried (delay_of script) (turns_in p)

abbrev pub PairedLinksRun : Type 0
PairedLinksRun = (script : ScriptValue) (files others : Both (List ℕ)) (firsts seconds : ℕ) (p q : Progress)
    → PairAt script files others firsts seconds p q → IsRunOver (link_of script files) script p × IsRunOver (link_of script others) script q

-- While a link goes on, there were no more rounds than it has turns: few, by its files' octets, and always fewer than an end can count.
pub record AreFewRounds (script : ScriptValue) (files : Both (List ℕ)) (rounds : ℕ) (p : Progress) : Type 0 where
  pub count : length (turns_in p) ≡ rounds
  pub ends : Accounts
  pub few : HasFewTurns script files (turns_in p) ends
  pub below : rounds < 2 ^ 39

abbrev pub AreShort : Both (List ℕ) → Type 0
AreShort files = (role : Role) → length (of role files) ≤ file_limit

abbrev pub PairsHaveFewRounds : Type 0
PairsHaveFewRounds = (script : ScriptValue) (files others : Both (List ℕ)) (firsts seconds : ℕ) (p q : Progress) → IsInLimits script
    → AreShort files → AreShort others → PairAt script files others firsts seconds p q
    → (is_going p ≡ true → AreFewRounds script files firsts p) × (is_going q ≡ true → AreFewRounds script others seconds q)

-- A script and four files have one pair at most: one end, and what it leaves of each link.
abbrev pub OnePairResult : Type 0
OnePairResult = (script : ScriptValue) (files others : Both (List ℕ)) (a b : PairEnd) (left other leaves more : Left) → IsInLimits script
    → PairRunsTo script files others a left leaves → PairRunsTo script files others b other more
    → (a ≡ b) × (left ≡ other) × (leaves ≡ more)

-- a pair ends so, and this is left of both links
pub record HasPairEnd (script : ScriptValue) (files others : Both (List ℕ)) : Type 0 where
  pub end : PairEnd
  pub left : Left
  pub leaves : Left
  pub runs : PairRunsTo script files others end left leaves

-- Each script within its limits and each four files of octets within theirs have a pair that ends.
abbrev pub EachPairEnds : Type 0
EachPairEnds = (script : ScriptValue) (files others : Both (List ℕ)) → IsInLimits script → AreShort files → AreShort others
    → AreOfOctets script files → AreOfOctets script others → HasPairEnd script files others

-- As the first link's turn begins in a round, the slot that is due in each direction is that link's, among all that both have sent,
abbrev pub FirstSlotsAreDue : Type 0
FirstSlotsAreDue = (script : ScriptValue) (files others : Both (List ℕ)) (round : ℕ) (p q : Progress)
    → PairAt script files others round round p q → (role : Role) → 1 ≤ delay_of script role
    → IsDue (first_wire script (turns_in q)) role (turns_on_line round p)
    (both_sent role (turns_on_line round p) (turns_on_line round q)) (2 * delay_of script role)

-- and as the second's begins, the second's.
abbrev pub SecondSlotsAreDue : Type 0
SecondSlotsAreDue = (script : ScriptValue) (files others : Both (List ℕ)) (round : ℕ) (p q : Progress)
    → PairAt script files others (suc round) round p q → (role : Role) → 1 ≤ delay_of script role
    → IsDue (second_wire script (turns_in p)) role (turns_on_line round q)
    (first_sent role (turns_on_line (suc round) p) (turns_on_line round q)) (2 * delay_of script role)

-- both are done
abbrev pub EndsDone : PairEnd → Type 0
EndsDone end = (first second : ℕ) × (end ≡ BothDone first second)

-- A pair that the line doesn't end is done, unless losses went on for so long at a link that one of its ends gave up;
abbrev pub UnstarvedPairsAreDone : Type 0
UnstarvedPairsAreDone = (script : ScriptValue) (files others : Both (List ℕ)) (a b : RunEnd) (left leaves : Left) → IsInLimits script
    → (e : BothEnd script files others a b left leaves)
    → (GivesUp a → StarvedBy script (turns_heard (first_wire script e.us) (link_of script files) e.at.first.ran.turns e.at.first.ran.ends a
    left e.at.first.ran.ended) → ⊥)
    → (GivesUp b → StarvedBy script (turns_heard (second_wire script e.ts) (link_of script others) e.at.second.ran.turns
    e.at.second.ran.ends b leaves e.at.second.ran.ended) → ⊥)
    → EndsDone (end_of a b)

-- and so is each pair of a script that is quiet.
abbrev pub QuietPairsAreDone : Type 0
QuietPairsAreDone = (script : ScriptValue) (files others : Both (List ℕ)) (end : PairEnd) (left leaves : Left) → IsInLimits script
    → IsQuiet script → AreOfOctets script files → AreOfOctets script others → PairRunsTo script files others end left leaves
    → EndsDone end
