-- How far a link of a pair has come, what its outputs hold by then, and what its part of a round answers.
use Rattle.std.specs.Prelude.{◌≡◌, ◌⊎◌, ℕ, suc, ◌<◌, List, [], ◌∷◌, length, Option, Some, None, Result, Ok, Err}
use Rattle.std.specs.List.{concat}
use Rattle.outside_calls.specs.Folder.{FolderState}
use Rattle.outside_calls.specs.Outputs.{HoldEach, HoldPart, joined}
use Rattle.shared_terms.specs.declared.role.Role.{Role}
use Rattle.shared_terms.specs.Both.{Both, of}
use Rattle.detection.specs.Slots.{Signal}
use Rattle.noise_script.specs.Script.{ScriptValue, IsInLimits}
use Rattle.link_account.specs.Account.{check_of}
use Rattle.link_run.specs.Run.{Link, Accounts, Turn, start}
use Rattle.link_run.specs.Trace.{trace_text}
use Rattle.line_run.specs.Sampled.{Wire, LineEnd, EndsLine}
use Rattle.line_run.specs.Sampled as lines
use Rattle.line_run.specs.Ends.{RunEnd, Left}
use Rattle.line_run.specs.Ends as runs
use Rattle.line_run.specs.Scripted.{wire_at, link_of}
use Rattle.line_run.specs.Stream.{Carried, and_sent}
use Rattle.line_world.specs.Lines.{LinesWait, AreDue, PassedFew}
use Rattle.line_world.specs.declared.lines.Lines.{Lines}
use Rattle.line_world.specs.declared.modems.Modems.{Modems}
use Rattle.line_world.specs.declared.step.Step.{Step}
use Rattle.line_world.specs.declared.step.Step.TheVariants as steps
use Rattle.line_run.specs.declared.fault.RunFault.{RunFault}
use Rattle.line_run.specs.declared.fault.RunFault.TheVariants as faults
use Rattle.line_run.specs.Names.{Written, outputs_of}
use Rattle.line_world.specs.Link.{LinkStands}
use Rattle.line_world.specs.Modems.{AreKept, has_turns}
use Rattle.line_world.specs.Tally.{Tallies}
use Rattle.line_world.specs.Turns.{AddsTurn, AddsChance, held_of}
use Rattle.line_world.specs.World.{KnowsFiles}
use Rattle.link_pair.specs.Pairs.Pair.{Progress, Goes, Ended, turns_in, ends_in, turns_on_line, Lasts}
use Rattle.link_pair.specs.Pairs.Ends.{LeavesOf, text_of}
use Rattle.link_pair.specs.declared.half.Half.{Half}
use Rattle.link_pair.specs.declared.half.LinkEnd.{LinkEnd}
use Rattle.link_pair.specs.declared.half.LinkEnd.TheVariants as link_ends

-- how a link's run ended
abbrev pub run_end : LinkEnd → RunEnd
run_end (link_ends.Done turn) = runs.IsDone turn
run_end (link_ends.LinkLost role segment turn) = runs.LinkLost role segment turn
run_end (link_ends.NotDetected turn) = runs.NotDetected turn

-- and in which turn
abbrev pub last_turn : LinkEnd → ℕ
last_turn (link_ends.Done turn) = turn
last_turn (link_ends.LinkLost role segment turn) = turn
last_turn (link_ends.NotDetected turn) = turn

-- what a turn comes to for a pair
abbrev pub sorted : Result Step RunFault → Result (Option LinkEnd) RunFault
sorted (Ok steps.Going) = Ok None
sorted (Ok (steps.Done turn)) = Ok (Some (link_ends.Done turn))
sorted (Err (faults.LinkLost role segment turn)) = Ok (Some (link_ends.LinkLost role segment turn))
sorted (Err (faults.NotDetected turn)) = Ok (Some (link_ends.NotDetected turn))
sorted (Err fault) = Err fault

-- ---- how far a link has come

-- The ends stand for a run of these files that goes on, and may make a turn.
pub record MayGoOn (m : Modems) (files : Both (List ℕ)) (ts : List Turn) (ends : Accounts) : Type 0 where
  pub kept : AreKept m
  pub link : LinkStands m.link files ends
  pub turn : m.turn ≡ length ts
  pub tally : Tallies m.tally ts ends
  pub spoke : m.spoke ≡ has_turns ts

-- They ended their run so, and judge by the checks that both had once they had heard in its last turn.
pub record HasStopped (m : Modems) (found : LinkEnd) (ends : Accounts) (end : RunEnd) : Type 0 where
  pub end_is : end ≡ run_end found
  pub checks : (role : Role) → of role m.heard_by ≡ check_of (of role ends)

abbrev pub StandsFor : Option LinkEnd → Modems → Both (List ℕ) → Progress → Type 0
StandsFor None m files (Goes ts ends) = MayGoOn m files ts ends
StandsFor (Some found) m files (Ended ts ends end left) = HasStopped m found ends end
StandsFor None m files (Ended ts ends end left) = ⊥
StandsFor (Some found) m files (Goes ts ends) = ⊥

-- what is left of a link that has come so far: the octets that both users were given, and its trace
abbrev pub left_by : Progress → Left
left_by (Goes ts ends) = record {
  got = record { orig = concat ends.orig.incoming.taken; answ = concat ends.answ.incoming.taken };
  trace = trace_text ts;
}
left_by (Ended ts ends end left) = left

-- its outputs hold that
abbrev pub HoldLeft : FolderState → Written → Progress → Type 0
HoldLeft f n p = HoldEach f (outputs_of n) (held_of (left_by p))

-- As the link's part of a round begins, it has come so far over the channel beside which that goes, its slots are due on the line among
-- these of so many links, its files are known as far as they were read, and its outputs hold what its turns left.
pub record HalfAt (h : Half) (l : Lines) (f : FolderState) (n : Written) (script : ScriptValue) (beside : Role → ℕ → Option Signal)
    (links : ℕ) (streams : Both (List Carried)) (files : Both (List ℕ)) (round : ℕ) (p : Progress) : Type 0 where
  pub lasts : Lasts (wire_at script h.dlci beside) (link_of script files) round p
  pub stands : StandsFor h.ended h.modems files p
  pub channel : h.modems.dlci ≡ h.dlci
  pub waits : LinesWait l (wire_at script h.dlci beside) links streams
  pub due : AreDue (wire_at script h.dlci beside) links (turns_on_line round p) streams
  pub knows : KnowsFiles f n files
  pub holds : HoldLeft f n p

-- Its part of this round may be made.
pub record HalfIsReady (h : Half) (l : Lines) (script : ScriptValue) (f : FolderState) (n : Written) (round : ℕ) : Type 0 where
  pub limits : IsInLimits script
  pub low : h.dlci < 64
  pub few : PassedFew l.directions
  pub beside : Role → ℕ → Option Signal
  pub links : ℕ
  pub streams : Both (List Carried)
  pub files : Both (List ℕ)
  pub p : Progress
  pub at : HalfAt h l f n script beside links streams files round p

-- Before its first turn it stands for all files.
pub record StandsFirst (h : Half) (script : ScriptValue) : Type 0 where
  pub channel : h.modems.dlci ≡ h.dlci
  pub stands : (files : Both (List ℕ)) → StandsFor h.ended h.modems files (Goes [] (start (link_of script files)))

-- ---- what its part of a round answers

-- a link comes farther by a turn, ends in one, or has ended before
abbrev pub Follows : Progress → Progress → Type 0
Follows (Goes ts ends) (Goes us after) = (t : Turn) × (us ≡ t ∷ ts)
Follows (Goes ts ends) (Ended us mid end left) = us ≡ ts
Follows (Ended ts ends end left) next = next ≡ Ended ts ends end left

-- The link has come farther: what it sent stands behind what was sent on the line before, and its outputs hold what its turns leave now.
pub record HasCome (h : Half) (l : Lines) (c : Wire) (links : ℕ) (streams : Both (List Carried)) (f : FolderState) (n : Written)
    (round : ℕ) (p : Progress) : Type 0 where
  pub others : Both (List ℕ)
  pub next : Progress
  pub sent : Turn
  pub lasts : Lasts c (link_of c.script others) (suc round) next
  pub stands : StandsFor h.ended h.modems others next
  pub channel : h.modems.dlci ≡ c.dlci
  pub follows : Follows p next
  pub on_line : turns_on_line (suc round) next ≡ sent ∷ turns_on_line round p
  pub waits : LinesWait l c links (and_sent streams c.dlci sent)
  pub knows : KnowsFiles f n others
  pub holds : HoldLeft f n next

-- The line ends the pair: a chance match is one line of the link's trace, also where the link has ended.
pub record IsEndedByLine (c : Wire) (f : FolderState) (n : Written) (files : Both (List ℕ)) (round : ℕ) (p : Progress)
    (end : LineEnd) : Type 0 where
  pub is : EndsLine c (turns_on_line round p) (ends_in p) end
  pub knows : KnowsFiles f n files
  pub left : Left
  pub leaves : LeavesOf p (text_of round end) left
  pub holds : HoldEach f (outputs_of n) (held_of left)

-- what the link's turn of a round adds to its outputs, whatever it comes to; one that has ended adds the line of a chance match alone
abbrev pub AddsMore : Wire → Link → ℕ → Progress → Left → Type 0
AddsMore c link round (Goes ts ends) more = AddsTurn c link ts ends more ⊎ AddsChance c ts ends more
AddsMore c link round (Ended ts ends end left) more = AddsChance c (turns_on_line round (Ended ts ends end left)) ends more

-- The folder failed in it: the outputs hold what the turns before left, and a part of what this one adds.
pub record LinkStops (c : Wire) (link : Link) (f : FolderState) (n : Written) (round : ℕ) (p : Progress) : Type 0 where
  pub more : Left
  pub adds : AddsMore c link round p more
  pub holds : HoldPart f (outputs_of n) (held_of (left_by p)) (held_of more)

-- It failed to read a file that is sent: the outputs hold all that both users are given in that turn, and nothing of its lines.
pub record LinkStopsReading (c : Wire) (link : Link) (f : FolderState) (n : Written) (round : ℕ) (p : Progress) : Type 0 where
  pub stops : LinkStops c link f n round p
  pub adds : AddsTurn c link (turns_in p) (ends_in p) stops.more
  pub holds : HoldEach f (outputs_of n) (joined (held_of (left_by p)) (stops.more.got.orig ∷ stops.more.got.answ ∷ []))

-- So the folder stopped the link, over its files as far as they were read then.
pub record IsStopped (Stops : Wire → Link → FolderState → Written → ℕ → Progress → Type 0) (c : Wire) (f : FolderState) (n : Written)
    (round : ℕ) (p : Progress) : Type 0 where
  pub others : Both (List ℕ)
  pub knows : KnowsFiles f n others
  pub lasts : Lasts c (link_of c.script others) round p
  pub stops : Stops c (link_of c.script others) f n round p

-- why the pair ends in it: for the folder, or by the line
abbrev pub HalfEnds : Wire → FolderState → Written → Both (List ℕ) → ℕ → Progress → RunFault → Type 0
HalfEnds c f n files round p faults.ReadFault = IsStopped LinkStopsReading c f n round p
HalfEnds c f n files round p faults.WriteFault = IsStopped LinkStops c f n round p
HalfEnds c f n files round p faults.NoMemory = IsStopped LinkStops c f n round p
HalfEnds c f n files round p (faults.LineLost role symbol) = IsEndedByLine c f n files round p (lines.LineLost role symbol)
HalfEnds c f n files round p (faults.ChanceMatch role turn) =
    (turn ≡ round) × IsEndedByLine c f n files round p (lines.ChanceMatch role)
HalfEnds c f n files round p fault = ⊥

abbrev pub HalfAnswers : Half → Lines → Wire → ℕ → Both (List Carried) → FolderState → Written → Both (List ℕ) → ℕ → Progress
    → Result (Unit {0}) RunFault → Type 0
HalfAnswers h l c links streams f n files round p (Ok done) = HasCome h l c links streams f n round p
HalfAnswers h l c links streams f n files round p (Err fault) = HalfEnds c f n files round p fault
