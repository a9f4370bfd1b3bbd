-- From the phases of a pair to how it ends.
use Rattle.link_pair.proofs.Names.{inr, ℕ, List, [], ◌∷◌, refl, ◌∙◌, arith, StopCounts, EndCounts, Stop, Written, Wire, link_of}
use Rattle.link_pair.proofs.Names.{LineRunsEndSoon, RunFault, FaultCountsOver, KnowsFiles, result_of, IsBegun, RanTo, StopsInRound, EndsBy}
use Rattle.link_pair.proofs.Names.{Ends, LinkStops, LinkStopsReading, FaultEnds, first_wire, second_wire, PairEnd, Progress, turns_in}
use Rattle.link_pair.proofs.Names.{Lasts, Names, files_of, inputs_of, Link, ScriptValue, IsInLimits, SomeRose-earlier, FolderState, GoesOn}
use Rattle.link_pair.proofs.Names.{CountsStand, AreApartFrom, KeepsEach, CreatesPart, OnlyOutputs, OnlyPuts, LIMITS, Both}
use Rattle.outside_calls.specs.Folder.{OnlyReads}
use Rattle.outside_calls.proofs.Steps.{GoesOn-trans}
use Rattle.outside_calls.specs.Outputs.{AreApart, AreNoneOf}
use Rattle.outside_calls.proofs.Putting.{KeepsEach-reads, inputs-kept, none-fronts}
use Rattle.command_base.proofs.Creating.{CreatesPart-earlier}
use Rattle.run_inputs.specs.declared.limits.Limits.{Limits}
use Rattle.run_inputs.specs.Inputs.{Refuses}
use Rattle.run_inputs.proofs.Files.{file-is}
use Rattle.link_pair.specs.Pairs.Ends.{LineLost, ChanceMatch}
use Rattle.line_run.specs.declared.fault.RunFault.TheVariants as faults
use Rattle.link_pair.specs.Pair.{PairEnded, PairStops}
use Rattle.link_pair.specs.Words.{outputs_of}
use Rattle.run_inputs.specs.Answers.{fault_stop}
use Rattle.link_pair.specs.Ends.{Takes, IsFew, StopsCreating}

-- the inputs were not taken
pub ends-refused : (l : Limits) (old new : FolderState) (n : Names) (stop : Stop) → OnlyReads old new
    → Refuses l old new n.script 5 (files_of n) 1 stop → EndsBy l old new n stop
ends-refused l old new n stop reads r = grind (arith)

-- an output was not created
pub ends-creating : (l : Limits) (old mid new : FolderState) (n : Names) (script : ScriptValue) → IsBegun l old mid n script
    → CreatesPart mid new (outputs_of n) → StopsCreating l old new n
ends-creating l old mid new n script b c = record {
  script = script;
  opens = b.opens;
  creates = CreatesPart-earlier old mid new (outputs_of n) b.reads.goes_on (KeepsEach-reads old mid (outputs_of n) b.reads) c;
}

-- names that the words keep apart
pub apart-names : (n : Names) → AreApart (outputs_of n) → AreNoneOf (outputs_of n) (inputs_of n)
    → AreApartFrom (files_of n) (outputs_of n)
apart-names n d i = (d, none-fronts (outputs_of n) (files_of n) (n.script ∷ []) i)

-- the phases of a pair, once its inputs were opened
pub record Phases (l : Limits) (old mid now next : FolderState) (n : Names) (script : ScriptValue) : Type 0 where
  pub begun : IsBegun l old mid n script
  pub creates : OnlyOutputs mid now (outputs_of n)
  pub rounds : OnlyPuts now next (outputs_of n)
  pub apart : AreNoneOf (outputs_of n) (files_of n)
  pub stand : CountsStand mid now

goes-on : (old mid now next : FolderState) (n : Names) (script : ScriptValue) → Phases LIMITS old mid now next n script → GoesOn old next
goes-on old mid now next n script p = GoesOn-trans p.begun.reads.goes_on (GoesOn-trans p.creates.goes_on p.rounds.goes_on)

-- the files are as they were before all of them
files-kept : (old mid now next : FolderState) (n : Names) (script : ScriptValue) → Phases LIMITS old mid now next n script
    → KeepsEach old next (files_of n)
files-kept old mid now next n script p = grind (arith, inputs-kept)

takes : (old mid now next : FolderState) (n : Names) (script : ScriptValue) (files others : Both (List ℕ))
    → Phases LIMITS old mid now next n script → KnowsFiles next n.first files → KnowsFiles next n.second others
    → Takes LIMITS old n script files others
unfolding goes-on files-kept
takes old mid now next n script files others p k m =
    let on : GoesOn old next = goes-on old mid now next n script p in
    let kept = files-kept old mid now next n script p in
    let within = p.begun.opens.files in record {
      opens = p.begun.opens;
      limits = p.begun.limits;
      first = record {
        within = k.within;
        orig = file-is old next n.first.orig files.orig LIMITS.file on kept.0 within.0 (omega arith) k.orig;
        answ = file-is old next n.first.answ files.answ LIMITS.file on kept.1.0 within.1.0 (omega arith) k.answ;
      };
      second = record {
        within = m.within;
        orig = file-is old next n.second.orig others.orig LIMITS.file on kept.1.1.0 within.1.1.0 (omega arith) m.orig;
        answ = file-is old next n.second.answ others.answ LIMITS.file on kept.1.1.1.0 within.1.1.1.0 (omega arith) m.answ;
      };
    }

-- the pair ended by itself
pub ran-to : (old mid now next : FolderState) (n : Names) (script : ScriptValue) (end : PairEnd) → Phases LIMITS old mid now next n script
    → PairEnded script next n.first n.second end → RanTo LIMITS old next n end
ran-to old mid now next n script end p e = record {
  script = script;
  ended = e;
  takes = takes old mid now next n script e.files e.others p e.first_known e.second_known;
}

-- each link made few turns
pub few-of : LineRunsEndSoon → (c : Wire) (files : Both (List ℕ)) (rounds : ℕ) (p : Progress) → IsInLimits c.script
    → (l : Lasts c (link_of c.script files) rounds p) → IsFew c files rounds p l
few-of soon c files rounds p h l = grind (arith)

abbrev Stopping : Type 1
Stopping = Wire → Link → FolderState → Written → ℕ → Progress → Type 0

-- or for the folder
stops-in : (S : Stopping) → LineRunsEndSoon → (old mid now next : FolderState) (n : Names) (script : ScriptValue)
    → Phases LIMITS old mid now next n script → PairStops S script next n.first n.second → StopsInRound S LIMITS old next n
stops-in S soon old mid now next n script p s = record {
  script = script;
  stops = s;
  takes = takes old mid now next n script s.files s.others p s.first_known s.second_known;
  first_few = few-of soon (first_wire script (turns_in s.q)) s.files _ s.p p.begun.limits s.at.first;
  second_few = few-of soon (second_wire script (turns_in s.p)) s.others _ s.q p.begun.limits s.at.second;
}

-- a fault ended the rounds
pub ends-in-round : LineRunsEndSoon → (old mid now next : FolderState) (n : Names) (script : ScriptValue) (fault : RunFault)
    → Phases LIMITS old mid now next n script → FaultCountsOver now next (files_of n) (outputs_of n) fault
    → FaultEnds script next n.first n.second fault → EndsBy LIMITS old next n (fault_stop fault)
ends-in-round soon old mid now next n script faults.ReadFault p counts e =
    inr (
      refl,
      SomeRose-earlier old.read_faults now.read_faults next.read_faults (files_of n)
          (λ name. p.stand.faults.reads name ∙ p.begun.stand.faults.reads name) counts,
      stops-in LinkStopsReading soon old mid now next n script p e,
    )
ends-in-round soon old mid now next n script faults.WriteFault p counts e = inr (stops-in LinkStops soon old mid now next n script p e)
ends-in-round soon old mid now next n script faults.NoMemory p counts e = inr (stops-in LinkStops soon old mid now next n script p e)
ends-in-round soon old mid now next n script (faults.LineLost role symbol) p counts e =
    inr (record { end = LineLost role symbol; result_is = refl; ran = ran-to old mid now next n script (LineLost role symbol) p e })
ends-in-round soon old mid now next n script (faults.ChanceMatch role turn) p counts e =
    inr (record { end = ChanceMatch role turn; result_is = refl; ran = ran-to old mid now next n script (ChanceMatch role turn) p e })
ends-in-round soon old mid now next n script fault p counts e = absurd e

-- what a fault counts
pub round-counts : (now next : FolderState) (n : Names) (fault : RunFault) → FaultCountsOver now next (files_of n) (outputs_of n) fault
    → StopCounts now next (inputs_of n) (outputs_of n) (fault_stop fault)
round-counts now next n fault r = grind (arith)

-- both links ended
pub ends-of : (l : Limits) (old new : FolderState) (n : Names) (end : PairEnd) → RanTo l old new n end → Ends l old new n (result_of end)
ends-of l old new n end e = grind (arith)

pub result-counts : (old new : FolderState) (inputs outputs : List (List ℕ)) (end : PairEnd) → CountsStand old new
    → EndCounts old new inputs outputs (result_of end)
result-counts old new inputs outputs end stand = grind (arith)
