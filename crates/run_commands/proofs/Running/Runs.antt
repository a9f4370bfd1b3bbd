-- From the phases of a run to how it ends.
use Rattle.run_commands.proofs.Names.{inr, ℕ, List, [], ◌∷◌, refl, ◌∙◌, arith, CreatesPart-earlier, StopCounts, Stop, RunEnd, wire_of}
use Rattle.run_commands.proofs.Names.{RunFault, FaultCountsOver, RunEnds, FaultEnds, KnowsFiles, ScriptValue, KeepsEach-reads, inputs-kept}
use Rattle.run_commands.proofs.Names.{GoesOn-trans, FolderState, GoesOn, OnlyReads, CountsStand, AreNoneOf, OnlyOutputs, Creates}
use Rattle.run_commands.proofs.Names.{CreatesPart, AreApart, KeepsEach, AreApartFrom, OnlyPuts, IsBegun, Takes, RanTo, StopsInTurn}
use Rattle.run_commands.proofs.Names.{StopsHeading, EndsBy, HeadsPartly, RunNames, files_of, texts_of, LIMITS, Both}
use Rattle.line_run.specs.Scripts.{LineRunsEndSoon}
use Rattle.line_run.specs.declared.fault.RunFault.TheVariants as faults
use Rattle.outside_calls.proofs.Putting.{SomeRose-earlier, none-fronts}
use Rattle.run_inputs.specs.declared.limits.Limits.{Limits}
use Rattle.run_inputs.specs.Words.{inputs_of, outputs_of}
use Rattle.run_inputs.specs.Inputs.{Refuses}
use Rattle.line_world.specs.Turns.{RunStops, RunStopsReading}
use Rattle.run_commands.specs.Running.Ends.{StopsInReading, StopsCreating}
use Rattle.run_inputs.specs.Answers.{fault_stop}
use Rattle.run_inputs.proofs.Files.{file-is}

-- the inputs were not taken
pub ends-refused : (l : Limits) (old new : FolderState) (n : RunNames) (stop : Stop) → OnlyReads old new
    → Refuses l old new n.script 3 (files_of n) 1 stop
    → EndsBy l old new n stop
ends-refused l old new n stop reads r = grind (arith)

-- an output was not created
pub ends-creating : (l : Limits) (old mid new : FolderState) (n : RunNames) (script : ScriptValue) → IsBegun l old mid n script
    → CreatesPart mid new (outputs_of n) → StopsCreating l old new n
ends-creating l old mid new n script b c = record {
  script = script;
  opens = b.opens;
  creates = CreatesPart-earlier old mid new (outputs_of n) b.reads.goes_on (KeepsEach-reads old mid (outputs_of n) b.reads) c;
}

-- a header was not written
pub ends-heading : (l : Limits) (old mid new : FolderState) (n : RunNames) (script : ScriptValue) → IsBegun l old mid n script
    → Creates new (texts_of n) → HeadsPartly new n.tapes → StopsHeading l old new n
ends-heading l old mid new n script b c h = record { script = script; opens = b.opens; creates = c; heads = h }

-- names that the words keep apart
pub apart-names : (n : RunNames) → AreApart (outputs_of n) → AreNoneOf (outputs_of n) (inputs_of n)
    → AreApartFrom (files_of n) (outputs_of n)
apart-names n d i = (d, none-fronts (outputs_of n) (files_of n) (n.script ∷ []) i)

-- the phases of a run, once its inputs were opened
pub record Phases (l : Limits) (old mid now next : FolderState) (n : RunNames) (script : ScriptValue) : Type 0 where
  pub begun : IsBegun l old mid n script
  pub creates : OnlyOutputs mid now (outputs_of n)
  pub turns : OnlyPuts now next (outputs_of n)
  pub apart : AreNoneOf (outputs_of n) (files_of n)
  pub stand : CountsStand mid now

takes : (old mid now next : FolderState) (n : RunNames) (script : ScriptValue) (files : Both (List ℕ))
    → Phases LIMITS old mid now next n script → KnowsFiles next n.names files → Takes LIMITS old n script files
takes old mid now next n script files p k =
    assumption (
      file-is old next n.names.orig files.orig LIMITS.file on kept.0 p.begun.opens.files.0 (omega arith) k.orig,
      file-is old next n.names.answ files.answ LIMITS.file on kept.1.0 p.begun.opens.files.1.0 (omega arith) k.answ,
    )
  where
    on : GoesOn old next
    on = GoesOn-trans p.begun.reads.goes_on (GoesOn-trans p.creates.goes_on p.turns.goes_on)

    kept : KeepsEach old next (files_of n)
    kept = grind (arith, inputs-kept)

-- the run ended by itself
pub ran-to : (old mid now next : FolderState) (n : RunNames) (script : ScriptValue) (end : RunEnd) → Phases LIMITS old mid now next n script
    → RunEnds script next n.names n.tapes end → RanTo LIMITS old next n end
ran-to old mid now next n script end p r =
    record {
      script = script;
      files = r.files;
      takes = takes old mid now next n script r.files p r.knows;
      left = r.left;
      run = r.run;
      holds = r.holds;
      taped = r.taped;
    }

-- or for the folder
stops-in : LineRunsEndSoon → (old mid now next : FolderState) (n : RunNames) (script : ScriptValue)
    → Phases LIMITS old mid now next n script
    → RunStops script next n.names n.tapes → StopsInTurn LIMITS old next n
stops-in soon old mid now next n script p r =
    record {
      script = script;
      files = r.files;
      takes = takes old mid now next n script r.files p r.knows;
      stops = r.stops;
      taped = r.taped;
      few = soon (wire_of script) r.files r.stops.turns r.stops.ends p.begun.limits r.stops.run;
    }

stops-in-reading : LineRunsEndSoon → (old mid now next : FolderState) (n : RunNames) (script : ScriptValue)
    → Phases LIMITS old mid now next n script
    → RunStopsReading script next n.names n.tapes → StopsInReading LIMITS old next n
unfolding stops-in
stops-in-reading soon old mid now next n script p r = (stops-in soon old mid now next n script p r.0, r.1)

-- a turn's fault ended the run
pub ends-in-turn : LineRunsEndSoon → (old mid now next : FolderState) (n : RunNames) (script : ScriptValue) (fault : RunFault)
    → Phases LIMITS old mid now next n script → FaultCountsOver now next (files_of n) (outputs_of n) fault
    → FaultEnds script next n.names n.tapes fault
    → EndsBy LIMITS old next n (fault_stop fault)
ends-in-turn soon old mid now next n script faults.ReadFault p counts e =
    inr (
      refl,
      SomeRose-earlier old.read_faults now.read_faults next.read_faults (files_of n)
          (λ name. p.stand.faults.reads name ∙ p.begun.stand.faults.reads name) counts,
      stops-in-reading soon old mid now next n script p e,
    )
ends-in-turn soon old mid now next n script faults.WriteFault p counts e = inr (inr (stops-in soon old mid now next n script p e))
ends-in-turn soon old mid now next n script faults.NoMemory p counts e = inr (inr (stops-in soon old mid now next n script p e))
ends-in-turn soon old mid now next n script fault p counts e = inr (ran-to old mid now next n script _ p e)

-- what a turn's fault counts
pub turn-counts : (now next : FolderState) (n : RunNames) (fault : RunFault) → FaultCountsOver now next (files_of n) (outputs_of n) fault
    → StopCounts now next (inputs_of n) (outputs_of n) (fault_stop fault)
turn-counts now next n fault rose = grind (arith)
