-- From how a command answers to what every command promises.
use Rattle.command_base.proofs.Names.{◌≡◌, ◌≢◌, ◌⊎◌, ◌≤◌, inl, inr, ℕ, List, [], ◌∷◌, Result, Ok, Err, refl, subst, arith, SaysStop}
use Rattle.command_base.proofs.Names.{IsRefusal, IsFolderFault, PassesNoneOver, IsOwn, ReadFails, WriteFails, SayFails, StopCounts}
use Rattle.command_base.proofs.Names.{fault_status, stop_status, Tells, Status, Stop, Own, Read, Write, Say, KeepsName-trans, Rose-later}
use Rattle.command_base.proofs.Names.{FolderState, GoesOn, Said, Rose, CountsStand, OnlyOutputs, FolderFault}
use Rattle.outside_calls.specs.declared.folder.FolderFault.TheVariants as folder
use Rattle.command_base.specs.declared.status.Status.TheVariants as status
use Rattle.command_base.specs.declared.stop.Stop.TheVariants.{NoMemory}
use Rattle.outside_calls.specs.Outputs.{KeepsAll, SomeRose}
use Rattle.command_base.specs.Inputs.{FailsToHold}
use Rattle.command_base.specs.Stops.{EndCounts, end_status}
use Rattle.command_base.specs.Job.{Job, SaysLast, Answers, Shared}
use Rattle.command_base.specs.Sound.{NoneRose, IsSound, DoneUnlessMemory}
use Rattle.outside_calls.proofs.OnlyOutputs.{OnlyOutputs-says}
use Rattle.outside_calls.proofs.Putting.{SomeRose-later}
use Rattle.command_base.proofs.Answering.{IsPlain, read-plain, usage-plain, tells-plain, tells-fault, tells-memory}
use Rattle.command_base.proofs.Answering.{tells-refusal, told-or-memory, stand-later}

-- ---- counts over several steps

pub read-earlier : (old mid new : FolderState) (inputs : List (List ℕ)) (fault : FolderFault) → CountsStand old mid
    → ReadFails mid new inputs fault → ReadFails old new inputs fault
read-earlier old mid new inputs fault stand fails = grind (arith)

pub write-earlier : (old mid new : FolderState) (outputs : List (List ℕ)) (fault : FolderFault) → CountsStand old mid
    → WriteFails mid new outputs fault → WriteFails old new outputs fault
write-earlier old mid new outputs fault stand fails = grind (arith)

say-earlier : (old mid new : FolderState) (fault : FolderFault) → CountsStand old mid → SayFails mid new fault → SayFails old new fault
say-earlier old mid new fault stand fails = grind (arith)

-- steps that counted nothing come before the one that stops the job
pub stop-earlier : (old mid new : FolderState) (inputs outputs : List (List ℕ)) (stop : Stop) → CountsStand old mid
    → StopCounts mid new inputs outputs stop → StopCounts old new inputs outputs stop
stop-earlier old mid new inputs outputs stop stand counts = grind (arith, read-earlier, write-earlier, say-earlier)

-- or before the octets of a file are not held
pub hold-earlier : (old mid new : FolderState) (name : List ℕ) (stop : Stop) → CountsStand old mid → FailsToHold mid new name stop
    → FailsToHold old new name stop
hold-earlier old mid new name stop stand never = grind (arith, read-earlier)

-- or before all that is left of it
pub end-earlier : {D : Type 0} (old mid new : FolderState) (inputs outputs : List (List ℕ)) (end : Result D Stop) → CountsStand old mid
    → EndCounts mid new inputs outputs end → EndCounts old new inputs outputs end
end-earlier old mid new inputs outputs end stand counts = grind (arith, stop-earlier)

-- ---- from a job and its line to the answer

-- of a job that is done
pub answers-done : {D : Type 0} (j : Job D) (words : List (List ℕ)) (old before new : FolderState) (done : D) (line : List ℕ) (s : Status)
    → j.Ends old before (Ok done) → OnlyOutputs old before j.outputs → CountsStand old before
    → line ≡ j.line_of done → Tells before new line status.Done s → Answers j words old new s
answers-done j words old before new done line s ends only counts is tells = record {
  end = Ok done;
  before = before;
  ends = ends;
  only = only;
  refused = λ never. absurd never;
  counts = counts;
  says = subst (λ (l : List ℕ). Tells before new l status.Done s) is tells;
}

-- and of one that stopped
pub answers-stopped : {D : Type 0} (j : Job D) (words : List (List ℕ)) (old before new : FolderState) (stop : Stop) (s : Status)
    → j.Ends old before (Err stop) → OnlyOutputs old before j.outputs → (IsRefusal (stop_status stop) → KeepsAll old before)
    → StopCounts old before j.inputs j.outputs stop → SaysStop words before new stop s → Answers j words old new s
answers-stopped j words old before new stop s ends only refused counts says = record {
  end = Err stop;
  before = before;
  ends = ends;
  only = only;
  refused = refused;
  counts = counts;
  says = says;
}

-- ---- what is said last

says-only : (before new : FolderState) (line : List ℕ) (answer s : Status) → Tells before new line answer s → OnlyOutputs before new []
says-only before new line answer s t = OnlyOutputs-says [] t.only

-- it changes no name
pub last-only : {D : Type 0} (line_of : D → List ℕ) (words : List (List ℕ)) (before new : FolderState) (end : Result D Stop) (s : Status)
    → SaysLast line_of words before new end s → OnlyOutputs before new []
last-only line_of words before new end s t = grind (arith, says-only)

-- an answer that no fault in saying gives is that of the job's end
pub last-plain : {D : Type 0} (line_of : D → List ℕ) (words : List (List ℕ)) (before new : FolderState) (end : Result D Stop) (s t : Status)
    → SaysLast line_of words before new end s → s ≡ t → IsPlain t → end_status end ≡ t
last-plain line_of words before new end s t l e p = grind (arith, tells-plain)

-- a write fault is the job's, or comes of saying
last-fault : {D : Type 0} (line_of : D → List ℕ) (words : List (List ℕ)) (before new : FolderState) (end : Result D Stop) (s : Status)
    → SaysLast line_of words before new end s → s ≡ status.WriteFault →
    (end_status end ≡ status.WriteFault) ⊎ Rose before.say_faults new.say_faults
last-fault line_of words before new end s l e = grind (arith, tells-fault)

last-refusal : {D : Type 0} (line_of : D → List ℕ) (words : List (List ℕ)) (before new : FolderState) (end : Result D Stop) (s : Status)
    → SaysLast line_of words before new end s → IsRefusal s → IsRefusal (end_status end)
last-refusal line_of words before new end s l r = grind (arith, tells-refusal)

-- where saying doesn't fail the answer is that of the job's end, or there was no memory
last-or-memory : {D : Type 0} (line_of : D → List ℕ) (words : List (List ℕ)) (old before new : FolderState) (end : Result D Stop)
    (s : Status) → GoesOn old before → (Rose old.say_faults new.say_faults → ⊥) →
    SaysLast line_of words before new end s → (s ≡ end_status end) ⊎ (s ≡ status.NoMemory)
last-or-memory line_of words old before new end s on still l = grind (arith, told-or-memory)

-- ---- what the counts say of an answer

fault-fault : (failed : Status) (fault : FolderFault) → IsFolderFault failed → IsFolderFault (fault_status failed fault)
fault-fault failed fault f = grind (arith)

end-stand : {D : Type 0} (old new : FolderState) (inputs outputs : List (List ℕ)) (end : Result D Stop)
    → EndCounts old new inputs outputs end → PassesNoneOver old new (end_status end)
end-stand old new inputs outputs end counts = grind (arith, fault-fault)

last-stand : {D : Type 0} (line_of : D → List ℕ) (words : List (List ℕ)) (old before new : FolderState) (end : Result D Stop) (s : Status)
    → PassesNoneOver old before (end_status end) → SaysLast line_of words before new end s → PassesNoneOver old new s
last-stand line_of words old before new (Ok done) s first l = stand-later old before new _ _ s first l
last-stand line_of words old before new (Err (Own answer)) s first l = stand-later old before new _ _ s first l
last-stand line_of words old before new (Err (Read fault)) s first l = stand-later old before new _ _ s first l
last-stand line_of words old before new (Err (Write fault)) s first l = stand-later old before new _ _ s first l
last-stand line_of words old before new (Err (Say fault)) s first l = grind (arith, fault-fault)
last-stand line_of words old before new (Err NoMemory) s first l = stand-later old before new _ _ s first l

own-read : (answer : Status) → IsOwn answer → answer ≡ status.ReadFault → ⊥
own-read answer own e = subst IsOwn e own

own-write : (answer : Status) → IsOwn answer → answer ≡ status.WriteFault → ⊥
own-write answer own e = subst IsOwn e own

own-usage : (answer : Status) → IsOwn answer → answer ≡ status.Usage → ⊥
own-usage answer own e = subst IsOwn e own

-- a read fault is one of the inputs'
end-read : {D : Type 0} (old new : FolderState) (inputs outputs : List (List ℕ)) (end : Result D Stop)
    → EndCounts old new inputs outputs end → end_status end ≡ status.ReadFault → SomeRose old.read_faults new.read_faults inputs
end-read old new inputs outputs end counts e = grind (arith, own-read)

-- a write fault is one of the outputs', or comes of saying
end-write : {D : Type 0} (old new : FolderState) (inputs outputs : List (List ℕ)) (end : Result D Stop)
    → EndCounts old new inputs outputs end → end_status end ≡ status.WriteFault →
    SomeRose old.write_faults new.write_faults outputs ⊎ Rose old.say_faults new.say_faults
end-write old new inputs outputs end counts e = grind (arith, own-write)

-- a job doesn't tell how the program is used
end-usage : {D : Type 0} (old new : FolderState) (inputs outputs : List (List ℕ)) (end : Result D Stop)
    → EndCounts old new inputs outputs end → end_status end ≢ status.Usage
end-usage old new inputs outputs end counts e = grind (arith, own-usage)

fault-refusal : (failed : Status) (fault : FolderFault) → (IsRefusal failed → ⊥) → IsRefusal (fault_status failed fault) → ⊥
fault-refusal failed fault never r = grind (arith)

-- an answer that is a refusal is the command's own
pub refusal-own : {D : Type 0} (end : Result D Stop) (P : Type 0) → ((answer : Status) → end ≡ Err (Own answer) → IsRefusal answer → P)
    → IsRefusal (end_status end) → P
refusal-own end P by r = grind (arith, fault-refusal)

-- Where the answer is Done the job is, and its line was said.
pub record IsDone {D : Type 0} (j : Job D) (old before new : FolderState) : Type 0 where
  pub done : D
  pub ends : j.Ends old before (Ok done)
  pub said : Said before new (j.line_of done)

done-by : {D : Type 0} (j : Job D) (words : List (List ℕ)) (old before new : FolderState) (end : Result D Stop) (s : Status)
    → j.Ends old before end → EndCounts old before j.inputs j.outputs end →
    SaysLast j.line_of words before new end s → s ≡ status.Done → IsDone j old before new
done-by j words old before new end s ends counts l e = grind (arith)

pub done-of : {D : Type 0} (j : Job D) (words : List (List ℕ)) (old new : FolderState) (s : Status) (a : Answers j words old new s)
    → s ≡ status.Done → IsDone j old a.before new
done-of j words old new s a e = done-by j words old a.before new a.end s a.ends a.counts a.says e

-- want of memory is the folder's, or the job's own
last-memory : {D : Type 0} (line_of : D → List ℕ) (words : List (List ℕ)) (before new : FolderState) (end : Result D Stop) (s : Status)
    → SaysLast line_of words before new end s → s ≡ status.NoMemory → (end_status end ≡ status.NoMemory) ⊎ Rose before.refusals new.refusals
last-memory line_of words before new end s l e = grind (arith, tells-memory)

own-memory : (answer : Status) → IsOwn answer → answer ≡ status.NoMemory → ⊥
own-memory answer own e = subst IsOwn e own

end-memory : {D : Type 0} (old new : FolderState) (inputs outputs : List (List ℕ)) (end : Result D Stop)
    → EndCounts old new inputs outputs end → end_status end ≡ status.NoMemory → (end ≡ Err NoMemory) ⊎ Rose old.refusals new.refusals
end-memory old new inputs outputs end counts e = grind (arith, own-memory)

memory-of : {D : Type 0} (j : Job D) (words : List (List ℕ)) (old new : FolderState) (s : Status) (a : Answers j words old new s)
    → (j.Ends old a.before (Err NoMemory) → KeepsAll old a.before) → s ≡ status.NoMemory → Rose old.refusals new.refusals ⊎ KeepsAll old new
memory-of j words old new s a keeps e = grind (arith, last-memory, end-memory, last-only)

-- From how a command answers to what every command promises, where it stops for want of memory of its own before any name has changed.
pub shared-of : {D : Type 0} (j : Job D) (words : List (List ℕ)) (old new : FolderState) (s : Status) (a : Answers j words old new s)
    → (j.Ends old a.before (Err NoMemory) → KeepsAll old a.before) → Shared j.inputs j.outputs old new s
shared-of j words old new s a keeps = record {
  names = λ other apart. KeepsName-trans old a.before new other a.only.goes_on (a.only.names other apart) (last.names other tt);
  refused = λ r name. KeepsName-trans old a.before new name a.only.goes_on
      (a.refused (last-refusal j.line_of words a.before new a.end s a.says r) name) (last.names name tt);
  read = λ e. SomeRose-later _ _ _ j.inputs last.goes_on.reads (end-read old a.before j.inputs j.outputs a.end a.counts
      (last-plain j.line_of words a.before new a.end s status.ReadFault a.says e read-plain));
  write = λ e. elim (last-fault j.line_of words a.before new a.end s a.says e) [
    | inl own ↦ elim (end-write old a.before j.inputs j.outputs a.end a.counts own) [
      | inl rose ↦ inl (SomeRose-later _ _ _ j.outputs last.goes_on.writes rose)
      | inr rose ↦ inr (Rose-later _ _ a.before.say_faults new.say_faults (omega arith) rose last.goes_on.says)
    ]
    | inr rose ↦ inr (Rose-later old.say_faults a.before.say_faults new.say_faults new.say_faults a.only.goes_on.says rose (omega arith))
  ];
  memory = memory-of j words old new s a keeps;
  known = λ e. end-usage old a.before j.inputs j.outputs a.end a.counts
      (last-plain j.line_of words a.before new a.end s status.Usage a.says e usage-plain);
  stand = last-stand j.line_of words old a.before new a.end s (end-stand old a.before j.inputs j.outputs a.end a.counts) a.says;
}
  where
    last : OnlyOutputs a.before new []
    last = last-only j.line_of words a.before new a.end s a.says

-- ---- when a command is done

NoneRose-some : (before mid now : List ℕ → ℕ) (names : List (List ℕ)) → NoneRose before now names → ((name : List ℕ) → mid name ≤ now name)
    → SomeRose before mid names → ⊥
NoneRose-some before mid now [] none on rose = rose
NoneRose-some before mid now (name ∷ names) none on (inl rose) = none.0 (Rose-later _ _ (mid name) (now name) (omega arith) rose (on name))
NoneRose-some before mid now (name ∷ names) none on (inr rose) = NoneRose-some before mid now names none.1 on rose

-- Where the folder is sound and the command has no answer of its own to these inputs, it is done, or there was no memory.
pub done-unless-memory : {D : Type 0} (j : Job D) (words : List (List ℕ)) (old new : FolderState) (s : Status)
    (a : Answers j words old new s) → IsSound old new j.inputs j.outputs →
    ((answer : Status) → j.Ends old a.before (Err (Own answer)) → ⊥) → DoneUnlessMemory s
done-unless-memory {D} j words old new s a sound never =
    elim (last-or-memory j.line_of words old a.before new a.end s a.only.goes_on sound.says a.says) [
      | inl e ↦ by a.end a.ends a.counts e
      | inr memory ↦ inr memory
    ]
  where
    on : GoesOn a.before new
    on = (last-only j.line_of words a.before new a.end s a.says).goes_on

    by : (end : Result D Stop) → j.Ends old a.before end → EndCounts old a.before j.inputs j.outputs end → s ≡ end_status end
        → DoneUnlessMemory s
    by (Ok done) ends counts e = inl e
    by (Err (Own answer)) ends counts e = absurd (never answer ends)
    by (Err (Read folder.Failed)) ends counts e = absurd (NoneRose-some _ _ _ j.inputs sound.reads on.reads counts)
    by (Err (Read folder.NoMemory)) ends counts e = inr e
    by (Err (Write folder.Failed)) ends counts e = absurd (NoneRose-some _ _ _ j.outputs sound.writes on.writes counts)
    by (Err (Write folder.NoMemory)) ends counts e = inr e
    by (Err (Say folder.Failed)) ends counts e = grind (arith, on)
    by (Err (Say folder.NoMemory)) ends counts e = inr e
    by (Err NoMemory) ends counts e = inr e

-- What a job comes to where the folder is sound: it is done, it has an answer of its own, or there was no memory.
pub data Comes {D : Type 0} (end : Result D Stop) (s : Status) : Type 0 where
  is_done : (done : D) → end ≡ Ok done → s ≡ status.Done → Comes end s
  is_own : (answer : Status) → end ≡ Err (Own answer) → s ≡ answer → Comes end s
  is_memory : s ≡ status.NoMemory → Comes end s

pub comes-to : {D : Type 0} (j : Job D) (words : List (List ℕ)) (old new : FolderState) (s : Status) (a : Answers j words old new s)
    → IsSound old new j.inputs j.outputs → Comes a.end s
comes-to {D} j words old new s a sound = elim (last-or-memory j.line_of words old a.before new a.end s a.only.goes_on sound.says a.says) [
  | inl e ↦ by a.end a.counts e
  | inr memory ↦ is_memory memory
]
  where
    on : GoesOn a.before new
    on = (last-only j.line_of words a.before new a.end s a.says).goes_on

    by : (end : Result D Stop) → EndCounts old a.before j.inputs j.outputs end → s ≡ end_status end → Comes end s
    by (Ok done) counts e = is_done done refl e
    by (Err (Own answer)) counts e = is_own answer refl e
    by (Err (Read folder.Failed)) counts e = absurd (NoneRose-some _ _ _ j.inputs sound.reads on.reads counts)
    by (Err (Read folder.NoMemory)) counts e = is_memory e
    by (Err (Write folder.Failed)) counts e = absurd (NoneRose-some _ _ _ j.outputs sound.writes on.writes counts)
    by (Err (Write folder.NoMemory)) counts e = is_memory e
    by (Err (Say folder.Failed)) counts e = grind (arith, on)
    by (Err (Say folder.NoMemory)) counts e = is_memory e
    by (Err NoMemory) counts e = is_memory e
