-- A pair before its first round, and from round to round.
use Rattle.link_pair.proofs.Names.{◌≡◌, ℕ, ◌+◌, ◌-◌, ◌^◌, ◌<◌, List, [], sym, arith, refl, Result, Written, link_of, RunFault, CountsOver}
use Rattle.link_pair.proofs.Names.{FaultCountsOver, all_outputs, Awaits, FaultEnds, FaultEndsIn, First, Goes, Pair, start, ScriptValue}
use Rattle.link_pair.proofs.Names.{FolderState, CountsStand}
use Rattle.outside_calls.specs.Outputs.{Creates}
use Rattle.line_world.proofs.Reached.{files_at, knows-told}
use Rattle.line_run.specs.declared.fault.RunFault.TheVariants as faults
use Rattle.link_pair.specs.Pair.{IsFirst}

pub begins : (x : Pair) (f : FolderState) (n m : Written) → IsFirst x → Creates f (all_outputs n m) → Awaits x f n m First
begins x f n m is created =
    let files = files_at f n in
    let others = files_at f m in record {
      limits = is.limits;
      first_dlci_is = is.first_dlci_is;
      second_dlci_is = is.second_dlci_is;
      first_wire_is = is.first.channel;
      second_wire_is = is.second.channel;
      files = files;
      others = others;
      p = Goes [] (start (link_of x.script files));
      q = Goes [] (start (link_of x.script others));
      at = record {
        first = record { run = record { run = refl; heard = tt }; count = sym is.round };
        second = record { run = record { run = refl; heard = tt }; count = sym is.round };
      };
      going = refl;
      first = is.first.stands files;
      second = is.second.stands others;
      lines = is.lines;
      first_known = knows-told f n;
      second_known = knows-told f m;
      first_holds = (created.0, (created.1.0, (created.1.1.1.1.0, tt)));
      second_holds = (created.1.1.0, (created.1.1.1.0, (created.1.1.1.1.1.0, tt)));
    }

-- a round more is nearer to the bound
pub nearer : (round next : ℕ) → round < 2 ^ 39 → next ≡ round + 1 → 2 ^ 39 - next < 2 ^ 39 - round
nearer round next h e = omega (arith, h, e)

-- why it ended, whatever the round
pub fault-ends : (script : ScriptValue) (f : FolderState) (n m : Written) (round : ℕ) (fault : RunFault)
    → FaultEndsIn script f n m round fault → FaultEnds script f n m fault
fault-ends script f n m round fault e = grind (arith)

-- a fault behind rounds that counted nothing
pub counts-later : (a b c : FolderState) (inputs outputs : List (List ℕ)) (fault : RunFault) → CountsStand a b
    → FaultCountsOver b c inputs outputs fault → FaultCountsOver a c inputs outputs fault
counts-later a b c inputs outputs fault s h = grind (arith)

pub counts-behind : {T : Type 0} (a b c : FolderState) (inputs outputs : List (List ℕ)) (result : Result T RunFault) → CountsStand a b
    → CountsOver b c inputs outputs result → CountsOver a c inputs outputs result
counts-behind a b c inputs outputs result s h = grind (arith, counts-later)
