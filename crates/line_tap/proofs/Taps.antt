-- From the phases of a tap to how it ends.
use Rattle.line_tap.proofs.Cited.{arith, ℕ, Result, ReadTo-kept, Stop, TapNames, inputs_of, outputs_of, recordings_of, IsBegun, IsRefused}
use Rattle.line_tap.proofs.Cited.{Ends, AreReadTo, no_octets, ScriptValue, IsInLimits, KeepsEach-reads, inputs-kept, FolderState, OnlyReads}
use Rattle.line_tap.proofs.Cited.{AreApartFrom, KeepsAll, OnlyOutputs, Limits, Call, Answer, Originator, Answerer}
use Rattle.outside_calls.specs.Outputs.{CreatesPart}
use Rattle.command_base.specs.Status.{IsRefusal}
use Rattle.command_base.specs.Stops.{EndCounts, end_status}
use Rattle.command_base.proofs.Creating.{CreatesPart-earlier}
use Rattle.line_tap.specs.declared.limits.TheConstants.{TAP_LIMIT, LIMITS}
use Rattle.line_tap.specs.Turns.{TurnsEnd}
use Rattle.line_tap.proofs.HeaderRead.{header-read}
use Rattle.line_tap.specs.Outcomes.{StopsCreating, EndsBy}

-- ---- what was read stays read as the outputs are made

pub headers-later : (start a b : FolderState) (n : TapNames) → AreApartFrom (inputs_of n) (outputs_of n) → OnlyOutputs a b (outputs_of n)
    → AreReadTo start a n no_octets → AreReadTo start b n no_octets
headers-later start a b n apart only h Originator =
    let k = inputs-kept a b (inputs_of n) (outputs_of n) apart.1 only.names in ReadTo-kept start a b n.rec_o TAP_LIMIT _ _ (h Originator)
    only.goes_on k.0
headers-later start a b n apart only h Answerer =
    let k = inputs-kept a b (inputs_of n) (outputs_of n) apart.1 only.names in ReadTo-kept start a b n.rec_a TAP_LIMIT _ _ (h Answerer)
    only.goes_on k.1.0

-- ---- how it ends

-- the inputs were not taken
pub ends-refused : (l : Limits) (old new : FolderState) (n : TapNames) (stop : Stop) → OnlyReads old new → IsRefused l old new n stop
    → EndsBy l old new n stop
ends-refused l old new n stop reads r = grind (arith)

-- an output was not created
pub ends-creating : (l : Limits) (old mid new : FolderState) (n : TapNames) (script : ScriptValue) → IsBegun l old mid n script
    → CreatesPart mid new (outputs_of n) → StopsCreating l old new n
ends-creating l old mid new n script b c = record {
  script = script;
  opens = b.opens;
  orig = header-read old mid n.rec_o Call (b.headers Originator);
  answ = header-read old mid n.rec_a Answer (b.headers Answerer);
  creates = CreatesPart-earlier old mid new (outputs_of n) b.reads.goes_on (KeepsEach-reads old mid (outputs_of n) b.reads) c;
}

-- turns came to their end
pub ends-turns : (l : Limits) (old mid next : FolderState) (n : TapNames) (script : ScriptValue) (result : Result ℕ Stop)
    → IsBegun l old mid n script
    → IsInLimits script → TurnsEnd script old next n result → EndCounts old next (recordings_of n) (outputs_of n) result
    → Ends l old next n result
ends-turns l old mid next n script result b limits e counts = grind (arith)

-- a fault of a recording is one of an input
pub end-widened : (old new : FolderState) (n : TapNames) (end : Result ℕ Stop) → EndCounts old new (recordings_of n) (outputs_of n) end
    → EndCounts old new (inputs_of n) (outputs_of n) end
end-widened old new n end counts = grind (arith)

-- ---- what is refused is refused before the outputs are created

pub refused-by : (old before : FolderState) (n : TapNames) (end : Result ℕ Stop) → Ends LIMITS old before n end → IsRefusal (end_status end)
    → KeepsAll old before
refused-by old before n end ends = grind (arith)
