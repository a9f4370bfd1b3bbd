-- What is refused is refused before the outputs are created.
use Rattle.link_pair.proofs.Names.{arith, ◌≡◌, ◌∙◌, Result, Err, sym, ap, Status, Stop, answer_of, result_of, EndsBy, Ends, PairEnd, Names}
use Rattle.link_pair.proofs.Names.{LastTurns, FolderState, KeepsAll, LIMITS}
use Rattle.command_base.specs.declared.stop.Stop.TheVariants as stops
use Rattle.command_base.specs.Status.{IsRefusal}
use Rattle.command_base.specs.Stops.{end_status}
use Rattle.command_base.proofs.Jobs.{refusal-own}

-- the answer of a pair that ended is that of its end
pub answer-is : (end : PairEnd) → end_status (result_of end) ≡ answer_of end
answer-is end = grind (arith)

-- and is no refusal
no-refusal : (end : PairEnd) → IsRefusal (answer_of end) → ⊥
no-refusal end r = grind (arith)

-- the answer by which a pair stopped is that of its end
pub own-answer : (answer : Status) (end : PairEnd) (result : Result LastTurns Stop) → result ≡ Err (stops.Own answer)
    → result ≡ result_of end → answer ≡ answer_of end
own-answer answer end result e f = sym (ap end_status e) ∙ ap end_status f ∙ answer-is end

own-refused : (old before : FolderState) (n : Names) (answer : Status) → IsRefusal answer → EndsBy LIMITS old before n (stops.Own answer)
    → KeepsAll old before
own-refused old before n answer r given = grind (arith, no-refusal, own-answer)

pub refused-by : (old before : FolderState) (n : Names) (end : Result LastTurns Stop) → Ends LIMITS old before n end
    → IsRefusal (end_status end) → KeepsAll old before
refused-by old before n end ends = grind (arith, refusal-own, own-refused)
