-- However a run ends, each received file is as it was, or holds the beginning of the other end's file.
use Rattle.run_commands.proofs.Names.{◌≡◌, ◌⊎◌, inl, inr, ℕ, List, [], ◌++◌, Some, Result, Ok, Err, refl, sym, ◌∙◌, ap, subst, append-nil}
use Rattle.run_commands.proofs.Names.{concat-append, concat, Status, Stop, RunLaws, may-run, RunEnd, Left, wire_of, link_of, held_of}
use Rattle.run_commands.proofs.Names.{deliveries, ScriptValue, IsInLimits, delay_of, FolderState, GoesOn, Holds, KeepsAll, CreatesPart}
use Rattle.run_commands.proofs.Names.{HoldPart, RanTo, StopsInTurn, StopsHeading, RanBy, EndsBy, stopped-by, RunNames, texts_of, LIMITS}
use Rattle.run_commands.proofs.Names.{Both, of, other, Role, Originator, Answerer}
use Rattle.shared_terms.specs.Prefix.{IsPrefixOf}
use Rattle.link_run.specs.Run.{Link}
use Rattle.link_run.specs.Laws.{RunsOver, HoldPrefixes}
use Rattle.command_base.specs.declared.stop.Stop.TheVariants as stops
use Rattle.outside_calls.specs.Outputs.{HoldsPart}
use Rattle.run_inputs.specs.Words.{outputs_of}
use Rattle.line_world.specs.Turns.{AddsTurn, AddsChance, StopsAfter}
use Rattle.run_inputs.specs.Files.{KeptOrPrefix}
use Rattle.run_inputs.proofs.Files.{prefix-of, part-of, empty-of}
use Rattle.line_ends.proofs.RunLaws.{runs-over}
use Rattle.run_commands.specs.Running.Ends.{Ends as EndsSo}
use Rattle.link_run.proofs.Only.{hearing-of}

-- both received files
pub record BothPrefix (old before : FolderState) (n : RunNames) : Type 0 where
  pub got_o : KeptOrPrefix old before n.names.got_o n.names.answ
  pub got_a : KeptOrPrefix old before n.names.got_a n.names.orig

-- the run ended by itself
both-ran : RunLaws → (old before : FolderState) (n : RunNames) (end : RunEnd) → GoesOn old before → RanTo LIMITS old before n end
    → BothPrefix old before n
both-ran laws old before n end g e =
    let c = wire_of e.script in
    let link = link_of e.script e.files in
    let may = may-run laws (wire_of e.script) e.files e.takes.limits in record {
      got_o = prefix-of old before n.names.got_o n.names.answ e.files.answ e.left.got.orig g e.takes.answ e.holds.0
          (laws.prefixes c link end e.left may e.run Originator);
      got_a = prefix-of old before n.names.got_a n.names.orig e.files.orig e.left.got.answ g e.takes.orig e.holds.1.0
          (laws.prefixes c link end e.left may e.run Answerer);
    }

-- each received file holds what is left, and a part of what comes behind it
part-none : (f : FolderState) (name octets piece : List ℕ) → Holds f name octets → HoldsPart f name octets piece
part-none f name octets piece holds told = ([], (piece, refl), holds told ∙ ap Some (sym (append-nil octets)))

part-all : (f : FolderState) (name octets piece : List ℕ) → Holds f name (octets ++ piece) → HoldsPart f name octets piece
part-all f name octets piece holds told = (piece, ([], append-nil piece), holds told)

part-o : (f : FolderState) (n : RunNames) (left more : Left) → HoldPart f (texts_of n) (held_of left) (held_of more)
    → HoldsPart f n.names.got_o left.got.orig more.got.orig
part-o f n left more (inl h) = h.0
part-o f n left more (inr h) = part-all f n.names.got_o left.got.orig more.got.orig h.0

part-a : (f : FolderState) (n : RunNames) (left more : Left) → HoldPart f (texts_of n) (held_of left) (held_of more)
    → HoldsPart f n.names.got_a left.got.answ more.got.answ
part-a f n left more (inl h) = part-none f n.names.got_a left.got.answ more.got.answ h.1.0
part-a f n left more (inr (o, inl h)) = h.0
part-a f n left more (inr (o, inr h)) = part-all f n.names.got_a left.got.answ more.got.answ h.0

-- what is left of some turns, and what the next one adds
stopped-prefix : RunLaws → (script : ScriptValue) (files : Both (List ℕ)) (f : FolderState) (n : RunNames) → IsInLimits script
    → (s : StopsAfter (wire_of script) (link_of script files) f n.names) → (role : Role)
    → IsPrefixOf (of role s.left.got ++ of role s.more.got) (of (other role) (link_of script files)).user.file
stopped-prefix laws script files f n limits s role = by s.adds
  where
    link : Link
    link = link_of script files

    over : RunsOver link (delay_of script) s.turns s.ends
    over = runs-over laws (wire_of script) files s.turns s.ends limits s.run

    by : AddsTurn (wire_of script) link s.turns s.ends s.more ⊎ AddsChance (wire_of script) s.turns s.ends s.more
        → IsPrefixOf (of role s.left.got ++ of role s.more.got) (of (other role) link).user.file
    by (inl a) =
        let hears = hearing-of link s.turns s.ends a.turn a.mid a.outcome a.is in
        let whole : HoldPrefixes link a.mid =
        laws.hears link (delay_of script) s.turns s.ends a.turn a.mid over
        (laws.one (wire_of script) s.turns a.turn a.heard) hears in
        let all : of role s.left.got ++ of role s.more.got ≡ concat (of role a.mid).incoming.taken =
        ap (λ x. x ++ of role s.more.got) (s.leaves.got_is role) ∙ ap (λ x. concat (of role s.ends).incoming.taken ++ x) (a.got_is role)
        ∙ sym (concat-append (of role s.ends).incoming.taken (deliveries (of role a.mid)))
        ∙ ap concat (sym (laws.delivers link s.turns s.ends a.turn a.mid s.run.run hears role)) in
        subst (λ x. IsPrefixOf x (of (other role) link).user.file) (sym all) (whole role)
    by (inr a) =
        let whole : HoldPrefixes link s.ends = laws.takes link (delay_of script) s.turns s.ends over in
        let all : of role s.left.got ++ of role s.more.got ≡ concat (of role s.ends).incoming.taken =
        ap (λ x. of role s.left.got ++ x) (a.got_is role) ∙ append-nil (of role s.left.got) ∙ s.leaves.got_is role in
        subst (λ x. IsPrefixOf x (of (other role) link).user.file) (sym all) (whole role)

both-stopped : RunLaws → (old before : FolderState) (n : RunNames) → GoesOn old before → StopsInTurn LIMITS old before n
    → BothPrefix old before n
both-stopped laws old before n g e =
    let s = e.stops in record {
      got_o = part-of old before n.names.got_o n.names.answ e.files.answ s.left.got.orig s.more.got.orig g e.takes.answ
          (part-o before n s.left s.more s.holds)
          (stopped-prefix laws e.script e.files before n e.takes.limits s Originator);
      got_a = part-of old before n.names.got_a n.names.orig e.files.orig s.left.got.answ s.more.got.answ g e.takes.orig
          (part-a before n s.left s.more s.holds)
          (stopped-prefix laws e.script e.files before n e.takes.limits s Answerer);
    }

both-creating : (old before : FolderState) (n : RunNames) → GoesOn old before → CreatesPart old before (outputs_of n)
    → BothPrefix old before n
both-creating old before n g (inl (o, (a, rest))) = record { got_o = empty-of old before n.names.got_o n.names.answ g o; got_a = inl a }
both-creating old before n g (inr (o, inl (a, rest))) =
    record { got_o = empty-of old before n.names.got_o n.names.answ g (inr o); got_a = empty-of old before n.names.got_a n.names.orig g a }
both-creating old before n g (inr (o, inr (a, rest))) =
    record {
      got_o = empty-of old before n.names.got_o n.names.answ g (inr o);
      got_a = empty-of old before n.names.got_a n.names.orig g (inr a);
    }

both-heading : (old before : FolderState) (n : RunNames) → GoesOn old before → StopsHeading LIMITS old before n → BothPrefix old before n
both-heading old before n g h = record {
  got_o = empty-of old before n.names.got_o n.names.answ g (inr h.creates.0);
  got_a = empty-of old before n.names.got_a n.names.orig g (inr h.creates.1.0);
}

both-kept : (old before : FolderState) (n : RunNames) → KeepsAll old before → BothPrefix old before n
both-kept old before n kept = record { got_o = inl (kept n.names.got_o); got_a = inl (kept n.names.got_a) }

both-own : RunLaws → (old before : FolderState) (n : RunNames) (answer : Status) → GoesOn old before → RanBy LIMITS old before n answer
    → BothPrefix old before n
both-own laws old before n answer g e =
    let by = stopped-by (RanTo LIMITS old before n) answer e in
    both-ran laws old before n by.0 g by.2

both-by : RunLaws → (old before : FolderState) (n : RunNames) (stop : Stop) → GoesOn old before → EndsBy LIMITS old before n stop
    → BothPrefix old before n
both-by laws old before n (stops.Own answer) g (inl refused) = both-kept old before n refused.0
both-by laws old before n (stops.Own answer) g (inr e) = both-own laws old before n answer g e
both-by laws old before n (stops.Read fault) g (inl refused) = both-kept old before n refused.0
both-by laws old before n (stops.Read fault) g (inr (failed, rose, s)) = both-stopped laws old before n g s.0
both-by laws old before n stops.NoMemory g e = both-kept old before n e.0
both-by laws old before n (stops.Write fault) g (inl c) = both-creating old before n g c.creates
both-by laws old before n (stops.Write fault) g (inr (inl h)) = both-heading old before n g h
both-by laws old before n (stops.Write fault) g (inr (inr e)) = both-stopped laws old before n g e
both-by laws old before n (stops.Say fault) g never = absurd never

pub both-of : RunLaws → (old before : FolderState) (n : RunNames) (end : Result ℕ Stop) → GoesOn old before → EndsSo LIMITS old before n end
    → BothPrefix old before n
both-of laws old before n (Ok turn) g e = both-ran laws old before n _ g e
both-of laws old before n (Err stop) g e = both-by laws old before n stop g e
