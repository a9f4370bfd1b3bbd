-- However a run ends, each recording is as it was, or holds the beginning of its header and of what its end sends.
use Rattle.run_commands.proofs.Names.{arith, inl, inr, ℕ, List, [], ◌∷◌, ◌++◌, Some, None, Result, subst, append_assoc, Status, Stop}
use Rattle.run_commands.proofs.Names.{RunEnd, Tapes, Wire, wire_of, link_of, ScriptValue, FolderState, GoesOn, KeepsAll, CreatesPart}
use Rattle.run_commands.proofs.Names.{OnlyOutputs, header_of, Takes, RanTo, StopsInTurn, RanBy, EndsBy, HeadsPartly, stopped-by, RunNames}
use Rattle.run_commands.proofs.Names.{LIMITS, mode_of, Both, Role, Originator, Answerer}
use Rattle.outside_calls.specs.Outputs.{HoldsFront}
use Rattle.outside_calls.proofs.Holding.{HoldsFront-part, HoldsFront-all}
use Rattle.link_run.specs.Run.{Accounts, Turn}
use Rattle.link_run.specs.Outcomes.{Going, TurnIs}
use Rattle.line_run.specs.Sampled.{LineRun}
use Rattle.command_base.specs.declared.stop.Stop.TheVariants as stops
use Rattle.run_inputs.specs.Words.{outputs_of}
use Rattle.line_world.specs.Tapes.{HoldsTape, HoldsTapePart, HoldTapes, HoldTapesPartly}
use Rattle.line_world.specs.Turns.{TapesStop}
use Rattle.run_commands.specs.Running.Files.{AreOf}
use Rattle.run_commands.specs.Running.Ends.{Ends as EndsSo}
use Rattle.run_commands.specs.Running.Tapes.{TapeBegun, TapesBegun}

-- ---- the script and the files that were taken

pub are-of : (f : FolderState) (n : RunNames) (script : ScriptValue) (files : Both (List ℕ)) → Takes LIMITS f n script files
    → AreOf f n script files
are-of f n script files takes = grind (arith)

-- ---- once the last line is said

pub tapes-last : (before new : FolderState) (tapes : Tapes) (c : Wire) (ts : List Turn) → OnlyOutputs before new []
    → HoldTapes before tapes c ts → HoldTapes new tapes c ts
tapes-last before new tapes c ts last h = grind (arith)

pub begun-last : (old before new : FolderState) (n : RunNames) (tapes : Tapes) → OnlyOutputs before new [] → GoesOn old before
    → TapesBegun old before n tapes → TapesBegun old new n tapes
begun-last old before new n None last g h = tt
begun-last old before new n (Some names) last g h = (one names.orig Originator h.0, one names.answ Answerer h.1)
  where
    one : (name : List ℕ) (role : Role) → TapeBegun old before n name role → TapeBegun old new n name role
    one name role given = grind (arith)

-- ---- what they hold however the run ends

-- what was recorded of some turns
module _ (old before : FolderState) (n : RunNames) (script : ScriptValue) (files : Both (List ℕ))
    (takes : Takes LIMITS old n script files) where
  abbrev c : Wire
  c = wire_of script

  of-turns : (name : List ℕ) (role : Role) (ts : List Turn) (ends : Accounts) → LineRun c (link_of script files) ts ends
      → HoldsTape before name c role ts → TapeBegun old before n name role
  of-turns name role ts ends run h = inr (inr (record {
    script = script;
    limits = takes.limits;
    files = files;
    are_of = are-of old n script files takes;
    turns = ts;
    ends = ends;
    run = run;
    body = h.body;
    recorded = h.recorded;
    holds = HoldsFront-all before name (header_of (mode_of role) ++ h.body) h.holds;
  }))

  of-part : (name : List ℕ) (role : Role) (ts : List Turn) (t : Turn) (ends : Accounts) → LineRun c (link_of script files) (t ∷ ts) ends
      → HoldsTapePart before name c role ts t → TapeBegun old before n name role
  of-part name role ts t ends run h = inr (inr (record {
    script = script;
    limits = takes.limits;
    files = files;
    are_of = are-of old n script files takes;
    turns = t ∷ ts;
    ends = ends;
    run = run;
    body = h.body ++ h.more;
    recorded = h.recorded_more;
    holds = subst (HoldsFront before name) (append_assoc (header_of (mode_of role)) h.body h.more)
        (HoldsFront-part before name (header_of (mode_of role) ++ h.body) h.more h.holds);
  }))

  pub both-turns : (tapes : Tapes) (ts : List Turn) (ends : Accounts) → LineRun c (link_of script files) ts ends
      → HoldTapes before tapes c ts
      → TapesBegun old before n tapes
  both-turns None ts ends run h = tt
  both-turns (Some names) ts ends run h =
      (of-turns names.orig Originator ts ends run h.0, of-turns names.answ Answerer ts ends run h.1)

  pub both-parts : (tapes : Tapes) (ts : List Turn) (t : Turn) (ends after : Accounts) → LineRun c (link_of script files) ts ends
      → LineRun c (link_of script files) (t ∷ ts) after → HoldTapesPartly before tapes c ts t → TapesBegun old before n tapes
  both-parts None ts t ends after run more h = tt
  both-parts (Some names) ts t ends after run more (inl h) =
      (of-part names.orig Originator ts t after more h.0, of-turns names.answ Answerer ts ends run h.1)
  both-parts (Some names) ts t ends after run more (inr h) =
      (of-turns names.orig Originator (t ∷ ts) after more h.0, of-part names.answ Answerer ts t after more h.1)

tapes-ran : (old before : FolderState) (n : RunNames) (end : RunEnd) → RanTo LIMITS old before n end → TapesBegun old before n n.tapes
tapes-ran old before n end e =
    both-turns old before n e.script e.files e.takes n.tapes e.run.turns e.run.ends e.run.run e.taped

tapes-stopped : (old before : FolderState) (n : RunNames) → StopsInTurn LIMITS old before n → TapesBegun old before n n.tapes
tapes-stopped old before n e = by e.taped
  where
    by : TapesStop (wire_of e.script) (link_of e.script e.files) before n.names n.tapes e.stops → TapesBegun old before n n.tapes
    by (inl h) = both-turns old before n e.script e.files e.takes n.tapes e.stops.turns e.stops.ends e.stops.run h
    by (inr s) =
        let on : TurnIs (link_of e.script e.files) e.stops.turns e.stops.ends s.adds.turn s.adds.mid Going =
        subst (TurnIs (link_of e.script e.files) e.stops.turns e.stops.ends s.adds.turn s.adds.mid) s.goes_on s.adds.is in
        both-parts old before n e.script e.files e.takes n.tapes e.stops.turns s.adds.turn e.stops.ends on.0 e.stops.run
        (record { run = (e.stops.ends, e.stops.run.run, on.1); heard = (s.adds.heard, e.stops.run.heard) }) s.taped

all-created : (old before : FolderState) (n : RunNames) → CreatesPart old before (outputs_of n) → TapesBegun old before n n.tapes
all-created old before n b = grind (arith)

tapes-headed : (old before : FolderState) (n : RunNames) (tapes : Tapes) → HeadsPartly before tapes → TapesBegun old before n tapes
tapes-headed old before n tapes never = grind (arith)

all-kept : (old before : FolderState) (n : RunNames) (tapes : Tapes) → KeepsAll old before → TapesBegun old before n tapes
all-kept old before n tapes kept = grind (arith)

tapes-own : (old before : FolderState) (n : RunNames) (answer : Status) → RanBy LIMITS old before n answer → TapesBegun old before n n.tapes
tapes-own old before n answer e = grind (arith, stopped-by, tapes-ran)

tapes-by : (old before : FolderState) (n : RunNames) (stop : Stop) → EndsBy LIMITS old before n stop → TapesBegun old before n n.tapes
tapes-by old before n (stops.Own answer) (inl refused) = all-kept old before n n.tapes refused.0
tapes-by old before n (stops.Own answer) (inr e) = tapes-own old before n answer e
tapes-by old before n (stops.Read fault) (inl refused) = all-kept old before n n.tapes refused.0
tapes-by old before n (stops.Read fault) (inr (failed, rose, s)) = tapes-stopped old before n s.0
tapes-by old before n stops.NoMemory e = all-kept old before n n.tapes e.0
tapes-by old before n (stops.Write fault) (inl c) = all-created old before n c.creates
tapes-by old before n (stops.Write fault) (inr (inl h)) = tapes-headed old before n n.tapes h.heads
tapes-by old before n (stops.Write fault) (inr (inr e)) = tapes-stopped old before n e
tapes-by old before n (stops.Say fault) never = absurd never

pub tapes-of : (old before : FolderState) (n : RunNames) (end : Result ℕ Stop) → EndsSo LIMITS old before n end
    → TapesBegun old before n n.tapes
tapes-of old before n end e = grind (arith, tapes-ran, tapes-by)
