-- From a turn over the folder of an audit to the lines that it adds.
use Rattle.trace_audit.proofs.Cited.{◌≡◌, ℕ, ◌<◌, ◌^◌, Bool, true, false, List, [], ◌∷◌, ◌++◌, length, Result, Ok, Err, refl, sym, ◌∙◌, ap}
use Rattle.trace_audit.proofs.Cited.{subst, arith, append-nil, EndCounts, Stop, AsksInOctets, RunEnd, Written, outputs_of, LineRun, wire_of}
use Rattle.trace_audit.proofs.Cited.{link_of, IsApart, knows-later, KnowsFiles, script_of, turn_of, World, Outcome, Going, Turn, trace_text}
use Rattle.trace_audit.proofs.Cited.{turn_text, ScriptValue, IsInLimits, FolderState, Role, Originator, text_of, AreWhole, AreLines}
use Rattle.trace_audit.proofs.Cited.{chance_words, turn_lines, trace_lines, TextsHaveLines, TurnsHaveLines, ChancesHaveLines, IsReading}
use Rattle.trace_audit.proofs.Cited.{held_by, TurnMade}
use Rattle.std.specs.Prelude.{IfErr}
use Rattle.outside_calls.specs.Outputs.{OnlyPuts}
use Rattle.shared_terms.specs.declared.fault.LinkFault.TheVariants as causes
use Rattle.line_texts.specs.LineText.{chance_line}
use Rattle.link_run.specs.Outcomes.{Done, Broken}
use Rattle.line_run.specs.Sampled.{Wire}
use Rattle.line_run.specs.Ends.{EndsBy, EndsInTurn}
use Rattle.line_run.specs.Ends as runs
use Rattle.line_run.specs.Stream.{both_sent_by}
use Rattle.line_run.proofs.WhatIsLeft.{left_of, leaves-so}
use Rattle.line_run.specs.Names.{inputs_of}
use Rattle.line_world.specs.Turn.{GoesOnBy, LosesLine, MeetsChance, TurnAnswers, TurnCounts}
use Rattle.line_world.specs.Turn as turns
use Rattle.line_world.specs.declared.step.Step.{Step}
use Rattle.line_world.specs.declared.step.Step.TheVariants as steps
use Rattle.line_run.specs.declared.fault.RunFault.{RunFault}
use Rattle.line_run.specs.declared.fault.RunFault.TheVariants as faults
use Rattle.trace_audit.proofs.Lines.{text_of-append}
use Rattle.program_folders.specs.Passed.{OnlyPassed}
use Rattle.trace_audit.specs.Turns.{step_end, Watched, StillRuns, HasRun}
use Rattle.trace_audit.proofs.Inside.{knows-inside, knows-outside, text-added, text-more, text-kept}

-- the laws of traces' lines
pub record LineLaws : Type 0 where
  pub turns : TurnsHaveLines
  pub chances : ChancesHaveLines
  pub texts : TextsHaveLines

pub whole-append : (a b : List (List ℕ)) → AreWhole a → AreWhole b → AreWhole (a ++ b)
whole-append [] b h k = k
whole-append (line ∷ a) b h k = (h.0, whole-append a b h.1 k)

module _ (laws : LineLaws) (w v : World) (old new : FolderState) (n : Written) (text : List ℕ) (r : ℕ) (apart : IsApart n)
    (only : OnlyPuts (held_by old n [] 0) (held_by new n text r) (outputs_of n)) (limits : IsInLimits (script_of v))
    (asks : AsksInOctets (script_of v)) (same : script_of v ≡ script_of w) (before : List (List ℕ)) (s : StillRuns w old n before)
    (early : length s.turns < 2 ^ 40) where
  abbrev c : Wire
  c = wire_of (script_of v)

  -- the lines of all turns up to this one
  lines-so : (t : Turn) → before ++ turn_lines (length s.turns) t ≡ trace_lines (t ∷ s.turns)
  lines-so t = ap (λ l. l ++ turn_lines (length s.turns) t) s.lines_is

  -- the run goes on
  going-lines : (g : GoesOnBy v.modems v.lines c 1 (both_sent_by 0 s.turns) (held_by old n [] 0) (held_by new n text r) n s.files s.turns
      s.ends) → AreLines (turn_lines (length s.turns) g.turn)
  going-lines g =
      let run = g.modems.run.run in
      let heard = g.modems.run.heard in
      laws.turns (script_of v) g.others s.turns run.0 g.turn run.2.mid Going limits asks (record { run = run.1; heard = heard.1 }) g.heard
      (g.after, run.2, refl) early

  going : GoesOnBy v.modems v.lines c 1 (both_sent_by 0 s.turns) (held_by old n [] 0) (held_by new n text r) n s.files s.turns s.ends
      → TurnMade true v new n before text
  going g = record {
    lines = turn_lines (length s.turns) g.turn;
    text_is = text-added old new n text r apart only.goes_on (turn_text (length s.turns) g.turn) g.writes.1.1.0
        ∙ laws.texts.turn (length s.turns) g.turn;
    are_lines = going-lines g;
    few = omega arith;
    comes = record {
      files = g.others;
      knows = knows-outside new n text r apart g.others (g.known.known (knows-inside old n [] 0 apart s.files s.knows));
      turns = g.turn ∷ s.turns;
      ends = g.after;
      world = record { modems = g.modems; lines = g.lines };
      lines_is = lines-so g.turn;
      whole = whole-append before (turn_lines (length s.turns) g.turn) s.whole (going-lines g).1;
    };
  }

  -- the run ends in the turn
  ended : (end : RunEnd) (outcome : Outcome) (number : ℕ)
      → (e : turns.EndsInTurn v.modems v.lines c 1 (both_sent_by 0 s.turns) (held_by old n [] 0) (held_by new n text r) n s.files s.turns
      s.ends outcome number)
      → (EndsInTurn c (link_of (script_of v) e.others) s.turns s.ends outcome number (left_of e.mid (trace_text (e.turn ∷ s.turns)))
      → EndsBy c (link_of (script_of v) e.others) s.turns s.ends end (left_of e.mid (trace_text (e.turn ∷ s.turns))))
      → TurnMade false v new n before text
  ended end outcome number e so =
      let lines : AreLines (turn_lines (length s.turns) e.turn) =
      laws.turns (script_of v) e.others s.turns s.ends e.turn e.mid outcome limits asks e.makes.run e.makes.heard e.makes.is early in
      record {
        lines = turn_lines (length s.turns) e.turn;
        text_is = text-added old new n text r apart only.goes_on (turn_text (length s.turns) e.turn) e.writes.1.1.0
            ∙ laws.texts.turn (length s.turns) e.turn;
        are_lines = lines;
        few = omega arith;
        comes = record {
          files = e.others;
          knows = knows-outside new n text r apart e.others (e.known.known (knows-inside old n [] 0 apart s.files s.knows));
          end = end;
          left = left_of e.mid (trace_text (e.turn ∷ s.turns));
          run = record {
            turns = s.turns;
            ends = s.ends;
            run = e.makes.run;
            ended = so (record {
              number = e.number_is;
              last = e.turn;
              mid = e.mid;
              heard = e.makes.heard;
              is = e.makes.is;
              leaves = leaves-so e.mid (trace_text (e.turn ∷ s.turns));
            });
          };
          cut = record {
            whole = whole-append before (turn_lines (length s.turns) e.turn) s.whole lines.1;
            text_is = laws.texts.trace (e.turn ∷ s.turns) ∙ ap text_of (sym (lines-so e.turn));
          };
        };
      }

  -- the run so far, over the script
  run-so : LineRun c (link_of (script_of v) s.files) s.turns s.ends
  run-so = subst (λ (x : ScriptValue). LineRun (wire_of x) (link_of x s.files) s.turns s.ends) (sym same) s.world.modems.run

  knows-now : KnowsFiles new n s.files
  knows-now =
      knows-outside new n text r apart s.files
      (knows-later (held_by old n [] 0) (held_by new n text r) n s.files apart only (knows-inside old n [] 0 apart s.files s.knows))

  text-so : text_of before ≡ trace_text s.turns
  text-so = ap text_of s.lines_is ∙ sym (laws.texts.trace s.turns)

  -- the line is lost as it begins
  loses : (role : Role) (symbol : ℕ)
      → LosesLine v.modems c (held_by old n [] 0) (held_by new n text r) n s.turns s.ends role symbol → TurnMade false v new n before text
  loses role symbol e = record {
    lines = [];
    text_is = text-kept old new n text r apart only.goes_on e.kept.1.1.0;
    are_lines = (tt, tt);
    few = omega arith;
    comes = subst (HasRun (script_of v) new n) (sym (append-nil before)) (record {
      files = s.files;
      knows = knows-now;
      end = runs.LineLost role symbol;
      left = left_of s.ends (trace_text s.turns);
      run = record {
        turns = s.turns;
        ends = s.ends;
        run = run-so;
        ended = record { is = e.is; leaves = leaves-so s.ends (trace_text s.turns) };
      };
      cut = record { whole = s.whole; text_is = sym text-so };
    });
  }

  -- a slot is a chance match
  meets : (role : Role) (number : ℕ)
      → MeetsChance v.modems c (held_by old n [] 0) (held_by new n text r) n s.turns s.ends role number → TurnMade false v new n before text
  meets role number e =
      let words : List (List ℕ) = chance_words (length s.turns) role ∷ [] in
      let line : List ℕ = chance_line (length s.turns) role in
      let lines : AreLines words = laws.chances (length s.turns) role early in
      let one : line ≡ text_of words = laws.texts.chance (length s.turns) role ∙ sym (append-nil _) in
      record {
        lines = words;
        text_is = text-more old new n text r apart only.goes_on line e.trace ∙ one;
        are_lines = lines;
        few = omega arith;
        comes = record {
          files = s.files;
          knows = knows-now;
          end = runs.ChanceMatch role number;
          left = left_of s.ends (trace_text s.turns ++ line);
          run = record {
            turns = s.turns;
            ends = s.ends;
            run = run-so;
            ended = (e.number_is, record { is = e.is; leaves = leaves-so s.ends (trace_text s.turns ++ line) });
          };
          cut = record {
            whole = whole-append before words s.whole lines.1;
            text_is = ap (λ t. t ++ line) (sym text-so) ∙ ap (λ l. text_of before ++ l) one ∙ sym (text_of-append before words);
          };
        };
      }

  -- whatever it answers
  by-step : (step : Result Step RunFault) (goes_on : Bool) → step_end step ≡ Ok goes_on
      → TurnAnswers v.modems v.lines c 1 (both_sent_by 0 s.turns) (held_by old n [] 0) (held_by new n text r) n s.files s.turns s.ends step
      → TurnMade goes_on v new n before text
  by-step (Ok steps.Going) true e a = going a
  by-step (Ok steps.Going) false e a = absurd cc
  by-step (Ok (steps.Done turn)) false e a = ended (runs.IsDone turn) Done turn a (λ x. x)
  by-step (Ok (steps.Done turn)) true e a = absurd cc
  by-step (Err faults.ReadFault) goes_on e a = absurd cc
  by-step (Err faults.WriteFault) goes_on e a = absurd cc
  by-step (Err faults.NoMemory) goes_on e a = absurd cc
  by-step (Err (faults.LineLost role symbol)) false e a = loses role symbol a
  by-step (Err (faults.ChanceMatch role turn)) false e a = meets role turn a
  by-step (Err (faults.NotDetected turn)) false e a = ended (runs.NotDetected turn) (Broken Originator causes.NotDetected) turn a (λ x. x)
  by-step (Err (faults.LinkLost role segment turn)) false e a =
      ended (runs.LinkLost role segment turn) (Broken role (causes.Spent segment a.0)) turn a.1 (λ x. (a.0, x))
  by-step (Err fault) true e a = absurd cc

-- a turn that was watched is made
pub made : LineLaws → (w v : World) (old new : FolderState) (n : Written) (step : Result Step RunFault) (text : List ℕ) (goes_on : Bool)
    → IsApart n → IsInLimits (script_of w) → AsksInOctets (script_of w) → script_of v ≡ script_of w → turn_of w < 2 ^ 40
    → Watched w v old new n step text → step_end step ≡ Ok goes_on → (before : List (List ℕ)) → StillRuns w old n before
    → TurnMade goes_on v new n before text
made laws w v old new n step text goes_on apart limits asks same early h e before s =
    by-step laws w v old new n text h.refusals apart h.only (subst IsInLimits (sym same) limits) (subst AsksInOctets (sym same) asks) same
    before s (omega (arith, early, s.world.modems.turn)) step goes_on e (h.turn s.files s.turns s.ends s.world s.knows.within)

-- the run goes on where the turn does
pub going-step : (step : Result Step RunFault) → step_end step ≡ Ok true → step ≡ Ok steps.Going
going-step step e = grind (arith)

module _ (w v : World) (old new : FolderState) (n : Written) (text : List ℕ) where
  -- so a turn stops where a file is not read, or for want of memory,
  step-reading : (r : ℕ) (step : Result Step RunFault) → TurnCounts (held_by old n [] 0) (held_by new n text r) n step
      → IfErr (step_end step) IsReading
  step-reading r step k = grind (arith)

  pub stops-reading : (step : Result Step RunFault) (end : Result Bool Stop) → Watched w v old new n step text → step_end step ≡ end
      → IfErr end IsReading
  stops-reading step end h e = subst (λ (x : Result Bool Stop). IfErr x IsReading) e (step-reading h.refusals step h.counts)

  -- and counts that, or nothing
  step-counts : (r : ℕ) → OnlyPassed old new 0 r → (step : Result Step RunFault)
      → TurnCounts (held_by old n [] 0) (held_by new n text r) n step → EndCounts old new (inputs_of n) [] (step_end step)
  step-counts r p step k = grind (arith)

  pub end-counts : (step : Result Step RunFault) (end : Result Bool Stop) → Watched w v old new n step text → step_end step ≡ end
      → EndCounts old new (inputs_of n) [] end
  end-counts step end h e = grind (arith, step-counts)
