-- A near recording after a quarter turn, and what both release.
use Rattle.noise_bound.proofs.Names.{ℕ, zero, suc, ◌+◌, ◌<◌, List, ◌++◌, map, take, drop, arith, append_assoc, Option, Some, None, sym, ◌∙◌}
use Rattle.noise_bound.proofs.Names.{ap, subst, eqb-true, take-append-drop, heard, IsReleased, at_any, v32_code, all_states_turn, only}
use Rattle.noise_bound.proofs.Names.{sure, sure_of_any, IsNear, IsPrefixOf, quarter_turned, turned_label, Sample}
use Rattle.trellis_tables.specs.Rotation.{rotated}
use Rattle.trellis_tables.proofs.Rotations.{rotated-lt, one_start_turns, turn_keeps_cost}
use Rattle.line_coding.specs.QuarterTurns.{StartsTurn, turned_by}
use Rattle.line_coding.proofs.TurnedLabels.{labels-small, leads-within}
use Rattle.line_coding.proofs.TurnedSequences.{sequences_turn}
use Rattle.line_coding.proofs.TurnedLines.{labels_turned}
use Rattle.noise_bound.proofs.Near.{near-front, releases-near, releases-near_of_any}
use Rattle.noise_bound.specs.Turned.{BothRelease}
use Rattle.noise_bound.specs.Laws.{NearTurns}

pub near-turns : NearTurns
near-turns bound starts turned_starts labels samples turn h =
    let from = h.sequence.code_sequence.from in
    let small = labels-small from h.end labels h.sequence.code_sequence.leads in
    let in_end = leads-within from h.end labels (turn.within from h.sequence.code_sequence.starts_there) h.sequence.code_sequence.leads in
    record {
      end = rotated h.end;
      sequence = (sequences_turn starts turned_starts samples labels h.end turn in_end small).0 h.sequence;
      near = omega (arith, turn_keeps_cost labels samples small, h.near);
    }

-- and after several
pub turned-near : (bound turns : ℕ) (labels : List ℕ) (samples : List Sample) → IsNear bound at_any labels samples
    → IsNear bound at_any (labels_turned turns labels) (turned_by turns samples)
turned-near bound zero labels samples h = h
turned-near bound (suc turns) labels samples h =
    near-turns bound at_any at_any (labels_turned turns labels) (turned_by turns samples) all_states_turn
    (turned-near bound turns labels samples h)

one-turns : (start : ℕ) → start < 8 → StartsTurn (only start) (only (rotated start))
one-turns start low = record {
  within = λ state e. subst (λ s. s < 8) (sym (eqb-true state start e)) low;
  turned_within = λ state e. subst (λ s. s < 8) (sym (eqb-true state (rotated start) e)) (rotated-lt start low);
  turned = one_start_turns start low;
}

-- both begin the sent labels, as they are and turned
pub record BothBegin (labels front turned_front : List ℕ) : Type 0 where
  pub begins : IsPrefixOf front labels
  pub turned_begins : IsPrefixOf turned_front (map turned_label labels)

pub begin-from_one : (start : ℕ) (labels front turned_front : List ℕ) (samples : List Sample) → start < 8
    → IsNear sure (only start) labels samples → BothRelease (only start) (only (rotated start)) samples front turned_front
    → BothBegin labels front turned_front
begin-from_one start labels front turned_front samples low h r =
    let turned = near-turns sure (only start) (only (rotated start)) labels samples (one-turns start low) h in
    record {
      begins = releases-near start r.count labels front samples h r.released;
      turned_begins = releases-near (rotated start) r.turned_count (map turned_label labels) turned_front
          (map quarter_turned samples) turned r.turned_released;
    }

pub begin-from_any : (labels front turned_front : List ℕ) (samples : List Sample) → IsNear sure_of_any at_any labels samples
    → BothRelease at_any at_any samples front turned_front → BothBegin labels front turned_front
begin-from_any labels front turned_front samples h r =
    let turned = near-turns sure_of_any at_any at_any labels samples all_states_turn h in
    record {
      begins = releases-near_of_any at_any r.count labels front samples h r.released;
      turned_begins = releases-near_of_any at_any r.turned_count (map turned_label labels) turned_front
          (map quarter_turned samples) turned r.turned_released;
    }

-- what is heard up to a loss is released of the first samples
pub heard-begins : (labels front : List ℕ) (samples : List Sample) (count : ℕ) (lost : Option ℕ)
    → IsNear sure_of_any at_any labels samples → IsReleased (v32_code at_any) (heard lost (take count samples)) front
    → IsPrefixOf front labels
heard-begins labels front samples count None h r = releases-near_of_any at_any count labels front samples h r
heard-begins labels front samples count (Some symbol) h r =
    let p = releases-near_of_any at_any (symbol + 1) (take count labels) front (take count samples)
    (near-front sure_of_any at_any labels samples count h) r in (
      p.0 ++ drop count labels,
      sym (append_assoc front p.0 (drop count labels)) ∙ ap (λ k. k ++ drop count labels) p.1
          ∙ take-append-drop count labels,
    )
