-- Sequences that are turned cost what they did, and none is missed: so the least ones are turned into the least ones.
use Rattle.line_coding.proofs.Names.{◌≡◌, ℕ, ◌<◌, ◌≤◌, Bool, true, List, map, arith, sym, ◌∙◌, ap, subst, length-map, All, at_any}
use Rattle.line_coding.proofs.Names.{turned_label, Sample, four_turns_are_none}
use Rattle.std.proofs.lemmas.Bool.{ltb-true}
use Rattle.symbol_map.specs.Distance.{quarter_turned}
use Rattle.trellis_tables.specs.Sequences.{cost}
use Rattle.trellis_tables.specs.Rotation.{rotated}
use Rattle.trellis_tables.proofs.Rotations.{rotated-lt, turn_takes_sequences, turn_keeps_cost, all_starts_turn}
use Rattle.exact_decoder.specs.Surviving.Trellises.{IsSequence}
use Rattle.exact_decoder.specs.Surviving.Survivors.{IsLeast}
use Rattle.exact_decoder.specs.Surviving.V32.{v32_code}
use Rattle.line_coding.specs.QuarterTurns.{StartsTurn}
use Rattle.line_coding.specs.TurnedLaws.{CostStays, SequencesTurn, LeastTurns, AllStatesTurn, LeastTurnsOfAll}
use Rattle.line_coding.proofs.TurnedLabels.{turned_back, labels-small, leads-within, turned-again, back-small}

pub cost_stays : CostStays
cost_stays starts samples labels small = turn_keeps_cost labels samples small

pub sequences_turn : SequencesTurn
sequences_turn starts turned_starts samples labels end turn in_end small = (
  λ h. record {
    code_sequence = (turn_takes_sequences starts turned_starts labels end turn.turned in_end small).0 h.code_sequence;
    same_length = omega (arith, length-map labels turned_label, length-map samples quarter_turned, h.same_length);
  },
  λ h. record {
    code_sequence = (turn_takes_sequences starts turned_starts labels end turn.turned in_end small).1 h.code_sequence;
    same_length = omega (arith, length-map labels turned_label, length-map samples quarter_turned, h.same_length);
  },
)

-- a sequence ends in a state
ends-within : (starts : ℕ → Bool) (samples : List Sample) (labels : List ℕ) (end : ℕ) → ((state : ℕ) → starts state ≡ true → state < 8)
    → IsSequence (v32_code starts) samples labels end → end < 8
ends-within starts samples labels end within s = grind (arith, leads-within)

-- the state that turns to this one
abbrev state_back : ℕ → ℕ
state_back state = rotated (rotated (rotated state))

back-within : (state : ℕ) → state < 8 → state_back state < 8
back-within state h = rotated-lt (rotated (rotated state)) (rotated-lt (rotated state) (rotated-lt state h))

least-there : (starts turned_starts : ℕ → Bool) (samples : List Sample) (labels : List ℕ) → StartsTurn starts turned_starts
    → All (λ label. label < 32) labels
    → IsLeast (v32_code starts) samples labels → IsLeast (v32_code turned_starts) (map quarter_turned samples) (map turned_label labels)
least-there starts turned_starts samples labels turn small h = record {
  end = rotated h.end;
  sequence = (sequences_turn starts turned_starts samples labels h.end turn
      (ends-within starts samples labels h.end turn.within h.sequence) small).0 h.sequence;
  least = λ other other_end s.
      let in_end : other_end < 8 = ends-within turned_starts (map quarter_turned samples) other other_end turn.turned_within s in
      let in_labels : All (λ label. label < 32) other = labels-small s.code_sequence.from other_end other s.code_sequence.leads in
      let back : List ℕ = map turned_back other in
      let again : map turned_label back ≡ other = turned-again other in_labels in
      let end_again : rotated (state_back other_end) ≡ other_end = four_turns_are_none other_end in_end in
      let turned : IsSequence (v32_code turned_starts) (map quarter_turned samples) (map turned_label back)
      (rotated (state_back other_end)) =
      subst (λ l. IsSequence (v32_code turned_starts) (map quarter_turned samples) l (rotated (state_back other_end))) (sym again)
      (subst (λ e. IsSequence (v32_code turned_starts) (map quarter_turned samples) other e) (sym end_again) s) in
      let mine = (sequences_turn starts turned_starts samples back (state_back other_end) turn (back-within other_end in_end)
      (back-small other)).1 turned in
      let less : cost (v32_code starts).distance labels samples ≤ cost (v32_code starts).distance back samples =
      h.least back (state_back other_end) mine in
      let one = cost_stays starts samples labels small in
      let two : cost (v32_code starts).distance other (map quarter_turned samples) ≡ cost (v32_code starts).distance back samples =
      ap (λ l. cost (v32_code starts).distance l (map quarter_turned samples)) (sym again)
      ∙ cost_stays starts samples back (back-small other) in
      omega (arith, less, one, two);
}

least-back : (starts turned_starts : ℕ → Bool) (samples : List Sample) (labels : List ℕ) → StartsTurn starts turned_starts
    → All (λ label. label < 32) labels
    → IsLeast (v32_code turned_starts) (map quarter_turned samples) (map turned_label labels) → IsLeast (v32_code starts) samples labels
least-back starts turned_starts samples labels turn small h =
    let in_end : h.end < 8 =
    ends-within turned_starts (map quarter_turned samples) (map turned_label labels) h.end turn.turned_within h.sequence in
    let end_again : rotated (state_back h.end) ≡ h.end = four_turns_are_none h.end in_end in
    record {
      end = state_back h.end;
      sequence = (sequences_turn starts turned_starts samples labels (state_back h.end) turn (back-within h.end in_end) small).1
          (subst (λ e. IsSequence (v32_code turned_starts) (map quarter_turned samples) (map turned_label labels) e)
          (sym end_again) h.sequence);
      least = λ other other_end s.
          let in_labels : All (λ label. label < 32) other = labels-small s.code_sequence.from other_end other s.code_sequence.leads in
          let theirs = (sequences_turn starts turned_starts samples other other_end turn
          (ends-within starts samples other other_end turn.within s) in_labels).0 s in
          let less = h.least (map turned_label other) (rotated other_end) theirs in
          let one = cost_stays starts samples labels small in
          let two = cost_stays starts samples other in_labels in
          omega (arith, less, one, two);
    }

pub least_turns : LeastTurns
least_turns starts turned_starts samples labels turn small =
    (least-there starts turned_starts samples labels turn small, least-back starts turned_starts samples labels turn small)

pub all_states_turn : AllStatesTurn
all_states_turn = record { within = λ state h. ltb-true state 8 h; turned_within = λ state h. ltb-true state 8 h; turned = all_starts_turn }

pub least_turns_of_all : LeastTurnsOfAll
least_turns_of_all samples labels small = least_turns at_any at_any samples labels all_states_turn small
