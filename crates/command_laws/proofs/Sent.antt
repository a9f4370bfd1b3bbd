-- What was sent without noise at either rate: its labels are least alone, and carry its bits; its samples stand in their octets.
use Rattle.command_laws.proofs.Names.{◌≡◌, ◌∙◌, ℕ, suc, ◌<◌, Bool, true, List, [], ◌∷◌, ◌++◌, length, map, refl, sym, ap, subst, arith, All}
use Rattle.command_laws.proofs.Names.{None, length-append, All-nil, All-cons, All-head, All-tail, flat_map, LostIs, line_depth}
use Rattle.command_laws.proofs.Names.{sample_octets, samples_in, Rate, Trellis, Quarters, trellis_at, DemodulatesAt, Sample}
use Rattle.std.proofs.Common.{◌&&◌, nat_eq, nat_lt}
use Rattle.std.specs.List.{range_with_len}
use Rattle.std.proofs.lemmas.Bool.{and_parts, eqb-true, lt-ltb}
use Rattle.symbol_map.specs.Points.{point_of}
use Rattle.symbol_map.specs.Laws.{NoDistanceIsEqual}
use Rattle.symbol_map.specs.Finite.{each_below, at_each}
use Rattle.trellis_tables.specs.Differential.Turned.{turned, turned_at}
use Rattle.trellis_tables.specs.Sequences.{Leads}
use Rattle.trellis_tables.specs.Table.{next_state}
use Rattle.trellis_tables.specs.V32Laws.{v32_bounded}
use Rattle.trellis_tables.proofs.Sequences.{Leads-below}
use Rattle.exact_decoder.specs.Laws.{IsOnlyLeast, OnlySentIsLeast}
use Rattle.noise_bound.specs.NoiselessLaws.{NeverLost}
use Rattle.line_coding.proofs.Readings as line
use Rattle.rate_4800.specs.Code as quarters
use Rattle.rate_4800.proofs.Twos as quarter_bits
use Rattle.signal_commands.specs.Encoding.Recorder.{ModulatesAt}
use Rattle.recordings.proofs.Samples.{samples_in-append}
use Rattle.line_tap.proofs.Coding.{the-one, is_one, ReadsBack}

-- the laws that this rests on
pub record SentLaws : Type 0 where
  pub none : NoDistanceIsEqual
  pub trellis : OnlySentIsLeast next_state point_of
  pub quarters : OnlySentIsLeast quarters.next_state quarters.point_of
  pub kept : NeverLost

abbrev reads_back : (ℕ → Sample) → ℕ → Bool
reads_back points label =
    nat_eq (length (sample_octets (points label))) 4 && is_one (samples_in (sample_octets (points label))) (points label)

trellis-test : each_below 32 (reads_back point_of) ≡ true
trellis-test = refl

quarters-test : each_below 4 (reads_back quarters.point_of) ≡ true
quarters-test = refl

points-back : NoDistanceIsEqual → (points : ℕ → Sample) (few : ℕ) → each_below few (reads_back points) ≡ true
    → (labels : List ℕ) → All (λ label. label < few) labels → ReadsBack (map points labels)
points-back none points few test [] h = record { count = refl; same = refl }
points-back none points few test (label ∷ labels) h =
    let one = and_parts (nat_eq (length (sample_octets (points label))) 4)
    (is_one (samples_in (sample_octets (points label))) (points label))
    (at_each few (reads_back points) test label (All-head (λ l. l < few) label labels h)) in
    let four : length (sample_octets (points label)) ≡ 4 = eqb-true (length (sample_octets (points label))) 4 one.0 in
    let rest = points-back none points few test labels (All-tail (λ l. l < few) label labels h) in
    let octets : List ℕ = sample_octets (points label) in
    let others : List ℕ = flat_map sample_octets (map points labels) in
    record {
      count = length-append {A = ℕ} octets others
          ∙ (let more : length (map points (label ∷ labels)) ≡ suc (length (map points labels)) = refl in
          omega (arith, four, rest.count, more));
      same = samples_in-append octets others (omega (arith, four))
          ∙ ap (λ xs. xs ++ samples_in others) (the-one none (samples_in octets) (points label) one.1)
          ∙ ap (λ xs. points label ∷ xs) rest.same;
    }

-- what is known of such samples
pub record IsSent (rate : Rate) (tap : ℕ) (bits : List Bool) (samples : List Sample) : Type 0 where
  pub labels : List ℕ
  pub only : IsOnlyLeast (trellis_at rate) samples labels
  pub carries : DemodulatesAt rate tap labels bits
  pub back : ReadsBack samples
  pub kept : rate ≡ Trellis → LostIs (trellis_at rate) line_depth samples None

turns-small : (q places : List ℕ) → All (λ label. label < 4) (map (turned_at q) places)
turns-small q [] = All-nil (λ label. label < 4)
turns-small q (place ∷ places) = All-cons (λ label. label < 4) (turned_at q place) (map (turned_at q) places) (omega arith)
    (turns-small q places)

-- the one state leads to itself by each label
quarters-lead : (labels : List ℕ) → All (λ label. label < 4) labels → Leads quarters.next_state 0 labels 0
quarters-lead [] h = refl
quarters-lead (label ∷ labels) h =
    let low : nat_lt label 4 ≡ true = lt-ltb label 4 (All-head (λ l. l < 4) label labels h) in
    (0, rw low refl, quarters-lead labels (All-tail (λ l. l < 4) label labels h))

pub is-sent : SentLaws → (rate : Rate) (tap : ℕ) (bits : List Bool) (samples : List Sample) → ModulatesAt rate tap bits samples
    → IsSent rate tap bits samples
is-sent laws Trellis tap bits samples h = record {
  labels = h.labels;
  only = laws.trellis (λ state. nat_eq state 0) h.labels samples (record {
    end = h.end;
    code_sequence = record { from = 0; starts_there = refl; leads = h.encoded.leads };
    exact = h.points;
  });
  carries = line.comes-back tap bits h.line h.quads h.labels h.end h.scrambled h.in_fours h.are_quads h.encoded;
  back = subst ReadsBack (sym h.points)
      (points-back laws.none point_of 32 trellis-test h.labels (Leads-below next_state 8 32 0 h.labels h.end v32_bounded h.encoded.leads));
  kept = λ e. laws.kept 0 128 h.labels samples
      (record { start_there = omega arith; end = h.end; leads = h.encoded.leads; exact = h.points }) (omega arith);
}
is-sent laws Quarters tap bits samples h =
    let labels : List ℕ = turned h.turns in
    let small : All (λ label. label < 4) labels = turns-small h.turns (range_with_len 0 (length h.turns)) in
    record {
      labels = labels;
      only = laws.quarters (λ state. nat_eq state 0) labels samples (record {
        end = 0;
        code_sequence = record { from = 0; starts_there = refl; leads = quarters-lead labels small };
        exact = h.points;
      });
      carries = quarter_bits.comes-back tap bits h.line h.turns h.scrambled h.in_twos h.are_turns;
      back = subst ReadsBack (sym h.points) (points-back laws.none quarters.point_of 4 quarters-test labels small);
      kept = λ e. absurd cc;
    }
