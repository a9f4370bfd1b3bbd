-- What a recording gives that begins in the middle of what was sent.
use Rattle.signal_commands.proofs.Names.{◌≡◌, ◌∙◌, ℕ, zero, suc, ◌+◌, ◌*◌, ◌<◌, ◌≤◌, Bool, List, length, map, take, drop, refl, sym, ap}
use Rattle.signal_commands.proofs.Names.{None, ◌-◌, [], ◌∷◌, subst, arith, take-append-drop, take_all, length-take, Found, IsReleased}
use Rattle.signal_commands.proofs.Names.{LostIs, any_trellis, line_depth, Modulates, IsPickedUp, tap_of, Mode, IsPrefixOf, point_of, Sample}
use Rattle.signal_commands.proofs.Names.{Leads, next_state}
use Rattle.std.proofs.Common.{length-drop, lt-ltb}
use Rattle.std.proofs.Math.Seq.{take-nil}
use Rattle.std.proofs.lemmas.List.{take_at, drop-take, drop-map}
use Rattle.symbol_map.proofs.Distances.{no_distance_from_equal}
use Rattle.trellis_tables.specs.Laws.{far_from}
use Rattle.trellis_tables.specs.Sequences.{cost}
use Rattle.trellis_tables.proofs.Sequences.{Leads-split}
use Rattle.exact_decoder.specs.Surviving.V32.{at_any}
use Rattle.line_coding.specs.Demodulates.{Demodulates}
use Rattle.line_coding.proofs.Readings.{comes-back, four-each, first-stay}
use Rattle.line_coding.proofs.Middle.{middle_is_sent}
use Rattle.noise_bound.specs.Near.{sure_of_any, IsNear}
use Rattle.line_coding.proofs.TurnedLabels.{leads-within}
use Rattle.line_coding.proofs.TurnedLines.{labels_turned, length-turned, take-turned, unturned}
use Rattle.noise_bound.proofs.Turned.{turned-near}
use Rattle.noise_bound.proofs.NoiselessCosts.{length-points}
use Rattle.noise_bound.proofs.Near.{releases-near_of_any, few-unreleased_any, few-without_noise, never-lost_any}
use Rattle.signal_commands.specs.PickingUp.Gives.{GivesPieces}
use Rattle.signal_commands.specs.PickingUp.Middles.{middle_of, AreNear, AreHeardOf}
use Rattle.signal_commands.specs.PickingUp.Middles.{MiddlesGiveWhatWasSent, MiddlesWithoutNoiseGiveMore, MiddlesAreNeverLost}
use Rattle.noise_bound.specs.Margins.{distances}
use Rattle.noise_bound.proofs.Margins.{distances-cost}

tap-small : (mode : Mode) → (1 ≤ tap_of mode) × (tap_of mode ≤ 23)
tap-small mode = grind (arith)

-- ---- noise

-- of the first samples there is no more
distances-front : (n : ℕ) (sent heard : List Sample) → distances (take n sent) (take n heard) ≤ distances sent heard
distances-front zero sent heard = omega arith
distances-front (suc n) [] heard = omega arith
distances-front (suc n) (point ∷ sent) [] = omega arith
distances-front (suc n) (point ∷ sent) (sample ∷ heard) = omega (arith, distances-front n sent heard)

drop-take-less : (cut n : ℕ) (xs : List Sample) → drop cut (take n xs) ≡ take (n - cut) (drop cut xs)
drop-take-less zero n xs = let same : n - 0 ≡ n = omega arith in ap (λ k. take k xs) (sym same)
drop-take-less (suc cut) zero xs = grind (arith)
drop-take-less (suc cut) (suc n) [] = sym (take-nil (suc n - suc cut))
drop-take-less (suc cut) (suc n) (x ∷ xs) =
    let less : suc n - suc cut ≡ n - cut = omega arith in
    drop-take-less cut n xs ∙ ap (λ k. take k (drop cut xs)) (sym less)

pub near-front : (cut n : ℕ) (sent heard : List Sample) → AreNear cut sent heard → AreNear cut (take n sent) (take n heard)
near-front cut n sent heard h = record {
  as_many = omega (arith, h.as_many, length-take n sent, length-take n heard);
  near = subst (λ xs. distances xs (drop cut (take n heard)) < sure_of_any) (sym (drop-take-less cut n sent))
      (subst (λ xs. distances (take (n - cut) (drop cut sent)) xs < sure_of_any) (sym (drop-take-less cut n heard))
      (omega (arith, h.near, distances-front (n - cut) (drop cut sent) (drop cut heard))));
}

no-noise : (samples : List Sample) → distances samples samples ≡ 0
no-noise [] = refl
no-noise (sample ∷ samples) = omega (arith, no-noise samples, no_distance_from_equal sample sample refl)

-- ---- what was sent, from a symbol on

module _ (mode : Mode) (sent : List Bool) (samples heard : List Sample) (cut turns : ℕ) (m : Modulates (tap_of mode) sent samples)
    (h : AreNear cut samples heard) where
  abbrev tail : List ℕ
  tail = drop cut m.labels

  exact : drop cut samples ≡ map point_of tail
  exact = ap (drop cut) m.points ∙ drop-map point_of cut m.labels

  long : length tail ≡ length (drop cut heard)
  long = grind (arith, exact, length-points, length-drop)

  costs : cost far_from tail (drop cut heard) ≡ distances (drop cut samples) (drop cut heard)
  costs = sym (distances-cost tail (drop cut heard)) ∙ ap (λ xs. distances xs (drop cut heard)) (sym exact)

  tail-near : (bound : ℕ) → distances (drop cut samples) (drop cut heard) < bound → IsNear bound at_any tail (drop cut heard)
  tail-near bound few =
      let split = Leads-split next_state 0 (take cut m.labels) tail m.end
      (subst (λ labels. Leads next_state 0 labels m.end) (sym (take-append-drop cut m.labels)) m.encoded.leads) in
      let from : ℕ = split.0 in
      let low : from < 8 = leads-within 0 from (take cut m.labels) (omega arith) split.1 in
      record {
        end = m.end;
        sequence = record {
          code_sequence = record { from = from; starts_there = lt-ltb from 8 low; leads = split.2 };
          same_length = long;
        };
        near = omega (arith, few, costs);
      }

  near : IsNear sure_of_any at_any (labels_turned turns tail) (middle_of cut turns heard)
  near = turned-near sure_of_any turns tail (drop cut heard) (tail-near sure_of_any h.near)

  pub never-lost : LostIs any_trellis line_depth (middle_of cut turns heard) None
  never-lost = never-lost_any at_any line_depth (labels_turned turns tail) (middle_of cut turns heard) near (omega arith)

  carried : Demodulates (tap_of mode) m.labels sent
  carried = comes-back (tap_of mode) sent m.line m.quads m.labels m.end m.scrambled m.in_fours m.are_quads m.encoded

  module _ (pieces : List Found) (g : GivesPieces mode (middle_of cut turns heard) pieces) where
    abbrev count : ℕ
    count = length g.labels

    all : take (length (middle_of cut turns heard)) (middle_of cut turns heard) ≡ middle_of cut turns heard
    all = take_all (length (middle_of cut turns heard)) (middle_of cut turns heard) (omega arith)

    pub released : IsReleased any_trellis (take (length (middle_of cut turns heard)) (middle_of cut turns heard)) g.labels
    released = subst (λ xs. IsReleased any_trellis xs g.labels) (sym all) g.released

    begins : IsPrefixOf g.labels (labels_turned turns tail)
    begins = releases-near_of_any at_any (length (middle_of cut turns heard)) (labels_turned turns tail) g.labels
        (middle_of cut turns heard) near released

    labels-are : g.labels ≡ labels_turned turns (take count tail)
    labels-are = sym (take_at g.labels begins.0 count refl) ∙ ap (take count) begins.1 ∙ take-turned turns count tail

    front-carries : Demodulates (tap_of mode) (take (cut + count) m.labels) (take (4 * (cut + count)) sent)
    front-carries = first-stay (tap_of mode) (cut + count) m.labels sent (tap-small mode).0 carried

    picked : IsPickedUp (tap_of mode) (drop cut (take (cut + count) m.labels)) g.bits
    picked = grind (arith, drop-take, unturned, labels-are)

    -- up to where so many labels are released
    pub gives : (few : ℕ) → length (middle_of cut turns heard) ≤ count + few → AreHeardOf (4 * few) sent cut g.bits
    gives few released_few =
        let place : 4 * (cut + 1) + 23 ≡ 4 * cut + 27 = omega arith in
        record {
          upto = 4 * (cut + count);
          late = omega (
            arith,
            released_few,
            four-each (tap_of mode) m.labels sent carried,
            near.sequence.same_length,
            length-turned turns tail,
            length-drop cut m.labels,
          );
          bits_are = middle_is_sent (tap_of mode) cut (take (cut + count) m.labels) (take (4 * (cut + count)) sent) g.bits
              (tap-small mode).1 front-carries picked ∙ ap (λ n. drop n (take (4 * (cut + count)) sent)) place;
        }

    pub gives-near : AreHeardOf 464 sent cut g.bits
    gives-near = gives 116 (few-unreleased_any at_any (length (middle_of cut turns heard)) (labels_turned turns tail) g.labels
        (middle_of cut turns heard) (omega arith) near released)

    pub gives-exact : distances (drop cut samples) (drop cut heard) < 1 → AreHeardOf 116 sent cut g.bits
    gives-exact none =
        let without : IsNear 1 at_any (labels_turned turns tail) (middle_of cut turns heard) =
        turned-near 1 turns tail (drop cut heard) (tail-near 1 none) in
        gives 29 (few-without_noise at_any (length (middle_of cut turns heard)) (labels_turned turns tail) g.labels
        (middle_of cut turns heard) (omega arith) without released)

pub middles-give-what-was-sent : MiddlesGiveWhatWasSent
middles-give-what-was-sent mode sent samples heard cut turns pieces m h g = gives-near mode sent samples heard cut turns m h pieces g

pub middles-without-noise-give-more : MiddlesWithoutNoiseGiveMore
middles-without-noise-give-more mode sent samples cut turns pieces m g =
    let none : distances (drop cut samples) (drop cut samples) ≡ 0 = no-noise (drop cut samples) in
    let near : AreNear cut samples samples = record { as_many = refl; near = omega (arith, none) } in
    gives-exact mode sent samples samples cut turns m near pieces g (omega (arith, none))

pub middles-are-never-lost : MiddlesAreNeverLost
middles-are-never-lost mode sent samples heard cut turns m h = never-lost mode sent samples heard cut turns m h
