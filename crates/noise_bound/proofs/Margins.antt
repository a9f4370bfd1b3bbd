-- What a margin has measured, and what follows where that is little.
use Rattle.noise_bound.proofs.Names.{◌≡◌, ◌∙◌, ℕ, ◌+◌, List, [], ◌∷◌, ◌++◌, length, map, take, refl, sym, ap, subst, arith, take_all}
use Rattle.noise_bound.proofs.Names.{IsReleased, v32_code, bits_of, ModulatorStands, IsCostOf, Measured, MarginStands, only, Mode}
use Rattle.noise_bound.proofs.Names.{distance_of, point_of, Sample, far_from, cost}
use Rattle.std.proofs.lemmas.List.{length_push}
use Rattle.noise_bound.proofs.NoiselessCosts.{length-points}
use Rattle.noise_bound.proofs.Near.{releases-near, never-lost}
use Rattle.line_coding.specs.declared.modulator.Modulator.{Modulator}
use Rattle.line_coding.proofs.Standing.{modulated}
use Rattle.noise_bound.specs.Margins.{distances}
use Rattle.noise_bound.specs.Laws.{SureIsNear, SureIsDecoded}

-- one sample more
distances-snoc : (points samples : List Sample) (point sample : Sample) → length points ≡ length samples
    → distances (points ++ point ∷ []) (samples ++ sample ∷ []) ≡ distances points samples + distance_of point sample
distances-snoc [] [] point sample h = omega arith
distances-snoc [] (s ∷ samples) point sample h = absurd (omega arith)
distances-snoc (p ∷ points) [] point sample h = absurd (omega arith)
distances-snoc (p ∷ points) (s ∷ samples) point sample h =
    let same : length points ≡ length samples = omega arith in
    omega (arith, distances-snoc points samples point sample same)

-- one octet more, of two samples
pub measures-more : (mode : Mode) (old : Measured) (modulator : Modulator) (octets : List ℕ) (octet : ℕ) (samples : List Sample)
    (first second low high : Sample) (price count : ℕ) → (s : MarginStands mode old octets samples)
    → ModulatorStands mode modulator (bits_of (octets ++ octet ∷ [])) ((s.points ++ low ∷ []) ++ high ∷ [])
    → price ≡ old.cost + (distance_of low first + distance_of high second) → count ≡ old.count + 1
    → MarginStands mode (record { modulator = modulator; cost = price; count = count }) (octets ++ octet ∷ [])
    ((samples ++ first ∷ []) ++ second ∷ [])
measures-more mode old modulator octets octet samples first second low high price count s m e n =
    let one : length (s.points ++ low ∷ []) ≡ length (samples ++ first ∷ []) =
    omega (arith, s.same_length, length_push s.points low, length_push samples first) in
    record {
      points = (s.points ++ low ∷ []) ++ high ∷ [];
      modulator = m;
      two_each = omega (arith, s.two_each, length_push (samples ++ first ∷ []) second, length_push samples first, length_push octets octet);
      same_length = omega (arith, one, length_push (s.points ++ low ∷ []) high, length_push (samples ++ first ∷ []) second);
      cost_is = omega (
        arith,
        e,
        s.cost_is,
        distances-snoc (s.points ++ low ∷ []) (samples ++ first ∷ []) high second one,
        distances-snoc s.points samples low first s.same_length,
      );
      counted = omega (arith, n, s.counted, length_push octets octet);
    }

-- distances from points are what labels cost
pub distances-cost : (labels : List ℕ) (samples : List Sample) → distances (map point_of labels) samples ≡ cost far_from labels samples
distances-cost [] samples = refl
distances-cost (label ∷ labels) [] = refl
distances-cost (label ∷ labels) (sample ∷ samples) = ap (λ n. distance_of (point_of label) sample + n) (distances-cost labels samples)

pub measured : (mode : Mode) (m : Measured) (octets : List ℕ) (samples : List Sample) → MarginStands mode m octets samples
    → IsCostOf mode octets samples m.cost
measured mode m octets samples s =
    let r = modulated mode m.modulator (bits_of octets) s.points s.modulator in
    record {
      points = s.points;
      modulated = r;
      two_each = s.two_each;
      same_length = sym (ap length r.points ∙ length-points r.labels) ∙ s.same_length;
      price_is = s.cost_is ∙ ap (λ points. distances points samples) r.points ∙ distances-cost r.labels samples;
    }

pub sure-is-near : SureIsNear
sure-is-near mode octets samples price c low = record {
  end = c.modulated.end;
  sequence = record {
    code_sequence = record { from = 0; starts_there = refl; leads = c.modulated.encoded.leads };
    same_length = c.same_length;
  };
  near = omega (arith, c.price_is);
}

pub sure-is-decoded : SureIsDecoded
sure-is-decoded mode octets samples price depth c low deep =
    let near = sure-is-near mode octets samples price c low in
    let all : take (length samples) samples ≡ samples = take_all (length samples) samples (omega arith) in (
      never-lost 0 depth c.modulated.labels samples near deep,
      λ front r. releases-near 0 (length samples) c.modulated.labels front samples near
          (subst (λ k. IsReleased (v32_code (only 0)) k front) (sym all) r),
    )
