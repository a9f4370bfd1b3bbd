-- The step of the one state.
use Rattle.rate_4800.proofs.Names.{◌≡◌, ◌∙◌, ℕ, zero, suc, ◌+◌, ◌*◌, ◌%◌, ◌<◌, ◌≤◌, List, [], ◌∷◌, length, slice_index, refl, arith, ap}
use Rattle.rate_4800.proofs.Names.{sym, subst, each_of_four, choice_at, choice_by, point_of, key_of, IsNearestLabel, distance_of, Sample}
use Rattle.std.proofs.Common.{◌^◌}
use Rattle.exact_decoder.specs.Keys.{IsNearest, IsLeastWay}
use Rattle.exact_decoder.specs.Settled.{far_key, leveled, choice_in, chosen}
use Rattle.exact_decoder.specs.Advances.{Advances}
use Rattle.exact_decoder.proofs.Keeping.{leveled-near, settled-near}
use Rattle.rate_4800.specs.Code.{way_before, way_subset}

-- what holds of the one state
pub of_one : (P : ℕ → Type 0) → P 0 → (s : ℕ) → s < 1 → P s
of_one P p zero l = p
of_one P p (suc s) l = absurd (omega arith)

pub advanced : (sample : Sample) (sums : List ℕ) (label : ℕ) → length sums ≡ 1 → slice_index sums 0 ≡ 0 → IsNearestLabel sample label
    → Advances point_of 1 1 4 4 way_before way_subset sample sums sums (choice_by 0 label ∷ [])
advanced sample sums label long none h = record {
  nearest = keys;
  entered = own ∷ [];
  least = own;
  is_nearest = each_of_four (λ q. IsNearest point_of 1 sample q (slice_index keys q)) (alone 0) (alone 1) (alone 2) (alone 3);
  close = λ q l i m. subst (λ n. distance_of (point_of n) sample < 2 ^ 33) (omega arith) (h.close q l);
  into = of_one (λ to. IsLeastWay 4 way_before way_subset sums keys to (slice_index (own ∷ []) to)) (record {
    place = label;
    within = h.within;
    key_is = omega (arith, none, key-at label h.within);
    least = λ i l. omega (arith, none, key-at i l, h.least i l);
  });
  entered_long = refl;
  is_least = record {
    state = 0;
    within = omega arith;
    least_is = refl;
    below = of_one (λ s. own ≤ slice_index (own ∷ []) s) (omega arith);
  };
  settled = record {
    sums_long = long;
    column_long = refl;
    levels = of_one (λ s. slice_index sums s ≡ leveled (slice_index (own ∷ []) s) own s)
        (none ∙ omega (arith, leveled-near own own 0 near));
    choices = of_one (λ s. choice_at (choice_by 0 label ∷ []) s ≡ chosen (slice_index (own ∷ []) s) own)
        (ap (λ n. choice_by n label) (omega arith) ∙ ap (λ n. choice_by (own % 256) n) (omega (arith, h.within))
        ∙ sym (ap choice_in (settled-near own own near)));
  };
}
  where
    own : ℕ
    own = key_of sample label

    keys : List ℕ
    keys = key_of sample 0 ∷ key_of sample 1 ∷ key_of sample 2 ∷ key_of sample 3 ∷ []

    key-at : (q : ℕ) → q < 4 → slice_index keys q ≡ key_of sample q
    key-at = each_of_four (λ q. slice_index keys q ≡ key_of sample q) refl refl refl refl

    alone : (q : ℕ) → IsNearest point_of 1 sample q (key_of sample q)
    alone q =
        let here : q ≡ 1 * q + 0 = omega arith in
        subst (λ n. IsNearest point_of 1 sample q (key_of sample n)) (sym here) (record {
          place = 0;
          within = omega arith;
          key_is = refl;
          least = of_one (λ i. key_of sample (1 * q + 0) ≤ key_of sample (1 * q + i)) (omega arith);
        })

    near : own < far_key
    near = omega (arith, h.close label h.within, h.within)
