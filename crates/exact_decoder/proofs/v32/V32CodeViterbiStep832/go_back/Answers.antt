use Rattle.std.proofs.Common.{◌≡◌, ℕ, ◌+◌, ◌<◌, List, [], ◌∷◌, ◌++◌, length, get_or, slice_index, refl, ◌∙◌, sym, ap, arith}
use Rattle.std.specs.Simd.Lanes.{put_chunk}
use Rattle.std.proofs.lemmas.List.{get_or_append_left}
use Rattle.std.proofs.lemmas.Simd.{put_chunk_whole}
use Rattle.exact_decoder.proofs.Vectors.{each_of_eight}
use Rattle.exact_decoder.proofs.Alike.{all-one, one-differs}
use Rattle.exact_decoder.proofs.v32.V32CodeViterbiStep832.go_back.Goals as goal

-- the lanes of a list that is joined with itself
lane : (xs : List ℕ) (i : ℕ) → length xs ≡ 16 → i < 16 → get_or (xs ++ xs) i 0 ≡ get_or xs i 0
lane xs i long l = get_or_append_left xs xs 0 i (omega (arith, long))

-- the first eight of them, in the place of eight others
abbrev front : List ℕ → List ℕ
front xs = get_or (xs ++ xs) 0 0 ∷ get_or (xs ++ xs) 1 0 ∷ get_or (xs ++ xs) 2 0 ∷ get_or (xs ++ xs) 3 0 ∷ get_or (xs ++ xs) 4 0
    ∷ get_or (xs ++ xs) 5 0 ∷ get_or (xs ++ xs) 6 0 ∷ get_or (xs ++ xs) 7 0 ∷ []

fronts : (live xs : List ℕ) → length live ≡ 8 → length xs ≡ 16 → (s : ℕ) → s < 8 → slice_index (put_chunk 0 live (front xs)) s ≡
    slice_index xs s
fronts live xs long xs_long s l =
    ap (λ ys. slice_index ys s) (put_chunk_whole live (front xs) long) ∙ each_of_eight
    (λ s. slice_index (front xs) s ≡ get_or (xs ++ xs) s 0) refl refl refl refl refl refl refl refl _ l ∙ lane _ _ xs_long (omega arith)

-- the label of each state of the list
abbrev label : List ℕ → ℕ → ℕ
label xs i = get_or (xs ++ xs) (i + 8) 0

pub returns-then-is_one-clause-before : goal.returns-then-is_one-clause-before
returns-then-is_one-clause-before c s l = fronts _ _ (omega arith) c.taken_at-taken.ensures.long _ l ∙ c.taken_at-taken.ensures.before s l

pub returns-then-is_one-clause-label : goal.returns-then-is_one-clause-label
returns-then-is_one-clause-label c s l =
    let taken = c.taken_at-taken.result in
    let n = label taken in
    let told = sym (c.is_one.ensures (n 0) (n 1) (n 2) (n 3) (n 4) (n 5) (n 6) (n 7) refl) ∙ c.if-is_one.true in
    sym (c.taken_at-taken.ensures.labels s l) ∙ sym (lane taken (s + 8) c.taken_at-taken.ensures.long (omega arith)) ∙ all-one n told s l

pub returns-else-is_one-clause-before : goal.returns-else-is_one-clause-before
returns-else-is_one-clause-before c s l = fronts _ _ (omega arith) c.taken_at-taken.ensures.long _ l ∙ c.taken_at-taken.ensures.before s l

pub returns-else-is_one-clause-label : goal.returns-else-is_one-clause-label
returns-else-is_one-clause-label c =
    let taken = c.taken_at-taken.result in
    let long = c.taken_at-taken.ensures.long in
    let n = label taken in
    let told = sym (c.is_one.ensures (n 0) (n 1) (n 2) (n 3) (n 4) (n 5) (n 6) (n 7) refl) ∙ c.if-is_one.false in
    let (s, within, apart) = one-differs n told in
    record {
      s = s;
      t = 0;
      s_within = within;
      t_within = omega arith;
      apart = grind (arith, lane);
    }
