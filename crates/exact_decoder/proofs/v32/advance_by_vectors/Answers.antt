use Rattle.exact_decoder.proofs.Names.{◌≡◌, ℕ, ◌+◌, ◌*◌, ◌/◌, ◌^◌, ◌<◌, List, [], ◌∷◌, ◌++◌, length, arith, lit<, refl, sym, ◌∙◌, ap}
use Rattle.exact_decoder.proofs.Names.{ints, put_chunk_whole, w16, cast_signed, cast_unsigned, ℤ, zip2, pick_l, Advances, words, coordinate}
use Rattle.exact_decoder.proofs.Names.{sample_at, nearest_000, nearest_001, nearest_010, nearest_011, nearest_100, nearest_101, nearest_110}
use Rattle.exact_decoder.proofs.Names.{nearest_111, choice_by, Choice, point_of, Sample, way_before, way_subset}
use Rattle.exact_decoder.proofs.Vectors.{both, turned, words-are, each_of_eight}
use Rattle.exact_decoder.proofs.Small.{small-000, small-001, small-010, small-011, small-100, small-101, small-110, small-111}
use Rattle.exact_decoder.proofs.Eight.{key_into, key-small, least_of_eight, advances}
use Rattle.exact_decoder.proofs.v32.advance_by_vectors.Goals as goal

abbrev sample_of : ℤ → ℤ → Sample
sample_of re im = record { re = re; im = im }

-- a key of a state's metric alone
half-key : (metric state : ℕ) → metric < 2 ^ 23 → state < 8 → 256 * metric + state < 2 ^ 31
half-key metric state small few = omega arith

-- the step of lists that are equal
same_step : (a b : Sample) (p q m n : List ℕ) (c d : List Choice) → a ≡ b → p ≡ q → m ≡ n → c ≡ d
    → Advances point_of 8 4 8 4 way_before way_subset a p m c → Advances point_of 8 4 8 4 way_before way_subset b q n d
same_step a b p q m n c d i j k l h = grind (arith)

pub returns : goal.returns
returns v =
    let before_long : length v.args.column.now.before ≡ 8 = omega arith in
    let labels_long : length v.args.column.now.labels ≡ 8 = omega arith in
    let sample = v.args.sample in
    let re_read : cast_signed w16 (cast_unsigned w16 sample.re) ≡ sample.re = omega (arith, ints) in
    let im_read : cast_signed w16 (cast_unsigned w16 sample.im) ≡ sample.im = omega (arith, ints) in
    let x = v.counted.result in
    let y = v.counted-2.result in
    let lx = v.counted.ensures.bound in
    let ly = v.counted-2.ensures.bound in
    let sums = v.args.sums.now in
    let squares = v.nearest_squares-squares.ensures x y v.both_ways-at.ensures lx ly in
    let others = v.nearest_others-others.ensures x y v.both_ways-at.ensures lx ly in
    let (a, ma, isa) = v.requires.narrow 0 (lit< tt) in
    let (b, mb, isb) = v.requires.narrow 1 (lit< tt) in
    let (c, mc, isc) = v.requires.narrow 2 (lit< tt) in
    let (d, md, isd) = v.requires.narrow 3 (lit< tt) in
    let (e, me, ise) = v.requires.narrow 4 (lit< tt) in
    let (f, mf, isf) = v.requires.narrow 5 (lit< tt) in
    let (g, mg, isg) = v.requires.narrow 6 (lit< tt) in
    let (h, mh, ish) = v.requires.narrow 7 (lit< tt) in
    let was : sums ≡ words a b c d e f g h = words-are _ _ _ _ _ _ _ _ _ v.requires.long isa isb isc isd ise isf isg ish in
    let k : ℕ → ℕ = key_into x y a b c d e f g h in
    let few = each_of_eight (λ i. k i < 2 ^ 32) (key-small _ 0 _ _ _ _ ma (lit< tt) (small-000 _ _ lx ly))
    (key-small _ 2 _ _ _ _ mc (lit< tt) (small-000 _ _ lx ly)) (key-small _ 4 _ _ _ _ me (lit< tt) (small-000 _ _ lx ly))
    (key-small _ 6 _ _ _ _ mg (lit< tt) (small-000 _ _ lx ly)) (key-small _ 1 _ _ _ _ mb (lit< tt) (small-100 _ _ lx ly))
    (key-small _ 7 _ _ _ _ mh (lit< tt) (small-100 _ _ lx ly)) (key-small _ 5 _ _ _ _ mf (lit< tt) (small-100 _ _ lx ly))
    (key-small _ 3 _ _ _ _ md (lit< tt) (small-100 _ _ lx ly)) in
    let before = v.keys_of-before.ensures a b c d e f g h was ma mb mc md me mf mg mh in
    let first = v.enter_first-first.ensures (256 * a + 0) (256 * c + 2) (256 * e + 4) (256 * g + 6) (nearest_010 x y) (nearest_011 x y)
    (nearest_100 x y) (nearest_101 x y) (nearest_000 x y) (nearest_001 x y) (nearest_110 x y) (nearest_111 x y)
    (turned (0 ∷ 2 ∷ 4 ∷ 6 ∷ []) _ _ before) squares others (half-key _ 0 ma (lit< tt)) (half-key _ 2 mc (lit< tt))
    (half-key _ 4 me (lit< tt)) (half-key _ 6 mg (lit< tt)) (small-010 _ _ lx ly) (small-011 _ _ lx ly) (small-000 _ _ lx ly)
    (small-001 _ _ lx ly) in
    let second = v.enter_second-second.ensures (256 * b + 1) (256 * d + 3) (256 * f + 5) (256 * h + 7) (nearest_010 x y) (nearest_011 x y)
    (nearest_100 x y) (nearest_101 x y) (nearest_000 x y) (nearest_001 x y) (nearest_110 x y) (nearest_111 x y)
    (turned (1 ∷ 3 ∷ 5 ∷ 7 ∷ []) _ _ before) squares others (half-key _ 1 mb (lit< tt)) (half-key _ 3 md (lit< tt))
    (half-key _ 5 mf (lit< tt)) (half-key _ 7 mh (lit< tt)) (small-100 _ _ lx ly) (small-101 _ _ lx ly) (small-110 _ _ lx ly)
    (small-111 _ _ lx ly) in
    let (z, z_is, least) = v.least_in-least.ensures (k 0) (k 1) (k 2) (k 3) (k 4) (k 5) (k 6) (k 7) first second in
    let p = least_of_eight _ _ z_is in
    let keys = both (λ v w. pick_l 0 (v ++ w) (0 ∷ 1 ∷ 2 ∷ 3 ∷ 4 ∷ 5 ∷ 6 ∷ 7 ∷ [])) _ _ _ _ first second in
    let lowered = v.lowered.ensures (k 0) (k 1) (k 2) (k 3) (k 4) (k 5) (k 6) (k 7) z keys
    (turned (0 ∷ 0 ∷ 0 ∷ 0 ∷ 0 ∷ 0 ∷ 0 ∷ 0 ∷ []) _ _ least)
    (p.below_each 0 (lit< tt)) (p.below_each 1 (lit< tt)) (p.below_each 2 (lit< tt)) (p.below_each 3 (lit< tt))
    (p.below_each 4 (lit< tt)) (p.below_each 5 (lit< tt)) (p.below_each 6 (lit< tt)) (p.below_each 7 (lit< tt))
    (few 0 (lit< tt)) (few 1 (lit< tt)) (few 2 (lit< tt)) (few 3 (lit< tt)) (few 4 (lit< tt)) (few 5 (lit< tt))
    (few 6 (lit< tt)) (few 7 (lit< tt)) in
    let states = v.low_bits.ensures 3 (k 0) (k 1) (k 2) (k 3) (k 4) (k 5) (k 6) (k 7) refl keys in
    let labels = v.low_bits-2.ensures 5 (k 0 / 8) (k 1 / 8) (k 2 / 8) (k 3 / 8) (k 4 / 8) (k 5 / 8) (k 6 / 8) (k 7 / 8) refl
    (ap (λ v. zip2 (λ a b. a / 2 ^ b) v (3 ∷ 3 ∷ 3 ∷ 3 ∷ 3 ∷ 3 ∷ 3 ∷ 3 ∷ [])) keys) in
    let new_sums = put_chunk_whole sums v.lowered.result (v.requires.long ∙ sym (ap length lowered)) ∙ lowered in
    let new_states = put_chunk_whole v.args.column.now.before v.low_bits.result (before_long ∙ sym (ap length states)) ∙ states in
    let new_labels = put_chunk_whole v.args.column.now.labels v.low_bits-2.result (labels_long ∙ sym (ap length labels)) ∙ labels in
    let re_is : coordinate x ≡ sample.re = v.counted.ensures.value ∙ re_read in
    let im_is : coordinate y ≡ sample.im = v.counted-2.ensures.value ∙ im_read in
    let sample_is : sample_at x y ≡ sample = ap (λ n. sample_of n (coordinate y)) re_is ∙ ap (sample_of sample.re) im_is in
    let made = advances _ _ _ _ _ _ _ _ _ _ _ lx ly few p in
    same_step _ _ _ _ _ _ _ _ sample_is (sym was) (sym new_sums) (sym (both (zip2 choice_by) _ _ _ _ new_states new_labels)) made
