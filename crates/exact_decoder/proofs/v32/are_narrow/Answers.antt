use Rattle.exact_decoder.proofs.Names.{◌≡◌, ◌%◌, ◌<◌, nat_eq, true, List, ℕ, [], ◌∷◌, bit_and, take, arith, ◌∙◌, ap, subst}
use Rattle.exact_decoder.proofs.Names.{take_all, tops_compared, zip2, mask_l, lit<, slice_index, IsNarrow}
use Rattle.std.proofs.Common.{w64}
use Rattle.exact_decoder.proofs.Vectors.{lanes-are, each_of_eight}
use Rattle.exact_decoder.proofs.Narrow.{are-set, narrow-lane}
use Rattle.exact_decoder.proofs.v32.are_narrow.Goals as goal

abbrev masks : List ℕ
masks = 18444492274164236288 ∷ 18444492274164236288 ∷ 18444492274164236288 ∷ 18444492274164236288
    ∷ 18444492274164236288 ∷ 18444492274164236288 ∷ 18444492274164236288 ∷ 18444492274164236288 ∷ []

abbrev zeros : List ℕ
zeros = 0 ∷ 0 ∷ 0 ∷ 0 ∷ 0 ∷ 0 ∷ 0 ∷ 0 ∷ []

pub returns : goal.returns
returns c told =
    let sums = c.args.sums.now in
    let lanes = take_all 8 sums (omega (arith, c.requires.long)) ∙ lanes-are sums c.requires.long in
    let tests = ap mask_l (tops_compared w64 nat_eq (zip2 bit_and (take 8 sums) masks) zeros)
    ∙ ap (λ xs. mask_l (zip2 nat_eq (zip2 bit_and xs masks) zeros)) lanes in
    let set = are-set _ _ _ _ _ _ _ _ (subst (λ n. nat_eq (n % 18446744073709551616) 255 ≡ true) tests told) in
    let at : (s : ℕ) → s < 8 → nat_eq (bit_and (slice_index sums s) 18444492274164236288) 0 ≡ true → IsNarrow (slice_index sums s) s =
    λ s low. narrow-lane sums s (c.requires.small s low) (c.requires.states s low) in
    each_of_eight (λ s. IsNarrow (slice_index sums s) s) (at 0 (lit< tt) set.a_set) (at 1 (lit< tt) set.b_set) (at 2 (lit< tt) set.c_set)
    (at 3 (lit< tt) set.d_set) (at 4 (lit< tt) set.e_set) (at 5 (lit< tt) set.f_set) (at 6 (lit< tt) set.g_set) (at 7 (lit< tt) set.h_set)
