-- The least keys of eight states, each of 32 bits, stand for those of the definition.
use Rattle.exact_decoder.proofs.Names.{◌≡◌, ℕ, zero, suc, ◌+◌, ◌-◌, ◌*◌, ◌/◌, ◌%◌, ◌<◌, ◌≤◌, ◌^◌, min, inl, inr, List, [], ◌∷◌, slice_index}
use Rattle.exact_decoder.proofs.Names.{refl, arith, sym, ◌∙◌, ap, subst, min-le_left, min-le_right, zip2, Advances, IsNearest, AreClose}
use Rattle.exact_decoder.proofs.Names.{IsLeastWay, least_four, words, sample_at, nearest_000, nearest_001, nearest_010, nearest_011}
use Rattle.exact_decoder.proofs.Names.{nearest_100, nearest_101, nearest_110, nearest_111, far_key, leveled, choice_in, chosen, choice_by}
use Rattle.exact_decoder.proofs.Names.{point_of, way_before, way_subset}
use Rattle.exact_decoder.proofs.Keeping.{leveled-near, settled-near}
use Rattle.exact_decoder.proofs.Vectors.{each_of_four, each_of_eight}
use Rattle.exact_decoder.proofs.Subsets.{min-one}
use Rattle.exact_decoder.proofs.Axes.{above-0}
use Rattle.exact_decoder.proofs.MapKeys.{StandsFor, IsNearestKey, IsLeastOfFour, four_keys, length_of, in_order, least_of_four, nearest-000}
use Rattle.exact_decoder.proofs.MapKeys.{nearest-001, nearest-010, nearest-011, nearest-100, nearest-101, nearest-110, nearest-111}

-- the key by way of one
by_way : {x y subset key : ℕ} (metric state : ℕ) → state < 8 → (n : IsNearestKey x y subset key)
    → StandsFor x y (256 * metric + state + key) (268435456 * metric + state + n.word)
by_way metric state few n = record {
  metric = metric + n.stands.metric;
  label = n.stands.label;
  before = state;
  label_few = n.stands.label_few;
  before_few = few;
  key_is = omega (arith, n.stands.key_is, n.no_state);
  word_is = omega (arith, n.stands.word_is, n.no_state);
}

-- the least key of the ways into a state
pub record IsEntered (x y : ℕ) (sums nearest : List ℕ) (to key : ℕ) : Type 0 where
  pub word : ℕ
  pub least : IsLeastWay 4 way_before way_subset sums nearest to word
  pub stands : StandsFor x y key word

entered : (x y : ℕ) (sums nearest : List ℕ) (to a b c d : ℕ)
    → StandsFor x y a (slice_index sums (way_before to 0) + slice_index nearest (way_subset to 0))
    → StandsFor x y b (slice_index sums (way_before to 1) + slice_index nearest (way_subset to 1))
    → StandsFor x y c (slice_index sums (way_before to 2) + slice_index nearest (way_subset to 2))
    → StandsFor x y d (slice_index sums (way_before to 3) + slice_index nearest (way_subset to 3))
    → IsEntered x y sums nearest to (least_four a b c d)
entered x y sums nearest to a b c d sa sb sc sd =
    let k : ℕ → ℕ = four_keys a b c d in
    let p = least_of_four k in
    let word : ℕ → ℕ = λ i. slice_index sums (way_before to i) + slice_index nearest (way_subset to i) in
    let ways = each_of_four (λ i. StandsFor x y (k i) (word i)) sa sb sc sd in
    let own = ways p.place p.within in
    record {
      word = word p.place;
      least = record {
        place = p.place;
        within = p.within;
        key_is = refl;
        least = λ i l. in_order x y (k p.place) (k i) (word p.place) (word i) own (ways i l) (p.below_each i l);
      };
      stands = subst (λ n. StandsFor x y n (word p.place)) (sym p.is) own;
    }

-- the least of eight keys
pub record IsLeastOfEight (k : ℕ → ℕ) (least : ℕ) : Type 0 where
  pub place : ℕ
  pub within : place < 8
  pub is : least ≡ k place
  pub below_each : (i : ℕ) → i < 8 → least ≤ k i

pub least_of_eight : (k : ℕ → ℕ) (least : ℕ)
    → least ≡ least_four (min (k 0) (k 4)) (min (k 2) (k 6)) (min (k 1) (k 5)) (min (k 3) (k 7)) → IsLeastOfEight k least
least_of_eight k least e = record {
  place = own.0;
  within = own.1;
  is = e ∙ p.is ∙ own.2;
  below_each = grind (arith, each_of_eight, left, right);
}
  where
    pairs : ℕ → ℕ
    pairs = four_keys (min (k 0) (k 4)) (min (k 2) (k 6)) (min (k 1) (k 5)) (min (k 3) (k 7))

    p : IsLeastOfFour pairs (least_four (pairs 0) (pairs 1) (pairs 2) (pairs 3))
    p = least_of_four pairs

    one : (i j : ℕ) → i < 8 → j < 8 → (n : ℕ) × (n < 8) × (min (k i) (k j) ≡ k n)
    one i j l r = elim (min-one (k i) (k j)) [ inl first ↦ (i, l, first) | inr second ↦ (j, r, second) ]

    own : (n : ℕ) × (n < 8) × (pairs p.place ≡ k n)
    own = each_of_four (λ i. (n : ℕ) × (n < 8) × (pairs i ≡ k n)) (one 0 4 (omega arith) (omega arith))
        (one 2 6 (omega arith) (omega arith)) (one 1 5 (omega arith) (omega arith)) (one 3 7 (omega arith) (omega arith)) p.place p.within

    under : (a b c d : ℕ) → a ≡ b → b ≤ c → c ≤ d → a ≤ d
    under a b c d i l n = omega arith

    left : (pair i j : ℕ) → pair < 4 → pairs pair ≡ min (k i) (k j) → least ≤ k i
    left pair i j l is = under _ _ _ _ (e ∙ p.is) (p.below_each pair l) (subst (λ n. n ≤ k i) (sym is) (min-le_left (k i) (k j)))

    right : (pair i j : ℕ) → pair < 4 → pairs pair ≡ min (k i) (k j) → least ≤ k j
    right pair i j l is = under _ _ _ _ (e ∙ p.is) (p.below_each pair l) (subst (λ n. n ≤ k j) (sym is) (min-le_right (k i) (k j)))

-- a key of 32 bits stands for one of a state to which a sequence leads
stands-near : (x y key word : ℕ) → x < 65536 → y < 65536 → key < 2 ^ 32 → StandsFor x y key word → word < far_key
stands-near x y key word lx ly few s = omega
    (arith, s.key_is, s.word_is, s.label_few, s.before_few, (above-0 x lx).close, (above-0 y ly).close)

-- what is left of it without the least
level-is : (x y key word least other to : ℕ) → x < 65536 → y < 65536 → key < 2 ^ 32 → least ≤ key → StandsFor x y key word
    → StandsFor x y least other
    → 268435456 * (key / 256 - least / 256) + to ≡ leveled word other to
level-is x y key word least other to lx ly few below s t =
    let a : key / 256 ≡ s.metric = omega (arith, s.key_is, s.label_few, s.before_few) in
    let b : least / 256 ≡ t.metric = omega (arith, t.key_is, t.label_few, t.before_few) in
    let c : word / 65536 + 1073741824 ≡ 4096 * s.metric + length_of x y = omega (arith, s.word_is, s.label_few, s.before_few) in
    let d : other / 65536 + 1073741824 ≡ 4096 * t.metric + length_of x y = omega (arith, t.word_is, t.label_few, t.before_few) in
    omega (arith, a, b, c, d, below, leveled-near word other to (stands-near x y key word lx ly few s))

-- and its choice
choice-is : (x y key word other : ℕ) → x < 65536 → y < 65536 → key < 2 ^ 32 → StandsFor x y key word
    → choice_by (key % 8) (key / 8 % 32) ≡ chosen word other
choice-is x y key word other lx ly few s =
    let a : key % 8 ≡ word % 256 = omega (arith, s.key_is, s.word_is, s.label_few, s.before_few) in
    let b : key / 8 % 32 ≡ word / 256 % 256 = omega (arith, s.key_is, s.word_is, s.label_few, s.before_few) in
    ap (λ n. choice_by n (key / 8 % 32)) a ∙ ap (choice_by (word % 256)) b
    ∙ ap choice_in (sym (settled-near word other (stands-near x y key word lx ly few s)))

-- the least keys of the ways into the states, by the metrics of the states before
abbrev pub key_into : (x y a b c d e f g h : ℕ) → ℕ → ℕ
key_into x y a b c d e f g h zero = least_four (256 * a + 0 + nearest_000 x y) (256 * g + 6 + nearest_001 x y)
    (256 * e + 4 + nearest_010 x y) (256 * c + 2 + nearest_011 x y)
key_into x y a b c d e f g h (suc zero) = least_four (256 * c + 2 + nearest_000 x y) (256 * e + 4 + nearest_001 x y)
    (256 * g + 6 + nearest_010 x y) (256 * a + 0 + nearest_011 x y)
key_into x y a b c d e f g h (suc (suc zero)) = least_four (256 * e + 4 + nearest_000 x y) (256 * c + 2 + nearest_001 x y)
    (256 * a + 0 + nearest_010 x y) (256 * g + 6 + nearest_011 x y)
key_into x y a b c d e f g h (suc (suc (suc zero))) = least_four (256 * g + 6 + nearest_000 x y) (256 * a + 0 + nearest_001 x y)
    (256 * c + 2 + nearest_010 x y) (256 * e + 4 + nearest_011 x y)
key_into x y a b c d e f g h (suc (suc (suc (suc zero)))) = least_four (256 * b + 1 + nearest_100 x y) (256 * h + 7 + nearest_101 x y)
    (256 * d + 3 + nearest_110 x y) (256 * f + 5 + nearest_111 x y)
key_into x y a b c d e f g h (suc (suc (suc (suc (suc zero))))) = least_four (256 * h + 7 + nearest_100 x y)
    (256 * b + 1 + nearest_101 x y)
    (256 * f + 5 + nearest_110 x y) (256 * d + 3 + nearest_111 x y)
key_into x y a b c d e f g h (suc (suc (suc (suc (suc (suc zero)))))) = least_four (256 * f + 5 + nearest_100 x y)
    (256 * d + 3 + nearest_101 x y)
    (256 * h + 7 + nearest_110 x y) (256 * b + 1 + nearest_111 x y)
key_into x y a b c d e f g h (suc (suc (suc (suc (suc (suc (suc n))))))) = least_four (256 * d + 3 + nearest_100 x y)
    (256 * f + 5 + nearest_101 x y)
    (256 * b + 1 + nearest_110 x y) (256 * h + 7 + nearest_111 x y)

pub key-small : (metric state key b c d : ℕ) → metric < 2 ^ 23 → state < 8 → key < 2 ^ 31
    → least_four (256 * metric + state + key) b c d < 2 ^ 32
key-small metric state key b c d l few h = omega arith

-- the step of keys of 32 bits is the definition's
pub advances : (x y a b c d e f g h z : ℕ) → x < 65536 → y < 65536
    → ((i : ℕ) → i < 8 → key_into x y a b c d e f g h i < 2 ^ 32) → IsLeastOfEight (key_into x y a b c d e f g h) z
    → let k = key_into x y a b c d e f g h in
    Advances point_of 8 4 8 4 way_before way_subset (sample_at x y) (words a b c d e f g h)
    (words (k 0 / 256 - z / 256) (k 1 / 256 - z / 256) (k 2 / 256 - z / 256) (k 3 / 256 - z / 256)
    (k 4 / 256 - z / 256) (k 5 / 256 - z / 256) (k 6 / 256 - z / 256) (k 7 / 256 - z / 256))
    (zip2 choice_by (k 0 % 8 ∷ k 1 % 8 ∷ k 2 % 8 ∷ k 3 % 8 ∷ k 4 % 8 ∷ k 5 % 8 ∷ k 6 % 8 ∷ k 7 % 8 ∷ [])
    (k 0 / 8 % 32 ∷ k 1 / 8 % 32 ∷ k 2 / 8 % 32 ∷ k 3 / 8 % 32 ∷ k 4 / 8 % 32 ∷ k 5 / 8 % 32 ∷ k 6 / 8 % 32 ∷ k 7 / 8 % 32 ∷ []))
advances x y a b c d e f g h z lx ly few least =
    let k = key_into x y a b c d e f g h in
    let sums = words a b c d e f g h in
    let n0 = nearest-000 x y lx ly in
    let n1 = nearest-001 x y lx ly in
    let n2 = nearest-010 x y lx ly in
    let n3 = nearest-011 x y lx ly in
    let n4 = nearest-100 x y lx ly in
    let n5 = nearest-101 x y lx ly in
    let n6 = nearest-110 x y lx ly in
    let n7 = nearest-111 x y lx ly in
    let labels = n0.word ∷ n1.word ∷ n2.word ∷ n3.word ∷ n4.word ∷ n5.word ∷ n6.word ∷ n7.word ∷ [] in
    let e0 = entered x y sums labels 0 _ _ _ _ (by_way a 0 (omega arith) n0) (by_way g 6 (omega arith) n1)
    (by_way e 4 (omega arith) n2) (by_way c 2 (omega arith) n3) in
    let e1 = entered x y sums labels 1 _ _ _ _ (by_way c 2 (omega arith) n0) (by_way e 4 (omega arith) n1)
    (by_way g 6 (omega arith) n2) (by_way a 0 (omega arith) n3) in
    let e2 = entered x y sums labels 2 _ _ _ _ (by_way e 4 (omega arith) n0) (by_way c 2 (omega arith) n1)
    (by_way a 0 (omega arith) n2) (by_way g 6 (omega arith) n3) in
    let e3 = entered x y sums labels 3 _ _ _ _ (by_way g 6 (omega arith) n0) (by_way a 0 (omega arith) n1)
    (by_way c 2 (omega arith) n2) (by_way e 4 (omega arith) n3) in
    let e4 = entered x y sums labels 4 _ _ _ _ (by_way b 1 (omega arith) n4) (by_way h 7 (omega arith) n5)
    (by_way d 3 (omega arith) n6) (by_way f 5 (omega arith) n7) in
    let e5 = entered x y sums labels 5 _ _ _ _ (by_way h 7 (omega arith) n4) (by_way b 1 (omega arith) n5)
    (by_way f 5 (omega arith) n6) (by_way d 3 (omega arith) n7) in
    let e6 = entered x y sums labels 6 _ _ _ _ (by_way f 5 (omega arith) n4) (by_way d 3 (omega arith) n5)
    (by_way h 7 (omega arith) n6) (by_way b 1 (omega arith) n7) in
    let e7 = entered x y sums labels 7 _ _ _ _ (by_way d 3 (omega arith) n4) (by_way f 5 (omega arith) n5)
    (by_way b 1 (omega arith) n6) (by_way h 7 (omega arith) n7) in
    let keys = e0.word ∷ e1.word ∷ e2.word ∷ e3.word ∷ e4.word ∷ e5.word ∷ e6.word ∷ e7.word ∷ [] in
    let stands = each_of_eight (λ s. StandsFor x y (k s) (slice_index keys s))
    e0.stands e1.stands e2.stands e3.stands e4.stands e5.stands e6.stands e7.stands in
    let under : StandsFor x y z (slice_index keys least.place) =
    subst (λ n. StandsFor x y n (slice_index keys least.place)) (sym least.is) (stands least.place least.within) in
    let level = λ (s : ℕ) (l : s < 8). level-is x y (k s) (slice_index keys s) z (slice_index keys least.place) s lx ly (few s l)
    (least.below_each s l) (stands s l) under in
    let choice = λ (s : ℕ) (l : s < 8). choice-is x y (k s) (slice_index keys s) (slice_index keys least.place) lx ly (few s l)
    (stands s l) in
    record {
      nearest = labels;
      entered = keys;
      least = slice_index keys least.place;
      is_nearest = each_of_eight (λ q. IsNearest point_of 4 (sample_at x y) q (slice_index labels q))
          n0.nearest n1.nearest n2.nearest n3.nearest n4.nearest n5.nearest n6.nearest n7.nearest;
      close = each_of_eight (λ q. AreClose point_of 4 (sample_at x y) q) n0.close n1.close n2.close n3.close n4.close n5.close n6.close
          n7.close;
      into = each_of_eight (λ to. IsLeastWay 4 way_before way_subset sums labels to (slice_index keys to))
          e0.least e1.least e2.least e3.least e4.least e5.least e6.least e7.least;
      entered_long = refl;
      is_least = record {
        state = least.place;
        within = least.within;
        least_is = refl;
        below = λ s l. in_order x y (k least.place) (k s) (slice_index keys least.place) (slice_index keys s)
            (stands least.place least.within)
            (stands s l) (omega (arith, least.is, least.below_each s l));
      };
      settled = record {
        sums_long = refl;
        column_long = refl;
        levels = each_of_eight _ (level 0 (omega arith)) (level 1 (omega arith)) (level 2 (omega arith)) (level 3 (omega arith))
            (level 4 (omega arith)) (level 5 (omega arith)) (level 6 (omega arith)) (level 7 (omega arith));
        choices = each_of_eight _ (choice 0 (omega arith)) (choice 1 (omega arith)) (choice 2 (omega arith)) (choice 3 (omega arith))
            (choice 4 (omega arith)) (choice 5 (omega arith)) (choice 6 (omega arith)) (choice 7 (omega arith));
      };
    }
