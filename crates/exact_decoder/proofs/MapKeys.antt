-- Keys of 32 bits stand for those of the definition.
use Rattle.exact_decoder.proofs.Names.{◌≡◌, ℕ, zero, suc, ◌+◌, ◌*◌, ◌<◌, ◌≤◌, ◌^◌, inl, inr, refl, arith, ◌∙◌, cases_lt, pos, IsNearest}
use Rattle.exact_decoder.proofs.Names.{AreClose, least_four, coordinate, sample_at, nearest_000, nearest_001, nearest_010, nearest_011}
use Rattle.exact_decoder.proofs.Names.{nearest_100, nearest_101, nearest_110, nearest_111, distance_of, squared_gap, point_of}
use Rattle.std.proofs.Common.{ℤ}
use Rattle.exact_decoder.proofs.Vectors.{each_of_four}
use Rattle.exact_decoder.proofs.Axes.{IsLine, below-1, below-2, below-3, below-4, above-0, above-1, above-2, above-3, above-4}

-- how far a sample is from the middle of the map
abbrev pub length_of : ℕ → ℕ → ℕ
length_of x y = squared_gap (pos 0) (coordinate x) + squared_gap (pos 0) (coordinate y)

-- a key of 32 bits stands for one of 64: both have a label and a state before, and the sum of the one follows from that of the other
pub record StandsFor (x y key word : ℕ) : Type 0 where
  pub metric : ℕ
  pub label : ℕ
  pub before : ℕ
  pub label_few : label < 32
  pub before_few : before < 8
  pub key_is : key ≡ 256 * metric + 8 * label + before
  pub word_is : word + 65536 * 1073741824 ≡ 65536 * (4096 * metric + length_of x y) + 256 * label + before

-- their order is the same
pub in_order : (x y a b c d : ℕ) → StandsFor x y a c → StandsFor x y b d → a ≤ b → c ≤ d
in_order x y a b c d s t h = omega (arith, s.key_is, t.key_is, s.word_is, t.word_is, s.label_few, t.label_few, s.before_few, t.before_few)

-- one of four is the least
pub record IsLeastOfFour (k : ℕ → ℕ) (least : ℕ) : Type 0 where
  pub place : ℕ
  pub within : place < 4
  pub is : least ≡ k place
  pub below_each : (i : ℕ) → i < 4 → k place ≤ k i

taken : (k : ℕ → ℕ) (place : ℕ) → place < 4 → least_four (k 0) (k 1) (k 2) (k 3) ≡ k place
    → IsLeastOfFour k (least_four (k 0) (k 1) (k 2) (k 3))
taken k place within is = grind (arith, each_of_four)

pub least_of_four : (k : ℕ → ℕ) → IsLeastOfFour k (least_four (k 0) (k 1) (k 2) (k 3))
least_of_four k =
    let a = k 0 in
    let b = k 1 in
    let c = k 2 in
    let d = k 3 in
    elim (cases_lt b a) [
      | inl ba ↦ elim (cases_lt d c) [
        | inl dc ↦ elim (cases_lt d b) [ inl db ↦ taken k 3 (omega arith) (omega arith) | inr bd ↦ taken k 1 (omega arith) (omega arith) ]
        | inr cd ↦ elim (cases_lt c b) [ inl cb ↦ taken k 2 (omega arith) (omega arith) | inr bc ↦ taken k 1 (omega arith) (omega arith) ]
      ]
      | inr ab ↦ elim (cases_lt d c) [
        | inl dc ↦ elim (cases_lt d a) [ inl da ↦ taken k 3 (omega arith) (omega arith) | inr ad ↦ taken k 0 (omega arith) (omega arith) ]
        | inr cd ↦ elim (cases_lt c a) [ inl ca ↦ taken k 2 (omega arith) (omega arith) | inr ac ↦ taken k 0 (omega arith) (omega arith) ]
      ]
    ]

-- the key of a label whose point is on two lines, one each way
pub record IsKey (x y label key distance : ℕ) : Type 0 where
  pub stands : StandsFor x y key (65536 * distance + 256 * label)
  pub no_state : stands.before ≡ 0
  pub close : distance < 2 ^ 33

pub on : (x y label : ℕ) (a b : ℤ) (k l key : ℕ) → label < 32 → IsLine x a k → IsLine y b l → key ≡ k + l + 8 * label
    → IsKey x y label key (squared_gap a (coordinate x) + squared_gap b (coordinate y))
on x y label a b k l key few p q is = record {
  stands = record {
    metric = p.metric + q.metric;
    label = label;
    before = 0;
    label_few = few;
    before_few = omega arith;
    key_is = omega (arith, is, p.key_is, q.key_is);
    word_is = omega (arith, p.tied, q.tied);
  };
  no_state = refl;
  close = omega (arith, p.close, q.close);
}

-- the key of a subset stands for that of its nearest label
pub record IsNearestKey (x y subset key : ℕ) : Type 0 where
  pub word : ℕ
  pub nearest : IsNearest point_of 4 (sample_at x y) subset word
  pub stands : StandsFor x y key word
  pub no_state : stands.before ≡ 0
  pub close : AreClose point_of 4 (sample_at x y) subset

abbrev pub four_keys : ℕ → ℕ → ℕ → ℕ → ℕ → ℕ
four_keys a b c d zero = a
four_keys a b c d (suc zero) = b
four_keys a b c d (suc (suc zero)) = c
four_keys a b c d (suc (suc (suc i))) = d

abbrev IsKeyOf : ℕ → ℕ → ℕ → ℕ → ℕ → Type 0
IsKeyOf x y subset i key = IsKey x y (4 * subset + i) key (distance_of (point_of (4 * subset + i)) (sample_at x y))

nearest : (x y subset a b c d : ℕ) → IsKeyOf x y subset 0 a → IsKeyOf x y subset 1 b → IsKeyOf x y subset 2 c → IsKeyOf x y subset 3 d
    → IsNearestKey x y subset (least_four a b c d)
nearest x y subset a b c d ka kb kc kd =
    let k : ℕ → ℕ = four_keys a b c d in
    let keys = each_of_four (λ i. IsKeyOf x y subset i (k i)) ka kb kc kd in
    let p = least_of_four k in
    let word : ℕ → ℕ = λ i. 65536 * distance_of (point_of (4 * subset + i)) (sample_at x y) + 256 * (4 * subset + i) in
    let own = keys p.place p.within in
    let stands : (i : ℕ) → i < 4 → StandsFor x y (k i) (word i) = λ i l. (keys i l).stands in
    record {
      word = word p.place;
      nearest = record {
        place = p.place;
        within = p.within;
        key_is = refl;
        least = λ i l. in_order x y (k p.place) (k i) (word p.place) (word i) own.stands (stands i l) (p.below_each i l);
      };
      stands = record {
        metric = own.stands.metric;
        label = own.stands.label;
        before = own.stands.before;
        label_few = own.stands.label_few;
        before_few = own.stands.before_few;
        key_is = p.is ∙ own.stands.key_is;
        word_is = own.stands.word_is;
      };
      no_state = own.no_state;
      close = λ i l. (keys i l).close;
    }

pub nearest-000 : (x y : ℕ) → x < 65536 → y < 65536 → IsNearestKey x y 0 (nearest_000 x y)
nearest-000 x y lx ly =
    nearest _ _ 0 _ _ _ _ (on _ _ 0 _ _ _ _ _ (omega arith) (below-4 _ lx) (above-1 _ ly) (omega arith))
    (on _ _ 1 _ _ _ _ _ (omega arith) (above-0 _ lx) (below-3 _ ly) (omega arith))
    (on _ _ 2 _ _ _ _ _ (omega arith) (above-0 _ lx) (above-1 _ ly) (omega arith))
    (on _ _ 3 _ _ _ _ _ (omega arith) (above-4 _ lx) (above-1 _ ly) (omega arith))

pub nearest-001 : (x y : ℕ) → x < 65536 → y < 65536 → IsNearestKey x y 1 (nearest_001 x y)
nearest-001 x y lx ly =
    nearest _ _ 1 _ _ _ _ (on _ _ 4 _ _ _ _ _ (omega arith) (above-4 _ lx) (below-1 _ ly) (omega arith))
    (on _ _ 5 _ _ _ _ _ (omega arith) (above-0 _ lx) (above-3 _ ly) (omega arith))
    (on _ _ 6 _ _ _ _ _ (omega arith) (above-0 _ lx) (below-1 _ ly) (omega arith))
    (on _ _ 7 _ _ _ _ _ (omega arith) (below-4 _ lx) (below-1 _ ly) (omega arith))

pub nearest-010 : (x y : ℕ) → x < 65536 → y < 65536 → IsNearestKey x y 2 (nearest_010 x y)
nearest-010 x y lx ly =
    nearest _ _ 2 _ _ _ _ (on _ _ 8 _ _ _ _ _ (omega arith) (below-2 _ lx) (above-3 _ ly) (omega arith))
    (on _ _ 9 _ _ _ _ _ (omega arith) (below-2 _ lx) (below-1 _ ly) (omega arith))
    (on _ _ 10 _ _ _ _ _ (omega arith) (above-2 _ lx) (above-3 _ ly) (omega arith))
    (on _ _ 11 _ _ _ _ _ (omega arith) (above-2 _ lx) (below-1 _ ly) (omega arith))

pub nearest-011 : (x y : ℕ) → x < 65536 → y < 65536 → IsNearestKey x y 3 (nearest_011 x y)
nearest-011 x y lx ly =
    nearest _ _ 3 _ _ _ _ (on _ _ 12 _ _ _ _ _ (omega arith) (above-2 _ lx) (below-3 _ ly) (omega arith))
    (on _ _ 13 _ _ _ _ _ (omega arith) (above-2 _ lx) (above-1 _ ly) (omega arith))
    (on _ _ 14 _ _ _ _ _ (omega arith) (below-2 _ lx) (below-3 _ ly) (omega arith))
    (on _ _ 15 _ _ _ _ _ (omega arith) (below-2 _ lx) (above-1 _ ly) (omega arith))

pub nearest-100 : (x y : ℕ) → x < 65536 → y < 65536 → IsNearestKey x y 4 (nearest_100 x y)
nearest-100 x y lx ly =
    nearest _ _ 4 _ _ _ _ (on _ _ 16 _ _ _ _ _ (omega arith) (below-3 _ lx) (below-2 _ ly) (omega arith))
    (on _ _ 17 _ _ _ _ _ (omega arith) (above-1 _ lx) (below-2 _ ly) (omega arith))
    (on _ _ 18 _ _ _ _ _ (omega arith) (below-3 _ lx) (above-2 _ ly) (omega arith))
    (on _ _ 19 _ _ _ _ _ (omega arith) (above-1 _ lx) (above-2 _ ly) (omega arith))

pub nearest-101 : (x y : ℕ) → x < 65536 → y < 65536 → IsNearestKey x y 5 (nearest_101 x y)
nearest-101 x y lx ly =
    nearest _ _ 5 _ _ _ _ (on _ _ 20 _ _ _ _ _ (omega arith) (above-3 _ lx) (above-2 _ ly) (omega arith))
    (on _ _ 21 _ _ _ _ _ (omega arith) (below-1 _ lx) (above-2 _ ly) (omega arith))
    (on _ _ 22 _ _ _ _ _ (omega arith) (above-3 _ lx) (below-2 _ ly) (omega arith))
    (on _ _ 23 _ _ _ _ _ (omega arith) (below-1 _ lx) (below-2 _ ly) (omega arith))

pub nearest-110 : (x y : ℕ) → x < 65536 → y < 65536 → IsNearestKey x y 6 (nearest_110 x y)
nearest-110 x y lx ly =
    nearest _ _ 6 _ _ _ _ (on _ _ 24 _ _ _ _ _ (omega arith) (above-1 _ lx) (above-4 _ ly) (omega arith))
    (on _ _ 25 _ _ _ _ _ (omega arith) (below-3 _ lx) (above-0 _ ly) (omega arith))
    (on _ _ 26 _ _ _ _ _ (omega arith) (above-1 _ lx) (above-0 _ ly) (omega arith))
    (on _ _ 27 _ _ _ _ _ (omega arith) (above-1 _ lx) (below-4 _ ly) (omega arith))

pub nearest-111 : (x y : ℕ) → x < 65536 → y < 65536 → IsNearestKey x y 7 (nearest_111 x y)
nearest-111 x y lx ly =
    nearest _ _ 7 _ _ _ _ (on _ _ 28 _ _ _ _ _ (omega arith) (below-1 _ lx) (below-4 _ ly) (omega arith))
    (on _ _ 29 _ _ _ _ _ (omega arith) (above-3 _ lx) (above-0 _ ly) (omega arith))
    (on _ _ 30 _ _ _ _ _ (omega arith) (below-1 _ lx) (above-0 _ ly) (omega arith))
    (on _ _ 31 _ _ _ _ _ (omega arith) (below-1 _ lx) (above-4 _ ly) (omega arith))
