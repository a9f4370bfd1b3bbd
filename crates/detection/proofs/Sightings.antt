-- The patterns of a stream of bits, place by place.
use Rattle.detection.proofs.Names.{◌≡◌, ℕ, zero, suc, ◌+◌, ◌<◌, ◌≤◌, Bool, List, [], ◌∷◌, ◌++◌, All, length, take, Option, Some, None}
use Rattle.detection.proofs.Names.{arith, append_assoc, length-append, refl, sym, ◌∙◌, ap, subst, append-nil, take-append-le, Seen}
use Rattle.std.proofs.lemmas.List.{take_all}
use Rattle.std.proofs.lemmas.List.Elements.{All-append, All-cons, All-nil}
use Rattle.detection.specs.Patterns.{seen_at}
use Rattle.detection.specs.Sights.{Sight, sights_at, sights_before, sights_of, SightsAdded}

-- what is seen at so many places behind a start, where these are the answers
abbrev pub ranged : (ℕ → Option Seen) → ℕ → ℕ → List Sight
ranged own start zero = []
ranged own start (suc n) = ranged own start n ++ sights_at (start + suc n) (own (suc n))

pub sights-none : sights_of [] ≡ []
unfolding sights_of
sights-none = refl

pub before-front : (bits more : List Bool) (n : ℕ) → n ≤ length bits → sights_before (bits ++ more) n ≡ sights_before bits n
before-front bits more zero h = refl
before-front bits more (suc n) h = grind (arith, take-append-le, before-front bits more n (omega arith))

before-ranged : (bits more : List Bool) (own : ℕ → Option Seen) (n : ℕ) → n ≤ length more
    → ((p : ℕ) → 0 < p → p ≤ n → seen_at (take (length bits + p) (bits ++ more)) ≡ own p)
    → sights_before (bits ++ more) (length bits + n) ≡ sights_before bits (length bits) ++ ranged own (length bits) n
before-ranged bits more own zero h is = grind (arith, before-front, append-nil)
before-ranged bits more own (suc n) h is =
    let e : length bits + suc n ≡ suc (length bits + n) = omega arith in
    let before = before-ranged bits more own n (omega arith) (λ p low high. is p low (omega arith)) in
    ap (sights_before (bits ++ more)) e
    ∙ ap (λ m. sights_before (bits ++ more) (length bits + n) ++ sights_at m (seen_at (take m (bits ++ more)))) (sym e)
    ∙ ap (λ a. sights_before (bits ++ more) (length bits + n) ++ sights_at (length bits + suc n) a) (is (suc n) (omega arith) (omega arith))
    ∙ ap (λ l. l ++ sights_at (length bits + suc n) (own (suc n))) before
    ∙ append_assoc (sights_before bits (length bits)) (ranged own (length bits) n) (sights_at (length bits + suc n) (own (suc n)))

pub sights-ranged : (bits more : List Bool) (own : ℕ → Option Seen)
    → ((p : ℕ) → 0 < p → p ≤ length more → seen_at (take (length bits + p) (bits ++ more)) ≡ own p)
    → sights_of (bits ++ more) ≡ sights_of bits ++ ranged own (length bits) (length more)
unfolding sights_of
sights-ranged bits more own is = grind (arith, length-append, before-ranged)

pub sights-more : (bits : List Bool) (bit : Bool)
    → sights_of (bits ++ bit ∷ []) ≡ sights_of bits ++ sights_at (length bits + 1) (seen_at (bits ++ bit ∷ []))
sights-more bits bit = sights-ranged bits (bit ∷ []) (λ p. seen_at (bits ++ bit ∷ [])) all
  where
    all : (p : ℕ) → 0 < p → p ≤ 1 → seen_at (take (length bits + p) (bits ++ bit ∷ [])) ≡ seen_at (bits ++ bit ∷ [])
    all p low high = ap seen_at (take_all (length bits + p) (bits ++ bit ∷ []) (omega (arith, length-append {A = Bool} bits (bit ∷ []))))

at-in : (start n m place : ℕ) (answer : Option Seen) → place ≡ start + suc n → suc n ≤ m
    → All (λ sight. (start < sight.place) × (sight.place ≤ start + m)) (sights_at place answer)
at-in start n m place None e h = All-nil (λ sight. (start < sight.place) × (sight.place ≤ start + m))
at-in start n m place (Some seen) e h =
    All-cons (λ sight. (start < sight.place) × (sight.place ≤ start + m)) (record { place = place; seen = seen }) []
    (omega arith, omega arith) (All-nil (λ sight. (start < sight.place) × (sight.place ≤ start + m)))

ranged-in : (own : ℕ → Option Seen) (start n m : ℕ) → n ≤ m
    → All (λ sight. (start < sight.place) × (sight.place ≤ start + m)) (ranged own start n)
ranged-in own start zero m h = All-nil (λ sight. (start < sight.place) × (sight.place ≤ start + m))
ranged-in own start (suc n) m h =
    All-append (λ sight. (start < sight.place) × (sight.place ≤ start + m)) (ranged own start n) (sights_at (start + suc n) (own (suc n)))
    (ranged-in own start n m (omega arith)) (at-in start n m (start + suc n) (own (suc n)) refl h)

pub sights-stay : (bits more : List Bool) → (added : List Sight) × SightsAdded bits more added
sights-stay bits more =
    let own : ℕ → Option Seen = λ p. seen_at (take (length bits + p) (bits ++ more)) in (
      ranged own (length bits) (length more),
      record {
        all = sights-ranged bits more own (λ p low high. refl);
        places = subst (λ n. All (λ sight. (length bits < sight.place) × (sight.place ≤ n)) (ranged own (length bits) (length more)))
            (sym (length-append {A = Bool} bits more)) (ranged-in own (length bits) (length more) (length more) (omega arith));
      },
    )

-- where nothing is seen
pub ranged-none : (own : ℕ → Option Seen) (start n : ℕ) → ((p : ℕ) → 0 < p → p ≤ n → own p ≡ None) → ranged own start n ≡ []
ranged-none own start zero none = refl
ranged-none own start (suc n) none =
    rw (ranged-none own start n (λ p low high. none p low (omega arith)), none (suc n) (omega arith) (omega arith)) refl

-- where nothing is seen behind some place
pub ranged-quiet : (own : ℕ → Option Seen) (start n more : ℕ) → ((p : ℕ) → n < p → own p ≡ None)
    → ranged own start (n + more) ≡ ranged own start n
ranged-quiet own start n zero none = let e : n + 0 ≡ n = omega arith in ap (ranged own start) e
ranged-quiet own start n (suc more) none =
    let e : n + suc more ≡ suc (n + more) = omega arith in
    ap (ranged own start) e
    ∙ ap (λ a. ranged own start (n + more) ++ sights_at (start + suc (n + more)) a) (none (suc (n + more)) (omega arith))
    ∙ append-nil (ranged own start (n + more)) ∙ ranged-quiet own start n more none
