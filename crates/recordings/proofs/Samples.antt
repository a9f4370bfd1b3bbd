-- Samples of octets that are read piece by piece.
use Rattle.std.proofs.Common.{◌≡◌, ◌∙◌, ℕ, suc, zero, ◌+◌, ◌*◌, ◌/◌, ◌%◌, ◌≤◌, List, [], ◌∷◌, ◌++◌, length, take, drop, slice_index, inl}
use Rattle.std.proofs.Common.{inr, refl, sym, ap, arith}
use Rattle.std.proofs.lemmas.Bool.{cases_lt}
use Rattle.std.proofs.lemmas.List.{take_all, take-append-drop}
use Rattle.symbol_map.specs.declared.sample.Sample.{Sample}
use Rattle.recordings.specs.Samples.{sample_of, sample_at, samples_in}

-- behind whole samples others begin anew
pub samples_in-append : (xs ys : List ℕ) → length xs % 4 ≡ 0 → samples_in (xs ++ ys) ≡ samples_in xs ++ samples_in ys
samples_in-append [] ys e = refl
samples_in-append (a ∷ []) ys e = absurd (omega (arith, e))
samples_in-append (a ∷ b ∷ []) ys e = absurd (omega (arith, e))
samples_in-append (a ∷ b ∷ c ∷ []) ys e = absurd (omega (arith, e))
samples_in-append (a ∷ b ∷ c ∷ d ∷ xs) ys e = ap (λ rest. sample_of a b c d ∷ rest) (samples_in-append xs ys (omega (arith, e)))

-- one sample more of a piece
pub samples_in-more : (p : ℕ) (xs : List ℕ) → 4 * p + 4 ≤ length xs
    → samples_in (take (4 * (p + 1)) xs) ≡ samples_in (take (4 * p) xs) ++ sample_at xs p ∷ []
samples_in-more p [] h = absurd (omega (arith, h))
samples_in-more p (a ∷ []) h = absurd (omega (arith, h))
samples_in-more p (a ∷ b ∷ []) h = absurd (omega (arith, h))
samples_in-more p (a ∷ b ∷ c ∷ []) h = absurd (omega (arith, h))
samples_in-more zero (a ∷ b ∷ c ∷ d ∷ xs) h = refl
samples_in-more (suc p) (a ∷ b ∷ c ∷ d ∷ xs) h =
    let long : 4 * (suc p + 1) ≡ suc (suc (suc (suc (4 * (p + 1))))) = omega arith in
    let short : 4 * suc p ≡ suc (suc (suc (suc (4 * p)))) = omega arith in
    let one : 4 * suc p + 1 ≡ suc (suc (suc (suc (4 * p + 1)))) = omega arith in
    let two : 4 * suc p + 2 ≡ suc (suc (suc (suc (4 * p + 2)))) = omega arith in
    let three : 4 * suc p + 3 ≡ suc (suc (suc (suc (4 * p + 3)))) = omega arith in
    let octets : List ℕ = a ∷ b ∷ c ∷ d ∷ xs in
    let left : samples_in (take (4 * (suc p + 1)) octets) ≡ sample_of a b c d ∷ samples_in (take (4 * (p + 1)) xs) =
    ap (λ n. samples_in (take n octets)) long in
    let right : samples_in (take (4 * suc p) octets) ≡ sample_of a b c d ∷ samples_in (take (4 * p) xs) =
    ap (λ n. samples_in (take n octets)) short in
    let at : sample_at octets (suc p) ≡ sample_at xs p =
    λ i. sample_of (slice_index octets (short i)) (slice_index octets (one i)) (slice_index octets (two i))
    (slice_index octets (three i)) in
    left ∙ ap (λ rest. sample_of a b c d ∷ rest) (samples_in-more p xs (omega (arith, h))) ∙ sym (λ i. right i ++ at i ∷ [])

-- an unfinished sample is none
pub samples_in-whole : (xs : List ℕ) → samples_in (take (4 * (length xs / 4)) xs) ≡ samples_in xs
samples_in-whole [] = refl
samples_in-whole (a ∷ []) = refl
samples_in-whole (a ∷ b ∷ []) = refl
samples_in-whole (a ∷ b ∷ c ∷ []) = refl
samples_in-whole (a ∷ b ∷ c ∷ d ∷ xs) =
    let count : 4 * (length (a ∷ b ∷ c ∷ d ∷ xs) / 4) ≡ suc (suc (suc (suc (4 * (length xs / 4))))) = omega arith in
    rw count (ap (λ rest. sample_of a b c d ∷ rest) (samples_in-whole xs))

pub samples_in-all : (n : ℕ) (xs : List ℕ) → length xs / 4 ≤ n → samples_in (take (4 * n) xs) ≡ samples_in xs
samples_in-all n xs h =
    elim (cases_lt (4 * n) (length xs)) [
      | inl less ↦
          let count : n ≡ length xs / 4 = omega arith in
          ap (λ m. samples_in (take (4 * m) xs)) count ∙ samples_in-whole xs
      | inr all ↦ ap samples_in (take_all (4 * n) xs (omega (arith, all)))
    ]

-- samples stay, whatever octets follow
pub samples_in-front : (xs ys : List ℕ) → (more : List Sample) × (samples_in (xs ++ ys) ≡ samples_in xs ++ more)
samples_in-front [] ys = (samples_in ys, refl)
samples_in-front (a ∷ []) ys = (samples_in (a ∷ ys), refl)
samples_in-front (a ∷ b ∷ []) ys = (samples_in (a ∷ b ∷ ys), refl)
samples_in-front (a ∷ b ∷ c ∷ []) ys = (samples_in (a ∷ b ∷ c ∷ ys), refl)
samples_in-front (a ∷ b ∷ c ∷ d ∷ xs) ys =
    let rest = samples_in-front xs ys in
    (rest.0, ap (λ more. sample_of a b c d ∷ more) rest.1)

-- those of the first octets, and the others
pub samples_in-split : (n : ℕ) (xs : List ℕ) → (more : List Sample) × (samples_in xs ≡ samples_in (take n xs) ++ more)
samples_in-split n xs =
    let f = samples_in-front (take n xs) (drop n xs) in
    (f.0, ap samples_in (sym (take-append-drop n xs)) ∙ f.1)
