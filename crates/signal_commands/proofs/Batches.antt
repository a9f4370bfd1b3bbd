-- Samples of a piece, so many at once.
use Rattle.signal_commands.proofs.Names.{◌≡◌, ◌∙◌, ℕ, suc, zero, ◌+◌, ◌-◌, ◌*◌, ◌/◌, ◌≤◌, List, [], ◌∷◌, ◌++◌, length, take, min, refl, sym}
use Rattle.signal_commands.proofs.Names.{ap, arith, append_assoc, length-take-le, samples_in-more, sample_at, samples_in, Sample}
use Rattle.std.proofs.Math.Nat.{min-le_left, min-le_right}
use Rattle.std.proofs.Math.Seq.{take-append-add}
use Rattle.recordings.specs.Samples.{sample_of}

four : (n : ℕ) → 4 * suc n ≡ suc (suc (suc (suc (4 * n))))
four n = omega arith

pub samples_in-length : (n : ℕ) (xs : List ℕ) → 4 * n ≤ length xs → length (samples_in (take (4 * n) xs)) ≡ n
samples_in-length zero xs h = refl
samples_in-length (suc n) [] h = absurd (omega (arith, h))
samples_in-length (suc n) (a ∷ []) h = absurd (omega (arith, h))
samples_in-length (suc n) (a ∷ b ∷ []) h = absurd (omega (arith, h))
samples_in-length (suc n) (a ∷ b ∷ c ∷ []) h = absurd (omega (arith, h))
samples_in-length (suc n) (a ∷ b ∷ c ∷ d ∷ xs) h =
    ap (λ m. length (samples_in (take m (a ∷ b ∷ c ∷ d ∷ xs)))) (four n) ∙ ap suc (samples_in-length n xs (omega (arith, h)))

pub samples_in-take : (n m : ℕ) (xs : List ℕ) → n ≤ m → 4 * m ≤ length xs
    → take n (samples_in (take (4 * m) xs)) ≡ samples_in (take (4 * n) xs)
samples_in-take zero m xs l h = refl
samples_in-take (suc n) zero xs l h = absurd (omega (arith, l))
samples_in-take (suc n) (suc m) [] l h = absurd (omega (arith, h))
samples_in-take (suc n) (suc m) (a ∷ []) l h = absurd (omega (arith, h))
samples_in-take (suc n) (suc m) (a ∷ b ∷ []) l h = absurd (omega (arith, h))
samples_in-take (suc n) (suc m) (a ∷ b ∷ c ∷ []) l h = absurd (omega (arith, h))
samples_in-take (suc n) (suc m) (a ∷ b ∷ c ∷ d ∷ xs) l h =
    ap (λ k. take (suc n) (samples_in (take k (a ∷ b ∷ c ∷ d ∷ xs)))) (four m)
    ∙ ap (λ rest. sample_of a b c d ∷ rest) (samples_in-take n m xs (omega (arith, l)) (omega (arith, h)))
    ∙ sym (ap (λ k. samples_in (take k (a ∷ b ∷ c ∷ d ∷ xs))) (four n))

-- one sample more behind those that were copied
pub one-copied : (piece : List ℕ) (at place : ℕ) (copied : List Sample) (sample : Sample)
    → samples_in (take (4 * at) piece) ++ copied ≡ samples_in (take (4 * (at + place)) piece) → 4 * (at + place) + 4 ≤ length piece
    → sample ≡ sample_at piece (at + place)
    → samples_in (take (4 * at) piece) ++ (copied ++ sample ∷ []) ≡ samples_in (take (4 * (at + (place + 1))) piece)
one-copied piece at place copied sample so_far within is =
    let next : (at + place) + 1 ≡ at + (place + 1) = omega arith in
    sym (append_assoc (samples_in (take (4 * at) piece)) copied (sample ∷ []))
    ∙ ap (λ l. l ++ sample ∷ []) so_far
    ∙ ap (λ (s : Sample). samples_in (take (4 * (at + place)) piece) ++ s ∷ []) is
    ∙ sym (samples_in-more (at + place) piece within)
    ∙ ap (λ n. samples_in (take (4 * n) piece)) next

-- of the samples that were copied the first ones go behind those before them
pub some-more : (past : List Sample) (piece : List ℕ) (at count heard : ℕ) (copied : List Sample)
    → samples_in (take (4 * at) piece) ++ copied ≡ samples_in (take (4 * (at + count)) piece) → 4 * (at + count) ≤ length piece
    → heard ≤ count → (past ++ samples_in (take (4 * at) piece)) ++ take heard copied ≡ past ++ samples_in (take (4 * (at + heard)) piece)
some-more past piece at count heard copied are within few =
    let before = samples_in (take (4 * at) piece) in
    let long : length before ≡ at = samples_in-length at piece (omega (arith, within)) in
    append_assoc past before (take heard copied)
    ∙ ap (λ l. past ++ l) (
    sym (take-append-add before copied heard)
    ∙ ap (λ n. take (n + heard) (before ++ copied)) long
    ∙ ap (take (at + heard)) are
    ∙ samples_in-take (at + heard) (at + count) piece (omega (arith, few)) within
    )

-- how many samples are copied
pub few-copied : (long at count : ℕ) → count ≡ min (long / 4 - at) 128 → 4 * at ≤ long → (4 * (at + count) ≤ long) × (count ≤ 128)
few-copied long at count is within = grind (arith, min-le_left, min-le_right)

-- how many of them were heard
pub some-heard : (count heard : ℕ) (samples : List Sample) → count ≤ length samples → heard ≤ length (take count samples)
    → (1 ≤ length (take count samples) → 1 ≤ heard) → 1 ≤ count → (1 ≤ heard) × (heard ≤ count)
some-heard count heard samples within few some given = grind (arith, length-take-le)
