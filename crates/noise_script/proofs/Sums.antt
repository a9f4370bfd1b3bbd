-- Sums of offsets, line by line.
use Rattle.noise_script.proofs.Names.{◌≡◌, ℕ, zero, suc, ◌+◌, ◌≤◌, ◌<◌, pos, List, [], ◌∷◌, ◌++◌, length, take, map, get_or, refl, ap, ◌∙◌}
use Rattle.noise_script.proofs.Names.{arith, ints, take_more, plus, sum_of, nothing, IsWithin, IsQuiet, AreQuiet, Hit, Noise, Offset}
use Rattle.noise_script.proofs.Names.{Originator}

pub same-offset : (a b : Offset) → a.re ≡ b.re → a.im ≡ b.im → a ≡ b
same-offset a b r i = rw (r, i) refl

plus-nothing : (a : Offset) → plus a nothing ≡ plus nothing a
plus-nothing a = same-offset (plus a nothing) (plus nothing a) (omega (arith, ints)) (omega (arith, ints))

pub plus-assoc : (a b c : Offset) → plus a (plus b c) ≡ plus (plus a b) c
plus-assoc a b c = same-offset (plus a (plus b c)) (plus (plus a b) c) (omega (arith, ints)) (omega (arith, ints))

pub sum_of-more : {X : Type 0} (f : X → Offset) (xs : List X) (x : X) → sum_of (map f (xs ++ x ∷ [])) ≡ plus (sum_of (map f xs)) (f x)
sum_of-more f [] x = plus-nothing (f x)
sum_of-more f (y ∷ xs) x = ap (plus (f y)) (sum_of-more f xs x) ∙ plus-assoc (f y) (sum_of (map f xs)) (f x)

pub sum_of-next : {X : Type 0} (f : X → Offset) (xs : List X) (i : ℕ) (d : X) → i < length xs
    → sum_of (map f (take (i + 1) xs)) ≡ plus (sum_of (map f (take i xs))) (f (get_or xs i d))
sum_of-next f xs i d h = ap (λ ys. sum_of (map f ys)) (take_more xs i d h) ∙ sum_of-more f (take i xs) (get_or xs i d)

pub within-far : (m n : ℕ) (a : Offset) → m ≤ n → IsWithin m a → IsWithin n a
within-far m n a h p = record {
  re_low = omega (arith, ints, p.re_low);
  re_high = omega (arith, ints, p.re_high);
  im_low = omega (arith, ints, p.im_low);
  im_high = omega (arith, ints, p.im_high);
}

pub quiet-at : (noises : List Noise) (i : ℕ) (d : Noise) → AreQuiet noises → i < length noises → IsQuiet (get_or noises i d)
quiet-at [] i d q h = absurd (omega (arith, h))
quiet-at (noise ∷ noises) zero d q h = q.0
quiet-at (noise ∷ noises) (suc i) d q h = quiet-at noises i d q.1 (omega (arith, h))

pub quiet-more : (noises : List Noise) (noise : Noise) → AreQuiet noises → IsQuiet noise → AreQuiet (noises ++ noise ∷ [])
quiet-more [] noise q h = (h, tt)
quiet-more (x ∷ noises) noise q h = (q.0, quiet-more noises noise q.1 h)

-- what stands for a line behind the last one
abbrev pub no_hit : Hit
no_hit = record { role = Originator; from = 0; count = 0; re = pos 0; im = pos 0 }

abbrev pub no_noise : Noise
no_noise = record { role = Originator; from = 0; count = 0; amplitude = 0; seed = 0 }
