-- The bits of pattern slots and of mark slots.
use Rattle.detection.proofs.Names.{◌≡◌, ℕ, zero, suc, ◌+◌, ◌-◌, ◌≤◌, true, List, [], ◌∷◌, ◌++◌, arith, append_assoc, refl, sym, ◌∙◌, ap}
use Rattle.detection.proofs.Names.{subst, append-nil, replicate-append-replicate, line_bits, IsPlain, ones, pattern, patterns, pattern_bits}
use Rattle.detection.proofs.Names.{Seen, Odp, Adp}
use Rattle.bit_stuffing.proofs.Sizes.{plain-by_tests, plain-grows}

pub line_bits-append : (quads more : List ℕ) → line_bits (quads ++ more) ≡ line_bits quads ++ line_bits more
line_bits-append [] more = refl
line_bits-append (quad ∷ quads) more = grind (arith, append_assoc, line_bits-append quads more)

pub ones-append : (m n : ℕ) → ones m ++ ones n ≡ ones (m + n)
ones-append m n = replicate-append-replicate m n true

pub patterns-snoc : (count : ℕ) (seen : Seen) → patterns count seen ++ pattern seen ≡ patterns (count + 1) seen
patterns-snoc count seen = let e : suc count ≡ count + 1 = omega arith in snoc count ∙ ap (λ n. patterns n seen) e
  where
    snoc : (count : ℕ) → patterns count seen ++ pattern seen ≡ patterns (suc count) seen
    snoc zero = sym (append-nil (pattern seen))
    snoc (suc count) = append_assoc (pattern seen) (patterns count seen) (pattern seen) ∙ ap (λ l. pattern seen ++ l) (snoc count)

ten-plain : (seen : Seen) → IsPlain 360 (patterns 10 seen)
ten-plain Odp = plain-by_tests (patterns 10 Odp) refl refl
ten-plain Adp = plain-by_tests (patterns 10 Adp) refl refl

pub pattern-plain : (size : ℕ) (seen : Seen) → 360 ≤ size → IsPlain size (pattern_bits size seen)
pattern-plain size seen h =
    let e : 360 + (size - 360) ≡ size = omega arith in
    subst (λ n. IsPlain n (pattern_bits size seen)) e (plain-grows 360 (size - 360) (patterns 10 seen) (ten-plain seen))

pub mark-plain : (size : ℕ) → 7 ≤ size → IsPlain size (ones size)
mark-plain size h =
    let e : 7 + (size - 7) ≡ size = omega arith in
    subst (λ n. IsPlain n (ones size)) e
    (subst (IsPlain (7 + (size - 7))) (ones-append 7 (size - 7) ∙ ap ones e)
    (plain-grows 7 (size - 7) (ones 7) (plain-by_tests (ones 7) refl refl)))
