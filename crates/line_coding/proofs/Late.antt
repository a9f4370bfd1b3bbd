-- Once the register of a descrambler is full, it doesn't matter where it began.
use Rattle.line_coding.proofs.Names.{◌≡◌, ◌∙◌, ℕ, ◌+◌, ◌-◌, ◌<◌, ◌≤◌, Bool, false, List, length, drop, get_or, refl, sym, ap, arith}
use Rattle.line_coding.proofs.Names.{nat_tests, ext_get_or, get_or-drop, length-drop, Descrambles, earlier}
use Rattle.std.proofs.Common.{nat_lt}
use Rattle.scramblers.proofs.Readings.{depends_on_three}

earlier-some : (bits : List Bool) (i k : ℕ) → k ≤ i → earlier bits i k ≡ get_or bits (i - k) false
earlier-some bits i k l = let no : nat_lt i k ≡ false = grind (arith, nat_tests) in rw no refl

-- the bits before a place are those of the whole line
earlier-drop : (line : List Bool) (m i k : ℕ) → k ≤ i → earlier (drop m line) i k ≡ earlier line (m + i) k
earlier-drop line m i k l = grind (arith, earlier-some, get_or-drop)

pub late : (tap m : ℕ) (line all sent : List Bool) → tap ≤ 23 → Descrambles tap line sent → Descrambles tap (drop m line) all
    → drop 23 all ≡ drop (m + 23) sent
late tap m line all sent high whole part = ext_get_or false (drop 23 all) (drop (m + 23) sent) long (λ i within. each i within)
  where
    long : length (drop 23 all) ≡ length (drop (m + 23) sent)
    long = omega (arith, whole.lengths, part.lengths, length-drop m line, length-drop 23 all, length-drop (m + 23) sent)

    each : (i : ℕ) → i < length (drop 23 all) → get_or (drop 23 all) i false ≡ get_or (drop (m + 23) sent) i false
    each i within =
        let inside : 23 + i < length (drop m line) = omega (arith, part.lengths, length-drop 23 all) in
        let in_line : m + (23 + i) < length line = omega (arith, inside, length-drop m line) in
        let place : m + (23 + i) ≡ m + 23 + i = omega arith in
        get_or-drop 23 all i false
        ∙ depends_on_three tap (drop m line) line all sent (23 + i) (m + (23 + i)) inside in_line part whole
        (earlier-drop line m (23 + i) 0 (omega arith)) (earlier-drop line m (23 + i) tap (omega (arith, high)))
        (earlier-drop line m (23 + i) 23 (omega arith))
        ∙ ap (λ n. get_or sent n false) place ∙ sym (get_or-drop (m + 23) sent i false)
