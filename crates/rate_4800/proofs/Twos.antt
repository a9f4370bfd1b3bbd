-- Bits that are put behind a list in twos, and what is read of them.
use Rattle.rate_4800.proofs.Names.{◌≡◌, ◌∙◌, ℕ, ◌+◌, ◌*◌, ◌%◌, ◌<◌, Bool, List, [], ◌∷◌, ◌++◌, refl, sym, ap, subst, append-nil}
use Rattle.rate_4800.proofs.Names.{append_assoc, arith, flat_map, low_bits, Demodulates, Scrambles, Descrambles}
use Rattle.std.proofs.Common.{◌/◌}
use Rattle.std.proofs.Common.{All}
use Rattle.std.proofs.lemmas.Grind.{flat_map-append}
use Rattle.scramblers.proofs.Readings.{Descrambles_from_Scrambles}
use Rattle.trellis_tables.specs.Differential.Turned.{turned}
use Rattle.trellis_tables.proofs.Turning.Inverses.{unturned-turned}

pub twos-more : (line : List Bool) (turns : List ℕ) (turn : ℕ) → line ≡ flat_map (low_bits 2) turns
    → line ++ low_bits 2 turn ≡ flat_map (low_bits 2) (turns ++ turn ∷ [])
twos-more line turns turn e =
    ap (λ xs. xs ++ low_bits 2 turn) e ∙ ap (λ ys. flat_map (low_bits 2) turns ++ ys) (sym (append-nil (low_bits 2 turn)))
    ∙ sym (flat_map-append (low_bits 2) turns (turn ∷ []))

-- the bits of two turns in one number
two-turns : (low high : ℕ) → low < 4 → low_bits 4 (low + 4 * high) ≡ low_bits 2 low ++ low_bits 2 high
two-turns low high few =
    let n : ℕ = low + 4 * high in
    let e0 : n % 2 ≡ low % 2 = omega arith in
    let e1 : n / 2 % 2 ≡ low / 2 % 2 = omega arith in
    let e2 : n / 2 / 2 ≡ high = omega (arith, few) in
    rw (e0, e1, e2) refl

pub fours-more : (line : List Bool) (turns : List ℕ) (low high : ℕ) → low < 4 → line ≡ flat_map (low_bits 2) turns
    → line ++ low_bits 4 (low + 4 * high) ≡ flat_map (low_bits 2) ((turns ++ low ∷ []) ++ high ∷ [])
fours-more line turns low high few e =
    ap (λ l. line ++ l) (two-turns low high few) ∙ sym (append_assoc line (low_bits 2 low) (low_bits 2 high))
    ∙ twos-more (line ++ low_bits 2 low) (turns ++ low ∷ []) high (twos-more line turns low e)

pub comes-back : (tap : ℕ) (bits line : List Bool) (turns : List ℕ)
    → Scrambles tap bits line → line ≡ flat_map (low_bits 2) turns → All (λ n. n < 4) turns → Demodulates tap (turned turns) bits
comes-back tap bits line turns scrambled twos are_turns =
    subst (λ (xs : List Bool). Descrambles tap xs bits) (twos ∙ ap (flat_map (low_bits 2)) (sym (unturned-turned turns are_turns)))
    (Descrambles_from_Scrambles tap bits line scrambled)
