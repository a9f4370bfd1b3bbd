-- Bits that labels carry: one list of them, and of the first labels the first of them.
use Rattle.line_coding.proofs.Names.{◌≡◌, ◌∙◌, ℕ, zero, suc, ◌*◌, ◌<◌, ◌≤◌, Bool, List, [], ◌∷◌, ◌++◌, refl, sym, ap, subst, arith, length}
use Rattle.line_coding.proofs.Names.{flat_map, low_bits, line_of, Demodulates, Scrambles, Descrambles, length-quads_of, quads_of}
use Rattle.std.proofs.Common.{take}
use Rattle.std.proofs.Common.{All}
use Rattle.std.proofs.Math.Seq.{take-nil}
use Rattle.scramblers.proofs.Readings.{Descrambles_from_Scrambles, Scrambles_from_Descrambles, Scrambles-take}
use Rattle.trellis_tables.specs.Encoder.{Encodes}
use Rattle.trellis_tables.proofs.Readings.{quads_of_Encodes, quads_of-take}

pub length-fours : (quads : List ℕ) → length (flat_map (low_bits 4) quads) ≡ 4 * length quads
length-fours [] = refl
length-fours (quad ∷ quads) = grind (arith, length-fours quads)

pub four-each : (tap : ℕ) (labels : List ℕ) (bits : List Bool) → Demodulates tap labels bits → length bits ≡ 4 * length labels
four-each tap labels bits d = d.lengths ∙ length-fours (quads_of labels) ∙ ap (λ n. 4 * n) (length-quads_of labels)

pub comes-back : (tap : ℕ) (bits line : List Bool) (quads labels : List ℕ) (end : ℕ)
    → Scrambles tap bits line → line ≡ flat_map (low_bits 4) quads → All (λ quad. quad < 16) quads → Encodes quads labels end
    → Demodulates tap labels bits
comes-back tap bits line quads labels end scrambled fours are_quads encodes =
    subst (λ (xs : List Bool). Descrambles tap xs bits) (fours
    ∙ ap (flat_map (low_bits 4)) (sym (quads_of_Encodes quads labels end are_quads encodes)))
    (Descrambles_from_Scrambles tap bits line scrambled)

pub take-fours : (n : ℕ) (quads : List ℕ) → take (4 * n) (flat_map (low_bits 4) quads) ≡ flat_map (low_bits 4) (take n quads)
take-fours zero quads = refl
take-fours (suc n) [] = take-nil (4 * suc n)
take-fours (suc n) (quad ∷ quads) =
    let four : 4 * suc n ≡ suc (suc (suc (suc (4 * n)))) = omega arith in
    let first : take (4 * suc n) (flat_map (low_bits 4) (quad ∷ quads)) ≡ low_bits 4 quad ++ take (4 * n) (flat_map (low_bits 4) quads) =
    ap (λ m. take m (flat_map (low_bits 4) (quad ∷ quads))) four in
    first ∙ ap (λ xs. low_bits 4 quad ++ xs) (take-fours n quads)

pub first-stay : (tap n : ℕ) (labels : List ℕ) (bits : List Bool) → 1 ≤ tap → Demodulates tap labels bits
    → Demodulates tap (take n labels) (take (4 * n) bits)
first-stay tap n labels bits low d =
    let s = Scrambles-take tap (4 * n) bits (line_of labels) low (Scrambles_from_Descrambles tap bits (line_of labels) d) in
    let e : take (4 * n) (line_of labels) ≡ line_of (take n labels) =
    take-fours n (quads_of labels) ∙ ap (flat_map (low_bits 4)) (sym (quads_of-take labels n)) in
    subst (λ (xs : List Bool). Descrambles tap xs (take (4 * n) bits)) e
    (Descrambles_from_Scrambles tap (take (4 * n) bits) (take (4 * n) (line_of labels)) s)
