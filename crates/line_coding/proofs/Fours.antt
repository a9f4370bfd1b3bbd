-- Bits that are put behind a list in fours.
use Rattle.line_coding.proofs.Names.{◌≡◌, ◌∙◌, ℕ, ◌+◌, ◌*◌, ◌<◌, ◌/◌, ◌%◌, Bool, List, [], ◌∷◌, ◌++◌, refl, sym, ap, arith, append-nil}
use Rattle.line_coding.proofs.Names.{append_assoc, nat_eq, flat_map, low_bits, octet_bits}
use Rattle.std.proofs.lemmas.Grind.{flat_map-append}

pub fours-more : (line : List Bool) (quads : List ℕ) (quad : ℕ) (four : List Bool) → line ≡ flat_map (low_bits 4) quads
    → low_bits 4 quad ≡ four → line ++ four ≡ flat_map (low_bits 4) (quads ++ quad ∷ [])
fours-more line quads quad four e f = grind (arith, append-nil, flat_map-append)

-- a quad's bits, as they are taken one by one
pub quad-bits : (quad : ℕ) → quad < 16
    → nat_eq (quad % 2) 1 ∷ nat_eq (quad / 2 % 2) 1 ∷ nat_eq (quad / 4 % 2) 1 ∷ nat_eq (quad / 8) 1 ∷ [] ≡ low_bits 4 quad
quad-bits quad h = grind (arith)

-- the bits of two quads in one octet
pub two-quads : (low high : ℕ) → low < 16 → high < 16 → octet_bits (low + 16 * high) ≡ low_bits 4 low ++ low_bits 4 high
two-quads low high few also =
    let n : ℕ = low + 16 * high in
    let e0 : n % 2 ≡ low % 2 = omega arith in
    let e1 : n / 2 % 2 ≡ low / 2 % 2 = omega arith in
    let e2 : n / 2 / 2 % 2 ≡ low / 2 / 2 % 2 = omega arith in
    let e3 : n / 2 / 2 / 2 % 2 ≡ low / 2 / 2 / 2 % 2 = omega arith in
    let e4 : n / 2 / 2 / 2 / 2 ≡ high = omega (arith, few) in
    rw (e0, e1, e2, e3, e4) refl

pub octets-more : (line : List Bool) (quads : List ℕ) (low high : ℕ) → low < 16 → high < 16 → line ≡ flat_map (low_bits 4) quads
    → line ++ octet_bits (low + 16 * high) ≡ flat_map (low_bits 4) ((quads ++ low ∷ []) ++ high ∷ [])
octets-more line quads low high few also e =
    ap (λ l. line ++ l) (two-quads low high few also) ∙ sym (append_assoc line (low_bits 4 low) (low_bits 4 high))
    ∙ fours-more (line ++ low_bits 4 low) (quads ++ low ∷ []) high (low_bits 4 high)
    (fours-more line quads low (low_bits 4 low) e refl) refl
