-- Quads behind the first one don't depend on what stood before, nor on a turn.
use Rattle.line_coding.proofs.Names.{◌≡◌, ◌∙◌, ℕ, zero, suc, ◌+◌, ◌-◌, ◌*◌, ◌<◌, ◌≤◌, List, [], ◌∷◌, length, map, drop, get_or, nat_eq}
use Rattle.line_coding.proofs.Names.{false, refl, sym, ap, arith, nat_tests, ext_get_or, get_or-drop, length-drop, length-map, flat_map}
use Rattle.line_coding.proofs.Names.{low_bits, turned_label, length-quads_of, quads_of}
use Rattle.std.proofs.Math.Seq.{drop-nil}
use Rattle.trellis_tables.specs.Differential.Turned.{before}
use Rattle.trellis_tables.specs.LabelReader.{quad_at}
use Rattle.trellis_tables.proofs.Readings.{get_or-quads_of, get_or-map, quads_of-turned}

-- turned labels have the same quads but for the first
pub quads-turned : (labels : List ℕ) → drop 1 (quads_of (map turned_label labels)) ≡ drop 1 (quads_of labels)
quads-turned labels = ext_get_or 0 (drop 1 (quads_of (map turned_label labels))) (drop 1 (quads_of labels)) long (λ i within. each i within)
  where
    counts : length (quads_of (map turned_label labels)) ≡ length labels
    counts = length-quads_of (map turned_label labels) ∙ length-map labels turned_label

    long : length (drop 1 (quads_of (map turned_label labels))) ≡ length (drop 1 (quads_of labels))
    long = omega (
      arith,
      counts,
      length-quads_of labels,
      length-drop 1 (quads_of (map turned_label labels)),
      length-drop 1 (quads_of labels),
    )

    each : (i : ℕ) → i < length (drop 1 (quads_of (map turned_label labels)))
        → get_or (drop 1 (quads_of (map turned_label labels))) i 0 ≡ get_or (drop 1 (quads_of labels)) i 0
    each i within =
        get_or-drop 1 (quads_of (map turned_label labels)) i 0
        ∙ quads_of-turned labels (1 + i) (omega arith) (omega (arith, counts, length-drop 1 (quads_of (map turned_label labels))))
        ∙ sym (get_or-drop 1 (quads_of labels) i 0)

-- the y before a place behind the first
before-some : (y : List ℕ) (n : ℕ) → 1 ≤ n → before y n ≡ get_or y (n - 1) 0
before-some y n l = let no : nat_eq n 0 ≡ false = grind (arith, nat_tests) in rw no refl

-- the quad at a place behind the first
quad-behind : (labels : List ℕ) (n i : ℕ) → n + (i + 1) < length labels → quad_at (drop n labels) (i + 1) ≡ quad_at labels (n + (i + 1))
quad-behind labels n i l = grind (arith, length-drop, get_or-map, get_or-drop, before-some)

-- the quads of the last labels, but for the first of them
pub quads-drop : (labels : List ℕ) (n : ℕ) → drop 1 (quads_of (drop n labels)) ≡ drop (n + 1) (quads_of labels)
quads-drop labels n = ext_get_or 0 (drop 1 (quads_of (drop n labels))) (drop (n + 1) (quads_of labels)) long (λ i within. each i within)
  where
    counts : length (quads_of (drop n labels)) ≡ length labels - n
    counts = length-quads_of (drop n labels) ∙ length-drop n labels

    long : length (drop 1 (quads_of (drop n labels))) ≡ length (drop (n + 1) (quads_of labels))
    long = omega (arith, counts, length-quads_of labels, length-drop 1 (quads_of (drop n labels)), length-drop (n + 1) (quads_of labels))

    each : (i : ℕ) → i < length (drop 1 (quads_of (drop n labels)))
        → get_or (drop 1 (quads_of (drop n labels))) i 0 ≡ get_or (drop (n + 1) (quads_of labels)) i 0
    each i within =
        let inside : n + (i + 1) < length labels = omega (arith, counts, length-drop 1 (quads_of (drop n labels))) in
        let order : 1 + i ≡ i + 1 = omega arith in
        let place : n + (i + 1) ≡ n + 1 + i = omega arith in
        get_or-drop 1 (quads_of (drop n labels)) i 0 ∙ ap (λ k. get_or (quads_of (drop n labels)) k 0) order
        ∙ get_or-quads_of (drop n labels) (i + 1) (omega (arith, length-drop n labels)) ∙ quad-behind labels n i inside
        ∙ sym (get_or-quads_of labels (n + (i + 1)) inside) ∙ ap (λ k. get_or (quads_of labels) k 0) place
        ∙ sym (get_or-drop (n + 1) (quads_of labels) i 0)

-- fours of bits behind the first ones
pub fours-drop : (n : ℕ) (quads : List ℕ) → flat_map (low_bits 4) (drop n quads) ≡ drop (4 * n) (flat_map (low_bits 4) quads)
fours-drop zero quads = refl
fours-drop (suc n) [] = sym (drop-nil (4 * suc n))
fours-drop (suc n) (quad ∷ quads) =
    let four : 4 * suc n ≡ suc (suc (suc (suc (4 * n)))) = omega arith in
    fours-drop n quads ∙ sym (ap (λ m. drop m (flat_map (low_bits 4) (quad ∷ quads))) four)
