-- Quads of labels that begin others, and of turned ones.
use Rattle.noise_bound.proofs.Names.{◌≡◌, ℕ, ◌+◌, ◌-◌, ◌/◌, ◌<◌, ◌≤◌, false, List, [], ◌∷◌, ◌++◌, length, map, take, drop, get_or, arith}
use Rattle.noise_bound.proofs.Names.{length-append, refl, sym, ◌∙◌, ap, take_at, take-append-drop, get_or_append_left, flat_map, low_bits}
use Rattle.noise_bound.proofs.Names.{quads-turned, line_of, line_behind, IsPrefixOf, y_of, turned_label}
use Rattle.std.proofs.lemmas.Grind.{flat_map-append}
use Rattle.std.proofs.lemmas.List.{get_or-drop, length-map}
use Rattle.symbol_map.specs.Labels.{q3q4_of}
use Rattle.trellis_tables.specs.Differential.Turned.{unturned_at}
use Rattle.trellis_tables.specs.Quads.{quad_of}
use Rattle.trellis_tables.specs.LabelReader.{quads_of, quad_at}
use Rattle.trellis_tables.proofs.Readings.{quads_of-take, quads_of-turned, length-quads_of, get_or-quads_of}
use Rattle.noise_bound.proofs.Turned.{BothBegin}

-- what more labels add to the quads
pub quads-grow : (a b : List ℕ) → quads_of (a ++ b) ≡ quads_of a ++ drop (length a) (quads_of (a ++ b))
quads-grow a b =
    let n = length a in
    let first : take n (quads_of (a ++ b)) ≡ quads_of a = sym (quads_of-take (a ++ b) n) ∙ ap quads_of (take_at a b n refl) in
    sym (take-append-drop n (quads_of (a ++ b))) ∙ ap (λ k. k ++ drop n (quads_of (a ++ b))) first

pub line-grows : (a b : List ℕ) → IsPrefixOf (line_of a) (line_of (a ++ b))
line-grows a b =
    let more = drop (length a) (quads_of (a ++ b)) in
    (flat_map (low_bits 4) more, sym (ap (flat_map (low_bits 4)) (quads-grow a b) ∙ flat_map-append (low_bits 4) (quads_of a) more))

-- behind the first quad
drop-first : (xs ys : List ℕ) → (more : List ℕ) × (drop 1 (xs ++ ys) ≡ drop 1 xs ++ more)
drop-first [] ys = (drop 1 ys, refl)
drop-first (x ∷ xs) ys = (ys, refl)

pub behind-grows : (a b : List ℕ) → IsPrefixOf (line_behind a) (line_behind (a ++ b))
behind-grows a b =
    let more = drop-first (quads_of a) (drop (length a) (quads_of (a ++ b))) in (
      flat_map (low_bits 4) more.0,
      sym (ap (λ k. flat_map (low_bits 4) (drop 1 k)) (quads-grow a b) ∙ ap (flat_map (low_bits 4)) more.1
          ∙ flat_map-append (low_bits 4) (drop 1 (quads_of a)) more.0),
    )

-- at a place in both fronts
at-place : (front labels : List ℕ) (i : ℕ) → IsPrefixOf front labels → i < length front
    → get_or (quads_of front) i 0 ≡ get_or (quads_of labels) i 0
at-place front labels i p within = grind (arith, quads-grow, get_or_append_left, length-quads_of)

pub quads-alike : (i : ℕ) (labels front turned_front : List ℕ) → BothBegin labels front turned_front → 1 ≤ i → i < length front
    → i < length turned_front
    → get_or (quads_of turned_front) i 0 ≡ get_or (quads_of front) i 0
quads-alike i labels front turned_front h some within turned_within =
    let total : length labels ≡ length front + length h.begins.0 = ap length (sym h.begins.1) ∙ length-append {A = ℕ} front h.begins.0 in
    at-place turned_front (map turned_label labels) i h.turned_begins turned_within ∙ quads_of-turned labels i some (omega arith)
    ∙ sym (at-place front labels i h.begins within)

-- the line's bits behind the first two

head-rest : (xs : List ℕ) → 1 ≤ length xs → xs ≡ get_or xs 0 0 ∷ drop 1 xs
head-rest q0 h = grind (arith)

upper : (turn other q : ℕ) → turn < 4 → other < 4 → quad_of turn q / 2 / 2 ≡ quad_of other q / 2 / 2
upper turn other q low high = omega arith

turn-lt : (labels : List ℕ) → unturned_at (map y_of labels) 0 < 4
turn-lt labels = omega arith

-- the first quad's last two bits, and the others
two-behind : (labels : List ℕ) → 1 ≤ length labels → drop 2 (line_of labels) ≡ low_bits 2 (quad_at labels 0 / 2 / 2) ++ line_behind labels
two-behind labels some = grind (arith, head-rest, length-quads_of, get_or-quads_of)

same-q : (labels : List ℕ) → 1 ≤ length labels → q3q4_of (get_or (map turned_label labels) 0 0) ≡ q3q4_of (get_or labels 0 0)
same-q [] some = absurd (omega arith)
same-q (x ∷ labels) some = omega arith

pub lines-alike : (labels : List ℕ) → drop 2 (line_of (map turned_label labels)) ≡ drop 2 (line_of labels)
lines-alike [] = refl
lines-alike (x ∷ labels) =
    let all : List ℕ = x ∷ labels in
    let turned : List ℕ = map turned_label all in
    let high : quad_at turned 0 / 2 / 2 ≡ quad_at all 0 / 2 / 2 =
    ap (λ q. quad_of (unturned_at (map y_of turned) 0) q / 2 / 2) (same-q all (omega arith))
    ∙ upper (unturned_at (map y_of turned) 0) (unturned_at (map y_of all) 0) (q3q4_of (get_or all 0 0)) (turn-lt turned)
    (turn-lt all) in
    two-behind turned (omega (arith, length-map all turned_label)) ∙ ap (λ n. low_bits 2 n ++ line_behind turned) high
    ∙ ap (λ k. low_bits 2 (quad_at all 0 / 2 / 2) ++ flat_map (low_bits 4) k) (quads-turned all) ∙ sym (two-behind all (omega arith))

-- so the bits of both fronts are the same there
pub bits-alike : (j : ℕ) (labels front turned_front : List ℕ) → BothBegin labels front turned_front → 2 ≤ j → j < length (line_of front)
    → j < length (line_of turned_front)
    → get_or (line_of turned_front) j false ≡ get_or (line_of front) j false
bits-alike j labels front turned_front h some within turned_within =
    let turned : List ℕ = map turned_label labels in
    let p = line-grows front h.begins.0 in
    let q = line-grows turned_front h.turned_begins.0 in
    let mine : line_of labels ≡ line_of front ++ p.0 = ap line_of (sym h.begins.1) ∙ sym p.1 in
    let theirs : line_of turned ≡ line_of turned_front ++ q.0 = ap line_of (sym h.turned_begins.1) ∙ sym q.1 in
    let place : 2 + (j - 2) ≡ j = omega arith in
    let behind : get_or (line_of turned) j false ≡ get_or (line_of labels) j false =
    ap (λ n. get_or (line_of turned) n false) (sym place) ∙ sym (get_or-drop 2 (line_of turned) (j - 2) false)
    ∙ ap (λ k. get_or k (j - 2) false) (lines-alike labels)
    ∙ get_or-drop 2 (line_of labels) (j - 2) false ∙ ap (λ n. get_or (line_of labels) n false) place in
    sym (get_or_append_left (line_of turned_front) q.0 false j turned_within) ∙ ap (λ k. get_or k j false) (sym theirs) ∙ behind
    ∙ ap (λ k. get_or k j false) mine ∙ get_or_append_left (line_of front) p.0 false j within
