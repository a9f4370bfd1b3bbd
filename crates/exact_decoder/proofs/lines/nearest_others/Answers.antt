use Rattle.exact_decoder.proofs.Names.{◌≡◌, ℕ, ◌<◌, ◌+◌, ◌-◌, ◌*◌, ◌%◌, min, List, [], ◌∷◌, refl, ap, ◌∙◌, arith, zip2, nearest_000}
use Rattle.exact_decoder.proofs.Names.{nearest_001, nearest_110, nearest_111}
use Rattle.exact_decoder.proofs.Vectors.{both, turned, four}
use Rattle.exact_decoder.proofs.lines.nearest_others.Goals as goal

abbrev plus : List ℕ → List ℕ → List ℕ
plus = zip2 (λ a b. (a + b) % 4294967296)

lane-000 : (x y : ℕ) → x < 65536 → y < 65536 → min
    ((min (min (x * 1024 + 4194304) ((65535 - x) * 1024 + 4195352)) 33554448 + ((65535 - y) * 256 + 25428224)) % 4294967296)
    (y * 768 + 44302344) ≡ nearest_000 x y
lane-000 x y lx ly = omega arith

lane-001 : (x y : ℕ) → x < 65536 → y < 65536 → min
    ((min (min ((65535 - x) * 1024 + 4195360) (x * 1024 + 4194360)) 33554480 + (y * 256 + 25427968)) % 4294967296)
    ((65535 - y) * 768 + 44303144) ≡ nearest_001 x y
lane-001 x y lx ly = omega arith

lane-110 : (x y : ℕ) → x < 65536 → y < 65536 → min
    ((min (min ((65535 - y) * 1024 + 4195520) (y * 1024 + 4194520)) 33554640 + ((65535 - x) * 256 + 25428224)) % 4294967296)
    (x * 768 + 44302536) ≡ nearest_110 x y
lane-110 x y lx ly = omega arith

lane-111 : (x y : ℕ) → x < 65536 → y < 65536 → min
    ((min (min (y * 1024 + 4194528) ((65535 - y) * 1024 + 4195576)) 33554672 + (x * 256 + 25427968)) % 4294967296)
    ((65535 - x) * 768 + 44303336) ≡ nearest_111 x y
lane-111 x y lx ly = omega arith

pub returns : goal.returns
returns c x y is lx ly =
    let first = c.line-first.ensures x (65535 - x) (65535 - y) y 1024 1024 1024 1024 4194304 4195360 4195520 4194528
    (turned (0 ∷ 1 ∷ 3 ∷ 2 ∷ []) _ _ is) refl refl (omega arith) (omega arith) (omega arith) (omega arith) in
    let last = c.line-last.ensures (65535 - x) x y (65535 - y) 1024 1024 1024 1024 4195352 4194360 4194520 4195576
    (turned (1 ∷ 0 ∷ 2 ∷ 3 ∷ []) _ _ is) refl refl (omega arith) (omega arith) (omega arith) (omega arith) in
    let across = c.line-across.ensures (65535 - y) y (65535 - x) x 256 256 256 256 25428224 25427968 25428224 25427968
    (turned (3 ∷ 2 ∷ 1 ∷ 0 ∷ []) _ _ is) refl refl (omega arith) (omega arith) (omega arith) (omega arith) in
    let beside = c.line-beside.ensures y (65535 - y) x (65535 - x) 768 768 768 768 44302344 44303144 44302536 44303336
    (turned (2 ∷ 3 ∷ 0 ∷ 1 ∷ []) _ _ is) refl refl (omega arith) (omega arith) (omega arith) (omega arith) in
    let ends = c.lesser.ensures ∙ both (zip2 min) _ _ _ _ first last in
    let long = c.lesser-2.ensures ∙ ap (λ v. zip2 min v (33554448 ∷ 33554480 ∷ 33554640 ∷ 33554672 ∷ [])) ends in
    c.lesser-3.ensures ∙ both (zip2 min) _ _ _ _ (both plus _ _ _ _ long across) beside ∙ four _ _ _ _ _ _ _ _ (lane-000 x y lx ly)
    (lane-001 x y lx ly) (lane-110 x y lx ly) (lane-111 x y lx ly)
