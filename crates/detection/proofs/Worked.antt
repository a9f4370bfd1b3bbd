-- Worked values of the definitions.
use Rattle.detection.proofs.Names.{◌≡◌, true, false, [], ◌∷◌, ◌++◌, refl, Some, None, line_bits, ones, first, second, twice, pattern, Odp}
use Rattle.detection.proofs.Names.{Adp}
use Rattle.detection.specs.Patterns.{seen_at}

sixteen : seen_at (twice Odp 16 16 16) ≡ Some Odp
unfolding seen_at
sixteen = refl

seventeen : seen_at (true ∷ false ∷ twice Adp 17 8 12) ≡ Some Adp
unfolding seen_at
seventeen = refl

seven : seen_at (twice Odp 9 7 9) ≡ None
unfolding seen_at
seven = refl

eighteen : seen_at (twice Adp 9 9 18) ≡ None
unfolding seen_at
eighteen = refl

early : seen_at (first Odp ++ ones 9 ++ second Odp ++ ones 9 ++ first Odp ++ ones 9 ++ second Odp ++ ones 7) ≡ None
unfolding seen_at
early = refl

nine_quads : line_bits (2 ∷ 2 ∷ 14 ∷ 15 ∷ 11 ∷ 8 ∷ 12 ∷ 15 ∷ 15 ∷ []) ≡ pattern Odp
nine_quads = refl
