-- Break lines in rising order of turn.
use Rattle.noise_script.proofs.Names.{◌≡◌, ℕ, suc, ◌+◌, ◌<◌, ◌≤◌, Bool, cond, nat_lt, nat_eq, List, [], ◌∷◌, ◌++◌, length}
use Rattle.noise_script.proofs.Names.{refl, sym, ap, ◌∙◌, arith, append-nil, append_assoc, placed, placed_each, in_order, Break}
use Rattle.std.proofs.lemmas.Bool.{ltb-true, ltb-false, eqb-true}
use Rattle.noise_script.specs.Breaks.{AreFrom, AreRising, of_turn}
use Rattle.noise_script.specs.Laws.{BreaksInOrder}

placed-length : (line : Break) (lines : List Break) → length (placed line lines) ≡ suc (length lines)
placed-length line [] = refl
placed-length line (next ∷ lines) = by (nat_lt line.turn next.turn) (placed-length line lines)
  where
    by : (b : Bool) → length (placed line lines) ≡ suc (length lines)
        → length (cond b (line ∷ next ∷ lines) (next ∷ placed line lines)) ≡ suc (suc (length lines))
    by b e = grind (arith)

placed_each-length : (sorted lines : List Break) → length (placed_each sorted lines) ≡ length sorted + length lines
placed_each-length sorted [] = let none : length {A = Break} [] ≡ 0 = refl in omega (arith, none)
placed_each-length sorted (line ∷ lines) = grind (arith, placed-length, placed_each-length (placed line sorted) lines)

pub in_order-length : (lines : List Break) → length (in_order lines) ≡ length lines
in_order-length lines = let e = placed_each-length [] lines in omega (arith, e)

-- lines put in order rise, and those of a turn stay in their order

later-from : (turn next : ℕ) (lines : List Break) → turn ≤ next → AreFrom next lines → AreFrom turn lines
later-from turn next [] h f = tt
later-from turn next (line ∷ lines) h f = (omega (arith, h, f.0), later-from turn next lines h f.1)

placed-from : (turn : ℕ) (line : Break) (lines : List Break) → turn ≤ line.turn → AreFrom turn lines → AreFrom turn (placed line lines)
placed-from turn line [] h f = (h, tt)
placed-from turn line (next ∷ lines) h f = by (nat_lt line.turn next.turn) (placed-from turn line lines h f.1)
  where
    by : (b : Bool) → AreFrom turn (placed line lines) → AreFrom turn (cond b (line ∷ next ∷ lines) (next ∷ placed line lines))
    by b later = grind (arith)

placed-rising : (line : Break) (lines : List Break) → AreRising lines → AreRising (placed line lines)
placed-rising line [] r = (tt, tt)
placed-rising line (next ∷ lines) r = by (nat_lt line.turn next.turn) refl (placed-rising line lines r.1)
  where
    by : (b : Bool) → nat_lt line.turn next.turn ≡ b → AreRising (placed line lines)
        → AreRising (cond b (line ∷ next ∷ lines) (next ∷ placed line lines))
    by b e later = grind (arith, ltb-true, later-from, placed-from, ltb-false)

none-of : (turn next : ℕ) (lines : List Break) → turn < next → AreFrom next lines → of_turn turn lines ≡ []
none-of turn next [] h f = refl
none-of turn next (line ∷ lines) h f = by (nat_eq line.turn turn) refl (none-of turn next lines h f.1)
  where
    by : (b : Bool) → nat_eq line.turn turn ≡ b → of_turn turn lines ≡ [] → cond b (line ∷ of_turn turn lines) (of_turn turn lines) ≡ []
    by b e later = grind (arith, eqb-true)

-- a line counts among those of its turn, behind the others
placed-of : (turn : ℕ) (line : Break) (lines : List Break) → AreRising lines
    → of_turn turn (placed line lines) ≡ of_turn turn lines ++ of_turn turn (line ∷ [])
placed-of turn line [] r = refl
placed-of turn line (next ∷ lines) r = by (nat_lt line.turn next.turn) refl (placed-of turn line lines r.1)
  where
    first : (b : Bool) → nat_eq line.turn turn ≡ b → line.turn < next.turn
        → cond b (line ∷ of_turn turn (next ∷ lines)) (of_turn turn (next ∷ lines)) ≡ of_turn turn (next ∷ lines) ++ cond b (line ∷ []) []
    first b e l = grind (arith, eqb-true, none-of, append-nil)

    behind : (b : Bool) → of_turn turn (placed line lines) ≡ of_turn turn lines ++ of_turn turn (line ∷ [])
        → cond b (next ∷ of_turn turn (placed line lines)) (of_turn turn (placed line lines)) ≡ cond b (next ∷ of_turn turn lines)
        (of_turn turn lines) ++ of_turn turn (line ∷ [])
    behind q0 later = grind (arith)

    by : (b : Bool) → nat_lt line.turn next.turn ≡ b → of_turn turn (placed line lines) ≡ of_turn turn lines ++ of_turn turn (line ∷ [])
        → of_turn turn (cond b (line ∷ next ∷ lines) (next ∷ placed line lines)) ≡ of_turn turn (next ∷ lines) ++ of_turn turn (line ∷ [])
    by b e later = grind (arith, first, ltb-true, behind)

one-before : (turn : ℕ) (line : Break) (lines : List Break) → of_turn turn (line ∷ []) ++ of_turn turn lines ≡ of_turn turn (line ∷ lines)
one-before turn line lines = grind (arith)

placed_each-rising : (sorted lines : List Break) → AreRising sorted → AreRising (placed_each sorted lines)
placed_each-rising sorted [] r = r
placed_each-rising sorted (line ∷ lines) r = placed_each-rising (placed line sorted) lines (placed-rising line sorted r)

placed_each-of : (turn : ℕ) (sorted lines : List Break) → AreRising sorted
    → of_turn turn (placed_each sorted lines) ≡ of_turn turn sorted ++ of_turn turn lines
placed_each-of turn sorted [] r = sym (append-nil (of_turn turn sorted))
placed_each-of turn sorted (line ∷ lines) r =
    placed_each-of turn (placed line sorted) lines (placed-rising _ _ r) ∙ ap (λ ls. ls ++ of_turn turn lines) (placed-of _ _ _ r)
    ∙ append_assoc (of_turn turn sorted) (of_turn turn (line ∷ [])) (of_turn turn lines) ∙ ap (λ ls. of_turn turn sorted ++ ls)
    (one-before turn line lines)

pub in_order-is : BreaksInOrder
in_order-is lines = record { rising = placed_each-rising [] lines tt; same = λ turn. placed_each-of turn [] lines tt }
