-- What labels that begin others carry, at either rate.
use Rattle.gateway.proofs.Names.{◌≡◌, ◌∙◌, ℕ, zero, suc, ◌*◌, ◌≤◌, Bool, List, [], ◌∷◌, ◌++◌, length, take, drop, refl, sym, ap, subst}
use Rattle.gateway.proofs.Names.{arith, append_assoc, take-append-drop, take-append-le, take_all, flat_map, low_bits, first-stay, line_of}
use Rattle.gateway.proofs.Names.{Demodulates, Descrambles_once, tap_of, Descrambles, Mode, IsPrefixOf}
use Rattle.std.proofs.Math.Seq.{take-nil}
use Rattle.scramblers.proofs.Readings.{Descrambles_from_Scrambles, Scrambles_from_Descrambles, Scrambles-take}
use Rattle.trellis_tables.specs.Differential.Turned.{unturned}
use Rattle.trellis_tables.proofs.Turning.Inverses.{unturned-take}
use Rattle.rate_4800.specs.Demodulates as quarter

pub some-tap : (mode : Mode) → 1 ≤ tap_of mode
some-tap q0 = grind (arith)

pub begins-more : {X : Type 0} (front back whole more : List X) → front ++ back ≡ whole → IsPrefixOf front (whole ++ more)
begins-more front back whole more e = (back ++ more, sym (append_assoc front back more) ∙ ap (λ xs. xs ++ more) e)

pub take-front : {X : Type 0} (front back : List X) → take (length front) (front ++ back) ≡ front
take-front front back = take-append-le (length front) front back (omega arith) ∙ take_all (length front) front (omega arith)

-- the labels that begin others carry the first of their bits
pub carries-first : (tap : ℕ) (labels front : List ℕ) (bits given : List Bool) → 1 ≤ tap → Demodulates tap labels bits
    → Demodulates tap front given
    → IsPrefixOf front labels → IsPrefixOf given bits
carries-first tap labels front bits given low d g (back, e) =
    let n : ℕ = length front in
    let first : take n labels ≡ front = ap (take n) (sym e) ∙ take-front front back in
    let part : Demodulates tap front (take (4 * n) bits) =
    subst (λ (xs : List ℕ). Demodulates tap xs (take (4 * n) bits)) first (first-stay tap n labels bits low d) in
    let same : given ≡ take (4 * n) bits = Descrambles_once tap (line_of front) given (take (4 * n) bits) g part in
    (drop (4 * n) bits, ap (λ xs. xs ++ drop (4 * n) bits) same ∙ take-append-drop (4 * n) bits)

take-twos : (n : ℕ) (turns : List ℕ) → take (2 * n) (flat_map (low_bits 2) turns) ≡ flat_map (low_bits 2) (take n turns)
take-twos zero turns = refl
take-twos (suc n) [] = take-nil (2 * suc n)
take-twos (suc n) (turn ∷ turns) =
    let two : 2 * suc n ≡ suc (suc (2 * n)) = omega arith in
    let first : take (2 * suc n) (flat_map (low_bits 2) (turn ∷ turns)) ≡ low_bits 2 turn ++ take (2 * n) (flat_map (low_bits 2) turns) =
    ap (λ m. take m (flat_map (low_bits 2) (turn ∷ turns))) two in
    first ∙ ap (λ xs. low_bits 2 turn ++ xs) (take-twos n turns)

pub quarters-carry-first : (tap : ℕ) (labels front : List ℕ) (bits given : List Bool) → 1 ≤ tap → quarter.Demodulates tap labels bits
    → quarter.Demodulates tap front given → IsPrefixOf front labels → IsPrefixOf given bits
quarters-carry-first tap labels front bits given low d g (back, e) =
    let n : ℕ = length front in
    let first : take n labels ≡ front = ap (take n) (sym e) ∙ take-front front back in
    let s = Scrambles-take tap (2 * n) bits (quarter.line_of labels) low (Scrambles_from_Descrambles tap bits (quarter.line_of labels) d) in
    let line : take (2 * n) (quarter.line_of labels) ≡ quarter.line_of front =
    take-twos n (unturned labels) ∙ ap (flat_map (low_bits 2)) (sym (unturned-take labels n)) ∙ ap quarter.line_of first in
    let part : quarter.Demodulates tap front (take (2 * n) bits) =
    subst (λ (xs : List Bool). Descrambles tap xs (take (2 * n) bits)) line
    (Descrambles_from_Scrambles tap (take (2 * n) bits) (take (2 * n) (quarter.line_of labels)) s) in
    let same : given ≡ take (2 * n) bits = Descrambles_once tap (quarter.line_of front) given (take (2 * n) bits) g part in
    (drop (2 * n) bits, ap (λ xs. xs ++ drop (2 * n) bits) same ∙ take-append-drop (2 * n) bits)

pub length-twos : (turns : List ℕ) → length (flat_map (low_bits 2) turns) ≡ 2 * length turns
length-twos [] = refl
length-twos (turn ∷ turns) = grind (arith, length-twos turns)
