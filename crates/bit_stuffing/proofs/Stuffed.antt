-- The stuffing as a relation and as a function.
use Rattle.std.proofs.Common.{◌≡◌, ℕ, zero, suc, ◌+◌, Bool, true, false, List, [], ◌∷◌, ◌++◌, lit<, arith, refl, sym, ◌∙◌, ap, subst}
use Rattle.std.proofs.lemmas.Bool.{false≢true}
use Rattle.bit_stuffing.specs.Stuffing.{StuffsFrom, Stuffs, stuffed, removed, room_after, Fits}
use Rattle.bit_stuffing.specs.Stuffing.StuffsFrom.{End, Inserted, One, Zero}

pub zero_first : (content : List Bool) → stuffed zero content ≡ false ∷ stuffed 5 content
zero_first content = grind (arith)

pub is_stuffed : (room : ℕ) {ones : ℕ} {content line : List Bool} → StuffsFrom ones content line → ones + room ≡ 5
    → line ≡ stuffed room content
is_stuffed zero (Inserted h) e = ap (λ t. false ∷ t) (is_stuffed 5 h refl) ∙ sym (zero_first _)
is_stuffed (suc room) (Inserted h) e = absurd (omega arith)
is_stuffed zero (End few) e = absurd (omega arith)
is_stuffed (suc room) (End few) e = refl
is_stuffed zero (One few h) e = absurd (omega arith)
is_stuffed (suc room) (One few h) e = ap (λ t. true ∷ t) (is_stuffed room h (omega arith))
is_stuffed zero (Zero few h) e = absurd (omega arith)
is_stuffed (suc room) (Zero few h) e = ap (λ t. false ∷ t) (is_stuffed 5 h refl)

after_five : (ones : ℕ) (content line : List Bool) → ones + 0 ≡ 5 → StuffsFrom 5 content line → StuffsFrom ones content line
after_five ones content line e h = let five : 5 ≡ ones = omega arith in subst (λ n. StuffsFrom n content line) five h

pub stuffs-stuffed : (ones room : ℕ) (content : List Bool) → ones + room ≡ 5 → StuffsFrom ones content (stuffed room content)
stuffs-stuffed ones zero [] e = after_five ones [] (false ∷ []) e (Inserted (End (lit< tt)))
stuffs-stuffed ones zero (true ∷ content) e =
    after_five ones (true ∷ content) (false ∷ true ∷ stuffed 4 content) e (Inserted (One (lit< tt) (stuffs-stuffed 1 4 content refl)))
stuffs-stuffed ones zero (false ∷ content) e =
    after_five ones (false ∷ content) (false ∷ false ∷ stuffed 5 content) e (Inserted (Zero (lit< tt) (stuffs-stuffed 0 5 content refl)))
stuffs-stuffed ones (suc room) [] e = End (omega arith)
stuffs-stuffed ones (suc room) (true ∷ content) e = One (omega arith) (stuffs-stuffed (suc ones) room content (omega arith))
stuffs-stuffed ones (suc room) (false ∷ content) e = Zero (omega arith) (stuffs-stuffed 0 5 content refl)

pub removed-stuffed : (room : ℕ) (content : List Bool) → removed room (stuffed room content) ≡ content
removed-stuffed zero [] = refl
removed-stuffed zero (true ∷ content) = ap (λ t. true ∷ t) (removed-stuffed 4 content)
removed-stuffed zero (false ∷ content) = ap (λ t. false ∷ t) (removed-stuffed 5 content)
removed-stuffed (suc room) [] = refl
removed-stuffed (suc room) (true ∷ content) = ap (λ t. true ∷ t) (removed-stuffed room content)
removed-stuffed (suc room) (false ∷ content) = ap (λ t. false ∷ t) (removed-stuffed 5 content)

pub is_removed : {content line : List Bool} → Stuffs content line → content ≡ removed 5 line
is_removed h = sym (ap (removed 5) (is_stuffed 5 h refl) ∙ removed-stuffed 5 _)

-- a line of a content is its stuffing exactly where each zero stands that has to, also the last one

no_room : (room : ℕ) (content : List Bool) → room_after room (stuffed room content) ≡ 0 → ⊥
no_room zero [] e = cc
no_room zero (true ∷ content) e = no_room 4 content e
no_room zero (false ∷ content) e = no_room 5 content e
no_room (suc room) [] e = cc
no_room (suc room) (true ∷ content) e = no_room room content e
no_room (suc room) (false ∷ content) e = no_room 5 content e

-- a stuffing doesn't end with five ones
pub stuffs-room : {content line : List Bool} → Stuffs content line → room_after 5 line ≡ 0 → ⊥
stuffs-room {content} h e = no_room 5 content (subst (λ l. room_after 5 l ≡ 0) (is_stuffed 5 h refl) e)

stuffed-removed : (room : ℕ) (line : List Bool) → Fits room line → (room_after room line ≡ 0 → ⊥) → stuffed room (removed room line) ≡ line
stuffed-removed zero [] f n = absurd (n refl)
stuffed-removed zero (true ∷ line) f n = absurd (false≢true (sym f.0))
stuffed-removed zero (false ∷ line) f n = zero_first (removed 5 line) ∙ ap (λ t. false ∷ t) (stuffed-removed 5 line f.1 n)
stuffed-removed (suc room) [] f n = refl
stuffed-removed (suc room) (true ∷ line) f n = ap (λ t. true ∷ t) (stuffed-removed room line f n)
stuffed-removed (suc room) (false ∷ line) f n = ap (λ t. false ∷ t) (stuffed-removed 5 line f n)

pub fits-stuffs : (line : List Bool) → Fits 5 line → (room_after 5 line ≡ 0 → ⊥) → Stuffs (removed 5 line) line
fits-stuffs line f n = subst (Stuffs (removed 5 line)) (stuffed-removed 5 line f n) (stuffs-stuffed 0 5 (removed 5 line) refl)

-- one more bit
abbrev pub next_room : ℕ → Bool → ℕ
next_room zero b = 5
next_room (suc room) true = room
next_room (suc room) false = 5

abbrev pub kept_bit : ℕ → Bool → List Bool
kept_bit zero b = []
kept_bit (suc room) b = b ∷ []

pub room-snoc : (room : ℕ) (s : List Bool) (b : Bool) → room_after room (s ++ b ∷ []) ≡ next_room (room_after room s) b
room-snoc zero [] b = refl
room-snoc (suc room) [] true = refl
room-snoc (suc room) [] false = refl
room-snoc zero (c ∷ s) b = room-snoc 5 s b
room-snoc (suc room) (true ∷ s) b = room-snoc room s b
room-snoc (suc room) (false ∷ s) b = room-snoc 5 s b

pub removed-snoc : (room : ℕ) (s : List Bool) (b : Bool) → removed room (s ++ b ∷ []) ≡ removed room s ++ kept_bit (room_after room s) b
removed-snoc zero [] b = refl
removed-snoc (suc room) [] true = refl
removed-snoc (suc room) [] false = refl
removed-snoc zero (c ∷ s) b = removed-snoc 5 s b
removed-snoc (suc room) (true ∷ s) b = ap (λ t. true ∷ t) (removed-snoc room s b)
removed-snoc (suc room) (false ∷ s) b = ap (λ t. false ∷ t) (removed-snoc 5 s b)

pub fits-snoc : (room : ℕ) (s : List Bool) (b : Bool) → Fits room s → (room_after room s ≡ 0 → b ≡ false) → Fits room (s ++ b ∷ [])
fits-snoc zero [] b f h = (h refl, tt)
fits-snoc (suc room) [] true f h = grind (arith)
fits-snoc (suc room) [] false f h = tt
fits-snoc zero (c ∷ s) b f h = (f.0, fits-snoc 5 s b f.1 h)
fits-snoc (suc room) (true ∷ s) b f h = fits-snoc room s b f h
fits-snoc (suc room) (false ∷ s) b f h = fits-snoc 5 s b f h
