-- Octets cut into slots.
use Rattle.run_commands.proofs.Names.{◌≡◌, ◌∙◌, ℕ, zero, suc, ◌+◌, ◌*◌, ◌<◌, ◌≤◌, List, [], ◌∷◌, ◌++◌, length, take, refl, ap, subst, arith}
use Rattle.run_commands.proofs.Names.{append_assoc, take_all, slot_at, slots_before, slot_octets}
use Rattle.std.proofs.Common.{drop}
use Rattle.std.proofs.Common.{append-nil}
use Rattle.std.proofs.lemmas.List.{take-append-le, drop-append-le, length-drop}
use Rattle.std.proofs.Math.Seq.{take-append_seam, drop-append_seam}
use Rattle.run_commands.specs.Peering.Runs.{slots_in}

-- a slot that stands among the first octets
front-cut : (size n place : ℕ) (a b : List ℕ) → place ≡ size * n → place + size ≤ length a
    → take size (drop place (a ++ b)) ≡ take size (drop place a)
front-cut size n place a b e h = grind (arith, drop-append-le, take-append-le, length-drop)

pub slot-front : (n : ℕ) (a b : List ℕ) → slot_octets * n + slot_octets ≤ length a → slot_at (a ++ b) n ≡ slot_at a n
slot-front n a b h = front-cut slot_octets n (slot_octets * n) a b refl h

pub slots-front : (n : ℕ) (a b : List ℕ) → slot_octets * n ≤ length a → slots_before (a ++ b) n ≡ slots_before a n
slots-front zero a b h = refl
slots-front (suc n) a b h =
    ap (λ x. x ∷ slots_before (a ++ b) n) (slot-front n a b (omega (arith, h)))
    ∙ ap (λ l. slot_at a n ∷ l) (slots-front n a b (omega (arith, h)))

-- the slot behind the first octets
behind-cut : (size place : ℕ) (a slot rest : List ℕ) → length a ≡ place → take size (slot ++ rest) ≡ slot
    → take size (drop place ((a ++ slot) ++ rest)) ≡ slot
behind-cut size place a slot rest e cut = grind (arith, append_assoc, drop-append_seam)

pub slot-behind : (n : ℕ) (a slot rest : List ℕ) → length a ≡ slot_octets * n → take slot_octets (slot ++ rest) ≡ slot
    → slot_at ((a ++ slot) ++ rest) n ≡ slot
slot-behind n a slot rest e cut = behind-cut slot_octets (slot_octets * n) a slot rest e cut

full-cut : (size : ℕ) (slot rest : List ℕ) → length slot ≡ size → take size (slot ++ rest) ≡ slot
full-cut size slot rest e = subst (λ n. take n (slot ++ rest) ≡ slot) e (take-append_seam slot rest)

pub full-slot : (slot rest : List ℕ) → length slot ≡ slot_octets → take slot_octets (slot ++ rest) ≡ slot
full-slot slot rest e = full-cut slot_octets slot rest e

short-cut : (size : ℕ) (slot : List ℕ) → length slot ≤ size → take size (slot ++ []) ≡ slot
short-cut size slot h = ap (take size) (append-nil slot) ∙ take_all size slot h

pub short-slot : (slot : List ℕ) → length slot ≤ slot_octets → take slot_octets (slot ++ []) ≡ slot
short-slot slot h = short-cut slot_octets slot h

-- how many slots there are
pub slots-whole : (octets : List ℕ) (n : ℕ) → length octets ≡ 232 * n → n ≡ slots_in octets
slots-whole octets n e = grind (arith)

pub slots-short : (octets : List ℕ) (n more : ℕ) → length octets ≡ 232 * n + more → 1 ≤ more → more ≤ 232 → n + 1 ≡ slots_in octets
slots-short octets n more e low high = grind (arith)

pub slots-more : (octets : List ℕ) (n : ℕ) → 232 * n < length octets → n < slots_in octets
slots-more octets n h = grind (arith)
