-- The bits of a slot tell what it carries.
use Rattle.detection.proofs.Names.{◌≡◌, ℕ, zero, suc, ◌<◌, Bool, true, false, List, Option, refl, sym, ap, arith, slot_bits, IsSlot, Flags}
use Rattle.detection.proofs.Names.{ones, Signal, pattern_bits, slot_of, PatternSlot, MarkSlot, FlagSlot, Seen, Odp, Adp}
use Rattle.std.proofs.Common.{slice_index_or}
use Rattle.bit_stuffing.proofs.OneFrame.{one-frame}

-- two lists that differ at a place are not one
differ : (place : ℕ) (a b : List Bool) → slice_index_or a place false ≡ false → slice_index_or b place false ≡ true → a ≡ b → ⊥
differ place a b zero_there one_there e = grind (arith, slice_index_or)

ones-one : (size place : ℕ) → place < size → slice_index_or (ones size) place false ≡ true
ones-one zero place h = absurd (omega arith)
ones-one (suc size) zero h = refl
ones-one (suc size) (suc place) h = ones-one size place (omega arith)

-- a pattern slot begins with a zero, a one and a zero
pattern-mark : (size : ℕ) (seen : Seen) → 8 < size → pattern_bits size seen ≡ ones size → ⊥
pattern-mark size q1 h e = grind (arith)

-- so does no flag slot
flags-pattern : (size phase : ℕ) (seen : Seen) (frame : Option (List ℕ)) → phase < 8
    → slot_bits size phase (Flags frame) ≡ pattern_bits size seen → ⊥
flags-pattern size zero Odp frame h e = differ 2 (pattern_bits size Odp) (slot_bits size 0 (Flags frame)) refl refl (sym e)
flags-pattern size zero Adp frame h e = differ 2 (pattern_bits size Adp) (slot_bits size 0 (Flags frame)) refl refl (sym e)
flags-pattern size (suc zero) Odp frame h e = differ 0 (pattern_bits size Odp) (slot_bits size 1 (Flags frame)) refl refl (sym e)
flags-pattern size (suc zero) Adp frame h e = differ 0 (pattern_bits size Adp) (slot_bits size 1 (Flags frame)) refl refl (sym e)
flags-pattern size (suc (suc zero)) Odp frame h e = differ 0 (pattern_bits size Odp) (slot_bits size 2 (Flags frame)) refl refl (sym e)
flags-pattern size (suc (suc zero)) Adp frame h e = differ 0 (pattern_bits size Adp) (slot_bits size 2 (Flags frame)) refl refl (sym e)
flags-pattern size (suc (suc (suc zero))) Odp frame h e = grind (arith, differ)
flags-pattern size (suc (suc (suc zero))) Adp frame h e = grind (arith, differ)
flags-pattern size (suc (suc (suc (suc zero)))) Odp frame h e = grind (arith, differ)
flags-pattern size (suc (suc (suc (suc zero)))) Adp frame h e = grind (arith, differ)
flags-pattern size (suc (suc (suc (suc (suc zero))))) Odp frame h e = grind (arith, differ)
flags-pattern size (suc (suc (suc (suc (suc zero))))) Adp frame h e = grind (arith, differ)
flags-pattern size (suc (suc (suc (suc (suc (suc zero)))))) Odp frame h e = grind (arith, differ)
flags-pattern size (suc (suc (suc (suc (suc (suc zero)))))) Adp frame h e = grind (arith, differ)
flags-pattern size (suc (suc (suc (suc (suc (suc (suc zero))))))) Odp frame h e = grind (arith, differ)
flags-pattern size (suc (suc (suc (suc (suc (suc (suc zero))))))) Adp frame h e = grind (arith, differ)
flags-pattern size (suc (suc (suc (suc (suc (suc (suc (suc phase)))))))) seen frame h e = absurd (omega arith)

-- a zero stands among the first eight bits of a flag slot
flags-mark : (size phase : ℕ) (frame : Option (List ℕ)) → phase < 8 → 8 < size → slot_bits size phase (Flags frame) ≡ ones size → ⊥
flags-mark size zero frame h long e = differ 0 (slot_bits size 0 (Flags frame)) (ones size) refl (ones-one size 0 (omega arith)) e
flags-mark size (suc zero) frame h long e = differ 6 (slot_bits size 1 (Flags frame)) (ones size) refl (ones-one size 6 (omega arith)) e
flags-mark size (suc (suc zero)) frame h long e =
    differ 5 (slot_bits size 2 (Flags frame)) (ones size) refl (ones-one size 5 (omega arith)) e
flags-mark size (suc (suc (suc zero))) frame h long e =
    differ 4 (slot_bits size 3 (Flags frame)) (ones size) refl (ones-one size 4 (omega arith)) e
flags-mark size (suc (suc (suc (suc zero)))) frame h long e =
    differ 3 (slot_bits size 4 (Flags frame)) (ones size) refl (ones-one size 3 (omega arith)) e
flags-mark size (suc (suc (suc (suc (suc zero))))) frame h long e =
    differ 2 (slot_bits size 5 (Flags frame)) (ones size) refl (ones-one size 2 (omega arith)) e
flags-mark size (suc (suc (suc (suc (suc (suc zero)))))) frame h long e =
    differ 1 (slot_bits size 6 (Flags frame)) (ones size) refl (ones-one size 1 (omega arith)) e
flags-mark size (suc (suc (suc (suc (suc (suc (suc zero))))))) frame h long e =
    differ 0 (slot_bits size 7 (Flags frame)) (ones size) refl (ones-one size 0 (omega arith)) e
flags-mark size (suc (suc (suc (suc (suc (suc (suc (suc phase)))))))) frame h long e = absurd (omega arith)

-- the two patterns differ at the fourth bit
patterns-differ : (size : ℕ) → pattern_bits size Odp ≡ pattern_bits size Adp → ⊥
patterns-differ size e = differ 3 (pattern_bits size Odp) (pattern_bits size Adp) refl refl e

pub one-signal : (size phase : ℕ) (one other : Signal) → 8 < size → phase < 8 → IsSlot size phase (slot_of size one)
    → IsSlot size phase (slot_of size other)
    → slot_bits size phase (slot_of size one) ≡ slot_bits size phase (slot_of size other) → one ≡ other
one-signal size phase (PatternSlot Odp) (PatternSlot Odp) long few is others e = refl
one-signal size phase (PatternSlot Adp) (PatternSlot Adp) long few is others e = refl
one-signal size phase (PatternSlot Odp) (PatternSlot Adp) long few is others e = absurd (patterns-differ size e)
one-signal size phase (PatternSlot Adp) (PatternSlot Odp) long few is others e = absurd (patterns-differ size (sym e))
one-signal size phase (PatternSlot seen) MarkSlot long few is others e = absurd (pattern-mark size seen long e)
one-signal size phase MarkSlot (PatternSlot seen) long few is others e = absurd (pattern-mark size seen long (sym e))
one-signal size phase MarkSlot MarkSlot long few is others e = refl
one-signal size phase (FlagSlot frame) (PatternSlot seen) long few is others e = absurd (flags-pattern size phase seen frame few e)
one-signal size phase (PatternSlot seen) (FlagSlot frame) long few is others e = absurd (flags-pattern size phase seen frame few (sym e))
one-signal size phase (FlagSlot frame) MarkSlot long few is others e = absurd (flags-mark size phase frame few long e)
one-signal size phase MarkSlot (FlagSlot frame) long few is others e = absurd (flags-mark size phase frame few long (sym e))
one-signal size phase (FlagSlot frame) (FlagSlot other) long few is others e = ap FlagSlot (one-frame size phase frame other is others e)
