-- What stands behind an open flag.
use Rattle.bit_stuffing.proofs.Names.{◌≡◌, ℕ, zero, suc, ◌+◌, ◌-◌, ◌<◌, ◌≤◌, min, Bool, true, false, List, [], ◌∷◌, ◌++◌, length, take}
use Rattle.bit_stuffing.proofs.Names.{drop, arith, refl, sym, ◌∙◌, ap, subst, inl, inr, cases_lt, false≢true, common_steps, take_more}
use Rattle.bit_stuffing.proofs.Names.{drop-append-le, bit_of, FlagEndsAt, SevenOnesEndAt, OpenedAt, Fits, room_after}
use Rattle.bit_stuffing.proofs.Ones.{CountsOnes, one-more, zero-more, flag-six, seven-ones}
use Rattle.bit_stuffing.proofs.Openings.{before_open}
use Rattle.bit_stuffing.proofs.Stuffed.{next_room, room-snoc, fits-snoc}

bit-take : (bits : List Bool) (n i : ℕ) → i < n → bit_of (take n bits) i ≡ bit_of bits i
bit-take bits n i h = grind (arith, common_steps)

pub take-length : (bits : List Bool) (n : ℕ) → n ≤ length bits → length (take n bits) ≡ n
take-length bits n h = grind (arith, common_steps)

flag-lift : (bits : List Bool) (n q : ℕ) → n ≤ length bits → FlagEndsAt (take n bits) q → FlagEndsAt bits q
flag-lift bits n q within h = grind (arith, take-length, bit-take)

seven-lift : (bits : List Bool) (n q : ℕ) → n ≤ length bits → SevenOnesEndAt (take n bits) q → SevenOnesEndAt bits q
seven-lift bits n q within h = grind (arith, take-length, bit-take)

-- the bits behind place p, k of them
abbrev pub between : List Bool → ℕ → ℕ → List Bool
between bits p k = drop p (take (p + k) bits)

-- the room that is left, and the ones that stand at the end
pub record Runs (bits : List Bool) (p k : ℕ) : Type 0 where
  pub fits : Fits 5 (between bits p k)
  pub few : room_after 5 (between bits p k) ≤ 5
  pub ones : CountsOnes (5 - room_after 5 (between bits p k)) (take (p + k) bits)

take-snoc : (bits : List Bool) (n : ℕ) → n < length bits → take (n + 1) bits ≡ take n bits ++ bit_of bits n ∷ []
take-snoc bits n h = take_more bits n false h

between-snoc : (bits : List Bool) (p k : ℕ) → p + k < length bits → between bits p (suc k) ≡ between bits p k ++ bit_of bits (p + k) ∷ []
between-snoc bits p k h = grind (arith, take-snoc, drop-append-le, take-length)

-- six ones in a row don't stand behind an open flag, where a bit follows
six_behind : (bits : List Bool) (p n : ℕ) → OpenedAt bits p → p ≤ n → n < length bits → CountsOnes 6 (take n bits) → ⊥
six_behind bits p n o after within six = elim (cases_lt n (p + 6)) [
  | inl near ↦
      let here : bit_of (take n bits) (p - 1) ≡ true = grind (arith, l) in
      false≢true (sym (before_open bits p o) ∙ sym (bit-take bits n (p - 1) (omega (arith, o.flag_ends.room))) ∙ here)
  | inr far ↦ next (bit_of bits n) refl far
]
  where
    l : length (take n bits) ≡ n
    l = take-length bits n (omega arith)

    next : (b : Bool) → bit_of bits n ≡ b → p + 6 ≤ n → ⊥
    next true e far =
        let s : take (n + 1) bits ≡ take n bits ++ true ∷ [] = take-snoc bits n within ∙ ap (λ b. take n bits ++ b ∷ []) e in
        let seven : SevenOnesEndAt (take (n + 1) bits) (n + 1) = grind (arith, l, seven-ones) in
        o.alive (n + 1) (omega arith) (seven-lift bits (n + 1) (n + 1) (omega arith) seven)
    next false e far =
        let s : take (n + 1) bits ≡ take n bits ++ false ∷ [] = take-snoc bits n within ∙ ap (λ b. take n bits ++ b ∷ []) e in
        let f : FlagEndsAt (take (n + 1) bits) (n + 1) = grind (arith, l, flag-six) in
        o.latest (n + 1) (omega arith) (flag-lift bits (n + 1) (n + 1) (omega arith) f)

-- the room and the ones go together
room_of : (r : ℕ) (b : Bool) → r ≤ 5 → (r ≡ 0 → b ≡ false)
    → (next_room r b ≤ 5) × ((b ≡ true → 5 - next_room r b ≡ min (5 - r) 6 + 1) × (b ≡ false → next_room r b ≡ 5))
room_of r b few h = grind (arith)

pub runs : (bits : List Bool) (p : ℕ) → OpenedAt bits p → (k : ℕ) → p + k < length bits → Runs bits p k
runs bits p o zero within =
    let e : between bits p 0 ≡ [] = grind (arith, common_steps) in
    let l : length (take (p + 0) bits) ≡ p + 0 = take-length bits (p + 0) (omega arith) in
    let r : room_after 5 (between bits p 0) ≡ 5 = ap (room_after 5) e in
    let n : 5 - room_after 5 (between bits p 0) ≡ 0 = omega (arith, r) in
    let place : length (take (p + 0) bits) - 1 - 0 ≡ p - 1 = omega (arith, l) in
    let none : CountsOnes 0 (take (p + 0) bits) = grind (arith, l, bit-take, before_open) in
    record {
      fits = subst (Fits 5) (sym e) tt;
      few = omega (arith, r);
      ones = subst (λ m. CountsOnes m (take (p + 0) bits)) (sym n) none;
    }
runs bits p o (suc k) within = goes_on (runs bits p o k (omega arith)) (bit_of bits (p + k)) refl
  where
    goes_on : Runs bits p k → (b : Bool) → bit_of bits (p + k) ≡ b → Runs bits p (suc k)
    goes_on h b is = record {
      fits = subst (Fits 5) (sym more) (fits-snoc 5 (between bits p k) b h.fits zero_last);
      few = subst (λ r. r ≤ 5) (sym room) facts.0;
      ones = grind (arith, room, longer, each, zero_last, facts);
    }
      where
        longer : take (p + suc k) bits ≡ take (p + k) bits ++ b ∷ []
        longer = let e : p + suc k ≡ p + k + 1 = omega arith in grind (arith, take-snoc)

        more : between bits p (suc k) ≡ between bits p k ++ b ∷ []
        more = between-snoc bits p k (omega arith) ∙ ap (λ c. between bits p k ++ c ∷ []) is

        room : room_after 5 (between bits p (suc k)) ≡ next_room (room_after 5 (between bits p k)) b
        room = ap (room_after 5) more ∙ room-snoc 5 (between bits p k) b

        zero_last : room_after 5 (between bits p k) ≡ 0 → b ≡ false
        zero_last none = last b refl
          where
            last : (c : Bool) → b ≡ c → b ≡ false
            last false e = e
            last true e =
                let five : CountsOnes 5 (take (p + k) bits) = subst (λ r. CountsOnes (5 - r) (take (p + k) bits)) none h.ones in
                let s : take (p + suc k) bits ≡ take (p + k) bits ++ true ∷ [] = longer ∙ ap (λ c. take (p + k) bits ++ c ∷ []) e in
                absurd (six_behind bits p (p + suc k) o (omega arith) within
                (subst (CountsOnes 6) (sym s) (one-more (take (p + k) bits) 5 five)))

        facts : (next_room (room_after 5 (between bits p k)) b ≤ 5)
            × ((b ≡ true → 5 - next_room (room_after 5 (between bits p k)) b ≡ min (5 - room_after 5 (between bits p k)) 6 + 1)
            × (b ≡ false → next_room (room_after 5 (between bits p k)) b ≡ 5))
        facts = room_of (room_after 5 (between bits p k)) b h.few zero_last

        each : (c : Bool) → (room_after 5 (between bits p k) ≡ 0 → c ≡ false)
            → ((c ≡ true → 5 - next_room (room_after 5 (between bits p k)) c ≡ min (5 - room_after 5 (between bits p k)) 6 + 1)
            × (c ≡ false → next_room (room_after 5 (between bits p k)) c ≡ 5))
            → CountsOnes (5 - next_room (room_after 5 (between bits p k)) c) (take (p + k) bits ++ c ∷ [])
        each true z f = subst (λ n. CountsOnes n (take (p + k) bits ++ true ∷ [])) (sym (f.0 refl))
            (one-more (take (p + k) bits) (5 - room_after 5 (between bits p k)) h.ones)
        each false z f = let e : 5 - next_room (room_after 5 (between bits p k)) false ≡ 0 = omega (arith, f.1 refl) in
            subst (λ n. CountsOnes n (take (p + k) bits ++ false ∷ [])) (sym e) (zero-more (take (p + k) bits))
