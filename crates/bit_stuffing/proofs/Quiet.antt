-- Octets with whose bits nothing ends.
use Rattle.std.proofs.lemmas.List.{length_push}
use Rattle.bit_stuffing.proofs.Names.{◌≡◌, ◌⊎◌, ℕ, suc, ◌+◌, ◌-◌, ◌*◌, ◌/◌, ◌%◌, ◌^◌, ◌<◌, ◌≤◌, min, Bool, true, false, not, nat_eq}
use Rattle.bit_stuffing.proofs.Names.{List, [], ◌∷◌, ◌++◌, length, drop, Some, None, bit_and, lit<, arith, append_assoc, refl, sym, ◌∙◌, ap}
use Rattle.bit_stuffing.proofs.Names.{subst, inl, inr, cases_lt, eqb-true, common_steps, append-nil, bit_at-suc}
use Rattle.bit_stuffing.proofs.Names.{bit_at_cat_low, bit_at, back, HoldsLatest, CountsSince, Finding, Finds, IsQuiet, bit_of, FlagEndsAt}
use Rattle.bit_stuffing.proofs.Names.{SevenOnesEndAt, OpenedAt, listed, number, octet_bits}
use Rattle.std.proofs.lemmas.Nat.Bits.{bit_at_and, bit_at_cat_high, bit_at-zero}
use Rattle.bit_stuffing.specs.Found.{pieces_of}
use Rattle.bit_stuffing.proofs.Latest.{below8, back-within}
use Rattle.bit_stuffing.proofs.Openings.{opened-stays, opened-was, at_end, seven_at_end}
use Rattle.bit_stuffing.proofs.Found.{found-quiet, pieces-more}
use Rattle.bit_stuffing.proofs.Plain.{flag-front, bit-left, bit-right, seven-front}

pub zero-of : (n : ℕ) → not (nat_eq n 0) ≡ false → n ≡ 0
zero-of n e = grind (arith, eqb-true)

long-both : (past s : List Bool) → length (past ++ s) ≡ length past + length s
long-both [] s = omega arith
long-both (x ∷ past) s = omega (arith, long-both past s)

back-at : (past s : List Bool) (k : ℕ) → k ≤ length s → back (past ++ s) k ≡ bit_of s (length s - k)
back-at past s k l = grind (arith, long-both, back-within, bit-right)

back-before : (past s : List Bool) (k : ℕ) → 1 ≤ k → back (past ++ s) (k + length s) ≡ back past k
back-before past s k some = grind (arith, long-both, back-within, bit-left, back)

-- the bits of an octet
pub number-is : (n : ℕ) → number (nat_eq (n % 2) 1) ≡ n % 2
number-is n = grind (arith)

pub octet-bit : (octet place : ℕ) → place < 8 → number (bit_of (octet_bits octet) place) ≡ bit_at octet place
octet-bit octet = below8 (λ place. number (bit_of (octet_bits octet) place) ≡ bit_at octet place)
    (number-is octet ∙ omega arith)
    (number-is (octet / 2) ∙ omega arith)
    (number-is (octet / 2 / 2) ∙ omega arith)
    (number-is (octet / 2 / 2 / 2) ∙ omega arith)
    (number-is (octet / 2 / 2 / 2 / 2) ∙ omega arith)
    (number-is (octet / 2 / 2 / 2 / 2 / 2) ∙ omega arith)
    (number-is (octet / 2 / 2 / 2 / 2 / 2 / 2) ∙ omega arith)
    (number-is (octet / 2 / 2 / 2 / 2 / 2 / 2 / 2) ∙ omega arith)

pub latest-octet : (octet : ℕ) (past : List Bool) → octet < 256 → HoldsLatest octet (past ++ octet_bits octet)
latest-octet octet past small = grind (arith, number, back, back-at, octet-bit)

-- the latest eight bits as a list
pub latest-bits : (latest : ℕ) (past : List Bool) → HoldsLatest latest past → 8 ≤ length past
    → drop (length past - 8) past ≡ octet_bits latest
latest-bits latest past h many = same_bits (drop (length past - 8) past) (octet_bits latest) (left (length past - 8) past (omega arith)
    ∙ omega arith) each
  where
    left : (n : ℕ) (xs : List Bool) → n ≤ length xs → length (drop n xs) ≡ length xs - n
    left n xs l = grind (arith, common_steps)

    dropped : (n : ℕ) (xs : List Bool) (i : ℕ) → bit_of (drop n xs) i ≡ bit_of xs (n + i)
    dropped n xs i = grind (arith, common_steps)

    same_number : (a b : Bool) → number a ≡ number b → a ≡ b
    same_number a b e = grind (arith)

    same_bits : (xs ys : List Bool) → length xs ≡ length ys → ((i : ℕ) → i < length ys → bit_of xs i ≡ bit_of ys i) → xs ≡ ys
    same_bits [] [] e f = refl
    same_bits [] (y ∷ ys) e f = absurd (omega arith)
    same_bits (x ∷ xs) [] e f = absurd (omega arith)
    same_bits (x ∷ xs) (y ∷ ys) e f = let first : x ≡ y = f 0 (omega arith) in ap (λ z. z ∷ xs) first
        ∙ ap (λ t. y ∷ t) (same_bits xs ys (omega arith) (λ i l. f (suc i) (omega arith)))

    each : (i : ℕ) → i < 8 → bit_of (drop (length past - 8) past) i ≡ bit_of (octet_bits latest) i
    each i l =
        let place : length past - (8 - i) ≡ length past - 8 + i = omega arith in
        let seen : back past (8 - i) ≡ bit_of past (length past - 8 + i) = grind (arith, back-within) in
        same_number (bit_of (drop (length past - 8) past) i) (bit_of (octet_bits latest) i)
        (ap number (dropped (length past - 8) past i ∙ sym seen) ∙ sym (h.each i l) ∙ sym (octet-bit latest i l))

-- six ones in a row
half : (x i : ℕ) → bit_at (x / 2) i ≡ bit_at x (suc i)
half x i = sym (bit_at-suc x i)

quarter : (x i : ℕ) → bit_at (x / 4) i ≡ bit_at x (suc (suc i))
quarter x i = let e : x / 4 ≡ x / 2 / 2 = omega arith in ap (λ y. bit_at y i) e ∙ half (x / 2) i ∙ half x (suc i)

pub six-ones : (bits : ℕ) → bit_and (bit_and (bit_and bits (bits / 2)) (bit_and bits (bits / 2) / 4)) (bit_and bits (bits / 2) / 16) ≡ 0
    → (i : ℕ) → ((j : ℕ) → j < 6 → bit_at bits (i + j) ≡ 1) → ⊥
six-ones bits none i ones =
    let sixteenth : twos / 16 ≡ twos / 4 / 4 = omega arith in
    let y : bit_at (bit_and fours (twos / 16)) i ≡ 1 =
    bit_at_and fours (twos / 16) i
    ∙ both (bit_at fours i) (bit_at (twos / 16) i) (four i (two i (at 0 (omega arith) (lit< tt)) (at 1 (omega arith) (lit< tt)))
    (two (suc (suc i)) (at 2 (omega arith) (lit< tt)) (at 3 (omega arith) (lit< tt))))
    (ap (λ x. bit_at x i) sixteenth ∙ quarter (twos / 4) i ∙ quarter twos (suc (suc i))
    ∙ two (suc (suc (suc (suc i)))) (at 4 (omega arith) (lit< tt)) (at 5 (omega arith) (lit< tt))) in
    let zero_bit : 0 ≡ 1 = sym (bit_at-zero i) ∙ ap (λ n. bit_at n i) (sym none) ∙ y in grind (arith)
  where
    twos : ℕ
    twos = bit_and bits (bits / 2)

    fours : ℕ
    fours = bit_and twos (twos / 4)

    at : (j : ℕ) {n : ℕ} → j + i ≡ n → j < 6 → bit_at bits n ≡ 1
    at j e l = let turned : i + j ≡ j + i = omega arith in subst (λ n. bit_at bits n ≡ 1) (turned ∙ e) (ones j l)

    both : (a b : ℕ) → a ≡ 1 → b ≡ 1 → min a b ≡ 1
    both a b e f = rw (e, f) refl

    two : (n : ℕ) → bit_at bits n ≡ 1 → bit_at bits (suc n) ≡ 1 → bit_at twos n ≡ 1
    two n a b = bit_at_and bits (bits / 2) n ∙ both (bit_at bits n) (bit_at (bits / 2) n) a (half bits n ∙ b)

    four : (n : ℕ) → bit_at twos n ≡ 1 → bit_at twos (suc (suc n)) ≡ 1 → bit_at fours n ≡ 1
    four n a b = bit_at_and twos (twos / 4) n ∙ both (bit_at twos n) (bit_at (twos / 4) n) a (quarter twos n ∙ b)

-- sixteen bits that end with an octet's
window-bit : (latest octet : ℕ) (past : List Bool) → HoldsLatest latest past → (i : ℕ) → i < 16
    → bit_at (256 * octet + latest) i ≡ number (back (past ++ octet_bits octet) (16 - i))
window-bit latest octet past h i l =
    let cat : 256 * octet + latest ≡ octet * 2 ^ 8 + latest = omega arith in
    elim (cases_lt i 8) [
      | inl older ↦
          let place : 16 - i ≡ 8 - i + length (octet_bits octet) = omega arith in
          ap (λ x. bit_at x i) cat ∙ bit_at_cat_low octet 8 latest i older ∙ h.each i older
          ∙ ap number (sym (ap (back (past ++ octet_bits octet)) place ∙ back-before past (octet_bits octet) (8 - i) (omega arith)))
      | inr newer ↦
          let there : 8 - (16 - i) ≡ i - 8 = omega arith in
          let bit : back (past ++ octet_bits octet) (16 - i) ≡ bit_of (octet_bits octet) (i - 8) = grind (arith, back-at) in
          ap (λ x. bit_at x i) cat ∙ bit_at_cat_high octet 8 latest i h.low newer ∙ sym (octet-bit octet (i - 8) (omega arith))
          ∙ ap number (sym bit)
    ]

pub quiet-octet : (latest octet : ℕ) (past : List Bool) → HoldsLatest latest past
    → ((i : ℕ) → ((j : ℕ) → j < 6 → bit_at (256 * octet + latest) (i + j) ≡ 1) → ⊥) → IsQuiet past (octet_bits octet)
quiet-octet latest octet past h none = record {
  no_flag = λ n above f. six n above f.within (omega (arith, f.room)) (λ j l.
      let place : n - 7 + j ≡ n - 8 + suc j = omega (arith, f.room) in
      ap (bit_of all) place ∙ f.spelled (suc j) (omega arith) ∙ inner j l);
  no_seven = λ n above s. six n above s.within s.room (λ j l. s.ones j (omega arith));
}
  where
    all : List Bool
    all = past ++ octet_bits octet

    inner : (j : ℕ) → j < 6 → bit_of (false ∷ true ∷ true ∷ true ∷ true ∷ true ∷ true ∷ false ∷ []) (suc j) ≡ true
    inner j l = grind (arith)

    six : (n : ℕ) → length past < n → n ≤ length all → 7 ≤ n → ((j : ℕ) → j < 6 → bit_of all (n - 7 + j) ≡ true) → ⊥
    six n above within room ones = none (n + 9 - length all) (λ j l.
        let long = long-both past (octet_bits octet) in
        let i = n + 9 - length all + j in
        let place : length all - (16 - i) ≡ n - 7 + j = omega (arith, long) in
        window-bit latest octet past h i (omega (arith, long))
        ∙ ap number (back-within all (16 - i) (omega (arith, long)) ∙ ap (bit_of all) place ∙ ones j l))

pub record Rests (past all : List Bool) : Type 0 where
  pub pieces : pieces_of all ≡ pieces_of past
  pub stays : (p : ℕ) → OpenedAt past p → OpenedAt all p
  pub was : (p : ℕ) → OpenedAt all p → OpenedAt past p

pub quiet-rests : (past s : List Bool) → IsQuiet past s → Rests past (past ++ s)
quiet-rests past [] q = grind (arith, append-nil)
quiet-rests past (b ∷ s) q =
    let joined = append_assoc past (b ∷ []) s in
    let no_flag : FlagEndsAt (past ++ b ∷ []) (length past + 1)
    → ⊥ = λ f. q.no_flag (length past + 1) (omega arith)
    (subst (λ l. FlagEndsAt l (length past + 1)) joined (flag-front (past ++ b ∷ []) s (length past + 1) f)) in
    let no_seven : SevenOnesEndAt (past ++ b ∷ []) (length past + 1)
    → ⊥ = λ f. q.no_seven (length past + 1) (omega arith)
    (subst (λ l. SevenOnesEndAt l (length past + 1)) joined (seven-front (past ++ b ∷ []) s (length past + 1) f)) in
    let rest : IsQuiet (past ++ b ∷ []) s = record {
      no_flag = λ n above f. q.no_flag n (omega (arith, above, length_push past b)) (subst (λ l. FlagEndsAt l n) joined f);
      no_seven = λ n above f. q.no_seven n (omega (arith, above, length_push past b)) (subst (λ l. SevenOnesEndAt l n) joined f);
    } in
    let r = quiet-rests (past ++ b ∷ []) s rest in
    let none = found-quiet past b (λ a. no_seven (seven_at_end past b a.seventh)) (λ c. no_flag (at_end past b c.closing)) in
    let before : OpenedAt (past ++ b ∷ []) (length past + 1) → ⊥ = λ o. no_flag o.flag_ends in
    subst (Rests past) joined (record {
      pieces = r.pieces ∙ pieces-more past b ∙ ap (λ f. pieces_of past ++ listed f) none ∙ append-nil (pieces_of past);
      stays = λ p o. r.stays p (opened-stays past b p o no_flag no_seven);
      was = λ p o.
          let w = r.was p o in
          elim (cases_lt (length past) p) [
            | inl above ↦ let last : p ≡ length past + 1 = omega (arith, w.flag_ends.within, length_push past b) in absurd
                (before (subst (OpenedAt (past ++ b ∷ [])) last w))
            | inr within ↦ opened-was past b p within w
          ];
    })

-- the finder goes on
pub quiet-finds : (finding : Finding) (octet : ℕ) (past : List Bool) → octet < 256 → (finding.since ≡ None) ⊎ (finding.since ≡ Some 8)
    → IsQuiet past (octet_bits octet) → Finds finding past
    → Finds (record { latest = octet; since = finding.since }) (past ++ octet_bits octet)
quiet-finds finding octet past small settled q h = record { holds = latest-octet octet past small; counts = counts settled }
  where
    all : List Bool
    all = past ++ octet_bits octet

    counts : (finding.since ≡ None) ⊎ (finding.since ≡ Some 8) → CountsSince finding.since all
    counts (inl none) = subst (λ s. CountsSince s all) (sym none)
        (λ p o. (subst (λ s. CountsSince s past) none h.counts) p ((quiet-rests past (octet_bits octet) q).was p o))
    counts (inr far) =
        let k = subst (λ s. CountsSince s past) far h.counts in
        subst (λ s. CountsSince s all) (sym far) (
          k.0,
          (quiet-rests past (octet_bits octet) q).stays k.0 k.1,
          omega
              (arith, k.2, long-both past (octet_bits octet)),
        )
