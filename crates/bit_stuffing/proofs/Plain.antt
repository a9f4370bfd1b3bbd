-- Given bits in a slot: no flag stands in them, and they end with seven ones.
use Rattle.std.proofs.lemmas.List.{length_push, get_or-append_right}
use Rattle.bit_stuffing.proofs.Names.{◌≡◌, ℕ, ◌+◌, ◌-◌, ◌<◌, ◌≤◌, ◌⊎◌, inl, inr, Bool, true, false, List, [], ◌∷◌, ◌++◌, length, min, None}
use Rattle.bit_stuffing.proofs.Names.{arith, append_assoc, length-append, refl, sym, ◌∙◌, ap, subst, cases_lt, false≢true, append-nil}
use Rattle.bit_stuffing.proofs.Names.{get_or_append_left, beq, ends_with, CountsSince, bit_of, flag, FlagEndsAt, SevenOnesEndAt, OpenedAt}
use Rattle.bit_stuffing.proofs.Names.{seven_ones, IsPlain, Aborted}
use Rattle.bit_stuffing.specs.Found.{found_at}
use Rattle.bit_stuffing.proofs.Ones.{CountsOnes, ones-shut}
use Rattle.bit_stuffing.proofs.Openings.{at_end, from_end, seven_at_end, seven_from_end, opened-once, opened-stays, opened-by_flag}
use Rattle.bit_stuffing.proofs.Openings.{seven_behind, seven-aborts, seven-shuts, shut-stays, shut-quiet, flag-near, quiet}
use Rattle.bit_stuffing.proofs.EndsWith.{ends-flag, flag-ends, ends-seven, seven-ends}
use Rattle.bit_stuffing.proofs.Found.{found-quiet, found-ones}
use Rattle.bit_stuffing.proofs.Counters.{Counts, along}
use Rattle.bit_stuffing.proofs.States.{open_at, shut}

-- a place in bits that are put together

pub bit-left : (past more : List Bool) (i : ℕ) → i < length past → bit_of (past ++ more) i ≡ bit_of past i
bit-left past more i h = get_or_append_left past more false i h

pub bit-right : (past more : List Bool) (i : ℕ) → bit_of (past ++ more) (length past + i) ≡ bit_of more i
bit-right past more i = grind (arith, get_or-append_right)

-- what ends in the front ends in the whole
pub flag-front : (past more : List Bool) (n : ℕ) → FlagEndsAt past n → FlagEndsAt (past ++ more) n
flag-front past more n f = grind (arith, length-append, bit-left)

pub seven-front : (past more : List Bool) (n : ℕ) → SevenOnesEndAt past n → SevenOnesEndAt (past ++ more) n
seven-front past more n s = grind (arith, length-append, bit-left)

-- a flag that stands in the rest alone
pub flag-back : (past more : List Bool) (n : ℕ) → length past + 8 ≤ n → FlagEndsAt (past ++ more) n → FlagEndsAt more (n - length past)
flag-back past more n far f = grind (arith, length-append, bit-right)

pub seven-back : (past more : List Bool) → SevenOnesEndAt more (length more) → SevenOnesEndAt (past ++ more) (length (past ++ more))
seven-back past more s = grind (arith, length-append, bit-right)

-- behind seven ones

pub counts-seven : (bits : List Bool) → SevenOnesEndAt bits (length bits) → Counts shut bits
counts-seven bits s = record {
  ones = record {
    few = omega arith;
    set = grind (arith);
    zero = λ few. absurd (omega arith);
  };
  since = λ p o. ones-shut bits p
      (λ i l h. let place : length bits - 7 + (i + 7 - length bits) ≡ i = omega (arith, s.room) in
      ap (bit_of bits) (sym place) ∙ s.ones (i + 7 - length bits) (omega (arith, s.room))) o;
}

pub counts-start : Counts shut []
counts-start = grind (arith)

-- where no flag is open and none ends, nothing is found
pub along-shut : (all past rest : List Bool) → all ≡ past ++ rest → ((n : ℕ) → length past < n → FlagEndsAt all n → ⊥)
    → CountsSince None past → along past rest ≡ []
along-shut all past [] e never s = refl
along-shut all past (b ∷ rest) e never s =
    let split : all ≡ (past ++ b ∷ []) ++ rest = e ∙ sym (append_assoc past (b ∷ []) rest) in
    let no_flag : FlagEndsAt (past ++ b ∷ []) (length past + 1) → ⊥ =
    λ f. never (length past + 1) (omega arith)
    (subst (λ l. FlagEndsAt l (length past + 1)) (sym split) (flag-front (past ++ b ∷ []) rest (length past + 1) f)) in
    let none = shut-quiet past b s in
    let here : found_at (past ++ b ∷ []) ≡ None = found-quiet past b none.0 none.1 in
    let after : along (past ++ b ∷ []) rest ≡ [] =
    along-shut all (past ++ b ∷ []) rest split (λ n l f. never n (omega (arith, l, length_push past b)) f)
    (shut-stays past b no_flag s) in
    rw (here, after) refl

-- What is found where a flag is open, and each flag that still ends is no farther than eight bits behind the one before: either nothing,
-- and a flag
-- stays open, or one abort.
abbrev pub OnceAborted : List Bool → List Bool → List Bool → Type 0
OnceAborted all past rest =
    ((along past rest ≡ []) × ((p : ℕ) × OpenedAt all p))
    ⊎ ((place : ℕ) × (length past < place) × (place ≤ length all)
    × (along past rest ≡ record { place = place; piece = Aborted; octets = [] } ∷ []))

-- no flag ends right behind seven ones, unless its first zero comes behind them
late_flag : (bits : List Bool) (m n : ℕ) → SevenOnesEndAt bits m → FlagEndsAt bits n → m < n → n ≤ m + 7 → ⊥
late_flag bits m n s f later near = grind (arith)

pub along-open : (all past rest : List Bool) → all ≡ past ++ rest → (first : ℕ)
    → ((n : ℕ) → length past < n → FlagEndsAt all n → n ≤ first + 8) → (p : ℕ) → first ≤ p → OpenedAt past p → OnceAborted all past rest
along-open all past [] e first near p low o = inl (refl, (p, subst (λ l. OpenedAt l p) (sym (append-nil past) ∙ sym e) o))
along-open all past (b ∷ rest) e first near p low o =
    each (ends_with beq (past ++ b ∷ []) flag) (ends_with beq (past ++ b ∷ []) seven_ones) refl refl
    (along-open all (past ++ b ∷ []) rest split first near_more)
  where
    split : all ≡ (past ++ b ∷ []) ++ rest
    split = e ∙ sym (append_assoc past (b ∷ []) rest)

    near_more : (n : ℕ) → length (past ++ b ∷ []) < n → FlagEndsAt all n → n ≤ first + 8
    near_more n l f = near n (omega (arith, l, length_push past b)) f

    goes_on : found_at (past ++ b ∷ []) ≡ None → OnceAborted all (past ++ b ∷ []) rest → OnceAborted all past (b ∷ rest)
    goes_on here (inl (after, still)) = inl (rw (here, after) refl, still)
    goes_on here (inr (place, later, within, after)) = inr (place, omega (arith, later, length_push past b), within, rw (here, after) refl)

    each : (f s : Bool) → ends_with beq (past ++ b ∷ []) flag ≡ f → ends_with beq (past ++ b ∷ []) seven_ones ≡ s
        → ((q : ℕ) → first ≤ q → OpenedAt (past ++ b ∷ []) q → OnceAborted all (past ++ b ∷ []) rest) → OnceAborted all past (b ∷ rest)
    each true s x y more =
        let f = at_end past b (ends-flag (past ++ b ∷ []) x) in
        let close = near (length past + 1) (omega arith)
        (subst (λ l. FlagEndsAt l (length past + 1)) (sym split) (flag-front (past ++ b ∷ []) rest (length past + 1) f)) in
        let none = flag-near past b f (λ q k. let same : q ≡ p = opened-once past q p k o in omega arith) in
        goes_on (found-quiet past b none.0 none.1) (more (length past + 1) (omega (arith, o.flag_ends.within)) (opened-by_flag past b f))
    each false true x y more =
        let s = seven_at_end past b (ends-seven (past ++ b ∷ []) y) in
        let behind = seven_behind past b p o s in
        let here = found-ones past b (seven-aborts past b s (min 8 (length past - p)) (p, o, refl)) in
        let s_all = subst (λ l. SevenOnesEndAt l (length past + 1)) (sym split) (seven-front (past ++ b ∷ []) rest (length past + 1) s) in
        let never : (n : ℕ) → length (past ++ b ∷ []) < n → FlagEndsAt all n → ⊥ = λ n l f.
        let close = near n (omega (arith, l, length_push past b)) f in
        late_flag all (length past + 1) n s_all f (omega (arith, l, length_push past b)) (omega arith) in
        let after = along-shut all (past ++ b ∷ []) rest split never (seven-shuts past b s) in
        grind (arith, split, length-append)
    each false false x y more =
        let no_flag : FlagEndsAt (past ++ b ∷ []) (length past + 1) → ⊥ = grind (arith, flag-ends, from_end) in
        let no_seven : SevenOnesEndAt (past ++ b ∷ []) (length past + 1) → ⊥ = grind (arith, seven-ends, seven_from_end) in
        let none = quiet past b no_flag no_seven in
        goes_on (found-quiet past b none.0 none.1) (more p low (opened-stays past b p o no_flag no_seven))

-- no flag stands in given bits alone, and none ends in them whose first zero is one of the ones before
module _ (past bits : List Bool) (size : ℕ) (plain : IsPlain size bits) where
  far_flag : (n : ℕ) → length past + 8 ≤ n → FlagEndsAt (past ++ bits) n → ⊥
  far_flag n far f = plain.no_flag (n - length past) (flag-back past bits n far f)

  early_flag : (n ones : ℕ) → CountsOnes ones past → length past < n → n < length past + 8 → length past ≤ n - 8 + ones
      → FlagEndsAt (past ++ bits) n → ⊥
  early_flag n ones k later near few f =
      let zero_place : n - 8 + 0 ≡ n - 8 = omega arith in
      let within : n - 8 < length past = omega (arith, f.room) in
      false≢true (sym (f.spelled 0 (omega arith)) ∙ ap (bit_of (past ++ bits)) zero_place ∙ bit-left past bits (n - 8) within
      ∙ k.set (n - 8) within few)

  never : CountsOnes 7 past → (n : ℕ) → length past < n → FlagEndsAt (past ++ bits) n → ⊥
  never k n later f = elim (cases_lt n (length past + 8)) [
    | inl near ↦ early_flag n 7 k later near (omega (arith, f.room)) f
    | inr far ↦ far_flag n far f
  ]

  close_by : (phase p : ℕ) → phase < 8 → CountsOnes (phase - 1) past → p ≤ length past → phase ≡ min 8 (length past - p) → (n : ℕ)
      → length past < n → FlagEndsAt (past ++ bits) n → n ≤ p + 8
  close_by phase p low k within e n later f = elim (cases_lt (p + 8) n) [
    | inl over ↦ elim (cases_lt n (length past + 8)) [
      | inl near ↦ absurd (early_flag n (phase - 1) k later near (omega (arith, f.room)) f)
      | inr far ↦ absurd (far_flag n far f)
    ]
    | inr close ↦ close
  ]

  pub plain-shut : Counts shut (past ++ bits)
  plain-shut = counts-seven (past ++ bits) (seven-back past bits plain.ones)

  -- nothing is found where no flag is open
  pub plain-none : Counts shut past → along past bits ≡ []
  plain-none k = along-shut (past ++ bits) past bits refl (never k.ones) k.since

  -- one abort is found where a flag is open
  pub plain-once : (phase : ℕ) → phase < 8 → Counts (open_at phase) past
      → (place : ℕ) × (length past < place) × (place ≤ length past + size)
      × (along past bits ≡ record { place = place; piece = Aborted; octets = [] } ∷ [])
  plain-once phase low k =
      each (along-open (past ++ bits) past bits refl k.since.0
      (close_by phase k.since.0 low k.ones k.since.1.flag_ends.within k.since.2) k.since.0 (omega arith) k.since.1)
    where
      each : OnceAborted (past ++ bits) past bits
          → (place : ℕ) × (length past < place) × (place ≤ length past + size)
          × (along past bits ≡ record { place = place; piece = Aborted; octets = [] } ∷ [])
      each (inl (after, still)) = absurd (plain-shut.since still.0 still.1)
      each (inr (place, later, within, after)) =
          (place, later, omega (arith, within, plain.full, length-append {A = Bool} past bits), after)
