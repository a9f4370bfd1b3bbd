-- A number whose low bits are the latest bits of a stream.
use Rattle.detection.proofs.Names.{◌≡◌, ℕ, zero, suc, ◌+◌, ◌-◌, ◌*◌, ◌/◌, ◌%◌, ◌^◌, ◌<◌, ◌≤◌, inl, inr, Bool, true, false, nat_eq, List, []}
use Rattle.detection.proofs.Names.{◌∷◌, ◌++◌, length, get_or, drop, reverse, bit_or, arith, length-append, length-drop, refl, sym, ◌∙◌, ap}
use Rattle.detection.proofs.Names.{subst, cases_lt, false≢true, length-replicate, reverse-append, get_or-replicate, get_or_append_left}
use Rattle.detection.proofs.Names.{get_or-append_right, get_or-drop, get_or_default, same_lists, shr-shr, or_shifted, bit_at, trailing_ones}
use Rattle.detection.proofs.Names.{w128, bit_at-rem, ones, Holds, ReaderStands, EndsCharacter, number, low_bits}
use Rattle.std.proofs.lemmas.List.{get_or_past}
use Rattle.std.proofs.lemmas.Nat.Bits.{bit_at-lt, bit_at-suc, bit_at_lowest, bit_at_ones, bit_at-trailing_ones}
use Rattle.std.proofs.lemmas.Nat.Bits.{same_from_bits_below}
use Rattle.frame_check.proofs.BitLists.{length-low_bits, get_or-low_bits}
use Rattle.bit_stuffing.proofs.Latest.{number-lt, same_number}

number-of : (n : ℕ) → n < 2 → n ≡ number (nat_eq n 1)
number-of zero h = refl
number-of (suc zero) h = refl
number-of (suc (suc n)) h = absurd (omega arith)

-- the bits of a character
pub spelled : (k n i : ℕ) → i < k → bit_at n i ≡ number (get_or (low_bits k n) i true)
spelled k n i h = number-of (bit_at n i) (bit_at-lt n i) ∙ ap number (sym (get_or-low_bits k n i true h))

-- the ones at the low end
pub ones_below : (n i : ℕ) → n < 2 ^ 128 → i < trailing_ones w128 n → i < 128 → bit_at n i ≡ 1
ones_below n i fits h low = elim (cases_lt (n + 1) (2 ^ 128)) [
  | inl less ↦ (bit_at-trailing_ones w128 n less).2 i h
  | inr most ↦ let e : n ≡ 2 ^ 128 - 1 = omega arith in ap (λ m. bit_at m i) e ∙ bit_at_ones 128 i low
]

-- and the zero behind them
pub ones_up_to : (n k : ℕ) → n < 2 ^ 128 → k < 128 → bit_at n k ≡ 0 → ((i : ℕ) → i < k → bit_at n i ≡ 1) → trailing_ones w128 n ≡ k
ones_up_to n k fits low zero_at set = elim (cases_lt (n + 1) (2 ^ 128)) [
  | inl less ↦ same (bit_at-trailing_ones w128 n less)
  | inr most ↦ let e : n ≡ 2 ^ 128 - 1 = omega arith in let one : bit_at n k ≡ 1 = ap (λ m. bit_at m k) e ∙ bit_at_ones 128 k low in
      absurd (omega (arith, one, zero_at))
]
  where
    same : (trailing_ones w128 n < 128) × (bit_at n (trailing_ones w128 n) ≡ 0) × ((i : ℕ) → i < trailing_ones w128 n → bit_at n i ≡ 1)
        → trailing_ones w128 n ≡ k
    same h = grind (arith, cases_lt, set, zero_at)

-- where a character stands
module _ (character : List Bool) (nine : length character ≡ 9) (gap : ℕ) (rest : List Bool) where
  recent : List Bool
  recent = ones gap ++ (character ++ rest)

  at_gap : (i : ℕ) → i < gap → get_or (ones gap ++ (character ++ rest)) i true ≡ true
  at_gap i h = grind (arith, get_or_append_left, length-replicate, get_or-replicate)

  at_character : (i : ℕ) → i < 9 → get_or (ones gap ++ (character ++ rest)) (gap + i) true ≡ get_or character i true
  at_character i h = grind (arith, get_or-append_right, length-replicate, get_or_append_left, nine)

  at_rest : (i : ℕ) → get_or (ones gap ++ (character ++ rest)) (gap + 9 + i) true ≡ get_or rest i true
  at_rest i =
      let back : gap + 9 + i - gap ≡ 9 + i = omega arith in
      let behind : 9 + i - 9 ≡ i = omega arith in
      get_or-append_right (ones gap) (character ++ rest) gap (gap + 9 + i) true (length-replicate gap true) (omega arith)
      ∙ ap (λ j. get_or (character ++ rest) j true) back
      ∙ get_or-append_right character rest 9 (9 + i) true nine (omega arith)
      ∙ ap (λ j. get_or rest j true) behind

-- bits of which so many are ones, and the next ones a character
pub split-character : (character recent : List Bool) (gap : ℕ) → length character ≡ 9 → get_or character 8 true ≡ false
    → ((i : ℕ) → i < gap → get_or recent i true ≡ true) → ((i : ℕ) → i < 9 → get_or recent (gap + i) true ≡ get_or character i true)
    → recent ≡ ones gap ++ (character ++ drop (gap + 9) recent)
split-character character recent gap nine start set spells = same_lists recent (ones gap ++ (character ++ drop (gap + 9) recent)) long same
  where
    zero_at : get_or recent (gap + 8) true ≡ false
    zero_at = spells 8 (omega arith) ∙ start

    room : gap + 9 ≤ length recent
    room = elim (cases_lt (gap + 8) (length recent)) [
      | inl less ↦ omega arith
      | inr past ↦ absurd (false≢true (sym zero_at ∙ get_or_past recent (gap + 8) true past))
    ]

    long : length recent ≡ length (ones gap ++ (character ++ drop (gap + 9) recent))
    long = omega (
      arith,
      room,
      nine,
      length-append {A = Bool} (ones gap) (character ++ drop (gap + 9) recent),
      length-append {A = Bool} character (drop (gap + 9) recent),
      length-replicate {A = Bool} gap true,
      length-drop (gap + 9) recent,
    )

    each : (i : ℕ) → get_or recent i true ≡ get_or (ones gap ++ (character ++ drop (gap + 9) recent)) i true
    each i = elim (cases_lt i gap) [
      | inl early ↦ set i early ∙ sym (at_gap character nine gap (drop (gap + 9) recent) i early)
      | inr behind ↦ elim (cases_lt i (gap + 9)) [
        | inl here ↦
            let place : gap + (i - gap) ≡ i = omega arith in
            ap (λ j. get_or recent j true) (sym place) ∙ spells (i - gap) (omega arith)
            ∙ sym (at_character character nine gap (drop (gap + 9) recent) (i - gap) (omega arith))
            ∙ ap (λ j. get_or (ones gap ++ (character ++ drop (gap + 9) recent)) j true) place
        | inr later ↦
            let place : gap + 9 + (i - (gap + 9)) ≡ i = omega arith in
            ap (λ j. get_or recent j true) (sym place) ∙ sym (get_or-drop (gap + 9) recent (i - (gap + 9)) true)
            ∙ sym (at_rest character nine gap (drop (gap + 9) recent) (i - (gap + 9)))
            ∙ ap (λ j. get_or (ones gap ++ (character ++ drop (gap + 9) recent)) j true) place
      ]
    ]

    same : (i : ℕ) (d : Bool) → i < length recent → get_or recent i d ≡ get_or (ones gap ++ (character ++ drop (gap + 9) recent)) i d
    same i d h = get_or_default recent i d true h ∙ each i
        ∙ get_or_default (ones gap ++ (character ++ drop (gap + 9) recent)) i true d (omega (arith, h, long))

-- a number that has the bits behind these
pub holds-behind : (width skipped latest : ℕ) (recent rest : List Bool) → skipped ≤ width
    → ((i : ℕ) → get_or recent (skipped + i) true ≡ get_or rest i true)
    → (room : ℕ) → room + skipped ≤ width → Holds width latest recent → Holds room (latest / 2 ^ skipped) rest
holds-behind width skipped latest recent rest within follows room fits h = record { each = each }
  where
    each : (place : ℕ) → place < room → bit_at (latest / 2 ^ skipped) place ≡ number (get_or rest place true)
    each place low = ap (λ n. n % 2) (shr-shr latest skipped place) ∙ h.each (skipped + place) (omega arith) ∙ ap number (follows place)

bit_at-part : (n gap i : ℕ) → i < 9 → bit_at (n / 2 ^ gap % 512) i ≡ bit_at n (gap + i)
bit_at-part n gap i h = bit_at-rem (n / 2 ^ gap) 9 i h ∙ ap (λ m. m % 2) (shr-shr n gap i)

-- what the code reads, in the terms of the definition
module _ (width latest character most : ℕ) (recent : List Bool) (start : character < 256) (few : most ≤ 17) (wide : most + 9 ≤ width)
    (fits : latest < 2 ^ 128) (h : Holds width latest recent) where
  nine : length (low_bits 9 character) ≡ 9
  nine = length-low_bits 9 character

  no_start : bit_at character 8 ≡ 0
  no_start = omega arith

  start_bit : get_or (low_bits 9 character) 8 true ≡ false
  start_bit = same_number (get_or (low_bits 9 character) 8 true) false (sym (spelled 9 character 8 (omega arith)) ∙ no_start)

  -- the ones at the character's end, before its start bit
  inner : (trailing_ones w128 character < 128) × (bit_at character (trailing_ones w128 character) ≡ 0)
      × ((i : ℕ) → i < trailing_ones w128 character → bit_at character i ≡ 1)
  inner = bit_at-trailing_ones w128 character (omega arith)

  inner_few : trailing_ones w128 character ≤ 8
  inner_few = few_of (trailing_ones w128 character) inner.2
    where
      few_of : (t : ℕ) → ((i : ℕ) → i < t → bit_at character i ≡ 1) → t ≤ 8
      few_of t o = elim (cases_lt 8 t) [ inl over ↦ let one = o 8 over in absurd (omega (arith, one, no_start)) | inr under ↦ under ]

  -- a character that stands there is read

  in_gap : (rest : List Bool) (e : EndsCharacter (low_bits 9 character) most recent rest) (i : ℕ) → i < e.gap → bit_at latest i ≡ 1
  in_gap rest e i l = h.each i (omega (arith, e.high)) ∙ ap (λ r. number (get_or r i true)) e.ends
      ∙ ap number (at_gap (low_bits 9 character) nine e.gap rest i l)

  in_character : (rest : List Bool) (e : EndsCharacter (low_bits 9 character) most recent rest) (i : ℕ) → i < 9
      → bit_at latest (e.gap + i) ≡ bit_at character i
  in_character rest e i l =
      h.each (e.gap + i) (omega (arith, e.high)) ∙ ap (λ r. number (get_or r (e.gap + i) true)) e.ends
      ∙ ap number (at_character (low_bits 9 character) nine e.gap rest i l) ∙ sym (spelled 9 character i l)

  pub gap-read : (rest : List Bool) (e : EndsCharacter (low_bits 9 character) most recent rest)
      → trailing_ones w128 latest - trailing_ones w128 character ≡ e.gap
  gap-read rest e = each (trailing_ones w128 character) inner.1 inner.2 inner_few
    where
      each : (t : ℕ) → bit_at character t ≡ 0 → ((i : ℕ) → i < t → bit_at character i ≡ 1) → t ≤ 8 → trailing_ones w128 latest - t ≡ e.gap
      each t z o low = let all : trailing_ones w128 latest ≡ e.gap + t =
          ones_up_to latest (e.gap + t) fits (omega (arith, e.high)) (in_character rest e t (omega arith) ∙ z) set in omega (arith, all)
        where
          set : (i : ℕ) → i < e.gap + t → bit_at latest i ≡ 1
          set i l = elim (cases_lt i e.gap) [
            | inl early ↦ in_gap rest e i early
            | inr behind ↦ let place : e.gap + (i - e.gap) ≡ i = omega arith in
                ap (bit_at latest) (sym place) ∙ in_character rest e (i - e.gap) (omega arith) ∙ o (i - e.gap) (omega arith)
          ]

  pub character-read : (rest : List Bool) (e : EndsCharacter (low_bits 9 character) most recent rest) → latest / 2 ^ e.gap % 512 ≡ character
  character-read rest e =
      same_from_bits_below 9 (latest / 2 ^ e.gap % 512) character (omega arith) (omega arith)
      (λ i l. bit_at-part latest e.gap i l ∙ in_character rest e i l)

  -- what is read stands there, and the bits before it are left
  left-holds : (gap : ℕ) (rest : List Bool) → gap ≤ most → recent ≡ ones gap ++ (low_bits 9 character ++ rest)
      → Holds (width - (most + 9)) (latest / 2 ^ gap / 512) rest
  left-holds gap rest high ends =
      let all : latest / 2 ^ gap / 512 ≡ latest / 2 ^ (gap + 9) = shr-shr latest gap 9 in
      subst (λ n. Holds (width - (most + 9)) n rest) (sym all)
      (holds-behind width (gap + 9) latest recent rest (omega arith)
      (λ i. ap (λ r. get_or r (gap + 9 + i) true) ends ∙ at_rest (low_bits 9 character) nine gap rest i) (width - (most + 9))
      (omega arith) h)

  pub read-leaves : (gap : ℕ) → gap ≡ trailing_ones w128 latest - trailing_ones w128 character → 8 ≤ gap → gap ≤ most
      → latest / 2 ^ gap % 512 ≡ character
      → (rest : List Bool) × EndsCharacter (low_bits 9 character) most recent rest
      × Holds (width - (most + 9)) (latest / 2 ^ gap / 512) rest
  read-leaves gap e low high same =
      (drop (gap + 9) recent, record { gap = gap; low = low; high = high; ends = ends }, left-holds gap (drop (gap + 9) recent) high ends)
    where
      set : (i : ℕ) → i < gap → get_or recent i true ≡ true
      set i l = same_number (get_or recent i true) true
          (sym (h.each i (omega arith)) ∙ ones_below latest i fits (omega arith) (omega arith))

      spells : (i : ℕ) → i < 9 → get_or recent (gap + i) true ≡ get_or (low_bits 9 character) i true
      spells i l = same_number (get_or recent (gap + i) true) (get_or (low_bits 9 character) i true)
          (sym (h.each (gap + i) (omega arith)) ∙ sym (bit_at-part latest gap i l) ∙ ap (λ n. bit_at n i) same ∙ spelled 9 character i l)

      ends : recent ≡ ones gap ++ (low_bits 9 character ++ drop (gap + 9) recent)
      ends = split-character (low_bits 9 character) recent gap nine start_bit set spells

-- one more bit

shifted-is : (r n : ℕ) → n < 2 → bit_or (r * 2 % 2 ^ 128) n ≡ r % 2 ^ 127 * 2 + n
shifted-is r n h =
    let e : r * 2 % 2 ^ 128 ≡ r % 2 ^ 127 * 2 ^ 1 = omega arith in
    ap (λ x. bit_or x n) e ∙ or_shifted (r % 2 ^ 127) 1 n h

pub reader-shifted : (r n : ℕ) (past : List Bool) (bit : Bool) → n ≡ number bit → ReaderStands r past
    → ReaderStands (bit_or (r * 2 % 2 ^ 128) n) (past ++ bit ∷ [])
reader-shifted r n past bit e h =
    subst (λ x. Holds 128 x (reverse (past ++ bit ∷ []))) (sym (shifted-is r n small))
    (subst (Holds 128 (r % 2 ^ 127 * 2 + n)) (sym (reverse-append past (bit ∷ []))) record { each = each })
  where
    small : n < 2
    small = rw e (number-lt bit)

    each : (place : ℕ) → place < 128 → bit_at (r % 2 ^ 127 * 2 + n) place ≡ number (get_or (bit ∷ reverse past) place true)
    each zero l = let lowest : (r % 2 ^ 127 * 2 + n) % 2 ≡ n = omega (arith, small) in bit_at_lowest (r % 2 ^ 127 * 2 + n) ∙ lowest ∙ e
    each (suc place) l =
        let half : (r % 2 ^ 127 * 2 + n) / 2 ≡ r % 2 ^ 127 = omega (arith, small) in
        bit_at-suc (r % 2 ^ 127 * 2 + n) place ∙ ap (λ x. bit_at x place) half ∙ bit_at-rem r 127 place (omega arith)
        ∙ h.each place (omega arith)

-- before the first bit
pub reader-starts : ReaderStands (2 ^ 128 - 1) []
reader-starts = record { each = λ place l. bit_at_ones 128 place l ∙ ap number (sym (get_or_past [] place true (omega arith))) }
