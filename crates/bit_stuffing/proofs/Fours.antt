-- A finder of flags at four bits with which nothing ends, or at eight of flags that follow one another: each case is computed.
use Rattle.bit_stuffing.proofs.Names.{◌≡◌, ℕ, ◌+◌, ◌-◌, ◌*◌, ◌/◌, ◌%◌, ◌<◌, ◌≤◌, Bool, true, false, ◌&&◌, if◌then◌else◌, nat_eq, nat_lt}
use Rattle.bit_stuffing.proofs.Names.{List, [], ◌∷◌, ◌++◌, length, Option, Some, None, arith, append_assoc, refl, sym, ◌∙◌, ap, subst, inl}
use Rattle.bit_stuffing.proofs.Names.{inr, cases_lt, false≢true, eqb-true, eq-eqb, ltb-true, lt-ltb, and_parts, append-nil, bit_at}
use Rattle.bit_stuffing.proofs.Names.{rotate_right, w8, back, HoldsLatest, CountsSince, Finding, Finds, PassesBits, bit_of, OpenedAt}
use Rattle.bit_stuffing.proofs.Names.{since_four, EndsWhole, number, low_bits, octet_bits}
use Rattle.std.proofs.Common.{lit≤}
use Rattle.std.proofs.lemmas.Bool.{le-ltb}
use Rattle.bit_stuffing.specs.Found.{pieces_of}
use Rattle.bit_stuffing.proofs.Latest.{back-within, back-past, latest-shifted}
use Rattle.bit_stuffing.proofs.Quiet.{number-is, latest-octet}
use Rattle.bit_stuffing.proofs.Ones.{CountsOnes}
use Rattle.bit_stuffing.proofs.Openings.{opened-once}
use Rattle.bit_stuffing.proofs.Contents.{none-lent}
use Rattle.bit_stuffing.proofs.Counters.{Counters, Counts, step, run, is_open, is_far, Still, still_test, still-of, Below6, counts-step}
use Rattle.bit_stuffing.proofs.Counters.{counts-run, open-run}
use Rattle.bit_stuffing.proofs.Counters.{pieces-along, along-still, no_close}
use Rattle.frame_check.proofs.Generators.{each_below, at_each}

-- how many ones the latest bits end with, up to seven
abbrev ones_of : ℕ → ℕ
ones_of latest =
    if nat_lt latest 128 then 0 else (if nat_lt latest 192 then 1 else (if nat_lt latest 224 then 2 else (if nat_lt latest 240 then 3
    else (if nat_lt latest 248 then 4 else (if nat_lt latest 252 then 5 else (if nat_lt latest 254 then 6 else 7))))))

abbrev ones_test : ℕ → Bool
ones_test latest =
    nat_lt (ones_of latest) 8 &&
    ((if nat_lt (ones_of latest) 7 then nat_eq (bit_at latest (7 - ones_of latest)) 0 else true)
    && each_below 8 (λ place. if nat_lt place (8 - ones_of latest) then true else nat_eq (bit_at latest place) 1))

all_ones : each_below 256 ones_test ≡ true
all_ones = refl

when-true : (a b : Bool) → (if a then b else true) ≡ true → a ≡ true → b ≡ true
when-true a b e h = grind (arith)

when-false : (a b : Bool) → (if a then true else b) ≡ true → a ≡ false → b ≡ true
when-false a b e h = grind (arith)

is_true : (b : Bool) → number b ≡ 1 → b ≡ true
is_true b e = grind (arith)

is_false : (b : Bool) → number b ≡ 0 → b ≡ false
is_false b e = grind (arith)

counts-ones : (latest : ℕ) (past : List Bool) → HoldsLatest latest past → CountsOnes (ones_of latest) past
counts-ones latest past h = record { few = few; set = set; zero = below }
  where
    parts : (nat_lt (ones_of latest) 8 ≡ true) ×
        ((if nat_lt (ones_of latest) 7 then nat_eq (bit_at latest (7 - ones_of latest)) 0 else true)
        && each_below 8 (λ place. if nat_lt place (8 - ones_of latest) then true else nat_eq (bit_at latest place) 1) ≡ true)
    parts = and_parts (nat_lt (ones_of latest) 8) _ (at_each 256 ones_test all_ones latest h.low)

    rest : ((if nat_lt (ones_of latest) 7 then nat_eq (bit_at latest (7 - ones_of latest)) 0 else true) ≡ true)
        × (each_below 8 (λ place. if nat_lt place (8 - ones_of latest) then true else nat_eq (bit_at latest place) 1) ≡ true)
    rest = and_parts (if nat_lt (ones_of latest) 7 then nat_eq (bit_at latest (7 - ones_of latest)) 0 else true)
        (each_below 8 (λ place. if nat_lt place (8 - ones_of latest) then true else nat_eq (bit_at latest place) 1)) parts.1

    few : ones_of latest ≤ 7
    few = let less = ltb-true (ones_of latest) 8 parts.0 in omega (arith, less)

    set : (i : ℕ) → i < length past → length past ≤ i + ones_of latest → bit_of past i ≡ true
    set i within reaches =
        let place = 8 - (length past - i) in
        let back_place : 8 - place ≡ length past - i = omega (arith, few) in
        let there : length past - (length past - i) ≡ i = omega arith in
        let one : bit_at latest place ≡ 1 = eqb-true (bit_at latest place) 1
        (when-false (nat_lt place (8 - ones_of latest)) _
        (at_each 8 (λ place. if nat_lt place (8 - ones_of latest) then true else nat_eq (bit_at latest place) 1) rest.1 place
        (omega (arith, few)))
        (le-ltb place (8 - ones_of latest) (omega (arith, few)))) in
        let seen : back past (8 - place) ≡ bit_of past i = grind (arith, back, back-within) in
        is_true (bit_of past i) (ap number (sym seen) ∙ sym (h.each place (omega (arith, few))) ∙ one)

    below : ones_of latest < 7 → (ones_of latest < length past) × (bit_of past (length past - 1 - ones_of latest) ≡ false)
    below less =
        let low : bit_at latest (7 - ones_of latest) ≡ 0 = grind (arith, eqb-true, when-true, rest, lt-ltb) in
        let place : 8 - (7 - ones_of latest) ≡ ones_of latest + 1 = omega arith in
        let seen : number (back past (ones_of latest + 1)) ≡ 0 = grind (arith, number, back, place) in
        elim (cases_lt (length past) (ones_of latest + 1)) [
          | inl short ↦
              let one : number (back past (ones_of latest + 1)) ≡ 1 = ap number (back-past past (ones_of latest + 1) short) in
              absurd (omega (arith, one, seen))
          | inr long ↦
              let there : length past - (ones_of latest + 1) ≡ length past - 1 - ones_of latest = omega arith in (
                omega arith,
                is_false (bit_of past (length past - 1 - ones_of latest))
                    (ap number (sym (back-within past (ones_of latest + 1) long ∙ ap (bit_of past) there)) ∙ seen),
              )
        ]

-- the counters where these bits came last
abbrev counters : ℕ → Option ℕ → Counters
counters latest since = record { ones = ones_of latest; since = since }

counts-latest : (finding : Finding) (past : List Bool) → Finds finding past → Counts (counters finding.latest finding.since) past
counts-latest finding past h = record { ones = counts-ones finding.latest past h.holds; since = h.counts }

-- each case: nothing is found, and the bits since the flag are those that were said

abbrev below_test : Counters → List Bool → Bool
below_test k [] = true
below_test k (b ∷ s) = nat_lt k.ones 6 && below_test (step k b) s

abbrev same_since : Option ℕ → Option ℕ → Bool
same_since None None = true
same_since (Some m) (Some n) = nat_eq m n
same_since None (Some n) = false
same_since (Some m) None = false

-- where eight bits or more stand behind the flag, it was open before, and no six ones come between
abbrev far_test : Counters → List Bool → Bool
far_test k s = if is_far (run k s).since then is_open k.since && below_test k s else true

abbrev said_test : Counters → List Bool → Option (Option ℕ) → Bool
said_test k s None = true
said_test k s (Some since) = still_test k s && (same_since (run k s).since since && far_test k s)

abbrev since_of : ℕ → Option ℕ
since_of n = if nat_lt n 9 then Some n else None

abbrev case_test : ℕ → ℕ → ℕ → Bool
case_test latest n four = said_test (counters latest (since_of n)) (low_bits 4 four) (since_four latest (since_of n) four)

all_cases : each_below 256 (λ latest. each_below 10 (λ n. each_below 16 (case_test latest n))) ≡ true
all_cases = refl

case-said : (latest four : ℕ) (since : Option ℕ) (past : List Bool) → latest < 256 → four < 16 → CountsSince since past
    → said_test (counters latest since) (low_bits 4 four) (since_four latest since four) ≡ true
case-said latest four since past low small h =
    let n = place since h in
    subst (λ o. said_test (counters latest o) (low_bits 4 four) (since_four latest o four) ≡ true) n.2
    (at_each 16 (case_test latest n.0)
    (at_each 10 (λ n. each_below 16 (case_test latest n))
    (at_each 256 (λ latest. each_below 10 (λ n. each_below 16 (case_test latest n))) all_cases latest low) n.0 n.1) four small)
  where
    place : (since : Option ℕ) → CountsSince since past → (n : ℕ) × (n < 10) × (since_of n ≡ since)
    place None h = (9, omega arith, refl)
    place (Some count) h = let less : count < 9 = omega (arith, h.2) in let e = lt-ltb count 9 less in (count, omega arith, rw e refl)

same-of : (a b : Option ℕ) → same_since a b ≡ true → a ≡ b
same-of a b e = grind (arith, eqb-true)

below-of : (k : Counters) (s : List Bool) → below_test k s ≡ true → Below6 k s
below-of k [] e = tt
below-of k (b ∷ s) e = let p = and_parts (nat_lt k.ones 6) (below_test (step k b) s) e in (ltb-true k.ones 6 p.0, below-of (step k b) s p.1)

-- no whole piece ends with the last of such bits
still-closes : (k : Counters) (past s : List Bool) → Counts k past → Still k s → 0 < length s → (octets : List ℕ)
    → EndsWhole (past ++ s) octets → ⊥
still-closes k past [] h g some octets w = omega (arith, some)
still-closes k past (b ∷ []) h g some octets w = none-lent past b (no_close k past b h g.0) octets w
still-closes k past (b ∷ c ∷ s) h g some octets w =
    still-closes (step k b) (past ++ b ∷ []) (c ∷ s) (counts-step k past b h) g.1 (omega arith) octets
    (subst (λ l. EndsWhole l octets) (sym (append_assoc past (b ∷ []) (c ∷ s))) w)

-- a flag that is open and far was open before
opened-before : (k : Counters) (past s : List Bool) → Counts k past → far_test k s ≡ true → (p : ℕ) → OpenedAt (past ++ s) p
    → p + 8 ≤ length (past ++ s) → OpenedAt past p
opened-before k past s h e p o far = each (run k s).since (counts-run k past s h).since refl
  where
    before : (since : Option ℕ) → CountsSince since past → k.since ≡ since → is_open since ≡ true → Below6 k s → OpenedAt past p
    before None c same some below = absurd (false≢true some)
    before (Some count) c same some below =
        let now = open-run k past s count c.0 h below same c.1 in
        subst (OpenedAt past) (opened-once (past ++ s) c.0 p now o) c.1

    each : (since : Option ℕ) → CountsSince since (past ++ s) → (run k s).since ≡ since → OpenedAt past p
    each None c same = absurd (c p o)
    each (Some count) c same =
        let place : c.0 ≡ p = opened-once (past ++ s) c.0 p c.1 o in
        let eight : count ≡ 8 = omega (arith, place, c.2, far) in
        let yes : is_far (run k s).since ≡ true = ap is_far same ∙ eq-eqb count 8 eight in
        let parts = and_parts (is_open k.since) (below_test k s) (when-true (is_far (run k s).since) _ e yes) in
        before k.since h.since refl parts.0 (below-of k s parts.1)

-- the latest bits then

latest-four : (latest four : ℕ) (past : List Bool) → four < 16 → HoldsLatest latest past
    → HoldsLatest ((256 * four + latest) / 16) (past ++ low_bits 4 four)
latest-four latest four past small h =
    let one = latest-shifted latest (four % 2) past (nat_eq (four % 2) 1) (sym (number-is four)) h in
    let two = latest-shifted _ (four / 2 % 2) _ (nat_eq (four / 2 % 2) 1) (sym (number-is (four / 2))) one in
    let three = latest-shifted _ (four / 2 / 2 % 2) _ (nat_eq (four / 2 / 2 % 2) 1) (sym (number-is (four / 2 / 2))) two in
    let all = latest-shifted _ (four / 2 / 2 / 2 % 2) _ (nat_eq (four / 2 / 2 / 2 % 2) 1) (sym (number-is (four / 2 / 2 / 2))) three in
    let value : (((latest / 2 + 128 * (four % 2)) / 2 + 128 * (four / 2 % 2)) / 2 + 128 * (four / 2 / 2 % 2)) / 2
    + 128 * (four / 2 / 2 / 2 % 2) ≡ (256 * four + latest) / 16 = omega (arith, h.low) in grind (arith, joined)
  where
    joined : (a b c d : Bool) → (((past ++ a ∷ []) ++ b ∷ []) ++ c ∷ []) ++ d ∷ [] ≡ past ++ a ∷ b ∷ c ∷ d ∷ []
    joined a b c d = simp append_assoc refl

-- bits of which the counters say that nothing is found
passes-bits : (finding next : Finding) (past bits : List Bool) → 0 < length bits → Finds finding past
    → HoldsLatest next.latest (past ++ bits) → said_test (counters finding.latest finding.since) bits (Some next.since) ≡ true
    → PassesBits next past bits
passes-bits finding next past bits some h holds said = assumption (
  subst (λ s. CountsSince s (past ++ bits)) same counts.since,
  pieces-along past bits ∙ ap (λ l. pieces_of past ++ l) (along-still k past bits before still) ∙ append-nil (pieces_of past),
  still-closes k past bits before still some,
  opened-before k past bits before parts.2,
)
  where
    k : Counters
    k = counters finding.latest finding.since

    before : Counts k past
    before = counts-latest finding past h

    parts : (still_test k bits ≡ true) × (same_since (run k bits).since next.since ≡ true) × (far_test k bits ≡ true)
    parts =
        let first = and_parts (still_test k bits) (same_since (run k bits).since next.since && far_test k bits) said in
        let last = and_parts (same_since (run k bits).since next.since) (far_test k bits) first.1 in
        (first.0, last.0, last.1)

    still : Still k bits
    still = still-of k bits parts.0

    same : (run k bits).since ≡ next.since
    same = same-of (run k bits).since next.since parts.1

    counts : Counts (run k bits) (past ++ bits)
    counts = counts-run k past bits before

pub passes-four : (finding : Finding) (past : List Bool) (four : ℕ) (since : Option ℕ) → four < 16 → Finds finding past
    → since_four finding.latest finding.since four ≡ Some since
    → PassesBits (record { latest = (256 * four + finding.latest) / 16; since = since }) past (low_bits 4 four)
passes-four finding past four since small h e =
    passes-bits finding (record { latest = (256 * four + finding.latest) / 16; since = since }) past (low_bits 4 four) (lit≤ tt) h
    (latest-four finding.latest four past small h.holds)
    (subst (λ o. said_test (counters finding.latest finding.since) (low_bits 4 four) o ≡ true) e
    (case-said finding.latest four finding.since past h.holds.low small h.counts))

-- flags that follow one another, once more

abbrev flags_test : ℕ → Bool
flags_test count =
    let octet = rotate_right w8 126 count in
    said_test (counters octet (Some count)) (octet_bits octet) (Some (Some count))

all_flags : each_below 8 flags_test ≡ true
all_flags = refl

pub passes-flags : (finding : Finding) (past : List Bool) (octet count : ℕ) → Finds finding past → finding.since ≡ Some count
    → count < 8 → octet ≡ finding.latest → octet ≡ rotate_right w8 126 count → PassesBits finding past (octet_bits octet)
passes-flags finding past octet count h since near latest turned =
    passes-bits finding finding past (octet_bits octet) (lit≤ tt) h
    (subst (λ n. HoldsLatest n (past ++ octet_bits octet)) latest (latest-octet octet past small))
    (subst (λ n. said_test (counters n finding.since) (octet_bits octet) (Some finding.since) ≡ true) latest
    (subst (λ o. said_test (counters octet o) (octet_bits octet) (Some o) ≡ true) (sym since)
    (subst (λ n. said_test (counters n (Some count)) (octet_bits n) (Some (Some count)) ≡ true) (sym turned)
    (at_each 8 flags_test all_flags count near))))
  where
    small : octet < 256
    small = subst (λ n. n < 256) (sym latest) h.holds.low
