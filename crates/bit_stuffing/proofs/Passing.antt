-- A deframer at an octet with which nothing ends.
use Rattle.bit_stuffing.proofs.Names.{◌≡◌, ◌⊎◌, ℕ, zero, suc, ◌+◌, ◌-◌, ◌/◌, ◌%◌, ◌^◌, ◌<◌, ◌≤◌, min, Bool, false, List, [], ◌∷◌, ◌++◌}
use Rattle.bit_stuffing.proofs.Names.{length, take, drop, Option, Some, None, IfSome, length-append, arith, refl, sym, ◌∙◌, ap, subst, inl}
use Rattle.bit_stuffing.proofs.Names.{inr, cases_lt, common_steps, drop-append-le, take-append-le, CountsSince, Finding, Finds, Gathering}
use Rattle.bit_stuffing.proofs.Names.{Gathers, HoldsLatest, IsQuiet, LeavesFour, PassesBits, DeframerStands, OpenedAt, content, low_bits}
use Rattle.bit_stuffing.proofs.Names.{octet_bits}
use Rattle.bit_stuffing.proofs.Between.{take-length}
use Rattle.bit_stuffing.proofs.Openings.{opened-once}
use Rattle.bit_stuffing.proofs.Quiet.{quiet-rests, latest-bits}

front-and-rest : (n : ℕ) (xs : List Bool) → take n xs ++ drop n xs ≡ xs
front-and-rest zero xs = refl
front-and-rest (suc n) [] = refl
front-and-rest (suc n) (x ∷ xs) = ap (λ l. x ∷ l) (front-and-rest n xs)

middle-and-rest : (p n : ℕ) (xs : List Bool) → p ≤ n → drop p (take n xs) ++ drop n xs ≡ drop p xs
middle-and-rest zero n xs l = front-and-rest n xs
middle-and-rest (suc p) zero xs l = absurd (omega arith)
middle-and-rest (suc p) (suc n) [] l = refl
middle-and-rest (suc p) (suc n) (x ∷ xs) l = middle-and-rest p n xs (omega arith)

-- what was gathered and the latest eight bits are all that stands behind a flag
pub gathered-all : (past : List Bool) (p octet : ℕ) → p + 8 ≤ length past → drop (length past - 8) past ≡ octet_bits octet
    → content past p ++ octet_bits octet ≡ drop p past
gathered-all past p octet far e = ap (λ l. content past p ++ l) (sym e) ∙ middle-and-rest p (length past - 8) past (omega arith)

content-octet : (past : List Bool) (octet p : ℕ) → content (past ++ octet_bits octet) p ≡ drop p past
content-octet past octet p = ap (drop p) (front past (octet_bits octet) (length (past ++ octet_bits octet) - 8)
    (omega (arith, long past (octet_bits octet))))
  where
    long : (xs ys : List Bool) → length (xs ++ ys) ≡ length xs + length ys
    long xs ys = grind (arith, common_steps)

    front : (xs ys : List Bool) (n : ℕ) → n ≡ length xs → take n (xs ++ ys) ≡ xs
    front xs ys n e = grind (arith, common_steps)

pub quiet-stands : (finding next : Finding) (g : Gathering) (octet : ℕ) (past : List Bool)
    → (finding.since ≡ None) ⊎ (finding.since ≡ Some 8) → IsQuiet past (octet_bits octet) → Finds finding past
    → Finds next (past ++ octet_bits octet) → ((p : ℕ) → OpenedAt past p → p + 8 ≤ length past → Gathers g (drop p past))
    → DeframerStands (record { finding = next; gathering = g; lent = false }) (past ++ octet_bits octet)
quiet-stands finding next g octet past settled q h found gathered = record {
  finds = found;
  gathers = λ p o far. subst (Gathers g) (sym (content-octet past octet p))
      (gathered p ((quiet-rests past (octet_bits octet) q).was p o) (is_far p ((quiet-rests past (octet_bits octet) q).was p o) settled));
  lends = λ other e. q.no_flag (length (past ++ octet_bits octet)) (omega (arith, long past (octet_bits octet))) e.closes.closing;
}
  where
    long : (xs ys : List Bool) → length (xs ++ ys) ≡ length xs + length ys
    long xs ys = grind (arith, common_steps)

    is_far : (p : ℕ) → OpenedAt past p → (finding.since ≡ None) ⊎ (finding.since ≡ Some 8) → p + 8 ≤ length past
    is_far p o (inl none) = absurd ((subst (λ s. CountsSince s past) none h.counts) p o)
    is_far p o (inr far) =
        let k = subst (λ s. CountsSince s past) far h.counts in
        let same : p ≡ k.0 = opened-once past p k.0 o k.1 in
        omega (arith, same, k.2)

-- at four bits

pub take-past : (front xs : List Bool) (n : ℕ) → take (length front + n) (front ++ xs) ≡ front ++ take n xs
take-past [] xs n = let e : length {A = Bool} [] + n ≡ n = omega arith in ap (λ m. take m xs) e
take-past (x ∷ front) xs n = let e : length (x ∷ front) + n ≡ suc (length front + n) = omega arith in
    ap (λ m. take m (x ∷ front ++ xs)) e ∙ ap (λ l. x ∷ l) (take-past front xs n)

pub drop-past : (front xs : List Bool) (n : ℕ) → drop (length front + n) (front ++ xs) ≡ drop n xs
drop-past [] xs n = let e : length {A = Bool} [] + n ≡ n = omega arith in ap (λ m. drop m xs) e
drop-past (x ∷ front) xs n = let e : length (x ∷ front) + n ≡ suc (length front + n) = omega arith in
    ap (λ m. drop m (x ∷ front ++ xs)) e ∙ drop-past front xs n

-- the bits that are four places back or more, by the latest eight
back-four : (past : List Bool) (octet : ℕ) → 8 ≤ length past → drop (length past - 8) past ≡ octet_bits octet
    → take (length past - 4) past ≡ take (length past - 8) past ++ low_bits 4 octet
back-four past octet many e =
    let front = take (length past - 8) past in
    let long : length front ≡ length past - 8 = take-length past (length past - 8) (omega arith) in
    let split : past ≡ front ++ octet_bits octet = sym (front-and-rest (length past - 8) past) ∙ ap (λ l. front ++ l) e in
    let n : length past - 4 ≡ length front + 4 = omega (arith, long) in grind (arith, front, take-past)

-- those of a content of which some were gathered
pub gathered-four : (past : List Bool) (octet p : ℕ) → p + 8 ≤ length past → drop (length past - 8) past ≡ octet_bits octet
    → content past p ++ low_bits 4 octet ≡ drop p (take (length past - 4) past)
gathered-four past octet p far e =
    let long : length (take (length past - 8) past) ≡ length past - 8 = take-length past (length past - 8) (omega arith) in
    sym (ap (drop p) (back-four past octet (omega arith) e) ∙ drop-append-le p (take (length past - 8) past) (low_bits 4 octet)
    (omega (arith, long)))

-- the first bits of a content
few-back : (latest count : ℕ) → 4 ≤ count → count < 8
    → drop (8 - count) (low_bits 4 latest) ≡ low_bits (count - 4) (latest / 2 ^ (8 - count))
few-back latest count some few = elim (cases_lt count 5) [
  | inl four ↦ let e : count ≡ 4 = omega arith in rw e refl
  | inr five ↦ elim (cases_lt count 6) [
    | inl less ↦
        let e : count ≡ 5 = omega arith in
        let a : latest / 2 / 2 / 2 % 2 ≡ latest / 8 % 2 = omega arith in
        rw (e, a) refl
    | inr six ↦ elim (cases_lt count 7) [
      | inl less ↦
          let e : count ≡ 6 = omega arith in
          let a : latest / 2 / 2 % 2 ≡ latest / 4 % 2 = omega arith in
          let b : latest / 2 / 2 / 2 % 2 ≡ latest / 4 / 2 % 2 = omega arith in
          rw (e, a, b) refl
      | inr seven ↦ let e : count ≡ 7 = omega arith in rw e refl
    ]
  ]
]

few-leaving : (latest count p : ℕ) (past : List Bool) → HoldsLatest latest past → OpenedAt past p → 4 ≤ count → count < 8
    → count ≡ length past - p → drop p (take (length past - 4) past) ≡ low_bits (count - 4) (latest / 2 ^ (8 - count))
few-leaving latest count p past h o some few e =
    let front = take (length past - 8) past in
    let many : 8 ≤ length past = omega (arith, o.flag_ends.room, o.flag_ends.within) in
    let long : length front ≡ length past - 8 = take-length past (length past - 8) (omega arith) in
    let place : p ≡ length front + (8 - count) = omega (arith, long, o.flag_ends.room, o.flag_ends.within) in
    ap (drop p) (back-four past latest many (latest-bits latest past h many))
    ∙ ap (λ m. drop m (front ++ low_bits 4 latest)) place ∙ drop-past front (low_bits 4 latest) (8 - count)
    ∙ few-back latest count some few

pub leaves-four : (finding : Finding) (past : List Bool) (count : ℕ) → Finds finding past → finding.since ≡ Some count → 4 ≤ count
    → count ≤ 8 → (p : ℕ) → OpenedAt past p → LeavesFour (finding.latest / 2 ^ (8 - count)) (count - 4) past p
leaves-four finding past count h since some most p o =
    let k = subst (λ s. CountsSince s past) since h.counts in
    let same : p ≡ k.0 = opened-once past p k.0 o k.1 in
    let behind : count ≡ min 8 (length past - p) = k.2 ∙ ap (λ q. min 8 (length past - q)) (sym same) in
    record {
      most = omega (arith, most);
      few = λ less. few-leaving finding.latest count p past h.holds o some (omega (arith, less)) (omega (arith, less, behind));
      all = λ four.
          let eight : count ≡ 8 = omega (arith, four, some) in
          let far : p + 8 ≤ length past = omega (arith, behind, eight, o.flag_ends.within) in
          let all : finding.latest / 2 ^ (8 - count) ≡ finding.latest = rw eight (whole finding.latest) in
          (far, latest-bits finding.latest past h.holds (omega (arith, far)) ∙ ap octet_bits (sym all));
    }
  where
    whole : (n : ℕ) → n / 1 ≡ n
    whole n = omega arith

-- fewer than four bits stand behind the flag that is open, if one is
pub leaves-none : (finding : Finding) (past : List Bool) → Finds finding past
    → ((count : ℕ) → finding.since ≡ Some count → 4 ≤ count → count ≤ 8 → ⊥)
    → (p : ℕ) → OpenedAt past p → length past < p + 4
leaves-none finding past h none p o = each finding.since refl h.counts
  where
    each : (since : Option ℕ) → finding.since ≡ since → CountsSince since past → length past < p + 4
    each None e k = absurd (k p o)
    each (Some count) e k =
        let same : p ≡ k.0 = opened-once past p k.0 o k.1 in grind (arith)

-- eight bits or more behind the flag that is open are four or more
far-since : (finding : Finding) (bits : List Bool) → Finds finding bits → (p : ℕ) → OpenedAt bits p → p + 8 ≤ length bits
    → IfSome finding.since (λ count. 4 ≤ count)
far-since finding bits h p o far = each finding.since h.counts
  where
    each : (since : Option ℕ) → CountsSince since bits → IfSome since (λ count. 4 ≤ count)
    each None k = tt
    each (Some count) k = let same : p ≡ k.0 = opened-once bits p k.0 o k.1 in omega (arith, k.2, same, far)

pub four-stands : (finding : Finding) (g : Gathering) (four : ℕ) (past : List Bool) → PassesBits finding past (low_bits 4 four)
    → (IfSome finding.since (λ count. 4 ≤ count)
    → (p : ℕ) → OpenedAt past p → p + 4 ≤ length past → Gathers g (drop p (take (length past - 4) past)))
    → DeframerStands (record { finding = finding; gathering = g; lent = false }) (past ++ low_bits 4 four)
four-stands finding g four past passes gathered = record {
  finds = passes.finds;
  gathers = λ p o far.
      let long : length (past ++ low_bits 4 four) ≡ length past + 4 = length-append past (low_bits 4 four) in
      let n : length (past ++ low_bits 4 four) - 8 ≡ length past - 4 = omega (arith, long) in
      let same : content (past ++ low_bits 4 four) p ≡ drop p (take (length past - 4) past) = grind (arith, take-append-le) in
      subst (Gathers g) (sym same)
      (gathered (far-since finding (past ++ low_bits 4 four) passes.finds p o far) p (passes.opened p o far) (omega (arith, far, long)));
  lends = passes.closes;
}

-- Flags follow one another: of what stands behind the latest one nothing was to be gathered.
pub flags-stands : (finding : Finding) (g : Gathering) (past bits : List Bool) → PassesBits finding past bits
    → IfSome finding.since (λ count. count < 8)
    → DeframerStands (record { finding = finding; gathering = g; lent = false }) (past ++ bits)
flags-stands finding g past bits passes near = record {
  finds = passes.finds;
  gathers = λ p o far. absurd (too_far p o far finding.since passes.finds.counts near);
  lends = passes.closes;
}
  where
    too_far : (p : ℕ) → OpenedAt (past ++ bits) p → p + 8 ≤ length (past ++ bits) → (since : Option ℕ) → CountsSince since (past ++ bits)
        → IfSome since (λ count. count < 8) → ⊥
    too_far p o far None k less = k p o
    too_far p o far (Some count) k less =
        let same : p ≡ k.0 = opened-once (past ++ bits) p k.0 o k.1 in grind (arith)
