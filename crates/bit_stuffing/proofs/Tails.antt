-- The pieces of a stream's last bits are the last of its pieces.
use Rattle.std.proofs.lemmas.List.{length_push, drop-drop, drop_at, drop-take, get_or-append-add, map-append}
use Rattle.bit_stuffing.proofs.Names.{◌≡◌, ℕ, ◌+◌, ◌-◌, ◌<◌, ◌≤◌, inl, inr, Bool, true, false, if◌then◌else◌, nat_lt, List, [], ◌∷◌, ◌++◌}
use Rattle.bit_stuffing.proofs.Names.{All, length, take, drop, get_or, ◌⊎◌, Option, Some, None, arith, append_assoc, length-append, refl}
use Rattle.bit_stuffing.proofs.Names.{sym, ◌∙◌, ap, subst, cases_lt, false≢true, nat_tests, append-nil, get_or_append_left, All-append}
use Rattle.bit_stuffing.proofs.Names.{beq, ends_with, option_map, bit_of, flag, FlagEndsAt, SevenOnesEndAt, OpenedAt}
use Rattle.bit_stuffing.proofs.Names.{Found, seven_ones, found_from, listed, opened_before, content}
use Rattle.std.proofs.Common.{map}
use Rattle.bit_stuffing.specs.Found.{found_at, pieces_of, closed, aborted}
use Rattle.bit_stuffing.specs.Tails.{behind, LastPiecesAreFound}
use Rattle.bit_stuffing.proofs.Places.{flag-stays, flag-was}
use Rattle.bit_stuffing.proofs.Openings.{opened-once}
use Rattle.bit_stuffing.proofs.EndsWith.{ends-flag, flag-ends}
use Rattle.bit_stuffing.proofs.Found.{IsOpen, open_before, found-place, found-quiet, pieces-none}
use Rattle.bit_stuffing.proofs.Counters.{along, pieces-along}
use Rattle.bit_stuffing.proofs.Sent.{pieces-stay}
use Rattle.bit_stuffing.proofs.Plain.{flag-back}
use Rattle.bit_stuffing.proofs.Passing.{drop-past}

-- ---- flags and ones in all bits and in the last of them

bit-behind : (first rest : List Bool) (i place : ℕ) → place ≡ length first + i → bit_of (first ++ rest) place ≡ bit_of rest i
bit-behind first rest i place e = ap (bit_of (first ++ rest)) e ∙ get_or-append-add first rest i false

flag-behind : (first rest : List Bool) (n : ℕ) → FlagEndsAt rest n → FlagEndsAt (first ++ rest) (length first + n)
flag-behind first rest n f = grind (arith, length-append, bit-behind)

seven-behind : (first rest : List Bool) (n : ℕ) → SevenOnesEndAt rest n → SevenOnesEndAt (first ++ rest) (length first + n)
seven-behind first rest n s = grind (arith, length-append, bit-behind)

seven-ahead : (first rest : List Bool) (q : ℕ) → length first + 7 ≤ q → SevenOnesEndAt (first ++ rest) q
    → SevenOnesEndAt rest (q - length first)
seven-ahead first rest q far s = grind (arith, length-append, bit-behind)

-- a flag among the first bits
pub flag-front : (bits more : List Bool) (n : ℕ) → n ≤ length bits → FlagEndsAt (bits ++ more) n → FlagEndsAt bits n
flag-front bits more n within f = record {
  room = f.room;
  within = within;
  spelled = λ i l. sym (get_or_append_left bits more false (n - 8 + i) (omega (arith, f.room))) ∙ f.spelled i l;
}

pub flag-longer : (bits more : List Bool) (n : ℕ) → FlagEndsAt bits n → FlagEndsAt (bits ++ more) n
flag-longer bits more n f = record {
  room = f.room;
  within = omega (arith, f.within, length-append {A = Bool} bits more);
  spelled = λ i l. get_or_append_left bits more false (n - 8 + i) (omega (arith, f.room, f.within)) ∙ f.spelled i l;
}

-- what is open in the last bits is open in all
opened-behind : (first rest : List Bool) (p : ℕ) → OpenedAt rest p → OpenedAt (first ++ rest) (length first + p)
opened-behind first rest p o = record {
  flag_ends = flag-behind first rest p o.flag_ends;
  latest = λ q above f. o.latest (q - length first) (omega (arith, above, o.flag_ends.room))
      (flag-back first rest q (omega (arith, above, o.flag_ends.room)) f);
  alive = λ q above s. o.alive (q - length first) (omega (arith, above, o.flag_ends.room))
      (seven-ahead first rest q (omega (arith, above, o.flag_ends.room)) s);
}

-- and the other way, once a flag ended in them
opened-ahead : (first rest : List Bool) (n q : ℕ) → FlagEndsAt rest n → OpenedAt (first ++ rest) q → OpenedAt rest (q - length first)
opened-ahead first rest n q f o = by (cases_lt q (length first + n))
  where
    by : (q < length first + n) ⊎ (length first + n ≤ q) → OpenedAt rest (q - length first)
    by (inl early) = absurd (o.latest (length first + n) early (flag-behind first rest n f))
    by (inr late) = record {
      flag_ends = flag-back first rest q (omega (arith, late, f.room)) o.flag_ends;
      latest = λ p above g. o.latest (length first + p) (omega (arith, above, late, f.room)) (flag-behind first rest p g);
      alive = λ p above s. o.alive (length first + p) (omega (arith, above, late, f.room)) (seven-behind first rest p s);
    }

-- ---- what is found at a bit

ends-behind : (first rest text : List Bool) → length text ≤ length rest → ends_with beq (first ++ rest) text ≡ ends_with beq rest text
ends-behind first rest text room = grind (arith, length-append, drop-past)

content-behind : (first rest : List Bool) (p : ℕ) → 8 ≤ length rest → content (first ++ rest) (length first + p) ≡ content rest p
content-behind first rest p room =
    let k : ℕ = length rest - 8 in
    let n : ℕ = length first in
    let long : length (first ++ rest) - 8 ≡ n + k = omega (arith, room, length-append {A = Bool} first rest) in
    ap (λ m. drop (n + p) (take m (first ++ rest))) long ∙ sym (drop-drop p n (take (n + k) (first ++ rest)))
    ∙ ap (drop p) (drop-take n k (first ++ rest) ∙ ap (take k) (drop_at first rest n refl))

by-tests : (n : ℕ) (flags far ones : Bool) (x y : Found)
    → (if flags then (if far then Some (behind n x) else None) else (if ones then Some (behind n y) else None))
    ≡ option_map (behind n) (if flags then (if far then Some x else None) else (if ones then Some y else None))
by-tests n flags far ones x y = grind (arith)

same-test : (n p l : ℕ) → nat_lt (n + p + 8) (n + l) ≡ nat_lt (p + 8) l
same-test n p l = grind (arith, nat_tests)

found_from-behind : (first rest : List Bool) (p : ℕ) → 8 ≤ length rest
    → found_from (first ++ rest) (Some (length first + p)) ≡ option_map (behind (length first)) (found_from rest (Some p))
found_from-behind first rest p room =
    let n : ℕ = length first in
    let long : length (first ++ rest) ≡ n + length rest = length-append {A = Bool} first rest in
    let flags = ends-behind first rest flag room in
    let ones = ends-behind first rest seven_ones (omega (arith, room)) in
    let content_is = content-behind first rest p room in
    rw (flags, ones, content_is, long, same-test n p (length rest))
    (by-tests n (ends_with beq rest flag) (nat_lt (p + 8) (length rest)) (ends_with beq rest seven_ones)
    (closed rest (content rest p)) (aborted rest))

found-behind : (first past : List Bool) (bit : Bool) (n : ℕ) → FlagEndsAt past n
    → found_at (first ++ past ++ bit ∷ []) ≡ option_map (behind (length first)) (found_at (past ++ bit ∷ []))
unfolding found_at
found-behind first past bit n f =
    each (opened_before (past ++ bit ∷ []) (length (past ++ bit ∷ []) - 1))
    (opened_before (first ++ past ++ bit ∷ []) (length (first ++ past ++ bit ∷ []) - 1))
    (open_before past bit) (open_before (first ++ past) bit)
  where
    each : (mine theirs : Option ℕ) → IsOpen mine past → IsOpen theirs (first ++ past)
        → found_from (first ++ past ++ bit ∷ []) theirs ≡ option_map (behind (length first)) (found_from (past ++ bit ∷ []) mine)
    each None None shut others = refl
    each None (Some q) shut opened = absurd (shut (q - length first) (opened-ahead first past n q f opened))
    each (Some p) None opened shut = absurd (shut (length first + p) (opened-behind first past p opened))
    each (Some p) (Some q) mine theirs =
        let e : q ≡ length first + p = opened-once (first ++ past) q (length first + p) theirs (opened-behind first past p mine) in
        ap (λ bits. found_from bits (Some q)) (append_assoc first past (bit ∷ []))
        ∙ ap (λ o. found_from (first ++ (past ++ bit ∷ [])) (Some o)) e
        ∙ found_from-behind first (past ++ bit ∷ []) p (omega (arith, f.room, f.within, length_push past bit))

-- ---- along bits

listed-behind : (n : ℕ) (found : Option Found) → listed (option_map (behind n) found) ≡ map (behind n) (listed found)
listed-behind n found = grind (arith)

along-behind : (first past s : List Bool) (n : ℕ) → FlagEndsAt past n → along (first ++ past) s ≡ map (behind (length first)) (along past s)
along-behind first past [] n f = refl
along-behind first past (b ∷ s) n f =
    ap (λ found. listed found ++ along (first ++ past ++ b ∷ []) s) (found-behind first past b n f)
    ∙ ap (λ here. here ++ along (first ++ past ++ b ∷ []) s) (listed-behind (length first) (found_at (past ++ b ∷ [])))
    ∙ ap (λ bits. map (behind (length first)) (listed (found_at (past ++ b ∷ []))) ++ along bits s) (append_assoc first past (b ∷ []))
    ∙ ap (λ found. map (behind (length first)) (listed (found_at (past ++ b ∷ []))) ++ found)
    (along-behind first (past ++ b ∷ []) s n (flag-stays past b n f))
    ∙ sym (map-append (behind (length first)) (listed (found_at (past ++ b ∷ []))) (along (past ++ b ∷ []) s))

-- what is missed along the last bits, none of whose flags has ended
record Late (first past s : List Bool) (missed : List Found) : Type 0 where
  pub all : along (first ++ past) s ≡ missed ++ map (behind (length first)) (along past s)
  pub early : (n : ℕ) → FlagEndsAt (past ++ s) n → All (λ found. found.place ≤ length first + n) missed

along-late : (first past s : List Bool) → ((n : ℕ) → FlagEndsAt past n → ⊥) → (missed : List Found) × Late first past s missed
along-late first past [] none = grind (arith)
along-late first past (b ∷ s) none =
    by (ends_with beq (past ++ b ∷ []) flag) refl (λ still. along-late first (past ++ b ∷ []) s still)
  where
    here : List Found
    here = listed (found_at (first ++ past ++ b ∷ []))

    quiet : found_at (past ++ b ∷ []) ≡ None
    quiet = found-quiet past b (λ a. none a.opened a.is_opened.flag_ends) (λ c. none c.opened c.is_opened.flag_ends)

    before : (n : ℕ) → FlagEndsAt (past ++ b ∷ s) n → All (λ found. found.place ≤ length first + n) here
    before n f k d h =
        let place = found-place (first ++ past) b k d h in
        elim (cases_lt (length past) n) [
          | inl later ↦ omega (arith, place, length-append {A = Bool} first past)
          | inr sooner ↦ absurd (none n (flag-front past (b ∷ s) n sooner f))
        ]

    joined : along (first ++ past ++ b ∷ []) s ≡ along (first ++ (past ++ b ∷ [])) s
    joined = ap (λ bits. along bits s) (append_assoc first past (b ∷ []))

    rest : map (behind (length first)) (along (past ++ b ∷ []) s) ≡ map (behind (length first)) (along past (b ∷ s))
    rest = ap (λ found. map (behind (length first)) (listed found ++ along (past ++ b ∷ []) s)) (sym quiet)

    by : (ends : Bool) → ends_with beq (past ++ b ∷ []) flag ≡ ends
        → (((n : ℕ) → FlagEndsAt (past ++ b ∷ []) n → ⊥) → (missed : List Found) × Late first (past ++ b ∷ []) s missed)
        → (missed : List Found) × Late first past (b ∷ s) missed
    by true e on = (
      here,
      record {
        all = ap (λ found. here ++ found)
            (joined ∙ along-behind first (past ++ b ∷ []) s (length (past ++ b ∷ [])) (ends-flag (past ++ b ∷ []) e) ∙ rest);
        early = before;
      },
    )
    by false e on =
        let still : (n : ℕ) → FlagEndsAt (past ++ b ∷ []) n → ⊥ = λ n f. elim (cases_lt (length past) n) [
          | inl last ↦
              let place : n ≡ length (past ++ b ∷ []) = omega (arith, f.within, length_push past b) in
              false≢true (sym e ∙ flag-ends (past ++ b ∷ []) (subst (FlagEndsAt (past ++ b ∷ [])) place f))
          | inr sooner ↦ none n (flag-was past b n sooner f)
        ] in
        let more = on still in (
          here ++ more.0,
          record {
            all = ap (λ found. here ++ found) (joined ∙ more.1.all ∙ ap (λ found. more.0 ++ found) rest)
                ∙ sym (append_assoc here more.0 (map (behind (length first)) (along past (b ∷ s))));
            early = λ n f. All-append (λ found. found.place ≤ length first + n) here more.0 (before n f)
                (more.1.early n (subst (λ bits. FlagEndsAt bits n) (sym (append_assoc past (b ∷ []) s)) f));
          },
        )

pub last-pieces-are-found : LastPiecesAreFound
last-pieces-are-found first rest =
    let late = along-late first [] rest (λ n f. omega (arith, f.room, f.within)) in
    let own = pieces-stay [] first in
    let whole : pieces_of rest ≡ along [] rest = pieces-along [] rest ∙ ap (λ found. found ++ along [] rest) pieces-none in
    let mine : pieces_of first ≡ own.0 = own.1.all ∙ ap (λ found. found ++ own.0) pieces-none in
    let behind_first : along first rest ≡ late.0 ++ map (behind (length first)) (pieces_of rest)
    = grind (arith, append-nil, behind) in (
      pieces_of first ++ late.0,
      record {
        all = grind (arith, pieces-along, append_assoc, behind);
        early = λ n f. All-append (λ found. found.place ≤ length first + n) (pieces_of first) late.0
            (λ k d h. let e = own.1.places k d (subst (λ found. k < length found) mine h) in
            let it = ap (λ found. get_or found k d) mine in omega (arith, e.1, ap (λ found. found.place) it))
            (late.1.early n f);
      },
    )
