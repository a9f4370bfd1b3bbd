-- What a receiver stands for after each call.
use Rattle.lapm_receiver.proofs.Names.{◌≡◌, ℕ, zero, suc, ◌+◌, ◌-◌, ◌<◌, ◌≤◌, Bool, true, false, cond, List, [], ◌∷◌, ◌++◌, length, drop}
use Rattle.lapm_receiver.proofs.Names.{nat_eq, nat_lt, nat_le, Some, None, refl, sym, ap, ◌∙◌, arith, drop_of_length-le, nat_tests}
use Rattle.lapm_receiver.proofs.Names.{length-append, length-drop, find, Option, Held, is_held, with_held, run_from, rest_from}
use Rattle.lapm_receiver.proofs.Names.{missing_from, is_among, after_kind, IsRising, Taking, StandsIn, Kept}
use Rattle.std.proofs.Common.{◌||◌, ◌⊎◌, inl, inr}
use Rattle.std.specs.List.{range_with_len}
use Rattle.std.proofs.Math.Seq.{drop-append_seam}
use Rattle.lapm_receiver.specs.Held.{first_outside}
use Rattle.lapm_receiver.specs.Incoming.{Incoming, with_segment, after_delivered, asks, after_asked}

-- what is held behind a run stays so
rest-held : (n r : ℕ) (hs : List Held) → r + length (run_from r hs) ≤ n → is_held n (rest_from r hs) ≡ is_held n hs
rest-held n r [] l = refl
rest-held n r (h ∷ hs) l = by (nat_eq h.number r) refl l (rest-held n (r + 1) hs)
  where
    by : (t : Bool) → nat_eq h.number r ≡ t → r + length (cond t (h.info ∷ run_from (r + 1) hs) []) ≤ n
        → (r + 1 + length (run_from (r + 1) hs) ≤ n → is_held n (rest_from (r + 1) hs) ≡ is_held n hs)
        → is_held n (cond t (rest_from (r + 1) hs) (h ∷ hs)) ≡ nat_eq h.number n || is_held n hs
    by t e l rest = grind (arith)

-- the next segment is taken
pub stands-next : (t : Taking) (i : Incoming) (info : List ℕ) → StandsIn t i → length t.ready ≡ 0
    → StandsIn (record t {
      taken = t.taken + length (info ∷ run_from (t.taken + 1) t.held);
      ready = info ∷ run_from (t.taken + 1) t.held;
      held = rest_from (t.taken + 1) t.held;
      gapped = false;
      owed = true;
    }) (with_segment info i)
stands-next t i info h none =
    let more : length (i.taken ++ (info ∷ run_from (length i.taken + 1) i.held)) ≡ length i.taken + length
    (info ∷ run_from (length i.taken + 1) i.held) = length-append i.taken (info ∷ run_from (length i.taken + 1) i.held) in
    let left : length (drop i.given i.taken) ≡ length i.taken - i.given = length-drop i.given i.taken in
    let given : i.given ≡ length i.taken = omega (arith, none, ap (λ xs. length xs) h.ready_is, left, h.given_within) in
    record {
      window_is = h.window_is;
      srej_is = h.srej_is;
      taken_is = rw (h.taken_is, h.held_is, more) refl;
      given_within = omega (arith, more, h.given_within);
      ready_is = rw (h.taken_is, h.held_is, given) (sym (drop-append_seam i.taken (info ∷ run_from (length i.taken + 1) i.held)));
      held_is = rw (h.taken_is, h.held_is) refl;
      asked_are = record {
        lie_below = h.asked_are.lie_below;
        were_asked = λ n low high.
            let behind : length i.taken ≤ n = omega (arith, more, low) in
            let run : length i.taken + 1 + length (run_from (length i.taken + 1) i.held) ≤ n = omega (arith, more, low) in
            let same : is_held n (rest_from (length i.taken + 1) i.held) ≡ is_held n i.held = rest-held n (length i.taken + 1) i.held run in
            elim (h.asked_are.were_asked n behind high) [ inl held ↦ inl (same ∙ held) | inr among ↦ inr among ];
      };
      rej_is = h.rej_is;
      gapped_is = refl;
      owed_is = refl;
    }

-- what is held stays held
with-held : (n : ℕ) (s : Held) (hs : List Held) → is_held n hs ≡ true → is_held n (with_held s hs) ≡ true
with-held n s [] e = cc
with-held n s (h ∷ hs) e = by (nat_lt s.number h.number) (inner (nat_eq h.number n) refl e (with-held n s hs))
  where
    inner : (u : Bool) → nat_eq h.number n ≡ u → u || is_held n hs ≡ true → (is_held n hs ≡ true → is_held n (with_held s hs) ≡ true)
        → nat_eq h.number n || is_held n (with_held s hs) ≡ true
    inner u w e rest = grind (arith)

    first : (u : Bool) → u || (nat_eq h.number n || is_held n hs) ≡ true
    first q0 = grind (arith)

    by : (t : Bool) → nat_eq h.number n || is_held n (with_held s hs) ≡ true → is_held n (cond t (s ∷ h ∷ hs) (h ∷ with_held s hs)) ≡ true
    by q0 rest = grind (arith)

-- a segment is held
pub stands-kept : (t : Taking) (i : Incoming) (ahead : ℕ) (info : List ℕ) → StandsIn t i
    → StandsIn (record t { held = with_held (record { number = t.taken + ahead; info = info }) t.held }) (after_kind Kept ahead info i)
stands-kept t i ahead info h = record {
  window_is = h.window_is;
  srej_is = h.srej_is;
  taken_is = h.taken_is;
  given_within = h.given_within;
  ready_is = h.ready_is;
  held_is = rw (h.taken_is, h.held_is) refl;
  asked_are = record {
    lie_below = h.asked_are.lie_below;
    were_asked = λ n low high. elim (h.asked_are.were_asked n low high) [
      | inl held ↦ inl (with-held n (record { number = length i.taken + ahead; info = info }) i.held held)
      | inr among ↦ inr among
    ];
  };
  rej_is = h.rej_is;
  gapped_is = h.gapped_is;
  owed_is = h.owed_is;
}

-- a segment is delivered
drop-next : {X : Type 0} (n : ℕ) (xs : List X) → drop 1 (drop n xs) ≡ drop (n + 1) xs
drop-next zero xs = refl
drop-next (suc n) [] = let one : suc n + 1 ≡ suc (n + 1) = omega arith in rw one refl
drop-next (suc n) (x ∷ xs) = let one : suc n + 1 ≡ suc (n + 1) = omega arith in rw one (drop-next n xs)

pub stands-delivered : (t : Taking) (i : Incoming) → StandsIn t i → StandsIn (record t { ready = drop 1 t.ready }) (after_delivered i)
stands-delivered t i h = by (nat_lt i.given (length i.taken)) refl
  where
    by : (u : Bool) → nat_lt i.given (length i.taken) ≡ u
        → StandsIn (record t { ready = drop 1 t.ready }) (cond u (record i { given = i.given + 1 }) i)
    by true e = grind (arith, drop-next)
    by false e = grind (arith, drop_of_length-le)

-- The missing numbers. None of them is held.
below-held : (m n : ℕ) (hs : List Held) → IsRising n hs → m < n → is_held m hs ≡ false
below-held m n [] r l = refl
below-held m n (h ∷ hs) r l = grind (arith, nat_tests, below-held m (h.number + 1) hs r.1 (omega (arith, r.0, l)))

-- numbers were asked for exactly where they lie below a limit
abbrev Told : ℕ → List ℕ → ℕ → Type 0
Told low asked m = is_among m asked ≡ nat_lt m low

-- one that wasn't is the first that doesn't lie below it
told-first : (low m : ℕ) (asked : List ℕ) (o p : Option ℕ) → Told low asked m → o ≡ p
    → cond (is_among m asked) o (Some m) ≡ cond (nat_le low m) (Some m) p
told-first low m asked o p told same = grind (arith, asked)

outside-found : (low : ℕ) (asked : List ℕ) (r : ℕ) (hs : List Held) → IsRising r hs
    → ((m : ℕ) → r ≤ m → is_held m hs ≡ false → Told low asked m)
    → first_outside asked (missing_from r hs) ≡ find (λ m. nat_le low m) (missing_from r hs)
outside-found low asked r [] rising told = refl
outside-found low asked r (h ∷ hs) rising told = up (h.number - r) r (omega (arith, rising.0)) (λ m low_m. told m low_m)
    (outside-found low asked (h.number + 1) hs rising.1 (λ m low_m free. told m (omega (arith, rising.0, low_m))
    (let other : nat_eq h.number m ≡ false = grind (arith, nat_tests, low_m) in rw other free)))
  where
    up : (k r : ℕ) → r + k ≡ h.number → ((m : ℕ) → r ≤ m → nat_eq h.number m || is_held m hs ≡ false → Told low asked m)
        → first_outside asked (missing_from (h.number + 1) hs) ≡ find (λ m. nat_le low m) (missing_from (h.number + 1) hs)
        → first_outside asked (range_with_len r k ++ missing_from (h.number + 1) hs) ≡ find (λ m. nat_le low m)
        (range_with_len r k ++ missing_from (h.number + 1) hs)
    up zero r e told rest = rest
    up (suc k) r e told rest =
        let other : nat_eq h.number r ≡ false = grind (arith, nat_tests, e) in
        let free : nat_eq h.number r || is_held r hs ≡ false = rw other (below-held r (h.number + 1) hs rising.1 (omega (arith, e))) in
        told-first low r asked _ _ (told r (omega arith) free)
        (up k (r + 1) (omega (arith, e)) (λ m low_m. told m (omega (arith, low_m))) rest)

-- where a missing number is told by the limit
told-by : (t : Taking) (i : Incoming) → StandsIn t i → (m : ℕ) → t.taken ≤ m → is_held m t.held ≡ false → Told t.asked_below i.asked m
told-by t i h m low free = grind (arith)

-- by SREJ what is asked for is the first missing number from the limit on
pub asks-found : (t : Taking) (i : Incoming) → StandsIn t i → IsRising t.taken t.held → t.srej ≡ true
    → find (λ n. nat_le t.asked_below n) (missing_from t.taken t.held) ≡ asks i
asks-found t i h rising srej =
    let is_srej : i.srej ≡ true = sym h.srej_is ∙ srej in
    let same : first_outside i.asked (missing_from t.taken t.held) ≡ find (λ n. nat_le t.asked_below n) (missing_from t.taken t.held) =
    outside-found t.asked_below i.asked t.taken t.held rising (told-by t i h) in
    rw is_srej (sym same ∙ ap (λ n. first_outside i.asked (missing_from n t.held)) h.taken_is
    ∙ ap (λ hs. first_outside i.asked (missing_from (length i.taken) hs)) h.held_is)

-- what is found among missing numbers: it isn't below the limit, and all before it from the limit on are held
pub record IsLeast (low r n : ℕ) (hs : List Held) : Type 0 where
  pub above : low ≤ n
  pub behind : r ≤ n
  pub held_before : (m : ℕ) → r ≤ m → m < n → low ≤ m → is_held m hs ≡ true

-- before the first held one
least-up : (low n : ℕ) (h : Held) (hs : List Held) (k r : ℕ) → r + k ≡ h.number
    → (find (λ m. nat_le low m) (missing_from (h.number + 1) hs) ≡ Some n → IsLeast low (h.number + 1) n hs)
    → find (λ m. nat_le low m) (range_with_len r k ++ missing_from (h.number + 1) hs) ≡ Some n → IsLeast low r n (h ∷ hs)
least-up low n h hs zero r e next f =
    let least : IsLeast low (h.number + 1) n hs = next f in
    record {
      above = least.above;
      behind = omega (arith, e, least.behind);
      held_before = λ m low_m less high. at m (nat_eq h.number m) refl low_m less high;
    }
  where
    at : (m : ℕ) (u : Bool) → nat_eq h.number m ≡ u → r ≤ m → m < n → low ≤ m → u || is_held m hs ≡ true
    at m q1 w low_m less high = grind (arith)
least-up low n h hs (suc k) r e next f = by (nat_le low r) refl f (least-up low n h hs k (r + 1) (omega (arith, e)) next)
  where
    by : (u : Bool) → nat_le low r ≡ u
        → cond u (Some r) (find (λ m. nat_le low m) (range_with_len (r + 1) k ++ missing_from (h.number + 1) hs)) ≡ Some n
        → (find (λ m. nat_le low m) (range_with_len (r + 1) k ++ missing_from (h.number + 1) hs) ≡ Some n → IsLeast low (r + 1) n (h ∷ hs))
        → IsLeast low r n (h ∷ hs)
    by u w f rest = grind (arith)

found-least : (low r n : ℕ) (hs : List Held) → IsRising r hs → find (λ m. nat_le low m) (missing_from r hs) ≡ Some n → IsLeast low r n hs
found-least low r n [] rising e = cc
found-least low r n (h ∷ hs) rising e =
    least-up low n h hs (h.number - r) r (omega (arith, rising.0)) (found-least low (h.number + 1) n hs rising.1) e

-- one more number was asked for
among-snoc : (m n : ℕ) (xs : List ℕ) → is_among m (xs ++ n ∷ []) ≡ is_among m xs || nat_eq n m
among-snoc m n [] = grind (arith)
among-snoc m n (x ∷ xs) = by (nat_eq x m) (among-snoc m n xs)
  where
    by : (u : Bool) → is_among m (xs ++ n ∷ []) ≡ is_among m xs || nat_eq n m
        → u || is_among m (xs ++ n ∷ []) ≡ u || is_among m xs || nat_eq n m
    by u rest = grind (arith)

pub stands-asked : (t : Taking) (i : Incoming) (found n : ℕ) → StandsIn t i → IsRising t.taken t.held → t.srej ≡ true
    → Some found ≡ find (λ m. nat_le t.asked_below m) (missing_from t.taken t.held) → asks i ≡ Some n
    → StandsIn (record t { asked_below = found + 1 }) (after_asked n i)
stands-asked t i found n h rising srej e a =
    let is_srej : i.srej ≡ true = sym h.srej_is ∙ srej in
    let both : Some found ≡ Some n = e ∙ asks-found t i h rising srej ∙ a in
    let same : found ≡ n = cc in
    let least : IsLeast t.asked_below t.taken n t.held = found-least t.asked_below t.taken n t.held rising (sym e ∙ both) in
    rw (is_srej, same) (record {
      window_is = h.window_is;
      srej_is = srej;
      taken_is = h.taken_is;
      given_within = h.given_within;
      ready_is = h.ready_is;
      held_is = h.held_is;
      asked_are = record {
        lie_below = λ m among. below least m (sym (among-snoc m n i.asked) ∙ among);
        were_asked = λ m low less. asked least m low less;
      };
      rej_is = h.rej_is;
      gapped_is = h.gapped_is;
      owed_is = h.owed_is;
    })
  where
    below : IsLeast t.asked_below t.taken n t.held → (m : ℕ) → is_among m i.asked || nat_eq n m ≡ true → m < n + 1
    below least m among = grind (arith)

    more : (m : ℕ) (u : Bool) → is_among m i.asked ≡ u → u ≡ true → is_among m (i.asked ++ n ∷ []) ≡ true
    more m u w t = rw (among-snoc m n i.asked, w, t) refl

    asked : IsLeast t.asked_below t.taken n t.held → (m : ℕ) → length i.taken ≤ m → m < n + 1
        → (is_held m i.held ≡ true) ⊎ (is_among m (i.asked ++ n ∷ []) ≡ true)
    asked least m low less = grind (arith, among-snoc, more)

-- where nothing is missing nothing is due
pub none-due : (t : Taking) (i : Incoming) (n : ℕ) → StandsIn t i → IsRising t.taken t.held → t.srej ≡ true
    → None ≡ find (λ m. nat_le t.asked_below m) (missing_from t.taken t.held) → asks i ≡ Some n → ⊥
none-due t i n h rising srej e a = let both : None ≡ Some n = e ∙ asks-found t i h rising srej ∙ a in cc
