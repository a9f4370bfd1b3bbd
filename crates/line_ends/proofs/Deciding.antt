-- Whether octets pass a check, and what a slot is to its hearer, can be told.
use Rattle.std.proofs.Common.{◌≡◌, ◌⊎◌, inl, inr, ℕ, zero, suc, ◌-◌, ◌<◌, ◌≤◌, Bool, true, false, List, [], ◌∷◌, length, take, All, arith}
use Rattle.std.proofs.Common.{refl, sym, ◌∙◌, ap, subst, Option, Some, None, IfSome}
use Rattle.std.proofs.lemmas.Bool.{cases_lt}
use Rattle.std.proofs.lemmas.List.Elements.{All-nil, All-cons, All-head, All-tail}
use Rattle.line_ends.proofs.Names.{Chance, Check, Frame, Heard, INFO, IsFrame, Lost, Nothing, Passed, Role, Seen, Sent, spelled}
use Rattle.frame_check.specs.FrameCheck.{IsChecked, Passes}
use Rattle.frame_check.specs.Division.{count_of, with_check}
use Rattle.frame_check.proofs.Checks.{front-checked, with_check-is, with_check-one}
use Rattle.lapm_frames.specs.Parts.{parts_of}
use Rattle.lapm_frames.specs.Checked.{check_heard}
use Rattle.lapm_frames.specs.declared.seen.Seen.TheVariants as seen
use Rattle.lapm_frames.specs.declared.sent.Sent.TheVariants as slots
use Rattle.sample_line.specs.Received.{PassTheCheck}
use Rattle.sample_line.specs.Outcomes.{is_message, IsSilent, IsPattern, IsFrameOnce, IsWhatWasSent, IsOutcome}

-- it holds, or it doesn't
abbrev pub Decided : Type 0 → Type 0
Decided P = P ⊎ (P → ⊥)

pub both-decided : {P Q : Type 0} → Decided P → Decided Q → Decided (P × Q)
both-decided x d = grind (arith)

three-decided : {P Q R : Type 0} → Decided P → Decided Q → Decided R → Decided (P × Q × R)
three-decided given d d2 = grind (arith)

pub number-decided : (m n : ℕ) → Decided (m ≡ n)
number-decided zero zero = inl refl
number-decided zero (suc n) = inr (λ e. omega (arith, e))
number-decided (suc m) zero = inr (λ e. omega (arith, e))
number-decided (suc m) (suc n) = grind (arith, number-decided m n)

below-decided : (m n : ℕ) → Decided (m < n)
below-decided m n = elim (cases_lt m n) [ inl l ↦ inl l | inr l ↦ inr (λ k. omega (arith, l, k)) ]

pub list-decided : {X : Type 0} → ((x y : X) → Decided (x ≡ y)) → (xs ys : List X) → Decided (xs ≡ ys)
list-decided same [] [] = inl refl
list-decided same [] (y ∷ ys) = inr (λ e. absurd cc)
list-decided same (x ∷ xs) [] = inr (λ e. absurd cc)
list-decided same (x ∷ xs) (y ∷ ys) = go (same x y) (list-decided same xs ys)
  where
    head : x ∷ xs ≡ y ∷ ys → x ≡ y
    head e = cc

    tail : x ∷ xs ≡ y ∷ ys → xs ≡ ys
    tail e = cc

    go : Decided (x ≡ y) → Decided (xs ≡ ys) → Decided (x ∷ xs ≡ y ∷ ys)
    go given f = grind (arith, tail, head)

some-below : (o : Option ℕ) (m : ℕ) → Decided (IfSome o (λ n. n < m))
some-below None m = inl tt
some-below (Some n) m = below-decided n m

some-short : (o : Option (List ℕ)) → Decided (IfSome o (λ info. length info ≤ INFO))
some-short None = inl tt
some-short (Some info) = elim (cases_lt INFO (length info)) [ inl l ↦ inr (λ k. omega (arith, l, k)) | inr l ↦ inl l ]

pub is-frame-decided : (frame : Frame) → Decided (IsFrame frame)
is-frame-decided frame = three-decided (some-below (parts_of frame).ns 128) (some-below (parts_of frame).nr 128)
    (some-short (parts_of frame).info)

-- octets pass a check, or they don't
passes-or-not : (check : Check) (whole : List ℕ) → ((front : List ℕ) × IsChecked check front whole) ⊎ (Passes check whole → ⊥)
passes-or-not check whole = go (list-decided number-decided whole (with_check check front))
  where
    front : List ℕ
    front = take (length whole - count_of check) whole

    go : Decided (whole ≡ with_check check front) → ((octets : List ℕ) × IsChecked check octets whole) ⊎ (Passes check whole → ⊥)
    go (inl e) = inl (front, subst (λ (xs : List ℕ). IsChecked check front xs) (sym e) (with_check-is check front))
    go (inr n) = inr (λ p. n (with_check-one check p.octets whole p.checked
        ∙ ap (with_check check) (front-checked check p.octets whole p.checked)))

-- so there is what passes in each list of octets
pub some-pass : (check : Check) (wholes : List (List ℕ)) → (octets : List (List ℕ)) × PassTheCheck check wholes octets
some-pass check [] = ([], refl)
some-pass check (whole ∷ wholes) = go (passes-or-not (check_heard check whole) whole) (some-pass check wholes)
  where
    go : ((front : List ℕ) × IsChecked (check_heard check whole) front whole) ⊎ (Passes (check_heard check whole) whole → ⊥)
        → ((octets : List (List ℕ)) × PassTheCheck check wholes octets) → (octets : List (List ℕ))
        × PassTheCheck check (whole ∷ wholes) octets
    go (inl f) r = (f.0 ∷ r.0, inr (f.0, r.0, f.1, refl, r.1))
    go (inr n) r = (r.0, inl (n, r.1))

-- what a slot is to its hearer

seen-decided : (a b : Seen) → Decided (a ≡ b)
seen-decided a b = grind (arith)

all-decided : (pattern : Seen) (xs : List Seen) → Decided (All (λ other. other ≡ pattern) xs)
all-decided pattern [] = inl (All-nil (λ other. other ≡ pattern))
all-decided pattern (x ∷ xs) = go (seen-decided x pattern) (all-decided pattern xs)
  where
    go : Decided (x ≡ pattern) → Decided (All (λ other. other ≡ pattern) xs) → Decided (All (λ other. other ≡ pattern) (x ∷ xs))
    go (inl e) (inl a) = inl (All-cons (λ other. other ≡ pattern) x xs e a)
    go (inl e) (inr a) = inr (λ h. a (All-tail (λ other. other ≡ pattern) x xs h))
    go (inr e) a = inr (λ h. e (All-head (λ other. other ≡ pattern) x xs h))

empty-decided : {X : Type 0} (xs : List X) → Decided (xs ≡ [])
empty-decided [] = inl refl
empty-decided (x ∷ xs) = inr (λ e. absurd cc)

not-decided : {P : Type 0} → Decided P → Decided (P → ⊥)
not-decided x = grind (arith)

-- exactly this frame's octets, once
once-decided : (sender : Role) (dlci : ℕ) (frame : Frame) (octets : List (List ℕ)) (patterns : List Seen)
    → Decided (IsFrameOnce sender dlci frame octets patterns)
once-decided sender dlci frame [] patterns = grind (arith)
once-decided sender dlci frame (x ∷ y ∷ octets) patterns = inr (λ h. omega (arith, ap (λ (l : List (List ℕ)). length l) h.2))
once-decided sender dlci frame (x ∷ []) patterns =
    go (three-decided (is-frame-decided frame) (list-decided number-decided x (spelled frame sender dlci)) (empty-decided patterns))
  where
    go : Decided (IsFrame frame × (x ≡ spelled frame sender dlci) × (patterns ≡ []))
        → Decided (IsFrameOnce sender dlci frame (x ∷ []) patterns)
    go w = grind (arith)

pattern-decided : (pattern : Seen) (octets : List (List ℕ)) (patterns : List Seen) → Decided (IsPattern pattern octets patterns)
pattern-decided pattern octets patterns =
    three-decided (empty-decided octets) (not-decided (empty-decided patterns)) (all-decided pattern patterns)

what-was-sent : (sender : Role) (dlci : ℕ) (s : Sent) (octets : List (List ℕ)) (patterns : List Seen)
    → Decided (IsWhatWasSent sender dlci s octets patterns)
what-was-sent sender dlci slots.Mark octets patterns = inr (λ h. h)
what-was-sent sender dlci slots.Flags octets patterns = inr (λ h. h)
what-was-sent sender dlci slots.Odp octets patterns = pattern-decided seen.Odp octets patterns
what-was-sent sender dlci slots.Adp octets patterns = pattern-decided seen.Adp octets patterns
what-was-sent sender dlci (slots.Frame frame) octets patterns = once-decided sender dlci frame octets patterns

-- each slot has an outcome
pub some-outcome : (loses : Bool) (sender : Role) (dlci : ℕ) (s : Sent) (octets : List (List ℕ)) (patterns : List Seen) → (heard : Heard)
    × IsOutcome loses sender dlci s octets patterns heard
some-outcome true sender dlci s octets patterns = go (is_message s) refl
  where
    go : (m : Bool) → is_message s ≡ m → (heard : Heard) × IsOutcome true sender dlci s octets patterns heard
    go true e = (Lost s, (refl, e))
    go false e = (Nothing, e)
some-outcome false sender dlci s octets patterns =
    go (both-decided (empty-decided octets) (empty-decided patterns)) (what-was-sent sender dlci s octets patterns) (is_message s) refl
  where
    go : Decided (IsSilent octets patterns) → Decided (IsWhatWasSent sender dlci s octets patterns) → (m : Bool) → is_message s ≡ m
        → (heard : Heard) × IsOutcome false sender dlci s octets patterns heard
    go (inl silent) w true e = (Lost s, (refl, e, silent))
    go (inl silent) w false e = (Nothing, (e, silent))
    go (inr n) (inl w) m e = (Passed s, (refl, w))
    go (inr n) (inr w) m e = (Chance, (n, w))
