-- What the octets that a text begins with tell of it.
use Rattle.trace_audit.proofs.Cited.{◌≡◌, ◌≢◌, ℕ, zero, suc, ◌+◌, ◌-◌, ◌<◌, ◌≤◌, Bool, true, false, cond, List, [], ◌∷◌, ◌++◌, length, take}
use Rattle.trace_audit.proofs.Cited.{drop, refl, sym, ap, subst, ◌∙◌, arith, append_assoc, ◌⊎◌, inl, inr, length-append, append-nil}
use Rattle.trace_audit.proofs.Cited.{take-append-drop, length-take, and_parts, cases_lt, not-false, take_all, bytes_eq-Decides, list_all}
use Rattle.trace_audit.proofs.Cited.{◌==◌, bytes_eq, AuditCause, Spelling, front_of, rest_of, is_no_feed, fed, StopsIn, GoesOnWith}
use Rattle.trace_audit.proofs.Cited.{OwnDiffers, LineDiffers, HasParts, LineText}
use Rattle.std.proofs.Common.{not}
use Rattle.std.proofs.lemmas.Bool.{eqb-true, and_from}
use Rattle.trace_audit.proofs.Fronts.{begins, front-rest, front-passes, front-reads, rest-reads}
use Rattle.trace_audit.proofs.LineParts.{one-line}
use Rattle.trace_audit.specs.Differences.{own_line}
use Rattle.shared_terms.specs.declared.audit_cause.AuditCause.TheVariants.{Turn, Role, Arrived, Sent, Break}

-- no line feed stands in these octets
abbrev pub IsWhole : List ℕ → Type 0
IsWhole line = list_all is_no_feed line ≡ true

-- ---- tests of octets

pub differ : (a b : List ℕ) → not (bytes_eq a b) ≡ true → a ≢ b
differ a b e same = cc (sym e ∙ ap not ((bytes_eq-Decides a b).1 same))

pub same-octets : (a b : List ℕ) → not (bytes_eq a b) ≡ false → a ≡ b
same-octets a b e = (bytes_eq-Decides a b).0 (not-false (bytes_eq a b) e)

pub false-no : {b : Bool} → b ≡ false → b ≡ true → ⊥
false-no e f = let n : false ≡ true = sym e ∙ f in cc

pub unequal : (a b : List ℕ) → bytes_eq a b ≡ false → a ≢ b
unequal a b e s = false-no e ((bytes_eq-Decides a b).1 s)

pub empty : (xs : List ℕ) → (length xs == 0) ≡ true → xs ≡ []
empty [] e = refl
empty (x ∷ xs) e = absurd (omega (arith, eqb-true (length (x ∷ xs)) 0 e))

pub full : (xs : List ℕ) → (length xs == 0) ≡ false → xs ≢ []
full q0 e s = grind (arith)

-- ---- the octets behind a line

rest-stops : (test : ℕ → Bool) (text : List ℕ) → begins test (rest_of test text) ≡ false
rest-stops test [] = refl
rest-stops test (x ∷ text) = go (test x) refl (rest-stops test text)
  where
    go : (b : Bool) → test x ≡ b → begins test (rest_of test text) ≡ false → begins test (cond b (rest_of test text) (x ∷ text)) ≡ false
    go b e s = grind (arith)

fed-behind : (behind : List ℕ) → behind ≢ [] → begins is_no_feed behind ≡ false → (tail : List ℕ) × (behind ≡ 10 ∷ tail)
fed-behind q0 some stops = grind (arith)

cons-nil : (x : ℕ) (xs : List ℕ) → x ∷ xs ≡ [] → ⊥
cons-nil x xs e = cc

-- a front that is shorter than asked for is all
short-front : (n : ℕ) (rest window : List ℕ) → window ≡ take n rest → length window < n → rest ≡ window
short-front n rest window e h = grind (arith, length-take, take_all)

-- a front goes on with the rest
whole-rest : (n : ℕ) (rest window : List ℕ) → window ≡ take n rest → rest ≡ window ++ drop n rest
whole-rest n rest window e = sym (take-append-drop n rest) ∙ ap (λ t. t ++ drop n rest) (sym e)

all-front : (a b : List ℕ) → IsWhole (a ++ b) → IsWhole a
all-front [] b h = refl
all-front (x ∷ a) b h = let p = and_parts (is_no_feed x) (list_all is_no_feed (a ++ b)) h in
    and_from (is_no_feed x) (list_all is_no_feed a) p.0 (all-front a b p.1)

-- a list that isn't empty ends
unfold-last : (front : List ℕ) (xs : List ℕ) (last : ℕ) (missing : List ℕ) → missing ≢ [] → front ++ missing ≡ xs ++ last ∷ []
    → (more : List ℕ) × (missing ≡ more ++ last ∷ []) × (front ++ more ≡ xs)
unfold-last [] xs last missing some e = (xs, e, refl)
unfold-last (x ∷ front) [] last missing some e = absurd (nothing front missing some (tails e))
  where
    tails : x ∷ (front ++ missing) ≡ last ∷ [] → front ++ missing ≡ []
    tails e = ap (λ (l : List ℕ). drop 1 l) e

    nothing : (front missing : List ℕ) → missing ≢ [] → front ++ missing ≡ [] → ⊥
    nothing [] missing some e = some e
    nothing (x ∷ front) missing some e = cc
unfold-last (x ∷ front) (y ∷ xs) last missing some e =
    let same : x ≡ y = heads e in
    let later = unfold-last front xs last missing some (tails e) in
    (later.0, later.1, (λ i. same i ∷ later.2 i))
  where
    heads : x ∷ (front ++ missing) ≡ y ∷ (xs ++ last ∷ []) → x ≡ y
    heads e = cc

    tails : x ∷ (front ++ missing) ≡ y ∷ (xs ++ last ∷ []) → front ++ missing ≡ xs ++ last ∷ []
    tails e = ap (λ (l : List ℕ). drop 1 l) e

-- octets without a line feed stand in the first line
longer : (front tail : List ℕ) → IsWhole front → length front ≤ length (front_of is_no_feed (front ++ tail))
longer [] tail h = omega arith
longer (x ∷ front) tail h = let p = and_parts (is_no_feed x) (list_all is_no_feed front) h in
    rw p.0 (omega (arith, longer front tail p.1))

-- read lines with the same parts but the break are one, or differ in it
pub given-differs : (line own : List ℕ) (a b : LineText) → HasParts line a → HasParts own b → a.turn ≡ b.turn → a.role ≡ b.role
    → a.arrived ≡ b.arrived → a.sent ≡ b.sent → (line ≡ own → ⊥) → a.given ≢ b.given
given-differs line own a b h k turn role arrived sent apart given = grind (arith, one-line)

module _ (line window rest : List ℕ) (whole : IsWhole line) (short : length line ≤ 160) (is_window : window ≡ take 162 rest) where
  -- the text ends with the line, without its line feed
  pub stops-fed : front_of is_no_feed window ≡ line → rest_of is_no_feed window ≡ [] → StopsIn line rest
  stops-fed f b =
      let w : window ≡ line = sym (front-rest is_no_feed window) ∙ ap (λ t. front_of is_no_feed window ++ t) b
      ∙ append-nil (front_of is_no_feed window) ∙ f in
      let l : length window ≡ length line = ap (λ (t : List ℕ). length t) w in
      let r : rest ≡ line = short-front 162 rest window is_window (omega (arith, l, short)) ∙ w in
      (10 ∷ [], (λ e. cc), ap (λ t. t ++ 10 ∷ []) r)

  -- it goes on with the line
  pub goes-on : front_of is_no_feed window ≡ line → rest_of is_no_feed window ≢ [] → GoesOnWith line rest
  goes-on f some =
      let t = fed-behind (rest_of is_no_feed window) some (rest-stops is_no_feed window) in
      let w : window ≡ fed line ++ t.0 = sym (front-rest is_no_feed window) ∙ ap (λ x. x ++ rest_of is_no_feed window) f
      ∙ ap (λ x. line ++ x) t.1 ∙ sym (append_assoc line (10 ∷ []) t.0) in (
        t.0 ++ drop 162 rest,
        whole-rest 162 rest window is_window ∙ ap (λ x. x ++ drop 162 rest) w
            ∙ append_assoc (fed line) t.0 (drop 162 rest),
      )

  -- it ends within the line
  pub stops-within : (more : List ℕ) → line ≡ front_of is_no_feed window ++ more → front_of is_no_feed window ≢ line
      → rest_of is_no_feed window ≡ [] → StopsIn line rest
  stops-within more e apart b =
      let w : window ≡ front_of is_no_feed window = sym (front-rest is_no_feed window) ∙ ap (λ t. front_of is_no_feed window ++ t) b
      ∙ append-nil (front_of is_no_feed window) in
      let l : length window ≡ length (front_of is_no_feed window) = ap (λ (t : List ℕ). length t) w in
      let m : length line ≡ length (front_of is_no_feed window) + length more =
      ap (λ (t : List ℕ). length t) e ∙ length-append {A = ℕ} (front_of is_no_feed window) more in
      let r : rest ≡ front_of is_no_feed window = short-front 162 rest window is_window (omega (arith, l, m, short)) ∙ w in (
        more ++ 10 ∷ [],
        some more,
        ap (λ t. t ++ (more ++ 10 ∷ [])) r ∙ sym (append_assoc (front_of is_no_feed window) more (10 ∷ []))
            ∙ ap (λ t. t ++ 10 ∷ []) (sym e),
      )
    where
      some : (more : List ℕ) → more ++ 10 ∷ [] ≢ []
      some [] e = cc
      some (x ∷ more) e = cc

  -- where the text stops in the line, the window has all of it
  stopped : StopsIn line rest → (more : List ℕ) × (line ≡ front_of is_no_feed window ++ more) × (rest_of is_no_feed window ≡ [])
  stopped s =
      let u = unfold-last rest line 10 s.0 s.1 s.2 in
      let l : length rest + length u.0 ≡ length line = sym (length-append {A = ℕ} rest u.0) ∙ ap (λ (t : List ℕ). length t) u.2 in
      let w : window ≡ rest = is_window ∙ take_all 162 rest (omega (arith, l, short)) in
      let all : IsWhole rest = all-front rest u.0 (subst IsWhole (sym u.2) whole) in
      let f : front_of is_no_feed window ≡ rest = ap (front_of is_no_feed) (w ∙ sym (append-nil rest))
      ∙ front-reads is_no_feed rest [] all refl in
      let b : rest_of is_no_feed window ≡ [] = ap (rest_of is_no_feed) (w ∙ sym (append-nil rest))
      ∙ rest-reads is_no_feed rest [] all refl in
      (u.0, sym u.2 ∙ ap (λ t. t ++ u.0) (sym f), b)

  -- where it goes on with the line, the window begins with it
  went-on : GoesOnWith line rest → front_of is_no_feed window ≡ line
  went-on g =
      let e : rest ≡ line ++ 10 ∷ g.0 = g.1 ∙ append_assoc line (10 ∷ []) g.0 in
      let back : front_of is_no_feed (take 162 (line ++ 10 ∷ g.0)) ≡ line =
      ap (front_of is_no_feed) (cut line (10 ∷ g.0) 162 (omega (arith, short)))
      ∙ front-reads is_no_feed line (take (162 - length line) (10 ∷ g.0)) whole (feeds (162 - length line) (omega (arith, short)) g.0) in
      ap (front_of is_no_feed) (is_window ∙ ap (take 162) e) ∙ back
    where
      nothing-less : (n : ℕ) → n ≡ n - 0
      nothing-less n = omega arith

      one-less : (n m : ℕ) → n - m ≡ suc n - suc m
      one-less n m = omega arith

      cut : (a b : List ℕ) (n : ℕ) → length a ≤ n → take n (a ++ b) ≡ a ++ take (n - length a) b
      cut [] b n h = ap (λ k. take k b) (nothing-less n)
      cut (x ∷ a) b zero h = absurd (omega (arith, h))
      cut (x ∷ a) b (suc n) h = ap (λ t. x ∷ t) (cut a b n (omega (arith, h))) ∙ ap (λ k. x ∷ (a ++ take k b)) (one-less n (length a))

      feeds : (n : ℕ) → 0 < n → (b : List ℕ) → begins is_no_feed (take n (10 ∷ b)) ≡ false
      feeds n h b = grind (arith)

  -- where the text is read on from, its line is that of the window, or is too long to be read
  own-is : (own_line rest ≡ front_of is_no_feed window) ⊎ ((161 ≤ length (own_line rest)) × (161 ≤ length (front_of is_no_feed window)))
  own-is = go (rest_of is_no_feed window) refl
    where
      go : (behind : List ℕ) → rest_of is_no_feed window ≡ behind
          → (own_line rest ≡ front_of is_no_feed window) ⊎ ((161 ≤ length (own_line rest)) × (161 ≤ length (front_of is_no_feed window)))
      go [] b = elim (cases_lt (length window) 162) [
        | inl few ↦ inl (ap (front_of is_no_feed) (short-front 162 rest window is_window few))
        | inr many ↦ let w : window ≡ front_of is_no_feed window = sym (front-rest is_no_feed window)
            ∙ ap (λ t. front_of is_no_feed window ++ t) b ∙ append-nil (front_of is_no_feed window) in
            let l : length window ≡ length (front_of is_no_feed window) = ap (λ (t : List ℕ). length t) w in
            let r : rest ≡ front_of is_no_feed window ++ drop 162 rest = whole-rest 162 rest window is_window
            ∙ ap (λ t. t ++ drop 162 rest) w in
            let long : length (front_of is_no_feed window) ≤ length (own_line rest) =
            subst (λ t. length (front_of is_no_feed window) ≤ length (own_line t)) (sym r)
            (longer (front_of is_no_feed window) (drop 162 rest) (front-passes is_no_feed window)) in
            inr (omega (arith, l, many, long), omega (arith, l, many))
      ]
      go (x ∷ tail) b =
          let some : rest_of is_no_feed window ≢ [] = λ e. cons-nil x tail (sym b ∙ e) in
          let t = fed-behind (rest_of is_no_feed window) some (rest-stops is_no_feed window) in
          let w : window ≡ front_of is_no_feed window ++ 10 ∷ t.0 = sym (front-rest is_no_feed window)
          ∙ ap (λ y. front_of is_no_feed window ++ y) t.1 in
          let r : rest ≡ front_of is_no_feed window ++ 10 ∷ (t.0 ++ drop 162 rest) =
          whole-rest 162 rest window is_window ∙ ap (λ y. y ++ drop 162 rest) w
          ∙ append_assoc (front_of is_no_feed window) (10 ∷ t.0) (drop 162 rest) in
          inl (ap (front_of is_no_feed) r
          ∙ front-reads is_no_feed (front_of is_no_feed window) (10 ∷ (t.0 ++ drop 162 rest)) (front-passes is_no_feed window) refl)

  -- what differs of the window's line differs of the text's
  own-differs : (cause : AuditCause) → OwnDiffers line (front_of is_no_feed window) cause → OwnDiffers line (own_line rest) cause
  own-differs cause d = grind (arith, own-is)

  -- the text has another line in the place of this one
  pub departs : (cause : AuditCause) → OwnDiffers line (front_of is_no_feed window) cause → (line ≡ front_of is_no_feed window → ⊥)
      → ((more : List ℕ) → line ≡ front_of is_no_feed window ++ more → rest_of is_no_feed window ≡ [] → ⊥) → LineDiffers line rest cause
  departs cause d apart whole_front = go cause d
    where
      stays : StopsIn line rest → ⊥
      stays s = let p = stopped s in whole_front p.0 p.1 p.2

      other : GoesOnWith line rest → ⊥
      other g = apart (sym (went-on g))

      go : (cause : AuditCause) → OwnDiffers line (front_of is_no_feed window) cause → LineDiffers line rest cause
      go Spelling d = record { stays = stays; other = other; own = own-differs Spelling d }
      go Turn d = record { stays = stays; other = other; own = own-differs Turn d }
      go Role d = record { stays = stays; other = other; own = own-differs Role d }
      go Arrived d = record { stays = stays; other = other; own = own-differs Arrived d }
      go Sent d = record { stays = stays; other = other; own = own-differs Sent d }
      go Break d = record { stays = stays; other = other; own = own-differs Break d }
      go other d = absurd d
