-- A text against lines, line by line.
use Rattle.trace_audit.proofs.Cited.{◌≡◌, ◌≢◌, ℕ, ◌+◌, ◌<◌, List, [], ◌∷◌, ◌++◌, length, take, drop, refl, sym, ap, subst, ◌∙◌, arith}
use Rattle.trace_audit.proofs.Cited.{append_assoc, length-append, append-nil, AuditCause, fed, text_of, GoesOnWith, LineDiffers}
use Rattle.trace_audit.proofs.Cited.{FirstDiffers}
use Rattle.std.proofs.Math.Seq.{drop-append_seam}
use Rattle.std.proofs.lemmas.List.{nil_from_length}
use Rattle.trace_audit.specs.Compared.{HasLines, DiffersIn}
use Rattle.shared_terms.specs.declared.audit_cause.AuditCause.TheVariants.{Beyond}

pub text_of-append : (a b : List (List ℕ)) → text_of (a ++ b) ≡ text_of a ++ text_of b
text_of-append [] b = refl
text_of-append (line ∷ a) b = ap (λ t. fed line ++ t) (text_of-append a b) ∙ sym (append_assoc (fed line) (text_of a) (text_of b))

more-text : (lines : List (List ℕ)) (line : List ℕ) → text_of (lines ++ line ∷ []) ≡ text_of lines ++ fed line
more-text lines line = text_of-append lines (line ∷ []) ∙ ap (λ t. text_of lines ++ t) (append-nil (fed line))

module _ (text : List ℕ) (lines : List (List ℕ)) where
  -- what stands behind the lines
  pub behind-lines : (at count : ℕ) (h : HasLines text lines at count) → drop at text ≡ h.rest
  behind-lines at count h = grind (arith, drop-append_seam)

  pub agrees-more : (at count : ℕ) (line : List ℕ) → HasLines text lines at count → GoesOnWith line (drop at text)
      → HasLines text (lines ++ line ∷ []) (at + length line + 1) (count + 1)
  agrees-more at count line h g = record {
    rest = g.0;
    text_is = h.text_is ∙ ap (λ t. text_of lines ++ t) (sym (behind-lines at count h) ∙ g.1)
        ∙ sym (append_assoc (text_of lines) (fed line) g.0) ∙ ap (λ t. t ++ g.0) (sym (more-text lines line));
    at_is = omega (
      arith,
      h.at_is,
      ap (λ (t : List ℕ). length t) (more-text lines line),
      length-append {A = ℕ} (text_of lines) (fed line),
      length-append {A = ℕ} line (10 ∷ []),
    );
    count_is = omega (arith, h.count_is, length-append {A = List ℕ} lines (line ∷ []));
  }

  pub differs-now : (at count : ℕ) (line : List ℕ) (cause : AuditCause) → HasLines text lines at count
      → LineDiffers line (drop at text) cause
      → DiffersIn text (lines ++ line ∷ []) (count + 1) cause
  differs-now at count line cause h d = record {
    before = lines;
    line = line;
    more = [];
    rest = h.rest;
    lines_is = refl;
    text_is = h.text_is;
    number_is = ap (λ n. n + 1) h.count_is;
    differs = subst (λ r. LineDiffers line r cause) (behind-lines at count h) d;
  }

  pub differs-on : (number : ℕ) (line : List ℕ) (cause : AuditCause) → DiffersIn text lines number cause
      → DiffersIn text (lines ++ line ∷ []) number cause
  differs-on number line cause d = grind (arith, append_assoc)

  pub goes-beyond : (at count : ℕ) → HasLines text lines at count → at < length text → FirstDiffers lines text (count + 1) Beyond
  goes-beyond at count h more = record {
    before = lines;
    more = [];
    rest = h.rest;
    lines_is = sym (append-nil lines);
    text_is = h.text_is;
    number_is = ap (λ n. n + 1) h.count_is;
    differs = (
      refl,
      λ none. omega (
        arith,
        more,
        h.at_is,
        ap (λ (t : List ℕ). length t) h.text_is,
        length-append {A = ℕ} (text_of lines) h.rest,
        ap (λ (t : List ℕ). length t) none,
      ),
    );
  }

  -- no octet stands behind the lines, or one does
  none-behind : (rest : List ℕ) → take 1 rest ≡ [] → rest ≡ []
  none-behind q0 e = grind (arith)

  some-behind : (rest : List ℕ) → take 1 rest ≢ [] → 0 < length rest
  some-behind q0 e = grind (arith)

  pub all-there : (at count : ℕ) (behind : List ℕ) → HasLines text lines at count → behind ≡ take 1 (drop at text) → behind ≡ []
      → (text ≡ text_of lines) × (count ≡ length lines)
  all-there at count behind h window none =
      let rest : h.rest ≡ [] = none-behind h.rest (ap (λ t. take 1 t) (sym (behind-lines at count h)) ∙ sym window ∙ none) in
      (h.text_is ∙ ap (λ t. text_of lines ++ t) rest ∙ append-nil (text_of lines), h.count_is)

  pub goes-further : (at count : ℕ) (behind : List ℕ) → HasLines text lines at count → behind ≡ take 1 (drop at text) → behind ≢ []
      → FirstDiffers lines text (count + 1) Beyond
  goes-further at count behind h window some =
      let more : 0 < length h.rest =
      some-behind h.rest (λ none. some (window ∙ ap (λ t. take 1 t) (behind-lines at count h) ∙ none)) in
      goes-beyond at count h (omega (
        arith,
        more,
        h.at_is,
        ap (λ (t : List ℕ). length t) h.text_is,
        length-append {A = ℕ} (text_of lines) h.rest,
      ))

-- ---- one first difference

-- what is left of one list cut in two places
split-more : (a b c d : List (List ℕ)) → a ++ b ≡ c ++ d → length a < length c
    → (line : List ℕ) × (more : List (List ℕ)) × (b ≡ line ∷ more) × (later : List (List ℕ)) × (c ≡ a ++ line ∷ later)
split-more [] b [] d e h = absurd (omega (arith, h))
split-more [] b (line ∷ c) d e h = (line, c ++ d, e, c, refl)
split-more (x ∷ a) b [] d e h = absurd (omega (arith, h))
split-more (x ∷ a) b (y ∷ c) d e h =
    let same : x ≡ y = head x y (a ++ b) (c ++ d) e in
    let later = split-more a b c d (tail x y (a ++ b) (c ++ d) e) (omega (arith, h)) in
    (later.0, later.1, later.2, later.3, λ i. sym same i ∷ later.4 i)
  where
    head : (x y : List ℕ) (s t : List (List ℕ)) → x ∷ s ≡ y ∷ t → x ≡ y
    head x y s t e = cc

    tail : (x y : List ℕ) (s t : List (List ℕ)) → x ∷ s ≡ y ∷ t → s ≡ t
    tail x y s t e = cc

pub split-same : (a b c d : List (List ℕ)) → a ++ b ≡ c ++ d → length a ≡ length c → (a ≡ c) × (b ≡ d)
split-same [] b [] d e h = (refl, e)
split-same [] b (y ∷ c) d e h = absurd (omega (arith, h))
split-same (x ∷ a) b [] d e h = absurd (omega (arith, h))
split-same (x ∷ a) b (y ∷ c) d e h =
    let same : x ≡ y = head x y (a ++ b) (c ++ d) e in
    let later = split-same a b c d (tail x y (a ++ b) (c ++ d) e) (omega (arith, h)) in
    (λ i. same i ∷ later.0 i, later.1)
  where
    head : (x y : List ℕ) (s t : List (List ℕ)) → x ∷ s ≡ y ∷ t → x ≡ y
    head x y s t e = cc

    tail : (x y : List ℕ) (s t : List (List ℕ)) → x ∷ s ≡ y ∷ t → s ≡ t
    tail x y s t e = cc

pub front-same : (a b c : List ℕ) → a ++ b ≡ a ++ c → b ≡ c
front-same [] b c e = e
front-same (x ∷ a) b c e = front-same a b c (ap (λ (t : List ℕ). drop 1 t) e)

nothing-behind : (a b c : List ℕ) → a ++ b ++ c ≡ a → c ≡ []
nothing-behind a b c e = nil_from_length c (omega (
  arith,
  ap (λ (t : List ℕ). length t) e,
  length-append {A = ℕ} (a ++ b) c,
  length-append {A = ℕ} a b,
))

-- a text that goes on with a line doesn't differ from it
pub no-difference : (line rest : List ℕ) (cause : AuditCause) → GoesOnWith line rest → LineDiffers line rest cause → ⊥
no-difference line rest another g d = grind (arith, nothing-behind)

-- a text that has the lines up to one isn't first different before it
pub not-before : (lines : List (List ℕ)) (text : List ℕ) (m n : ℕ) (c d : AuditCause) (a : FirstDiffers lines text m c)
    (b : FirstDiffers lines text n d)
    → length a.before < length b.before → ⊥
not-before lines text m n c d a b h = grind (arith, split-more, text_of-append, append_assoc, front-same, no-difference)

-- a text that is the lines' doesn't differ
pub same-text : (lines : List (List ℕ)) (text : List ℕ) (n : ℕ) (c : AuditCause) → text ≡ text_of lines → FirstDiffers lines text n c → ⊥
same-text lines text n c e a = grind (arith, front-same, text_of-append, no-difference)
