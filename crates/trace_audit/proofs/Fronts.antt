-- What a text begins with: pieces from its front, and octets that pass a test.
use Rattle.trace_audit.proofs.Cited.{arith, ◌≡◌, ℕ, ◌<◌, ◌≤◌, Bool, true, false, cond, List, [], ◌∷◌, ◌++◌, length, take, drop, get_or}
use Rattle.trace_audit.proofs.Cited.{Option, Some, None, refl, sym, ap, ◌∙◌, append_assoc, ◌⊎◌, append-nil, take-append-drop, and_parts}
use Rattle.trace_audit.proofs.Cited.{take_all, same_Some, list_all, option_map, option_and_then, behind, front_of, rest_of, first_of}
use Rattle.std.proofs.Common.{eqb}
use Rattle.std.proofs.Common.{eq-eqb, drop-cons}
use Rattle.std.specs.Prelude.{MatchOption, ◌≢◌}
use Rattle.std.specs.Borrow.{Bor}

-- ---- options in a row

pub chained : {A B : Type 0} (f : A → Option B) (o : Option A) (y : B) → option_and_then f o ≡ Some y
    → (x : A) × (o ≡ Some x) × (f x ≡ Some y)
chained f o y e = grind (arith)

pub mapped : {A B : Type 0} (f : A → B) (o : Option A) (y : B) → option_map f o ≡ Some y → (x : A) × (o ≡ Some x) × (f x ≡ y)
mapped f o y e = grind (arith)

pub either : (a b : Option (List ℕ)) (y : List ℕ) → first_of a b ≡ Some y → (a ≡ Some y) ⊎ (b ≡ Some y)
either a b y e = grind (arith)

-- ---- labels

pub behind-reads : (label rest : List ℕ) → behind label (label ++ rest) ≡ Some rest
behind-reads [] rest = refl
behind-reads (x ∷ label) rest = rw (eq-eqb x x refl) (behind-reads label rest)

behind-step : (x y : ℕ) (text label rest : List ℕ) (o : Option (List ℕ)) (b : Bool) → eqb x y ≡ b → cond b o None ≡ Some rest
    → (o ≡ Some rest → text ≡ label ++ rest) → y ∷ text ≡ x ∷ label ++ rest
behind-step x y text label rest o b same e f = grind (arith)

pub behind-is : (label text rest : List ℕ) → behind label text ≡ Some rest → text ≡ label ++ rest
behind-is [] text rest e = same_Some text rest e
behind-is (x ∷ label) [] rest e = absurd cc
behind-is (x ∷ label) (y ∷ text) rest e =
    behind-step x y text label rest (behind label text) (eqb x y) refl e (λ f. behind-is label text rest f)

-- what a library's call answers of a label
pub behind-none : (label text : List ℕ) → ((rest : List ℕ) → text ≡ label ++ rest → ⊥) → behind label text ≡ None
behind-none label text none = go (behind label text) refl
  where
    go : (o : Option (List ℕ)) → behind label text ≡ o → o ≡ None
    go None e = refl
    go (Some rest) e = absurd (none rest (behind-is label text rest e))

-- what the library's call answers, as an equation
pub behind-stripped : (label text : List ℕ) (r : Option (Bor (List ℕ)))
    → MatchOption r ((rest : List ℕ) → text ≢ label ++ rest) (λ x. text ≡ label ++ x.now)
    → option_map (λ rest. rest.now) r ≡ behind label text
behind-stripped label text r h = grind (arith, behind-none, behind, behind-reads)

-- ---- octets that pass a test

-- whether the first octet passes
abbrev pub begins : (ℕ → Bool) → List ℕ → Bool
begins test [] = false
begins test (x ∷ text) = test x

pub front-rest : (test : ℕ → Bool) (text : List ℕ) → front_of test text ++ rest_of test text ≡ text
front-rest test [] = refl
front-rest test (x ∷ text) = go (test x) (front-rest test text)
  where
    go : (b : Bool) → front_of test text ++ rest_of test text ≡ text
        → cond b (x ∷ front_of test text) [] ++ cond b (rest_of test text) (x ∷ text) ≡ x ∷ text
    go b e = grind (arith)

pub front-passes : (test : ℕ → Bool) (text : List ℕ) → list_all test (front_of test text) ≡ true
front-passes test [] = refl
front-passes test (x ∷ text) = go (test x) refl (front-passes test text)
  where
    go : (b : Bool) → test x ≡ b → list_all test (front_of test text) ≡ true → list_all test (cond b (x ∷ front_of test text) []) ≡ true
    go b p e = grind (arith)

pub front-reads : (test : ℕ → Bool) (front rest : List ℕ) → list_all test front ≡ true → begins test rest ≡ false
    → front_of test (front ++ rest) ≡ front
front-reads test [] [] h s = refl
front-reads test [] (y ∷ rest) h s = rw s refl
front-reads test (x ∷ front) rest h s = let p = and_parts (test x) (list_all test front) h in
    rw p.0 (ap (λ l. x ∷ l) (front-reads test front rest p.1 s))

pub rest-reads : (test : ℕ → Bool) (front rest : List ℕ) → list_all test front ≡ true → begins test rest ≡ false
    → rest_of test (front ++ rest) ≡ rest
rest-reads test [] [] h s = refl
rest-reads test [] (y ∷ rest) h s = rw s refl
rest-reads test (x ∷ front) rest h s = let p = and_parts (test x) (list_all test front) h in
    rw p.0 (rest-reads test front rest p.1 s)

-- cut at the first octet that doesn't pass, or nowhere
begins-at : (test : ℕ → Bool) (text : List ℕ) (at : ℕ) → at < length text → test (get_or text at 0) ≡ false
    → begins test (drop at text) ≡ false
begins-at test text at h e = rw (drop-cons text at 0 h) e

pub cut-front : (test : ℕ → Bool) (text : List ℕ) (at : ℕ) → at < length text → list_all test (take at text) ≡ true
    → test (get_or text at 0) ≡ false → take at text ≡ front_of test text
cut-front test text at h a e =
    sym (ap (front_of test) (sym (take-append-drop at text))
    ∙ front-reads test (take at text) (drop at text) a (begins-at test text at h e))

pub cut-rest : (test : ℕ → Bool) (text : List ℕ) (at : ℕ) → at < length text → list_all test (take at text) ≡ true
    → test (get_or text at 0) ≡ false → drop at text ≡ rest_of test text
cut-rest test text at h a e =
    sym (ap (rest_of test) (sym (take-append-drop at text)) ∙ rest-reads test (take at text) (drop at text) a (begins-at test text at h e))

whole : (test : ℕ → Bool) (text : List ℕ) (at : ℕ) → length text ≤ at → list_all test (take at text) ≡ true → list_all test text ≡ true
whole test text at h a = ap (list_all test) (sym (take_all at text h)) ∙ a

pub whole-front : (test : ℕ → Bool) (text : List ℕ) (at : ℕ) → length text ≤ at → list_all test (take at text) ≡ true
    → text ≡ front_of test text
whole-front test text at h a =
    sym (ap (front_of test) (sym (append-nil text)) ∙ front-reads test text [] (whole test text at h a) refl)

pub whole-rest : (test : ℕ → Bool) (text : List ℕ) (at : ℕ) → length text ≤ at → list_all test (take at text) ≡ true
    → [] ≡ rest_of test text
whole-rest test text at h a =
    sym (ap (rest_of test) (sym (append-nil text)) ∙ rest-reads test text [] (whole test text at h a) refl)

-- ---- pieces in a row

abbrev pub Reader : Type 0
Reader = List ℕ → Option (List ℕ)

module _ (f g h k : Reader) where
  pub chain2 : (a b rest : List ℕ) → f (a ++ (b ++ rest)) ≡ Some (b ++ rest) → g (b ++ rest) ≡ Some rest
      → option_and_then g (f ((a ++ b) ++ rest)) ≡ Some rest
  chain2 a b rest p q = ap (λ t. option_and_then g (f t)) (append_assoc a b rest) ∙ ap (option_and_then g) p ∙ q

  pub chain3 : (a b c rest : List ℕ) → f (a ++ (b ++ (c ++ rest))) ≡ Some (b ++ (c ++ rest)) → g (b ++ (c ++ rest)) ≡ Some (c ++ rest)
      → h (c ++ rest) ≡ Some rest → option_and_then h (option_and_then g (f ((a ++ (b ++ c)) ++ rest))) ≡ Some rest
  chain3 a b c rest p q r = grind (arith, append_assoc)

  pub chain4 : (a b c d rest : List ℕ) → f (a ++ (b ++ (c ++ (d ++ rest)))) ≡ Some (b ++ (c ++ (d ++ rest)))
      → g (b ++ (c ++ (d ++ rest))) ≡ Some (c ++ (d ++ rest)) → h (c ++ (d ++ rest)) ≡ Some (d ++ rest) → k (d ++ rest) ≡ Some rest
      → option_and_then k (option_and_then h (option_and_then g (f ((a ++ (b ++ (c ++ d))) ++ rest)))) ≡ Some rest
  chain4 a b c d rest p q r s = grind (arith, append_assoc)

-- what texts in a row are together
pub join2 : (text a x b rest : List ℕ) → text ≡ a ++ x → x ≡ b ++ rest → text ≡ (a ++ b) ++ rest
join2 text a x b rest p q = p ∙ ap (λ t. a ++ t) q ∙ sym (append_assoc a b rest)

pub join3 : (text a x b y c rest : List ℕ) → text ≡ a ++ x → x ≡ b ++ y → y ≡ c ++ rest → text ≡ (a ++ (b ++ c)) ++ rest
join3 text a x b y c rest p q r = join2 text a x (b ++ c) rest p (join2 x b y c rest q r)

pub join4 : (text a x b y c z d rest : List ℕ) → text ≡ a ++ x → x ≡ b ++ y → y ≡ c ++ z → z ≡ d ++ rest
    → text ≡ (a ++ (b ++ (c ++ d))) ++ rest
join4 text a x b y c z d rest p q r s = join2 text a x (b ++ (c ++ d)) rest p (join3 x b y c z d rest q r s)
