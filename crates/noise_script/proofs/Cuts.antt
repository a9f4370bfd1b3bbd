-- Where a text's first line and a line's first word end.
use Rattle.std.proofs.Common.{◌≡◌, ◌≢◌, ℕ, suc, ◌+◌, ◌<◌, ◌≤◌, Bool, true, false, not, ◌&&◌, cond, eqb, List, [], ◌∷◌, ◌++◌, length}
use Rattle.std.proofs.Common.{take, drop, get_or, refl, sym, ap, subst, ◌∙◌, arith, add-one, drop-cons, append-nil, ◌-◌, length-drop}
use Rattle.std.proofs.Common.{take-append-drop}
use Rattle.std.proofs.lemmas.Bool.{and_parts, not-true, false≢true, ne_eqb}
use Rattle.std.proofs.lemmas.List.{take_all}
use Rattle.std.specs.List.{list_all, onto_first}
use Rattle.noise_script.specs.Lines.{lines_of, without_return, is_blank, is_in_word, words_of}

abbrev pub is_no_feed : ℕ → Bool
is_no_feed octet = not (eqb octet 10)

abbrev pub is_no_blank : ℕ → Bool
is_no_blank octet = not (is_blank octet)

some-cons : (x : ℕ) (xs : List ℕ) → x ∷ xs ≢ []
some-cons x xs e = cc

pub no-feed : (octet : ℕ) → octet ≢ 10 → is_no_feed octet ≡ true
no-feed octet h = rw (ne_eqb octet 10 h) refl

returned : (b : Bool) (x : ℕ) (lines : List (List ℕ)) → cond (b && true) ([] ∷ lines) ((x ∷ []) ∷ lines) ≡ (cond b [] (x ∷ [])) ∷ lines
returned q0 x lines = grind (arith)

and-false : (b : Bool) → (b && false) ≡ false
and-false q0 = grind (arith)

-- an octet before one that is no line feed goes on its line
line-goes-on : (x y : ℕ) (text : List ℕ) → eqb x 10 ≡ false → eqb y 10 ≡ false
    → lines_of (x ∷ y ∷ text) ≡ onto_first x (lines_of (y ∷ text))
line-goes-on x y text x_not y_not = grind (arith, and-false)

pub line-cut : (front rest : List ℕ) → list_all is_no_feed front ≡ true
    → lines_of (front ++ 10 ∷ rest) ≡ without_return front ∷ lines_of rest
line-cut [] rest h = refl
line-cut (x ∷ []) rest h = grind (arith, eqb, not-true, and_parts, returned)
line-cut (x ∷ y ∷ front) rest h =
    let x_not : eqb x 10 ≡ false = not-true _ (and_parts _ _ h).0 in
    let y_not : eqb y 10 ≡ false = not-true _ (and_parts _ _ (and_parts _ _ h).1).0 in
    let later : lines_of (y ∷ front ++ 10 ∷ rest) ≡ without_return (y ∷ front) ∷ lines_of rest =
    line-cut (y ∷ front) rest (and_parts _ _ h).1 in grind (arith, line-goes-on)

pub line-last : (text : List ℕ) → text ≢ [] → list_all is_no_feed text ≡ true → lines_of text ≡ text ∷ []
line-last [] n h = absurd (n refl)
line-last (x ∷ []) n h = grind (arith, eqb, not-true, and_parts, and-false)
line-last (x ∷ y ∷ text) n h =
    let x_not : eqb x 10 ≡ false = not-true _ (and_parts _ _ h).0 in
    let y_not : eqb y 10 ≡ false = not-true _ (and_parts _ _ (and_parts _ _ h).1).0 in
    line-goes-on x y text x_not y_not ∙ ap (onto_first x) (line-last (y ∷ text) (some-cons _ _) (and_parts _ _ h).1)

pub blank-first : (octet : ℕ) (line : List ℕ) → is_blank octet ≡ true → words_of (octet ∷ line) ≡ words_of line
blank-first octet line b = rw b refl

pub blank-ends : (octet : ℕ) (line : List ℕ) → is_blank octet ≡ true → is_in_word (octet ∷ line) ≡ false
blank-ends octet line b = rw b refl

-- blanks before a line's words change nothing
pub blank-skipped : (line : List ℕ) (i : ℕ) → i < length line → is_blank (get_or line i 0) ≡ true
    → words_of (drop i line) ≡ words_of (drop (i + 1) line)
blank-skipped line i h b = grind (arith, drop-cons, add-one, blank-first)

pub word-begins : (line : List ℕ) (i : ℕ) → i < length line → is_blank (get_or line i 0) ≡ false → is_in_word (drop i line) ≡ true
word-begins line i h b = grind (arith, drop-cons)

pub word-ends : (line : List ℕ) (i : ℕ) → i < length line → is_blank (get_or line i 0) ≡ true → is_in_word (drop i line) ≡ false
word-ends line i h b = grind (arith, drop-cons)

word-goes-on : (x y : ℕ) (line : List ℕ) → is_blank x ≡ false → is_blank y ≡ false
    → words_of (x ∷ y ∷ line) ≡ onto_first x (words_of (y ∷ line))
word-goes-on x y line x_not y_not = grind (arith)

-- words of a line that begins with these octets, and then with a blank or not at all
pub word-cut : (front rest : List ℕ) → front ≢ [] → list_all is_no_blank front ≡ true → is_in_word rest ≡ false
    → words_of (front ++ rest) ≡ front ∷ words_of rest
word-cut [] rest n h e = absurd (n refl)
word-cut (x ∷ []) rest n h e = grind (arith, not-true, and_parts)
word-cut (x ∷ y ∷ front) rest n h e =
    let x_not : is_blank x ≡ false = not-true _ (and_parts _ _ h).0 in
    let y_not : is_blank y ≡ false = not-true _ (and_parts _ _ (and_parts _ _ h).1).0 in
    word-goes-on x y (front ++ rest) x_not y_not ∙ ap (onto_first x) (word-cut (y ∷ front) rest (some-cons _ _) (and_parts _ _ h).1 e)

-- a line that begins in a word has an octet
pub word-some : (line : List ℕ) → is_in_word line ≡ true → (0 < length line) × (is_blank (get_or line 0 0) ≡ false)
word-some q0 h = grind (arith)

pub word-cut-at : (line : List ℕ) (i : ℕ) (front back : List ℕ) → is_in_word line ≡ true → i < length line
    → list_all is_no_blank (take i line) ≡ true → is_blank (get_or line i 0) ≡ true → front ≡ take i line → back ≡ drop i line
    → words_of line ≡ front ∷ words_of back
word-cut-at line i front back w h a b f r =
    let some = word-some line w in
    let apart : i ≢ 0 = λ e. false≢true (sym some.1 ∙ ap (λ k. is_blank (get_or line k 0)) (sym e) ∙ b) in
    let whole : take i line ++ drop i line ≡ line = take-append-drop i line in grind (arith, word-cut, taken, word-ends)
  where
    taken : (xs : List ℕ) (i : ℕ) → i ≢ 0 → i < length xs → take i xs ≢ []
    taken xs i n h e = grind (arith)

pub word-whole : (line : List ℕ) (i : ℕ) → is_in_word line ≡ true → length line ≤ i → list_all is_no_blank (take i line) ≡ true
    → words_of line ≡ line ∷ []
word-whole line i w h a =
    let whole : take i line ≡ line = take_all i line h in
    let all : list_all is_no_blank line ≡ true = subst (λ xs. list_all is_no_blank xs ≡ true) whole a in
    let some : line ≢ [] = λ e. false≢true (sym (ap is_in_word e) ∙ w) in
    ap words_of (sym (append-nil line)) ∙ word-cut line [] some all refl

pub return-gone : (front : List ℕ) → without_return (front ++ 13 ∷ []) ≡ front
return-gone [] = refl
return-gone (x ∷ []) = refl
return-gone (x ∷ y ∷ front) = ap (λ xs. x ∷ xs) (return-gone (y ∷ front))

pub return-kept : (front : List ℕ) (last : ℕ) → last ≢ 13 → without_return (front ++ last ∷ []) ≡ front ++ last ∷ []
return-kept [] last n = rw (ne_eqb last 13 n) refl
return-kept (x ∷ []) last n = rw (ne_eqb last 13 n) refl
return-kept (x ∷ y ∷ front) last n = ap (λ xs. x ∷ xs) (return-kept (y ∷ front) last n)

pub line-cut-at : (text : List ℕ) (i : ℕ) (line : List ℕ) → i < length text → list_all is_no_feed (take i text) ≡ true
    → get_or text i 0 ≡ 10 → line ≡ without_return (take i text)
    → lines_of text ≡ line ∷ lines_of (take (length text - (i + 1)) (drop (i + 1) text))
line-cut-at text i line h a e l =
    let whole : take i text ++ get_or text i 0 ∷ drop (suc i) text ≡ text = grind (arith, drop-cons, take-append-drop) in
    let rest : take (length text - (i + 1)) (drop (i + 1) text) ≡ drop (i + 1) text =
    take_all _ _ (omega (arith, length-drop (i + 1) text)) in
    rw (rest, l) (ap lines_of (sym whole) ∙ rw (e, add-one i) (line-cut (take i text) (drop (suc i) text) a))

pub line-whole : (text : List ℕ) (i : ℕ) → text ≢ [] → length text ≤ i → list_all is_no_feed (take i text) ≡ true
    → lines_of text ≡ text ∷ []
line-whole text i n h a = line-last text n (subst (λ xs. list_all is_no_feed xs ≡ true) (take_all i text h) a)
