-- Each text spells a script or has a first fault.
use Rattle.noise_script.proofs.Names.{◌≡◌, ◌≢◌, ◌⊎◌, inl, inr, ℕ, ◌+◌, ◌<◌, ◌≤◌, true, false, List, [], ◌∷◌, ◌++◌, length, refl, sym, ap}
use Rattle.noise_script.proofs.Names.{subst, ◌∙◌, arith, append-nil, append_assoc, length-append, cases_lt, Argument, ARole, Number, Signed}
use Rattle.noise_script.proofs.Names.{Value, RoleIs, NumberIs, SignedIs, row, word_of, arguments_of, form_of, kind_of, values_of, most}
use Rattle.noise_script.proofs.Names.{too_many, Spells, Fails, SpellsEach, FirstFails, SpellsLine, Misspells, Says, standing, AreAllowed}
use Rattle.noise_script.proofs.Names.{IsFaulty, script_of, begins_with, lines_of, words_of, is_passed_over, is_number, value_of, is_signed}
use Rattle.noise_script.proofs.Names.{signed_value_of, Entry, Form, role_word, Cause, Role, Originator, Answerer}
use Rattle.std.proofs.Common.{◌<ℤ◌, ◌≤ℤ◌}
use Rattle.std.proofs.lemmas.Bool.{cases_eq, cases_Bool}
use Rattle.std.proofs.lemmas.Int.{by_lt_z}
use Rattle.shared_terms.specs.declared.cause.Cause.TheVariants as causes
use Rattle.noise_script.specs.declared.forms.Form.TheVariants as forms
use Rattle.noise_script.specs.Grammar.{nothing}
use Rattle.noise_script.specs.Laws.{SomeAnswer}
use Rattle.noise_script.proofs.Entries.{allowed-none, allowed-more}
use Rattle.noise_script.proofs.Progress.{says-passed, says-more, regrouped}
use Rattle.noise_script.proofs.Unique.{role_of, number_of, signed_of, at, entry_of}

-- one word

same-word : (a b : List ℕ) → (a ≡ b) ⊎ (a ≢ b)
same-word [] [] = inl refl
same-word [] (y ∷ b) = inr (λ e. cc)
same-word (x ∷ a) [] = inr (λ e. cc)
same-word (x ∷ a) (y ∷ b) = by (cases_eq x y) (same-word a b)
  where
    by : (x ≡ y) ⊎ (x ≡ y → ⊥) → (a ≡ b) ⊎ (a ≢ b) → (x ∷ a ≡ y ∷ b) ⊎ (x ∷ a ≢ y ∷ b)
    by given given2 = grind (arith)

abbrev NamesNone : List Form → List ℕ → Type 0
NamesNone [] word = Unit {0}
NamesNone (form ∷ forms) word = (word ≢ word_of form) × NamesNone forms word

is-named : (list : List Form) (word : List ℕ) → ((form : Form) × (word ≡ word_of form)) ⊎ NamesNone list word
is-named [] word = inr tt
is-named (form ∷ list) word = by (same-word word (word_of form)) (is-named list word)
  where
    by : (word ≡ word_of form) ⊎ (word ≢ word_of form) → ((form : Form) × (word ≡ word_of form)) ⊎ NamesNone list word
        → ((form : Form) × (word ≡ word_of form)) ⊎ NamesNone (form ∷ list) word
    by given given2 = grind (arith)

abbrev all_forms : List Form
all_forms = forms.Delay ∷ forms.Window ∷ forms.Length ∷ forms.Tries ∷ forms.Srej ∷ forms.Check32 ∷ forms.Lose ∷ forms.Hit ∷ forms.Noise ∷
    forms.Break ∷ forms.Busy ∷ []

is-form : (word : List ℕ) → ((form : Form) × (word ≡ word_of form)) ⊎ ((form : Form) → word ≢ word_of form)
is-form word = by (is-named all_forms word)
  where
    by : ((form : Form) × (word ≡ word_of form)) ⊎ NamesNone all_forms word
        → ((form : Form) × (word ≡ word_of form)) ⊎ ((form : Form) → word ≢ word_of form)
    by q0 = grind (arith)

abbrev Read : Argument → List ℕ → Type 0
Read argument word = ((value : Value) × Spells argument word value) ⊎ ((cause : Cause) × Fails argument word cause)

read : (argument : Argument) (word : List ℕ) → Read argument word
read ARole word = by (same-word word (role_word Originator)) (same-word word (role_word Answerer))
  where
    none : word ≢ role_word Originator → word ≢ role_word Answerer → (role : Role) → word ≢ role_word role
    none a b q2 = grind (arith)

    by : (word ≡ role_word Originator) ⊎ (word ≢ role_word Originator) → (word ≡ role_word Answerer) ⊎ (word ≢ role_word Answerer)
        → ((value : Value) × Spells ARole word value) ⊎ ((cause : Cause) × Fails ARole word cause)
    by (inl a) _ = inl (RoleIs Originator, a)
    by _ (inl b) = inl (RoleIs Answerer, b)
    by (inr a) (inr b) = inr (causes.Word, none a b)
read (Number low high) word = by (cases_Bool (is_number word)) (cases_lt (value_of word) low) (cases_lt high (value_of word))
  where
    by : (is_number word ≡ true) ⊎ (is_number word ≡ false) → (value_of word < low) ⊎ (low ≤ value_of word)
        → (high < value_of word) ⊎ (value_of word ≤ high)
        → ((value : Value) × Spells (Number low high) word value) ⊎ ((cause : Cause) × Fails (Number low high) word cause)
    by (inr n) _ _ = inr (causes.Number, n)
    by (inl d) (inl below) _ = inr (causes.Range, (d, inl below))
    by (inl d) _ (inl above) = inr (causes.Range, (d, inr above))
    by (inl d) (inr b) (inr a) = inl (NumberIs (value_of word), record { digits = d; value_is = refl; not_below = b; not_above = a })
read (Signed low high) word =
    by (cases_Bool (is_signed word)) (by_lt_z (signed_value_of word) low inl inr) (by_lt_z high (signed_value_of word) inl inr)
  where
    by : (is_signed word ≡ true) ⊎ (is_signed word ≡ false) → (signed_value_of word <ℤ low) ⊎ (low ≤ℤ signed_value_of word)
        → (high <ℤ signed_value_of word) ⊎ (signed_value_of word ≤ℤ high)
        → ((value : Value) × Spells (Signed low high) word value) ⊎ ((cause : Cause) × Fails (Signed low high) word cause)
    by (inr n) _ _ = inr (causes.Number, n)
    by (inl d) (inl below) _ = inr (causes.Range, (d, inl below))
    by (inl d) _ (inl above) = inr (causes.Range, (d, inr above))
    by (inl d) (inr b) (inr a) = inl (SignedIs (signed_value_of word), record { digits = d; value_is = refl; not_below = b; not_above = a })

-- the words behind the first

read-each : (arguments : List Argument) (words : List (List ℕ)) → length words ≡ length arguments
    → ((values : List Value) × SpellsEach arguments words values) ⊎ ((cause : Cause) × FirstFails arguments words cause)
read-each [] [] l = inl ([], (refl, refl))
read-each [] (word ∷ words) l = absurd (omega (arith, l))
read-each (argument ∷ arguments) [] l = absurd (omega (arith, l))
read-each (argument ∷ arguments) (word ∷ words) l = by (read argument word) (read-each arguments words (omega (arith, l)))
  where
    by : Read argument word
        → ((values : List Value) × SpellsEach arguments words values) ⊎ ((cause : Cause) × FirstFails arguments words cause)
        → ((values : List Value) × SpellsEach (argument ∷ arguments) (word ∷ words) values)
        ⊎ ((cause : Cause) × FirstFails (argument ∷ arguments) (word ∷ words) cause)
    by (inr (cause, f)) _ = inr (cause, inl f)
    by (inl (value, s)) (inr (cause, f)) = inr (cause, inr (value, s, f))
    by (inl (value, s)) (inl (values, t)) = inl (value ∷ values, (s, t))

-- what a value is, by what its word may be
abbrev value_again : Argument → Value → Value
value_again ARole value = RoleIs (role_of value)
value_again (Number low high) value = NumberIs (number_of value)
value_again (Signed low high) value = SignedIs (signed_of value)

value-again : (argument : Argument) (word : List ℕ) (value : Value) → Spells argument word value → value_again argument value ≡ value
value-again q0 word value s = grind (arith)

-- what the values from the i-th on are
abbrev values_from : ℕ → List Argument → List Value → List Value
values_from i [] values = []
values_from i (argument ∷ arguments) values = value_again argument (at values i) ∷ values_from (i + 1) arguments values

middle : (front : List Value) (value : Value) (rest : List Value) → at (front ++ value ∷ rest) (length front) ≡ value
middle [] value rest = refl
middle (x ∷ front) value rest = middle front value rest

values-from : (arguments : List Argument) (words : List (List ℕ)) (front values : List Value) → SpellsEach arguments words values
    → values_from (length front) arguments (front ++ values) ≡ values
values-from [] words front values s = sym s.1
values-from (argument ∷ arguments) [] front values s = absurd s
values-from (argument ∷ arguments) (word ∷ words) front [] s = absurd s
values-from (argument ∷ arguments) (word ∷ words) front (value ∷ values) s = both
    (ap (value_again argument) (middle front value values) ∙ value-again argument word value s.0)
    (rw (← length-append front (value ∷ []), ← append_assoc front (value ∷ []) values)
    (values-from arguments words (front ++ value ∷ []) values s.1))
  where
    both : {x y : Value} {xs ys : List Value} → x ≡ y → xs ≡ ys → x ∷ xs ≡ y ∷ ys
    both e f = rw (e, f) refl

-- the values are those of an entry of the form
values-again : (form : Form) (words : List (List ℕ)) (values : List Value) → SpellsEach (arguments_of form) words values
    → values_of (entry_of form values) ≡ values
values-again form words values s = grind (arith, values-from)

form-again : (form : Form) (values : List Value) → form_of (entry_of form values) ≡ form
form-again q0 values = grind (arith)

-- one line

data LineRead (words : List (List ℕ)) : Type 0 where
  Passed : is_passed_over words ≡ true → LineRead words
  Spelled : (entry : Entry) → SpellsLine words entry → LineRead words
  Misspelled : (cause : Cause) → Misspells words cause → LineRead words

spells-line : (form : Form) (rest : List (List ℕ)) (values : List Value) → SpellsEach (arguments_of form) rest values
    → SpellsLine (word_of form ∷ rest) (entry_of form values)
spells-line form rest values s =
    let same : form ≡ form_of (entry_of form values) = sym (form-again form values) in
    let here : SpellsEach (arguments_of form) rest (values_of (entry_of form values)) = grind (arith, values-again) in
    record {
      rest = rest;
      words_are = ap (λ (f : Form). word_of f ∷ rest) same;
      each = subst (λ (f : Form). SpellsEach (arguments_of f) rest (values_of (entry_of form values))) same here;
    }

read-form : (form : Form) (rest : List (List ℕ)) → LineRead (word_of form ∷ rest)
read-form form rest = counted (cases_eq (length rest) (length (arguments_of form)))
  where
    each : length rest ≡ length (arguments_of form)
        → ((values : List Value) × SpellsEach (arguments_of form) rest values)
        ⊎ ((cause : Cause) × FirstFails (arguments_of form) rest cause) → LineRead (word_of form ∷ rest)
    each l (inl (values, s)) = Spelled (entry_of form values) (spells-line form rest values s)
    each l (inr (cause, f)) = Misspelled cause (inr (inr (record { form = form; rest = rest; words_are = refl; as_many = l; fails = f })))

    counted : (length rest ≡ length (arguments_of form)) ⊎ (length rest ≡ length (arguments_of form) → ⊥) → LineRead (word_of form ∷ rest)
    counted (inr n) = Misspelled causes.Count
        (inr (inl (record { form = form; rest = rest; words_are = refl; other = n; cause_is = refl })))
    counted (inl l) = each l (read-each (arguments_of form) rest l)

read-line : (words : List (List ℕ)) → LineRead words
read-line [] = Passed refl
read-line (first ∷ rest) = by (cases_Bool (begins_with 35 first)) (is-form first)
  where
    by : (begins_with 35 first ≡ true) ⊎ (begins_with 35 first ≡ false)
        → ((form : Form) × (first ≡ word_of form)) ⊎ ((form : Form) → first ≢ word_of form) → LineRead (first ∷ rest)
    by (inl p) _ = Passed p
    by (inr n) (inl (form, e)) = subst (λ w. LineRead (w ∷ rest)) (sym e) (read-form form rest)
    by (inr n) (inr none) =
        Misspelled causes.Word (inl (record { first = first; rest = rest; words_are = refl; said = n; none = none; cause_is = refl }))

-- all lines

fault-at : (text : List ℕ) (before : List (List ℕ)) (line : List ℕ) (after : List (List ℕ)) (said : List Entry) (cause : Cause)
    → lines_of text ≡ before ++ line ∷ after → Says before said → AreAllowed said → IsFaulty said (words_of line) cause → SomeAnswer text
fault-at text before line after said cause e s a f =
    inr (
      length before + 1,
      cause,
      record {
        before = before;
        line = line;
        after = after;
        lines_are = e;
        number_is = refl;
        said = said;
        says = s;
        allowed = a;
        faulty = f;
      },
    )

lines-read : (text : List ℕ) (lines before : List (List ℕ)) (said : List Entry) → lines_of text ≡ before ++ lines → Says before said
    → AreAllowed said → SomeAnswer text
lines-read text [] before said e s a =
    inl (
      script_of said,
      record {
        said = said;
        says = subst (λ ls. Says ls said) (sym (e ∙ append-nil before)) s;
        allowed = a;
        script_is = refl;
      },
    )
lines-read text (line ∷ lines) before said e s a =
    by (read-line (words_of line)) (λ said s a. lines-read text lines (before ++ line ∷ []) said (e ∙ regrouped before line lines) s a)
  where
    full : (entry : Entry) → SpellsLine (words_of line) entry
        → ((said : List Entry) → Says (before ++ line ∷ []) said → AreAllowed said → SomeAnswer text)
        → (standing (kind_of entry) said < most (row (form_of entry)).bound)
        ⊎ (most (row (form_of entry)).bound ≤ standing (kind_of entry) said) → SomeAnswer text
    full entry p go (inl few) = go (said ++ entry ∷ []) (says-more line entry s p) (allowed-more said entry a few)
    full entry p go (inr many) =
        fault-at text before line lines said (too_many (row (form_of entry)).bound) e s a
        (inr (record { entry = entry; spelled_line = p; full = many; cause_is = refl }))

    by : LineRead (words_of line) → ((said : List Entry) → Says (before ++ line ∷ []) said → AreAllowed said → SomeAnswer text)
        → SomeAnswer text
    by (Passed p) go = go said (says-passed line s p) a
    by (Spelled entry p) go = full entry p go (cases_lt (standing (kind_of entry) said) (most (row (form_of entry)).bound))
    by (Misspelled cause m) go = fault-at text before line lines said cause e s a (inl m)

pub some-answer : (text : List ℕ) → SomeAnswer text
some-answer text = lines-read text (lines_of text) [] [] refl nothing allowed-none
