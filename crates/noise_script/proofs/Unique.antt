-- A text spells one script at most, or has one first fault, and never both.
use Rattle.noise_script.proofs.Names.{◌≡◌, inl, inr, ℕ, suc, ◌+◌, true, false, nat_eq, if◌then◌else◌, pos, List, [], ◌∷◌, ◌++◌, length}
use Rattle.noise_script.proofs.Names.{get_or, refl, sym, ap, subst, ◌∙◌, arith, false≢true, ints, Argument, ARole, Number, Signed, Value}
use Rattle.noise_script.proofs.Names.{RoleIs, NumberIs, SignedIs, row, word_of, arguments_of, form_of, values_of, too_many, Spells, Fails}
use Rattle.noise_script.proofs.Names.{SpellsEach, FirstFails, SpellsLine, Misspells, Says, passed_over, spelled, AreAllowed, IsFaulty}
use Rattle.noise_script.proofs.Names.{script_of, ScriptSpelling, FirstFault, begins_with, words_of, is_passed_over, ScriptValue, Entry}
use Rattle.noise_script.proofs.Names.{Form, Cause, Role, Originator}
use Rattle.std.proofs.Common.{ℤ}
use Rattle.shared_terms.specs.declared.cause.Cause.TheVariants as causes
use Rattle.noise_script.specs.declared.entry.Entry.TheVariants as entries
use Rattle.noise_script.specs.declared.forms.Form.TheVariants as forms
use Rattle.noise_script.specs.Forms.{IsUnknown}
use Rattle.noise_script.specs.Forms.{IsMiscounted, IsMisread}
use Rattle.noise_script.specs.Grammar.{nothing}
use Rattle.noise_script.proofs.Entries.{allowed-full}

cons-head : {X : Type 0} (x y : X) (xs ys : List X) → x ∷ xs ≡ y ∷ ys → x ≡ y
cons-head x y xs ys e = cc

cons-rest : {X : Type 0} (x y : X) (xs ys : List X) → x ∷ xs ≡ y ∷ ys → xs ≡ ys
cons-rest x y xs ys e = cc

-- words and forms

-- a sum of letters tells the forms apart
abbrev letters : List ℕ → ℕ
letters word = get_or word 0 0 + (get_or word 1 0 + (get_or word 1 0 + get_or word 3 0))

abbrev form_by : ℕ → Form
form_by n =
    if nat_eq n 399 then forms.Delay
    else if nat_eq n 107 then forms.Window
    else if nat_eq n 263 then forms.Length
    else if nat_eq n 262 then forms.Tries
    else if nat_eq n 449 then forms.Srej
    else if nat_eq n 406 then forms.Check32
    else if nat_eq n 431 then forms.Lose
    else if nat_eq n 314 then forms.Hit
    else if nat_eq n 447 then forms.Noise
    else if nat_eq n 423 then forms.Break
    else forms.Busy

form-again : (form : Form) → form_by (letters (word_of form)) ≡ form
form-again forms.Delay = refl
form-again form = grind (arith)

form-once : (a b : Form) → word_of a ≡ word_of b → a ≡ b
form-once a b e = sym (form-again a) ∙ ap (λ (w : List ℕ). form_by (letters w)) e ∙ form-again b

no-comment : (form : Form) → begins_with 35 (word_of form) ≡ false
no-comment q0 = grind (arith)

-- values

value-once : (argument : Argument) (word : List ℕ) (a b : Value) → Spells argument word a → Spells argument word b → a ≡ b
value-once q0 word a b s t = grind (arith)

fail-spell : (argument : Argument) (word : List ℕ) (cause : Cause) (value : Value) → Fails argument word cause → Spells argument word value
    → ⊥
fail-spell ARole word causes.Word (RoleIs role) f s = f role s
fail-spell ARole word causes.Word value f s = s
fail-spell ARole word cause value f s = f
fail-spell (Number low high) word causes.Number (NumberIs n) f s = false≢true (sym f ∙ s.digits)
fail-spell (Number low high) word causes.Range (NumberIs n) f s = grind (arith)
fail-spell (Number low high) word causes.Number value f s = s
fail-spell (Number low high) word causes.Range value f s = s
fail-spell (Number low high) word cause value f s = f
fail-spell (Signed low high) word causes.Number (SignedIs n) f s = false≢true (sym f ∙ s.digits)
fail-spell (Signed low high) word causes.Range (SignedIs n) f s = grind (arith, ints)
fail-spell (Signed low high) word causes.Number value f s = s
fail-spell (Signed low high) word causes.Range value f s = s
fail-spell (Signed low high) word cause value f s = f

fail-once : (argument : Argument) (word : List ℕ) (a b : Cause) → Fails argument word a → Fails argument word b → a ≡ b
fail-once q0 word a b f g = grind (arith)

-- the words behind the first

each-once : (arguments : List Argument) (words : List (List ℕ)) (a b : List Value) → SpellsEach arguments words a
    → SpellsEach arguments words b → a ≡ b
each-once [] words a b s t = s.1 ∙ sym t.1
each-once (argument ∷ arguments) [] a b s t = absurd s
each-once (argument ∷ arguments) (word ∷ words) [] b s t = absurd s
each-once (argument ∷ arguments) (word ∷ words) (x ∷ a) [] s t = absurd t
each-once (argument ∷ arguments) (word ∷ words) (x ∷ a) (y ∷ b) s t = grind (arith, value-once, each-once arguments words a b s.1 t.1)

each-length : (arguments : List Argument) (words : List (List ℕ)) (values : List Value) → SpellsEach arguments words values
    → length words ≡ length arguments
each-length [] words values s = ap length s.0
each-length (argument ∷ arguments) [] values s = absurd s
each-length (argument ∷ arguments) (word ∷ words) [] s = absurd s
each-length (argument ∷ arguments) (word ∷ words) (x ∷ values) s = ap suc (each-length arguments words values s.1)

fails-spell : (arguments : List Argument) (words : List (List ℕ)) (cause : Cause) (values : List Value) → FirstFails arguments words cause
    → SpellsEach arguments words values → ⊥
fails-spell [] words cause values f s = f
fails-spell (argument ∷ arguments) [] cause values f s = f
fails-spell (argument ∷ arguments) (word ∷ words) cause [] f s = s
fails-spell (argument ∷ arguments) (word ∷ words) cause (x ∷ values) (inl f) s = fail-spell argument word cause x f s.0
fails-spell (argument ∷ arguments) (word ∷ words) cause (x ∷ values) (inr (v, t, f)) s = fails-spell arguments words cause values f s.1

fails-once : (arguments : List Argument) (words : List (List ℕ)) (a b : Cause) → FirstFails arguments words a → FirstFails arguments words b
    → a ≡ b
fails-once [] words a b f g = absurd f
fails-once (argument ∷ arguments) [] a b f g = absurd f
fails-once (argument ∷ arguments) (word ∷ words) a b (inl f) (inl g) = fail-once argument word a b f g
fails-once (argument ∷ arguments) (word ∷ words) a b (inl f) (inr (v, t, g)) = absurd (fail-spell argument word a v f t)
fails-once (argument ∷ arguments) (word ∷ words) a b (inr (v, t, f)) (inl g) = absurd (fail-spell argument word b v g t)
fails-once (argument ∷ arguments) (word ∷ words) a b (inr (v, t, f)) (inr (u, r, g)) = fails-once arguments words a b f g

-- lines

abbrev pub role_of : Value → Role
role_of (RoleIs role) = role
role_of _ = Originator

abbrev pub number_of : Value → ℕ
number_of (NumberIs n) = n
number_of _ = 0

abbrev pub signed_of : Value → ℤ
signed_of (SignedIs z) = z
signed_of _ = pos 0

abbrev pub at : List Value → ℕ → Value
at values i = get_or values i (NumberIs 0)

abbrev pub entry_of : Form → List Value → Entry
entry_of forms.Delay v = entries.Delay (record { orig = number_of (at v 0); answ = number_of (at v 1) })
entry_of forms.Window v = entries.Window (record { role = role_of (at v 0); segments = number_of (at v 1) })
entry_of forms.Length v = entries.Length (record { role = role_of (at v 0); octets = number_of (at v 1) })
entry_of forms.Tries v = entries.Tries (number_of (at v 0))
entry_of forms.Srej v = entries.Srej (role_of (at v 0))
entry_of forms.Check32 v = entries.Check32 (role_of (at v 0))
entry_of forms.Lose v = entries.Lose (record { role = role_of (at v 0); from = number_of (at v 1); count = number_of (at v 2) })
entry_of forms.Hit v =
    entries.Hit (record {
      role = role_of (at v 0);
      from = number_of (at v 1);
      count = number_of (at v 2);
      re = signed_of (at v 3);
      im = signed_of (at v 4);
    })
entry_of forms.Noise v =
    entries.Noise (record {
      role = role_of (at v 0);
      from = number_of (at v 1);
      count = number_of (at v 2);
      amplitude = number_of (at v 3);
      seed = number_of (at v 4);
    })
entry_of forms.Break v = entries.Break (record { role = role_of (at v 0); turn = number_of (at v 1); length = number_of (at v 2) })
entry_of forms.Busy v = entries.Busy (record { role = role_of (at v 0); from = number_of (at v 1); count = number_of (at v 2) })

entry-again : (entry : Entry) → entry_of (form_of entry) (values_of entry) ≡ entry
entry-again q0 = grind (arith)

line-once : (words : List (List ℕ)) (a b : Entry) → SpellsLine words a → SpellsLine words b → a ≡ b
line-once words a b s t = grind (arith, form-once, cons-head, cons-rest, each-once, entry-again)

passed-form : (words rest : List (List ℕ)) (form : Form) → words ≡ word_of form ∷ rest → is_passed_over words ≡ true → ⊥
passed-form words rest form e p = false≢true (sym (no-comment form) ∙ sym (ap is_passed_over e) ∙ p)

passed-spelled : (words : List (List ℕ)) (entry : Entry) → is_passed_over words ≡ true → SpellsLine words entry → ⊥
passed-spelled words entry p s = passed-form words s.rest (form_of entry) s.words_are p

passed-faulty : (said : List Entry) (words : List (List ℕ)) (cause : Cause) → is_passed_over words ≡ true → IsFaulty said words cause → ⊥
passed-faulty said words cause p q4 = grind (arith)

unknown-form : (words rest : List (List ℕ)) (form : Form) (cause : Cause) → IsUnknown words cause → words ≡ word_of form ∷ rest → ⊥
unknown-form words rest form cause u e = u.none form (cons-head _ _ _ _ (sym u.words_are ∙ e))

miscounted-length : (words rest : List (List ℕ)) (form : Form) (cause : Cause) → IsMiscounted words cause → words ≡ word_of form ∷ rest
    → length rest ≡ length (arguments_of form) → ⊥
miscounted-length words rest form cause m e l = grind (arith, form-once, cons-head, cons-rest)

misread-spelled : (words : List (List ℕ)) (entry : Entry) (cause : Cause) → IsMisread words cause → SpellsLine words entry → ⊥
misread-spelled words entry cause m s = grind (arith, form-once, cons-head, fails-spell, cons-rest)

misspelled-spelled : (words : List (List ℕ)) (entry : Entry) (cause : Cause) → Misspells words cause → SpellsLine words entry → ⊥
misspelled-spelled words entry cause (inl u) s = unknown-form words s.rest (form_of entry) cause u s.words_are
misspelled-spelled words entry cause (inr (inl m)) s = miscounted-length _ _ _ _ m s.words_are (each-length _ _ _ s.each)
misspelled-spelled words entry cause (inr (inr m)) s = misread-spelled words entry cause m s

misspelled-once : (words : List (List ℕ)) (a b : Cause) → Misspells words a → Misspells words b → a ≡ b
misspelled-once words a b (inl u) (inl v) = u.cause_is ∙ sym v.cause_is
misspelled-once words a b (inl u) (inr (inl m)) = absurd (unknown-form words m.rest m.form a u m.words_are)
misspelled-once words a b (inl u) (inr (inr m)) = absurd (unknown-form words m.rest m.form a u m.words_are)
misspelled-once words a b (inr (inl m)) (inl u) = absurd (unknown-form words m.rest m.form b u m.words_are)
misspelled-once words a b (inr (inr m)) (inl u) = absurd (unknown-form words m.rest m.form b u m.words_are)
misspelled-once words a b (inr (inl m)) (inr (inl n)) = m.cause_is ∙ sym n.cause_is
misspelled-once words a b (inr (inl m)) (inr (inr n)) = absurd (miscounted-length words n.rest n.form a m n.words_are n.as_many)
misspelled-once words a b (inr (inr m)) (inr (inl n)) = absurd (miscounted-length words m.rest m.form b n m.words_are m.as_many)
misspelled-once words a b (inr (inr m)) (inr (inr n)) =
    let both : word_of m.form ∷ m.rest ≡ word_of n.form ∷ n.rest = sym m.words_are ∙ n.words_are in
    let same : m.form ≡ n.form = form-once m.form n.form (cons-head _ _ _ _ both) in
    let here : FirstFails (arguments_of n.form) m.rest a = subst (λ (f : Form). FirstFails (arguments_of f) m.rest a) same m.fails in
    fails-once _ n.rest a b (subst (λ ws. FirstFails (arguments_of n.form) ws a) (cons-rest _ _ _ _ both) here) n.fails

faulty-once : (said : List Entry) (words : List (List ℕ)) (a b : Cause) → IsFaulty said words a → IsFaulty said words b → a ≡ b
faulty-once said words a b (inl m) (inl n) = misspelled-once words a b m n
faulty-once said words a b (inl m) (inr t) = absurd (misspelled-spelled words t.entry a m t.spelled_line)
faulty-once said words a b (inr t) (inl m) = absurd (misspelled-spelled words t.entry b m t.spelled_line)
faulty-once said words a b (inr t) (inr u) =
    let same : t.entry ≡ u.entry = line-once words t.entry u.entry t.spelled_line u.spelled_line in
    t.cause_is ∙ ap (λ (e : Entry). too_many (row (form_of e)).bound) same ∙ sym u.cause_is

spelled-faulty : (said more : List Entry) (entry : Entry) (words : List (List ℕ)) (cause : Cause) → SpellsLine words entry
    → AreAllowed (said ++ entry ∷ more) → IsFaulty said words cause → ⊥
spelled-faulty said more entry words cause s a (inl m) = misspelled-spelled words entry cause m s
spelled-faulty said more entry words cause s a (inr t) =
    let same : t.entry ≡ entry = line-once words t.entry entry t.spelled_line s in
    allowed-full said t.entry more (subst (λ (e : Entry). AreAllowed (said ++ e ∷ more)) (sym same) a) t.full

-- texts

pub says-once : {lines : List (List ℕ)} {a b : List Entry} → Says lines a → Says lines b → a ≡ b
says-once nothing nothing = refl
says-once (passed_over p s) (passed_over q t) = says-once s t
says-once (passed_over p s) (spelled q t) = absurd (passed-spelled _ _ p q)
says-once (spelled p s) (passed_over q t) = absurd (passed-spelled _ _ q p)
says-once (spelled p s) (spelled q t) = same (line-once _ _ _ p q) (says-once s t)
  where
    same : {x y : Entry} {xs ys : List Entry} → x ≡ y → xs ≡ ys → x ∷ xs ≡ y ∷ ys
    same e f = rw (e, f) refl

pub record Splits (before rest : List (List ℕ)) (said : List Entry) : Type 0 where
  pub front : List Entry
  pub back : List Entry
  pub said_is : said ≡ front ++ back
  pub front_says : Says before front
  pub back_says : Says rest back

says-split : (before rest : List (List ℕ)) (said : List Entry) → Says (before ++ rest) said → Splits before rest said
says-split [] rest said s = record { front = []; back = said; said_is = refl; front_says = nothing; back_says = s }
says-split (line ∷ before) rest said (passed_over p s) =
    let r = says-split before rest said s in
    record { front = r.front; back = r.back; said_is = r.said_is; front_says = passed_over p r.front_says; back_says = r.back_says }
says-split (line ∷ before) rest (entry ∷ said) (spelled p s) =
    let r = says-split before rest said s in
    record {
      front = entry ∷ r.front;
      back = r.back;
      said_is = ap (λ es. entry ∷ es) r.said_is;
      front_says = spelled p r.front_says;
      back_says = r.back_says;
    }

line-says : (line : List ℕ) (after : List (List ℕ)) (said back : List Entry) (cause : Cause) → Says (line ∷ after) back
    → AreAllowed (said ++ back) → IsFaulty said (words_of line) cause → ⊥
line-says line after said back cause (passed_over p s) a f = passed-faulty said (words_of line) cause p f
line-says line after said (entry ∷ back) cause (spelled p s) a f = spelled-faulty said back entry (words_of line) cause p a f

-- where all lines together are a script's, none is faulty
no-fault : (before after : List (List ℕ)) (line : List ℕ) (all said : List Entry) (cause : Cause) → Says (before ++ line ∷ after) all
    → AreAllowed all → Says before said → IsFaulty said (words_of line) cause → ⊥
no-fault before after line all said cause s a b f =
    let r = says-split before (line ∷ after) all s in
    let front : r.front ≡ said = says-once r.front_says b in
    let whole : all ≡ said ++ r.back = r.said_is ∙ ap (λ es. es ++ r.back) front in
    line-says line after said r.back cause r.back_says (subst AreAllowed whole a) f

pub spelling-fault : (text : List ℕ) (script : ScriptValue) (number : ℕ) (cause : Cause) → ScriptSpelling text script
    → FirstFault text number cause → ⊥
spelling-fault text script number cause s f =
    no-fault f.before f.after f.line s.said f.said cause (subst (λ ls. Says ls s.said) f.lines_are s.says) s.allowed f.says f.faulty

pub spelling-once : (text : List ℕ) (a b : ScriptValue) → ScriptSpelling text a → ScriptSpelling text b → a ≡ b
spelling-once text a b s t = s.script_is ∙ ap script_of (says-once s.says t.says) ∙ sym t.script_is

-- two places in one list
data Places {X : Type 0} (a : List X) (x : X) (c : List X) (y : X) : Type 0 where
  Same : a ≡ c → x ≡ y → Places a x c y
  Before : (more : List X) → c ≡ a ++ x ∷ more → Places a x c y
  Behind : (more : List X) → a ≡ c ++ y ∷ more → Places a x c y

places : {X : Type 0} (a b c d : List X) (x y : X) → a ++ x ∷ b ≡ c ++ y ∷ d → Places a x c y
places [] b [] d x y e = Same refl (cons-head x y b d e)
places [] b (z ∷ c) d x y e = Before c (ap (λ w. w ∷ c) (sym (cons-head x z _ _ e)))
places (z ∷ a) b [] d x y e = Behind a (ap (λ w. w ∷ a) (cons-head z y _ _ e))
places (z ∷ a) b (w ∷ c) d x y e = onto (cons-head z w _ _ e) (places a b c d x y (cons-rest z w _ _ e))
  where
    onto : z ≡ w → Places a x c y → Places (z ∷ a) x (w ∷ c) y
    onto h (Same p q) = Same (rw (h, p) refl) q
    onto h (Before more p) = Before more (rw (h, p) refl)
    onto h (Behind more p) = Behind more (rw (h, p) refl)

pub record OneFault (m n : ℕ) (a b : Cause) : Type 0 where
  pub number_is : m ≡ n
  pub cause_is : a ≡ b

pub fault-once : (text : List ℕ) (m n : ℕ) (a b : Cause) → FirstFault text m a → FirstFault text n b → OneFault m n a b
fault-once text m n a b f g = by (places f.before f.after g.before g.after f.line g.line (sym f.lines_are ∙ g.lines_are))
  where
    by : Places f.before f.line g.before g.line → OneFault m n a b
    by (Same p q) =
        let says : Says g.before f.said = subst (λ ls. Says ls f.said) p f.says in
        let said : f.said ≡ g.said = says-once says g.says in
        let here : IsFaulty g.said (words_of f.line) a = subst (λ es. IsFaulty es (words_of f.line) a) said f.faulty in
        let there : IsFaulty g.said (words_of g.line) a = subst (λ l. IsFaulty g.said (words_of l) a) q here in
        record {
          number_is = f.number_is ∙ ap (λ ls. length ls + 1) p ∙ sym g.number_is;
          cause_is = faulty-once g.said (words_of g.line) a b there g.faulty;
        }
    by (Before more p) = absurd
        (no-fault f.before more f.line g.said f.said a (subst (λ ls. Says ls g.said) p g.says) g.allowed f.says f.faulty)
    by (Behind more p) = absurd
        (no-fault g.before more g.line f.said g.said b (subst (λ ls. Says ls f.said) p f.says) f.allowed g.says g.faulty)
