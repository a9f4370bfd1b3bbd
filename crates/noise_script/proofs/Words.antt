-- Reading words one behind another.
use Rattle.noise_script.proofs.Names.{◌≡◌, ◌≢◌, ◌∙◌, ◌+◌, inl, ℕ, List, ◌∷◌, [], length, refl, sym, ap, subst, arith, nil_from_length}
use Rattle.noise_script.proofs.Names.{Argument, ARole, Value, RoleIs, NumberIs, Reads, FirstFails, SpellsEach, SpellsLine, Misspells}
use Rattle.noise_script.proofs.Names.{word_of, arguments_of, Entry, Form, Cause, Role}
use Rattle.shared_terms.specs.declared.cause.Cause.TheVariants as causes
use Rattle.noise_script.specs.Forms.{ReadsSpan, FailsToRead}
use Rattle.noise_script.specs.Forms.{SpellsForm}

pub fails-here : (argument : Argument) (arguments : List Argument) (words : List (List ℕ)) (cause : Cause)
    → FailsToRead argument words cause → FirstFails (argument ∷ arguments) words cause
fails-here argument arguments words cause f = subst (λ ws. FirstFails (argument ∷ arguments) ws cause) (sym f.words_are) (inl f.fails)

pub fails-later : (argument : Argument) (arguments : List Argument) (words rest : List (List ℕ)) (value : Value) (cause : Cause)
    → Reads argument words value rest → FirstFails arguments rest cause → FirstFails (argument ∷ arguments) words cause
fails-later argument arguments words rest value cause r f = grind (arith)

-- a role and two values were read, and a word behind them fails
pub fails-behind : (second third : Argument) (more : List Argument) (words rest : List (List ℕ)) (role : Role) (from count : ℕ)
    (cause : Cause) → ReadsSpan second third words role from count rest → FirstFails more rest cause
    → FirstFails (ARole ∷ second ∷ third ∷ more) words cause
fails-behind second third more words rest role from count cause s f =
    fails-later _ (second ∷ third ∷ more) _ _ _ cause s.role_is
    (fails-later _ (third ∷ more) _ _ _ cause s.from_is (fails-later _ _ _ _ _ _ s.count_is f))

-- a word was read, and the words behind it spell the other values
pub spells-here : (argument : Argument) (more : List Argument) (words rest : List (List ℕ)) (value : Value) (values : List Value)
    → Reads argument words value rest → SpellsEach more rest values → SpellsEach (argument ∷ more) words (value ∷ values)
spells-here argument more words rest value values r s = grind (arith)

pub spells-behind : (second third : Argument) (more : List Argument) (words rest : List (List ℕ)) (role : Role) (from count : ℕ)
    (values : List Value) → ReadsSpan second third words role from count rest → SpellsEach more rest values
    → SpellsEach (ARole ∷ second ∷ third ∷ more) words (RoleIs role ∷ NumberIs from ∷ NumberIs count ∷ values)
spells-behind second third more words rest role from count values r s = grind (arith, spells-here)

pub spells-none : (words : List (List ℕ)) → length words ≡ 0 → SpellsEach [] words []
spells-none words none = (nil_from_length words none, refl)

-- how many words there were
pub one-less : (argument : Argument) (words rest : List (List ℕ)) (value : Value) → Reads argument words value rest
    → length words ≡ length rest + 1
one-less argument words rest value r = ap length r.words_are ∙ omega arith

pub three-less : (second third : Argument) (words rest : List (List ℕ)) (role : Role) (from count : ℕ)
    → ReadsSpan second third words role from count rest → length words ≡ length rest + 3
three-less second third words rest role from count r = grind (arith, one-less)

-- a line of a form's word, and words that spell what it says
pub spells-line : (words : List (List ℕ)) (first : List ℕ) (rest : List (List ℕ)) (form : Form) (entry : Entry) → words ≡ first ∷ rest
    → first ≡ word_of form → SpellsForm form rest entry → SpellsLine words entry
spells-line words first rest form entry are is s = grind (arith)

-- a line of a form's word, and of another number of words
pub miscounts : (words : List (List ℕ)) (first : List ℕ) (rest : List (List ℕ)) (form : Form) → words ≡ first ∷ rest
    → first ≡ word_of form → length rest ≢ length (arguments_of form) → Misspells words causes.Count
miscounts words first rest form are is other = grind (arith)

-- a line of a form's word, and of words of which one fails
pub misreads : (words : List (List ℕ)) (first : List ℕ) (rest : List (List ℕ)) (form : Form) (cause : Cause) → words ≡ first ∷ rest
    → first ≡ word_of form → length rest ≡ length (arguments_of form) → FirstFails (arguments_of form) rest cause → Misspells words cause
misreads words first rest form cause are is as_many fails = grind (arith)
