-- The forms of a script's lines, and how a line is spelled and misspelled.
use Rattle.std.specs.Prelude.{◌≡◌, ◌≢◌, ◌⊎◌, ℕ, ◌<◌, ◌≤◌, true, false, ℤ, pos, neg_ℤ, ◌<ℤ◌, ◌≤ℤ◌, List, [], ◌∷◌, length, codes, Option, Some, None}
use Rattle.shared_terms.specs.declared.role.Role.{Role}
use Rattle.shared_terms.specs.declared.cause.Cause.{Cause}
use Rattle.shared_terms.specs.declared.cause.Cause.TheVariants as causes
use Rattle.frame_check.specs.declared.sizes.TheConstants.{INFO}
use Rattle.noise_script.specs.declared.entry.Entry.{Entry}
use Rattle.noise_script.specs.declared.entry.Entry.TheVariants as entries
use Rattle.noise_script.specs.declared.forms.Form.{Form}
use Rattle.noise_script.specs.declared.forms.Form.TheVariants as forms
use Rattle.noise_script.specs.declared.forms.Bound.{Bound}
use Rattle.noise_script.specs.declared.forms.Bound.TheVariants.{Once, OnceEach, AtMost}
use Rattle.noise_script.specs.Lines.{begins_with, is_passed_over}
use Rattle.noise_script.specs.Numbers.{is_number, value_of, is_signed, signed_value_of}
use Rattle.shared_terms.specs.Role.{role_word}

-- what a word behind the first may be: a role, a number from low to high, or one that may have a minus sign
pub data Argument : Type 0 where
  ARole : Argument
  Number : (low high : ℕ) → Argument
  Signed : (low high : ℤ) → Argument

-- a form: its first word, what the others may be, and how many lines of it there may be
pub record Row : Type 0 where
  pub word : List ℕ
  pub arguments : List Argument
  pub bound : Bound

abbrev pub turn : Argument
turn = Number 0 4294967295

abbrev pub count : Argument
count = Number 1 4294967295

abbrev pub symbol : Argument
symbol = Number 0 1099511627775

abbrev pub coordinate : Argument
coordinate = Signed (neg_ℤ (pos 32768)) (pos 32767)

abbrev pub row : Form → Row
row forms.Delay = record { word = codes "delay"; arguments = Number 1 60 ∷ Number 1 60 ∷ []; bound = Once }
row forms.Window = record { word = codes "k"; arguments = ARole ∷ Number 1 127 ∷ []; bound = OnceEach }
row forms.Length = record { word = codes "n401"; arguments = ARole ∷ Number 1 INFO ∷ []; bound = OnceEach }
row forms.Tries = record { word = codes "n400"; arguments = Number 1 20 ∷ []; bound = Once }
row forms.Srej = record { word = codes "srej"; arguments = ARole ∷ []; bound = OnceEach }
row forms.Check32 = record { word = codes "check32"; arguments = ARole ∷ []; bound = OnceEach }
row forms.Lose = record { word = codes "lose"; arguments = ARole ∷ turn ∷ count ∷ []; bound = AtMost 1024 }
row forms.Hit = record { word = codes "hit"; arguments = ARole ∷ symbol ∷ count ∷ coordinate ∷ coordinate ∷ []; bound = AtMost 1024 }
row forms.Noise = record {
  word = codes "noise";
  arguments = ARole ∷ symbol ∷ count ∷ Number 0 32767 ∷ Number 0 18446744073709551615 ∷ [];
  bound = AtMost 64;
}
row forms.Break = record { word = codes "break"; arguments = ARole ∷ turn ∷ Number 1 255 ∷ []; bound = AtMost 64 }
row forms.Busy = record { word = codes "busy"; arguments = ARole ∷ turn ∷ Number 1 10000 ∷ []; bound = AtMost 64 }

abbrev pub word_of : Form → List ℕ
word_of form = (row form).word

abbrev pub arguments_of : Form → List Argument
arguments_of form = (row form).arguments

-- how many lines there may be, and the cause of one more
abbrev pub most : Bound → ℕ
most Once = 1
most OnceEach = 1
most (AtMost lines) = lines

abbrev pub too_many : Bound → Cause
too_many Once = causes.Repeated
too_many OnceEach = causes.Repeated
too_many (AtMost lines) = causes.Limit

-- what a word behind the first stands for
pub data Value : Type 0 where
  RoleIs : Role → Value
  NumberIs : ℕ → Value
  SignedIs : ℤ → Value

-- a line's form, and the values of its words behind the first
abbrev pub form_of : Entry → Form
form_of (entries.Delay delays) = forms.Delay
form_of (entries.Window window) = forms.Window
form_of (entries.Length length) = forms.Length
form_of (entries.Tries tries) = forms.Tries
form_of (entries.Srej role) = forms.Srej
form_of (entries.Check32 role) = forms.Check32
form_of (entries.Lose loss) = forms.Lose
form_of (entries.Hit hit) = forms.Hit
form_of (entries.Noise noise) = forms.Noise
form_of (entries.Break line) = forms.Break
form_of (entries.Busy pause) = forms.Busy

abbrev pub values_of : Entry → List Value
values_of (entries.Delay delays) = NumberIs delays.orig ∷ NumberIs delays.answ ∷ []
values_of (entries.Window window) = RoleIs window.role ∷ NumberIs window.segments ∷ []
values_of (entries.Length length) = RoleIs length.role ∷ NumberIs length.octets ∷ []
values_of (entries.Tries tries) = NumberIs tries ∷ []
values_of (entries.Srej role) = RoleIs role ∷ []
values_of (entries.Check32 role) = RoleIs role ∷ []
values_of (entries.Lose loss) = RoleIs loss.role ∷ NumberIs loss.from ∷ NumberIs loss.count ∷ []
values_of (entries.Hit hit) = RoleIs hit.role ∷ NumberIs hit.from ∷ NumberIs hit.count ∷ SignedIs hit.re ∷ SignedIs hit.im ∷ []
values_of (entries.Noise noise) =
    RoleIs noise.role ∷ NumberIs noise.from ∷ NumberIs noise.count ∷ NumberIs noise.amplitude ∷ NumberIs noise.seed ∷ []
values_of (entries.Break line) = RoleIs line.role ∷ NumberIs line.turn ∷ NumberIs line.length ∷ []
values_of (entries.Busy pause) = RoleIs pause.role ∷ NumberIs pause.from ∷ NumberIs pause.count ∷ []

-- The lines that are counted together: those of a form, and of one role where they may stand once for each.
pub record Kind : Type 0 where
  pub form : Form
  pub role : Option Role

abbrev pub role_counted : Bound → List Value → Option Role
role_counted OnceEach (RoleIs role ∷ _) = Some role
role_counted _ _ = None

abbrev pub kind_of : Entry → Kind
kind_of entry = record { form = form_of entry; role = role_counted (row (form_of entry)).bound (values_of entry) }

-- numbers are in their range, ends included
pub record IsNumber (low high : ℕ) (word : List ℕ) (value : ℕ) : Type 0 where
  pub digits : is_number word ≡ true
  pub value_is : value ≡ value_of word
  pub not_below : low ≤ value
  pub not_above : value ≤ high

pub record IsSigned (low high : ℤ) (word : List ℕ) (value : ℤ) : Type 0 where
  pub digits : is_signed word ≡ true
  pub value_is : value ≡ signed_value_of word
  pub not_below : low ≤ℤ value
  pub not_above : value ≤ℤ high

-- the word spells the value
abbrev pub Spells : Argument → List ℕ → Value → Type 0
Spells ARole word (RoleIs role) = word ≡ role_word role
Spells ARole word _ = ⊥
Spells (Number low high) word (NumberIs value) = IsNumber low high word value
Spells (Number low high) word _ = ⊥
Spells (Signed low high) word (SignedIs value) = IsSigned low high word value
Spells (Signed low high) word _ = ⊥

-- the word spells none, and this is why: first that it isn't a role or a number at all, then its range
abbrev pub Fails : Argument → List ℕ → Cause → Type 0
Fails ARole word causes.Word = (role : Role) → word ≢ role_word role
Fails ARole word _ = ⊥
Fails (Number low high) word causes.Number = is_number word ≡ false
Fails (Number low high) word causes.Range = (is_number word ≡ true) × ((value_of word < low) ⊎ (high < value_of word))
Fails (Number low high) word _ = ⊥
Fails (Signed low high) word causes.Number = is_signed word ≡ false
Fails (Signed low high) word causes.Range = (is_signed word ≡ true) × ((signed_value_of word <ℤ low) ⊎ (high <ℤ signed_value_of word))
Fails (Signed low high) word _ = ⊥

-- each word spells its value
abbrev pub SpellsEach : List Argument → List (List ℕ) → List Value → Type 0
SpellsEach [] words values = (words ≡ []) × (values ≡ [])
SpellsEach (argument ∷ arguments) [] values = ⊥
SpellsEach (argument ∷ arguments) (word ∷ words) [] = ⊥
SpellsEach (argument ∷ arguments) (word ∷ words) (value ∷ values) = Spells argument word value × SpellsEach arguments words values

-- the first word from the left that spells none spells none for this cause
abbrev pub FirstFails : List Argument → List (List ℕ) → Cause → Type 0
FirstFails [] words cause = ⊥
FirstFails (argument ∷ arguments) [] cause = ⊥
FirstFails (argument ∷ arguments) (word ∷ words) cause =
    Fails argument word cause ⊎ ((value : Value) × Spells argument word value × FirstFails arguments words cause)

-- a line of these words says this
pub record SpellsLine (words : List (List ℕ)) (entry : Entry) : Type 0 where
  pub rest : List (List ℕ)
  pub words_are : words ≡ word_of (form_of entry) ∷ rest
  pub each : SpellsEach (arguments_of (form_of entry)) rest (values_of entry)

-- the line isn't passed over, and its first word is of no form
pub record IsUnknown (words : List (List ℕ)) (cause : Cause) : Type 0 where
  pub first : List ℕ
  pub rest : List (List ℕ)
  pub words_are : words ≡ first ∷ rest
  pub said : begins_with 35 first ≡ false
  pub none : (form : Form) → first ≢ word_of form
  pub cause_is : cause ≡ causes.Word

-- the line has another number of words than its form
pub record IsMiscounted (words : List (List ℕ)) (cause : Cause) : Type 0 where
  pub form : Form
  pub rest : List (List ℕ)
  pub words_are : words ≡ word_of form ∷ rest
  pub other : length rest ≢ length (arguments_of form)
  pub cause_is : cause ≡ causes.Count

-- the line has as many words as its form, and one of them fails
pub record IsMisread (words : List (List ℕ)) (cause : Cause) : Type 0 where
  pub form : Form
  pub rest : List (List ℕ)
  pub words_are : words ≡ word_of form ∷ rest
  pub as_many : length rest ≡ length (arguments_of form)
  pub fails : FirstFails (arguments_of form) rest cause

-- a line of these words says nothing, and this is the first cause
abbrev pub Misspells : List (List ℕ) → Cause → Type 0
Misspells words cause = IsUnknown words cause ⊎ (IsMiscounted words cause ⊎ IsMisread words cause)

-- a line of these words is passed over, or says this
abbrev pub LineSays : List (List ℕ) → Option Entry → Type 0
LineSays words None = is_passed_over words ≡ true
LineSays words (Some entry) = SpellsLine words entry

-- the first of these words spells the value, and these are the others
pub record Reads (argument : Argument) (words : List (List ℕ)) (value : Value) (rest : List (List ℕ)) : Type 0 where
  pub word : List ℕ
  pub words_are : words ≡ word ∷ rest
  pub spells : Spells argument word value

-- the first of these words spell a role and two values, and these are the others
pub record ReadsSpan (second third : Argument) (words : List (List ℕ)) (role : Role) (from count : ℕ) (rest : List (List ℕ)) : Type 0 where
  pub behind_role : List (List ℕ)
  pub behind_from : List (List ℕ)
  pub role_is : Reads ARole words (RoleIs role) behind_role
  pub from_is : Reads second behind_role (NumberIs from) behind_from
  pub count_is : Reads third behind_from (NumberIs count) rest

-- the first of these words spells none
pub record FailsToRead (argument : Argument) (words : List (List ℕ)) (cause : Cause) : Type 0 where
  pub word : List ℕ
  pub rest : List (List ℕ)
  pub words_are : words ≡ word ∷ rest
  pub fails : Fails argument word cause

-- all these words spell what an entry of the form says
pub record SpellsForm (form : Form) (words : List (List ℕ)) (entry : Entry) : Type 0 where
  pub form_is : form_of entry ≡ form
  pub each : SpellsEach (arguments_of form) words (values_of entry)
