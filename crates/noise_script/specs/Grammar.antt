-- The texts that spell scripts, and the first fault of a text that spells none.
use Rattle.std.specs.Prelude.{◌≡◌, ◌⊎◌, ℕ, ◌+◌, ◌≤◌, Bool, true, false, ◌&&◌, if◌then◌else◌, List, [], ◌∷◌, ◌++◌, length, filter_map, Option, Some, None}
use Rattle.std.specs.List.{list_any}
use Rattle.shared_terms.specs.declared.cause.Cause.{Cause}
use Rattle.noise_script.specs.declared.entry.Loss.{Loss}
use Rattle.noise_script.specs.declared.entry.Hit.{Hit}
use Rattle.noise_script.specs.declared.entry.Noise.{Noise}
use Rattle.noise_script.specs.declared.entry.Break.{Break}
use Rattle.noise_script.specs.declared.entry.Pause.{Pause}
use Rattle.noise_script.specs.declared.entry.Delays.{Delays}
use Rattle.noise_script.specs.declared.offered.Offered.{Offered}
use Rattle.noise_script.specs.declared.entry.Entry.{Entry}
use Rattle.noise_script.specs.declared.entry.Entry.TheVariants as entries
use Rattle.noise_script.specs.declared.fault.ScriptFault.{ScriptFault}
use Rattle.noise_script.specs.declared.fault.ScriptFault.TheVariants as faults
use Rattle.noise_script.specs.declared.forms.Form.{Form}
use Rattle.noise_script.specs.declared.forms.Form.TheVariants as forms
use Rattle.noise_script.specs.Lines.{lines_of, words_of, is_passed_over}
use Rattle.noise_script.specs.Forms.{Kind, row, form_of, kind_of, most, too_many, SpellsLine, Misspells}
use Rattle.noise_script.specs.Breaks.{in_order}
use Rattle.xid_params.specs.declared.offer.Offer.{Offer}
use Rattle.shared_terms.specs.declared.role.Role.{Role}
use Rattle.shared_terms.specs.declared.role.Role.TheVariants.{Originator, Answerer}
use Rattle.shared_terms.specs.Role.{same_role}
use Rattle.noise_script.specs.Script.{ScriptValue}

-- the lines say this, in order; those that are passed over say nothing
pub data Says : List (List ℕ) → List Entry → Type 0 where
  nothing : Says [] []
  passed_over : {line : List ℕ} {lines : List (List ℕ)} {said : List Entry} → is_passed_over (words_of line) ≡ true → Says lines said
      → Says (line ∷ lines) said
  spelled : {line : List ℕ} {lines : List (List ℕ)} {entry : Entry} {said : List Entry} → SpellsLine (words_of line) entry → Says lines said
      → Says (line ∷ lines) (entry ∷ said)

abbrev pub same_form : Form → Form → Bool
same_form forms.Delay forms.Delay = true
same_form forms.Window forms.Window = true
same_form forms.Length forms.Length = true
same_form forms.Tries forms.Tries = true
same_form forms.Srej forms.Srej = true
same_form forms.Check32 forms.Check32 = true
same_form forms.Lose forms.Lose = true
same_form forms.Hit forms.Hit = true
same_form forms.Noise forms.Noise = true
same_form forms.Break forms.Break = true
same_form forms.Busy forms.Busy = true
same_form _ _ = false

abbrev pub same_counted : Option Role → Option Role → Bool
same_counted None None = true
same_counted (Some a) (Some b) = same_role a b
same_counted _ _ = false

abbrev pub same_kind : Kind → Kind → Bool
same_kind a b = same_form a.form b.form && same_counted a.role b.role

-- how many lines of a kind there are
abbrev pub standing : Kind → List Entry → ℕ
standing kind [] = 0
standing kind (entry ∷ said) = (if same_kind kind (kind_of entry) then 1 else 0) + standing kind said

-- of no kind there are too many
abbrev pub AreAllowed : List Entry → Type 0
AreAllowed said = (kind : Kind) → standing kind said ≤ most (row kind.form).bound

-- the lines of a form, of both roles together
abbrev pub whole : Form → Kind
whole form = record { form = form; role = None }

-- the lines of a form and a role
abbrev pub each : Form → Role → Kind
each form role = record { form = form; role = Some role }

-- what a line says of each thing
abbrev pub delays_said : Entry → Option Delays
delays_said (entries.Delay delays) = Some delays
delays_said _ = None

abbrev pub tries_said : Entry → Option ℕ
tries_said (entries.Tries tries) = Some tries
tries_said _ = None

abbrev pub window_said : Role → Entry → Option ℕ
window_said role (entries.Window window) = if same_role role window.role then Some window.segments else None
window_said role _ = None

abbrev pub length_said : Role → Entry → Option ℕ
length_said role (entries.Length length) = if same_role role length.role then Some length.octets else None
length_said role _ = None

abbrev pub loss_said : Entry → Option Loss
loss_said (entries.Lose loss) = Some loss
loss_said _ = None

abbrev pub hit_said : Entry → Option Hit
hit_said (entries.Hit hit) = Some hit
hit_said _ = None

abbrev pub noise_said : Entry → Option Noise
noise_said (entries.Noise noise) = Some noise
noise_said _ = None

abbrev pub break_said : Entry → Option Break
break_said (entries.Break line) = Some line
break_said _ = None

abbrev pub pause_said : Entry → Option Pause
pause_said (entries.Busy pause) = Some pause
pause_said _ = None

abbrev pub first : {X : Type 0} → List X → Option X
first [] = None
first (x ∷ _) = Some x

-- the delays and the tries that are said first
abbrev pub delays_in : List Entry → Option Delays
delays_in said = first (filter_map delays_said said)

abbrev pub tries_in : List Entry → Option ℕ
tries_in said = first (filter_map tries_said said)

-- a line of a kind is said
abbrev pub stands : Kind → List Entry → Bool
stands kind said = list_any (λ entry. same_kind kind (kind_of entry)) said

-- what is said of a role's offer
abbrev pub offered_in : Role → List Entry → Offered
offered_in role said = record {
  window = first (filter_map (window_said role) said);
  length = first (filter_map (length_said role) said);
  srej = stands (each forms.Srej role) said;
  check32 = stands (each forms.Check32 role) said;
}

abbrev pub losses_in : List Entry → List Loss
losses_in said = filter_map loss_said said

abbrev pub hits_in : List Entry → List Hit
hits_in said = filter_map hit_said said

abbrev pub noises_in : List Entry → List Noise
noises_in said = filter_map noise_said said

abbrev pub breaks_in : List Entry → List Break
breaks_in said = filter_map break_said said

abbrev pub pauses_in : List Entry → List Pause
pauses_in said = filter_map pause_said said

-- what holds where nothing is said: a delay of one turn each way, five tries, a window of 15, and 128 octets
abbrev pub delays_or_one : Option Delays → Delays
delays_or_one None = record { orig = 1; answ = 1 }
delays_or_one (Some delays) = delays

abbrev pub tries_or_five : Option ℕ → ℕ
tries_or_five None = 5
tries_or_five (Some tries) = tries

abbrev pub window_or_15 : Option ℕ → ℕ
window_or_15 None = 15
window_or_15 (Some segments) = segments

abbrev pub length_or_128 : Option ℕ → ℕ
length_or_128 None = 128
length_or_128 (Some octets) = octets

-- the offer by what is said of it, the same for both ways
abbrev pub offer_by : Offered → Offer
offer_by offered = record {
  srej = offered.srej;
  check32 = offered.check32;
  tx_len = length_or_128 offered.length;
  rx_len = length_or_128 offered.length;
  tx_window = window_or_15 offered.window;
  rx_window = window_or_15 offered.window;
}

-- the script that all lines together say
abbrev pub script_of : List Entry → ScriptValue
script_of said = record {
  delay_orig = (delays_or_one (delays_in said)).orig;
  delay_answ = (delays_or_one (delays_in said)).answ;
  tries = tries_or_five (tries_in said);
  offer_orig = offer_by (offered_in Originator said);
  offer_answ = offer_by (offered_in Answerer said);
  losses = losses_in said;
  hits = hits_in said;
  noises = noises_in said;
  breaks = in_order (breaks_in said);
  pauses = pauses_in said;
}

-- the text spells the script
pub record ScriptSpelling (text : List ℕ) (script : ScriptValue) : Type 0 where
  pub said : List Entry
  pub says : Says (lines_of text) said
  pub allowed : AreAllowed said
  pub script_is : script ≡ script_of said

-- a line of these words, behind lines that say this, says one more of its kind than there may be
pub record IsTooMany (said : List Entry) (words : List (List ℕ)) (cause : Cause) : Type 0 where
  pub entry : Entry
  pub spelled_line : SpellsLine words entry
  pub full : most (row (form_of entry)).bound ≤ standing (kind_of entry) said
  pub cause_is : cause ≡ too_many (row (form_of entry)).bound

-- a line of these words, behind lines that say this, is faulty, and this is the first cause
abbrev pub IsFaulty : List Entry → List (List ℕ) → Cause → Type 0
IsFaulty said words cause = Misspells words cause ⊎ IsTooMany said words cause

-- the line of that number, counted from 1, is the first faulty one: the lines before it spell a script
pub record FirstFault (text : List ℕ) (number : ℕ) (cause : Cause) : Type 0 where
  pub before : List (List ℕ)
  pub line : List ℕ
  pub after : List (List ℕ)
  pub lines_are : lines_of text ≡ before ++ line ∷ after
  pub number_is : number ≡ length before + 1
  pub said : List Entry
  pub says : Says before said
  pub allowed : AreAllowed said
  pub faulty : IsFaulty said (words_of line) cause

-- why a text is read as no script
abbrev pub IsFaultOf : List ℕ → ScriptFault → Type 0
IsFaultOf text (faults.Line line cause) = FirstFault text line cause
IsFaultOf text faults.NoMemory = Unit {0}
