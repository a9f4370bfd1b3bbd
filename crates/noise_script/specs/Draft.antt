-- A script while it is read.
use Rattle.std.specs.Prelude.{◌≡◌, ◌⊎◌, ℕ, ◌<◌, true, ◌||◌, List, [], ◌∷◌, ◌++◌, length, Option, Some, None}
use Rattle.std.specs.List.{cons_option}
use Rattle.shared_terms.specs.declared.role.Role.{Role}
use Rattle.shared_terms.specs.declared.role.Role.TheVariants.{Originator, Answerer}
use Rattle.noise_script.specs.declared.draft.Draft.{Draft}
use Rattle.noise_script.specs.declared.offered.Offered.{Offered}
use Rattle.noise_script.specs.declared.entry.Break.{Break}
use Rattle.noise_script.specs.declared.entry.Entry.{Entry}
use Rattle.noise_script.specs.declared.forms.Form.TheVariants as forms
use Rattle.noise_script.specs.Lines.{lines_of, is_passed_over}
use Rattle.noise_script.specs.Grammar.{delays_said, tries_said, window_said, length_said, loss_said, hit_said, noise_said, break_said, pause_said, delays_in, tries_in, offered_in, losses_in, hits_in, noises_in, breaks_in, pauses_in, delays_or_one, tries_or_five, offer_by, Says, same_kind, each, standing, AreAllowed, IsFaulty}
use Rattle.noise_script.specs.Breaks.{placed, in_order}
use Rattle.noise_script.specs.Forms.{row, form_of, kind_of, most, SpellsLine}
use Rattle.noise_script.specs.declared.fault.ScriptFault.{ScriptFault}
use Rattle.noise_script.specs.declared.fault.ScriptFault.TheVariants as faults
use Rattle.noise_script.specs.Script.{ScriptValue}

-- the draft holds what lines say
pub record Holds (draft : Draft) (said : List Entry) : Type 0 where
  pub delays : draft.delays ≡ delays_in said
  pub tries : draft.tries ≡ tries_in said
  pub orig : draft.orig ≡ offered_in Originator said
  pub answ : draft.answ ≡ offered_in Answerer said
  pub losses : draft.losses.items ≡ losses_in said
  pub hits : draft.hits.items ≡ hits_in said
  pub noises : draft.noises.items ≡ noises_in said
  pub breaks : draft.breaks.items ≡ in_order (breaks_in said)
  pub pauses : draft.pauses.items ≡ pauses_in said

-- what the draft holds of a role's offer, and the draft that holds this instead
abbrev pub offered_of : Draft → Role → Offered
offered_of draft Originator = draft.orig
offered_of draft Answerer = draft.answ

abbrev pub with_offered : Draft → Role → Offered → Draft
with_offered draft Originator offered = record draft { orig = offered }
with_offered draft Answerer offered = record draft { answ = offered }

-- what a line says, or else what was said before
abbrev pub or_before : {X : Type 0} → Option X → Option X → Option X
or_before None before = before
or_before (Some x) before = Some x

abbrev pub offered_after : Role → Entry → Offered → Offered
offered_after role entry offered = record {
  window = or_before (window_said role entry) offered.window;
  length = or_before (length_said role entry) offered.length;
  srej = offered.srej || same_kind (each forms.Srej role) (kind_of entry);
  check32 = offered.check32 || same_kind (each forms.Check32 role) (kind_of entry);
}

-- the break lines and one more, where a line says one
abbrev pub placed_said : Option Break → List Break → List Break
placed_said None lines = lines
placed_said (Some line) lines = placed line lines

-- the draft holds what a line more says, besides what it held
pub record Adds (draft : Draft) (entry : Entry) (after : Draft) : Type 0 where
  pub delays : after.delays ≡ or_before (delays_said entry) draft.delays
  pub tries : after.tries ≡ or_before (tries_said entry) draft.tries
  pub orig : after.orig ≡ offered_after Originator entry draft.orig
  pub answ : after.answ ≡ offered_after Answerer entry draft.answ
  pub losses : after.losses.items ≡ draft.losses.items ++ cons_option (loss_said entry) []
  pub hits : after.hits.items ≡ draft.hits.items ++ cons_option (hit_said entry) []
  pub noises : after.noises.items ≡ draft.noises.items ++ cons_option (noise_said entry) []
  pub breaks : after.breaks.items ≡ placed_said (break_said entry) draft.breaks.items
  pub pauses : after.pauses.items ≡ draft.pauses.items ++ cons_option (pause_said entry) []

-- the script that the draft makes
abbrev pub draft_script : Draft → ScriptValue
draft_script draft = record {
  delay_orig = (delays_or_one draft.delays).orig;
  delay_answ = (delays_or_one draft.delays).answ;
  tries = tries_or_five draft.tries;
  offer_orig = offer_by draft.orig;
  offer_answ = offer_by draft.answ;
  losses = draft.losses.items;
  hits = draft.hits.items;
  noises = draft.noises.items;
  breaks = draft.breaks.items;
  pauses = draft.pauses.items;
}

-- the draft holds what the text's lines say, up to the rest
pub record HoldsUpTo (text rest : List ℕ) (number : ℕ) (draft : Draft) : Type 0 where
  pub before : List (List ℕ)
  pub lines_are : lines_of text ≡ before ++ lines_of rest
  pub number_is : number ≡ length before
  pub said : List Entry
  pub says : Says before said
  pub allowed : AreAllowed said
  pub holds : Holds draft said

-- a line of these words is passed over, or says one thing more, and the draft holds all that is said then
abbrev pub HoldsLine : List Entry → List (List ℕ) → Draft → Type 0
HoldsLine said words draft =
    ((is_passed_over words ≡ true) × Holds draft said)
    ⊎ ((entry : Entry) × SpellsLine words entry × (standing (kind_of entry) said < most (row (form_of entry)).bound)
    × Holds draft (said ++ entry ∷ []))

-- why the line of that number was not added
abbrev pub IsLineFault : List Entry → List (List ℕ) → ℕ → ScriptFault → Type 0
IsLineFault said words number (faults.Line line cause) = (line ≡ number) × IsFaulty said words cause
IsLineFault said words number faults.NoMemory = Unit {0}
