-- What a script says, as plain numbers and lists, and what the line and the ends do by it.
use Rattle.std.specs.Prelude.{ℕ, ◌≤◌, ◌&&◌, Bool, List, Option, length, map}
use Rattle.std.specs.List.{list_any, AllByRecursion}
use Rattle.shared_terms.specs.declared.role.Role.{Role}
use Rattle.shared_terms.specs.declared.role.Role.TheVariants.{Originator, Answerer}
use Rattle.noise_script.specs.declared.entry.Loss.{Loss}
use Rattle.noise_script.specs.declared.entry.Hit.{Hit}
use Rattle.noise_script.specs.declared.entry.Noise.{Noise}
use Rattle.noise_script.specs.declared.entry.Break.{Break}
use Rattle.noise_script.specs.declared.entry.Pause.{Pause}
use Rattle.noise_script.specs.declared.offset.Offset.{Offset}
use Rattle.noise_script.specs.Breaks.{break_in}
use Rattle.noise_script.specs.Offsets.{covers, plus, sum_of, hit_offset, noise_offset, AreQuiet}
use Rattle.shared_terms.specs.Role.{same_role}
use Rattle.xid_params.specs.declared.offer.Offer.{Offer}
use Rattle.xid_params.specs.Offers.{IsAllowed}

pub record ScriptValue : Type 0 where
  -- turns from the originator to the answerer, and back
  pub delay_orig : ℕ
  pub delay_answ : ℕ
  pub tries : ℕ
  pub offer_orig : Offer
  pub offer_answ : Offer
  -- the lines of each kind, in order
  pub losses : List Loss
  pub hits : List Hit
  pub noises : List Noise
  -- those that ask for breaks in rising order of turn
  pub breaks : List Break
  pub pauses : List Pause

-- turns that a slot of this sender is on the line
abbrev pub delay_of : ScriptValue → Role → ℕ
delay_of script Originator = script.delay_orig
delay_of script Answerer = script.delay_answ

-- what an end offers
abbrev pub offer_of : ScriptValue → Role → Offer
offer_of script Originator = script.offer_orig
offer_of script Answerer = script.offer_answ

-- the slot that a role sends in a turn is lost: a line names it
abbrev pub loses : ScriptValue → Role → ℕ → Bool
loses script role turn = list_any (λ loss. same_role loss.role role && covers loss.from loss.count turn) script.losses

-- what is added to a symbol of a role: by all hit and noise lines together
abbrev pub offset_of : ScriptValue → Role → ℕ → Offset
offset_of script role symbol =
    plus (sum_of (map (hit_offset role symbol) script.hits)) (sum_of (map (noise_offset role symbol) script.noises))

-- the turn and the length of the break of a role that has that index
abbrev pub break_of : ScriptValue → Role → ℕ → Option (ℕ × ℕ)
break_of script role index = break_in script.breaks role index

-- a role's user asks for a pause in a turn: a line covers it
abbrev pub is_busy : ScriptValue → Role → ℕ → Bool
is_busy script role turn = list_any (λ pause. same_role pause.role role && covers pause.from pause.count turn) script.pauses

-- a pause lasts at most 10,000 turns
abbrev pub IsShort : Pause → Type 0
IsShort pause = pause.count ≤ 10000

-- the ranges of the numbers, and how many lines there may be
pub record IsInLimits (script : ScriptValue) : Type 0 where
  pub delay_orig_some : 1 ≤ script.delay_orig
  pub delay_orig_few : script.delay_orig ≤ 60
  pub delay_answ_some : 1 ≤ script.delay_answ
  pub delay_answ_few : script.delay_answ ≤ 60
  pub tries_some : 1 ≤ script.tries
  pub tries_few : script.tries ≤ 20
  pub offer_orig_allowed : IsAllowed script.offer_orig
  pub offer_answ_allowed : IsAllowed script.offer_answ
  pub losses_few : length script.losses ≤ 1024
  pub hits_few : length script.hits ≤ 1024
  pub noises_few : length script.noises ≤ 64
  pub breaks_few : length script.breaks ≤ 64
  pub pauses_few : length script.pauses ≤ 64
  pub quiet : AreQuiet script.noises
  pub pauses_short : AllByRecursion IsShort script.pauses
