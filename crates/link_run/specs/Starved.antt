-- How long losses must go on for an end to give up.
use Rattle.std.specs.Prelude.{◌≢◌, ℕ, ◌+◌, ◌-◌, ◌*◌, ◌<◌, ◌≤◌, max, List, length, Option, Some, None, slice_get}
use Rattle.shared_terms.specs.declared.role.Role.{Role}
use Rattle.shared_terms.specs.declared.role.Role.TheVariants.{Originator, Answerer}
use Rattle.shared_terms.specs.Both.{of}
use Rattle.lapm_frames.specs.declared.heard.Heard.{Heard}
use Rattle.lapm_frames.specs.declared.heard.Heard.TheVariants.{Nothing, Passed, Lost, Chance}
use Rattle.link_run.specs.Run.{Turn}

-- the turn of that number, of turns the newest of which stands first
abbrev pub turn_at : ℕ → List Turn → Option Turn
turn_at turn ts = slice_get ts (length ts - 1 - turn)

-- what was sent was lost
abbrev pub IsLost : Heard → Type 0
IsLost (Lost s) = Unit {0}
IsLost Nothing = ⊥
IsLost (Passed s) = ⊥
IsLost Chance = ⊥

-- in this turn an end hears nothing of what was sent to it
abbrev pub LosesSome : Option Turn → Type 0
LosesSome None = ⊥
LosesSome (Some t) = (role : Role) × IsLost (of role t).heard

-- the turn lies in the span of that number, counted back from the last turn: a period, and before it as many turns as a slot is on its way
pub record IsInSpan (period delay last span turn : ℕ) : Type 0 where
  pub behind : last < turn + (span + 1) * period + delay
  pub before : turn + span * period ≤ last

-- In a turn of the span something was lost.
pub record SpanLoses (period delay : ℕ) (ts : List Turn) (span : ℕ) : Type 0 where
  pub turn : ℕ
  pub within : turn < length ts
  pub in_span : IsInSpan period delay (length ts - 1) span turn
  pub lost : LosesSome (turn_at turn ts)

-- A slot is lost in each of the last spans, one more than there are tries, but in one at most.
pub record IsStarved (tries period : ℕ) (delay : Role → ℕ) (ts : List Turn) : Type 0 where
  pub spared : ℕ
  pub each : (span : ℕ) → span ≤ tries → span ≢ spared → SpanLoses period (max (delay Originator) (delay Answerer)) ts span
