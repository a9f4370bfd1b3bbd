-- How many turns a run has within the limits of the program.
use Rattle.std.specs.Prelude.{ℕ, ◌^◌, ◌<◌, ◌≤◌, List, length}
use Rattle.std.specs.List.{AllByRecursion}
use Rattle.shared_terms.specs.declared.role.Role.{Role}
use Rattle.shared_terms.specs.Both.{of}
use Rattle.link_run.specs.End.{BusyLine}
use Rattle.link_run.specs.Run.{Link, Accounts, Turn, RunOf}
use Rattle.link_run.specs.Carried.{IsCarried}
use Rattle.turn_bound.specs.Time.{KeepsTime}
use Rattle.turn_bound.specs.Bound.{of_both}

-- the most that a script may say: tries, turns of delay each way, lines that ask for breaks and pauses, and turns of one pause
abbrev pub tries_limit : ℕ
tries_limit = 20

abbrev pub delay_limit : ℕ
delay_limit = 60

abbrev pub break_lines : ℕ
break_lines = 64

abbrev pub busy_lines : ℕ
busy_lines = 64

abbrev pub pause_limit : ℕ
pause_limit = 10000

-- octets of a file
abbrev pub file_limit : ℕ
file_limit = 16777216

abbrev pub IsShort : BusyLine → Type 0
IsShort line = line.count ≤ pause_limit

-- A link within these limits; lines are counted of both roles together.
pub record IsLimited (tries : ℕ) (delay : Role → ℕ) (link : Link) : Type 0 where
  pub tries_few : tries ≤ tries_limit
  pub delays_few : (role : Role) → delay role ≤ delay_limit
  pub files_short : (role : Role) → length (of role link).user.file ≤ file_limit
  pub breaks_few : of_both (λ role. length (of role link).user.breaks) ≤ break_lines
  pub busy_few : of_both (λ role. length (of role link).user.busy) ≤ busy_lines
  pub busy_short : (role : Role) → AllByRecursion IsShort (of role link).user.busy

-- No run is half as long as the turns that an end can count, so that a line may carry the slots of two links.
abbrev pub NoRunIsLong : Type 0
NoRunIsLong = (tries period : ℕ) (delay : Role → ℕ) (link : Link) (ts : List Turn) (ends : Accounts)
    → KeepsTime tries period delay link → IsLimited tries delay link → RunOf link ts ends → IsCarried delay ts
    → length ts < 2 ^ 39
