-- What a script makes of a link's ends and users.
use Rattle.line_run.proofs.Cited.{arith, ◌≡◌, ℕ, zero, suc, ◌&&◌, Bool, cond, List, [], ◌∷◌, map, filter, refl, BreaksAreTheScripts}
use Rattle.line_run.proofs.Cited.{PausesAreTheScripts, ScriptsHaveDelays, ScriptsMayPlay, break_line, busy_line, covers, Break, Pause}
use Rattle.line_run.proofs.Cited.{same_role, Role}
use Rattle.std.proofs.Common.{◌||◌, slice_get}
use Rattle.std.specs.List.{list_any}
use Rattle.std.specs.Option.{option_map}
use Rattle.link_run.specs.End.{BreakLine, is_busy}

pub scripts_may_play : ScriptsMayPlay
scripts_may_play script files h = grind (arith)

pub scripts_have_delays : ScriptsHaveDelays
scripts_have_delays script h given = grind (arith)

abbrev as_line : ℕ × ℕ → BreakLine
as_line b = record { turn = b.0; length_octet = b.1 }

-- an entry of mapped lists
same-entry : (lines : List Break) (index : ℕ)
    → slice_get (map break_line lines) index ≡ option_map as_line (slice_get (map (λ (line : Break). (line.turn, line.length)) lines) index)
same-entry [] index = refl
same-entry (line ∷ lines) zero = refl
same-entry (line ∷ lines) (suc index) = same-entry lines index

pub breaks_are_the_scripts : BreaksAreTheScripts
breaks_are_the_scripts script role index = same-entry (filter (λ (line : Break). same_role line.role role) script.breaks) index

-- being busy by some of the lines
busy-by : (turn : ℕ) (role : Role) (lines : List Pause)
    → is_busy turn (map busy_line (filter (λ (p : Pause). same_role p.role role) lines)) ≡ list_any
    (λ (p : Pause). same_role p.role role && covers p.from p.count turn) lines
busy-by turn role [] = refl
busy-by turn role (p ∷ lines) = go (same_role p.role role) (busy-by turn role lines)
  where
    rest : List Pause
    rest = filter (λ (q : Pause). same_role q.role role) lines

    any : Bool
    any = list_any (λ (q : Pause). same_role q.role role && covers q.from q.count turn) lines

    go : (b : Bool) → is_busy turn (map busy_line rest) ≡ any
        → is_busy turn (map busy_line (cond b (p ∷ rest) rest)) ≡ ((b && covers p.from p.count turn) || any)
    go b e = grind (arith)

pub pauses_are_the_scripts : PausesAreTheScripts
pauses_are_the_scripts script role turn = busy-by turn role script.pauses
