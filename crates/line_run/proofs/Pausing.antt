-- How many lines of a script are a role's.
use Rattle.line_run.proofs.Cited.{◌≡◌, ◌+◌, Bool, cond, List, [], ◌∷◌, map, filter, length, arith, refl, AllByRecursion, busy_line, IsShort}
use Rattle.line_run.proofs.Cited.{Pause, same_role, Role, Answerer, Originator}
use Rattle.turn_bound.specs.Limits as limits

-- those of both roles together
pub parted : {X Y : Type 0} (f : X → Y) (role_of : X → Role) (lines : List X)
    → length (map f (filter (λ (x : X). same_role (role_of x) Originator) lines)) + length
    (map f (filter (λ (x : X). same_role (role_of x) Answerer) lines)) ≡ length lines
parted {X = X} f role_of [] = refl
parted {X = X} f role_of (x ∷ lines) = go (role_of x) (parted f role_of lines)
  where
    orig : List X
    orig = filter (λ (y : X). same_role (role_of y) Originator) lines

    answ : List X
    answ = filter (λ (y : X). same_role (role_of y) Answerer) lines

    go : (r : Role) → length (map f orig) + length (map f answ) ≡ length lines
        → length (map f (cond (same_role r Originator) (x ∷ orig) orig)) + length
        (map f (cond (same_role r Answerer) (x ∷ answ) answ)) ≡ length (x ∷ lines)
    go r e = grind (arith)

-- a role's pauses are as short as all
pub shorts : (role : Role) (lines : List Pause) → AllByRecursion IsShort lines
    → AllByRecursion limits.IsShort (map busy_line (filter (λ (p : Pause). same_role p.role role) lines))
shorts role [] all = tt
shorts role (p ∷ lines) all = go (same_role p.role role) (shorts role lines all.1)
  where
    rest : List Pause
    rest = filter (λ (q : Pause). same_role q.role role) lines

    go : (b : Bool) → AllByRecursion limits.IsShort (map busy_line rest)
        → AllByRecursion limits.IsShort (map busy_line (cond b (p ∷ rest) rest))
    go b more = grind (arith)
