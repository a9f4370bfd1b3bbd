-- How many slots the lose lines of a script name.
use Rattle.std.proofs.Common.{◌≡◌, ℕ, zero, suc, ◌+◌, ◌-◌, ◌<◌, ◌≤◌, ◌&&◌, ◌||◌, Bool, true, false, nat_le, nat_lt, List, [], ◌∷◌, length}
use Rattle.std.proofs.Common.{arith, refl, subst}
use Rattle.std.specs.List.{list_any}
use Rattle.std.proofs.lemmas.Bool.Decides.{nat_tests}
use Rattle.frame_check.specs.Bits.{number}
use Rattle.line_ends.proofs.Names.{Answerer, Heard, Originator, Role, ScriptValue, Turn, delay_of, of, other, same_role, slots_named}
use Rattle.noise_script.specs.declared.entry.Loss.{Loss}
use Rattle.noise_script.specs.Offsets.{covers}
use Rattle.link_run.specs.Counts.{lost_in, lost_slots}
use Rattle.line_ends.proofs.Hearing.{AsNamed}

-- whether a line names a slot, and one of these lines does
abbrev names : Role → ℕ → Loss → Bool
names role turn loss = same_role loss.role role && covers loss.from loss.count turn

abbrev some_names : Role → ℕ → List Loss → Bool
some_names role turn losses = list_any (names role turn) losses

-- how many of a role's first slots a line names, and one of these lines does
abbrev named_by : Loss → Role → ℕ → ℕ
named_by loss role zero = 0
named_by loss role (suc n) = named_by loss role n + number (names role n loss)

abbrev named_in : List Loss → Role → ℕ → ℕ
named_in losses role zero = 0
named_in losses role (suc n) = named_in losses role n + number (some_names role n losses)

none-named : (role : Role) (n : ℕ) → named_in [] role n ≡ 0
none-named role zero = refl
none-named role (suc n) = omega (arith, none-named role n)

either : (a b : Bool) → number (a || b) ≤ number a + number b
either a b = grind (arith)

one-and-more : (loss : Loss) (losses : List Loss) (role : Role) (n : ℕ)
    → named_in (loss ∷ losses) role n ≤ named_by loss role n + named_in losses role n
one-and-more loss losses role zero = omega arith
one-and-more loss losses role (suc n) = grind (arith, one-and-more loss losses role n, either)

-- a line names as many slots as it counts, and no slot of another role
pub record Few (from count n named : ℕ) : Type 0 where
  pub within : named ≤ count
  pub behind : named ≤ n - from

at-least : (a b : ℕ) → nat_le a b ≡ true → a ≤ b
at-least a b e = grind (arith, nat_tests, e)

is-below : (a b : ℕ) → nat_lt a b ≡ true → a < b
is-below a b e = grind (arith, nat_tests, e)

few-step : (from count n named : ℕ) → Few from count n named → Few from count (suc n) (named + number (covers from count n))
few-step from count n named h = grind (arith, at-least, is-below)

few-of : (same : Bool) (from count n named : ℕ) → Few from count n named
    → Few from count (suc n) (named + number (same && covers from count n))
few-of same from count n named h = grind (arith, few-step)

few-by : (loss : Loss) (role : Role) (n : ℕ) → Few loss.from loss.count n (named_by loss role n)
few-by loss role zero = record { within = omega arith; behind = omega arith }
few-by loss role (suc n) = few-of (same_role loss.role role) loss.from loss.count n (named_by loss role n) (few-by loss role n)

not-others : (loss : Loss) (role : Role) (n : ℕ) → same_role loss.role role ≡ false → named_by loss role n ≡ 0
not-others loss role zero e = refl
not-others loss role (suc n) e = grind (arith, not-others loss role n e)

both-by : (loss : Loss) (m n : ℕ) → named_by loss Originator m + named_by loss Answerer n ≤ loss.count
both-by loss m n = grind (arith, few-by, not-others)

pub both-named : (losses : List Loss) (m n : ℕ) → named_in losses Originator m + named_in losses Answerer n ≤ slots_named losses
both-named [] m n = omega (arith, none-named Originator m, none-named Answerer n)
both-named (loss ∷ losses) m n = grind (arith, both-named losses m n, one-and-more, both-by)

-- the slots that are lost are named
abbrev pub AllNamed : ScriptValue → List Turn → Type 0
AllNamed script [] = Unit {0}
AllNamed script (t ∷ ts) = ((role : Role) → AsNamed script (other role) ts (of role t).heard) × AllNamed script ts

-- what was lost on the way to a role
abbrev lost_to : Role → List Turn → ℕ
lost_to role [] = 0
lost_to role (t ∷ ts) = lost_to role ts + lost_in (of role t).heard

-- one turn more
grows : (losses : List Loss) (sender : Role) (n d : ℕ) → named_in losses sender (n - d) ≤ named_in losses sender (n + 1 - d)
grows losses sender n d = grind (arith)

grows-lost : (losses : List Loss) (sender : Role) (n d : ℕ) → d ≤ n → some_names sender (n - d) losses ≡ true
    → named_in losses sender (n - d) + 1 ≤ named_in losses sender (n + 1 - d)
grows-lost losses sender n d l e = grind (arith)

counts-on : (script : ScriptValue) (sender : Role) (ts : List Turn) (heard : Heard) → AsNamed script sender ts heard
    → named_in script.losses sender (length ts - delay_of script sender) + lost_in heard ≤ named_in script.losses sender
    (length ts + 1 - delay_of script sender)
counts-on script sender ts heard h = grind (arith, grows, grows-lost)

lost-named-to : (script : ScriptValue) (ts : List Turn) → AllNamed script ts → (role : Role)
    → lost_to role ts ≤ named_in script.losses (other role) (length ts - delay_of script (other role))
lost-named-to script [] h role = omega arith
lost-named-to script (t ∷ ts) h role =
    let before = lost-named-to script ts h.1 role in
    let d : ℕ = delay_of script (other role) in
    let longer : length ts + 1 ≡ length (t ∷ ts) = omega arith in
    let one = subst (λ n. named_in script.losses (other role) (length ts - d) + lost_in (of role t).heard ≤ named_in script.losses
    (other role) (n - d)) longer
    (counts-on script (other role) ts (of role t).heard (h.0 role)) in grind (arith)

lost-both : (ts : List Turn) → lost_slots ts ≡ lost_to Originator ts + lost_to Answerer ts
lost-both [] = refl
lost-both (t ∷ ts) = omega (arith, lost-both ts)

-- So no more slots are lost than the script names.
pub lost-few : (script : ScriptValue) (ts : List Turn) → AllNamed script ts → lost_slots ts ≤ slots_named script.losses
lost-few script ts h =
    let o = lost-named-to script ts h Originator in
    let a = lost-named-to script ts h Answerer in
    let both = both-named script.losses (length ts - delay_of script Originator) (length ts - delay_of script Answerer) in
    omega (arith, lost-both ts, o, a, both)
