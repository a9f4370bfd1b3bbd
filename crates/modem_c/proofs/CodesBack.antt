-- A code that is passed on stays the same.
use Rattle.std.proofs.Common.{◌≡◌, ◌<◌, ℤ, w32, to_z, of_z, to_z-of_z, Option, subst, sym}
use lib.Signed.{mag}
use Rattle.modem_c.specs.declared.machine.Machine.{Machine}

pub code_back : (code : ℤ) → mag code < 2147483648 → to_z w32 (of_z w32 code) ≡ code
code_back code small = to_z-of_z {w = w32} {z = code} (record { sfits = small })

-- What is said of what a handle led to, of what it leads to, and of a code that is passed on.
pub handed_on : (P : Option Machine → Option Machine → ℤ → Type 0) {old new before after : Option Machine} (code : ℤ)
    → mag code < 2147483648 → old ≡ before → new ≡ after → P before after code → P old new (to_z w32 (of_z w32 code))
handed_on P {old} {new} {before} {after} code small was is h =
    subst (λ (z : ℤ). P old new z) (sym (code_back code small))
    (subst (λ (m : Option Machine). P old m code) (sym is) (subst (λ (m : Option Machine). P m after code) (sym was) h))
