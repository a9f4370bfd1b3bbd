-- What the folder of a soak holds, and that it never fails.
use Rattle.run_commands.proofs.Names.{◌≡◌, ◌≢◌, ◌∙◌, ℕ, nat_eq, false, List, [], length, Option, Some, sym, ap, arith, nat_tests, RunFault}
use Rattle.run_commands.proofs.Names.{FaultCounts, Files, AreApartFrom, SureState, sure_folder, HoldsFiles, soak_names, soak_file}
use Rattle.run_commands.proofs.Names.{Originator, Answerer}
use Rattle.std.proofs.Common.{get_or, unwrap_or}
use Rattle.std.specs.FinMap as finite
use Rattle.std.specs.Cmp.Lexicographic.{nat_list_cmp_total}
use Rattle.line_run.specs.Names.{inputs_of, outputs_of}
use Rattle.line_run.specs.declared.fault.RunFault.TheVariants as faults

-- lists with another number at a place are others
unequal : (x y : ℕ) → nat_eq x y ≡ false → x ≢ y
unequal x y f e = grind (arith, nat_tests, f, e)

pub differ : (at : ℕ) (a b : List ℕ) → nat_eq (get_or a at 0) (get_or b at 0) ≡ false → a ≢ b
differ at a b f e = unequal (get_or a at 0) (get_or b at 0) f (ap (λ (l : List ℕ). get_or l at 0) e)

pub apart : AreApartFrom (inputs_of soak_names) (outputs_of soak_names)
apart = grind (arith, differ)

-- both files were put into a folder
pub both-put : (s : SureState) (seed : ℕ) (held : Files) (orig answ : List ℕ)
    → s.held ≡ finite.insert (finite.insert held soak_names.orig orig) soak_names.answ answ → orig ≡ soak_file seed Originator
    → length orig ≡ 65536
    → answ ≡ soak_file seed Answerer → length answ ≡ 65536 → HoldsFiles (sure_folder s) seed
both-put s seed held orig answ e o n a m =
    let first : Files = finite.insert held soak_names.orig orig in
    let at-orig : finite.get (finite.insert first soak_names.answ answ) soak_names.orig ≡ Some orig
    = finite.get-insert nat_list_cmp_total first soak_names.answ answ soak_names.orig
    ∙ finite.get-insert nat_list_cmp_total held soak_names.orig orig soak_names.orig in
    let at-answ : finite.get (finite.insert first soak_names.answ answ) soak_names.answ ≡ Some answ =
    finite.get-insert nat_list_cmp_total first soak_names.answ answ soak_names.answ in
    record {
      orig = ap (λ (h : Files). unwrap_or (finite.get h soak_names.orig) []) e ∙ ap (λ (x : Option (List ℕ)). unwrap_or x []) at-orig ∙ o;
      answ = ap (λ (h : Files). unwrap_or (finite.get h soak_names.answ) []) e ∙ ap (λ (x : Option (List ℕ)). unwrap_or x []) at-answ ∙ a;
      orig_size = ap (λ (l : List ℕ). length l) (sym o) ∙ n;
      answ_size = ap (λ (l : List ℕ). length l) (sym a) ∙ m;
    }

-- a fault by which turns end over a folder that never fails
abbrev pub IsTurnEnd : RunFault → Type 0
IsTurnEnd faults.ReadFault = ⊥
IsTurnEnd faults.WriteFault = ⊥
IsTurnEnd fault = Unit {0}

-- so turns don't end by one
pub turn-end : (a b : SureState) (fault : RunFault) → FaultCounts (sure_folder a) (sure_folder b) soak_names fault → IsTurnEnd fault
turn-end a b fault rose = grind (arith)
