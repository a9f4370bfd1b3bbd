use Rattle.lapm_frames.proofs.Names.{ℕ, ◌∷◌, sym, subst, IfOk, address_of, FrameSpelling, Role}
use Rattle.lapm_frames.proofs.Faults.{address-short}
use Rattle.lapm_frames.proofs.spelling.read_addressed.Goals as goal

pub returns-in_default-clause-err : goal.returns-in_default-clause-err
returns-in_default-clause-err c = address-short c.args.command c.args.rest.now c.in_default.ensures.cases

pub returns-in-1-clause-ok : goal.returns-in-1-clause-ok
returns-in-1-clause-ok c =
    subst (λ r. IfOk c.read.result
    (λ frame. (sender : Role) (dlci : ℕ) → FrameSpelling frame sender dlci (address_of c.args.command sender dlci ∷ r)))
    (sym c.in-Some.ensures.cases.0) c.read.ensures.ok

pub returns-in-3-clause-ok : goal.returns-in-3-clause-ok
returns-in-3-clause-ok c =
    subst (λ r. IfOk c.read-in-3.result
    (λ frame. (sender : Role) (dlci : ℕ) → FrameSpelling frame sender dlci (address_of c.args.command sender dlci ∷ r)))
    (sym c.in-Some.ensures.cases.0) c.read-in-3.ensures.ok

pub returns-in_default-2-clause-ok : goal.returns-in_default-2-clause-ok
returns-in_default-2-clause-ok c =
    subst (λ r. IfOk c.read-in_default-2.result
    (λ frame. (sender : Role) (dlci : ℕ) → FrameSpelling frame sender dlci (address_of c.args.command sender dlci ∷ r)))
    (sym c.in-Some.ensures.cases.0) c.read-in_default-2.ensures.ok
