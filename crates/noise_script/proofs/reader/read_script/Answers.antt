use Rattle.noise_script.proofs.Names.{◌≡◌, ◌⊎◌, inl, inr, ℕ, List, refl, err_from_is_err_and, ScriptSpelling, FirstFault, IsFaultOf}
use Rattle.noise_script.proofs.Names.{ScriptValue, ScriptFault, Cause}
use Rattle.noise_script.specs.declared.fault.ScriptFault.TheVariants as faults
use Rattle.noise_script.proofs.Ranges.{draft-in-limits, read-spelling}
use Rattle.noise_script.proofs.Unique.{spelling-fault, spelling-once, fault-once}
use Rattle.noise_script.proofs.reader.read_script.Goals as goal

only-memory : (text : List ℕ) (script : ScriptValue) (fault : ScriptFault) → ScriptSpelling text script → IsFaultOf text fault
    → fault ≡ faults.NoMemory
only-memory text script (faults.Line line cause) s f = absurd (spelling-fault text script line cause s f)
only-memory text script faults.NoMemory s f = refl

same-fault : (text : List ℕ) (line : ℕ) (cause : Cause) (fault : ScriptFault) → FirstFault text line cause → IsFaultOf text fault
    → (fault ≡ faults.Line line cause) ⊎ (fault ≡ faults.NoMemory)
same-fault text line cause (faults.Line at other) s f = let same = fault-once text at line other cause f s in
    inl (rw (same.number_is, same.cause_is) refl)
same-fault text line cause faults.NoMemory s f = inr refl

pub returns-in_err-draft-clause-all : goal.returns-in_err-draft-clause-all
returns-in_err-draft-clause-all c script s =
    let p = err_from_is_err_and c.from_residual.result c.from_residual.ensures.1 in
    rw (p.1, p.2) (only-memory c.args.text.now script c.in_err-draft.field-0.0 s c.in_err-draft.ensures.fault)

pub returns-in_err-draft-clause-first : goal.returns-in_err-draft-clause-first
returns-in_err-draft-clause-first c line cause s =
    let p = err_from_is_err_and c.from_residual.result c.from_residual.ensures.1 in
    rw (p.1, p.2) (same-fault c.args.text.now line cause c.in_err-draft.field-0.0 s c.in_err-draft.ensures.fault)

pub finish-requires : goal.finish-requires
finish-requires c = draft-in-limits c.args.text.now c.in_ok-draft.ensures.ok.0 c.in_ok-draft.draft c.in_ok-draft.ensures.ok.1

pub returns-clause-ok : goal.returns-clause-ok
returns-clause-ok c = read-spelling _ _ _ _ c.in_ok-draft.ensures.ok.1 c.finish.ensures

pub returns-clause-all : goal.returns-clause-all
returns-clause-all c script s = spelling-once _ _ _ (read-spelling _ _ _ _ c.in_ok-draft.ensures.ok.1 c.finish.ensures) s

pub returns-clause-first : goal.returns-clause-first
returns-clause-first c line cause s = spelling-fault _ _ _ _ (read-spelling _ _ _ _ c.in_ok-draft.ensures.ok.1 c.finish.ensures) s
