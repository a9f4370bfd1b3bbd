-- Saying one thing behind another.
use Rattle.command_base.proofs.Names.{IsErrOf, ◌≡◌, ◌∙◌, ℕ, List, ◌++◌, Option, Result, Err, OnErr, arith, sym, ap, append_assoc}
use Rattle.command_base.proofs.Names.{option_map, fault_status, Tells, Status, WriteFault, GoesOn-trans, KeepsName-trans, Rose-later}
use Rattle.command_base.proofs.Names.{FolderState, GoesOn, FaultsStand, OnlySays, HasCause, Said, PartlySaid, FolderFault, NoMemory}
use Rattle.std.proofs.Common.{OnOk, IfErr}

behind : (said : Option (List ℕ)) (first second : List ℕ)
    → option_map (λ s. s ++ second) (option_map (λ s. s ++ first) said) ≡ option_map (λ s. s ++ (first ++ second)) said
behind said first second = grind (arith, append_assoc)

pub Said-Said : (a b c : FolderState) (first second : List ℕ) → Said a b first → Said b c second → Said a c (first ++ second)
Said-Said a b c first second p q = q ∙ ap (option_map (λ s. s ++ second)) p ∙ behind a.said first second

-- a part of what is said is a part of what is longer
pub PartlySaid-longer : (a b : FolderState) (piece rest : List ℕ) → PartlySaid a b piece → PartlySaid a b (piece ++ rest)
PartlySaid-longer a b piece rest (part, (left, e), said) =
    (part, (left ++ rest, sym (append_assoc part left rest) ∙ ap (λ xs. xs ++ rest) e), said)

pub Said-PartlySaid : (a b c : FolderState) (first second : List ℕ) → Said a b first → PartlySaid b c second
    → PartlySaid a c (first ++ second)
Said-PartlySaid a b c first second p (part, (left, e), said) =
    (first ++ part, (left, append_assoc first part left ∙ ap (λ xs. first ++ xs) e), Said-Said a b c first part p said)

-- what holds anyway holds on a fault
pub on-err : {T E : Type 0} {P : Type 0} (r : Result T E) → P → OnErr r P
on-err r p = grind (arith)

pub on-err-map : {T E : Type 0} {P Q : Type 0} (r : Result T E) → (P → Q) → OnErr r P → OnErr r Q
on-err-map r f p = grind (arith)

pub if-err-map : {T E : Type 0} {P Q : E → Type 0} (r : Result T E) → ((e : E) → P e → Q e) → IfErr r P → IfErr r Q
if-err-map r f p = grind (arith)

pub on-ok-map : {T E : Type 0} {P Q : Type 0} (r : Result T E) → (P → Q) → OnOk r P → OnOk r Q
on-ok-map r f p = grind (arith)

-- saying more says alone
pub OnlySays-trans : {a b c : FolderState} → OnlySays a b → OnlySays b c → OnlySays a c
OnlySays-trans {a} {b} {c} p q = record {
  goes_on = GoesOn-trans p.goes_on q.goes_on;
  names = λ n. KeepsName-trans a b c n p.goes_on (p.names n) (q.names n);
  read_faults = λ n. q.read_faults n ∙ p.read_faults n;
}

-- what caused a fault in saying was counted since any earlier time
pub HasCause-earlier : {T : Type 0} (a b c : FolderState) (r : Result T FolderFault) → GoesOn a b
    → HasCause b.say_faults c.say_faults b.refusals c.refusals r → HasCause a.say_faults c.say_faults a.refusals c.refusals r
HasCause-earlier a b c r on cause = record {
  failed = λ e. Rose-later _ _ _ _ on.says (cause.failed e) (omega arith);
  memory = λ e. Rose-later _ _ _ _ on.refused (cause.memory e) (omega arith);
}

-- a line that was not said whole
pub tells-fault : (old new : FolderState) (line : List ℕ) (answer : Status) (fault : FolderFault) → OnlySays old new
    → PartlySaid old new line → HasCause {T = Unit {0}} old.say_faults new.say_faults old.refusals new.refusals (Err fault)
    → (IsErrOf {T = Unit {0}} {E = FolderFault} (Err fault) NoMemory → FaultsStand old new)
    → Tells old new line answer (fault_status WriteFault fault)
tells-fault old new line answer fault only part cause spared = grind (arith)
