-- What follows from several steps over one output, and over several.
use Rattle.outside_calls.proofs.Names.{◌∙◌, ℕ, List, [], ◌∷◌, refl, subst, FolderState, GoesOn, OnlyReads, OnlyWrites, OnlyOutputs}
use Rattle.std.proofs.Common.{IsTrue}
use Rattle.outside_calls.specs.Folder.{OnlySays}
use Rattle.outside_calls.proofs.Steps.{GoesOn-refl, GoesOn-trans, KeepsName-trans}
use Rattle.outside_calls.specs.Outputs.{OnlyOutput}

-- a name that is told was told before
pub told_earlier : {a b : FolderState} → GoesOn a b → (n : List ℕ) → IsTrue (b.tells n) → IsTrue (a.tells n)
told_earlier g n told = subst IsTrue (g.tells n) told

pub OnlyOutput-refl : (a : FolderState) (n : List ℕ) → OnlyOutput a a n
OnlyOutput-refl a n = record { goes_on = GoesOn-refl a; names = λ other apart told. refl; said = refl }

pub OnlyOutput-reads : {a b : FolderState} (n : List ℕ) → OnlyReads a b → OnlyOutput a b n
OnlyOutput-reads n r = record { goes_on = r.goes_on; names = λ other apart. r.names other; said = r.said }

pub OnlyOutput-writes : {a b : FolderState} (n : List ℕ) → OnlyWrites a b n → OnlyOutput a b n
OnlyOutput-writes n w = record { goes_on = w.goes_on; names = w.names; said = w.said }

pub OnlyOutput-trans : {a b c : FolderState} (n : List ℕ) → OnlyOutput a b n → OnlyOutput b c n → OnlyOutput a c n
OnlyOutput-trans {a} {b} {c} n p q = record {
  goes_on = GoesOn-trans p.goes_on q.goes_on;
  names = λ other apart. KeepsName-trans a b c other p.goes_on (p.names other apart) (q.names other apart);
  said = q.said ∙ p.said;
}

-- ---- several outputs

pub OnlyOutputs-refl : (a : FolderState) (outputs : List (List ℕ)) → OnlyOutputs a a outputs
OnlyOutputs-refl a outputs = record { goes_on = GoesOn-refl a; names = λ other apart told. refl }

pub OnlyOutputs-reads : {a b : FolderState} (outputs : List (List ℕ)) → OnlyReads a b → OnlyOutputs a b outputs
OnlyOutputs-reads outputs r = record { goes_on = r.goes_on; names = λ other apart. r.names other }

pub OnlyOutputs-says : {a b : FolderState} (outputs : List (List ℕ)) → OnlySays a b → OnlyOutputs a b outputs
OnlyOutputs-says outputs s = record { goes_on = s.goes_on; names = λ other apart. s.names other }

pub OnlyOutputs-one : {a b : FolderState} (name : List ℕ) → OnlyOutput a b name → OnlyOutputs a b (name ∷ [])
OnlyOutputs-one name o = record { goes_on = o.goes_on; names = λ other apart. o.names other apart.0 }

pub OnlyOutputs-trans : {a b c : FolderState} (outputs : List (List ℕ)) → OnlyOutputs a b outputs → OnlyOutputs b c outputs
    → OnlyOutputs a c outputs
OnlyOutputs-trans {a} {b} {c} outputs p q = record {
  goes_on = GoesOn-trans p.goes_on q.goes_on;
  names = λ other apart. KeepsName-trans a b c other p.goes_on (p.names other apart) (q.names other apart);
}
