-- The words of an audit, as octets.
use Rattle.std.specs.Prelude.{ℕ, List, [], ◌∷◌, Option, Some, None}
use Rattle.trace_audit.specs.declared.words.AuditWords.{AuditWords}

-- the names of an audit
pub record AuditNames : Type 0 where
  pub orig : List ℕ
  pub answ : List ℕ
  pub script : List ℕ
  pub trace : List ℕ

-- the files that are sent, and all names that are read; none is written
abbrev pub files_of : AuditNames → List (List ℕ)
files_of n = n.orig ∷ n.answ ∷ []

abbrev pub inputs_of : AuditNames → List (List ℕ)
inputs_of n = n.orig ∷ n.answ ∷ n.script ∷ n.trace ∷ []

-- the words behind `audit`: ORIG ANSW SCRIPT TRACE, and no others
abbrev pub names_of : List (List ℕ) → Option AuditNames
names_of (orig ∷ answ ∷ script ∷ trace ∷ []) = Some (record { orig = orig; answ = answ; script = script; trace = trace })
names_of words = None

abbrev pub named : AuditWords → AuditNames
named w = record { orig = w.orig.now; answ = w.answ.now; script = w.script.now; trace = w.trace.now }
