-- What a trace is beside the text of a run: the same, or one that differs from it first in some line.
use Rattle.std.specs.Prelude.{◌≡◌, ℕ, List, length, Result, Ok, Err}
use Rattle.shared_terms.specs.declared.audit_cause.AuditCause.{AuditCause}
use Rattle.trace_audit.specs.Differences.{IsCut, FirstDiffers}
use Rattle.trace_audit.specs.declared.comparison.Difference.{Difference}

-- The octets are the text, which has so many lines.
pub record IsText (text octets : List ℕ) (count : ℕ) : Type 0 where
  pub lines : List (List ℕ)
  pub cut : IsCut text lines
  pub count_is : count ≡ length lines
  pub same : octets ≡ text

-- The octets differ from the text first in that line, counted from 1, and in this.
pub record DiffersIn (text octets : List ℕ) (line : ℕ) (cause : AuditCause) : Type 0 where
  pub lines : List (List ℕ)
  pub cut : IsCut text lines
  pub first : FirstDiffers lines octets line cause

-- what is found: the number of lines, or the first difference
abbrev pub IsFound : List ℕ → List ℕ → Result ℕ Difference → Type 0
IsFound text octets (Ok count) = IsText text octets count
IsFound text octets (Err d) = DiffersIn text octets d.line d.cause

-- one of both is found at most
abbrev pub VerdictsAreOne : Type 0
VerdictsAreOne = (text octets : List ℕ) (a b : Result ℕ Difference) → IsFound text octets a → IsFound text octets b → a ≡ b
