-- How far a text was compared with lines.
use Rattle.std.specs.Prelude.{◌≡◌, ℕ, ◌+◌, ◌*◌, ◌≤◌, List, ◌∷◌, ◌++◌, length, take, drop, Option, Some, None}
use Rattle.outside_calls.specs.Folder.{FolderState, octets_at}
use Rattle.trace_audit.specs.Differences.{text_of, LineDiffers}
use Rattle.shared_terms.specs.declared.audit_cause.AuditCause.{AuditCause}
use Rattle.trace_audit.specs.declared.comparison.Comparison.{Comparison}
use Rattle.trace_audit.specs.declared.comparison.Comparison.TheVariants.{Agrees, Differs}

-- the most octets of a trace that is audited
abbrev pub trace_limit : ℕ
trace_limit = 16777216

-- the octets of a trace, which ends at that limit for who reads it
abbrev pub audited : FolderState → List ℕ → List ℕ
audited f name = take trace_limit (octets_at f name)

-- The text has all these lines, and this behind them.
pub record HasLines (text : List ℕ) (lines : List (List ℕ)) (at count : ℕ) : Type 0 where
  pub rest : List ℕ
  pub text_is : text ≡ text_of lines ++ rest
  pub at_is : at ≡ length (text_of lines)
  pub count_is : count ≡ length lines

-- The text differs first in one of these lines.
pub record DiffersIn (text : List ℕ) (lines : List (List ℕ)) (number : ℕ) (cause : AuditCause) : Type 0 where
  pub before : List (List ℕ)
  pub line : List ℕ
  pub more : List (List ℕ)
  pub rest : List ℕ
  pub lines_is : lines ≡ before ++ line ∷ more
  pub text_is : text ≡ text_of before ++ rest
  pub number_is : number ≡ length before + 1
  pub differs : LineDiffers line rest cause

-- a text was compared with these lines so far
abbrev pub Compared : List ℕ → List (List ℕ) → Comparison → Type 0
Compared text lines (Agrees at count) = HasLines text lines at count
Compared text lines (Differs number cause) = DiffersIn text lines number cause

-- where the text is to be read on: nowhere, once it differs
abbrev pub place_of : Comparison → Option ℕ
place_of (Agrees at count) = Some at
place_of (Differs number cause) = None

-- where it is to be read on it has these octets, or more than so many, of which these are the first
abbrev pub HasWindow : List ℕ → Comparison → ℕ → List ℕ → Type 0
HasWindow text (Agrees at count) size window = window ≡ take size (drop at text)
HasWindow text (Differs number cause) size window = Unit {0}

-- at most so many lines were compared, of 161 octets each
abbrev pub IsFew : ℕ → Comparison → Type 0
IsFew n (Agrees at count) = (count ≤ n) × (at ≤ 161 * n)
IsFew n (Differs number cause) = Unit {0}
