-- One thing is found of octets beside a text.
use Rattle.trace_audit.proofs.Cited.{arith, ◌≡◌, ℕ, List, Result, Err, refl, ◌∙◌, subst, AuditCause, text_of, FirstDiffers, IsCut}
use Rattle.trace_audit.proofs.Cited.{DiffersIn, IsFound, Difference}
use Rattle.trace_audit.specs.Verdict.{IsText, VerdictsAreOne}

-- the laws of differences and of cuts
pub record VerdictLaws : Type 0 where
  pub one : (lines : List (List ℕ)) (text : List ℕ) (m n : ℕ) (c d : AuditCause) → FirstDiffers lines text m c → FirstDiffers lines text n d
      → (m ≡ n) × (c ≡ d)
  pub none : (lines : List (List ℕ)) (text : List ℕ) (n : ℕ) (c : AuditCause) → text ≡ text_of lines → FirstDiffers lines text n c → ⊥
  pub cut : (text : List ℕ) (lines others : List (List ℕ)) → IsCut text lines → IsCut text others → lines ≡ others

difference-at : ℕ → AuditCause → Result ℕ Difference
difference-at l c = Err (record { line = l; cause = c })

same-end : (l m : ℕ) (c d : AuditCause) → l ≡ m → c ≡ d → difference-at l c ≡ difference-at m d
same-end l m c d e f = rw (e, f) refl

module _ (laws : VerdictLaws) (text octets : List ℕ) where
  pub never-both : (line : ℕ) (cause : AuditCause) → octets ≡ text → DiffersIn text octets line cause → ⊥
  never-both line cause same d = laws.none d.lines octets line cause (same ∙ d.cut.text_is) d.first

  pub one-difference : (m n : ℕ) (c d : AuditCause) → DiffersIn text octets m c → DiffersIn text octets n d → (m ≡ n) × (c ≡ d)
  one-difference m n c d a b =
      let lines : a.lines ≡ b.lines = laws.cut text a.lines b.lines a.cut b.cut in
      laws.one b.lines octets m n c d (subst (λ (l : List (List ℕ)). FirstDiffers l octets m c) lines a.first) b.first

  one-count : (m n : ℕ) → IsText text octets m → IsText text octets n → m ≡ n
  one-count m n a b = grind (arith)

  one-end : (d e : Difference) → DiffersIn text octets d.line d.cause → DiffersIn text octets e.line e.cause
      → ◌≡◌ {A = Result ℕ Difference} (Err d) (Err e)
  unfolding difference-at
  one-end d e a b =
      let same = one-difference d.line e.line d.cause e.cause a b in same-end d.line e.line d.cause e.cause same.0 same.1

  one-found : (a b : Result ℕ Difference) → IsFound text octets a → IsFound text octets b → a ≡ b
  one-found a b a2 b2 = grind (arith, one-count, never-both, one-end)

pub verdicts-are-one : VerdictLaws → VerdictsAreOne
verdicts-are-one laws text octets a b h k = one-found laws text octets a b h k
