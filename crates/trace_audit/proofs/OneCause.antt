-- A text differs from lines first in one of them, and in one part of it.
use Rattle.trace_audit.proofs.Cited.{◌≡◌, ℕ, ◌+◌, List, ◌++◌, length, sym, ap, subst, ◌∙◌, arith, ◌⊎◌, inl, inr, cases_lt, AuditCause, End}
use Rattle.trace_audit.proofs.Cited.{Spelling, text_of, StopsIn, OwnDiffers, LineDiffers, RestDiffers, FirstDiffers, LineText}
use Rattle.trace_audit.proofs.LineParts.{one-reading}
use Rattle.trace_audit.specs.Differences.{IsRead, PartsDiffer, ReadsDiffer, Departs}
use Rattle.trace_audit.proofs.Lines.{not-before, split-same, front-same}

parts-one : (a b : LineText) (c d : AuditCause) → PartsDiffer a b c → PartsDiffer a b d → c ≡ d
parts-one a b other d p q = grind (arith)

reads-one : (line own : List ℕ) (c d : AuditCause) → ReadsDiffer line own c → ReadsDiffer line own d → c ≡ d
reads-one line own c d p q =
    let right : q.right ≡ p.right = one-reading line q.right p.right q.right_is p.right_is in
    let other : q.other ≡ p.other = one-reading own q.other p.other q.other_is p.other_is in
    parts-one p.right p.other c d p.differ
    (subst (λ a. PartsDiffer a p.other d) right (subst (λ b. PartsDiffer q.right b d) other q.differ))

own-cases : (line own : List ℕ) (c : AuditCause) → OwnDiffers line own c → ((c ≡ Spelling) × (IsRead own → ⊥)) ⊎ ReadsDiffer line own c
own-cases line own other p = grind (arith)

own-one : (line own : List ℕ) (c d : AuditCause) → OwnDiffers line own c → OwnDiffers line own d → c ≡ d
own-one line own c d p q = grind (arith, own-cases, reads-one)

line-cases : (line rest : List ℕ) (c : AuditCause) → LineDiffers line rest c → ((c ≡ End) × StopsIn line rest) ⊎ Departs line rest c
line-cases line rest other p = grind (arith)

line-one : (line rest : List ℕ) (c d : AuditCause) → LineDiffers line rest c → LineDiffers line rest d → c ≡ d
line-one line rest c d p q = elim (line-cases line rest c p) [
  | inl a ↦ elim (line-cases line rest d q) [
    | inl b ↦ a.0 ∙ sym b.0
    | inr b ↦ absurd (b.stays a.1)
  ]
  | inr a ↦ elim (line-cases line rest d q) [
    | inl b ↦ absurd (a.stays b.1)
    | inr b ↦ own-one line _ c d a.own b.own
  ]
]

rest-one : (more : List (List ℕ)) (rest : List ℕ) (c d : AuditCause) → RestDiffers more rest c → RestDiffers more rest d → c ≡ d
rest-one more rest c d p q = grind (arith, line-one)

-- one first difference, and one cause
pub one-difference : (lines : List (List ℕ)) (text : List ℕ) (m n : ℕ) (c d : AuditCause) → FirstDiffers lines text m c
    → FirstDiffers lines text n d → (m ≡ n) × (c ≡ d)
one-difference lines text m n c d a b = elim (cases_lt (length a.before) (length b.before)) [
  | inl less ↦ absurd (not-before lines text m n c d a b less)
  | inr more ↦ elim (cases_lt (length b.before) (length a.before)) [
    | inl less ↦ absurd (not-before lines text n m d c b a less)
    | inr most ↦
        let same : length a.before ≡ length b.before = omega (arith, more, most) in
        let s = split-same a.before a.more b.before b.more (sym a.lines_is ∙ b.lines_is) same in
        let rest : a.rest ≡ b.rest = front-same (text_of a.before) a.rest b.rest
        (sym a.text_is ∙ b.text_is ∙ ap (λ l. text_of l ++ b.rest) (sym s.0)) in (
          a.number_is ∙ ap (λ k. k + 1) same ∙ sym b.number_is,
          rest-one a.more a.rest c d a.differs
              (subst (λ l. RestDiffers l a.rest d) (sym s.1) (subst (λ r. RestDiffers b.more r d) (sym rest) b.differs)),
        )
  ]
]
