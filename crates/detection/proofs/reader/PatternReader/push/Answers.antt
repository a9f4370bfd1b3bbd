use Rattle.detection.proofs.Names.{ℕ, Bool, List, [], ◌∷◌, ◌++◌, sym, ◌∙◌, subst, false≢true, IsSeen, ReaderStands}
use Rattle.std.proofs.Common.{rules}
use Rattle.detection.proofs.Registers.{reader-shifted}
use Rattle.detection.proofs.Answered.{seen-none, seen-once}
use Rattle.detection.proofs.reader.PatternReader.push.Goals as goal
use Rattle.detection.proofs.reader.PatternReader.push.Goals.{then-ends_pattern, else-ends_pattern+then-ends_pattern-2}
use Rattle.detection.proofs.reader.PatternReader.push.Goals.{else-ends_pattern+else-ends_pattern-2}

pub returns-clause-stands : goal.returns-clause-stands
returns-clause-stands c =
    λ past h. reader-shifted c.self.inside.latest c.from.result past c.args.bit (search rules)
    (subst (λ (n : ℕ). ReaderStands n past) (sym c.self.view_is) h)

pub returns-clause-answer : goal.returns-clause-answer
returns-clause-answer c = λ past h.
    let bits : List Bool = past ++ c.args.bit ∷ [] in
    let stands = returns-clause-stands c past h in
    elim c.if-ends_pattern.branch [
      | then-ends_pattern w ↦ subst (IsSeen bits) (sym w.result-is) ((c.ends_pattern.ensures bits stands).0 w.if-ends_pattern.true)
      | else-ends_pattern+then-ends_pattern-2 w ↦
          subst (IsSeen bits) (sym w.result-is) ((w.ends_pattern-else-ends_pattern.ensures bits stands).0 w.if-ends_pattern-2.true)
      | else-ends_pattern+else-ends_pattern-2 w ↦ subst (IsSeen bits) (sym w.result-is)
          (seen-none bits
          (λ p. false≢true (sym w.if-ends_pattern.false ∙ (c.ends_pattern.ensures bits stands).1 p))
          (λ p. false≢true (sym w.if-ends_pattern-2.false ∙ (w.ends_pattern-else-ends_pattern.ensures bits stands).1 p)))
    ]

pub returns-clause-value : goal.returns-clause-value
returns-clause-value c = λ past h. seen-once (past ++ c.args.bit ∷ []) c.if-ends_pattern.result (returns-clause-answer c past h)
