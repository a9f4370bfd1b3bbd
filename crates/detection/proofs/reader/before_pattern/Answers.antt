use Rattle.detection.proofs.Names.{Bool, List, Some, None, arith, sym, subst, LeftBehind, LeftBehindOnce}
use Rattle.detection.specs.Patterns.{longest_gap}
use Rattle.detection.proofs.Readings.{none-once, some-once}
use Rattle.detection.proofs.reader.before_pattern.Goals as goal

pub returns-in_err-rest : goal.returns-in_err-rest
returns-in_err-rest c = λ width recent wide h.
    let first_one = subst (λ (l : List Bool). LeftBehind width l c.args.most recent None) c.second.ensures.bits
    (c.in_err-rest.ensures width recent (omega arith) h) in
    subst (LeftBehindOnce width c.args.seen c.args.most recent) (sym c.from_residual.ensures)
    (none-once width c.args.seen c.args.most recent first_one)

pub returns : goal.returns
returns c = λ width recent wide h.
    let later = subst (λ (l : List Bool). LeftBehind width l c.args.most recent (Some c.in_ok-rest.rest)) c.second.ensures.bits
    (c.in_ok-rest.ensures width recent (omega arith) h) in
    some-once width c.args.seen c.args.most c.in_ok-rest.rest recent c.before_character-2.result wide later
    (λ wide middle room g. subst (λ (l : List Bool). LeftBehind wide l longest_gap middle c.before_character-2.result) c.first.ensures.bits
    (c.before_character-2.ensures wide middle room g))
