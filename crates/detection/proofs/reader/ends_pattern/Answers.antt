use Rattle.detection.proofs.Names.{lit≤, false≢true}
use Rattle.detection.proofs.Readings.{none-twice, some-twice}
use Rattle.detection.proofs.reader.ends_pattern.Goals as goal

pub returns-in-Some : goal.returns-in-Some
returns-in-Some c = λ bits h.
    let r = some-twice c.args.seen c.in-Some.rest bits c.before_pattern-in-Some.result
    (c.in-Some.ensures 128 _ (lit≤ tt) h) c.before_pattern-in-Some.ensures in
    rw c.is_some.ensures r

pub returns-in-None : goal.returns-in-None
returns-in-None c = λ bits h.
    (λ t. absurd (false≢true t), λ p. absurd (none-twice c.args.latest c.args.seen bits (c.in-None.ensures 128 _ (lit≤ tt) h) p))
