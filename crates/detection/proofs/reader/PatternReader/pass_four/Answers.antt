use Rattle.detection.proofs.Names.{lit≤, sym, subst, ReaderStands, low_bits}
use Rattle.detection.proofs.Quiet.{none-seen}
use Rattle.detection.proofs.reader.PatternReader.pass_four.Goals as goal

pub returns-clause-quiet : goal.returns-clause-quiet
returns-clause-quiet c = λ e past h.
    let s = subst (λ v. ReaderStands v past) (sym c.self.view_is) h in
    none-seen c.behind_four-latest.result past (low_bits 4 c.args.four) (lit≤ tt) (c.behind_four-latest.ensures past s)
    (c.has_eight_ones.ensures c.if-has_eight_ones.false)
