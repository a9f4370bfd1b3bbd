use Rattle.detection.proofs.Names.{lit≤, sym, subst, ReaderStands}
use Rattle.frame_check.specs.Bits.{octet_bits}
use Rattle.detection.proofs.Quiet.{none-seen}
use Rattle.detection.proofs.reader.PatternReader.behind.Goals as goal

pub returns-else-has_eight_ones-clause-quiet : goal.returns-else-has_eight_ones-clause-quiet
returns-else-has_eight_ones-clause-quiet c = λ past h.
    let s = subst (λ v. ReaderStands v past) (sym c.self.view_is) h in
    none-seen c.behind_octet-latest.result past (octet_bits c.args.octet) (lit≤ tt) (c.behind_octet-latest.ensures past s)
    (c.has_eight_ones.ensures c.if-has_eight_ones.false)
