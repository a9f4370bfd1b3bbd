use Rattle.gateway.proofs.Names.{ℕ, ◌++◌, List, subst, at_beginning, given, Read, ReadsAs, AnyReader, DemodulatorStands}
use Rattle.rate_4800.specs.Demodulates.{DemodulatorStands as QuarterDemodulatorStands}
use Rattle.gateway.proofs.Ending.{begun-ends, quarters-end}
use Rattle.gateway.proofs.decoder.SampleDecoder.finish.Goals as goal

pub returns-in-Begun-clause-ends : goal.returns-in-Begun-clause-ends
returns-in-Begun-clause-ends c = λ line mode samples before start.
    let more = given c.put_labels.result c.put_labels.new.bits in
    begun-ends line mode c.in-Begun.reader samples before more c.finish-tail.result.0 c.finish-tail.result.1
    (c.finish-tail.ensures.least mode at_beginning samples before)
    (λ labels read. subst (λ (tail : List ℕ). Read (DemodulatorStands mode) (labels ++ tail) (before ++ more)) c.as_slice.ensures.value
    (c.put_labels.ensures.reads mode labels before read))
    (subst (λ (r : AnyReader). ReadsAs line mode r samples before) c.in-Begun.is start.reads)

pub returns-in-Quarters-clause-ends : goal.returns-in-Quarters-clause-ends
returns-in-Quarters-clause-ends c = λ line mode samples before start.
    let more = given c.put_labels-in-Quarters.result c.put_labels-in-Quarters.new.bits in
    quarters-end line mode c.in-Quarters.reader samples before more c.finish-tail-in-Quarters.result.0 c.finish-tail-in-Quarters.result.1
    (c.finish-tail-in-Quarters.ensures.least mode at_beginning samples before)
    (λ labels read. subst (λ (tail : List ℕ). Read (QuarterDemodulatorStands mode) (labels ++ tail) (before ++ more))
    c.as_slice-in-Quarters.ensures.value (c.put_labels-in-Quarters.ensures.reads mode labels before read))
    (subst (λ (r : AnyReader). ReadsAs line mode r samples before) c.in-Quarters.is start.reads)
