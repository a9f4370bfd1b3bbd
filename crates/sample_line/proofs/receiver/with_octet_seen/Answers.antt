use Rattle.sample_line.proofs.Names.{◌%◌, List, Bool, ◌++◌, subst, sym, refl, octet-fours, ReaderStands, low_bits, octet_bits}
use Rattle.sample_line.proofs.Names.{PatternsAreTallied}
use Rattle.sample_line.proofs.Finding.{patterns-none, patterns-then}
use Rattle.sample_line.proofs.receiver.with_octet_seen.Goals as goal

pub returns-then-pass_octet-clause-tallied : goal.returns-then-pass_octet-clause-tallied
returns-then-pass_octet-clause-tallied c = λ sender dlci bits octets patterns h tallied.
    patterns-none sender dlci c.args.sent.now bits (bits ++ octet_bits c.args.octet) octets patterns
    c.args.tally (c.if-pass_octet.ensures.quiet refl bits h) tallied

pub returns-clause-stands : goal.returns-clause-stands
returns-clause-stands c = λ bits h.
    let start : ReaderStands c.pass_octet.new.self bits =
    subst (λ v. ReaderStands v bits) (sym (c.pass_octet.ensures.stays c.if-pass_octet.false)) h in
    subst (λ (xs : List Bool). ReaderStands c.with_four_seen.new.reader xs) (octet-fours bits c.args.octet)
    (c.with_four_seen.ensures.stands (bits ++ low_bits 4 (c.args.octet % 16)) (c.with_four_seen-tally.ensures.stands bits start))

pub returns-clause-tallied : goal.returns-clause-tallied
returns-clause-tallied c = λ sender dlci bits octets patterns h tallied.
    let half : List Bool = bits ++ low_bits 4 (c.args.octet % 16) in
    let start : ReaderStands c.pass_octet.new.self bits =
    subst (λ v. ReaderStands v bits) (sym (c.pass_octet.ensures.stays c.if-pass_octet.false)) h in
    let first = c.with_four_seen-tally.ensures.tallied sender dlci bits octets patterns start tallied in
    let second = c.with_four_seen.ensures.tallied sender dlci half octets _ (c.with_four_seen-tally.ensures.stands bits start)
    first.tallies in
    subst (λ (xs : List Bool). PatternsAreTallied sender dlci c.args.sent.now bits xs octets patterns c.with_four_seen.result)
    (octet-fours bits c.args.octet)
    (patterns-then _ _ _ bits half _ octets patterns _ _ first second)
