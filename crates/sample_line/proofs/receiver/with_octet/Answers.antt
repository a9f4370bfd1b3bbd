use Rattle.sample_line.proofs.Names.{◌%◌, ◌∙◌, List, Bool, ◌++◌, subst, sym, refl, octet-fours, DeframerStands, low_bits, octet_bits}
use Rattle.sample_line.proofs.Names.{PiecesAreTallied}
use Rattle.sample_line.proofs.Finding.{pieces-none, pieces-then}
use Rattle.sample_line.proofs.receiver.with_octet.Goals as goal

pub returns-then-pass_flags-clause-tallied : goal.returns-then-pass_flags-clause-tallied
returns-then-pass_flags-clause-tallied c = λ bits octets patterns h tallied.
    pieces-none c.args.slot.framing.check c.args.slot.framing.sender c.args.slot.framing.dlci c.args.slot.sent.now bits
    (bits ++ octet_bits c.args.octet) octets patterns c.args.tally (c.if-pass_flags.ensures.quiet refl bits h) tallied

pub returns-then-pass-clause-tallied : goal.returns-then-pass-clause-tallied
returns-then-pass-clause-tallied c = λ bits octets patterns h tallied.
    let start : DeframerStands c.pass_flags.new.self bits =
    subst (λ v. DeframerStands v bits) (sym (c.pass_flags.ensures.stays c.if-pass_flags.false)) h in
    pieces-none c.args.slot.framing.check c.args.slot.framing.sender c.args.slot.framing.dlci c.args.slot.sent.now bits
    (bits ++ octet_bits c.args.octet) octets patterns c.args.tally (c.if-pass.ensures.quiet refl bits start) tallied

pub returns-clause-stands : goal.returns-clause-stands
returns-clause-stands c = λ bits h.
    let start : DeframerStands c.pass.new.self bits =
    subst (λ v. DeframerStands v bits) (sym (c.pass.ensures.stays c.if-pass.false ∙ c.pass_flags.ensures.stays c.if-pass_flags.false)) h in
    subst (λ (xs : List Bool). DeframerStands c.with_four.new.deframer xs) (octet-fours bits c.args.octet)
    (c.with_four.ensures.stands (bits ++ low_bits 4 (c.args.octet % 16)) (c.with_four-tally.ensures.stands bits start))

pub returns-clause-tallied : goal.returns-clause-tallied
returns-clause-tallied c = λ bits octets patterns h tallied.
    let half : List Bool = bits ++ low_bits 4 (c.args.octet % 16) in
    let start : DeframerStands c.pass.new.self bits =
    subst (λ v. DeframerStands v bits) (sym (c.pass.ensures.stays c.if-pass.false ∙ c.pass_flags.ensures.stays c.if-pass_flags.false)) h in
    let first = c.with_four-tally.ensures.tallied bits octets patterns start tallied in
    let second = c.with_four.ensures.tallied half _ patterns (c.with_four-tally.ensures.stands bits start) first.tallies in
    subst (λ (xs : List Bool). PiecesAreTallied c.args.slot.framing.check c.args.slot.framing.sender c.args.slot.framing.dlci
    c.args.slot.sent.now bits xs octets patterns c.with_four.result)
    (octet-fours bits c.args.octet)
    (pieces-then _ _ _ _ bits half _ octets patterns _ _ first second)
