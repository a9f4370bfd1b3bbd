use Rattle.sample_line.proofs.Names.{◌∙◌, ◌/◌, ◌%◌, nat_eq, List, Bool, [], ◌∷◌, ◌++◌, ap, subst, sym, refl, DeframerStands, low_bits}
use Rattle.sample_line.proofs.Names.{quad-bits, PiecesAreTallied, four-behind}
use Rattle.sample_line.proofs.Finding.{pieces-none, pieces-then}
use Rattle.sample_line.proofs.receiver.with_four.Goals as goal

pub returns-then-pass_four-clause-tallied : goal.returns-then-pass_four-clause-tallied
returns-then-pass_four-clause-tallied c = λ bits octets patterns h tallied.
    pieces-none c.args.slot.framing.check c.args.slot.framing.sender c.args.slot.framing.dlci c.args.slot.sent.now bits
    (bits ++ low_bits 4 c.args.four) octets
    patterns c.args.tally (c.if-pass_four.ensures.quiet refl bits h) tallied

pub returns-clause-stands : goal.returns-clause-stands
returns-clause-stands c = λ bits h.
    let b1 = bits ++ nat_eq (c.args.four % 2) 1 ∷ [] in
    let b2 = b1 ++ nat_eq (c.args.four / 2 % 2) 1 ∷ [] in
    let b3 = b2 ++ nat_eq (c.args.four / 4 % 2) 1 ∷ [] in
    let start : DeframerStands c.pass_four.new.self bits =
    subst (λ v. DeframerStands v bits) (sym (c.pass_four.ensures.stays c.if-pass_four.false)) h in
    subst (λ (xs : List Bool). DeframerStands c.with_bit.new.deframer xs)
    (four-behind bits _ _ _ _ ∙ ap (λ four. bits ++ four) (quad-bits c.args.four c.requires.four))
    (c.with_bit.ensures.stands b3 (c.with_bit-tally-3.ensures.stands b2 (c.with_bit-tally-2.ensures.stands b1
    (c.with_bit-tally.ensures.stands bits start))))

pub returns-clause-tallied : goal.returns-clause-tallied
returns-clause-tallied c = λ bits octets patterns h tallied.
    let b1 = bits ++ nat_eq (c.args.four % 2) 1 ∷ [] in
    let b2 = b1 ++ nat_eq (c.args.four / 2 % 2) 1 ∷ [] in
    let b3 = b2 ++ nat_eq (c.args.four / 4 % 2) 1 ∷ [] in
    let start : DeframerStands c.pass_four.new.self bits =
    subst (λ v. DeframerStands v bits) (sym (c.pass_four.ensures.stays c.if-pass_four.false)) h in
    let one = c.with_bit-tally.ensures.stands bits start in
    let two = c.with_bit-tally-2.ensures.stands b1 one in
    let three = c.with_bit-tally-3.ensures.stands b2 two in
    let first = c.with_bit-tally.ensures.tallied bits octets patterns start tallied in
    let second = c.with_bit-tally-2.ensures.tallied b1 _ patterns one first.tallies in
    let third = c.with_bit-tally-3.ensures.tallied b2 _ patterns two second.tallies in
    let fourth = c.with_bit.ensures.tallied b3 _ patterns three third.tallies in
    subst (λ (xs : List Bool). PiecesAreTallied c.args.slot.framing.check c.args.slot.framing.sender c.args.slot.framing.dlci
    c.args.slot.sent.now bits xs octets
    patterns c.with_bit.result)
    (four-behind bits _ _ _ _ ∙ ap (λ four. bits ++ four) (quad-bits c.args.four c.requires.four))
    (pieces-then _ _ _ _ bits b1 _ octets patterns _ _ first
    (pieces-then _ _ _ _ b1 b2 _ _ _ _ _ second (pieces-then _ _ _ _ b2 b3 _ _ _ _ _ third fourth)))
