use Rattle.sample_line.proofs.Names.{◌∙◌, ◌/◌, ◌%◌, nat_eq, List, Bool, [], ◌∷◌, ◌++◌, ap, subst, sym, refl, ReaderStands, low_bits}
use Rattle.sample_line.proofs.Names.{quad-bits, PatternsAreTallied, four-behind}
use Rattle.sample_line.proofs.Finding.{patterns-none, patterns-then}
use Rattle.sample_line.proofs.receiver.with_four_seen.Goals as goal

pub returns-then-pass_four-clause-tallied : goal.returns-then-pass_four-clause-tallied
returns-then-pass_four-clause-tallied c = λ sender dlci bits octets patterns h tallied.
    patterns-none sender dlci c.args.sent.now bits (bits ++ low_bits 4 c.args.four) octets patterns
    c.args.tally (c.if-pass_four.ensures.quiet refl bits h) tallied

pub returns-clause-stands : goal.returns-clause-stands
returns-clause-stands c = λ bits h.
    let b1 = bits ++ nat_eq (c.args.four % 2) 1 ∷ [] in
    let b2 = b1 ++ nat_eq (c.args.four / 2 % 2) 1 ∷ [] in
    let b3 = b2 ++ nat_eq (c.args.four / 4 % 2) 1 ∷ [] in
    let start : ReaderStands c.pass_four.new.self bits =
    subst (λ v. ReaderStands v bits) (sym (c.pass_four.ensures.stays c.if-pass_four.false)) h in
    subst (λ (xs : List Bool). ReaderStands c.with_bit_seen.new.reader xs)
    (four-behind bits _ _ _ _ ∙ ap (λ four. bits ++ four) (quad-bits c.args.four c.requires))
    (c.with_bit_seen.ensures.stands b3 (c.with_bit_seen-tally-3.ensures.stands b2 (c.with_bit_seen-tally-2.ensures.stands b1
    (c.with_bit_seen-tally.ensures.stands bits start))))

pub returns-clause-tallied : goal.returns-clause-tallied
returns-clause-tallied c = λ sender dlci bits octets patterns h tallied.
    let b1 = bits ++ nat_eq (c.args.four % 2) 1 ∷ [] in
    let b2 = b1 ++ nat_eq (c.args.four / 2 % 2) 1 ∷ [] in
    let b3 = b2 ++ nat_eq (c.args.four / 4 % 2) 1 ∷ [] in
    let start : ReaderStands c.pass_four.new.self bits =
    subst (λ v. ReaderStands v bits) (sym (c.pass_four.ensures.stays c.if-pass_four.false)) h in
    let one = c.with_bit_seen-tally.ensures.stands bits start in
    let two = c.with_bit_seen-tally-2.ensures.stands b1 one in
    let three = c.with_bit_seen-tally-3.ensures.stands b2 two in
    let first = c.with_bit_seen-tally.ensures.tallied sender dlci bits octets patterns start tallied in
    let second = c.with_bit_seen-tally-2.ensures.tallied sender dlci b1 octets _ one first.tallies in
    let third = c.with_bit_seen-tally-3.ensures.tallied sender dlci b2 octets _ two second.tallies in
    let fourth = c.with_bit_seen.ensures.tallied sender dlci b3 octets _ three third.tallies in
    subst (λ (xs : List Bool). PatternsAreTallied sender dlci c.args.sent.now bits xs octets patterns
    c.with_bit_seen.result)
    (four-behind bits _ _ _ _ ∙ ap (λ four. bits ++ four) (quad-bits c.args.four c.requires))
    (patterns-then _ _ _ bits b1 _ octets patterns _ _ first
    (patterns-then _ _ _ b1 b2 _ _ _ _ _ second (patterns-then _ _ _ b2 b3 _ _ _ _ _ third fourth)))
