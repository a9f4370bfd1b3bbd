use Rattle.gateway.proofs.Putting.{given-four, bits-four}
use Rattle.gateway.proofs.label_bits.put_bits.Goals as goal

pub returns-clause-given : goal.returns-clause-given
returns-clause-given c = given-four c.args.out.now c.args.at c.args.bits.number c.args.bits.count c.requires.few c.requires.room

pub returns-clause-bits : goal.returns-clause-bits
returns-clause-bits c = λ are. bits-four c.args.out.now c.args.at c.args.bits.number c.args.bits.count c.requires.few c.requires.room are
