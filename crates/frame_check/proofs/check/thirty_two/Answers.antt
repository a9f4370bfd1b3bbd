use Rattle.frame_check.proofs.Names.{◌++◌, generator_of, all_ones, ThirtyTwo}
use Rattle.frame_check.specs.Division.{remainder_of}
use Rattle.frame_check.proofs.Checks.{thirty_two_is}
use Rattle.frame_check.proofs.Generators.{divides32, starts32}
use Rattle.frame_check.proofs.check.thirty_two.Goals as goal

pub returns : goal.returns
unfolding remainder_of
returns c = rw c.to_le_bytes.ensures
    (thirty_two_is c.after_both-register.result (c.args.head.now ++ c.args.rest.now)
    (c.after_both-register.ensures 32 (generator_of ThirtyTwo) (all_ones 32) divides32 starts32))
