use Rattle.frame_check.proofs.Names.{arith, ◌++◌, generator_of, all_ones, Sixteen}
use Rattle.frame_check.specs.Division.{remainder_of}
use Rattle.frame_check.proofs.Checks.{sixteen_is}
use Rattle.frame_check.proofs.Generators.{divides16, starts16}
use Rattle.frame_check.proofs.check.sixteen.Goals as goal

pub overflow_cast-register : goal.overflow_cast-register
overflow_cast-register c = let held = c.after_both-register.ensures 16 (generator_of Sixteen) (all_ones 16) divides16 starts16 in
    omega (arith, held.mirrors.low)

pub returns : goal.returns
unfolding remainder_of
returns c = rw c.to_le_bytes.ensures
    (sixteen_is c.after_both-register.result (c.args.head.now ++ c.args.rest.now)
    (c.after_both-register.ensures 16 (generator_of Sixteen) (all_ones 16) divides16 starts16))
