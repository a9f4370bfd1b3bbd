use Rattle.frame_check.proofs.Registers.{four_zeros}
use Rattle.frame_check.proofs.register.after_four.Goals as goal

pub returns : goal.returns
returns c = λ reversed h. four_zeros reversed c.args.register c.args.fours.now h
