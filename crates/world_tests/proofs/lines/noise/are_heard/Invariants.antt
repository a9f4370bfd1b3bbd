use Rattle.std.proofs.Common.{◌≡◌, List}
use Rattle.frame_check.specs.declared.sizes.TheConstants.{SLOT}
use Rattle.detection.specs.Slots.{Signal}
use Rattle.sample_line.specs.Line.{LineStands, sender_of}
use Rattle.sample_line.specs.Coder.{CoderStands}
use Rattle.world_tests.proofs.lines.noise.are_heard.Given as goal

abbrev pub invariant-loop-turn : goal.invariant-loop-turn
invariant-loop-turn l = record {
  symbols : l.line.symbols ≡ SLOT;
  coded : l.coder.writer.symbols ≡ SLOT;
  sender : sender_of l.line ≡ l.coder.sender;
  passed : l.line.passed ≡ l.turn;
  stands : (passed : List Signal) × LineStands l.line l.script passed × CoderStands l.coder passed;
}
