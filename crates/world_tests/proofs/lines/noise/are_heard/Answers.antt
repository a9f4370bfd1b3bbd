use Rattle.std.proofs.Common.{[], ◌∙◌, sym}
use Rattle.world_tests.proofs.lines.noise.are_heard.Goals as goal

pub loop-turn-init : goal.loop-turn-init
loop-turn-init c = record {
  symbols = c.in_ok-line.ensures.symbols;
  coded = c.new-coder.ensures.symbols;
  sender = c.in_ok-line.ensures.sender ∙ sym c.new-coder.ensures.sender;
  passed = c.in_ok-line.ensures.passed;
  stands = ([], c.in_ok-line.ensures.stands c.args.script.now, c.new-coder.ensures.stands);
}
