use Rattle.std.proofs.Common.{[]}
use Rattle.world_tests.proofs.lines.frames.becomes.Goals as goal

pub message_through-outcome-requires-clause-stands : goal.message_through-outcome-requires-clause-stands
message_through-outcome-requires-clause-stands c = ([], c.in_ok-line.ensures.stands c.args.script.now, c.new-coder.ensures.stands)
