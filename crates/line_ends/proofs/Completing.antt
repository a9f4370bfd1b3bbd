-- A run that the line doesn't end is done where no end gives up.
use Rattle.std.proofs.Common.{arith}
use Rattle.line_ends.proofs.Names.{CompletesUnstarved, CompletesWithFewLosses, EndsDone, FewLossesKeepLinks, GivesUp, LineEnds}
use Rattle.line_ends.proofs.Names.{LostLinksWereStarved, RunEnd, wire_of}

pub done-else : (end : RunEnd) → (GivesUp end → ⊥) → (LineEnds end → ⊥) → EndsDone end
done-else end up line = grind (arith)

pub completes-unstarved : LostLinksWereStarved → CompletesUnstarved
completes-unstarved starved script files end left h r fed line =
    done-else end (λ g. fed (starved (wire_of script) files end left h r g)) line

pub completes-with-few : FewLossesKeepLinks → CompletesWithFewLosses
completes-with-few keep script files end left h r few line = done-else end (λ g. keep (wire_of script) files end left h r few g) line
