-- What a tap answers.
use Rattle.std.specs.Prelude.{Option, Some, None}
use Rattle.line_tap.specs.Ends.{TapEnd}
use Rattle.line_tap.specs.Ends as ends
use Rattle.command_base.specs.declared.status.Status.{Status}
use Rattle.command_base.specs.declared.status.Status.TheVariants.{Done, LineLost, ChanceMatch, BadTap}

-- the answer to how the reading ends
abbrev pub answer_of : TapEnd → Status
answer_of (ends.IsDone turns) = Done
answer_of (ends.LineLost role symbol) = LineLost role symbol
answer_of (ends.ChanceMatch role turn) = ChanceMatch role turn
answer_of (ends.BadTap role turn) = BadTap role turn

-- how the reading ended to which this is the answer, where it isn't done; the answer of one that is names no number of turns
abbrev pub stop_by : Status → Option TapEnd
stop_by (LineLost role symbol) = Some (ends.LineLost role symbol)
stop_by (ChanceMatch role turn) = Some (ends.ChanceMatch role turn)
stop_by (BadTap role turn) = Some (ends.BadTap role turn)
stop_by answer = None
