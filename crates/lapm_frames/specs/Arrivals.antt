-- What arrives at an end.
use Rattle.lapm_frames.specs.declared.arrived.Arrived.{Arrived}
use Rattle.lapm_frames.specs.declared.arrived.Arrived.TheVariants as arrivals
use Rattle.lapm_frames.specs.declared.arrived.LentArrived.{LentArrived}
use Rattle.lapm_frames.specs.declared.arrived.LentArrived.TheVariants as lent
use Rattle.lapm_frames.specs.declared.heard.Heard.{Heard}
use Rattle.lapm_frames.specs.declared.heard.Heard.TheVariants.{Nothing, Passed, Lost, Chance}
use Rattle.lapm_frames.specs.declared.seen.Seen.TheVariants as seen
use Rattle.lapm_frames.specs.declared.sent.Sent.{Sent}
use Rattle.lapm_frames.specs.declared.sent.Sent.TheVariants as slots

-- what the hearer of a slot hears
abbrev pub arrives : Sent → Arrived
arrives slots.Mark = arrivals.Nothing
arrives slots.Odp = arrivals.Pattern seen.Odp
arrives slots.Adp = arrivals.Pattern seen.Adp
arrives slots.Flags = arrivals.Nothing
arrives (slots.Frame frame) = arrivals.Frame frame

-- what an end hears of a slot that went over the line
abbrev pub arrival : Heard → Arrived
arrival Nothing = arrivals.Nothing
arrival (Passed s) = arrives s
arrival (Lost s) = arrivals.Nothing
arrival Chance = arrivals.Nothing

-- what arrives, where a frame is lent
abbrev pub value_of : LentArrived → Arrived
value_of lent.Nothing = arrivals.Nothing
value_of (lent.Pattern seen) = arrivals.Pattern seen
value_of (lent.Frame frame) = arrivals.Frame frame.now
