-- What a slot carries where an end says this in its turn.
use Rattle.std.specs.Prelude.{Some, None}
use Rattle.detection.specs.Slots.{Signal}
use Rattle.detection.specs.Slots.Signal.{PatternSlot, MarkSlot, FlagSlot}
use Rattle.gateway.specs.declared.turns.Told.{Told}
use Rattle.gateway.specs.declared.turns.Told.TheVariants as tells

abbrev pub signal_of : Told → Signal
signal_of tells.Mark = MarkSlot
signal_of tells.Flags = FlagSlot None
signal_of (tells.Pattern seen) = PatternSlot seen
signal_of (tells.Octets octets) = FlagSlot (Some octets)
