-- What an end may hear: the numbers of a frame are below 128.
use Rattle.std.specs.Prelude.{◌<◌, IfSome}
use Rattle.lapm_frames.specs.declared.frame.Frame.{Frame}
use Rattle.lapm_frames.specs.Parts.{parts_of}
use Rattle.lapm_frames.specs.declared.arrived.Arrived.{Arrived}
use Rattle.lapm_frames.specs.declared.arrived.Arrived.TheVariants as arrivals

abbrev pub HasNumbers : Frame → Type 0
HasNumbers frame = IfSome (parts_of frame).ns (λ ns. ns < 128) × IfSome (parts_of frame).nr (λ nr. nr < 128)

abbrev pub IsNumbered : Arrived → Type 0
IsNumbered arrivals.Nothing = Unit {0}
IsNumbered (arrivals.Pattern seen) = Unit {0}
IsNumbered (arrivals.Frame frame) = HasNumbers frame
