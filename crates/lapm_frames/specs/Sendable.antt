-- What an end may send.
use Rattle.frame_check.specs.Octets.{AreOctets}
use Rattle.lapm_frames.specs.Frame.{IsFrame, information_of}
use Rattle.lapm_frames.specs.declared.sent.Sent.{Sent}
use Rattle.lapm_frames.specs.declared.sent.Sent.TheVariants as sent

-- a frame's numbers are below 128, and its information is at most INFO octets
abbrev pub IsSendable : Sent → Type 0
IsSendable sent.Mark = Unit {0}
IsSendable sent.Odp = Unit {0}
IsSendable sent.Adp = Unit {0}
IsSendable sent.Flags = Unit {0}
IsSendable (sent.Frame frame) = IsFrame frame × AreOctets (information_of frame)
