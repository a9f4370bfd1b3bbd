use Rattle.std.proofs.Common.{refl}
use Rattle.modem_c.specs.Framers.FrameAlone.{Alone}
use Rattle.modem_c.proofs.framer.modem_frame_bits.Goals as goal

pub returns-in-Ok-clause-writes : goal.returns-in-Ok-clause-writes
returns-in-Ok-clause-writes c = let opens = c.in-Ok.ensures.writes in Alone opens.is_frame opens.room refl opens.within opens.bits_are
