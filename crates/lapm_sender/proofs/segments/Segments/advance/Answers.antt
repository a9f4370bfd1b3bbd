use Rattle.lapm_sender.proofs.Marks.{seen-advance}
use Rattle.lapm_sender.proofs.segments.Segments.advance.Goals as goal

pub returns : goal.returns
returns c = rw (c.truncate_front.ensures, c.len.ensures.len) (seen-advance _ _ _ _ _ c.self.view_is c.requires.low c.requires.high)
