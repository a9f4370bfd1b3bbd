use Rattle.lapm_sender.proofs.Marks.{seen-push}
use Rattle.lapm_sender.proofs.segments.Segments.push.Goals as goal

pub returns : goal.returns
returns c = rw (c.push_back.ensures.items, c.extend.ensures, c.new-info.ensures) (seen-push _ _ _ _ _ c.self.view_is c.requires.room)
