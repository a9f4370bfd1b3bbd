use Rattle.std.proofs.Common.{sym}
use Rattle.lapm_sender.proofs.Marks.{seen-clear, seen-none, slice_get-beyond}
use Rattle.lapm_sender.proofs.segments.Segments.drop_least.Goals as goal

pub returns-in-Some-get_mut : goal.returns-in-Some-get_mut
returns-in-Some-get_mut c = seen-clear _ _ _ _ _ _ c.self.view_is c.in-Some.ensures.place (sym c.in-Some-get_mut.ensures.value)

pub returns-in_default-get_mut : goal.returns-in_default-get_mut
returns-in_default-get_mut c = absurd (slice_get-beyond _ _ c.in_default-get_mut.ensures.value c.in-Some.ensures.within)

pub returns-in_default : goal.returns-in_default
returns-in_default c = seen-none _ _ _ _ c.self.view_is c.in_default.ensures.place
