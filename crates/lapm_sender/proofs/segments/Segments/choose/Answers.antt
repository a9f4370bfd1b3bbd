use Rattle.std.proofs.Common.{sym}
use Rattle.lapm_sender.proofs.Marks.{seen-choose, seen-within, slice_get-beyond}
use Rattle.lapm_sender.proofs.segments.Segments.choose.Goals as goal
use Rattle.lapm_sender.proofs.segments.Segments.choose.Goals.{in-Some, in_default}

pub returns : goal.returns
returns c = elim c.match-get_mut.branch [
  | in-Some w ↦ rw w.self-inside-is (seen-choose _ _ _ _ _ _ c.self.view_is c.requires.low (sym w.in-Some.ensures.value))
  | in_default w ↦ absurd
      (slice_get-beyond _ _ w.in_default.ensures.value (seen-within _ _ _ _ _ c.self.view_is c.requires.low c.requires.high))
]
