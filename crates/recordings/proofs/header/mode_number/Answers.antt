use Rattle.std.proofs.Common.{sym}
use Rattle.recordings.specs.Recording.{mode_number}
use Rattle.recordings.proofs.header.mode_number.Goals as goal

pub returns-in-Quarters-Call : goal.returns-in-Quarters-Call
returns-in-Quarters-Call c = sym (λ k. mode_number (c.in-Quarters-Call.is-0 k) (c.in-Quarters-Call.is-1 k))
