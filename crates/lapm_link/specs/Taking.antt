-- What the number of a frame makes of a sender's part, by what it means and by what the frame says of the end that sent it.
use Rattle.std.specs.Prelude.{ℕ, Option}
use Rattle.std.specs.Option.{option_map}
use Rattle.lapm_sender.specs.Outgoing.{Outgoing, acknowledged, rejected, replied, selected, paused_at, resumed}
use Rattle.lapm_link.specs.declared.number.Meaning.{Meaning}
use Rattle.lapm_link.specs.declared.number.Meaning.TheVariants.{Acknowledges, Replies, Rejects, Selects}
use Rattle.lapm_link.specs.declared.number.Readiness.{Readiness}
use Rattle.lapm_link.specs.declared.number.Readiness.TheVariants.{Unsaid, Ready, Busy}

-- the part behind the number; none is a bad acknowledgement
abbrev pub taken_as : Meaning → ℕ → Outgoing → Option Outgoing
taken_as Acknowledges nr o = acknowledged nr o
taken_as Replies nr o = replied nr o
taken_as Rejects nr o = rejected nr o
taken_as Selects nr o = selected nr o

-- where it was taken, the end that sent it counts as busy or no more
abbrev pub readied : Readiness → Option Outgoing → Option Outgoing
readied Unsaid after = after
readied Ready after = option_map resumed after
readied Busy after = option_map paused_at after
