-- Where an end is in its turns.
use Rattle.std.specs.Prelude.{ℕ, ◌+◌, ◌^◌, Bool, not, ◌&&◌, if◌then◌else◌}
use Rattle.gateway.specs.declared.link.TurnState.{TurnState}

-- no end has more turns
abbrev pub most_turns : ℕ
most_turns = 2 ^ 40

-- in how many turns an end has heard
abbrev pub times_heard : TurnState → ℕ
times_heard at_turn = if at_turn.heard then at_turn.turn + 1 else at_turn.turn

-- an end hears once a turn, and only once all that it took is delivered
abbrev pub may_hear : TurnState → Bool
may_hear at_turn = not at_turn.heard && at_turn.delivered
