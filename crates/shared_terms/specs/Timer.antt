-- Timers that count turns.
use Rattle.std.specs.Prelude.{ℕ, ◌+◌, ◌-◌, ◌*◌, Bool, nat_eq}

-- A timer that was set in a turn expires one period later, in that turn alone.
abbrev pub expires : ℕ → ℕ → ℕ → Bool
expires set period turn = nat_eq turn (set + period)

-- how many turns an end waits in all, that asks once and then as often as it has tries
abbrev pub wait : ℕ → ℕ → ℕ
wait tries period = (tries + 1) * period

-- the turn in which that wait began, where it is over in this turn
abbrev pub waited_since : ℕ → ℕ → ℕ → ℕ
waited_since tries period turn = turn - wait tries period
