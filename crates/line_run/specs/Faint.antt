-- Noise that is faint, all of it together.
use Rattle.std.specs.Prelude.{ℕ, zero, suc, ◌+◌, ◌*◌, ◌<◌, unsigned_abs}
use Rattle.shared_terms.specs.declared.role.Role.{Role}
use Rattle.noise_script.specs.declared.offset.Offset.{Offset}
use Rattle.noise_script.specs.Script.{ScriptValue, offset_of}

-- the squares of an offset's parts
abbrev pub squares_of : Offset → ℕ
squares_of offset = unsigned_abs offset.re * unsigned_abs offset.re + unsigned_abs offset.im * unsigned_abs offset.im

-- those of the parts of what a script adds to so many symbols of a sender, from this one on
abbrev pub squares_from : ScriptValue → Role → ℕ → ℕ → ℕ
squares_from script sender symbol zero = 0
squares_from script sender symbol (suc count) = squares_of (offset_of script sender symbol) + squares_from script sender (symbol + 1) count

-- Of the sender's first symbols, so many, they add up to less than 2.5 squares of a map unit.
abbrev pub IsFaintBefore : ScriptValue → Role → ℕ → Type 0
IsFaintBefore script sender count = squares_from script sender 0 count < 10485760
