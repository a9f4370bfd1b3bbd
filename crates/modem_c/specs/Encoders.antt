-- What a handle that leads to an encoder stands for, and what the calls on it answer.
use Rattle.std.specs.Prelude.{◌≡◌, ◌⊎◌, ◌+◌, ◌*◌, ◌<◌, ◌≤◌, ℕ, ℤ, Bool, List, Option, IsSomeAnd}
use Rattle.scramblers.specs.declared.mode.Mode.{Mode}
use Rattle.symbol_map.specs.declared.sample.Sample.{Sample}
use Rattle.gateway.specs.declared.any_reader.LineKind.{LineKind}
use Rattle.gateway.specs.Encoded.{HasEncoded}
use Rattle.modem_c.specs.declared.codes.TheConstants.{DONE, FULL}
use Rattle.modem_c.specs.declared.progress.Progress.{Progress}
use Rattle.modem_c.specs.declared.machine.Machine.{Machine}
use Rattle.modem_c.specs.Led.{encoder_in}

-- an encoder that has made these samples of these bits, as a modem of this mode sends them on such a line
abbrev pub Encodes : LineKind → Mode → Option Machine → List Bool → List Sample → Type 0
Encodes line mode led bits samples = IsSomeAnd (encoder_in led) (λ it. HasEncoded line mode it bits samples)

-- What a push answers of so many bits, with room for so many parts, where so many bits become a sample: fewer are left than that, or
-- there is no room for a sample more. No line is lost.
abbrev pub EncodeAnswers : ℕ → ℕ → ℕ → ℤ → Progress → Type 0
EncodeAnswers each bits room code p =
    (p.lost ≡ 0) × (((code ≡ DONE) × (bits < p.read + each)) ⊎ ((code ≡ FULL) × (p.read + each ≤ bits) × (room < 2 * p.written + 2)))
