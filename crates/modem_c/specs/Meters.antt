-- What a handle that leads to a meter stands for, and what the calls on it answer.
use Rattle.std.specs.Prelude.{◌≡◌, ◌⊎◌, ◌+◌, ◌*◌, ◌/◌, ◌^◌, ◌<◌, ◌≤◌, ℕ, ℤ, Bool, List, Option, min, IsSomeAnd}
use Rattle.scramblers.specs.declared.mode.Mode.{Mode}
use Rattle.symbol_map.specs.declared.sample.Sample.{Sample}
use Rattle.gateway.specs.Measured.{HasMeasured}
use Rattle.modem_c.specs.declared.codes.TheConstants.{DONE, LATE}
use Rattle.modem_c.specs.declared.progress.Progress.{Progress}
use Rattle.modem_c.specs.declared.meter.Reading.{Reading}
use Rattle.modem_c.specs.declared.machine.Machine.{Machine}
use Rattle.modem_c.specs.Led.{meter_in}
use Rattle.modem_c.specs.Progressed.{nothing_done}

-- a meter that has measured these bits, as a modem of this mode sends them, against these samples
abbrev pub Meters : Mode → Option Machine → List Bool → List Sample → Type 0
Meters mode led bits samples = IsSomeAnd (meter_in led) (λ it. HasMeasured mode it bits samples)

-- how many octets so many bits and parts are enough for
abbrev pub octets_in : ℕ → ℕ → ℕ
octets_in bits parts = min (bits / 8) (parts / 4)

-- What a push answers of so many bits and parts, where so many octets were measured: all that both are enough for, or none, since they are too many.
-- Nothing is written, and no line is lost.
abbrev pub MeterAnswers : ℕ → ℕ → ℕ → ℤ → Progress → Option Machine → Option Machine → Type 0
MeterAnswers measured bits parts code p old new =
    ((code ≡ DONE) × (p ≡ record { read = 8 * octets_in bits parts; written = 0; lost = 0 }) × (measured + octets_in bits parts ≤ 2 ^ 24))
    ⊎ ((code ≡ LATE) × (p ≡ nothing_done) × (new ≡ old) × (2 ^ 24 < measured + octets_in bits parts))

-- a reading where there is no meter
abbrev pub no_reading : Reading
no_reading = record { cost = 0; symbols = 0; sure = 0 }
