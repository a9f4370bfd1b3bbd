-- The whole octets that labels carry.
use Rattle.std.specs.Prelude.{◌≡◌, ℕ, ◌<◌, ◌≤◌, ◌^◌, Bool, List, [], ◌++◌, length, Option, Some, None}
use Rattle.frame_check.specs.Bits.{low_bits, bits_of}
use Rattle.frame_check.specs.Octets.{AreOctets}
use Rattle.recordings.specs.declared.rate.Rate.{Rate}
use Rattle.signal_commands.specs.declared.decode.octet_joiner.Bits.{Bits}
use Rattle.signal_commands.specs.Decoding.Rates.{DemodulatesAt}

-- The octets are all the whole ones that the bits begin with.
pub record AreWholeOctets (bits : List Bool) (octets : List ℕ) : Type 0 where
  pub rest : List Bool
  pub bits_are : bits ≡ bits_of octets ++ rest
  pub few : length rest < 8
  pub small : AreOctets octets

-- the labels carry these octets, and fewer than eight bits behind them
pub record Carries (rate : Rate) (tap : ℕ) (labels octets : List ℕ) : Type 0 where
  pub bits : List Bool
  pub read : DemodulatesAt rate tap labels bits
  pub whole : AreWholeOctets bits octets

-- a number of at most so many bits
abbrev pub AreFew : ℕ → Bits → Type 0
AreFew most bits = (bits.count ≤ most) × (bits.number < 2 ^ bits.count)

-- those bits, the first one lowest
abbrev pub bits_in : Bits → List Bool
bits_in bits = low_bits bits.count bits.number

-- none where none are taken
abbrev pub taken_bits : Option Bits → List Bool
taken_bits None = []
taken_bits (Some bits) = bits_in bits

-- The bits are joined to these octets, and those of the others wait.
pub record OctetsJoined (waiting : Bits) (bits : List Bool) (octets : List ℕ) : Type 0 where
  pub bits_are : bits ≡ bits_of octets ++ bits_in waiting
  pub few : waiting.count < 8
  pub small : AreOctets octets
