-- The samples that arrive at the other end of a line.
use Rattle.std.specs.Prelude.{◌≡◌, ℕ, ◌+◌, ℤ, pos, neg_ℤ, ◌+ℤ◌, int_lt, if◌then◌else◌, Bool, List, [], ◌∷◌}
use Rattle.scramblers.specs.Mode.{tap_of}
use Rattle.symbol_map.specs.declared.sample.Sample.{Sample}
use Rattle.line_coding.specs.Modulates.{Modulates}
use Rattle.shared_terms.specs.declared.role.Role.{Role}
use Rattle.noise_script.specs.declared.offset.Offset.{Offset}
use Rattle.noise_script.specs.Script.{ScriptValue, offset_of}
use Rattle.sample_line.specs.Mode.{mode_of}

-- a coordinate is held at the ends of 16 bits
abbrev pub saturated : ℤ → ℤ
saturated n = if int_lt n (neg_ℤ (pos 32768)) then neg_ℤ (pos 32768) else (if int_lt (pos 32767) n then pos 32767 else n)

abbrev pub displaced : Offset → Sample → Sample
displaced offset point = record { re = saturated (offset.re +ℤ point.re); im = saturated (offset.im +ℤ point.im) }

-- points with the script's offsets, the first of them at this symbol
abbrev pub displaced_from : ScriptValue → Role → ℕ → List Sample → List Sample
displaced_from script sender symbol [] = []
displaced_from script sender symbol (point ∷ points) =
    displaced (offset_of script sender symbol) point ∷ displaced_from script sender (symbol + 1) points

-- The samples of the bits that were sent: these are modulated, and each point is displaced by the script.
pub record Records (script : ScriptValue) (sender : Role) (bits : List Bool) (samples : List Sample) : Type 0 where
  pub points : List Sample
  pub modulated : Modulates (tap_of (mode_of sender)) bits points
  pub samples_are : samples ≡ displaced_from script sender 0 points
