-- What labels carry that are picked up in the middle of a line.
use Rattle.std.specs.Prelude.{◌≡◌, ℕ, Bool, List, drop}
use Rattle.std.specs.List.{flat_map}
use Rattle.frame_check.specs.Bits.{low_bits}
use Rattle.scramblers.specs.Scrambles.{Descrambles}
use Rattle.trellis_tables.specs.LabelReader.{quads_of}

-- the scrambled bits behind the first quad
abbrev pub line_behind : List ℕ → List Bool
line_behind labels = flat_map (low_bits 4) (drop 1 (quads_of labels))

-- The bits that labels give: descrambled behind the first quad, without the 23 that fill the register.
pub record IsPickedUp (tap : ℕ) (labels : List ℕ) (bits : List Bool) : Type 0 where
  pub all : List Bool
  pub descrambled : Descrambles tap (line_behind labels) all
  pub bits_are : bits ≡ drop 23 all
