-- The bits that are written into a slot.
use Rattle.std.specs.Prelude.{ℕ, ◌++◌, Bool, List}
use Rattle.frame_check.specs.Bits.{low_bits}
use Rattle.bit_stuffing.specs.declared.pen.Pen.{Pen}
use Rattle.bit_stuffing.specs.BitSlot.{line_bits}

-- the bits so far: those of the slot's quads, and those that the pen holds of the next one
abbrev pub written : Pen → List ℕ → List Bool
written pen quads = line_bits quads ++ low_bits pen.held pen.part
