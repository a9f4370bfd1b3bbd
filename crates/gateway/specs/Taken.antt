-- The bits of a label that is taken.
use Rattle.std.specs.Prelude.{Bool, List, [], Option, Some, None}
use Rattle.frame_check.specs.Bits.{low_bits}
use Rattle.gateway.specs.declared.label_bits.LabelBits.{LabelBits}

abbrev pub taken_bits : Option LabelBits → List Bool
taken_bits None = []
taken_bits (Some bits) = low_bits bits.count bits.number
