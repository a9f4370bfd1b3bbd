use Rattle.std.proofs.Common.{refl}
use Rattle.sample_line.specs.Packed.{labels_in}
use Rattle.sample_line.proofs.label_slot.LabelSlot.new.Goals as goal

pub returns : goal.returns
unfolding labels_in
returns c = refl
