use Rattle.std.proofs.Common.{◌∙◌}
use Rattle.std.specs.Int.{w32}
use Rattle.std.proofs.lemmas.Int.{to_z-of_z}
use Rattle.noise_script.proofs.Sums.{same-offset}
use Rattle.noise_script.proofs.offset.drawn_offset.Goals as goal

pub returns-clause-value : goal.returns-clause-value
returns-clause-value c =
    same-offset _ _ (to_z-of_z w32 _ (record { sfits = c.drawn.type_inv }) ∙ c.drawn.ensures)
    (to_z-of_z w32 _ (record { sfits = c.drawn-2.type_inv }) ∙ c.drawn-2.ensures)
