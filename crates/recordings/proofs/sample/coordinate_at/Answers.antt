use Rattle.std.proofs.Common.{◌≡◌, ◌∙◌, ap, arith, ℕ, ◌+◌, ◌*◌}
use Rattle.std.specs.Int.{cast_signed, w16}
use Rattle.std.proofs.lemmas.Int.{to_z-of_z}
use Rattle.recordings.proofs.sample.coordinate_at.Goals as goal

two-octets : (low high : ℕ) → low + 256 * (high + 256 * 0) ≡ low + 256 * high
two-octets low high = omega arith

pub returns : goal.returns
returns c = to_z-of_z w16 c.read_i16.result (record { sfits = c.read_i16.type_inv }) ∙ c.read_i16.ensures
    ∙ ap (cast_signed w16) (two-octets _ _)
