use Rattle.std.proofs.Common.{◌≡◌, ◌∙◌, ap, arith, ℕ, ◌+◌, ◌*◌, List}
use Rattle.std.specs.Int.{w16}
use Rattle.std.specs.Prelude.{slice_index}
use Rattle.std.proofs.lemmas.Int.{to_z-of_z}
use Rattle.recordings.specs.Samples.{coordinate}
use Rattle.recordings.proofs.sample.sample_at.Goals as goal

pub returns : goal.returns
returns c =
    let octets : List ℕ = c.args.octets.now in
    let p : ℕ = c.args.place in
    let three : 4 * p + 2 + 1 ≡ 4 * p + 3 = omega arith in
    let re = to_z-of_z w16 c.coordinate_at.result (record { sfits = c.coordinate_at.type_inv }) ∙ c.coordinate_at.ensures in
    let im = to_z-of_z w16 c.coordinate_at-2.result (record { sfits = c.coordinate_at-2.type_inv }) ∙ c.coordinate_at-2.ensures
    ∙ ap (λ n. coordinate (slice_index octets (4 * p + 2)) (slice_index octets n)) three in
    λ i. record { re = re i; im = im i }
