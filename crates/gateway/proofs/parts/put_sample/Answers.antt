use Rattle.gateway.proofs.Names.{◌≡◌, ◌+◌, ◌*◌, ◌∙◌, set, rules, samples_in}
use Rattle.std.proofs.Common.{of_z, to_z, w16}
use Rattle.std.proofs.lemmas.Int.{to_z-of_z}
use mir.Val.{SFits}
use Rattle.gateway.proofs.Encoding.{samples-put}
use Rattle.gateway.proofs.parts.put_sample.Goals as goal

pub returns-clause-samples : goal.returns-clause-samples
returns-clause-samples c =
    let k = c.args.place in
    let real : SFits w16 c.args.sample.re = search rules in
    let imaginary : SFits w16 c.args.sample.im = search rules in
    let re : to_z w16 (of_z w16 c.args.sample.re) ≡ c.args.sample.re = to_z-of_z w16 c.args.sample.re real in
    let im : to_z w16 (of_z w16 c.args.sample.im) ≡ c.args.sample.im = to_z-of_z w16 c.args.sample.im imaginary in
    (λ i. samples_in (k + 1) (set (set c.args.parts.now (2 * k) (re i)) (2 * k + 1) (im i)))
    ∙ samples-put c.args.parts.now k c.args.sample c.requires
