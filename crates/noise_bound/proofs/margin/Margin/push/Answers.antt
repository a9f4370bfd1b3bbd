use Rattle.noise_bound.proofs.Names.{◌+◌, [], ◌∷◌, ◌++◌, Bool, List, refl, sym, subst, arith, bits_of, ModulatorStands, Measured}
use Rattle.noise_bound.proofs.Names.{MarginStands}
use Rattle.recordings.proofs.Octets.{bits-more}
use Rattle.noise_bound.proofs.Margins.{measures-more}
use Rattle.noise_bound.proofs.margin.Margin.push.Goals as goal

pub returns-clause-stands : goal.returns-clause-stands
returns-clause-stands c mode octets samples s =
    let old : Measured = record { modulator = c.self.inside.modulator; cost = c.self.inside.cost; count = c.self.inside.octets } in
    let here : MarginStands mode old octets samples = subst (λ (m : Measured). MarginStands mode m octets samples) (sym c.self.view_is) s in
    let one = c.push-low.ensures mode (bits_of octets) here.points here.modulator in
    let two = c.push-high.ensures mode _ _ one in
    let low = c.push-low.result in
    let high = c.push-high.result in
    let both : ModulatorStands mode c.push-high.new.self (bits_of (octets ++ c.args.octet ∷ [])) ((here.points ++ low ∷ []) ++ high ∷ []) =
    subst (λ (bits : List Bool). ModulatorStands mode c.push-high.new.self bits ((here.points ++ low ∷ []) ++ high ∷ []))
    (bits-more octets c.args.octet (omega (arith, c.ranges.octet.fits))) two in
    measures-more mode old c.push-high.new.self octets c.args.octet samples c.args.first c.args.second low high
    (c.self.inside.cost + (c.distance.result + c.distance-2.result)) (c.self.inside.octets + 1) here both
    (omega (arith, c.distance.ensures.value, c.distance-2.ensures.value)) refl
