use Rattle.gateway.proofs.Names.{◌≡◌, ◌∙◌, Result, Ok, Err, sym, subst, Arrives, Carried}
use Rattle.lapm_frames.specs.declared.frame.Frame.{Frame}
use Rattle.lapm_frames.specs.declared.fault.CheckedFault.{CheckedFault}
use Rattle.lapm_frames.specs.declared.arrived.Arrived.TheVariants as arrivals
use Rattle.gateway.proofs.turns.arrived_of.Goals as goal

err-not-ok : (fault : CheckedFault) (frame : Frame) → ◌≡◌ {A = Result Frame CheckedFault} (Err fault) (Ok frame) → ⊥
err-not-ok fault frame e = cc

pub returns-in-Err-clause-arrives : goal.returns-in-Err-clause-arrives
returns-in-Err-clause-arrives c =
    subst (λ (v : Carried). Arrives c.args.check c.args.sender v arrivals.Nothing) (sym c.in-Octets.is)
    (λ frame h. err-not-ok _ frame (sym c.in-Err.is ∙ c.read_checked.ensures.all frame h))
