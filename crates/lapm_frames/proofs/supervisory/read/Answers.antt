use Rattle.lapm_frames.proofs.Names.{◌∙◌, sym, err_from_is_err_and}
use Rattle.lapm_frames.proofs.Faults.{supervisory-control, supervisory-numbers}
use Rattle.lapm_frames.proofs.KindOctets.{none-supervisory, has-supervisory}
use Rattle.lapm_frames.proofs.supervisory.read.Goals as goal

pub returns-in_default-clause-err : goal.returns-in_default-clause-err
returns-in_default-clause-err c =
    supervisory-control c.args.command c.args.control c.args.tail.now c.requires
    (none-supervisory c.args.control (sym c.with_control.ensures ∙ c.in_default.is))

pub returns-in_err-nr-clause-err : goal.returns-in_err-nr-clause-err
returns-in_err-nr-clause-err c =
    let p = err_from_is_err_and c.from_residual.result c.from_residual.ensures.1 in
    rw (p.1, p.2) (supervisory-numbers c.args.command c.args.control c.args.tail.now _ c.in_err-nr.field-0.0
    (has-supervisory c.in-Some.kind c.args.control c.args.command (sym c.with_control.ensures ∙ c.in-Some.is) c.requires)
    c.requires c.in_err-nr.ensures.err)
