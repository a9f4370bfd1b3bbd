use Rattle.lapm_frames.proofs.Names.{◌≡◌, ◌+◌, ◌-◌, length, take, arith, ℕ, err_from_is_err_and}
use Rattle.std.proofs.Common.{drop, length-take, length-drop}
use Rattle.lapm_frames.proofs.Faults.{information-control, information-short, information-long}
use Rattle.lapm_frames.proofs.information.read.Goals as goal

pub returns-then-not-command-clause-err : goal.returns-then-not-command-clause-err
returns-then-not-command-clause-err c = information-control c.args.command c.args.control c.args.tail.now c.requires c.if-not-command.true

pub returns-in_default-clause-err : goal.returns-in_default-clause-err
returns-in_default-clause-err c =
    information-short c.args.command c.args.control c.args.tail.now (omega arith) c.requires c.if-not-command.false c.in_default.len_below

pub returns-in_err-fits-clause-err : goal.returns-in_err-fits-clause-err
returns-in_err-fits-clause-err c =
    let p = err_from_is_err_and c.from_residual.result c.from_residual.ensures.1 in
    let counted : 1 + length (take (length c.args.tail.now - 1) (drop 1 c.args.tail.now)) ≡ length c.args.tail.now =
    omega (arith, length-take {A = ℕ}, length-drop {A = ℕ}) in
    rw (p.1, p.2) (information-long c.args.command c.args.control c.args.tail.now
    (length (take (length c.args.tail.now - 1) (drop 1 c.args.tail.now))) c.in_err-fits.field-0.0
    (omega arith) c.requires c.if-not-command.false counted c.in_err-fits.ensures.err)
