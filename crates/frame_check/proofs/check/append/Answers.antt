use Rattle.frame_check.proofs.Checks.{with_check-is}
use Rattle.frame_check.proofs.check.append.Goals as goal

pub returns-clause-checked : goal.returns-clause-checked
returns-clause-checked g c =
    rw (c.extend.ensures, c.as_slice-2.ensures.items, c.check_octets-check_octets.ensures.value, c.as_slice.ensures.items)
    (with_check-is c.args.check c.args.octets.now)
