use Rattle.lapm_frames.proofs.Names.{Ok, Err, arith, refl, SpellsFrame, Refused}
use Rattle.lapm_frames.specs.Checked.{SpellsFault}
use Rattle.lapm_frames.proofs.Checking.{all-checked, all-checked-faults, front-is}
use Rattle.lapm_frames.proofs.checked.read_checked_lent.Goals as goal
use Rattle.lapm_frames.proofs.checked.read_checked_lent.Goals.{In-Ok, In-Err}
use Rattle.frame_check.proofs.Checks.{long_enough}

pub overflow_sub-octets : goal.overflow_sub-octets
overflow_sub-octets c =
    omega (arith, c.len.ensures, long_enough c.check_heard-used.result c.args.octets.now (c.passes.ensures.0 c.if-not-passes.false))

frame_is_right : (c : In-Ok) → SpellsFrame c.args.check c.args.sender c.args.dlci c.args.octets.now c.in-Ok.frame
frame_is_right c = record {
  octets = c.split_at.result.0.now;
  passes = front-is c.args.check c.check_heard-used.result c.args.octets.now c.split_at.result.0.now c.len.result c.check_heard-used.ensures
      (c.passes.ensures.0 c.if-not-passes.false) c.len.ensures c.split_at.ensures.front;
  spelling = c.in-Ok.ensures.ok;
}

pub returns-in-Ok-clause-ok : goal.returns-in-Ok-clause-ok
returns-in-Ok-clause-ok c = frame_is_right c

pub returns-in-Ok-clause-all : goal.returns-in-Ok-clause-all
returns-in-Ok-clause-all c = all-checked c.args.check c.args.sender c.args.dlci c.args.octets.now (Ok c.in-Ok.frame) (frame_is_right c) tt

pub returns-in-Ok-clause-fault : goal.returns-in-Ok-clause-fault
returns-in-Ok-clause-fault c =
    all-checked-faults c.args.check c.args.sender c.args.dlci c.args.octets.now (Ok c.in-Ok.frame) (frame_is_right c) tt

fault_is_right : (c : In-Err) → SpellsFault c.args.check c.args.sender c.args.dlci c.args.octets.now c.in-Err.fault
fault_is_right c = record {
  octets = c.split_at.result.0.now;
  passes = front-is c.args.check c.check_heard-used.result c.args.octets.now c.split_at.result.0.now c.len.result c.check_heard-used.ensures
      (c.passes.ensures.0 c.if-not-passes.false) c.len.ensures c.split_at.ensures.front;
  is_first = (c.in-Err.ensures.fault c.in-Err.fault).0 refl;
}

pub returns-in-Err-clause-all : goal.returns-in-Err-clause-all
returns-in-Err-clause-all c =
    all-checked c.args.check c.args.sender c.args.dlci c.args.octets.now (Err (Refused c.in-Err.fault)) tt (fault_is_right c)

pub returns-in-Err-clause-fault : goal.returns-in-Err-clause-fault
returns-in-Err-clause-fault c =
    all-checked-faults c.args.check c.args.sender c.args.dlci c.args.octets.now (Err (Refused c.in-Err.fault)) tt (fault_is_right c)
