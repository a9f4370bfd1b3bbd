use Rattle.std.proofs.Common.{◌≤◌, ◌^◌, arith, lit<}
use Rattle.std.proofs.Math.Nat.{pow-le-pow_right}
use Rattle.xid_params.proofs.parameter.number.Goals as goal

pub overflow_mul-number : goal.overflow_mul-number
overflow_mul-number c =
    let few : c.loop-octet.octet-index ≤ 3 = omega arith in
    let bound : 256 ^ c.loop-octet.octet-index ≤ 256 ^ 3 = pow-le-pow_right {n = 256} (lit< tt) few in
    omega (arith, bound, c.loop-octet.invariant.small)
