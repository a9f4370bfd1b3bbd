use Rattle.gateway.proofs.Names.{ℕ, ◌+◌, ◌*◌, ◌/◌, ◌%◌, ◌≡◌, get_or, nat_eq, ap, arith}
use Rattle.gateway.proofs.Encoding.{heard-four}
use Rattle.gateway.proofs.bit_groups.four_at.Goals as goal

pub returns-clause-bits : goal.returns-clause-bits
returns-clause-bits c =
    let bits = c.args.bits.now in let at = c.args.at in
    let w : ℕ = get_or bits at 0 in let x : ℕ = get_or bits (at + 1) 0 in let y : ℕ = get_or bits (at + 2) 0 in let z : ℕ = get_or bits
    (at + 3) 0 in
    let n : ℕ = w % 2 + 2 * (x % 2) + 4 * (y % 2) + 8 * (z % 2) in
    let ew : w % 2 ≡ n % 2 = omega arith in
    let ex : x % 2 ≡ n / 2 % 2 = omega arith in
    let ey : y % 2 ≡ n / 2 / 2 % 2 = omega arith in
    let ez : z % 2 ≡ n / 2 / 2 / 2 % 2 = omega arith in
    heard-four bits at _ _ _ _ (ap (λ k. nat_eq k 1) ew) (ap (λ k. nat_eq k 1) ex) (ap (λ k. nat_eq k 1) ey) (ap (λ k. nat_eq k 1) ez)
