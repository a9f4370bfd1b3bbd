use Rattle.signal_commands.proofs.Names.{◌≡◌, ◌+◌, ◌-◌, ◌≤◌, ◌<◌, ◌^◌, ℕ, subst, sym, arith, OctetsJoined, Bits}
use Rattle.signal_commands.proofs.Decoding.Joined.{rest-small, joined-octet}
use Rattle.signal_commands.proofs.decode.octet_joiner.OctetJoiner.push.Goals as goal

pub invariant_of-self-2 : goal.invariant_of-self-2
invariant_of-self-2 c =
    let n : ℕ = c.joined-number.result in
    let count : ℕ = c.self.inside.waiting.count + c.args.bits.count in
    let many : 8 ≤ count = omega (arith, c.if-count-lt8.false) in
    let size : count ≡ 8 + (count - 8) = omega arith in
    let small : n < 2 ^ (8 + (count - 8)) = subst (λ (k : ℕ). n < 2 ^ k) size c.joined-number.ensures.small in
    (omega (arith, c.self.invariant.0, c.requires.0), rest-small (count - 8) n small)

pub returns-clause-joined : goal.returns-clause-joined
returns-clause-joined c before octets joined =
    let j = subst (λ (waiting : Bits). OctetsJoined waiting before octets) (sym c.self.view_is) joined in
    let made = c.joined-number.ensures in
    joined-octet c.self.inside.waiting c.args.bits before octets c.joined-number.result made.bits made.small c.requires.0
    (omega (arith, c.if-count-lt8.false)) j
