use Rattle.scramblers.proofs.Names.{◌≡◌, ◌∙◌, ℕ, ◌+◌, ◌-◌, ◌/◌, ◌^◌, ap, arith, bit_at}
use Rattle.scramblers.proofs.Registers.{bit_at-rem, bit_at-quotient}
use Rattle.scramblers.proofs.register.four_before.Goals as goal

pub returns-clause-bits : goal.returns-clause-bits
returns-clause-bits c line i h low =
    let shift : ℕ = 32 - c.args.places in
    let back : shift + i ≡ 32 - (c.args.places - i) = omega (arith, c.requires.low, c.requires.high, low) in
    bit_at-rem (c.args.register / 2 ^ shift) 4 i low
    ∙ bit_at-quotient c.args.register shift i
    ∙ ap (bit_at c.args.register) back
    ∙ h.recent (c.args.places - i) (omega (arith, c.requires.low, low)) (omega (arith, c.requires.high))
