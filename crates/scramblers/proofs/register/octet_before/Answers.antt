use Rattle.scramblers.proofs.Names.{◌∙◌, ◌-◌, ◌/◌, ◌^◌}
use Rattle.scramblers.proofs.Registers.{bit_at-rem, bit_at-quotient}
use Rattle.scramblers.proofs.register.octet_before.Goals as goal

pub returns : goal.returns
returns c i low = bit_at-rem (c.args.line / 2 ^ (32 - c.args.places)) 8 i low ∙ bit_at-quotient c.args.line (32 - c.args.places) i
