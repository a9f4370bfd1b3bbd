use Rattle.bit_stuffing.proofs.Names.{◌%◌, ◌/◌, [], ◌∷◌, ◌++◌, length, length-append, arith, ap, ◌∙◌, line_bits, low_bits}
use Rattle.bit_stuffing.proofs.Written.{length-written, octet-written}
use Rattle.bit_stuffing.proofs.pen.Pen.octet.Goals as goal

pub push-requires-clause-room : goal.push-requires-clause-room
push-requires-clause-room c = omega (arith, c.requires, length-written c.args.self.now c.args.out.now)

pub push-requires-2-clause-room : goal.push-requires-2-clause-room
push-requires-2-clause-room c =
    omega (
      arith,
      c.requires,
      length-written c.args.self.now c.args.out.now,
      ap length c.push.ensures,
      length-append c.args.out.now (c.joined-bits.result % 16 ∷ []),
    )

pub returns : goal.returns
returns c =
    ap (λ q. line_bits q ++ low_bits c.args.self.now.held (c.joined-bits.result / 256))
    (c.push-2.ensures ∙ ap (λ q. q ++ c.joined-bits.result / 16 % 16 ∷ []) c.push.ensures)
    ∙ octet-written c.args.out.now c.args.self.now.held c.args.self.now.part c.args.octet c.joined-bits.result c.args.self.now.low
    c.joined-bits.ensures.value
