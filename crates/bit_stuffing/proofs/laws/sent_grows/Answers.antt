use Rattle.bit_stuffing.proofs.Fill.{bits-append, phase-append}
use Rattle.bit_stuffing.proofs.laws.sent_grows.Goals as goal

pub returns : goal.returns
returns c = record { bits = λ size slots slot. bits-append size 0 slots slot; phase = λ size slots slot. phase-append size 0 slots slot }
