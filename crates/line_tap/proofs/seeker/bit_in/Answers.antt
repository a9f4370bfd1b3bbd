use Rattle.line_tap.proofs.Cited.{◌≡◌, ◌∙◌, ◌+◌, ◌*◌, ◌/◌, ◌%◌, ◌^◌, ◌<◌, ℕ, nat_eq, length, slice_index, sym, ap, arith, line_bits, bit_of}
use Rattle.frame_check.proofs.BitLists.{get_or-low_bits}
use Rattle.std.specs.Prelude.{false}
use Rattle.line_tap.proofs.FoundSent.{bit-in}
use Rattle.line_tap.proofs.seeker.bit_in.Goals as goal

pub returns : goal.returns
returns c =
    let k : ℕ = c.args.place / 4 in
    let r : ℕ = c.args.place % 4 in
    let place : 4 * k + r ≡ c.args.place = omega arith in
    let within : k < length c.args.slot.now = omega (arith, c.requires) in
    let low : r < 4 = omega arith in
    ap (λ quad. nat_eq (quad / 2 ^ r % 2) 1) c.quad.ensures.value
    ∙ sym (get_or-low_bits 4 (slice_index c.args.slot.now k) r false low)
    ∙ sym (bit-in k r c.args.slot.now within low) ∙ ap (bit_of (line_bits c.args.slot.now)) place
