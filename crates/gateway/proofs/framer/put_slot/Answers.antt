use Rattle.gateway.proofs.Names.{ℕ, ◌<◌, ◌++◌, ◌+◌, ◌*◌, ◌≡◌, length, ◌∙◌, ap, subst, arith, low_bits, given, AreBits}
use Rattle.gateway.proofs.Slotted.{quad-more}
use Rattle.gateway.proofs.framer.put_slot.Goals as goal

pub loop-place-preserved : goal.loop-place-preserved
loop-place-preserved c = let place = c.loop-place.place in let slot = c.args.slot.now in
    let within : place < length slot = subst (λ (n : ℕ). place < n) c.len-place-end.ensures.count c.loop-place-test.true in
    let next : c.put_bits.result ≡ 4 * (place + 1) = omega (arith, c.put_bits.ensures.next) in
    record {
      same = c.put_bits.ensures.length ∙ c.loop-place.invariant.same;
      bits = subst (λ (count : ℕ). AreBits count c.put_bits.new.out) next (c.put_bits.ensures.bits c.loop-place.invariant.bits);
      put = quad-more slot c.loop-place.bits c.put_bits.new.out place c.put_bits.result within c.loop-place.invariant.put
          (c.put_bits.ensures.given ∙ ap (λ (quad : ℕ). given (4 * place) c.loop-place.bits ++ low_bits 4 quad) c.quad.ensures.value);
    }
