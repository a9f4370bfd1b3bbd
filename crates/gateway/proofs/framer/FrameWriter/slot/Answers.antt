use Rattle.gateway.proofs.Names.{ℕ, ◌≡◌, ◌*◌, length, refl, subst, ◌∙◌, arith, Signal, slots_of, AreBits}
use Rattle.gateway.specs.Signals.{signal_of}
use Rattle.gateway.specs.SlotsWritten.{Carries}
use Rattle.gateway.proofs.Slotted.{slot-more, stands-behind, stands-more}
use Rattle.gateway.proofs.framer.FrameWriter.slot.Goals as goal

pub invariant_of-self : goal.invariant_of-self
invariant_of-self c = record {
  same = c.write_told.ensures.symbols ∙ c.args.self.now.same;
  low = c.args.self.now.low;
  high = c.args.self.now.high;
  stands = stands-more c.args.self.now.writer c.write_told.new.writer _ c.write_told.ensures.stands c.args.self.now.stands;
}

pub returns-clause-writes : goal.returns-clause-writes
returns-clause-writes c = λ symbols signals start.
    let same : c.args.self.now.writer.symbols ≡ symbols = c.args.self.now.same ∙ start.symbols_are in
    let signal : Signal = signal_of c.args.told.now in record {
      carries = subst (λ (n : ℕ). Carries n signal) start.symbols_are (c.if-not-can_carry.ensures.0 refl);
      count_is = let s = start.symbols_are in let n = c.from-count.ensures in omega (arith, n, s);
      room = let same_bits = c.put_slot.auto.bits in let s = start.symbols_are in let n =
          c.from-count.ensures in omega (arith, c.if-bits-count.false, n, s, same_bits);
      writes = record {
        symbols_are = start.symbols_are;
        stands = stands-behind c.write_told.new.writer symbols c.args.self.now.writer.symbols signals signal same
            (c.write_told.ensures.stands (slots_of (4 * symbols) signals) start.stands);
      };
      bits_are = slot-more symbols c.args.self.now.writer.symbols c.args.self.now.writer.phase signals signal c.write_told.new.out
          c.put_slot.new.bits same
          start.stands.phase_is c.write_told.ensures.count c.write_told.ensures.bits c.put_slot.ensures.given c.sent_grows.ensures.bits;
    }

pub returns-clause-bits : goal.returns-clause-bits
returns-clause-bits c =
    let whole : 4 * length c.write_told.new.out ≡ 4 * c.from-count.result = let n = c.write_told.ensures.count in
    let s = c.args.self.now.same in let count = c.from-count.ensures in omega (arith, n, s, count) in
    subst (λ (count : ℕ). AreBits count c.put_slot.new.bits) whole c.put_slot.ensures.bits
