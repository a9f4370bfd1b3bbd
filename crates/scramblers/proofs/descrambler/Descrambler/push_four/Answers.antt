use Rattle.scramblers.proofs.Names.{ℕ, Bool, List, ◌++◌, sym, subst, bit_xor, xor_lt, Descrambles}
use Rattle.scramblers.proofs.Registers.{low_four}
use Rattle.scramblers.proofs.Streams.{Descrambles-four}
use Rattle.scramblers.proofs.Turning.{are-turned}
use Rattle.scramblers.proofs.descrambler.Descrambler.push_four.Goals as goal

pub returns-clause-stands : goal.returns-clause-stands
returns-clause-stands g c line output h =
    let turned = are-turned g.row.TAP c.args.four c.four_before.result c.four_before-2.result line c.requires.far
    (λ i low. c.four_before.ensures.bits line i (rw c.self.view_is h.holds) low)
    (λ i low. c.four_before-2.ensures.bits line i (rw c.self.view_is h.holds) low) in
    let sum : ℕ = bit_xor (bit_xor c.args.four c.four_before.result) c.four_before-2.result in
    record {
      descrambled = subst (λ (p : List Bool × List Bool). Descrambles g.row.TAP (line ++ p.0) (output ++ p.1))
          (λ i. (sym (low_four c.args.four) i, sym (low_four sum) i))
          (Descrambles-four g.row.TAP line output _ _ _ _ _ _ _ _ h.descrambled turned);
      holds = c.shifted_by_four-self-inside.ensures line (rw c.self.view_is h.holds);
    }

pub returns-clause-bound : goal.returns-clause-bound
returns-clause-bound g c =
    xor_lt 4 (bit_xor c.args.four c.four_before.result) c.four_before-2.result
    (xor_lt 4 c.args.four c.four_before.result c.requires.four c.four_before.ensures.bound) c.four_before-2.ensures.bound
