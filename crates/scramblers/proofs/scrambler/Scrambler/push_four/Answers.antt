use Rattle.scramblers.proofs.Names.{ℕ, Bool, List, ◌++◌, sym, subst, bit_xor, xor_lt, Scrambles}
use Rattle.scramblers.proofs.Registers.{low_four}
use Rattle.scramblers.proofs.Streams.{Scrambles-four}
use Rattle.scramblers.proofs.Turning.{are-turned}
use Rattle.scramblers.proofs.scrambler.Scrambler.push_four.Goals as goal

pub shifted_by_four-self-inside-requires : goal.shifted_by_four-self-inside-requires
shifted_by_four-self-inside-requires g c =
    xor_lt 4 (bit_xor c.args.four c.four_before.result) c.four_before-2.result
    (xor_lt 4 c.args.four c.four_before.result c.requires.four c.four_before.ensures.bound) c.four_before-2.ensures.bound

pub returns-clause-stands : goal.returns-clause-stands
returns-clause-stands g c input line h =
    let turned = are-turned g.row.TAP c.args.four c.four_before.result c.four_before-2.result line c.requires.far
    (λ i low. c.four_before.ensures.bits line i (rw c.self.view_is h.holds) low)
    (λ i low. c.four_before-2.ensures.bits line i (rw c.self.view_is h.holds) low) in
    let sum : ℕ = bit_xor (bit_xor c.args.four c.four_before.result) c.four_before-2.result in
    record {
      scrambled = subst (λ (p : List Bool × List Bool). Scrambles g.row.TAP (input ++ p.0) (line ++ p.1))
          (λ i. (sym (low_four c.args.four) i, sym (low_four sum) i))
          (Scrambles-four g.row.TAP input line _ _ _ _ _ _ _ _ h.scrambled turned);
      holds = c.shifted_by_four-self-inside.ensures line (rw c.self.view_is h.holds);
    }

pub returns-clause-bound : goal.returns-clause-bound
returns-clause-bound g c =
    xor_lt 4 (bit_xor c.args.four c.four_before.result) c.four_before-2.result
    (xor_lt 4 c.args.four c.four_before.result c.requires.four c.four_before.ensures.bound) c.four_before-2.ensures.bound
