use Rattle.noise_script.proofs.Names.{◌≡◌, ◌∙◌, ◌++◌, ◌∷◌, [], ℕ, zero, suc, ◌<◌, true, List, length, take, drop, get_or, ap}
use Rattle.noise_script.proofs.Names.{arith, placed, Break}
use Rattle.noise_script.proofs.draft.place_of.Goals as goal

-- a line before the first one that is later
before : (line : Break) (at : ℕ) (lines : List Break) (d : Break) → at < length lines → line.turn < (get_or lines at d).turn
    → placed line (drop at lines) ≡ line ∷ drop at lines
before line at [] d h l = absurd (omega (arith, h))
before line zero (next ∷ lines) d h l = grind (arith)
before line (suc at) (next ∷ lines) d h l = before line at lines d (omega (arith, h)) l

pub returns-then-line-next-clause-place : goal.returns-then-line-next-clause-place
returns-then-line-next-clause-place c =
    c.loop-at.invariant ∙ ap (λ rest. take c.loop-at.at c.args.breaks.now ++ rest) (before _ _ _ _ c.loop-at-test.true c.if-line-next.true)
