use Rattle.line_tap.proofs.Cited.{◌-◌, ◌*◌, ◌∙◌, arith, ones}
use Rattle.line_tap.proofs.SameQuads.{begin-ones}
use Rattle.line_tap.proofs.candidate.carries_mark.Goals as goal

pub returns-then-begins_otherwise-clause-no : goal.returns-then-begins_otherwise-clause-no
returns-then-begins_otherwise-clause-no c = λ e same. c.begins_otherwise.ensures c.if-begins_otherwise.true (ones (4 * c.args.symbols - 8))
    (same ∙ begin-ones (4 * c.args.symbols) (omega (arith, c.requires.low)))
