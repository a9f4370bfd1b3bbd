use Rattle.sample_line.proofs.Names.{◌∙◌, ◌+◌, map, Result, Err, sym, ap, subst, err_from_is_err_and, signal_bits, Lost, Heard, IsCodedAs}
use Rattle.sample_line.proofs.Names.{Kept, LineStands, Passes, bits_behind, sender_of, size_of, LosesAmong, LosesWithin, Role, point_of}
use Rattle.sample_line.proofs.Passing.{kept, slot-passes, lost-within}
use Rattle.sample_line.proofs.line.Line.hear.Goals as goal

pub returns-in_err-tally-clause-passes : goal.returns-in_err-tally-clause-passes
returns-in_err-tally-clause-passes c = λ passed signal h coded.
    let p = err_from_is_err_and c.from_residual.result c.from_residual.ensures.1 in
    let line : Kept = kept c.self.inside.symbols c.self.inside.passed c.self.inside.path in
    let new : Kept = kept c.self.inside.symbols (c.self.inside.passed + 1) c.pass.new.self in
    let stands = subst (λ (k : Kept). LineStands k c.args.script.now passed) (sym c.self.view_is) h in
    let coded-as = subst (λ (k : Kept). IsCodedAs (sender_of k) (size_of k) passed signal c.args.labels.now) (sym c.self.view_is) coded in
    let lost = c.in_err-tally.ensures.passes stands.points stands.read stands.carries in
    subst (λ (r : Result Heard Lost). Passes new c.args.script.now passed signal c.args.check c.args.dlci c.args.loses c.args.sent r)
    (sym (p.1 ∙ ap Err p.2))
    (subst (λ (r : Role). LosesWithin r c.args.script.now (signal_bits (size_of line) passed) (bits_behind (size_of line) passed signal)
    c.in_err-tally.field-0.0.symbol) (sym c.pass.ensures.sender)
    (lost-within c.args.script.now (sender_of line) (size_of line) passed signal c.args.labels.now stands.points
    c.in_err-tally.field-0.0.symbol
    stands.modulated coded-as
    (subst (λ (r : Role). LosesAmong r c.args.script.now stands.points (map point_of c.args.labels.now) c.in_err-tally.field-0.0.symbol)
    c.pass.ensures.sender lost)))

pub returns-clause-passes : goal.returns-clause-passes
returns-clause-passes c = λ passed signal h coded.
    let line : Kept = kept c.self.inside.symbols c.self.inside.passed c.self.inside.path in
    let stands = subst (λ (k : Kept). LineStands k c.args.script.now passed) (sym c.self.view_is) h in
    let coded-as = subst (λ (k : Kept). IsCodedAs (sender_of k) (size_of k) passed signal c.args.labels.now) (sym c.self.view_is) coded in
    slot-passes c.args.script.now line c.pass.new.self passed signal c.args.check c.args.dlci c.args.loses c.args.sent c.args.labels.now
    c.in_ok-tally.tally c.outcome.result stands coded-as c.pass.ensures.sender
    (c.in_ok-tally.ensures.passes stands.points stands.read stands.carries) c.in_ok-tally.ensures.lost
    c.in_ok-tally.ensures.pending (c.outcome.ensures (sender_of line) c.args.dlci)
