use Rattle.trace_audit.proofs.Cited.{◌∙◌, sym, ap, subst, List, ℕ, ◌++◌, drop, length, Decides-eqb, OwnDiffers}
use Rattle.std.proofs.lemmas.Slice.Eq.{starts_is}
use Rattle.trace_audit.proofs.Windows.{stops-fed, goes-on, stops-within, departs, unequal, empty, full, false-no}
use Rattle.trace_audit.proofs.difference.difference.Goals as goal
use Rattle.trace_audit.proofs.difference.difference.Goals.{else-is_empty-2-via-then-is_empty-2+else-starts_with}
use Rattle.trace_audit.proofs.difference.difference.Goals.{else-is_empty-2-via-else-is_empty-2}
use Rattle.trace_audit.proofs.Frames.{same-bytes}

pub returns-then-is_empty : goal.returns-then-is_empty
returns-then-is_empty c = λ rest is_window.
    stops-fed c.args.line.now c.args.window.now rest c.requires.line c.requires.read.1.short is_window
    (sym c.cut_line.ensures.front ∙ same-bytes _ _ (sym c.eq.ensures ∙ c.if-eq.true))
    (sym c.cut_line.ensures.rest ∙ empty _ (sym c.is_empty.ensures ∙ c.if-is_empty.true))

pub returns-else-is_empty : goal.returns-else-is_empty
returns-else-is_empty c = λ rest is_window.
    goes-on c.args.line.now c.args.window.now rest c.requires.line c.requires.read.1.short is_window
    (sym c.cut_line.ensures.front ∙ same-bytes _ _ (sym c.eq.ensures ∙ c.if-eq.true))
    (λ e. full _ (sym c.is_empty.ensures ∙ c.if-is_empty.false) (c.cut_line.ensures.rest ∙ e))

pub returns-then-starts_with : goal.returns-then-starts_with
returns-then-starts_with c = λ rest is_window.
    let own : List ℕ = c.cut_line.result.0.now in
    let begins = (starts_is Decides-eqb c.args.line.now own c.starts_with.result c.starts_with.ensures.value).0 c.if-starts_with.true in
    stops-within c.args.line.now c.args.window.now rest c.requires.line c.requires.read.1.short is_window
    (drop (length own) c.args.line.now)
    (begins ∙ ap (λ (f : List ℕ). f ++ drop (length own) c.args.line.now) c.cut_line.ensures.front)
    (λ e. unequal _ _ (sym c.eq.ensures ∙ c.if-eq.false) (c.cut_line.ensures.front ∙ e))
    (sym c.cut_line.ensures.rest ∙ empty _ (sym c.is_empty-2.ensures ∙ c.if-is_empty-2.true))

pub returns : goal.returns
returns c = λ rest is_window.
    let own : List ℕ = c.cut_line.result.0.now in
    let line : List ℕ = c.args.line.now in
    let window : List ℕ = c.args.window.now in
    departs line window rest c.requires.line c.requires.read.1.short is_window c.own_differs.result
    (subst (λ (f : List ℕ). OwnDiffers line f c.own_differs.result) c.cut_line.ensures.front c.own_differs.ensures)
    (λ e. unequal _ _ (sym c.eq.ensures ∙ c.if-eq.false) (c.cut_line.ensures.front ∙ sym e))
    (λ more e b. elim c.else-is_empty-2.branch [
      | else-is_empty-2-via-then-is_empty-2+else-starts_with w ↦
          false-no w.if-starts_with.false
          ((starts_is Decides-eqb line own w.starts_with.result w.starts_with.ensures.value).1 more
          (e ∙ ap (λ (f : List ℕ). f ++ more) (sym c.cut_line.ensures.front)))
      | else-is_empty-2-via-else-is_empty-2 w ↦
          full _ (sym c.is_empty-2.ensures ∙ w.if-is_empty-2.false) (c.cut_line.ensures.rest ∙ b)
    ])
