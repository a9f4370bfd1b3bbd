use Rattle.std.proofs.Common.{◌≡◌, ◌+◌, Some, None, sym, subst}
use Rattle.std.specs.Prelude.{slice_get}
use Rattle.lapm_sender.proofs.Marks.{marked-first}
use Rattle.lapm_sender.proofs.segments.Segments.least_chosen.Goals as goal

pub returns-in_err-place-clause-value : goal.returns-in_err-place-clause-value
returns-in_err-place-clause-value c =
    rw c.from_residual.ensures
    (subst (λ v. None ≡ slice_get v.chosen 0) c.self.view_is (sym (marked-first _ _ None c.in_err-place.ensures.place)))

pub returns-clause-value : goal.returns-clause-value
returns-clause-value c =
    subst (λ v. Some (c.self.inside.front + c.in_ok-place.place) ≡ slice_get v.chosen 0) c.self.view_is
    (sym (marked-first _ _ (Some c.in_ok-place.place) c.in_ok-place.ensures.place))
