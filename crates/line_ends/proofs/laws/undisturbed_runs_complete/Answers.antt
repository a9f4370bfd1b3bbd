use Rattle.line_ends.proofs.Undisturbed.{completes-with-few-named, completes-quiet, completes-undisturbed}
use Rattle.line_ends.proofs.laws.undisturbed_runs_complete.Goals as goal

pub returns : goal.returns
returns c =
    let few = completes-with-few-named c.unstarved_runs_complete.ensures.few_losses c.faint_runs_go_on.ensures.goes_on
    c.faint_runs_go_on.ensures.loses c.octets_are_sendable.ensures in
    let quiet = completes-quiet few in
    record { few_named = few; quiet = quiet; undisturbed = completes-undisturbed c.undisplaced_runs_have_faint_noise.ensures quiet }
