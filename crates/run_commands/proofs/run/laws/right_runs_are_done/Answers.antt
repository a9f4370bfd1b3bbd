use Rattle.run_commands.proofs.Running.Completing.{DoneLaws, completes-of}
use Rattle.run_commands.proofs.run.laws.right_runs_are_done.Goals as goal

pub returns : goal.returns
returns c =
    let laws : DoneLaws = assumption (c.one_result.ensures, c.one_answer.ensures.scripts) in
    completes-of laws
