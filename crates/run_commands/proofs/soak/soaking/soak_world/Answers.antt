use Rattle.run_commands.proofs.Names.{ℕ, Ok, Err, sym, subst, Stop, Written, script_of, Creates, AreApartFrom, sure_folder, Ends}
use Rattle.line_run.specs.Names.{inputs_of, outputs_of, written}
use Rattle.line_world.specs.World.{lost_of, again_of}
use Rattle.run_commands.proofs.Soaking.Filling.{apart}
use Rattle.run_commands.proofs.Soaking.Turning.{soaked-over, ended-over}
use Rattle.run_commands.proofs.soak.soaking.soak_world.Goals as goal

pub run_turns-requires-clause-apart : goal.run_turns-requires-clause-apart
run_turns-requires-clause-apart c = subst (λ (w : Written). AreApartFrom (inputs_of w) (outputs_of w)) (sym c.soak_names.ensures) apart

pub run_turns-requires-clause-created : goal.run_turns-requires-clause-created
run_turns-requires-clause-created c =
    subst (λ (w : Written). Creates (sure_folder c.make_outputs.new.folder) (outputs_of w)) (sym c.soak_names.ensures) c.in-Ok.ensures.made

pub returns-in-Ok-run_turns : goal.returns-in-Ok-run_turns
returns-in-Ok-run_turns c = λ seed same holds.
    let turn : ℕ = c.in-Ok-run_turns.turn in
    let all = soaked-over seed c.args.folder.now c.make_outputs.new.folder c.run_turns.new.folder (script_of c.args.world.now)
    (written c.soak_names.result) turn (lost_of c.run_turns.new.world) (again_of c.run_turns.new.world)
    (record {
      script_is = same;
      names_are = c.soak_names.ensures;
      limits = c.requires.limits;
      holds = holds;
      creates = c.in-Ok.ensures.only;
      turns = c.in-Ok-run_turns.ensures.only;
    }) c.in-Ok-run_turns.ensures.tally in
    subst (λ (x : ℕ). Ends seed (Ok (record { turn = turn; lost = c.lost.result; again = x }))) (sym c.again.ensures)
    (subst (λ (x : ℕ). Ends seed (Ok (record { turn = turn; lost = x; again = again_of c.run_turns.new.world }))) (sym c.lost.ensures) all)

pub returns-in-Err-run_turns : goal.returns-in-Err-run_turns
returns-in-Err-run_turns c = λ seed same holds.
    subst (λ (stop : Stop). Ends seed (Err stop)) (sym c.soak_stop.ensures)
    (ended-over seed c.args.folder.now c.make_outputs.new.folder c.run_turns.new.folder (script_of c.args.world.now)
    (written c.soak_names.result) c.in-Err-run_turns.fault
    (record {
      script_is = same;
      names_are = c.soak_names.ensures;
      limits = c.requires.limits;
      holds = holds;
      creates = c.in-Ok.ensures.only;
      turns = c.in-Err-run_turns.ensures.only;
    }) c.in-Err-run_turns.ensures.counts c.in-Err-run_turns.ensures.run)
