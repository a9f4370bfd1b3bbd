use Rattle.run_commands.proofs.Names.{inl, inr, ◌++◌, sym, subst, rules, stop-earlier, StopCounts, Tapes, tapes_of, FaultCountsOver}
use Rattle.run_commands.proofs.Names.{RunEnds, FaultEnds, script_of, ScriptValue, OnlyOutputs-trans, OnlyOutputs-puts, CountsStand-trans}
use Rattle.run_commands.proofs.Names.{FolderState, AreApartFrom, OnlyPuts, EndsBy, RunNames, LIMITS}
use Rattle.line_run.specs.Names as written
use Rattle.run_inputs.specs.Words.{named, inputs_of, outputs_of}
use Rattle.line_run.specs.Ends as runs
use Rattle.run_commands.proofs.Running.Runs.{apart-names, ends-creating, ends-heading, ran-to, ends-in-turn, turn-counts}
use Rattle.run_commands.proofs.run.command.run_world.Goals as goal

pub returns-in-Err-clause-ends : goal.returns-in-Err-clause-ends
returns-in-Err-clause-ends g c = λ begin b.
    let n : RunNames = named c.args.words.now in
    elim c.in-Err.ensures.err [
      | inl part ↦ inl (ends-creating LIMITS begin _ _ n (script_of c.args.world.now) b part)
      | inr (created, heads) ↦ inr (inl (ends-heading LIMITS begin _ _ n (script_of c.args.world.now) b created heads))
    ]

pub run_turns-requires-clause-apart : goal.run_turns-requires-clause-apart
run_turns-requires-clause-apart g c =
    let n : RunNames = named c.args.words.now in
    subst (λ (tapes : Tapes). AreApartFrom (written.inputs_of n.names) (written.outputs_of n.names ++ tapes_of tapes))
    (sym c.in-Ok.ensures.ok.0)
    (apart-names n (c.apart_names_differ.ensures.outputs (inputs_of n) (outputs_of n) c.requires.apart)
    (c.apart_names_differ.ensures.inputs (inputs_of n) (outputs_of n) c.requires.apart))

pub run_turns-requires-clause-created : goal.run_turns-requires-clause-created
run_turns-requires-clause-created g c = c.in-Ok.ensures.created

pub returns-in-Ok-run_turns : goal.returns-in-Ok-run_turns
returns-in-Ok-run_turns g c =
    let now : FolderState = g.F.Folder.state c.make_outputs.new.folder in
    let next : FolderState = g.F.Folder.state c.run_turns.new.folder in
    let n : RunNames = named c.args.words.now in
    let script : ScriptValue = script_of c.args.world.now in
    let turns : OnlyPuts now next (outputs_of n) =
    (subst (λ (tapes : Tapes). OnlyPuts now next (written.outputs_of n.names ++ tapes_of tapes)) c.in-Ok.ensures.ok.0
    c.in-Ok-run_turns.ensures.only) in
    record {
      ends = λ begin b.
          let end = runs.IsDone c.in-Ok-run_turns.turn in
          ran-to begin _ now next n script end (record {
            begun = b;
            creates = c.in-Ok.ensures.only;
            turns = turns;
            apart = (apart-names n (c.apart_names_differ.ensures.outputs (inputs_of n) (outputs_of n) c.requires.apart)
                (c.apart_names_differ.ensures.inputs (inputs_of n) (outputs_of n) c.requires.apart)).1;
            stand = c.in-Ok.ensures.stand;
          })
          (subst (λ (tapes : Tapes). RunEnds script next n.names tapes end) c.in-Ok.ensures.ok.0
          c.in-Ok-run_turns.ensures.run);
      only = OnlyOutputs-trans (outputs_of n) c.in-Ok.ensures.only (OnlyOutputs-puts (outputs_of n) turns);
      said = search rules;
      counts = CountsStand-trans c.in-Ok.ensures.stand c.in-Ok-run_turns.ensures.counts;
    }

pub returns-in-Err-run_turns : goal.returns-in-Err-run_turns
returns-in-Err-run_turns g c =
    let now : FolderState = g.F.Folder.state c.make_outputs.new.folder in
    let next : FolderState = g.F.Folder.state c.run_turns.new.folder in
    let n : RunNames = named c.args.words.now in
    let script : ScriptValue = script_of c.args.world.now in
    let fault = c.in-Err-run_turns.fault in
    let turns : OnlyPuts now next (outputs_of n) =
    (subst (λ (tapes : Tapes). OnlyPuts now next (written.outputs_of n.names ++ tapes_of tapes)) c.in-Ok.ensures.ok.0
    c.in-Err-run_turns.ensures.only) in
    record {
      ends = λ begin b.
          subst (EndsBy LIMITS begin next n) (sym c.stop_of.ensures)
          (ends-in-turn c.line_runs_end_soon.ensures.soon begin _ now next n script fault (record {
            begun = b;
            creates = c.in-Ok.ensures.only;
            turns = turns;
            apart = (apart-names n (c.apart_names_differ.ensures.outputs (inputs_of n) (outputs_of n) c.requires.apart)
                (c.apart_names_differ.ensures.inputs (inputs_of n) (outputs_of n) c.requires.apart)).1;
            stand = c.in-Ok.ensures.stand;
          })
          (subst (λ (tapes : Tapes). FaultCountsOver now next (written.inputs_of n.names) (written.outputs_of n.names ++ tapes_of tapes)
          fault) c.in-Ok.ensures.ok.0
          c.in-Err-run_turns.ensures.counts)
          (subst (λ (tapes : Tapes). FaultEnds script next n.names tapes fault) c.in-Ok.ensures.ok.0
          c.in-Err-run_turns.ensures.run));
      only = OnlyOutputs-trans (outputs_of n) c.in-Ok.ensures.only (OnlyOutputs-puts (outputs_of n) turns);
      said = search rules;
      counts =
          subst (StopCounts _ next (inputs_of n) (outputs_of n)) (sym c.stop_of.ensures)
          (stop-earlier _ now next (inputs_of n) (outputs_of n) _ c.in-Ok.ensures.stand
          (turn-counts now next n fault
          (subst (λ (tapes : Tapes). FaultCountsOver now next (written.inputs_of n.names) (written.outputs_of n.names ++ tapes_of tapes)
          fault) c.in-Ok.ensures.ok.0
          c.in-Err-run_turns.ensures.counts)));
    }
