use Rattle.link_pair.proofs.Names.{inl, sym, subst, rules, StopCounts, EndCounts, Ends, EndsBy, run_end, script_of, end_of, Names, named}
use Rattle.link_pair.proofs.Names.{inputs_of, ScriptValue, OnlyOutputs-trans, CountsStand-trans, LIMITS}
use Rattle.outside_calls.proofs.Putting.{OnlyOutputs-puts}
use Rattle.command_base.proofs.Jobs.{stop-earlier}
use Rattle.link_pair.specs.Words.{outputs_of}
use Rattle.link_pair.proofs.Running.{apart-names, ends-creating, ran-to, ends-in-round, round-counts, ends-of, result-counts}
use Rattle.link_pair.proofs.command.run_pair.Goals as goal

pub returns-in-Err-clause-ends : goal.returns-in-Err-clause-ends
returns-in-Err-clause-ends g c = λ begin b.
    inl (ends-creating LIMITS begin (g.F.Folder.state c.args.folder.now) (g.F.Folder.state c.create_all.new.folder) (named c.args.words.now)
    (script_of c.args.pair.now) b c.in-Err.ensures.err)

pub pair_rounds-requires-clause-apart : goal.pair_rounds-requires-clause-apart
pair_rounds-requires-clause-apart g c =
    let n : Names = named c.args.words.now in
    apart-names n (c.apart_names_differ.ensures.outputs (inputs_of n) (outputs_of n) c.requires.apart)
    (c.apart_names_differ.ensures.inputs (inputs_of n) (outputs_of n) c.requires.apart)

pub returns-in-Ok-pair_rounds : goal.returns-in-Ok-pair_rounds
returns-in-Ok-pair_rounds g c =
    let end = end_of (run_end c.in-Ok-pair_rounds.endings.first) (run_end c.in-Ok-pair_rounds.endings.second) in
    let n : Names = named c.args.words.now in
    record {
      ends = λ begin b.
          let script : ScriptValue = script_of c.args.pair.now in
          subst (Ends LIMITS begin _ n) (sym c.last_turns.ensures)
          (ends-of LIMITS begin _ n end (ran-to begin _ _ _ n script end (record {
            begun = b;
            creates = c.in-Ok.ensures.only;
            rounds = c.in-Ok-pair_rounds.ensures.only;
            apart = (apart-names n (c.apart_names_differ.ensures.outputs (inputs_of n) (outputs_of n) c.requires.apart)
                (c.apart_names_differ.ensures.inputs (inputs_of n) (outputs_of n) c.requires.apart)).1;
            stand = c.in-Ok.ensures.stand;
          }) c.in-Ok-pair_rounds.ensures.ended));
      only = OnlyOutputs-trans (outputs_of n) c.in-Ok.ensures.only (OnlyOutputs-puts (outputs_of n) c.in-Ok-pair_rounds.ensures.only);
      said = search rules;
      counts =
          subst (EndCounts _ _ (inputs_of n) (outputs_of n)) (sym c.last_turns.ensures)
          (result-counts _ _ (inputs_of n) (outputs_of n) end
          (CountsStand-trans c.in-Ok.ensures.stand c.in-Ok-pair_rounds.ensures.counts));
    }

pub returns-in-Err-pair_rounds : goal.returns-in-Err-pair_rounds
returns-in-Err-pair_rounds g c =
    let n : Names = named c.args.words.now in
    let fault = c.in-Err-pair_rounds.fault in
    record {
      ends = λ begin b.
          let script : ScriptValue = script_of c.args.pair.now in
          subst (EndsBy LIMITS begin _ n) (sym c.stop_of.ensures)
          (ends-in-round c.line_runs_end_soon.ensures.soon begin _ _ _ n script fault (record {
            begun = b;
            creates = c.in-Ok.ensures.only;
            rounds = c.in-Err-pair_rounds.ensures.only;
            apart = (apart-names n (c.apart_names_differ.ensures.outputs (inputs_of n) (outputs_of n) c.requires.apart)
                (c.apart_names_differ.ensures.inputs (inputs_of n) (outputs_of n) c.requires.apart)).1;
            stand = c.in-Ok.ensures.stand;
          }) c.in-Err-pair_rounds.ensures.counts c.in-Err-pair_rounds.ensures.fault);
      only = OnlyOutputs-trans (outputs_of n) c.in-Ok.ensures.only (OnlyOutputs-puts (outputs_of n) c.in-Err-pair_rounds.ensures.only);
      said = search rules;
      counts =
          subst (StopCounts _ _ (inputs_of n) (outputs_of n)) (sym c.stop_of.ensures)
          (stop-earlier _ _ _ (inputs_of n) (outputs_of n) _ c.in-Ok.ensures.stand
          (round-counts _ _ n fault c.in-Err-pair_rounds.ensures.counts));
    }
