use Rattle.trace_audit.proofs.Cited.{Result, ℕ, [], sym, subst, stop-earlier, EndCounts, Stop, Written, written, script_of, ScriptValue}
use Rattle.trace_audit.proofs.Cited.{OnlyReads-trans, CountsStand-trans, FolderState, RunIs, audit_inputs}
use Rattle.trace_audit.proofs.Running.{end-few, ends-so, stops-so, found-counts, trace-counts}
use Rattle.trace_audit.proofs.turns.audit_world.Goals as goal

pub end-requires : goal.end-requires
end-requires g c =
    record {
      few = end-few c.audit_turns.new.world (g.F.Folder.state c.audit_turns.new.folder) (g.F.Folder.state c.audit_turns.new.folder)
          (written c.args.names.now) c.args.trace.now c.in-Ok.comparison c.in-Ok.ensures.compared;
    }

pub returns-in-Err-clause-run : goal.returns-in-Err-clause-run
returns-in-Err-clause-run g c =
    stops-so (script_of c.args.world.now) (g.F.Folder.state c.audit_turns.new.folder) (written c.args.names.now) c.args.trace.now
    c.in-Err.stop c.in-Err.ensures.stops

pub returns-in-Ok-read_on : goal.returns-in-Ok-read_on
returns-in-Ok-read_on g c =
    let new : FolderState = g.F.Folder.state c.read_on.new.folder in
    record {
      run =
          let n : Written = written c.args.names.now in
          let script : ScriptValue = script_of c.args.world.now in
          subst (λ (r : Result ℕ Stop). RunIs script new n c.args.trace.now r) (sym c.found_end.ensures)
          (ends-so c.audit_turns.new.world _ new n c.args.trace.now c.in-Ok.comparison c.in-Ok.ensures.compared script _ c.end.result
          c.audit_turns.ensures.script c.requires.apart c.read_on.ensures.reads c.in-Ok-read_on.ensures.window c.end.ensures);
      reads = OnlyReads-trans c.audit_turns.ensures.reads c.read_on.ensures.reads;
      counts =
          let old : FolderState = g.F.Folder.state c.args.folder.now in
          let inputs = audit_inputs (written c.args.names.now) c.args.trace.now in
          subst (λ (r : Result ℕ Stop). EndCounts old new inputs [] r) (sym c.found_end.ensures)
          (found-counts old new inputs c.end.result (CountsStand-trans c.in-Ok.ensures.counts c.in-Ok-read_on.ensures.counts));
    }

pub returns-in-Err-read_on : goal.returns-in-Err-read_on
returns-in-Err-read_on g c = record {
  run =
      stops-so (script_of c.args.world.now) (g.F.Folder.state c.read_on.new.folder) (written c.args.names.now) c.args.trace.now
      c.in-Err-read_on.stop c.in-Err-read_on.ensures.stops;
  reads = OnlyReads-trans c.audit_turns.ensures.reads c.read_on.ensures.reads;
  counts =
      let n : Written = written c.args.names.now in
      stop-earlier (g.F.Folder.state c.args.folder.now) _ _ (audit_inputs n c.args.trace.now) [] c.in-Err-read_on.stop
      c.in-Ok.ensures.counts (trace-counts _ _ n c.args.trace.now c.in-Err-read_on.stop c.in-Err-read_on.ensures.counts);
}
