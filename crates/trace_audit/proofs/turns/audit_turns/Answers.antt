use Rattle.trace_audit.proofs.Cited.{Bool, Ok, [], refl, sym, ◌∙◌, ap, subst, rules, stop-earlier, AsksInOctets, written, turn_of}
use Rattle.trace_audit.proofs.Cited.{OnlyReads-refl, OnlyReads-trans, CountsStand-refl, CountsStand-trans, AreCompared, audit_inputs}
use Rattle.line_world.proofs.Reached.{nearer}
use Rattle.trace_audit.proofs.Running.{compared-none}
use Rattle.trace_audit.proofs.turns.audit_turns.Goals as goal

pub loop-comparison-init : goal.loop-comparison-init
loop-comparison-init g c =
    record {
      compared = compared-none c.args.world.now _ (written c.args.names.now) c.args.trace.now c.new-comparison.result c.requires.first
          c.new-comparison.ensures.compared c.new-comparison.ensures.few;
      script = refl;
      ready = c.requires.ready;
      reads = OnlyReads-refl _;
      stand = CountsStand-refl _;
    }

pub audit_turn-requires-clause-asks : goal.audit_turn-requires-clause-asks
audit_turn-requires-clause-asks g c = subst AsksInOctets (sym c.loop-comparison.invariant.script) c.requires.asks

pub loop-comparison-smaller : goal.loop-comparison-smaller
loop-comparison-smaller g c =
    nearer (turn_of c.loop-comparison.world) (turn_of c.audit_turn.new.world)
    (c.turns_are_few.ensures c.loop-comparison.world c.loop-comparison.invariant.ready)
    (c.audit_turn.ensures.number (c.in-Ok-true.is ∙ ap (λ (b : Bool). Ok b) c.in-Ok-true.field-0-test))

pub loop-comparison-preserved : goal.loop-comparison-preserved
loop-comparison-preserved g c =
    let i = c.loop-comparison.invariant in
    record {
      compared = subst
          (λ (b : Bool). AreCompared b c.audit_turn.new.world (g.F.Folder.state c.audit_turn.new.folder) (written c.args.names.now)
          c.args.trace.now c.audit_turn.new.comparison) c.in-Ok-true.field-0-test c.in-Ok-true.ensures.compared;
      script = c.audit_turn.ensures.script ∙ i.script;
      ready = c.audit_turn.ensures.ready (c.in-Ok-true.is ∙ ap (λ (b : Bool). Ok b) c.in-Ok-true.field-0-test);
      reads = OnlyReads-trans i.reads c.audit_turn.ensures.reads;
      stand = CountsStand-trans i.stand c.in-Ok-true.ensures.counts;
    }

pub returns-in-Ok-false : goal.returns-in-Ok-false
returns-in-Ok-false g c = record {
  compared =
      subst
      (λ (b : Bool). AreCompared b c.audit_turn.new.world (g.F.Folder.state c.audit_turn.new.folder) (written c.args.names.now)
      c.args.trace.now c.audit_turn.new.comparison) c.in-Ok-false.field-0-test c.in-Ok-false.ensures.compared;
  script = c.audit_turn.ensures.script ∙ c.loop-comparison.invariant.script;
  stops = search rules;
  reads = OnlyReads-trans c.loop-comparison.invariant.reads c.audit_turn.ensures.reads;
  counts = CountsStand-trans c.loop-comparison.invariant.stand c.in-Ok-false.ensures.counts;
}

pub returns-in-Err-clause-script : goal.returns-in-Err-clause-script
returns-in-Err-clause-script g c = c.audit_turn.ensures.script ∙ c.loop-comparison.invariant.script

pub returns-in-Err-clause-reads : goal.returns-in-Err-clause-reads
returns-in-Err-clause-reads g c = OnlyReads-trans c.loop-comparison.invariant.reads c.audit_turn.ensures.reads

pub returns-in-Err-clause-counts : goal.returns-in-Err-clause-counts
returns-in-Err-clause-counts g c =
    stop-earlier (g.F.Folder.state c.args.folder.now) (g.F.Folder.state c.loop-comparison.folder) (g.F.Folder.state c.audit_turn.new.folder)
    (audit_inputs (written c.args.names.now) c.args.trace.now) [] c.in-Err.stop c.loop-comparison.invariant.stand c.in-Err.ensures.counts
