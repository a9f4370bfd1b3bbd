use Rattle.trace_audit.proofs.Cited.{[], sym, ap, subst, rules, EndCounts, AsksInOctets, Written, outputs_of, written, link_of, WorldAfter}
use Rattle.trace_audit.proofs.Cited.{start, ScriptValue, OnlyReads-refl, FolderState, RunIs, audit_inputs, AuditNames, named}
use Rattle.outside_calls.specs.Outputs.{AreApartFrom}
use Rattle.outside_calls.proofs.Steps.{FaultsStand-refl}
use Rattle.line_run.specs.Names.{inputs_of}
use Rattle.trace_audit.proofs.Opening.{ends-so, end-turns, no-memory}
use Rattle.trace_audit.proofs.command.audit_script.Goals as goal

pub returns-clause-ends : goal.returns-clause-ends
returns-clause-ends g c = λ begin b.
    let now : FolderState = g.F.Folder.state c.args.folder.now in
    let new : FolderState = g.F.Folder.state c.audit_world.new.folder in
    let n : AuditNames = named c.args.words.now in
    let m : Written = written c.turn_names-names.result in
    ends-so begin now new n m c.args.script b (ap (λ (w : Written). w.orig) c.turn_names-names.ensures)
    (ap (λ (w : Written). w.answ) c.turn_names-names.ensures) c.audit_world.ensures.reads c.audit_world.result
    (subst (λ (s : ScriptValue). RunIs s new m n.trace c.audit_world.result) c.in-Ok.ensures.script c.audit_world.ensures.run)
    (subst (λ (w : Written). EndCounts now new (audit_inputs w n.trace) [] c.audit_world.result) c.turn_names-names.ensures
    c.audit_world.ensures.counts)

pub returns-in-Err : goal.returns-in-Err
returns-in-Err g c = record {
  ends = λ begin b. no-memory begin (g.F.Folder.state c.args.folder.now) (named c.args.words.now) c.args.script b;
  reads = OnlyReads-refl (g.F.Folder.state c.args.folder.now);
  counts = FaultsStand-refl (g.F.Folder.state c.args.folder.now);
}

pub returns-in-Err-new-clause-ends : goal.returns-in-Err-new-clause-ends
returns-in-Err-new-clause-ends g c = λ begin b. no-memory begin (g.F.Folder.state c.args.folder.now) (named c.args.words.now) c.args.script
    b

pub returns-in-Err-new-clause-reads : goal.returns-in-Err-new-clause-reads
returns-in-Err-new-clause-reads g c = OnlyReads-refl (g.F.Folder.state c.args.folder.now)

pub returns-in-Err-new-clause-counts : goal.returns-in-Err-new-clause-counts
returns-in-Err-new-clause-counts g c = FaultsStand-refl (g.F.Folder.state c.args.folder.now)

pub audit_world-requires : goal.audit_world-requires
audit_world-requires g c = record {
  ready = search rules;
  first = λ files.
      subst (λ (s : ScriptValue). WorldAfter c.in-Ok.world files [] (start (link_of s files))) (sym c.in-Ok.ensures.script)
      (c.in-Ok.ensures.world files);
  apart = subst (λ (w : Written). AreApartFrom (inputs_of w) (outputs_of w)) (sym c.turn_names-names.ensures) c.in-Ok-new.ensures;
  asks = subst AsksInOctets (sym c.in-Ok.ensures.script) c.requires;
}

pub returns-clause-counts : goal.returns-clause-counts
returns-clause-counts g c =
    let now : FolderState = g.F.Folder.state c.args.folder.now in
    let new : FolderState = g.F.Folder.state c.audit_world.new.folder in
    let n : AuditNames = named c.args.words.now in
    end-turns now new n c.audit_world.result
    (subst (λ (w : Written). EndCounts now new (audit_inputs w n.trace) [] c.audit_world.result) c.turn_names-names.ensures
    c.audit_world.ensures.counts)
