use Rattle.trace_audit.proofs.Cited.{[], OnlyReads-trans, named, inputs_of}
use Rattle.command_base.proofs.Jobs.{end-earlier}
use Rattle.trace_audit.proofs.command.audit_to_end.Goals as goal

pub audit_script-requires : goal.audit_script-requires
audit_script-requires g c =
    let spelled = c.in-Ok.ensures.spelled in
    c.spelled_scripts_are_in_limits.ensures.breaks spelled.0 c.in-Ok.script spelled.1

pub returns-in-Ok : goal.returns-in-Ok
returns-in-Ok g c = record {
  ends = c.audit_script.ensures.ends (g.F.Folder.state c.args.folder.now) c.in-Ok.ensures.begun;
  reads = OnlyReads-trans c.in-Ok.ensures.reads c.audit_script.ensures.reads;
  counts =
      end-earlier (g.F.Folder.state c.args.folder.now) (g.F.Folder.state c.open_all.new.folder) (g.F.Folder.state c.audit_script.new.folder)
      (inputs_of (named c.args.words.now)) [] c.audit_script.result c.in-Ok.ensures.counts c.audit_script.ensures.counts;
}
