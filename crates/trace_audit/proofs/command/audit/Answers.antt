use Rattle.std.specs.Prelude.{map, string_bytes}
use Rattle.trace_audit.proofs.Cited.{named}
use Rattle.trace_audit.proofs.command.audit.Goals as goal

pub returns-clause-headline : goal.returns-clause-headline
returns-clause-headline g c =
    c.answers_keep_the_headline.ensures (map string_bytes c.args.words.now) (g.F.Folder.state c.args.folder.now)
    (g.F.Folder.state c.audit_and_tell.new.folder) (named c.args.names.now) c.audit_and_tell.result c.audit_and_tell.ensures

pub returns-clause-completes : goal.returns-clause-completes
returns-clause-completes g c =
    c.right_traces_are_judged.ensures (map string_bytes c.args.words.now) (g.F.Folder.state c.args.folder.now)
    (g.F.Folder.state c.audit_and_tell.new.folder) (named c.args.names.now) c.audit_and_tell.result c.audit_and_tell.ensures
