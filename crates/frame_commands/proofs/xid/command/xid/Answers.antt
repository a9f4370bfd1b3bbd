use Rattle.frame_commands.proofs.Names.{map, string_bytes, shared-of, xid_job}
use Rattle.frame_commands.proofs.Explaining.Completes.{completes-of}
use Rattle.frame_commands.proofs.xid.command.xid.Goals as goal

pub returns-clause-headline : goal.returns-clause-headline
returns-clause-headline g c =
    shared-of (xid_job c.args.digits.now) (map string_bytes c.args.words.now) (g.F.Folder.state c.args.folder.now)
    (g.F.Folder.state c.explain_and_tell.new.folder) c.explain_and_tell.result c.explain_and_tell.ensures
    (λ e name. c.explain_and_tell.ensures.only.names name tt)

pub returns-clause-completes : goal.returns-clause-completes
returns-clause-completes g c =
    completes-of (map string_bytes c.args.words.now) (g.F.Folder.state c.args.folder.now)
    (g.F.Folder.state c.explain_and_tell.new.folder) c.args.digits.now c.explain_and_tell.result c.explain_and_tell.ensures
