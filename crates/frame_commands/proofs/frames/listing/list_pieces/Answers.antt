use Rattle.frame_commands.proofs.Names.{named, FolderState}
use Rattle.command_base.proofs.Hearing.{said-nothing}
use Rattle.frame_commands.proofs.Listing.Listed.{not-begun}
use Rattle.frame_commands.proofs.frames.listing.list_pieces.Goals as goal

pub returns-in-Err-clause-ends : goal.returns-in-Err-clause-ends
returns-in-Err-clause-ends g c =
    let old : FolderState = g.F.Folder.state c.args.folder.now in
    not-begun old (g.F.Folder.state c.within_limit.new.folder) (named c.args.names.now) c.in-Err.stop
    (said-nothing old) c.in-Err.ensures.reads c.in-Err.ensures.refused
