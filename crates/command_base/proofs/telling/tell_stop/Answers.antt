use Rattle.command_base.proofs.Names.{arith, ◌≡◌, ℕ, List, SaysStop, stop_status, Status, Stop, Say, FolderState, FolderFault}
use Rattle.command_base.proofs.telling.tell_stop.Goals as goal

says-no-more : (words : List (List ℕ)) (state : FolderState) (stop : Stop) (fault : FolderFault) (status : Status)
    → stop ≡ Say fault → status ≡ stop_status stop → SaysStop words state state stop status
says-no-more words state stop fault status is e = grind (arith)

pub returns-in-Say : goal.returns-in-Say
returns-in-Say g c = says-no-more _ (g.F.Folder.state c.args.folder.now) c.args.stop _ c.status.result c.in-Say.is c.status.ensures
