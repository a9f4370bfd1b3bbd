use Rattle.stations.proofs.Names.{None, refl, concat, deliveries, handed, Closed}
use Rattle.stations.proofs.OneEnd.Turning.{silent-turn, closing, adds-line, adds-part}
use Rattle.stations.proofs.one_end.single.Single.finish.Goals as goal

pub returns-in-Ok-clause-adds : goal.returns-in-Ok-clause-adds
returns-in-Ok-clause-adds g c = λ p slot mid h up given.
    let s = c.args.self.now in
    adds-line s (g.F.Folder.state c.args.folder.now) (g.F.Folder.state c.write.new.folder) c.args.trace.now p slot
    (concat (deliveries mid)) Closed (silent-turn c.args.arrived c.args.given) None h.turn refl
    (closing s p slot c.args.arrived mid (handed mid) c.args.given h up given) c.in-Ok.ensures.ok

pub returns-in-Err-clause-part : goal.returns-in-Err-clause-part
returns-in-Err-clause-part g c = λ p slot mid h up given.
    let s = c.args.self.now in
    adds-part s (g.F.Folder.state c.args.folder.now) (g.F.Folder.state c.write.new.folder) c.args.trace.now p slot
    (concat (deliveries mid)) Closed (silent-turn c.args.arrived c.args.given) None h.turn refl
    (closing s p slot c.args.arrived mid (handed mid) c.args.given h up given) c.in-Err.ensures.err
