use Rattle.stations.proofs.Names.{[], None, refl, Broken}
use Rattle.stations.proofs.OneEnd.Turning.{silent-turn, breaking-off, adds-line, adds-part, ends-part}
use Rattle.stations.proofs.one_end.single.Single.break_off.Goals as goal

pub returns-in-Ok-clause-ends : goal.returns-in-Ok-clause-ends
returns-in-Ok-clause-ends g c = λ p slot b.
    let s = c.args.self.now in
    let k = c.args.breaking in
    adds-line s (g.F.Folder.state c.args.folder.now) (g.F.Folder.state c.write.new.folder) c.args.trace.now p slot [] (Broken k.fault)
    (silent-turn k.arrived None) None b.turn refl (breaking-off s p slot k.arrived k.fault b) c.in-Ok.ensures.ok

pub returns-in-Err-clause-ends : goal.returns-in-Err-clause-ends
returns-in-Err-clause-ends g c = λ p slot b.
    let s = c.args.self.now in
    let k = c.args.breaking in
    ends-part s _ _ c.args.trace.now p slot [] c.in-Err.fault c.in-Err.ensures.write
    (adds-part s _ _ c.args.trace.now p slot [] (Broken k.fault) (silent-turn k.arrived None) None b.turn refl
    (breaking-off s p slot k.arrived k.fault b) c.in-Err.ensures.err)
