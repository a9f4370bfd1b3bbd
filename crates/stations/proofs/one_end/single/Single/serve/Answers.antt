use Rattle.stations.proofs.Names.{refl, sym, subst, arith, [], ◌∷◌, offered, handed, IsReading, FaultCounts}
use Rattle.stations.proofs.OneEnd.Turning.{reads-on}
use Rattle.stations.proofs.OneEnd.Folders.{read-fault, read-fault-counts}
use Rattle.stations.proofs.one_end.single.Single.serve.Goals as goal

pub returns-clause-serves : goal.returns-clause-serves
returns-clause-serves g c = λ p slot arrived mid h within.
    let e = c.in-Ok.ensures.stands p.file (handed mid) h.station within in
    reads-on c.the_file_of_one_counts_as_far_as_it_was_read.ensures.file c.args.self.now _
    (g.F.Folder.state c.args.folder.now) c.args.file.now p slot arrived mid c.supply.new.self h e
    refl refl refl (c.set_busy.ensures.stands e.others (offered e.others (handed mid)) e.stands)

pub returns-clause-counted : goal.returns-clause-counted
returns-clause-counted g c = λ heard asked k. c.set_busy.ensures.counted heard asked (c.supply.ensures.counted heard asked k)

pub supply-requires-clause-limit : goal.supply-requires-clause-limit
supply-requires-clause-limit g c = omega arith

pub supply-requires-clause-stands : goal.supply-requires-clause-stands
supply-requires-clause-stands g c =
    let w = c.requires.stands in
    (w.0.file, handed w.3, w.4.station, w.5)

pub returns-in-Err-clause-counts : goal.returns-in-Err-clause-counts
returns-in-Err-clause-counts g c =
    subst (FaultCounts (g.F.Folder.state c.args.folder.now) (g.F.Folder.state c.supply.new.folder) (c.args.file.now ∷ []) [])
    (sym c.folder_fault.ensures)
    (read-fault-counts (g.F.Folder.state c.args.folder.now) (g.F.Folder.state c.supply.new.folder) c.args.file.now c.in-Err.fault
    c.in-Err.ensures.cause c.in-Err.ensures.spared)

pub returns-in-Err-clause-read : goal.returns-in-Err-clause-read
returns-in-Err-clause-read g c = subst IsReading (sym c.folder_fault.ensures) (read-fault c.in-Err.fault)

pub returns-clause-idle : goal.returns-clause-idle
returns-clause-idle g c = λ k. c.set_busy.ensures.idle (c.supply.ensures.idle k)
