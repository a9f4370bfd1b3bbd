use Rattle.stations.proofs.Names.{arith, ◌∙◌, sym, subst, [], ◌∷◌, delivered, IsWriting, FaultCounts}
use Rattle.stations.proofs.Standing.{given-delivered}
use Rattle.stations.proofs.OneEnd.Folders.{write-fault, write-fault-counts}
use Rattle.stations.proofs.one_end.single.Single.hand_over.Goals as goal

pub returns-in-Ok-clause-counted : goal.returns-in-Ok-clause-counted
returns-in-Ok-clause-counted g c = λ heard asked k. c.given_break.ensures.counted heard asked (record {
  segments = omega (arith, k.segments, c.deliver.ensures.takes_nothing);
  breaks = omega (arith, k.breaks, c.deliver.ensures.breaks);
})

pub returns-in-Ok-clause-stands : goal.returns-in-Ok-clause-stands
returns-in-Ok-clause-stands g c = λ p slot arrived mid h. assumption (c.given_break.ensures.stands p.file (delivered mid)
    (c.in-Ok.ensures.stands p.file mid h.station))

pub returns-in-Ok-clause-given : goal.returns-in-Ok-clause-given
returns-in-Ok-clause-given g c = λ p slot arrived mid h.
    c.given_break.ensures.answer p.file (delivered mid) (c.in-Ok.ensures.stands p.file mid h.station) ∙ given-delivered mid

pub returns-in-Ok-clause-adds : goal.returns-in-Ok-clause-adds
returns-in-Ok-clause-adds g c = λ p slot arrived mid h. c.in-Ok.ensures.ok p.file mid h.station

pub returns-in-Ok-clause-idle : goal.returns-in-Ok-clause-idle
returns-in-Ok-clause-idle g c = c.given_break.ensures.idle c.in-Ok.ensures.delivered

pub returns-in-Err-clause-part : goal.returns-in-Err-clause-part
returns-in-Err-clause-part g c = λ p slot arrived mid h. c.in-Err.ensures.err p.file mid h.station

pub returns-in-Err-clause-counts : goal.returns-in-Err-clause-counts
returns-in-Err-clause-counts g c =
    subst (FaultCounts (g.F.Folder.state c.args.folder.now) (g.F.Folder.state c.deliver.new.folder) [] (c.args.got.now ∷ []))
    (sym c.folder_fault.ensures)
    (write-fault-counts (g.F.Folder.state c.args.folder.now) (g.F.Folder.state c.deliver.new.folder) c.args.got.now c.in-Err.fault
    c.in-Err.ensures.cause c.in-Err.ensures.spared)

pub returns-in-Err-clause-write : goal.returns-in-Err-clause-write
returns-in-Err-clause-write g c = subst IsWriting (sym c.folder_fault.ensures) (write-fault c.in-Err.fault)
