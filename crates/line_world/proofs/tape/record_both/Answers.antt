use Rattle.line_world.proofs.Cited.{inl, ◌∷◌, ◌∙◌, sym, [], wire_of, script_of, OnlyPuts-one, OnlyPuts-trans, Originator, Answerer}
use Rattle.line_world.proofs.Taping.{keeps-holds, keeps-later, both-take}
use Rattle.line_world.proofs.Folders.{counts-front}
use Rattle.line_world.proofs.tape.record_both.Goals as goal

pub returns-in-Err-clause-records : goal.returns-in-Err-clause-records
returns-in-Err-clause-records g c = λ files ts t ends w k. inl (
  c.in-Err.ensures.records (script_of c.args.world.now) Originator ts t (c.sent.ensures.sent files ts t ends w) k.0,
  keeps-holds c.args.tapes.now.answ _ (wire_of (script_of c.args.world.now)) Answerer ts
      (keeps-later c.args.tapes.now.answ _ _ (wire_of (script_of c.args.world.now)) Answerer ts c.in-Err.ensures.only.goes_on
      (c.in-Err.ensures.only.names c.args.tapes.now.answ.name.now (λ e. c.requires.apart.0.0 (sym e))) k.1),
)

pub returns-clause-records : goal.returns-clause-records
returns-clause-records g c = λ files ts t ends w k.
    let channel = wire_of (script_of c.args.world.now) in
    let orig = c.in-Ok.ensures.records (script_of c.args.world.now) Originator ts t (c.sent.ensures.sent files ts t ends w) k.0 in
    let answ = keeps-later c.args.tapes.now.answ _ _ channel Answerer ts c.in-Ok.ensures.only.goes_on
    (c.in-Ok.ensures.only.names c.args.tapes.now.answ.name.now (λ e. c.requires.apart.0.0 (sym e))) k.1 in
    both-take c.record.new.self c.record-2.new.self _ channel ts t c.record-2.result
    (keeps-later c.record.new.self _ _ channel Originator (t ∷ ts) c.record-2.ensures.only.goes_on
    (c.record-2.ensures.only.names c.record.new.self.name.now (λ e. c.requires.apart.0.0 (sym c.in-Ok.ensures.name ∙ e))) orig)
    (c.record-2.ensures.records (script_of c.args.world.now) Answerer ts t (c.sent-2.ensures.sent files ts t ends w) answ)

pub returns-in-Err-clause-only : goal.returns-in-Err-clause-only
returns-in-Err-clause-only g c = OnlyPuts-one _ _ [] c.args.tapes.now.orig.name.now (c.args.tapes.now.answ.name.now ∷ [])
    c.record.ensures.only

pub returns-in-Err-clause-counts : goal.returns-in-Err-clause-counts
returns-in-Err-clause-counts g c =
    counts-front (g.F.Folder.state c.args.folder.now) (g.F.Folder.state c.record.new.folder) []
    (c.args.tapes.now.orig.name.now ∷ []) (c.args.tapes.now.answ.name.now ∷ []) c.in-Err.fault c.in-Err.ensures.counts

pub returns-clause-came : goal.returns-clause-came
returns-clause-came g c = g.met.F.Folder.came_on _ _ _ c.record.ensures.came c.record-2.ensures.came

pub returns-clause-only : goal.returns-clause-only
returns-clause-only g c =
    let orig = c.args.tapes.now.orig.name.now in
    let answ = c.args.tapes.now.answ.name.now in
    OnlyPuts-trans _ _ _ (orig ∷ answ ∷ []) (OnlyPuts-one _ _ [] orig (answ ∷ []) c.record.ensures.only)
    (OnlyPuts-one _ _ (orig ∷ []) answ [] c.record-2.ensures.only)
