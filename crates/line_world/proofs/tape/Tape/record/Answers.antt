use Rattle.line_world.proofs.Cited.{ℕ, List, subst, wire_of, FolderState, Appended, PartlyAppended}
use Rattle.line_world.proofs.Taping.{takes-slot, takes-part}
use Rattle.line_world.proofs.tape.Tape.record.Goals as goal

pub returns-in-Ok-clause-records : goal.returns-in-Ok-clause-records
returns-in-Ok-clause-records g c = λ script role ts t sent k.
    let a : FolderState = g.F.Folder.state c.args.folder.now in
    let b : FolderState = g.F.Folder.state c.append.new.self in
    takes-slot c.args.self.now c.make.new.self a b (wire_of script) role ts t c.make.new.self.octets c.make.ensures.name
    c.in-Ok.ensures.only k (c.make.ensures.stands script role ts t k.body sent k.stands)
    (subst (λ (o : List ℕ). Appended a b c.make.new.self.name.now o) c.as_slice.ensures.items c.in-Ok.ensures.ok)

pub returns-in-Err-clause-records : goal.returns-in-Err-clause-records
returns-in-Err-clause-records g c = λ script role ts t sent k.
    let a : FolderState = g.F.Folder.state c.args.folder.now in
    let b : FolderState = g.F.Folder.state c.append.new.self in
    takes-part c.args.self.now c.make.new.self a b (wire_of script) role ts t c.make.new.self.octets c.make.ensures.name
    c.in-Err.ensures.only k (c.make.ensures.stands script role ts t k.body sent k.stands)
    (subst (λ (o : List ℕ). PartlyAppended a b c.make.new.self.name.now o) c.as_slice.ensures.items c.in-Err.ensures.err)
