use Rattle.command_base.proofs.Names.{◌++◌, codes, GoesOn-trans, FaultsStand-trans, CountsStand-trans, FolderState, Said, PartlySaid}
use Rattle.command_base.proofs.Saying.{Said-Said, Said-PartlySaid, PartlySaid-longer, on-err, on-err-map, on-ok-map, OnlySays-trans}
use Rattle.command_base.proofs.Saying.{HasCause-earlier}
use Rattle.command_base.proofs.telling.say_too_long.Goals as goal

pub returns-in_err-say-clause-err : goal.returns-in_err-say-clause-err
returns-in_err-say-clause-err g c =
    let old : FolderState = g.F.Folder.state c.args.folder.now in let one : FolderState = g.F.Folder.state c.say.new.self in
    on-err _ (PartlySaid-longer old one (codes "too long: ") (c.args.name.now ++ codes "\n") c.in_err-say.ensures.err)

pub returns-in_err-say-2-clause-err : goal.returns-in_err-say-2-clause-err
returns-in_err-say-2-clause-err g c =
    let old : FolderState = g.F.Folder.state c.args.folder.now in let one : FolderState = g.F.Folder.state c.say.new.self in
    let two : FolderState = g.F.Folder.state c.say-2.new.self in
    on-err _ (Said-PartlySaid old one two (codes "too long: ") (c.args.name.now ++ codes "\n") c.in_ok-say.ensures.ok
    (PartlySaid-longer one two c.args.name.now (codes "\n") (rw c.as_bytes.ensures.value at c.in_err-say-2.ensures.err)))

pub returns-clause-err : goal.returns-clause-err
returns-clause-err g c =
    let old : FolderState = g.F.Folder.state c.args.folder.now in let one : FolderState = g.F.Folder.state c.say.new.self in
    let two : FolderState = g.F.Folder.state c.say-2.new.self in let three : FolderState = g.F.Folder.state c.say-3.new.self in
    let front : Said old two (codes "too long: " ++ c.args.name.now) =
    Said-Said old one two (codes "too long: ") c.args.name.now c.in_ok-say.ensures.ok
    (rw c.as_bytes.ensures.value at c.in_ok-say-2.ensures.ok) in
    on-err-map {P = PartlySaid two three (codes "\n")} c.say-3.result
    (λ p. Said-PartlySaid old two three (codes "too long: " ++ c.args.name.now) (codes "\n") front p) c.say-3.ensures.err

pub returns-in_err-say-2-clause-only : goal.returns-in_err-say-2-clause-only
returns-in_err-say-2-clause-only g c = OnlySays-trans c.in_ok-say.ensures.only c.in_err-say-2.ensures.only

pub returns-clause-only : goal.returns-clause-only
returns-clause-only g c = OnlySays-trans c.in_ok-say.ensures.only (OnlySays-trans c.in_ok-say-2.ensures.only c.say-3.ensures.only)

pub returns-clause-cause : goal.returns-clause-cause
returns-clause-cause g c =
    HasCause-earlier (g.F.Folder.state c.args.folder.now) (g.F.Folder.state c.say-2.new.self) (g.F.Folder.state c.say-3.new.self)
    c.say-3.result (GoesOn-trans c.in_ok-say.ensures.only.goes_on c.in_ok-say-2.ensures.only.goes_on) c.say-3.ensures.cause

pub returns-clause-stand : goal.returns-clause-stand
returns-clause-stand g c =
    on-ok-map c.say-3.result (CountsStand-trans (CountsStand-trans c.in_ok-say.ensures.stand c.in_ok-say-2.ensures.stand))
    c.say-3.ensures.stand

pub returns-clause-spared : goal.returns-clause-spared
returns-clause-spared g c = λ e.
    FaultsStand-trans (FaultsStand-trans c.in_ok-say.ensures.stand.faults c.in_ok-say-2.ensures.stand.faults) (c.say-3.ensures.spared e)

pub returns-clause-ok : goal.returns-clause-ok
returns-clause-ok g c =
    let old : FolderState = g.F.Folder.state c.args.folder.now in let one : FolderState = g.F.Folder.state c.say.new.self in
    let two : FolderState = g.F.Folder.state c.say-2.new.self in let three : FolderState = g.F.Folder.state c.say-3.new.self in
    let front : Said old two (codes "too long: " ++ c.args.name.now) =
    Said-Said old one two (codes "too long: ") c.args.name.now c.in_ok-say.ensures.ok
    (rw c.as_bytes.ensures.value at c.in_ok-say-2.ensures.ok) in
    on-ok-map {P = Said two three (codes "\n")} c.say-3.result
    (λ p. Said-Said old two three (codes "too long: " ++ c.args.name.now) (codes "\n") front p) c.say-3.ensures.ok
