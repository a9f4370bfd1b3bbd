use Rattle.command_base.proofs.Names.{◌≡◌, ◌∙◌, ◌%◌, ◌/◌, Bool, List, Ok, Err, refl, ap, subst, Listening, Hears, low_bits, octet_bits}
use Rattle.command_base.proofs.Names.{FolderState}
use Rattle.bit_stuffing.specs.Deframer.{Kept}
use Rattle.command_base.proofs.Hearing.{octet-fours, hears-quiet, hears-on, hears-part}
use Rattle.command_base.proofs.listener.Listener.hear_octet.Goals as goal

pub returns-then-pass-clause-hears : goal.returns-then-pass-clause-hears
returns-then-pass-clause-hears g c =
    let now : FolderState = g.F.Folder.state c.args.folder.now in
    let old : Listening = record { deframer = c.self.inside.deframer; sender = c.self.inside.sender; pieces = c.self.inside.pieces } in
    let next : Listening = record { deframer = c.pass.new.self; sender = c.self.inside.sender; pieces = c.self.inside.pieces } in
    subst (λ (l : Listening). Hears now now l next (octet_bits c.args.octet) (Ok tt)) c.self.view_is
    (hears-quiet now old next (octet_bits c.args.octet) (c.pass.ensures.stands c.if-pass.true)
    (c.pass.ensures.quiet c.if-pass.true) refl refl)

pub returns-in-Ok-clause-hears : goal.returns-in-Ok-clause-hears
returns-in-Ok-clause-hears g c =
    let octet = c.args.octet in
    let old : FolderState = g.F.Folder.state c.args.folder.now in let new : FolderState = g.F.Folder.state c.hear_four-in-Ok.new.folder in
    let listening : Kept → Listening =
    λ deframer. record { deframer = deframer; sender = c.self.inside.sender; pieces = c.self.inside.pieces } in
    let stays : listening c.pass.new.self ≡ c.args.self.now = ap listening (c.pass.ensures.stays c.if-pass.false) ∙ c.self.view_is in
    let hears : Hears old new (listening c.pass.new.self) c.hear_four-in-Ok.new.self (octet_bits octet) c.hear_four-in-Ok.result =
    subst (λ (bits : List Bool). Hears old new (listening c.pass.new.self) c.hear_four-in-Ok.new.self bits c.hear_four-in-Ok.result)
    (octet-fours octet)
    (hears-on old (g.F.Folder.state c.hear_four.new.folder) new (listening c.pass.new.self) c.hear_four.new.self c.hear_four-in-Ok.new.self
    (low_bits 4 (octet % 16)) (low_bits 4 (octet / 16)) c.hear_four-in-Ok.result c.in-Ok.ensures.hears c.hear_four-in-Ok.ensures.hears) in
    subst (λ (l : Listening). Hears old new l c.hear_four-in-Ok.new.self (octet_bits octet) c.hear_four-in-Ok.result) stays hears

pub returns-in-Err-clause-hears : goal.returns-in-Err-clause-hears
returns-in-Err-clause-hears g c =
    let octet = c.args.octet in
    let old : FolderState = g.F.Folder.state c.args.folder.now in let new : FolderState = g.F.Folder.state c.hear_four.new.folder in
    let listening : Kept → Listening =
    λ deframer. record { deframer = deframer; sender = c.self.inside.sender; pieces = c.self.inside.pieces } in
    let stays : listening c.pass.new.self ≡ c.args.self.now = ap listening (c.pass.ensures.stays c.if-pass.false) ∙ c.self.view_is in
    let hears : Hears old new (listening c.pass.new.self) c.hear_four.new.self (octet_bits octet) (Err c.in-Err.fault) =
    subst (λ (bits : List Bool). Hears old new (listening c.pass.new.self) c.hear_four.new.self bits (Err c.in-Err.fault))
    (octet-fours octet)
    (hears-part old new (listening c.pass.new.self) c.hear_four.new.self (low_bits 4 (octet % 16)) (low_bits 4 (octet / 16)) c.in-Err.fault
    c.in-Err.ensures.hears) in
    subst (λ (l : Listening). Hears old new l c.hear_four.new.self (octet_bits octet) (Err c.in-Err.fault)) stays hears
