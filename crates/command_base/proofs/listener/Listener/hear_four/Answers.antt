use Rattle.command_base.proofs.Names.{Ok, refl, subst, Listening, Hears, low_bits, FolderState}
use Rattle.command_base.proofs.Hearing.{hears-quiet}
use Rattle.command_base.proofs.listener.Listener.hear_four.Goals as goal

pub returns-then-pass_four-clause-hears : goal.returns-then-pass_four-clause-hears
returns-then-pass_four-clause-hears g c =
    let now : FolderState = g.F.Folder.state c.args.folder.now in
    let old : Listening = record { deframer = c.self.inside.deframer; sender = c.self.inside.sender; pieces = c.self.inside.pieces } in
    let next : Listening = record { deframer = c.pass_four.new.self; sender = c.self.inside.sender; pieces = c.self.inside.pieces } in
    subst (λ (l : Listening). Hears now now l next (low_bits 4 c.args.four) (Ok tt)) c.self.view_is
    (hears-quiet now old next (low_bits 4 c.args.four) (c.pass_four.ensures.stands c.if-pass_four.true)
    (c.pass_four.ensures.quiet c.if-pass_four.true) refl refl)
