use Rattle.link_pair.proofs.Names.{refl, sym, ◌∙◌, ap, Ok, written, wire_at}
use Rattle.link_pair.proofs.Going.{ready-for, came-to, came-going, came-ended, came-halted, sorted-counts}
use Rattle.link_pair.proofs.half.Half.go_on.Goals as goal

pub turn-requires-clause-ready : goal.turn-requires-clause-ready
turn-requires-clause-ready g c =
    ready-for c.args.self.now c.args.lines.now c.args.script.now (g.F.Folder.state c.args.folder.now) (written c.args.names.now)
    c.requires.ready.0 c.requires.going c.requires.ready.1

pub send_flags-requires-clause-room : goal.send_flags-requires-clause-room
send_flags-requires-clause-room g c =
    let h = c.args.self.now in
    let script = c.args.script.now in
    let r = c.requires.ready.1 in
    let a = came-to c.turns_deliver_what_came.ensures.hearing c.turns_deliver_what_came.ensures.speaking h c.turn.new.self c.args.lines.now
    c.turn.new.lines script r.beside r.links r.streams (g.F.Folder.state c.args.folder.now) (g.F.Folder.state c.turn.new.folder)
    (written c.args.names.now) r.files c.requires.ready.0 r.p c.turn.result _ (sym c.in-Ok-Some.ensures ∙ ap Ok c.in-Ok-Some.field-0-is)
    c.requires.going c.requires.apart c.turn.ensures.only r.at c.turn.ensures.kept c.turn.ensures.turn in
    (wire_at script h.dlci r.beside, r.links, r.streams, a.comes.arrived)

pub returns-in-Ok-None-clause-turn : goal.returns-in-Ok-None-clause-turn
returns-in-Ok-None-clause-turn g c = λ beside links streams files round p at.
    let h = c.args.self.now in
    let script = c.args.script.now in
    let n = written c.args.names.now in
    let a = came-to c.turns_deliver_what_came.ensures.hearing c.turns_deliver_what_came.ensures.speaking h c.turn.new.self c.args.lines.now
    c.turn.new.lines script beside links streams (g.F.Folder.state c.args.folder.now) _ n files round p c.turn.result _
    (sym c.in-Ok-None.ensures ∙ ap Ok c.in-Ok-None.field-0-is) c.requires.going c.requires.apart c.turn.ensures.only at c.turn.ensures.kept
    c.turn.ensures.turn in
    came-going (record { modems = c.turn.new.self; dlci = h.dlci; ended = h.ended }) c.turn.new.lines
    (wire_at script h.dlci beside) links
    streams _ n files round p c.requires.going (c.turn.ensures.channel ∙ at.channel) a

pub returns-in-Ok-Some-clause-turn : goal.returns-in-Ok-Some-clause-turn
returns-in-Ok-Some-clause-turn g c = λ beside links streams files round p at.
    let h = c.args.self.now in
    let script = c.args.script.now in
    let n = written c.args.names.now in
    let channel = wire_at script h.dlci beside in
    let a = came-to c.turns_deliver_what_came.ensures.hearing c.turns_deliver_what_came.ensures.speaking h c.turn.new.self c.args.lines.now
    c.turn.new.lines script beside links streams (g.F.Folder.state c.args.folder.now) _ n files round p c.turn.result _
    (sym c.in-Ok-Some.ensures ∙ ap Ok c.in-Ok-Some.field-0-is) c.requires.going c.requires.apart c.turn.ensures.only at c.turn.ensures.kept
    c.turn.ensures.turn in
    came-ended _ c.send_flags.new.lines c.turn.new.lines channel links streams _ n files round p c.in-Ok-Some.end refl
    (c.turn.ensures.channel ∙ at.channel) (c.send_flags.ensures channel links streams a.comes.arrived refl) a

pub returns-in-Err-clause-turn : goal.returns-in-Err-clause-turn
returns-in-Err-clause-turn g c = λ beside links streams files round p at.
    let h = c.args.self.now in
    let script = c.args.script.now in
    let n = written c.args.names.now in
    let a = came-to c.turns_deliver_what_came.ensures.hearing c.turns_deliver_what_came.ensures.speaking h c.turn.new.self c.args.lines.now
    c.turn.new.lines script beside links streams (g.F.Folder.state c.args.folder.now) _ n files round p c.turn.result _
    (sym c.in-Err.ensures) c.requires.going c.requires.apart c.turn.ensures.only at c.turn.ensures.kept c.turn.ensures.turn in
    came-halted c.turn.new.self c.turn.new.lines (wire_at script h.dlci beside) links streams _ n files round p c.in-Err.fault a

pub send_flags-requires-clause-channel : goal.send_flags-requires-clause-channel
send_flags-requires-clause-channel g c = c.requires.ready.1.low

pub returns-in-Ok-None-clause-counts : goal.returns-in-Ok-None-clause-counts
returns-in-Ok-None-clause-counts g c = sorted-counts (g.F.Folder.state c.args.folder.now) (g.F.Folder.state c.turn.new.folder)
    (written c.args.names.now) c.turn.result _ c.in-Ok-None.ensures c.turn.ensures.counts

pub returns-in-Ok-Some-clause-counts : goal.returns-in-Ok-Some-clause-counts
returns-in-Ok-Some-clause-counts g c = sorted-counts (g.F.Folder.state c.args.folder.now) (g.F.Folder.state c.turn.new.folder)
    (written c.args.names.now) c.turn.result _ c.in-Ok-Some.ensures c.turn.ensures.counts

pub returns-in-Err-clause-counts : goal.returns-in-Err-clause-counts
returns-in-Err-clause-counts g c = sorted-counts (g.F.Folder.state c.args.folder.now) (g.F.Folder.state c.turn.new.folder)
    (written c.args.names.now) c.turn.result _ c.in-Err.ensures c.turn.ensures.counts
