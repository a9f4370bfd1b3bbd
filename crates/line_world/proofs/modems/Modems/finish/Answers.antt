use Rattle.line_world.proofs.Cited.{refl, subst, None, written, turn_in, Done, Appended, PartlyAppended, Originator, Answerer}
use Rattle.line_world.proofs.Hearing.{heard-in, none-sent}
use Rattle.line_world.proofs.Speaking.{hears-these, last-turn, text-is, adds-part}
use Rattle.line_world.proofs.modems.Modems.finish.Goals as goal

pub returns-in-Ok-clause-adds : goal.returns-in-Ok-clause-adds
returns-in-Ok-clause-adds g c = λ channel files ts ends mid h closed go ga.
    let o = h.overhears in
    let f = g.F.Folder.state c.args.folder.now in
    let new = g.F.Folder.state c.write_turn.new.folder in
    let n = written c.args.names.now in
    let text = text-is c.args.self.now.turn ts ends mid c.args.heard.now c.args.given.now None none-sent
    (o.well Originator) (o.well Answerer) h.turn go ga refl refl in
    record {
      turn = turn_in c.args.heard.now ends mid none-sent;
      hears = hears-these c.args.heard.now ends mid none-sent;
      makes = assumption (
        heard-in channel files ts ends c.args.heard.now mid none-sent o,
        last-turn channel files ts ends c.args.heard.now mid o closed,
      );
      trace = subst (Appended f new n.trace) text c.in-Ok.ensures.ok;
    }

pub returns-in-Err-clause-part : goal.returns-in-Err-clause-part
returns-in-Err-clause-part g c = λ channel files ts ends mid h closed go ga.
    let o = h.overhears in
    let f = g.F.Folder.state c.args.folder.now in
    let new = g.F.Folder.state c.write_turn.new.folder in
    let n = written c.args.names.now in
    let text = text-is c.args.self.now.turn ts ends mid c.args.heard.now c.args.given.now None none-sent
    (o.well Originator) (o.well Answerer) h.turn go ga refl refl in
    adds-part channel f new n files ts ends c.args.heard.now mid none-sent Done o
    (last-turn channel files ts ends c.args.heard.now mid o closed) (subst (PartlyAppended f new n.trace) text c.in-Err.ensures.err)
