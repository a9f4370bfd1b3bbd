use Rattle.line_world.proofs.Cited.{HearsOn, arrival}
use Rattle.line_world.proofs.link.Link.hear.Goals as goal

pub returns-clause-hears : goal.returns-clause-hears
returns-clause-hears c = λ files ends h well.
    let orig : HearsOn c.hear_well.new.station files.orig ends.orig c.args.turn (arrival c.args.heard.now.orig) =
    c.hear_well.ensures.hears files.orig ends.orig h.orig well.orig in
    let answ : HearsOn c.hear_well-2.new.station files.answ ends.answ c.args.turn (arrival c.args.heard.now.answ) =
    c.hear_well-2.ensures.hears files.answ ends.answ h.answ well.answ in
    record {
      mid = record { orig = orig.mid; answ = answ.mid };
      orig = orig.hears;
      answ = answ.hears;
      stands = record { orig = orig.stands; answ = answ.stands };
    }
