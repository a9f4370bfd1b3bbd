use Rattle.line_tap.proofs.Cited.{◌+◌, [], ◌∷◌, refl, subst, ap, ◌∙◌, Some, Sent, sent_by, Slot, TapNames, named, slots_as, line_of}
use Rattle.line_tap.proofs.Cited.{terms_of, told, Tap, check_by, Appended, PartlyAppended, Both, Originator, Answerer}
use Rattle.line_world.proofs.Waiting.{room-of}
use Rattle.line_tap.proofs.TurnTexts.{text-is}
use Rattle.line_tap.proofs.Going.{after-going}
use Rattle.line_tap.proofs.Causes.{write-among, writes-fail}
use Rattle.line_tap.proofs.tapping.Tap.go_on.Goals as goal

pub returns-in-Err : goal.returns-in-Err
returns-in-Err g c = record {
  ok = tt;
  err = λ x ts k.
      subst (PartlyAppended (g.F.Folder.state c.args.folder.now) (g.F.Folder.state c.append_turn.new.folder) (named c.args.names.now).trace)
      (text-is c.args.self.now.turn x ts c.args.hearing.now (Some c.args.sent)
      (record { orig = Some (told (check_by (terms_of x)) c.args.sent.orig); answ = Some (told (check_by (terms_of x)) c.args.sent.answ) })
      k.turn k.hears refl refl) c.in-Err.ensures.err;
  orig = refl;
  answ = refl;
  turn = tt;
  at = tt;
  script = refl;
  only = c.in-Err.ensures.only;
  stand = tt;
  fails =
      let n : TapNames = named c.args.names.now in
      let old = g.F.Folder.state c.args.folder.now in
      let new = g.F.Folder.state c.append_turn.new.folder in
      write-among old new (n.got_o ∷ n.got_a ∷ []) n.trace [] c.in-Err.fault
      (writes-fail old new n.trace c.in-Err.fault c.in-Err.ensures.cause c.in-Err.ensures.spared);
}

pub returns : goal.returns
returns g c = record {
  ok = λ x ts k.
      let slots : Both Slot = slots_as c.args.sent c.args.labels in
      let sent : Both Sent = c.args.sent in
      let tap : Tap = c.args.self.now in
      let new : Tap = record tap {
        lines = record { from_orig = c.put.new.self; from_answ = c.put-2.new.self };
        at = tap.at + c.len.result;
        turn = tap.turn + 1;
      } in (
        after-going x ts tap new c.args.hearing.now slots sent k (assumption (ap (λ n. tap.at + n) (c.len.ensures ∙ tap.orig.piece.ok.0))),
        subst (Appended (g.F.Folder.state c.args.folder.now) (g.F.Folder.state c.append_turn.new.folder) (named c.args.names.now).trace)
            (text-is tap.turn x ts c.args.hearing.now (Some c.args.sent) (record {
              orig = Some (told (check_by (terms_of x)) slots.orig.sent);
              answ = Some (told (check_by (terms_of x)) slots.answ.sent);
            }) k.turn k.hears refl refl) c.in-Ok.ensures.ok,
      );
  err = tt;
  orig = refl;
  answ = refl;
  turn = refl;
  at = ap (λ n. c.args.self.now.at + n) (c.len.ensures ∙ c.args.self.now.orig.piece.ok.0);
  script = refl;
  only = c.in-Ok.ensures.only;
  stand = c.in-Ok.ensures.stand;
  fails = tt;
}

pub put-requires : goal.put-requires
put-requires g c =
    let h = c.requires.stands in
    record {
      sendable = c.codable_slots_fit.ensures.sendable _ Originator _ _ _ c.args.sent.orig h.2.read.orig.holds.codable;
      room = room-of c.args.self.now.lines.from_orig (line_of h.0) Originator 1 (sent_by 0 Originator h.1) (h.2.read.lines Originator);
    }

pub put-requires-2 : goal.put-requires-2
put-requires-2 g c =
    let h = c.requires.stands in
    record {
      sendable = c.codable_slots_fit.ensures.sendable _ Answerer _ _ _ c.args.sent.answ h.2.read.answ.holds.codable;
      room = room-of c.args.self.now.lines.from_answ (line_of h.0) Answerer 1 (sent_by 0 Answerer h.1) (h.2.read.lines Answerer);
    }
