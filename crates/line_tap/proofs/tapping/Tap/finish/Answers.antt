use Rattle.line_tap.proofs.Cited.{[], ◌∷◌, refl, subst, None, TapNames, named, Appended, PartlyAppended}
use Rattle.line_tap.proofs.TurnTexts.{text-is}
use Rattle.line_tap.proofs.Causes.{write-among, writes-fail}
use Rattle.line_tap.proofs.tapping.Tap.finish.Goals as goal

pub returns-in-Ok : goal.returns-in-Ok
returns-in-Ok g c = record {
  ok = λ x ts number h.
      subst (Appended (g.F.Folder.state c.args.folder.now) (g.F.Folder.state c.append_turn.new.folder) (named c.args.names.now).trace)
      (text-is c.args.self.now.turn x ts c.args.hearing.now None (record { orig = None; answ = None }) number h refl refl)
      c.in-Ok.ensures.ok;
  err = tt;
  only = c.in-Ok.ensures.only;
  stand = c.in-Ok.ensures.stand;
  fails = tt;
}

pub returns-in-Err : goal.returns-in-Err
returns-in-Err g c = record {
  ok = tt;
  err = λ x ts number h.
      subst (PartlyAppended (g.F.Folder.state c.args.folder.now) (g.F.Folder.state c.append_turn.new.folder) (named c.args.names.now).trace)
      (text-is c.args.self.now.turn x ts c.args.hearing.now None (record { orig = None; answ = None }) number h refl refl)
      c.in-Err.ensures.err;
  only = c.in-Err.ensures.only;
  stand = tt;
  fails =
      let n : TapNames = named c.args.names.now in
      let old = g.F.Folder.state c.args.folder.now in
      let new = g.F.Folder.state c.append_turn.new.folder in
      write-among old new (n.got_o ∷ n.got_a ∷ []) n.trace [] c.in-Err.fault
      (writes-fail old new n.trace c.in-Err.fault c.in-Err.ensures.cause c.in-Err.ensures.spared);
}
