use Rattle.line_tap.proofs.Cited.{[], ◌∷◌, TapNames, named, OnlyPuts-one}
use Rattle.line_tap.proofs.Turning.{meets-chance, stops-at-chance}
use Rattle.line_tap.proofs.Causes.{write-among, writes-fail}
use Rattle.line_tap.proofs.tapping.Tap.meet_chance.Goals as goal

pub returns-in-Ok : goal.returns-in-Ok
returns-in-Ok g c = record {
  meets = λ start x ts number tells e read.
      meets-chance start (g.F.Folder.state c.args.folder.now) (g.F.Folder.state c.append_chance.new.folder) (named c.args.names.now) x ts
      c.args.role c.args.self.now.turn c.requires tells read e number c.in-Ok.ensures.only c.in-Ok.ensures.ok;
  only =
      let n : TapNames = named c.args.names.now in
      OnlyPuts-one (g.F.Folder.state c.args.folder.now) (g.F.Folder.state c.append_chance.new.folder) (n.got_o ∷ n.got_a ∷ []) n.trace []
      c.in-Ok.ensures.only;
  counts = (tt, c.in-Ok.ensures.stand);
}

pub returns-in-Err : goal.returns-in-Err
returns-in-Err g c =
    let n : TapNames = named c.args.names.now in
    record {
      meets = λ start x ts number tells e read.
          stops-at-chance start (g.F.Folder.state c.args.folder.now) (g.F.Folder.state c.append_chance.new.folder)
          (named c.args.names.now) x ts c.args.role
          c.args.self.now.turn c.requires tells read e number c.in-Err.ensures.only c.in-Err.ensures.err;
      only =
          OnlyPuts-one (g.F.Folder.state c.args.folder.now) (g.F.Folder.state c.append_chance.new.folder) (n.got_o ∷ n.got_a ∷ []) n.trace
          [] c.in-Err.ensures.only;
      counts =
          let old = g.F.Folder.state c.args.folder.now in
          let new = g.F.Folder.state c.append_chance.new.folder in
          write-among old new (n.got_o ∷ n.got_a ∷ []) n.trace [] c.in-Err.fault
          (writes-fail old new n.trace c.in-Err.fault c.in-Err.ensures.cause c.in-Err.ensures.spared);
    }
