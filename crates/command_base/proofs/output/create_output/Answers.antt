use Rattle.command_base.proofs.Creating.{kept-or-made, made-empty, write-fails}
use Rattle.command_base.proofs.output.create_output.Goals as goal

pub returns-in-Ok : goal.returns-in-Ok
returns-in-Ok g c = record {
  ok = made-empty _ _ c.args.name.now c.in-Ok.ensures.only c.in-Ok.ensures.ok;
  err = tt;
  only = c.in-Ok.ensures.only;
  fails = tt;
  stand = c.in-Ok.ensures.stand;
}

pub returns-in-Err : goal.returns-in-Err
returns-in-Err g c = record {
  ok = tt;
  err = kept-or-made _ _ c.args.name.now c.in-Err.ensures.only c.in-Err.ensures.err;
  only = c.in-Err.ensures.only;
  fails = write-fails (g.F.Folder.state c.args.folder.now) (g.F.Folder.state c.create.new.self) c.args.name.now c.in-Err.fault
      c.in-Err.ensures.cause c.in-Err.ensures.spared;
  stand = tt;
}
