use Rattle.run_commands.proofs.Names.{inl, inr, ◌∙◌, [], ◌∷◌, Some, sym, rules, Holds-kept, CountsStand-trans, FolderState, Originator}
use Rattle.command_base.proofs.Creating.{WriteFails-later, WriteFails-first as first-fails, OnlyOutputs-none as touches-first}
use Rattle.line_world.proofs.Taping.{keeps-later}
use Rattle.run_commands.proofs.Running.Heads.{touches-both}
use Rattle.run_commands.proofs.run.outputs.begin_both.Goals as goal

pub returns-in-Err : goal.returns-in-Err
returns-in-Err g c = record {
  ok = search rules;
  err =
      inl (
        c.in-Err.ensures.err,
        Holds-kept _ _ c.args.names.now.answ.now [] c.in-Err.ensures.only.goes_on c.requires.created.1.0
            (c.in-Err.ensures.only.names c.args.names.now.answ.now (λ e. c.requires.apart.0.0 (sym e))),
      );
  only =
      touches-first (g.F.Folder.state c.args.folder.now) (g.F.Folder.state c.begin_tape.new.folder) c.args.names.now.orig.now
      (c.args.names.now.answ.now ∷ []) c.in-Err.ensures.only;
  said = c.in-Err.ensures.only.said;
  stand = search rules;
  fails =
      first-fails (g.F.Folder.state c.args.folder.now) (g.F.Folder.state c.begin_tape.new.folder) c.args.names.now.orig.now
      (c.args.names.now.answ.now ∷ []) c.in-Err.fault c.in-Err.ensures.fails;
}

pub returns-in-Ok-begin_tape : goal.returns-in-Ok-begin_tape
returns-in-Ok-begin_tape g c = record {
  ok =
      let z : FolderState = g.F.Folder.state c.begin_tape-2.new.folder in (
        (λ i. Some (record { orig = c.in-Ok.ensures.ok.0 i; answ = c.in-Ok-begin_tape.ensures.ok.0 i })),
        λ channel. (
          keeps-later c.in-Ok.orig _ z channel Originator [] c.in-Ok-begin_tape.ensures.only.goes_on
              (c.in-Ok-begin_tape.ensures.only.names c.in-Ok.orig.name.now (λ e. c.requires.apart.0.0 (sym c.in-Ok.ensures.ok.0 ∙ e)))
              (c.in-Ok.ensures.ok.1 channel),
          c.in-Ok-begin_tape.ensures.ok.1 channel,
        ),
      );
  err = search rules;
  only =
      touches-both (g.F.Folder.state c.args.folder.now) (g.F.Folder.state c.begin_tape.new.folder)
      (g.F.Folder.state c.begin_tape-2.new.folder) c.args.names.now.orig.now c.args.names.now.answ.now c.in-Ok.ensures.only
      c.in-Ok-begin_tape.ensures.only;
  said = c.in-Ok-begin_tape.ensures.only.said ∙ c.in-Ok.ensures.only.said;
  stand = CountsStand-trans c.in-Ok.ensures.stand c.in-Ok-begin_tape.ensures.stand;
  fails = search rules;
}

pub returns-in-Err-begin_tape : goal.returns-in-Err-begin_tape
returns-in-Err-begin_tape g c = record {
  ok = search rules;
  err =
      inr (
        Holds-kept _ _ c.args.names.now.orig.now _ c.in-Err-begin_tape.ensures.only.goes_on c.in-Ok.ensures.head
            (c.in-Err-begin_tape.ensures.only.names c.args.names.now.orig.now c.requires.apart.0.0),
        c.in-Err-begin_tape.ensures.err,
      );
  only =
      touches-both (g.F.Folder.state c.args.folder.now) (g.F.Folder.state c.begin_tape.new.folder)
      (g.F.Folder.state c.begin_tape-2.new.folder) c.args.names.now.orig.now c.args.names.now.answ.now c.in-Ok.ensures.only
      c.in-Err-begin_tape.ensures.only;
  said = c.in-Err-begin_tape.ensures.only.said ∙ c.in-Ok.ensures.only.said;
  stand = search rules;
  fails =
      WriteFails-later (g.F.Folder.state c.args.folder.now) (g.F.Folder.state c.begin_tape.new.folder)
      (g.F.Folder.state c.begin_tape-2.new.folder) c.args.names.now.orig.now (c.args.names.now.answ.now ∷ []) c.in-Err-begin_tape.fault
      c.in-Ok.ensures.stand c.in-Err-begin_tape.ensures.fails;
}
