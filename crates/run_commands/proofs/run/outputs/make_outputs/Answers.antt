use Rattle.run_commands.proofs.Names.{◌∙◌, inl, inr, rules, tapes_of, CountsStand-trans, FolderState, RunNames, texts_of}
use Rattle.run_inputs.specs.Words.{named, inputs_of, outputs_of}
use Rattle.line_world.proofs.Several.{keeps-front}
use Rattle.run_commands.proofs.Running.Heads.{creates-kept, creates-front, tapes-apart, creates-tapes, touches-tapes, tapes-fail}
use Rattle.run_commands.proofs.run.outputs.make_outputs.Goals as goal

pub returns-in-Err-clause-err : goal.returns-in-Err-clause-err
returns-in-Err-clause-err g c = inl c.in-Err.ensures.err

pub returns-in-Err-begin_tapes-clause-err : goal.returns-in-Err-begin_tapes-clause-err
returns-in-Err-begin_tapes-clause-err g c =
    let now : FolderState = g.F.Folder.state c.create_all.new.folder in
    let next : FolderState = g.F.Folder.state c.begin_tapes.new.folder in
    let n : RunNames = named c.args.words.now in
    inr (
      creates-kept now next (texts_of n) c.in-Err-begin_tapes.ensures.only.goes_on
          (keeps-front now next (texts_of n) (tapes_of n.tapes)
          (c.apart_names_differ.ensures.outputs (inputs_of n) (outputs_of n) c.requires)
          (assumption)) (creates-front now n c.in-Ok.ensures.ok),
      c.in-Err-begin_tapes.ensures.err,
    )

pub begin_tapes-requires-clause-apart : goal.begin_tapes-requires-clause-apart
begin_tapes-requires-clause-apart g c =
    let n : RunNames = named c.args.words.now in
    tapes-apart n (c.apart_names_differ.ensures.outputs (inputs_of n) (outputs_of n) c.requires)

pub begin_tapes-requires-clause-created : goal.begin_tapes-requires-clause-created
begin_tapes-requires-clause-created g c =
    creates-tapes (g.F.Folder.state c.create_all.new.folder) (named c.args.words.now) c.in-Ok.ensures.ok

pub returns-in-Err-clause-only : goal.returns-in-Err-clause-only
returns-in-Err-clause-only g c = c.in-Err.ensures.only

pub returns-in-Err-clause-said : goal.returns-in-Err-clause-said
returns-in-Err-clause-said g c = c.in-Err.ensures.said

pub returns-in-Err-clause-fails : goal.returns-in-Err-clause-fails
returns-in-Err-clause-fails g c = c.in-Err.ensures.fails

pub returns-in-Ok-begin_tapes : goal.returns-in-Ok-begin_tapes
returns-in-Ok-begin_tapes g c = record {
  ok = c.in-Ok-begin_tapes.ensures.ok;
  created =
      let now : FolderState = g.F.Folder.state c.create_all.new.folder in
      let next : FolderState = g.F.Folder.state c.begin_tapes.new.folder in
      let n : RunNames = named c.args.words.now in
      creates-kept now next (texts_of n) c.in-Ok-begin_tapes.ensures.only.goes_on
      (keeps-front now next (texts_of n) (tapes_of n.tapes) (c.apart_names_differ.ensures.outputs (inputs_of n) (outputs_of n) c.requires)
      (assumption)) (creates-front now n c.in-Ok.ensures.ok);
  err = search rules;
  only =
      touches-tapes (g.F.Folder.state c.args.folder.now) (g.F.Folder.state c.create_all.new.folder)
      (g.F.Folder.state c.begin_tapes.new.folder) (named c.args.words.now) c.in-Ok.ensures.only c.in-Ok-begin_tapes.ensures.only;
  said = c.in-Ok-begin_tapes.ensures.said ∙ c.in-Ok.ensures.said;
  stand = CountsStand-trans c.in-Ok.ensures.stand c.in-Ok-begin_tapes.ensures.stand;
  fails = search rules;
}

pub returns-in-Err-begin_tapes-clause-only : goal.returns-in-Err-begin_tapes-clause-only
returns-in-Err-begin_tapes-clause-only g c =
    touches-tapes (g.F.Folder.state c.args.folder.now) (g.F.Folder.state c.create_all.new.folder)
    (g.F.Folder.state c.begin_tapes.new.folder) (named c.args.words.now) c.in-Ok.ensures.only c.in-Err-begin_tapes.ensures.only

pub returns-in-Err-begin_tapes-clause-said : goal.returns-in-Err-begin_tapes-clause-said
returns-in-Err-begin_tapes-clause-said g c = c.in-Err-begin_tapes.ensures.said ∙ c.in-Ok.ensures.said

pub returns-in-Err-begin_tapes-clause-fails : goal.returns-in-Err-begin_tapes-clause-fails
returns-in-Err-begin_tapes-clause-fails g c =
    tapes-fail (g.F.Folder.state c.args.folder.now) (g.F.Folder.state c.create_all.new.folder) (g.F.Folder.state c.begin_tapes.new.folder)
    (named c.args.words.now) c.in-Err-begin_tapes.fault c.in-Ok.ensures.stand c.in-Err-begin_tapes.ensures.fails
