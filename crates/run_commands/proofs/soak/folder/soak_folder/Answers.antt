use Rattle.run_commands.proofs.Names.{◌∙◌, refl, ap, Files, soak_names, soak_file, Originator, Answerer}
use Rattle.std.specs.FinMap as finite
use Rattle.run_commands.proofs.Soaking.Filling.{both-put}
use Rattle.run_commands.proofs.soak.folder.soak_folder.Goals as goal

pub returns : goal.returns
returns c =
    both-put c.put_file-2.new.folder c.args.seed c.new-folder.result.held (soak_file c.args.seed Originator)
    (soak_file c.args.seed Answerer)
    (c.in_ok-put_file-2.ensures.file
    ∙ ap (λ (h : Files). finite.insert h soak_names.answ (soak_file c.args.seed Answerer)) c.in_ok-put_file.ensures.file)
    refl c.in_ok-put_file.ensures.size refl c.in_ok-put_file-2.ensures.size
