use Rattle.run_inputs.proofs.Names.{ℕ, List, [], map, Bor, CountsStand-trans, FolderState}
use Rattle.run_inputs.proofs.Looking.{opens, counts-script, counts-files, refused-script, refused-files}
use Rattle.run_inputs.proofs.inputs.open_inputs.Goals as goal

abbrev texts : List (Bor (List ℕ)) → List (List ℕ)
texts names = map (λ name. name.now) names

pub returns-in-Ok-check_lengths-clause-opened : goal.returns-in-Ok-check_lengths-clause-opened
returns-in-Ok-check_lengths-clause-opened g c =
    let old : FolderState = g.F.Folder.state c.args.folder.now in
    let mid : FolderState = g.F.Folder.state c.open_script.new.folder in
    opens c.args.limits old mid c.args.script.0.now (texts c.args.files.now) c.in-Ok.script c.in-Ok.ensures.reads c.in-Ok.ensures.opened
    c.in-Ok-check_lengths.ensures.within c.in-Ok-check_lengths.ensures.octets

pub returns-in-Err-clause-refused : goal.returns-in-Err-clause-refused
returns-in-Err-clause-refused g c =
    let old : FolderState = g.F.Folder.state c.args.folder.now in
    let new : FolderState = g.F.Folder.state c.open_script.new.folder in
    refused-script c.args.limits old new c.args.script.0.now c.args.script.1 (texts c.args.files.now) c.args.first c.in-Err.stop
    c.in-Err.ensures.refused (c.in-Err.ensures.counts [])

pub returns-in-Err-check_lengths-clause-refused : goal.returns-in-Err-check_lengths-clause-refused
returns-in-Err-check_lengths-clause-refused g c =
    let old : FolderState = g.F.Folder.state c.args.folder.now in
    let mid : FolderState = g.F.Folder.state c.open_script.new.folder in
    let new : FolderState = g.F.Folder.state c.check_lengths.new.folder in
    refused-files c.args.limits old mid new c.args.script.0.now c.args.script.1 (texts c.args.files.now) c.args.first c.in-Ok.script
    c.in-Err-check_lengths.stop c.in-Ok.ensures.reads (c.in-Ok.ensures.counts []) c.in-Ok.ensures.opened
    c.in-Err-check_lengths.ensures.refused

pub returns-in-Err-clause-counts : goal.returns-in-Err-clause-counts
returns-in-Err-clause-counts g c = λ outputs.
    let old : FolderState = g.F.Folder.state c.args.folder.now in
    let new : FolderState = g.F.Folder.state c.open_script.new.folder in
    counts-script old new c.args.script.0.now (texts c.args.files.now) outputs c.in-Err.stop (c.in-Err.ensures.counts outputs)

pub returns-in-Ok-check_lengths-clause-counts : goal.returns-in-Ok-check_lengths-clause-counts
returns-in-Ok-check_lengths-clause-counts g c = λ outputs.
    CountsStand-trans (c.in-Ok.ensures.counts outputs) (c.in-Ok-check_lengths.ensures.counts outputs)

pub returns-in-Err-check_lengths-clause-counts : goal.returns-in-Err-check_lengths-clause-counts
returns-in-Err-check_lengths-clause-counts g c = λ outputs.
    let old : FolderState = g.F.Folder.state c.args.folder.now in
    let mid : FolderState = g.F.Folder.state c.open_script.new.folder in
    let new : FolderState = g.F.Folder.state c.check_lengths.new.folder in
    counts-files old mid new c.args.script.0.now (texts c.args.files.now) outputs
    c.in-Err-check_lengths.stop (c.in-Ok.ensures.counts outputs) (c.in-Err-check_lengths.ensures.counts outputs)
