use Rattle.std.proofs.Common.{◌∙◌, ℕ, List, map, sym, subst}
use Rattle.std.specs.Prelude.{string_bytes}
use Rattle.outside_calls.specs.Folder.{FolderState}
use Rattle.command_base.specs.declared.status.Status.TheVariants.{Usage}
use Rattle.command_base.specs.Tells.{Tells}
use Rattle.modem_cli.specs.Modem.{Asked, promise}
use Rattle.modem_cli.proofs.top.modem.Goals as goal

pub returns-in-Some-clause-headline : goal.returns-in-Some-clause-headline
returns-in-Some-clause-headline g c =
    let old : FolderState = g.F.Folder.state c.args.folder.now in
    let new : FolderState = g.F.Folder.state c.answer.new.folder in
    subst (λ (it : Asked). (promise it).Headline old new c.answer.result) (sym c.in-Some.ensures.names) c.answer.ensures.headline

pub returns-in-Some-clause-answer : goal.returns-in-Some-clause-answer
returns-in-Some-clause-answer g c =
    let old : FolderState = g.F.Folder.state c.args.folder.now in
    let new : FolderState = g.F.Folder.state c.answer.new.folder in
    subst (λ (it : Asked). (promise it).Answer (map string_bytes c.args.words.now) old new c.answer.result) (sym c.in-Some.ensures.names)
    c.answer.ensures.answer

pub returns-in-Some-clause-completes : goal.returns-in-Some-clause-completes
returns-in-Some-clause-completes g c =
    let old : FolderState = g.F.Folder.state c.args.folder.now in
    let new : FolderState = g.F.Folder.state c.answer.new.folder in
    subst (λ (it : Asked). (promise it).Completes old new c.answer.result) (sym c.in-Some.ensures.names) c.answer.ensures.completes

pub returns-in-Some-clause-stand : goal.returns-in-Some-clause-stand
returns-in-Some-clause-stand g c = c.answer.ensures.stand

pub returns-in-Some-clause-usage : goal.returns-in-Some-clause-usage
returns-in-Some-clause-usage g c = λ e. absurd (c.answer.ensures.usage e)

pub returns-in-None-clause-headline : goal.returns-in-None-clause-headline
returns-in-None-clause-headline g c =
    let old : FolderState = g.F.Folder.state c.args.folder.now in
    let new : FolderState = g.F.Folder.state c.tell.new.folder in
    subst (λ (it : Asked). (promise it).Headline old new c.tell.result) (sym c.in-None.ensures.names) c.tell.ensures.only.names

pub returns-in-None-clause-answer : goal.returns-in-None-clause-answer
returns-in-None-clause-answer g c =
    let old : FolderState = g.F.Folder.state c.args.folder.now in
    let new : FolderState = g.F.Folder.state c.tell.new.folder in
    subst (λ (it : Asked). (promise it).Answer (map string_bytes c.args.words.now) old new c.tell.result) (sym c.in-None.ensures.names)
    (subst (λ (line : List ℕ). Tells old new line Usage c.tell.result) (c.as_slice.ensures.items ∙ c.usage.ensures) c.tell.ensures)
