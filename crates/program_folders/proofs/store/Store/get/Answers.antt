use Rattle.std.proofs.Common.{sym, ◌∙◌, ap, Some}
use Rattle.std.specs.Option.{option_map}
use Rattle.std.specs.FinMap as finite
use Rattle.program_folders.proofs.Stored.{get-files_of}
use Rattle.program_folders.proofs.store.Store.get.Goals as goal

pub returns-in-Some : goal.returns-in-Some
returns-in-Some c =
    ap Some c.as_slice.ensures.value ∙ ap (option_map (λ v. v.items)) c.in-Some.ensures.value
    ∙ sym (get-files_of c.self.inside.files c.args.name.now) ∙ ap (λ m. finite.get m c.args.name.now) c.self.view_is

pub returns-in-None : goal.returns-in-None
returns-in-None c =
    ap (option_map (λ v. v.items)) c.in-None.ensures.value
    ∙ sym (get-files_of c.self.inside.files c.args.name.now) ∙ ap (λ m. finite.get m c.args.name.now) c.self.view_is
