use Rattle.run_commands.proofs.Names.{◌∙◌, ℕ, List, length, sym, ap, on_ok_weaker, SureState}
use Rattle.std.specs.FinMap as finite
use Rattle.run_commands.proofs.soak.folder.put_file.Goals as goal

pub returns-clause-file : goal.returns-clause-file
returns-clause-file c =
    on_ok_weaker c.put.result
    (λ e. ap (λ (s : SureState). s.held) e
    ∙ ap (λ (octets : List ℕ). finite.insert c.args.folder.now.held c.args.name.now octets)
    (c.deref.ensures.value ∙ c.in_ok-file.ensures.file)) c.put.ensures.ok

pub returns-clause-size : goal.returns-clause-size
returns-clause-size c =
    on_ok_weaker c.put.result (λ e. ap (λ (octets : List ℕ). length octets) (sym c.in_ok-file.ensures.file) ∙ c.in_ok-file.ensures.size)
    c.put.ensures.ok
