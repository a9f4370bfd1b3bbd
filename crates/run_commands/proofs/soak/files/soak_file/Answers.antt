use Rattle.run_commands.proofs.Names.{◌∙◌, ℕ, length, ap, List}
use Rattle.run_commands.proofs.Soaking.DrawnWords.{if-ok, length-drawn}
use Rattle.run_commands.proofs.soak.files.soak_file.Goals as goal

pub returns-in-Originator-clause-size : goal.returns-in-Originator-clause-size
returns-in-Originator-clause-size c =
    if-ok _ _ (λ file e. ap (λ (l : List ℕ). length l) e ∙ length-drawn c.args.seed 0 16384) c.drawn_octets.result c.drawn_octets.ensures

pub returns-in-Answerer-clause-size : goal.returns-in-Answerer-clause-size
returns-in-Answerer-clause-size c =
    if-ok _ _ (λ file e. ap (λ (l : List ℕ). length l) e
    ∙ length-drawn c.args.seed 16384 16384) c.drawn_octets-in-Answerer.result c.drawn_octets-in-Answerer.ensures
