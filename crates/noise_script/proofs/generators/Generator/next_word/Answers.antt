use Rattle.noise_script.proofs.Names.{◌∙◌, ap, increment_of}
use Rattle.noise_script.proofs.Generated.{one-on}
use Rattle.noise_script.proofs.generators.Generator.next_word.Goals as goal

pub invariant_of-self : goal.invariant_of-self
invariant_of-self c =
    let before = c.args.self.now in
    let from_is = c.from_state-words.ensures
    ∙ ap (λ stream. record { state = before.state; increment = increment_of 64 stream }) c.stream_of.ensures in
    assumption (one-on _ _ _ _ _ _ _ _ before.stands from_is c.next_word-word.ensures c.state-self.ensures)
