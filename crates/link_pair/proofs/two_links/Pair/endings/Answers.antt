use Rattle.link_pair.proofs.Names.{◌≡◌, ◌∙◌, ap, sym, Option, Some, both_ended, LinkEnd}
use Rattle.link_pair.proofs.two_links.Pair.endings.Goals as goal

pub returns-in-Some-Some : goal.returns-in-Some-Some
returns-in-Some-Some c =
    let k = c.in-Some-Some in
    let first : c.args.self.now.first.ended ≡ Some k.first = sym c.ended.ensures ∙ k.is-0 in
    let second : c.args.self.now.second.ended ≡ Some k.second = sym c.ended-2.ensures ∙ k.is-1 in
    sym (ap (λ (o : Option LinkEnd). both_ended o c.args.self.now.second.ended) first
    ∙ ap (λ (o : Option LinkEnd). both_ended (Some k.first) o) second)
