use Rattle.link_pair.proofs.Names.{refl, [], first_dlci, after_second}
use Rattle.link_pair.proofs.two_links.Pair.new.Goals as goal

pub returns-clause-first : goal.returns-clause-first
returns-clause-first c = record {
  limits = c.is_in_limits.ensures;
  round = refl;
  first_dlci_is = c.in_ok-new.ensures.channel;
  second_dlci_is = c.in_ok-new-2.ensures.channel;
  first = c.in_ok-new.ensures.first;
  second = c.in_ok-new-2.ensures.first;
  lines = c.in_ok-new-3.ensures first_dlci (after_second []);
}
