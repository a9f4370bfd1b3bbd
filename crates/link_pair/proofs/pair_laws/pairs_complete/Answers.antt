use Rattle.link_pair.proofs.Pairs.Completing.{unstarved-pairs-are-done, quiet-pairs-are-done}
use Rattle.link_pair.proofs.pair_laws.pairs_complete.Goals as goal

pub returns : goal.returns
returns c = record {
  unstarved = unstarved-pairs-are-done c.lost_links_were_starved.ensures.starved;
  quiet = quiet-pairs-are-done c.pairs_are_isolated.ensures.faint c.undisturbed_runs_complete.ensures.quiet;
}
