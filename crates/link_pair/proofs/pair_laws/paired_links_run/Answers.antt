use Rattle.link_pair.proofs.Pairs.Leaving.{paired-links-run, paired-links-were-starved}
use Rattle.link_pair.proofs.pair_laws.paired_links_run.Goals as goal

pub returns : goal.returns
returns c = record {
  run = paired-links-run c.samples_are_carried.ensures.runs;
  starved = paired-links-were-starved c.lost_links_were_starved.ensures.starved;
}
