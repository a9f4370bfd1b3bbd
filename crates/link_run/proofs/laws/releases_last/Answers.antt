use Rattle.link_run.proofs.Overhearing.{KnowingLaws, OldLaws, releases_last}
use Rattle.link_run.proofs.Ending.{PlayLaws}
use Rattle.link_run.proofs.laws.releases_last.Goals as goal

pub returns : goal.returns
returns c =
    let knowing : KnowingLaws =
    record { reads = c.reads_allowed.ensures; keeps = c.keeps_taken.ensures; written = c.reads_written.ensures.read } in
    let plays : PlayLaws =
    assumption (c.plays.ensures.in_order, c.acknowledgements.ensures.taken, c.plays.ensures.breaks, c.acknowledgements.ensures.breaks) in
    let laws : OldLaws = assumption (
      c.numbers_on_the_line.ensures.segments,
      c.frames_on_the_line.ensures.offered,
      c.numbers_on_the_line.ensures.breaks,
    ) in
    releases_last laws
