use Rattle.stations.proofs.Names.{◌∙◌, ap, is_closed, handed}
use Rattle.stations.proofs.OneEnd.Turning.{hangs-originator, hangs-answerer}
use Rattle.stations.proofs.one_end.single.Single.hangs_up.Goals as goal

pub returns-in-Originator : goal.returns-in-Originator
returns-in-Originator c = λ p slot arrived mid h.
    hangs-originator c.the_file_of_one_counts_as_far_as_it_was_read.ensures.setup c.args.self.now p slot arrived mid
    c.is_closed.result h c.in-Originator.is (c.is_closed.ensures ∙ ap is_closed (c.phase.ensures p.file (handed mid) h.station))

pub returns-in-Answerer : goal.returns-in-Answerer
returns-in-Answerer c = λ p slot arrived mid h.
    hangs-answerer c.the_file_of_one_counts_as_far_as_it_was_read.ensures.setup c.args.self.now p slot arrived mid h c.in-Answerer.is
