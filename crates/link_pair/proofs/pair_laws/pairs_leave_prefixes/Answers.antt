use Rattle.link_pair.proofs.Pairs.Leaving.{LeaveLaws, pairs-leave-prefixes, done-pairs-are-whole}
use Rattle.link_pair.proofs.pair_laws.pairs_leave_prefixes.Goals as goal

pub returns : goal.returns
returns c =
    let laws : LeaveLaws = assumption (c.scripts_make_links.ensures.ends, c.samples_are_carried.ensures.runs) in
    record { prefixes = pairs-leave-prefixes laws; whole = done-pairs-are-whole laws }
