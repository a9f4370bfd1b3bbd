use Rattle.gateway.proofs.Histories.{HistoryLaws, histories_are_plays, histories_keep_prefixes, speaking_breaks_for_want}
use Rattle.gateway.proofs.Histories.{hearing_never_breaks}
use Rattle.gateway.proofs.laws.histories.Goals as goal

pub returns : goal.returns
returns c =
    let laws : HistoryLaws =
    record {
      exists = c.one_checked.ensures.exists;
      one = c.one_checked.ensures.one_frame;
      keeps = c.keeps_taken.ensures;
      written = c.reads_written.ensures.read;
    } in
    record {
      plays = histories_are_plays laws;
      prefixes = histories_keep_prefixes laws c.plays.ensures.in_order;
      speaking = speaking_breaks_for_want laws c.plays.ensures.faults;
      hearing = hearing_never_breaks laws c.plays.ensures.faults;
    }
