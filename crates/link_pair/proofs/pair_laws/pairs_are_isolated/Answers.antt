use Rattle.link_pair.proofs.Names.{FaintPairsAreIsolated}
use Rattle.link_pair.proofs.Pairs.Pairing.{PairLaws, faint-pairs-are-isolated, undisplaced-pairs-are-isolated}
use Rattle.link_pair.proofs.pair_laws.pairs_are_isolated.Goals as goal

pub returns : goal.returns
returns c =
    let laws : PairLaws = record {
      links = record {
        clear = record {
          never_lost = c.faint_lines_are_never_lost.ensures.never;
          received = c.what_is_received_of_faint_lines_is_sent.ensures.nothing_else;
          all = c.what_is_received_of_faint_lines_is_sent.ensures.all;
          never_chance = c.heard_is_sent.ensures.never_chance;
          recorded = c.each_list_of_fours_is_recorded.ensures.slots;
          one = c.one_outcome.ensures.outcome;
        };
        play = c.scripts_make_links.ensures.ends;
        delays = c.scripts_make_links.ensures.delays;
        carried = c.samples_are_carried.ensures.runs;
        codable = c.slots_have_room.ensures.codable;
        octets = c.octets_are_sendable.ensures;
        judges = c.numbers_have_the_agreed_check.ensures.judges;
      };
      one = c.samples_are_carried.ensures.turn;
      heard = c.numbers_have_the_agreed_check.ensures.heard;
    } in
    let faint : FaintPairsAreIsolated = faint-pairs-are-isolated laws in
    record {
      faint = faint;
      undisplaced = undisplaced-pairs-are-isolated c.undisplaced_runs_have_faint_noise.ensures faint;
    }
