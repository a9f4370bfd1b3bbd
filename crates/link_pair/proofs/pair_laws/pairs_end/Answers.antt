use Rattle.link_pair.proofs.Pairs.PairEnding.{each-pair-ends}
use Rattle.link_pair.proofs.pair_laws.pairs_end.Goals as goal

pub returns : goal.returns
returns c = each-pair-ends (record {
  links = record {
    clear = record {
      never_lost = c.faint_lines_are_never_lost.ensures.never;
      received = c.what_is_received_of_faint_lines_is_sent.ensures.nothing_else;
      all = c.what_is_received_of_faint_lines_is_sent.ensures.all;
      never_chance = c.heard_is_sent.ensures.never_chance;
      recorded = c.each_list_of_fours_is_recorded.ensures.slots;
      one = c.one_outcome.ensures.outcome;
    };
    play = c.scripts_make_links.ensures.ends;
    delays = c.scripts_make_links.ensures.delays;
    carried = c.samples_are_carried.ensures.runs;
    codable = c.slots_have_room.ensures.codable;
    octets = c.octets_are_sendable.ensures;
    judges = c.numbers_have_the_agreed_check.ensures.judges;
  };
  becomes = record {
    slots = record {
      recorded = c.each_list_of_fours_is_recorded.ensures.slots;
      receives = record { grow = c.recordings_grow.ensures.grow; stays = c.given_bits_stay.ensures.stay; sights = c.sights_stay.ensures };
    };
    made = c.heard_turns_are_made.ensures;
    named = c.each_turn_is_made.ensures.named;
    play = c.scripts_make_links.ensures.ends;
  };
  few = c.pairs_have_few_rounds.ensures;
})
