use Rattle.command_laws.proofs.Named.{frames-are-named}
use Rattle.command_laws.proofs.Picking.{PickupLaws, pickups-find-told, pickups-find-named}
use Rattle.command_laws.proofs.laws.pickups_find_what_taps_name.Goals as goal

laws-of : goal.After-middles_give_what_was_sent → PickupLaws
laws-of c = record {
  room = c.slots_have_room.ensures.room;
  slots = record {
    first = c.slots_that_fit_follow_one_another.ensures.first;
    slots = c.slots_that_fit_follow_one_another.ensures.slots;
    size = c.slots_that_fit_follow_one_another.ensures.size;
  };
  fit = record {
    more = c.slots_that_fit_follow_one_another.ensures.more;
    fits = c.codable_slots_fit.ensures.fits;
    sendable = c.codable_slots_fit.ensures.sendable;
    octets = c.codable_slots_fit.ensures.octets;
  };
  tails = c.last_pieces_are_found.ensures;
  some = c.samples_give_one_list.ensures.some;
  once = c.samples_give_one_list.ensures.once;
  later = c.later_pieces_stand_behind.ensures;
  sent = c.middles_give_what_was_sent.ensures.sent;
  kept = c.middles_give_what_was_sent.ensures.never_lost;
}

pub returns-clause-told : goal.returns-clause-told
returns-clause-told c = pickups-find-told (laws-of c)

pub returns-clause-done : goal.returns-clause-done
returns-clause-done c = pickups-find-named (laws-of c)

pub returns-clause-named : goal.returns-clause-named
returns-clause-named c = frames-are-named
