use Rattle.line_ends.proofs.Names.{EachSlotBecomes}
use Rattle.line_ends.proofs.EachEnds.{SlotLaws, each-slot-becomes, each-turn-is-decided}
use Rattle.line_ends.proofs.laws.turns_are_decided.Goals as goal

pub returns : goal.returns
returns c =
    let laws : SlotLaws = assumption (
      c.scripts_make_links.ensures.delays,
      c.slots_have_room.ensures.room,
      c.slots_have_room.ensures.codable,
      c.each_list_of_fours_is_recorded.ensures.slots,
      c.recordings_grow.ensures.grow,
      c.given_bits_stay.ensures.stay,
      c.sights_stay.ensures,
      c.octets_are_sendable.ensures,
    ) in
    let slots : EachSlotBecomes = each-slot-becomes laws in
    record { slot = slots; turn = each-turn-is-decided slots c.heard_turns_are_made.ensures }
