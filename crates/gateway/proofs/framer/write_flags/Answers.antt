use Rattle.gateway.proofs.Names.{◌*◌, ◌-◌, ◌≤◌, length, opening, slot_bits, Flags}
use Rattle.std.specs.Option.{option_copied}
use Rattle.detection.proofs.Wholes.{whole-slot}
use Rattle.gateway.proofs.Slotted.{fits-room, flags-slot}
use Rattle.gateway.proofs.framer.write_flags.Goals as goal

pub slot-requires-clause-room : goal.slot-requires-clause-room
slot-requires-clause-room c = fits-room c.args.writer.now.symbols c.args.writer.now.phase (option_copied c.args.frame) c.requires.phase
    c.requires.low c.requires.fits
    c.opening_is_short.ensures.without c.opening_is_short.ensures.with_frame

pub returns-clause-count : goal.returns-clause-count
returns-clause-count c =
    let symbols = c.args.writer.now.symbols in let phase = c.args.writer.now.phase in let frame = option_copied c.args.frame in
    let room : length (opening phase frame) ≤ 4 * (symbols - 128) = fits-room symbols phase frame c.requires.phase c.requires.low
    c.requires.fits
    c.opening_is_short.ensures.without c.opening_is_short.ensures.with_frame in
    whole-slot c.slot.new.out (slot_bits (4 * symbols) phase (Flags frame)) symbols c.slot.ensures.bits
    (c.slots_have_size.ensures.size (4 * symbols) phase (Flags frame) (flags-slot symbols phase frame c.requires.fits room))
