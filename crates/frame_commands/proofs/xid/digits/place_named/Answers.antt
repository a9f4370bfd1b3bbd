use Rattle.frame_commands.proofs.Names.{sym, ap, place_named}
use Rattle.frame_commands.proofs.xid.digits.place_named.Goals as goal

pub returns-in-InvalidHexCharacter : goal.returns-in-InvalidHexCharacter
returns-in-InvalidHexCharacter c = sym (ap (place_named c.args.count) c.in-InvalidHexCharacter.is)
