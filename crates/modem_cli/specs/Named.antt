-- What the code's own value of a command and its names asks for.
use Rattle.run_inputs.specs.Words.{named as run_named}
use Rattle.signal_commands.specs.Encoding.Words.{named as encode_named}
use Rattle.signal_commands.specs.Decoding.Words.{named as decode_named}
use Rattle.signal_commands.specs.Margins.Words.{named as margin_named}
use Rattle.frame_commands.specs.Listing.Words.{named as frames_named}
use Rattle.run_commands.specs.Peering.Words.{named as peer_named}
use Rattle.link_pair.specs.Words.{named as pair_named}
use Rattle.line_tap.specs.Names.{named as tap_named}
use Rattle.trace_audit.specs.Words.{named as audit_named}
use Rattle.modem_cli.specs.declared.top.Asked.{Asked as AskedInCode}
use Rattle.modem_cli.specs.declared.top.Asked.TheVariants as code
use Rattle.modem_cli.specs.Modem.{Asked, Run, Encode, Decode, Frames, Xid, Soak, Peer, Pickup, Margin, Tap, Pair, Audit}

abbrev pub named : AskedInCode → Asked
named (code.Run names) = Run (run_named names)
named (code.Encode names) = Encode (encode_named names)
named (code.Decode names) = Decode (decode_named names)
named (code.Frames names) = Frames (frames_named names)
named (code.Xid digits) = Xid digits.now
named (code.Soak seed) = Soak seed
named (code.Peer names) = Peer (peer_named names)
named (code.Pickup rec) = Pickup rec.now
named (code.Margin names) = Margin (margin_named names)
named (code.Tap names) = Tap (tap_named names)
named (code.Pair names) = Pair (pair_named names)
named (code.Audit names) = Audit (audit_named names)
