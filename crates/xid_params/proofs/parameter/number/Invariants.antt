use Rattle.xid_params.proofs.Names.{◌≡◌, ◌<◌, ◌^◌, take, number_of}
use Rattle.xid_params.proofs.parameter.number.Given as goal

abbrev pub invariant-loop-octet : goal.invariant-loop-octet
invariant-loop-octet l = record { spelled : l.number ≡ number_of (take l.octet-index l.octets); small : l.number < 256 ^ l.octet-index }
