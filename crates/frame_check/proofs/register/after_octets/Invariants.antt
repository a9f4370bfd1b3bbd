use Rattle.frame_check.proofs.Names.{ℕ, Bool, List, take, bits_of, remainder_from, Divides, Holds}
use Rattle.frame_check.proofs.register.after_octets.Given as goal

abbrev pub invariant-loop-octet : goal.invariant-loop-octet
invariant-loop-octet l = (width : ℕ) (generator remainder : List Bool) → Divides width l.fours generator
    → Holds width l.fn.register remainder
    → Holds width l.after (remainder_from width generator remainder (bits_of (take l.octet-index l.octets)))
