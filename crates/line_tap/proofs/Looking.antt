-- Slots that are read in a turn.
use Rattle.line_tap.proofs.Cited.{ℕ, List, arith, Check, signals-more, ReadsNext, Slot, ReadsToo, Tapping, line_of, SlotReader, Turn, Role}

pub reads-too : (r : SlotReader) (x : Tapping) (check : Check) (role : Role) (ts : List Turn) (body : List ℕ) (slot : Slot)
    → ReadsNext r (line_of x) check role ts body slot → ReadsToo r (line_of x) check role ts body slot
reads-too r x check role ts body slot k = grind (arith, signals-more)
