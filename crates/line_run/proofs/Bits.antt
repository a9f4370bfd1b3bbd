-- All that a role sent, one slot more, and its bits.
use Rattle.line_run.proofs.Cited.{arith, ◌≡◌, ◌*◌, List, [], ◌∷◌, ◌++◌, Some, ap, IsAlone, Wire, bits_of, signal_in, signals}
use Rattle.line_run.proofs.Cited.{signals_before, Spoken, Turn, slot-added, bits_behind, signal_of, of, Role}

pub signals-upto : (c : Wire) (role : Role) (ts : List Turn) (slot : Spoken) (t : Turn) → (of role t).sent ≡ Some slot
    → signals c role (t ∷ ts) ≡ signals_before c role ts ++ signal_of slot.check role c.dlci slot.sent ∷ []
signals-upto c role ts slot t e = ap (λ o. signals_before c role ts ++ signal_in c role o) e

-- where nothing goes beside
pub signals-more : (c : Wire) (role : Role) (ts : List Turn) (slot : Spoken) (t : Turn) → IsAlone c → (of role t).sent ≡ Some slot
    → signals c role (t ∷ ts) ≡ signals c role ts ++ signal_of slot.check role c.dlci slot.sent ∷ []
signals-more c role ts slot t alone e = grind (arith, signals-upto)

pub bits-more : (c : Wire) (role : Role) (ts : List Turn) (slot : Spoken) (t : Turn) → IsAlone c → (of role t).sent ≡ Some slot
    → bits_of c role (t ∷ ts) ≡ bits_of c role ts ++ bits_behind (4 * c.symbols) (signals c role ts)
    (signal_of slot.check role c.dlci slot.sent)
bits-more c role ts slot t alone e = grind (arith, signals-more, slot-added)
