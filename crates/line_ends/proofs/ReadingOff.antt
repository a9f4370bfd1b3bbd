-- What is received of a slot is read off labels that begin a nearest code sequence.
use Rattle.std.proofs.Common.{arith, ◌≡◌, ◌-◌, List, [], ◌∷◌, drop, Some, subst}
use Rattle.line_ends.proofs.Names.{Accounts, Arrives, ArrivesAs, Check, EndsBy, Heard, HeardIn, IsHeardOver, Left, LineRun, Link, Role}
use Rattle.line_ends.proofs.Names.{RunEnd, Spoken, Turn, Wire, delay_of, line_trellis, of, other, sent_ago, turns_heard}
use Rattle.exact_decoder.specs.Surviving.Laws.{ReleasedIsLeast, OfEachCode}
use Rattle.exact_decoder.proofs.Surviving.V32.{line-has-laws}
use Rattle.line_ends.specs.ReadOff.{IsReadOff, AreReadOff}

slot-read : OfEachCode ReleasedIsLeast
    → (c : Wire) (sender : Role) (earlier upto : List Turn) (hearing : Check) (slot : Spoken) (heard : Heard)
    → Arrives c sender earlier upto hearing slot heard
    → IsReadOff c sender earlier upto hearing slot heard
slot-read least c sender earlier upto hearing slot heard a = record {
  arrives = a;
  nearest = least line_trellis 8 32 2 line-has-laws a.samples a.received.gives.labels a.received.gives.released;
}

turn-read : OfEachCode ReleasedIsLeast → (c : Wire) (ts : List Turn) (t : Turn) → HeardIn c ts t → (role : Role) (slot : Spoken)
    → sent_ago (delay_of c.script (other role)) (other role) ts ≡ Some slot
    → IsReadOff c (other role) (drop (delay_of c.script (other role)) ts) (drop (delay_of c.script (other role) - 1) ts)
    (of role t).check slot (of role t).heard
turn-read least c ts t h role slot e =
    let earlier = drop (delay_of c.script (other role)) ts in
    let upto = drop (delay_of c.script (other role) - 1) ts in
    slot-read least c (other role) earlier upto (of role t).check slot (of role t).heard
    (subst (λ o. ArrivesAs c (other role) earlier upto (of role t).check o (of role t).heard) e (h role).heard_of)

pub turns-read : OfEachCode ReleasedIsLeast → (c : Wire) (ts : List Turn) → IsHeardOver c ts → AreReadOff c ts
turns-read least c [] h = tt
turns-read least c (t ∷ ts) h = (turn-read least c ts t h.0, turns-read least c ts h.1)

-- of all turns in which something was heard
pub run-read : OfEachCode ReleasedIsLeast → (c : Wire) (link : Link) (ts : List Turn) (ends : Accounts) (end : RunEnd) (left : Left)
    → LineRun c link ts ends → (e : EndsBy c link ts ends end left)
    → AreReadOff c (turns_heard c link ts ends end left e)
run-read least c link ts ends end left run e = grind (arith, turn-read, turns-read)
