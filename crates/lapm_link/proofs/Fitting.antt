-- What two ends agree on has room in both.
use Rattle.lapm_link.proofs.Names.{◌≡◌, ℕ, ◌≤◌, Bool, true, arith, ◌&&◌, Setup, Role, Originator, Answerer, Offer}
use Rattle.std.proofs.Common.{min}
use Rattle.xid_params.specs.Offers.{IsAllowed}
use Rattle.xid_params.specs.Terms.{lowered}
use Rattle.lapm_link.specs.Fits.{Fits, agreed_by}

-- a window is at least one segment, at most what either end has, and at most 64 with SREJ
low : (srej : Bool) (x y : ℕ) → 1 ≤ x → 1 ≤ y → 1 ≤ lowered srej (min x y)
low q0 x y h k = grind (arith)

first : (srej : Bool) (x y : ℕ) → lowered srej (min x y) ≤ x
first q0 x y = grind (arith)

second : (srej : Bool) (x y : ℕ) → lowered srej (min x y) ≤ y
second q0 x y = grind (arith)

few : (srej : Bool) (w : ℕ) → srej ≡ true → lowered srej w ≤ 64
few q0 w e = grind (arith)

by_role : (r : Role) (own theirs : Offer) (tries period : ℕ) → IsAllowed own → IsAllowed theirs
    → Fits (record { role = r; offer = own; tries = tries; period = period }) (agreed_by r own theirs)
by_role Originator own theirs tries period h k = record {
  window_low = low (own.srej && theirs.srej) own.tx_window theirs.rx_window h.tx_window_low k.rx_window_low;
  window_high = first (own.srej && theirs.srej) own.tx_window theirs.rx_window;
  other_low = low (own.srej && theirs.srej) theirs.tx_window own.rx_window k.tx_window_low h.rx_window_low;
  other_high = second (own.srej && theirs.srej) theirs.tx_window own.rx_window;
  size_low = omega (arith, h.tx_len_low, k.rx_len_low);
  size_high = omega (arith, h.tx_len_high);
  selective = λ e. few (own.srej && theirs.srej) (min theirs.tx_window own.rx_window) e;
}
by_role Answerer own theirs tries period h k = record {
  window_low = low (theirs.srej && own.srej) own.tx_window theirs.rx_window h.tx_window_low k.rx_window_low;
  window_high = first (theirs.srej && own.srej) own.tx_window theirs.rx_window;
  other_low = low (theirs.srej && own.srej) theirs.tx_window own.rx_window k.tx_window_low h.rx_window_low;
  other_high = second (theirs.srej && own.srej) theirs.tx_window own.rx_window;
  size_low = omega (arith, h.tx_len_low, k.rx_len_low);
  size_high = omega (arith, h.tx_len_high);
  selective = λ e. few (theirs.srej && own.srej) (min theirs.tx_window own.rx_window) e;
}

pub fits : (setup : Setup) (theirs : Offer) → IsAllowed setup.offer → IsAllowed theirs
    → Fits setup (agreed_by setup.role setup.offer theirs)
fits setup theirs h k = by_role setup.role setup.offer theirs setup.tries setup.period h k
