-- What two offers come to.
use Rattle.std.specs.Prelude.{ℕ, min, Bool, false, if◌then◌else◌, ◌&&◌}
use Rattle.xid_params.specs.declared.offer.Offer.{Offer}
use Rattle.xid_params.specs.declared.terms.Terms.{Terms}

-- with SREJ a window is at most 64
abbrev pub lowered : Bool → ℕ → ℕ
lowered srej window = if srej then min window 64 else window

-- for each direction the smaller of the sender's transmit and the receiver's receive value; a function where both offer it
abbrev pub agree : Offer → Offer → Terms
agree o a = record {
  srej = o.srej && a.srej;
  check32 = o.check32 && a.check32;
  len_o = min o.tx_len a.rx_len;
  len_a = min a.tx_len o.rx_len;
  window_o = lowered (o.srej && a.srej) (min o.tx_window a.rx_window);
  window_a = lowered (o.srej && a.srej) (min a.tx_window o.rx_window);
}

abbrev pub default_offer : Offer
default_offer = record { srej = false; check32 = false; tx_len = 128; rx_len = 128; tx_window = 15; rx_window = 15 }
