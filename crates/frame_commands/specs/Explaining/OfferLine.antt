-- The line that explains an offer.
use Rattle.std.specs.Prelude.{ℕ, Bool, true, false, List, ◌++◌, codes, decimal}
use Rattle.xid_params.specs.declared.offer.Offer.{Offer}

abbrev pub flag_word : Bool → List ℕ
flag_word true = codes "1"
flag_word false = codes "0"

abbrev pub offer_line : Offer → List ℕ
offer_line o =
    codes "window tx=" ++ decimal o.tx_window ++ codes " rx=" ++ decimal o.rx_window
    ++ codes " length tx=" ++ decimal o.tx_len ++ codes " rx=" ++ decimal o.rx_len
    ++ codes " srej=" ++ flag_word o.srej ++ codes " check32=" ++ flag_word o.check32 ++ codes "\n"
