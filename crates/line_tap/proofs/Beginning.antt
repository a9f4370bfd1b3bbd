-- A tap before its first turn.
use Rattle.line_tap.proofs.Cited.{◌≡◌, ℕ, ◌*◌, ◌≤◌, Bool, true, [], length, arith, min, both_sent_by, ReadsOn, TapAfter, Tapping, tapping}
use Rattle.line_tap.proofs.Cited.{line_of, terms_of, no_octets, Tap, AreWaiting, check_by, Originator, Answerer, agree, Terms}
use Rattle.xid_params.specs.declared.offer.Offer.{Offer}
use Rattle.xid_params.specs.Offers.{IsAllowed}
use Rattle.xid_params.specs.Terms.{lowered}
use Rattle.line_tap.specs.EndListener.{ListensFor}

lowered-low : (b : Bool) (n : ℕ) → 1 ≤ n → 1 ≤ lowered b n
lowered-low b n h = grind (arith)

lowered-high : (b : Bool) (n : ℕ) → n ≤ 127 → lowered b n ≤ 127
lowered-high b n h = grind (arith)

pub window-low : (o a : Offer) → IsAllowed o → IsAllowed a → 1 ≤ (agree o a).window_o
window-low o a h k = lowered-low _ (min o.tx_window a.rx_window) (omega (arith, h.tx_window_low, k.rx_window_low))

pub window-high : (o a : Offer) → IsAllowed o → IsAllowed a → (agree o a).window_o ≤ 127
window-high o a h k = lowered-high _ (min o.tx_window a.rx_window) (omega (arith, h.tx_window_high, k.rx_window_high))

-- likewise what the answerer sends
pub other-low : (o a : Offer) → IsAllowed o → IsAllowed a → 1 ≤ (agree o a).window_a
other-low o a h k = lowered-low _ (min a.tx_window o.rx_window) (omega (arith, k.tx_window_low, h.rx_window_low))

pub other-high : (o a : Offer) → IsAllowed o → IsAllowed a → (agree o a).window_a ≤ 127
other-high o a h k = lowered-high _ (min a.tx_window o.rx_window) (omega (arith, k.tx_window_high, h.rx_window_high))

-- with SREJ both are small
pub window-few : (o a : Offer) → ((agree o a).srej ≡ true → (agree o a).window_o ≤ 64)
    × ((agree o a).srej ≡ true → (agree o a).window_a ≤ 64)
window-few o a = grind (arith)

pub after-none : (tap : Tap) (terms : Terms) (x : Tapping) (symbols : ℕ) → x ≡ tapping tap.script no_octets → terms ≡ terms_of x
    → symbols ≡ (line_of x).symbols → tap.at ≡ 8 → tap.turn ≡ 0
    → ListensFor tap.orig.listener terms Originator [] → ListensFor tap.answ.listener terms Answerer []
    → ReadsOn tap.orig.reader (line_of x) (check_by terms) Originator [] []
    → ReadsOn tap.answ.reader (line_of x) (check_by terms) Answerer [] []
    → length tap.orig.piece.items ≡ 4 * symbols → length tap.answ.piece.items ≡ 4 * symbols
    → AreWaiting tap.lines (line_of x) 1 (both_sent_by 0 []) → TapAfter tap x []
after-none tap terms x symbols e same size at turn lo la ro ra po pa lines = grind (arith)
