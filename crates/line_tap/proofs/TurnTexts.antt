-- The lines of a turn of a tap, as a trace has them.
use Rattle.line_tap.proofs.Cited.{arith, ◌≡◌, ℕ, List, ◌++◌, length, refl, Option, option_map, Heard, Chance, Sent, HearsSo, turn_in}
use Rattle.line_tap.proofs.Cited.{Tapping, Hearing, Spoken, Side, Turn, side_line, turn_text, Both, of, Role, Originator, Answerer}
use Rattle.std.proofs.Common.{◌≢◌}
use Rattle.line_texts.specs.LineText.{line_of}
use Rattle.stations.specs.Texts.{lines_of}
use Rattle.line_tap.specs.Tap.{side_in}

line-of : (turn t : ℕ) (role : Role) (heard : Heard) (sent : Option Sent) (given : Option ℕ) (s : Side) → heard ≢ Chance → turn ≡ t
    → heard ≡ s.heard
    → sent ≡ option_map (λ (slot : Spoken). slot.sent) s.sent → given ≡ s.given → line_of turn role heard sent given ≡ side_line t role s
line-of turn t role heard sent given s well n h x g = grind (arith)

pub text-is : (number : ℕ) (x : Tapping) (ts : List Turn) (h : Hearing) (sent : Option (Both Sent)) (sents : Both (Option Spoken))
    → number ≡ length ts → HearsSo x ts h → option_map (of Originator) sent ≡ option_map (λ (slot : Spoken). slot.sent) sents.orig
    → option_map (of Answerer) sent ≡ option_map (λ (slot : Spoken). slot.sent) sents.answ
    → lines_of number h.heard h.given sent ≡ turn_text (length ts) (turn_in x ts h.heard sents)
text-is number x ts h sent sents n so oe ae =
    let o = line-of number (length ts) Originator h.heard.orig (option_map (of Originator) sent) h.given.orig
    (side_in x Originator ts h.heard.orig sents.orig) (so.hears.well Originator) n refl oe so.orig in
    let a = line-of number (length ts) Answerer h.heard.answ (option_map (of Answerer) sent) h.given.answ
    (side_in x Answerer ts h.heard.answ sents.answ) (so.hears.well Answerer) n refl ae so.answ in
    λ k. o k ++ a k
