-- The word of a break that an end owes and the breaks that its user is given are octets, where the frames that it hears bring octets.
use Rattle.std.proofs.Common.{◌≡◌, ℕ, ◌<◌, ◌%◌, ◌||◌, Bool, true, false, cond, nat_eq, List, [], ◌∷◌, length, arith, refl, sym, subst}
use Rattle.std.proofs.Common.{Option, Some, None, Result, Ok, Err}
use Rattle.std.proofs.lemmas.List.Elements.{All-cons, All-head, All-push, All-tail}
use Rattle.line_ends.proofs.Names.{Account, AreOctets, Frame, InOctets, LinkFault, Role, Seen, is_originator, with_given}
use Rattle.lapm_frames.specs.declared.frame.Frame.TheVariants.{I, Rr, Rnr, Rej, Srej, Sabme, Disc, Dm, Frmr, Ui}
use Rattle.xid_params.specs.declared.offer.Offer.{Offer}
use Rattle.lapm_sender.specs.Outgoing.{Outgoing, acknowledged, rejected, replied, selected}
use Rattle.break_signals.specs.declared.word.BreakWord.{BreakWord}
use Rattle.break_signals.specs.declared.word.BreakWord.TheVariants.{Brk}
use Rattle.break_signals.specs.declared.fault.BreakFault.{BreakFault}
use Rattle.break_signals.specs.Words.{spelled, word_in, IsSpelledBack}
use Rattle.lapm_frames.specs.declared.arrived.Arrived.{Arrived}
use Rattle.lapm_frames.specs.declared.arrived.Arrived.TheVariants as arrivals
use Rattle.link_account.specs.declared.phase.Phase.{Phase}
use Rattle.link_account.specs.declared.phase.Phase.TheVariants.{Detecting, Negotiating, Establishing, Connected, Releasing, Closed}
use Rattle.link_account.specs.declared.answer.Answer.TheVariants as answers
use Rattle.link_account.specs.Hear.{hear, on_frame, on_seen, on_pattern, on_detecting, on_negotiating, on_establishing, on_connected}
use Rattle.link_account.specs.Hear.{on_releasing, on_closed, on_xid_command, on_xid_response, on_number, on_disc, on_word, then_in}
use Rattle.link_account.specs.Hear.{owing, peer_reset}

abbrev pub Octet : ℕ → Type 0
Octet octet = octet < 256

-- a word of octets, if there is one
abbrev pub OfOctets : Option BreakWord → Type 0
OfOctets None = Unit {0}
OfOctets (Some word) = AreOctets (spelled word)

-- that which an end owes, and those that its user is given
abbrev pub Owes : Account → Type 0
Owes a = OfOctets a.their_breaks.ack × AreOctets a.their_breaks.lengths

-- that of a frame that arrives
abbrev pub ArrivesInOctets : Arrived → Type 0
ArrivesInOctets arrivals.Nothing = Unit {0}
ArrivesInOctets (arrivals.Pattern seen) = Unit {0}
ArrivesInOctets (arrivals.Frame frame) = InOctets frame

abbrev pub OnHeard : Result Account LinkFault → Type 0
OnHeard (Ok a) = Owes a
OnHeard (Err fault) = Unit {0}

number-owes : (a : Account) (turn nr : ℕ) (o : Option Outgoing) (f : Account → Account) → Owes a → ((b : Account) → Owes b → Owes (f b))
    → OnHeard (then_in f (on_number turn nr o a))
number-owes a turn nr o f h k = grind (arith)

one-owes : (a : Account) (turn nr : ℕ) (o : Option Outgoing) → Owes a → OnHeard (on_number turn nr o a)
one-owes a turn nr o h = grind (arith)

xid-owes : (a : Account) (o : Option Offer) → Owes a → Owes (on_xid_command o a)
xid-owes a o h = grind (arith)

response-owes : (a : Account) (turn : ℕ) (o : Option Offer) → Owes a → Owes (on_xid_response o turn a)
response-owes a turn o h = grind (arith)

detecting-owes : (a : Account) (turn : ℕ) (r : Role) (frame : Frame) → Owes a → OnHeard (on_detecting r frame turn a)
detecting-owes a turn r frame h = grind (arith, xid-owes)

negotiating-owes : (a : Account) (turn : ℕ) (r : Role) (frame : Frame) → Owes a → OnHeard (on_negotiating r frame turn a)
negotiating-owes a turn r frame h = grind (arith, response-owes, xid-owes)

establishing-owes : (a : Account) (turn : ℕ) (frame : Frame) → Owes a → OnHeard (on_establishing frame turn a)
establishing-owes a turn frame h = grind (arith)

releasing-owes : (a : Account) (frame : Frame) → Owes a → OnHeard (on_releasing frame a)
releasing-owes a frame h = grind (arith)

closed-owes : (a : Account) (frame : Frame) → Owes a → OnHeard (on_closed frame a)
closed-owes a frame h = grind (arith)

disc-owes : (a : Account) (pf : Bool) (r : Role) → Owes a → OnHeard (on_disc r pf a)
disc-owes a pf r h = grind (arith)

sabme-owes : (a : Account) (pf b : Bool) → Owes a → OnHeard (cond b (Err (peer_reset a)) (Ok (owing (answers.Ua pf) a)))
sabme-owes a pf b h = grind (arith)

-- a word
word-owes : IsSpelledBack → (a : Account) (turn : ℕ) (info : List ℕ) (w : Result BreakWord BreakFault) → word_in info ≡ w → AreOctets info
    → Owes a → Owes (on_word turn w a)
word-owes back a turn info (Ok (Brk number length_octet)) e i h =
    let all : AreOctets (64 ∷ number ∷ length_octet ∷ []) = subst AreOctets (sym (back info (Brk number length_octet) e)) i in
    let behind : AreOctets (number ∷ length_octet ∷ []) = All-tail Octet 64 (number ∷ length_octet ∷ []) all in
    let few : length_octet < 256 = All-head Octet length_octet [] (All-tail Octet number (length_octet ∷ []) behind) in
    (All-cons Octet 96 (number ∷ length_octet ∷ []) (omega arith) behind, lengths few (nat_eq number (length a.their_breaks.lengths % 2)))
  where
    lengths : length_octet < 256 → (b : Bool)
        → AreOctets (with_given (cond b (Some length_octet) None) a.their_breaks.lengths)
    lengths few true = All-push Octet a.their_breaks.lengths length_octet h.1 few
    lengths few false = h.1
word-owes back a turn info w e i h = grind (arith)

connected-owes : IsSpelledBack → (a : Account) (turn : ℕ) (frame : Frame) → InOctets frame → Owes a → OnHeard (on_connected frame turn a)
connected-owes back a turn (I ns nr pf info) i h = grind (arith, number-owes, acknowledged)
connected-owes back a turn (Rr command nr pf) i h = grind (arith, number-owes, replied, acknowledged)
connected-owes back a turn (Rnr command nr pf) i h = grind (arith, number-owes, replied, acknowledged)
connected-owes back a turn (Rej command nr pf) i h = grind (arith, number-owes, replied, rejected)
connected-owes back a turn (Srej command nr pf) i h = one-owes a turn nr (selected nr a.outgoing) h
connected-owes back a turn (Sabme pf) i h = sabme-owes a pf (a.numbered || is_originator a.setup.role) h
connected-owes back a turn (Disc pf) i h = disc-owes a pf a.setup.role h
connected-owes back a turn (Dm pf) i h = tt
connected-owes back a turn (Frmr pf info) i h = tt
connected-owes back a turn (Ui command pf info) i h = word-owes back a turn info (word_in info) refl i h
connected-owes back a turn frame i h = h

frame-owes : IsSpelledBack → (p : Phase) (a : Account) (turn : ℕ) (frame : Frame) → InOctets frame → Owes a
    → OnHeard (on_frame p frame turn a)
frame-owes back Detecting a turn frame i h = detecting-owes a turn a.setup.role frame h
frame-owes back Negotiating a turn frame i h = negotiating-owes a turn a.setup.role frame h
frame-owes back Establishing a turn frame i h = establishing-owes a turn frame h
frame-owes back Connected a turn frame i h = connected-owes back a turn frame i h
frame-owes back Releasing a turn frame i h = releasing-owes a frame h
frame-owes back Closed a turn frame i h = closed-owes a frame h

pattern-owes : (a : Account) (turn : ℕ) (r : Role) (seen : Seen) → Owes a → Owes (on_pattern r seen turn a)
pattern-owes a turn r seen h = grind (arith)

seen-owes : (p : Phase) (a : Account) (turn : ℕ) (seen : Seen) → Owes a → Owes (on_seen p seen turn a)
seen-owes p a turn seen h = grind (arith, pattern-owes)

all-owe : IsSpelledBack → (turn : ℕ) (arrived : Arrived) (a : Account) → ArrivesInOctets arrived → Owes a → OnHeard (hear turn arrived a)
all-owe back turn arrived a i h = grind (arith, seen-owes, frame-owes)

pub heard-owes : IsSpelledBack → (turn : ℕ) (arrived : Arrived) (a b : Account) → ArrivesInOctets arrived → Owes a
    → hear turn arrived a ≡ Ok b → Owes b
heard-owes back turn arrived a b i h e = subst OnHeard e (all-owe back turn arrived a i h)
