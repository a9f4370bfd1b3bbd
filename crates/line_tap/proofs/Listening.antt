-- What an end is given by what it hears, and hands over.
use Rattle.line_tap.proofs.Cited.{arith, ◌≡◌, ℕ, Bool, List, ◌++◌, length, append-nil, ◌||◌, I, Ui, Passed, Incoming, Taking, StandsIn}
use Rattle.line_tap.proofs.Cited.{Listens, IsIdle, delivered, EndListener, given_in, given_by, opens, Role, Terms}
use Rattle.lapm_frames.specs.declared.sent.Sent.TheVariants as slots
use Rattle.line_tap.specs.EndListener.{HasTaken}

-- neither a segment nor a word opens a link
pub opens-no-segment : (role : Role) (ns nr : ℕ) (pf : Bool) (info : List ℕ) (b : Bool) → (opens role (I ns nr pf info) || b) ≡ b
opens-no-segment role ns nr pf info b = grind (arith)

pub opens-no-word : (role : Role) (command pf : Bool) (info : List ℕ) (b : Bool) → (opens role (Ui command pf info) || b) ≡ b
opens-no-word role command pf info b = grind (arith)

-- nor does a segment give a break
pub gives-no-segment : (connected : Bool) (ns nr : ℕ) (pf : Bool) (info lengths : List ℕ)
    → lengths ≡ lengths ++ given_in (given_by connected (Passed (slots.Frame (I ns nr pf info))) lengths)
gives-no-segment connected ns nr pf info lengths = grind (arith, append-nil)

-- ---- segments are handed over

-- what a listener knows beside its segments stays
pub listens-on : (old mid : EndListener) (new : Taking) (terms : Terms) (role : Role) (agreed connected : Bool) (i : Incoming)
    (lengths : List ℕ)
    → mid ≡ record old { receiver = mid.receiver } → StandsIn new (delivered i) → Listens old terms role agreed connected i lengths
    → Listens (record mid { receiver = new }) terms role agreed connected (delivered i) lengths
listens-on old mid new terms role agreed connected i lengths beside stands h = grind (arith)

pub idle-again : (old new : EndListener) (turns : ℕ) → new.receiver.window ≡ old.receiver.window → new.receiver.taken ≡ old.receiver.taken
    → length new.receiver.ready ≡ 0 → HasTaken old turns → IsIdle new turns
idle-again old new turns window taken none h = grind (arith)
