-- What is said of all slots that were sent is true of the one that arrives.
use Rattle.std.proofs.Common.{◌≡◌, ℕ, zero, suc, ◌-◌, ◌≤◌, List, [], ◌∷◌, length, drop, subst}
use Rattle.line_ends.proofs.Names.{AllPlain, AllShort, Frame, INFO, IsPlainSent, Role, SentAgo, Spoken, Turn, information_of}
use Rattle.lapm_frames.specs.declared.sent.Sent.TheVariants as slots

-- all of the turns before the last n
plain-drop : (n : ℕ) (ts : List Turn) → AllPlain ts → AllPlain (drop n ts)
plain-drop zero ts h = h
plain-drop (suc n) [] h = tt
plain-drop (suc n) (t ∷ ts) h = plain-drop n ts h.1

short-drop : (n : ℕ) (ts : List Turn) → AllShort ts → AllShort (drop n ts)
short-drop zero ts h = h
short-drop (suc n) [] h = tt
short-drop (suc n) (t ∷ ts) h = short-drop n ts h.1

-- the slot that was sent so many turns ago
module _ (role : Role) (delay : ℕ) (ts : List Turn) (slot : Spoken) (s : SentAgo role delay ts slot) where
  pub plain-sent : AllPlain ts → IsPlainSent slot.sent
  plain-sent h = (subst AllPlain s.rest (plain-drop (delay - 1) ts h)).0 role slot s.sent

  pub short-sent : AllShort ts → (frame : Frame) → slot.sent ≡ slots.Frame frame → length (information_of frame) ≤ INFO
  short-sent h frame = (subst AllShort s.rest (short-drop (delay - 1) ts h)).0 role slot frame s.sent
