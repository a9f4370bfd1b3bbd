-- Both ends hear in a turn of a tap, and what they took is delivered.
use Rattle.line_tap.proofs.Cited.{◌≡◌, ℕ, ◌*◌, ◌<◌, ◌≤◌, ◌^◌, List, [], ◌∷◌, length, arith, refl, ap, subst, is_some, Check, Heard, Wire}
use Rattle.line_tap.proofs.Cited.{LineEnd, ScriptsHaveDelays, sent_by, both_sent_by, Overhears, delivered, IsBehind, TapAfter, IsReady}
use Rattle.line_tap.proofs.Cited.{HearsThese, Tapping, line_of, terms_of, Tells, EndListener, Tap, given_breaks, judged_by, received}
use Rattle.line_tap.proofs.Cited.{given_to, has_passed, is_xid, opens, Turn, IsInLimits, delay_of, Both, of, Role, Originator, Answerer}
use Rattle.line_tap.proofs.Cited.{Terms}
use Rattle.lapm_frames.specs.declared.sent.Sent.TheVariants as slots
use Rattle.line_run.specs.Sampled.{EndsLineBy}
use Rattle.line_run.specs.LineLaws.{LoneSlotsAreDue, LoneSlotsAreCounted}
use Rattle.line_run.specs.Stream.{AreSent, IsDue}
use Rattle.line_world.specs.Lines.{AreDue, ArrivesBoth, HaveRoom, PassedFew, from}
use Rattle.line_world.proofs.Waiting.{passed-few}
use Rattle.line_tap.specs.EndListener.{ListensToo}

-- ---- the slots of turns that the recordings tell are due

pub all-sent : (x : Tapping) (ts : List Turn) → Tells x ts → (role : Role) → AreSent role ts
all-sent x [] h role = tt
all-sent x (t ∷ ts) h role = (ap is_some (h.0.sends role).sent_is, all-sent x ts h.1 role)

pub record LoneLaws : Type 0 where
  pub due : LoneSlotsAreDue
  pub counted : LoneSlotsAreCounted
  pub delays : ScriptsHaveDelays

due-in : LoneLaws → (x : Tapping) (ts : List Turn) → IsInLimits x.script → Tells x ts → (role : Role)
    → IsDue (line_of x) role ts (sent_by 0 role ts) (1 * delay_of x.script role)
due-in laws x ts limits tells role =
    let one : delay_of x.script role ≡ 1 * delay_of x.script role = omega arith in
    subst (IsDue (line_of x) role ts (sent_by 0 role ts)) one
    (laws.due (line_of x) role ts (λ r n. refl) (laws.delays x.script limits role) (all-sent x ts tells role))

pub are-due : LoneLaws → (x : Tapping) (ts : List Turn) → IsInLimits x.script → Tells x ts → AreDue (line_of x) 1 ts (both_sent_by 0 ts)
are-due laws x ts limits tells given = grind (arith, due-in)

pub few-turns : (tap : Tap) → IsReady tap → tap.turn < 2 ^ 40
few-turns tap h = omega (arith, h.early, h.within)

pub are-few : LoneLaws → (tap : Tap) → IsReady tap → PassedFew tap.lines
are-few laws tap h = each
  where
    short : length h.turns < 2 ^ 40
    short = subst (λ n. n < 2 ^ 40) h.after.behind.turn (few-turns tap h)

    at : (role : Role) (count : ℕ) → count ≤ length (sent_by 0 role h.turns) → count < 2 ^ 40
    at role count l = omega (arith, l, short, laws.counted 0 role h.turns (all-sent h.what h.turns h.after.behind.tells role))

    each : (role : Role) → (from role tap.lines).line.passed < 2 ^ 40
    each Originator =
        at Originator _ (passed-few tap.lines.from_orig (line_of h.what) Originator 1 (sent_by 0 Originator h.turns)
        (h.after.lines Originator))
    each Answerer =
        at Answerer _ (passed-few tap.lines.from_answ (line_of h.what) Answerer 1 (sent_by 0 Answerer h.turns) (h.after.lines Answerer))

-- ---- a listener over turns

pub listens-too : (l : EndListener) (terms : Terms) (role : Role) (ts : List Turn) (t : Turn)
    → (of role t).given ≡ given_to role ts (of role t).heard
    → Overhears l terms role (has_passed is_xid role ts) (has_passed (opens role) role ts) (delivered (received terms role ts))
    (given_breaks role ts) (of role t).heard → ListensToo l terms role ts t
listens-too l terms role ts t given h = grind (arith)

-- ---- what both ends hear

pub ends-by : (c : Wire) (ts : List Turn) (f g : Role → Check) → ((role : Role) → f role ≡ g role) → (end : LineEnd)
    → EndsLineBy c ts f end → EndsLineBy c ts g end
ends-by c ts f g e end h = grind (arith)

-- by which checks
pub checks-so : (tap : Tap) (x : Tapping) (ts : List Turn) (checks : Both Check) → TapAfter tap x ts
    → checks.orig ≡ tap.orig.listener.check → checks.answ ≡ tap.answ.listener.check
    → (role : Role) → of role checks ≡ judged_by (terms_of x) role ts
checks-so tap x ts checks h o a role = grind (arith)

pub hears-these : (tap new : Tap) (x : Tapping) (ts : List Turn) (checks : Both Check) (heard : Both Heard) → TapAfter tap x ts
    → checks.orig ≡ tap.orig.listener.check → checks.answ ≡ tap.answ.listener.check
    → ArrivesBoth (HaveRoom new.lines (line_of x) 1 (both_sent_by 0 ts)) (line_of x) ts checks heard → HearsThese x ts heard
hears-these tap new x ts checks heard h o a arrives = grind (arith, checks-so)

-- what a turn changed beside what is read
pub record SameReading (old new : Tap) : Type 0 where
  pub script : new.script ≡ old.script
  pub turn : new.turn ≡ old.turn
  pub at : new.at ≡ old.at
  pub orig : new.orig.reader ≡ old.orig.reader
  pub answ : new.answ.reader ≡ old.answ.reader
  pub orig_piece : length new.orig.piece.items ≡ length old.orig.piece.items
  pub answ_piece : length new.answ.piece.items ≡ length old.answ.piece.items

pub behind-on : (old new : Tap) (x : Tapping) (ts : List Turn) → SameReading old new → IsBehind old x ts → IsBehind new x ts
behind-on old new x ts s h = grind (arith)
