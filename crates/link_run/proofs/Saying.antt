-- Who says a UA, a DISC and a frame with numbers, and in which phase.
use Rattle.link_run.proofs.Names.{◌≡◌, ℕ, ◌≤◌, ◌||◌, Bool, true, false, cond, List, arith, refl, sym, ◌∙◌, ap, Option, Some, None, Ok, Held}
use Rattle.link_run.proofs.Names.{after_asked, false≢true, Frame, Disc, Incoming, Account, Said, frame_for, ready_frame, speak, trying}
use Rattle.link_run.proofs.Names.{is_originator, Tries, Ways, by-ways, linked-alike, tries-alike, Answer, Phase, Connected, Releasing}
use Rattle.link_account.proofs.Names.{says, nr_of}
use Rattle.link_account.specs.Speak.{says_frame}
use Rattle.link_run.proofs.Keeping.{stage}
use Rattle.link_run.proofs.Meeting.{is_ua, is_disc, is_segment, is_counted, carries, owes_ua}
use Rattle.lapm_frames.specs.declared.sent.Sent.TheVariants as slots

-- what a receiver's part has
pub record Part : Type 0 where
  pub taken : List (List ℕ)
  pub held : List Held
  pub srej : Bool
  pub numbered : Bool

abbrev pub part : Account → Part
part a = record { taken = a.incoming.taken; held = a.incoming.held; srej = a.incoming.srej; numbered = a.numbered }

-- what is said in phase p by an account that is otherwise as it was
pub record Says (p : Phase) (a : Account) (said : Said) : Type 0 where
  pub ua : carries is_ua said.sent ≡ true → owes_ua a.owes.answer ≡ true
  pub owes : owes_ua said.account.owes.answer ≡ true → owes_ua a.owes.answer ≡ true
  pub part_is : part said.account ≡ part a
  pub counted : carries is_counted said.sent ≡ true → stage p ≡ 1
  pub segment : carries is_segment said.sent ≡ true → (is_originator a.setup.role || a.numbered) ≡ true
  pub disc : carries is_disc said.sent ≡ true → 2 ≤ stage said.account.phase

-- neither UA, nor I, nor DISC
other : (p : Phase) (a : Account) (said : Said) → carries is_ua said.sent ≡ false → carries is_segment said.sent ≡ false
    → carries is_disc said.sent ≡ false → (carries is_counted said.sent ≡ true → stage p ≡ 1)
    → owes_ua said.account.owes.answer ≡ owes_ua a.owes.answer → part said.account ≡ part a → Says p a said
other p a said u s d c o e = grind (arith)

-- what an answer is, and RR or RNR
answer-is : (d : Answer) (b : Account) → (carries is_ua (frame_for d b) ≡ owes_ua (Some d)) × (carries is_counted (frame_for d b) ≡ false)
    × (carries is_segment (frame_for d b) ≡ false) × (carries is_disc (frame_for d b) ≡ false)
answer-is x b = grind (arith)

ready-is : (busy command pf : Bool) (nr : ℕ) → (carries is_ua (slots.Frame (ready_frame busy command nr pf)) ≡ false)
    × (carries is_segment (slots.Frame (ready_frame busy command nr pf)) ≡ false)
    × (carries is_disc (slots.Frame (ready_frame busy command nr pf)) ≡ false)
ready-is x command pf nr = grind (arith)

answered : (p : Phase) (a : Account) (d : Answer) (b : Account) → part b ≡ part a → a.owes.answer ≡ Some d
    → Says p a (says (frame_for d b) (record b { owes = record b.owes { answer = None } }))
answered p a d b same e = grind (arith, answer-is)

disconnects : (p : Phase) (a b : Account) → part b ≡ part a → b.owes.answer ≡ a.owes.answer → 2 ≤ stage b.phase
    → Says p a (says_frame (Disc true) b)
disconnects p a b same o later = grind (arith)

allowed : (b : Bool) (o : Option ℕ) (n : ℕ) → cond b o None ≡ Some n → b ≡ true
allowed x o n e = grind (arith)

asked-part : (n : ℕ) (i : Incoming)
    → ((after_asked n i).taken ≡ i.taken) × ((after_asked n i).held ≡ i.held) × ((after_asked n i).srej ≡ i.srej)
asked-part n i = grind (arith)

same-part : (a : Account) (t : List (List ℕ)) (h : List Held) (s : Bool) → t ≡ a.incoming.taken → h ≡ a.incoming.held → s ≡ a.incoming.srej
    → record { taken = t; held = h; srej = s; numbered = a.numbered } ≡ part a
same-part a t h s p q r = rw (p, q, r) refl

-- REJ or SREJ goes
asked : (a : Account) (n : ℕ) → part (record a { incoming = after_asked n a.incoming }) ≡ part a
asked a n = grind (arith, asked-part, same-part)

-- what is said and is neither counted nor UA, I or DISC
plain : (a : Account) (said : Said) → carries is_ua said.sent ≡ false → carries is_segment said.sent ≡ false → carries is_disc said.sent
    ≡ false
    → carries is_counted said.sent ≡ false → owes_ua said.account.owes.answer ≡ owes_ua a.owes.answer → part said.account ≡ part a
    → Says a.phase a said
plain a said u s d c o e = other a.phase a said u s d (λ z. absurd (false≢true (sym c ∙ z))) o e

u : (turn : ℕ) (a : Account) (frame : Frame) → carries is_ua (slots.Frame frame) ≡ false → carries is_segment (slots.Frame frame) ≡ false
    → carries is_disc (slots.Frame frame) ≡ false → carries is_counted (slots.Frame frame) ≡ false → Tries (Says a.phase a) turn frame a
u turn a frame h s d c = tries-alike _ turn frame a (λ w. plain a _ h s d c refl refl) (plain a _ refl refl refl refl refl refl)

ways : (turn : ℕ) (release : Bool) (a : Account) → Ways (Says a.phase a) turn release a
ways turn release a = record {
  answers = λ alone d e. answered a.phase a d a refl e;
  flags = λ alone e. plain a _ refl refl refl refl refl refl;
  mark = λ p r e. plain a _ refl refl refl refl refl refl;
  odp = λ p r e. plain a _ refl refl refl refl refl refl;
  xid = λ p r. u turn a _ refl refl refl refl;
  sabme = λ p. u turn a _ refl refl refl refl;
  linked = λ p r. linked-alike (Says a.phase a) turn a (λ count awaited w own. record {
    answers = λ d e. answered a.phase a d _ refl e;
    final = λ n e. ready p false true _ refl refl;
    poll = λ n r e. ready p true true _ refl refl;
    segment = λ b u n e. record {
      ua = λ z. absurd (false≢true z);
      owes = λ z. z;
      part_is = refl;
      counted = λ z. ap stage p;
      segment = λ z. allowed (is_originator a.setup.role || a.numbered) _ n e;
      disc = λ z. absurd (false≢true z);
    };
    brkack = λ b s word e. other a.phase a _ refl refl refl (λ z. ap stage p) refl refl;
    brk = λ b s k word e. other a.phase a _ refl refl refl (λ z. ap stage p) refl refl;
    tell = λ b w e. ready p false false _ refl refl;
    rej = λ b w n e. other a.phase a _ refl refl refl (λ z. ap stage p) refl (asked a n);
    srej = λ b w s n e. other a.phase a _ refl refl refl (λ z. ap stage p) refl (asked a n);
    flags = λ i. plain a _ refl refl refl refl refl refl;
  });
  releases = λ p r. tries-alike _ turn _ (trying Releasing turn a) (λ w. disconnects a.phase a _ refl refl (omega arith))
      (plain a _ refl refl refl refl refl refl);
  disc = λ p. tries-alike _ turn _ a (λ w. disconnects a.phase a _ refl refl (omega (arith, ap stage p)))
      (plain a _ refl refl refl refl refl refl);
}
  where
    ready : a.phase ≡ Connected → (command pf : Bool) (b : Account) → part b ≡ part a → b.owes.answer ≡ a.owes.answer
        → Says a.phase a (says_frame (ready_frame a.owes.busy command (nr_of a) pf) b)
    ready p command pf b same o = grind (arith, ready-is, nr_of, other, owes_ua)

pub is-said : (turn : ℕ) (release : Bool) (a : Account) (said : Said) → speak turn release a ≡ Ok said → Says a.phase a said
is-said turn release a said e = by-ways _ turn release a (ways turn release a) said e
