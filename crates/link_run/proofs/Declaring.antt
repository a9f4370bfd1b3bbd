-- What an end says by U frames, and in which phase: its own offer, its commands with P = 1, and the answers that it owes.
use Rattle.link_run.proofs.Names.{arith, ◌≡◌, ◌⊎◌, inl, ℕ, Bool, true, false, Option, Some, None, Ok, Originator, Frame, Sabme, Disc, Ua}
use Rattle.link_run.proofs.Names.{Xid, written, Sent, Account, Said, speak, frame_for, ready_frame, trying, Tries, Ways, by-ways}
use Rattle.link_run.proofs.Names.{linked-alike, tries-alike, Answer, Phase, Establishing, Negotiating, Setup}
use Rattle.lapm_frames.specs.declared.sent.Sent.TheVariants as slots
use Rattle.link_account.specs.declared.answer.Answer.TheVariants as answers

-- a frame that an end in this phase, with this answer due, may send
abbrev pub OwnFrame : Setup → Option Answer → Phase → Frame → Type 0
OwnFrame s due p (Xid true pf info) = (info ≡ written s.offer) × (p ≡ Negotiating) × (s.role ≡ Originator)
OwnFrame s due p (Xid false pf info) = (info ≡ written s.offer) × (due ≡ Some answers.Xid)
OwnFrame s due p (Sabme pf) = (pf ≡ true) × (p ≡ Establishing)
OwnFrame s due p (Disc pf) = pf ≡ true
OwnFrame s due p (Ua pf) = due ≡ Some (answers.Ua pf)
OwnFrame s due p frame = Unit {0}

abbrev pub OwnSent : Setup → Option Answer → Phase → Sent → Type 0
OwnSent s due p slots.Mark = Unit {0}
OwnSent s due p slots.Odp = Unit {0}
OwnSent s due p slots.Adp = Unit {0}
OwnSent s due p slots.Flags = Unit {0}
OwnSent s due p (slots.Frame frame) = OwnFrame s due p frame

-- what is said in phase p by an account that is otherwise as it was
pub record Declares (p : Phase) (a : Account) (said : Said) : Type 0 where
  pub own : OwnSent a.setup a.owes.answer p said.sent
  pub left : (said.account.owes.answer ≡ a.owes.answer) ⊎ (said.account.owes.answer ≡ None)

module _ (a : Account) where
  abbrev P : Said → Type 0
  P = Declares a.phase a

  own-answer : (d : Answer) (p : Phase) (b : Account) → b.setup.offer ≡ a.setup.offer → OwnSent a.setup (Some d) p (frame_for d b)
  own-answer x p b e = grind (arith)

  answer : (d : Answer) (b : Account) (left : Option Answer) → b.setup.offer ≡ a.setup.offer → a.owes.answer ≡ Some d
      → OwnSent a.setup a.owes.answer a.phase (frame_for d b)
  answer d b left o e = rw e (own-answer d a.phase b o)

  ready : (s : Setup) (due : Option Answer) (p : Phase) (busy command pf : Bool) (nr : ℕ) → OwnFrame s due p
      (ready_frame busy command nr pf)
  ready s due p busy command pf nr = grind (arith)

  plain : {said : Said} → OwnSent a.setup a.owes.answer a.phase said.sent → said.account.owes.answer ≡ a.owes.answer → P said
  plain own e = record { own = own; left = inl e }

  u : (turn : ℕ) (frame : Frame) (b : Account) → b.owes.answer ≡ a.owes.answer → OwnFrame a.setup a.owes.answer a.phase frame
      → Tries P turn frame b
  u turn frame b e own = tries-alike P turn frame b (λ w. record { own = own; left = inl e }) (record { own = tt; left = inl e })

  ways : (turn : ℕ) (release : Bool) → Ways P turn release a
  ways turn release = grind (arith, answer, plain, linked-alike, ready, trying)

pub is-declared : (turn : ℕ) (release : Bool) (a : Account) (said : Said) → speak turn release a ≡ Ok said → Declares a.phase a said
is-declared turn release a said e = by-ways _ turn release a (ways a turn release) said e
