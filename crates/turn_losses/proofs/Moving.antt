-- What an originator's try sends and hears, and what ends it.
use Rattle.std.proofs.Common.{◌⊎◌, inl, inr, ◌≡◌, ℕ, ◌+◌, ◌≤◌, Bool, true, false, nat_eq, arith, refl, sym, ◌∙◌, ap, Option, Some, Ok, Err}
use Rattle.std.proofs.Common.{Result, not}
use Rattle.link_account.proofs.Names.{is_some, nat_tests, Role, Originator, Answerer, Frame, Sabme, Disc, Ua, Dm, Xid, Offer, offer_in}
use Rattle.link_account.proofs.Names.{written, Arrived, LinkFault, Account, hear, on_frame, on_nothing, trying, Said, speak, speak_linked}
use Rattle.link_account.proofs.Names.{Sent, says, frame_for, speak_in}
use Rattle.link_run.proofs.Names.{Phase, Detecting, Negotiating, Establishing, Connected, Releasing, Closed, Answer}
use Rattle.link_account.specs.Hear.{connected, on_xid_command}
use Rattle.link_account.specs.Speak.{else_says, answering, speak_answer, speak_negotiating}
use Rattle.turn_bound.proofs.MeetHear.{of_frame, of_arrived}
use Rattle.link_account.proofs.HearWays.{by-ways, numbers-alike}
use Rattle.link_account.proofs.SpeakWays.{Tries, answers_alone, by-linked, linked-so, linked-alike}
use Rattle.turn_losses.proofs.PollTurn.{SaidPoll, linked-poll}
use Rattle.lapm_frames.specs.declared.arrived.Arrived.TheVariants as arrivals
use Rattle.link_account.proofs.SpeakWays as SpeakWays
use Rattle.lapm_frames.specs.declared.sent.Sent.TheVariants as slots
use Rattle.link_account.specs.declared.answer.Answer.TheVariants as answers

-- the phases in which an originator tries a frame
abbrev pub is_trying : Phase → Bool
is_trying Negotiating = true
is_trying Establishing = true
is_trying Releasing = true
is_trying p = false

-- the frame that it tries
abbrev pub asks : Phase → Frame → Bool
asks Negotiating (Xid true pf info) = is_some (offer_in info)
asks Establishing (Sabme pf) = pf
asks Releasing (Disc pf) = pf
asks p frame = false

-- and what moves it on
abbrev pub moves_on : Phase → Frame → Bool
moves_on Negotiating (Xid false pf info) = is_some (offer_in info)
moves_on Establishing (Ua pf) = pf
moves_on Releasing (Ua pf) = pf
moves_on Releasing (Dm pf) = pf
moves_on p frame = false

-- What hearing makes of a try: it goes on, unmoved, or it begins.
abbrev pub TryGoesOn : Phase → Arrived → Account → Account → Type 0
TryGoesOn p arrived a b = (a.phase ≡ p) × (b.wait ≡ a.wait) × (of_arrived (moves_on p) arrived ≡ false)

abbrev pub TryBegins : ℕ → Phase → Account → Account → Type 0
TryBegins turn p a b = (a.phase ≡ p → ⊥) × (p ≡ Releasing → ⊥) × (b.wait.try ≡ true) × (b.wait.try_set ≡ turn) × (b.wait.try_count ≡ 0)

abbrev pub TryHeard : ℕ → Arrived → Account → Account → Type 0
TryHeard turn arrived a b = (p : Phase) → is_trying p ≡ true → b.phase ≡ p → TryGoesOn p arrived a b ⊎ TryBegins turn p a b

no-try : (turn : ℕ) (arrived : Arrived) (a b : Account) (q : Phase) → b.phase ≡ q → is_trying q ≡ false → TryHeard turn arrived a b
no-try turn arrived a b q e n = λ p t f. let wrong : true ≡ false = sym t ∙ (ap is_trying (sym f ∙ e) ∙ n) in cc

same-try : (turn : ℕ) (arrived : Arrived) (a b : Account) (q : Phase) → a.phase ≡ q → b.phase ≡ q → b.wait ≡ a.wait
    → of_arrived (moves_on q) arrived ≡ false → TryHeard turn arrived a b
same-try turn arrived a b q e f w n = grind (arith)

begins-try : (turn : ℕ) (arrived : Arrived) (a : Account) (q r : Phase) (b : Account) → a.phase ≡ q → b.phase ≡ r → (q ≡ r → ⊥)
    → (r ≡ Releasing → ⊥) → b.wait.try ≡ true → b.wait.try_set ≡ turn → b.wait.try_count ≡ 0
    → TryHeard turn arrived a b
begins-try turn arrived a q r b e f n m x y z = grind (arith)

abbrev hears-ok : Account → Result Account LinkFault
hears-ok a = Ok a

pub try-heard : (arrived : Arrived) (turn : ℕ) (a mid : Account) → a.setup.role ≡ Originator → hear turn arrived a ≡ Ok mid
    → TryHeard turn arrived a mid
try-heard arrived turn a mid r h = by-ways (λ x b. TryHeard turn x a b) turn a (record {
  nothing = same-try turn arrivals.Nothing a (on_nothing a) a.phase refl refl refl refl;
  linked = grind (arith, no-try, numbers-alike, never);
  early = grind (arith, unmoved, begins-try, trying, never, no-try, connected);
}) arrived mid h
  where
    never : {A : Type 0} → a.setup.role ≡ Answerer → A
    never q = let wrong : Originator ≡ Answerer = sym r ∙ q in cc

    -- what is ignored doesn't move the try on
    unmoved : (p : Phase) (x : Arrived) → is_trying p ≡ true → a.phase ≡ p → hear turn x a ≡ Ok a → of_arrived (moves_on p) x ≡ false
    unmoved p x t g f = grind (arith)

-- Speaking: its timer expires and the frame goes again, or it stands and the frame goes where it is due.
abbrev pub TriesAgain : Phase → ℕ → Account → Said → Type 0
TriesAgain p turn b said =
    (turn ≡ b.wait.try_set + b.setup.period) × (said.account.wait.try_set ≡ turn) × (said.account.wait.try_count ≡ b.wait.try_count + 1)
    × (of_frame (asks p) said.sent ≡ true)

abbrev pub TryStands : Phase → ℕ → Account → Said → Type 0
TryStands p turn b said =
    (turn ≡ b.wait.try_set + b.setup.period → ⊥) × (said.account.wait.try_set ≡ b.wait.try_set)
    × (said.account.wait.try_count ≡ b.wait.try_count)
    × (b.wait.try ≡ true → of_frame (asks p) said.sent ≡ true)

-- a try that begins as it is said
abbrev pub TryIsNew : Phase → ℕ → Account → Said → Type 0
TryIsNew p turn b said = (b.phase ≡ Connected) × (p ≡ Releasing) × (said.account.wait.try_set ≡ turn) × (said.account.wait.try_count ≡ 0)
    × (of_frame (asks p) said.sent ≡ true)

abbrev pub TrySaid : ℕ → Account → Said → Type 0
TrySaid turn b said = (p : Phase) → is_trying p ≡ true → said.account.phase ≡ p
    → ((b.phase ≡ p) × (TriesAgain p turn b said ⊎ TryStands p turn b said)) ⊎ TryIsNew p turn b said

pub linked-phase : (turn : ℕ) (b : Account) (said : Said) → speak_linked turn b ≡ Ok said → said.account.phase ≡ b.phase
linked-phase turn b said h = (by-linked (SaidPoll turn b) turn b (linked-poll turn b) said h).phase

pub try-says : (turn : ℕ) (release : Bool) (b : Account) (said : Said) → b.setup.role ≡ Originator → 1 ≤ b.setup.period
    → is_some (offer_in (written b.setup.offer)) ≡ true → speak turn release b ≡ Ok said
    → TrySaid turn b said
try-says turn release b said r long offers h = SpeakWays.by-ways (TrySaid turn b) turn release b (record {
  answers = λ alone d e m t f. untried b.phase refl (alone-untried b.phase b.setup.role r alone) m t f;
  flags = λ alone e m t f. untried b.phase refl (alone-untried b.phase b.setup.role r alone) m t f;
  mark = λ p q e m t f. untried Detecting p refl m t f;
  odp = λ p q l m t f. untried Detecting p refl m t f;
  xid = λ p q. tries Negotiating _ p offers;
  sabme = λ p. tries Establishing _ p refl;
  linked = λ p q. linked-so _ _ turn b (λ s k m t f. untried Connected p refl m t (sym k.phase ∙ f)) (linked-poll turn b);
  releases = grind (arith, late);
  disc = λ p. tries Releasing _ p refl;
}) said h
  where
    alone-untried : (p : Phase) (role : Role) → role ≡ Originator → answers_alone p role ≡ true → is_trying p ≡ false
    alone-untried p role e f = grind (arith)

    untried : (q : Phase) → b.phase ≡ q → is_trying q ≡ false → {A : Type 0} (p : Phase) → is_trying p ≡ true → b.phase ≡ p → A
    untried q e n p t f = let wrong : true ≡ false = sym t ∙ (ap is_trying (sym f ∙ e) ∙ n) in cc

    late : nat_eq turn (turn + b.setup.period) ≡ true → ⊥
    late x = grind (arith, nat_tests, x, long)

    tries : (q : Phase) (frame : Frame) → b.phase ≡ q → asks q frame ≡ true → Tries (TrySaid turn b) turn frame b
    tries q frame e k = grind (arith)

-- An answerer answers what an originator tries in the turn in which it hears it.

-- whether an answerer in this phase answers what is tried
abbrev pub can_answer : Phase → Phase → Bool → Bool
can_answer Negotiating Detecting numbered = true
can_answer Negotiating Negotiating numbered = true
can_answer Establishing Detecting numbered = true
can_answer Establishing Negotiating numbered = true
can_answer Establishing Connected numbered = not numbered
can_answer Releasing Connected numbered = true
can_answer Releasing Closed numbered = true
can_answer p q numbered = false

-- the answer that is due then
abbrev pub AnswerDue : Phase → Account → Type 0
AnswerDue Negotiating b = (b.phase ≡ Negotiating) × (b.owes.answer ≡ Some answers.Xid)
AnswerDue Establishing b = (b.phase ≡ Connected) × (b.owes.answer ≡ Some (answers.Ua true))
AnswerDue Releasing b = (b.phase ≡ Closed) × ((b.owes.answer ≡ Some (answers.Ua true)) ⊎ (b.owes.answer ≡ Some (answers.Dm true)))
AnswerDue Detecting b = ⊥
AnswerDue Connected b = ⊥
AnswerDue Closed b = ⊥

abbrev DueOf : Phase → Result Account LinkFault → Type 0
DueOf p (Err fault) = Unit {0}
DueOf p (Ok b) = AnswerDue p b

some-offer : (m : Option Offer) (a : Account) → is_some m ≡ true → AnswerDue Negotiating (on_xid_command m a)
some-offer b a e = grind (arith)

frame-answers : (p q : Phase) (frame : Frame) (turn : ℕ) (a : Account) → a.phase ≡ q → a.setup.role ≡ Answerer
    → can_answer p q a.numbered ≡ true → asks p frame ≡ true → DueOf p (on_frame q frame turn a)
frame-answers p q frame turn a e r c k = grind (arith, some-offer)

pub answer-due : (p : Phase) (arrived : Arrived) (turn : ℕ) (a mid : Account) → a.setup.role ≡ Answerer
    → can_answer p a.phase a.numbered ≡ true → of_arrived (asks p) arrived ≡ true → hear turn arrived a ≡ Ok mid → AnswerDue p mid
answer-due p arrived turn a mid r c k h = grind (arith, frame-answers)

-- an answer that is due goes
says-answer : (b : Account) (silence : Sent) (answer : Answer) → b.owes.answer ≡ Some answer
    → (else_says (answering b.owes.answer b) (says silence b)).sent ≡ frame_for answer b
says-answer b silence answer e = ap (λ m. (else_says (answering m b) (says silence b)).sent) e

linked-answers : (turn : ℕ) (b : Account) (said : Said) (pf : Bool) → b.owes.answer ≡ Some (answers.Ua pf) → speak_linked turn b ≡ Ok said
    → said.sent ≡ frame_for (answers.Ua pf) b
linked-answers turn b said pf e = grind (arith, by-linked, linked-alike)

pub says-due : (p : Phase) (turn : ℕ) (b : Account) (said : Said) → b.setup.role ≡ Answerer
    → is_some (offer_in (written b.setup.offer)) ≡ true → AnswerDue p b → speak turn false b ≡ Ok said
    → of_frame (moves_on p) said.sent ≡ true
says-due Negotiating turn b said r offers (e, d) h =
    let there : speak_negotiating Answerer turn b ≡ Ok said = ap (λ x. speak_negotiating x turn b) (sym r)
    ∙ (ap (λ q. speak_in q turn false b) (sym e) ∙ h) in
    let same : else_says (answering b.owes.answer b) (says slots.Flags b) ≡ said = cc in
    ap (λ s. of_frame (moves_on Negotiating) s.sent) (sym same)
    ∙ (ap (of_frame (moves_on Negotiating)) (says-answer b slots.Flags answers.Xid d) ∙ offers)
says-due Establishing turn b said r offers (e, d) h = ap (of_frame (moves_on Establishing))
    (linked-answers turn b said true d (ap (λ q. speak_in q turn false b) (sym e) ∙ h))
says-due Releasing turn b said r offers (e, d) h = go d
  where
    there : speak_answer b ≡ Ok said
    there = ap (λ q. speak_in q turn false b) (sym e) ∙ h

    same : else_says (answering b.owes.answer b) (says slots.Flags b) ≡ said
    same = let w = there in cc

    go : (b.owes.answer ≡ Some (answers.Ua true)) ⊎ (b.owes.answer ≡ Some (answers.Dm true))
        → of_frame (moves_on Releasing) said.sent ≡ true
    go (inl x) = ap (λ s. of_frame (moves_on Releasing) s.sent) (sym same)
        ∙ ap (of_frame (moves_on Releasing)) (says-answer b slots.Flags (answers.Ua true) x)
    go (inr x) = ap (λ s. of_frame (moves_on Releasing) s.sent) (sym same)
        ∙ ap (of_frame (moves_on Releasing)) (says-answer b slots.Flags (answers.Dm true) x)
says-due p turn b said r offers d h = grind (arith)
