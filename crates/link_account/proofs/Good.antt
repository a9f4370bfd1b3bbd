-- What holds all through a play of two ends of ours.
use Rattle.link_account.proofs.Names.{◌≡◌, ℕ, ◌≤◌, Bool, true, false, List, [], ◌∷◌, arith, ◌∙◌, Option, Some, None, AllByRecursion, Disc}
use Rattle.link_account.proofs.Names.{Dm, Sabme, Ua, Xid, Sent, Account, Slot, Answer, Phase, Closed, Connected, Detecting, Establishing}
use Rattle.link_account.proofs.Names.{Negotiating, Releasing, Setup, Answerer, Originator, offer_in, written, agree, Terms}
use Rattle.link_account.proofs.Flow.{all_weaker}
use Rattle.link_account.proofs.Ends.{Goes, back-forgotten, line-lost}
use Rattle.link_account.proofs.Linked.{Linked, IsNumbered, IsLinked}
use Rattle.lapm_sender.specs.Outgoing as outgoing
use Rattle.lapm_receiver.specs.Incoming as incoming
use Rattle.lapm_frames.specs.declared.sent.Sent.TheVariants as slots
use Rattle.link_account.specs.declared.answer.Answer.TheVariants as answers

abbrev pub rank : Phase → ℕ
rank Detecting = 0
rank Negotiating = 1
rank Establishing = 2
rank Connected = 3
rank Releasing = 4
rank Closed = 5

-- what an originator sends, that has come so far
abbrev pub FromO : Setup → ℕ → Sent → ℕ → ℕ → Type 0
FromO so k slots.Odp n told = Unit {0}
FromO so k slots.Flags n told = Unit {0}
FromO so k slots.Mark n told = ⊥
FromO so k slots.Adp n told = ⊥
FromO so k (slots.Frame (Xid true pf info)) n told = info ≡ written so.offer
FromO so k (slots.Frame (Sabme pf)) n told = 2 ≤ k
FromO so k (slots.Frame (Disc pf)) n told = 4 ≤ k
FromO so k (slots.Frame frame) n told = IsLinked (slots.Frame frame) n told

-- what an answerer sends
abbrev pub FromA : Setup → ℕ → ℕ → Sent → ℕ → ℕ → Type 0
FromA sa k m slots.Mark n told = Unit {0}
FromA sa k m slots.Adp n told = Unit {0}
FromA sa k m slots.Flags n told = Unit {0}
FromA sa k m slots.Odp n told = ⊥
FromA sa k m (slots.Frame (Xid false pf info)) n told = (info ≡ written sa.offer) × (1 ≤ m)
FromA sa k m (slots.Frame (Ua pf)) n told = Unit {0}
FromA sa k m (slots.Frame (Dm pf)) n told = 4 ≤ k
FromA sa k m (slots.Frame frame) n told = IsLinked (slots.Frame frame) n told

abbrev pub DueA : ℕ → ℕ → Option Answer → Type 0
DueA k m None = Unit {0}
DueA k m (Some answers.Adp) = Unit {0}
DueA k m (Some answers.Xid) = 1 ≤ m
DueA k m (Some (answers.Ua pf)) = Unit {0}
DueA k m (Some (answers.Dm pf)) = 4 ≤ k

abbrev pub NotSabme : Sent → Type 0
NotSabme (slots.Frame (Sabme pf)) = ⊥
NotSabme sent = Unit {0}

abbrev pub SabmeFirst : List Slot → Type 0
SabmeFirst [] = Unit {0}
SabmeFirst (slot ∷ rest) = (IsNumbered slot.sent → AllByRecursion {X = Slot} (λ t. NotSabme t.sent) rest) × SabmeFirst rest

abbrev pub IsFresh : Account → Type 0
IsFresh a = (a.outgoing ≡ outgoing.not_begun) × (a.incoming ≡ incoming.not_begun)

abbrev pub IsBegun : ℕ → ℕ → Bool → Account → Type 0
IsBegun wo wi srej a = (a.outgoing.window ≡ wo) × (a.incoming.window ≡ wi) × (a.incoming.srej ≡ srej)

abbrev pub PlaceO : Terms → Phase → Account → Type 0
PlaceO t Detecting a = IsFresh a
PlaceO t Negotiating a = IsFresh a
PlaceO t Establishing a = IsFresh a × (a.terms ≡ t)
PlaceO t Connected a = IsBegun t.window_o t.window_a t.srej a
PlaceO t Releasing a = IsBegun t.window_o t.window_a t.srej a
PlaceO t Closed a = IsBegun t.window_o t.window_a t.srej a

abbrev pub PlaceA : Terms → Phase → Account → Type 0
PlaceA t Detecting a = IsFresh a
PlaceA t Negotiating a = IsFresh a × (a.terms ≡ t)
PlaceA t Establishing a = ⊥
PlaceA t Connected a = IsBegun t.window_a t.window_o t.srej a
PlaceA t Releasing a = ⊥
PlaceA t Closed a = IsBegun t.window_a t.window_o t.srej a

abbrev pub LineO : Setup → ℕ → List Slot → Type 0
LineO so k line = AllByRecursion {X = Slot} (λ s. FromO so k s.sent s.number s.told) line

abbrev pub LineA : Setup → ℕ → ℕ → List Slot → Type 0
LineA sa k m line = AllByRecursion {X = Slot} (λ s. FromA sa k m s.sent s.number s.told) line

abbrev pub NoneNumbered : List Slot → Type 0
NoneNumbered line = AllByRecursion {X = Slot} (λ s. IsNumbered s.sent → ⊥) line

abbrev pub NoSabme : List Slot → Type 0
NoSabme line = AllByRecursion {X = Slot} (λ s. NotSabme s.sent) line

-- the two setups of a play
pub record Deal (so sa : Setup) : Type 0 where
  pub role_o : so.role ≡ Originator
  pub role_a : sa.role ≡ Answerer
  pub read_o : offer_in (written so.offer) ≡ Some so.offer
  pub read_a : offer_in (written sa.offer) ≡ Some sa.offer

abbrev pub terms_of : Setup → Setup → Terms
terms_of so sa = agree so.offer sa.offer

-- what holds all through a play of two ends of ours
pub record Good (so sa : Setup) (o a : Account) (lo la : List Slot) : Type 0 where
  pub deal : Deal so sa
  pub setup_o : o.setup ≡ so
  pub setup_a : a.setup ≡ sa
  pub place_o : PlaceO (terms_of so sa) o.phase o
  pub place_a : PlaceA (terms_of so sa) a.phase a
  pub answer_o : o.owes.answer ≡ None
  pub answer_a : DueA (rank o.phase) (rank a.phase) a.owes.answer
  pub line_o : LineO so (rank o.phase) lo
  pub line_a : LineA sa (rank o.phase) (rank a.phase) la
  pub sabme_first : SabmeFirst lo
  pub early : rank o.phase ≤ 2 → NoneNumbered lo × (a.numbered ≡ false)
  pub numbered : a.numbered ≡ true → NoSabme lo
  pub met : rank a.phase ≡ 0 → rank o.phase ≤ 1
  pub flow_oa : Goes (terms_of so sa).window_o (terms_of so sa).srej o.outgoing a.incoming lo la
  pub flow_ao : Goes (terms_of so sa).window_a (terms_of so sa).srej a.outgoing o.incoming la lo

pub from_o-later : (so : Setup) (k m : ℕ) (sent : Sent) (n told : ℕ) → k ≤ m → FromO so k sent n told → FromO so m sent n told
from_o-later so k m sent n told e h = grind (arith)

pub from_a-later : (sa : Setup) (k m k' m' : ℕ) (sent : Sent) (n told : ℕ) → k ≤ k' → m ≤ m' → FromA sa k m sent n told
    → FromA sa k' m' sent n told
from_a-later sa k m k' m' sent n told e f h = grind (arith)

pub due-later : (k m k' m' : ℕ) (answer : Option Answer) → k ≤ k' → m ≤ m' → DueA k m answer → DueA k' m' answer
due-later k m k' m' x e f h = grind (arith)

-- the two ends as linked ends
pub linked-o : (so sa : Setup) (o a : Account) (lo la : List Slot) → Good so sa o a lo la
    → IsBegun (terms_of so sa).window_o (terms_of so sa).window_a (terms_of so sa).srej o
    → Linked (terms_of so sa).window_o (terms_of so sa).window_a (terms_of so sa).srej o a.outgoing a.incoming lo la
linked-o so sa o a lo la h b = record { own = h.flow_oa; theirs = h.flow_ao; own_window = b.0; their_window = b.1; srej_is = b.2 }

pub linked-a : (so sa : Setup) (o a : Account) (lo la : List Slot) → Good so sa o a lo la
    → IsBegun (terms_of so sa).window_a (terms_of so sa).window_o (terms_of so sa).srej a
    → Linked (terms_of so sa).window_a (terms_of so sa).window_o (terms_of so sa).srej a o.outgoing o.incoming la lo
linked-a so sa o a lo la h b = record { own = h.flow_ao; theirs = h.flow_oa; own_window = b.0; their_window = b.1; srej_is = b.2 }

-- slots are lost
pub lost-o : (so sa : Setup) (o a : Account) (slot : Slot) (lo la : List Slot) → Good so sa o a (slot ∷ lo) la → Good so sa o a lo la
lost-o so sa o a slot lo la h = record {
  deal = h.deal;
  setup_o = h.setup_o;
  setup_a = h.setup_a;
  place_o = h.place_o;
  place_a = h.place_a;
  answer_o = h.answer_o;
  answer_a = h.answer_a;
  line_o = h.line_o.1;
  line_a = h.line_a;
  sabme_first = h.sabme_first.1;
  early = λ e. ((h.early e).0.1, (h.early e).1);
  numbered = λ e. (h.numbered e).1;
  met = h.met;
  flow_oa = line-lost (terms_of so sa).window_o (terms_of so sa).srej o.outgoing a.incoming slot lo la h.flow_oa;
  flow_ao = back-forgotten (terms_of so sa).window_a (terms_of so sa).srej a.outgoing o.incoming la slot lo h.flow_ao;
}

pub lost-a : (so sa : Setup) (o a : Account) (slot : Slot) (lo la : List Slot) → Good so sa o a lo (slot ∷ la) → Good so sa o a lo la
lost-a so sa o a slot lo la h = assumption (
  back-forgotten (terms_of so sa).window_o (terms_of so sa).srej o.outgoing a.incoming lo slot la h.flow_oa,
  line-lost (terms_of so sa).window_a (terms_of so sa).srej a.outgoing o.incoming slot la lo h.flow_ao,
)

-- an end changes, in its phase or a later one, with the lines as they are
pub changed-o : (so sa : Setup) (o a : Account) (lo la : List Slot) → Good so sa o a lo la → (b : Account) → b.setup ≡ o.setup
    → b.owes.answer ≡ o.owes.answer → rank o.phase ≤ rank b.phase
    → PlaceO (terms_of so sa) b.phase b → (rank a.phase ≡ 0 → rank b.phase ≤ 1)
    → Goes (terms_of so sa).window_o (terms_of so sa).srej b.outgoing a.incoming lo la
    → Goes (terms_of so sa).window_a (terms_of so sa).srej a.outgoing b.incoming la lo → Good so sa b a lo la
changed-o so sa o a lo la h b setup answer later place met oa ao = record {
  deal = h.deal;
  setup_o = setup ∙ h.setup_o;
  setup_a = h.setup_a;
  place_o = place;
  place_a = h.place_a;
  answer_o = answer ∙ h.answer_o;
  answer_a = due-later (rank o.phase) (rank a.phase) (rank b.phase) (rank a.phase) a.owes.answer later (omega arith) h.answer_a;
  line_o = all_weaker (λ s. FromO so (rank o.phase) s.sent s.number s.told) (λ s. FromO so (rank b.phase) s.sent s.number s.told) lo
      (λ s. from_o-later so (rank o.phase) (rank b.phase) s.sent s.number s.told later) h.line_o;
  line_a = all_weaker (λ s. FromA sa (rank o.phase) (rank a.phase) s.sent s.number s.told)
      (λ s. FromA sa (rank b.phase) (rank a.phase) s.sent s.number s.told) la
      (λ s. from_a-later sa (rank o.phase) (rank a.phase) (rank b.phase) (rank a.phase) s.sent s.number s.told later (omega arith))
      h.line_a;
  sabme_first = h.sabme_first;
  early = λ e. h.early (omega (arith, e, later));
  numbered = h.numbered;
  met = met;
  flow_oa = oa;
  flow_ao = ao;
}

pub changed-a : (so sa : Setup) (o a : Account) (lo la : List Slot) → Good so sa o a lo la → (b : Account) → b.setup ≡ a.setup
    → DueA (rank o.phase) (rank b.phase) b.owes.answer → rank a.phase ≤ rank b.phase
    → PlaceA (terms_of so sa) b.phase b → (rank o.phase ≤ 2 → b.numbered ≡ false) → (b.numbered ≡ true → NoSabme lo)
    → Goes (terms_of so sa).window_o (terms_of so sa).srej o.outgoing b.incoming lo la
    → Goes (terms_of so sa).window_a (terms_of so sa).srej b.outgoing o.incoming la lo → Good so sa o b lo la
changed-a so sa o a lo la h b setup answer later place early numbered oa ao = record {
  deal = h.deal;
  setup_o = h.setup_o;
  setup_a = setup ∙ h.setup_a;
  place_o = h.place_o;
  place_a = place;
  answer_o = h.answer_o;
  answer_a = answer;
  line_o = h.line_o;
  line_a = all_weaker (λ s. FromA sa (rank o.phase) (rank a.phase) s.sent s.number s.told)
      (λ s. FromA sa (rank o.phase) (rank b.phase) s.sent s.number s.told) la
      (λ s. from_a-later sa (rank o.phase) (rank a.phase) (rank o.phase) (rank b.phase) s.sent s.number s.told (omega arith) later)
      h.line_a;
  sabme_first = h.sabme_first;
  early = λ e. ((h.early e).0, early e);
  numbered = numbered;
  met = λ e. h.met (omega (arith, e, later));
  flow_oa = oa;
  flow_ao = ao;
}
