-- What is known of both ends by the frames that passed: who has heard an XID frame has agreed, and who has heard a UA or a SABME is
-- Connected.
use Rattle.std.proofs.Common.{inl, inr, ◌≡◌, ◌≢◌, ℕ, zero, suc, ◌-◌, ◌≤◌, ◌||◌, Bool, true, false, cond, nat_le, List, [], ◌∷◌, arith, refl}
use Rattle.std.proofs.Common.{sym, ◌∙◌, ap, Option, Some, None, Result, Ok, Err, slice_get}
use Rattle.link_account.proofs.Names.{false≢true, Role, Originator, Answerer, of, Frame, I, Rr, Rnr, Rej, Srej, Sabme, Disc, Ua, Xid, Terms}
use Rattle.link_account.proofs.Names.{agree, offer_in, written, Arrived, Sent, Heard, LinkFault, is_originator, Offer, Account, hear}
use Rattle.link_account.proofs.Names.{without_adp, arrives}
use Rattle.link_run.proofs.Names.{Answer, Closed, Connected, ConnectedWays, Crosses, Detecting, EarlyWays, Establishing, Negotiating, Phase}
use Rattle.link_run.proofs.Names.{Releasing, Setup, Spoken, Turn, arrival, first_terms, is_xid, opens, passes_in, sent_ago, sent_in}
use Rattle.link_account.proofs.HearWays.{by-ways}
use Rattle.link_run.proofs.Meeting.{brings}
use Rattle.lapm_frames.specs.declared.arrived.Arrived.TheVariants as arrivals
use Rattle.lapm_frames.specs.declared.sent.Sent.TheVariants as slots
use Rattle.link_account.specs.declared.answer.Answer.TheVariants as answers

-- how far an end has come
pub record Course : Type 0 where
  pub phase : Phase
  pub terms : Terms
  pub answer : Option Answer

abbrev pub course : Account → Course
course a = record { phase = a.phase; terms = a.terms; answer = a.owes.answer }

-- how far a phase is
abbrev pub rank : Phase → ℕ
rank Detecting = 0
rank Negotiating = 1
rank Establishing = 2
rank Connected = 3
rank Releasing = 4
rank Closed = 5

-- all frames that a role sent in these turns
abbrev pub OnSent : (Frame → Type 0) → Sent → Type 0
OnSent P slots.Mark = Unit {0}
OnSent P slots.Odp = Unit {0}
OnSent P slots.Adp = Unit {0}
OnSent P slots.Flags = Unit {0}
OnSent P (slots.Frame frame) = P frame

abbrev pub IfSent : (Frame → Type 0) → Option Spoken → Type 0
IfSent P None = Unit {0}
IfSent P (Some slot) = OnSent P slot.sent

abbrev pub AllSent : (Frame → Type 0) → Role → List Turn → Type 0
AllSent P role [] = Unit {0}
AllSent P role (t ∷ ts) = IfSent P (of role t).sent × AllSent P role ts

abbrev pub OnArrived : (Frame → Type 0) → Arrived → Type 0
OnArrived P arrivals.Nothing = Unit {0}
OnArrived P (arrivals.Pattern seen) = Unit {0}
OnArrived P (arrivals.Frame frame) = P frame

sent-weaker : (P Q : Frame → Type 0) → ((frame : Frame) → P frame → Q frame) → (o : Option Spoken) → IfSent P o → IfSent Q o
sent-weaker P Q f o h = grind (arith)

pub all-weaker : (P Q : Frame → Type 0) → ((frame : Frame) → P frame → Q frame) → (role : Role) (ts : List Turn) → AllSent P role ts
    → AllSent Q role ts
all-weaker P Q f role [] h = tt
all-weaker P Q f role (t ∷ ts) h = (sent-weaker P Q f (of role t).sent h.0, all-weaker P Q f role ts h.1)

pub ago-all : (P : Frame → Type 0) (role : Role) (k : ℕ) (ts : List Turn) → AllSent P role ts → IfSent P (sent_in role (slice_get ts k))
ago-all P role k [] h = tt
ago-all P role zero (t ∷ ts) h = h.0
ago-all P role (suc k) (t ∷ ts) h = ago-all P role k ts h.1

on-arrives : (P : Frame → Type 0) (s : Sent) → OnSent P s → OnArrived P (arrives s)
on-arrives P s h = grind (arith)

brought-all : (P : Frame → Type 0) (o : Option Spoken) (h : Heard) → Crosses o h → IfSent P o → OnArrived P (arrival h)
brought-all P o h c k = grind (arith, on-arrives)

-- what arrives was sent
pub came-all : (P : Frame → Type 0) (delay : Role → ℕ) (role : Role) (ts : List Turn) (h : Heard) → AllSent P role ts
    → Crosses (sent_ago (delay role) role ts) h → OnArrived P (arrival h)
came-all P delay role ts h k c = brought-all P (sent_ago (delay role) role ts) h c (ago-all P role (delay role - 1) ts k)

pub passed-brings : (is : Frame → Bool) (h : Heard) → passes_in is h ≡ brings is (arrival h)
passed-brings is x = grind (arith)

-- what the originator sends, once it is as far as r
abbrev pub SentO : Setup → ℕ → Frame → Type 0
SentO so r (Xid command pf info) = (command ≡ true) × (info ≡ written so.offer) × (1 ≤ r)
SentO so r (Sabme pf) = (pf ≡ true) × (2 ≤ r)
SentO so r (Disc pf) = (pf ≡ true) × (4 ≤ r)
SentO so r (I ns nr pf info) = 2 ≤ r
SentO so r (Rr command nr pf) = 2 ≤ r
SentO so r (Rnr command nr pf) = 2 ≤ r
SentO so r (Rej command nr pf) = 2 ≤ r
SentO so r (Srej command nr pf) = 2 ≤ r
SentO so r frame = Unit {0}

-- what the answerer sends, once they are as far as r and m
abbrev pub SentA : Setup → ℕ → ℕ → Frame → Type 0
SentA sa r m (Xid command pf info) = (command ≡ false) × (info ≡ written sa.offer) × (1 ≤ r) × (1 ≤ m)
SentA sa r m (Ua pf) = (pf ≡ true) × (2 ≤ r)
SentA sa r m (I ns nr pf info) = 2 ≤ r
SentA sa r m (Rr command nr pf) = 2 ≤ r
SentA sa r m (Rnr command nr pf) = 2 ≤ r
SentA sa r m (Rej command nr pf) = 2 ≤ r
SentA sa r m (Srej command nr pf) = 2 ≤ r
SentA sa r m frame = Unit {0}

pub sent_o-later : (so : Setup) (r s : ℕ) → r ≤ s → (frame : Frame) → SentO so r frame → SentO so s frame
sent_o-later so r s l frame h = grind (arith)

pub sent_a-later : (sa : Setup) (r m s n : ℕ) → r ≤ s → m ≤ n → (frame : Frame) → SentA sa r m frame → SentA sa s n frame
sent_a-later sa r m s n l k frame h = grind (arith)

-- the answers that may be due
abbrev pub DueO : Option Answer → Type 0
DueO None = Unit {0}
DueO (Some answers.Adp) = Unit {0}
DueO (Some answers.Xid) = ⊥
DueO (Some (answers.Ua pf)) = Unit {0}
DueO (Some (answers.Dm pf)) = Unit {0}

abbrev pub DueA : ℕ → ℕ → Option Answer → Type 0
DueA r m None = Unit {0}
DueA r m (Some answers.Adp) = Unit {0}
DueA r m (Some answers.Xid) = (1 ≤ r) × (1 ≤ m)
DueA r m (Some (answers.Ua pf)) = (pf ≡ true) × (2 ≤ r)
DueA r m (Some (answers.Dm pf)) = Unit {0}

pub due_a-later : (r m s n : ℕ) → r ≤ s → m ≤ n → (o : Option Answer) → DueA r m o → DueA s n o
due_a-later r m s n l k x h = grind (arith)

due_o-without : (o : Option Answer) → DueO o → DueO (without_adp o)
due_o-without o h = grind (arith)

due_a-without : (r m : ℕ) (o : Option Answer) → DueA r m o → DueA r m (without_adp o)
due_a-without r m o h = grind (arith)

abbrev pub terms_of : Setup → Setup → Terms
terms_of so sa = agree so.offer sa.offer

-- the offers are read as they are written
pub record Reads (so sa : Setup) : Type 0 where
  pub orig : offer_in (written so.offer) ≡ Some so.offer
  pub answ : offer_in (written sa.offer) ≡ Some sa.offer

or-late : (b n : Bool) → n ≡ true → n ≡ (b || n)
or-late x n e = grind (arith)

abbrev rank_of : ℕ → Result Account LinkFault → ℕ
rank_of n (Ok b) = rank b.phase
rank_of n (Err fault) = n

-- what is heard takes the end to another phase
not-ignored : (turn : ℕ) (x : Arrived) (a b : Account) → hear turn x a ≡ Ok a → hear turn x a ≡ Ok b → rank b.phase ≢ rank a.phase → ⊥
not-ignored turn x a b e f n = n (ap (rank_of 0) (sym f ∙ e))

-- the originator has heard
pub record AfterO (so sa : Setup) (m : ℕ) (p : Phase) (arrived : Arrived) (b : Course) : Type 0 where
  pub later : rank p ≤ rank b.phase
  pub due : DueO b.answer
  pub terms : b.terms ≡ cond (nat_le 2 (rank b.phase)) (terms_of so sa) first_terms
  pub met : 2 ≤ rank b.phase → 1 ≤ m
  pub xid : nat_le 2 (rank b.phase) ≡ (brings is_xid arrived || nat_le 2 (rank p))
  pub opened : nat_le 3 (rank b.phase) ≡ (brings (opens Originator) arrived || nat_le 3 (rank p))

module _ (so sa : Setup) (reads : Reads so sa) (m turn : ℕ) (a : Account) (setup : a.setup ≡ so) (role : so.role ≡ Originator)
    (due : DueO a.owes.answer) (terms : a.terms ≡ cond (nat_le 2 (rank a.phase)) (terms_of so sa) first_terms)
    (met : 2 ≤ rank a.phase → 1 ≤ m) where
  abbrev HearsO : Arrived → Account → Type 0
  HearsO x b = OnArrived (SentA sa (rank a.phase) m) x → AfterO so sa m a.phase x (course b)

  never-o : {A : Type 0} → a.setup.role ≡ Answerer → A
  never-o r = absurd (false≢true (ap is_originator (sym r ∙ (ap (λ (s : Setup). s.role) setup ∙ role))))

  stays-o : (x : Arrived) (answer : Option Answer) → DueO answer
      → nat_le 2 (rank a.phase) ≡ (brings is_xid x || nat_le 2 (rank a.phase))
      → nat_le 3 (rank a.phase) ≡ (brings (opens Originator) x || nat_le 3 (rank a.phase))
      → AfterO so sa m a.phase x (record (course a) { answer = answer })
  stays-o x answer d y z = record { later = omega arith; due = d; terms = terms; met = met; xid = y; opened = z }

  linked-o : a.phase ≡ Connected → (x : Arrived) (answer : Option Answer) → DueO answer
      → AfterO so sa m a.phase x (record (course a) { answer = answer })
  linked-o p x answer d = grind (arith, stays-o, or-late)

  moves-o : (x : Arrived) (p q : Phase) → a.phase ≡ p → rank p ≤ rank q → nat_le 2 (rank q) ≡ nat_le 2 (rank p)
      → (2 ≤ rank q → 2 ≤ rank p) → nat_le 2 (rank q) ≡ (brings is_xid x || nat_le 2 (rank p))
      → nat_le 3 (rank q) ≡ (brings (opens Originator) x || nat_le 3 (rank p))
      → AfterO so sa m a.phase x (record (course a) { phase = q })
  moves-o x p q e l two more y z = grind (arith)

  -- what changes nothing is no frame by which it would come farther
  ignored-o : (x : Arrived) → hear turn x a ≡ Ok a → OnArrived (SentA sa (rank a.phase) m) x → AfterO so sa m a.phase x (course a)
  ignored-o arrivals.Nothing f k = stays-o arrivals.Nothing _ due refl refl
  ignored-o (arrivals.Pattern seen) f k = stays-o (arrivals.Pattern seen) _ due refl refl
  ignored-o (arrivals.Frame frame) f k = on frame f k
    where
      on : (frame : Frame) → hear turn (arrivals.Frame frame) a ≡ Ok a → SentA sa (rank a.phase) m frame
          → AfterO so sa m a.phase (arrivals.Frame frame) (course a)
      on (Xid command pf info) f k = stays-o _ _ due (by a.phase refl) refl
        where
          by : (p : Phase) → a.phase ≡ p → nat_le 2 (rank a.phase) ≡ true || nat_le 2 (rank a.phase)
          by p e = grind (arith, not-ignored)
      on (Ua pf) f k = stays-o _ _ due refl (by a.phase refl)
        where
          by : (p : Phase) → a.phase ≡ p → nat_le 3 (rank a.phase) ≡ pf || nat_le 3 (rank a.phase)
          by p e = grind (arith, not-ignored, or-late)
      on frame f k = stays-o _ _ due refl refl

  ways-o : a.phase ≡ Connected → ConnectedWays HearsO turn a
  ways-o p = grind (arith)

  early-o : EarlyWays HearsO turn a
  early-o = grind (arith, ignored-o, moves-o, never-o, stays-o, or-late)

  pub o-hears : (x : Arrived) (b : Account) → hear turn x a ≡ Ok b → OnArrived (SentA sa (rank a.phase) m) x
      → AfterO so sa m a.phase x (course b)
  o-hears x b e = by-ways HearsO turn a (record {
    nothing = λ k. stays-o arrivals.Nothing (without_adp a.owes.answer) (due_o-without a.owes.answer due) refl refl;
    linked = ways-o;
    early = λ c. early-o;
  }) x b e

-- the answerer has heard; it is neither Establishing nor Releasing
pub record AfterA (so sa : Setup) (r : ℕ) (p : Phase) (arrived : Arrived) (b : Course) : Type 0 where
  pub later : rank p ≤ rank b.phase
  pub due : DueA r (rank b.phase) b.answer
  pub terms : b.terms ≡ cond (nat_le 1 (rank b.phase)) (terms_of so sa) first_terms
  pub never_two : rank b.phase ≢ 2
  pub never_four : rank b.phase ≢ 4
  pub linked : 3 ≤ rank b.phase → 2 ≤ r
  pub xid : nat_le 1 (rank b.phase) ≡ (brings is_xid arrived || nat_le 1 (rank p))
  pub opened : nat_le 3 (rank b.phase) ≡ (brings (opens Answerer) arrived || nat_le 3 (rank p))

module _ (so sa : Setup) (reads : Reads so sa) (r turn : ℕ) (a : Account) (setup : a.setup ≡ sa) (role : sa.role ≡ Answerer)
    (due : DueA r (rank a.phase) a.owes.answer) (terms : a.terms ≡ cond (nat_le 1 (rank a.phase)) (terms_of so sa) first_terms)
    (met : 2 ≤ r → 1 ≤ rank a.phase) (two : rank a.phase ≢ 2) (four : rank a.phase ≢ 4) (late : 3 ≤ rank a.phase → 2 ≤ r) where
  abbrev HearsA : Arrived → Account → Type 0
  HearsA x b = OnArrived (SentO so r) x → AfterA so sa r a.phase x (course b)

  role-is : a.setup.role ≡ Answerer
  role-is = ap (λ (s : Setup). s.role) setup ∙ role

  never-a : {A : Type 0} → a.setup.role ≡ Originator → A
  never-a e = absurd (false≢true (ap is_originator (sym role-is ∙ e)))

  stays-a : (x : Arrived) (answer : Option Answer) → DueA r (rank a.phase) answer
      → nat_le 1 (rank a.phase) ≡ (brings is_xid x || nat_le 1 (rank a.phase))
      → nat_le 3 (rank a.phase) ≡ (brings (opens Answerer) x || nat_le 3 (rank a.phase))
      → AfterA so sa r a.phase x (record (course a) { answer = answer })
  stays-a x answer d y z = grind (arith)

  linked-a : a.phase ≡ Connected → (x : Arrived) (answer : Option Answer) → DueA r (rank a.phase) answer
      → AfterA so sa r a.phase x (record (course a) { answer = answer })
  linked-a p x answer d = grind (arith, stays-a, or-late)

  -- Connected, or closed
  moves-a : (x : Arrived) (p q : Phase) (d : Option Answer) → a.phase ≡ p → rank p ≤ rank q → 1 ≤ rank p → 3 ≤ rank q → rank q ≢ 4
      → DueA r (rank q) d → 2 ≤ r → nat_le 1 (rank q) ≡ nat_le 1 (rank p) → nat_le 1 (rank q) ≡ (brings is_xid x || nat_le 1 (rank p))
      → nat_le 3 (rank q) ≡ (brings (opens Answerer) x || nat_le 3 (rank p))
      → AfterA so sa r a.phase x (record (course a) { phase = q; answer = d })
  moves-a x p q d e l one three not k s t y z = grind (arith)

  -- what changes nothing is no frame by which it would come farther
  ignored-a : (x : Arrived) → hear turn x a ≡ Ok a → OnArrived (SentO so r) x → AfterA so sa r a.phase x (course a)
  ignored-a arrivals.Nothing f k = stays-a arrivals.Nothing _ due refl refl
  ignored-a (arrivals.Pattern seen) f k = stays-a (arrivals.Pattern seen) _ due refl refl
  ignored-a (arrivals.Frame frame) f k = on frame f k
    where
      on : (frame : Frame) → hear turn (arrivals.Frame frame) a ≡ Ok a → SentO so r frame
          → AfterA so sa r a.phase (arrivals.Frame frame) (course a)
      on (Xid command pf info) f k = stays-a _ _ due (by a.phase refl) refl
        where
          by : (p : Phase) → a.phase ≡ p → nat_le 1 (rank a.phase) ≡ true || nat_le 1 (rank a.phase)
          by p e = grind (arith, not-ignored, role-is)
      on (Sabme pf) f k = stays-a _ _ due refl (by a.phase refl)
        where
          by : (p : Phase) → a.phase ≡ p → nat_le 3 (rank a.phase) ≡ true || nat_le 3 (rank a.phase)
          by p e = grind (arith, met, not-ignored, role-is)
      on frame f k = stays-a _ _ due refl refl

  ways-a : a.phase ≡ Connected → ConnectedWays HearsA turn a
  ways-a p = grind (arith)

  early-a : EarlyWays HearsA turn a
  early-a = record {
    ignores = ignored-a;
    detects = λ p v. never-a v;
    detected = λ p v k. stays-a _ _ tt refl refl;
    xid = λ p v pf info offer f k.
        let both : Some offer ≡ Some so.offer = sym f ∙ (ap offer_in k.1 ∙ reads.orig) in
        let same : offer ≡ so.offer = cc in
        let low : rank a.phase ≤ 1 = elim p [ inl q ↦ omega (arith, ap rank q) | inr q ↦ omega (arith, ap rank q) ] in
        record {
          later = low;
          due = (k.2, omega arith);
          terms = ap (λ (s : Setup). agree offer s.offer) setup ∙ ap (λ (o : Offer). agree o sa.offer) same;
          never_two = λ z. omega (arith, z);
          never_four = λ z. omega (arith, z);
          linked = λ z. absurd (omega (arith, z));
          xid = refl;
          opened = elim p [ inl q ↦ sym (ap (λ v. nat_le 3 (rank v)) q) | inr q ↦ sym (ap (λ v. nat_le 3 (rank v)) q) ];
        };
    agrees = λ p v. never-a v;
    sabme_first = λ p v pf k. absurd (omega (arith, met k.1, ap rank p));
    sabme = λ p v pf k. moves-a _ Negotiating Connected _ p (omega arith) (omega arith) (omega arith)
        (λ z. omega (arith, z)) k k.1 refl refl
        refl;
    ua = λ p. absurd (two (ap rank p));
    disc = λ p pf k. stays-a _ _ tt refl refl;
    closes = λ p. absurd (four (ap rank p));
  }

  pub a-hears : (x : Arrived) (b : Account) → hear turn x a ≡ Ok b → OnArrived (SentO so r) x → AfterA so sa r a.phase x (course b)
  a-hears x b e = by-ways HearsA turn a (record {
    nothing = λ k. stays-a arrivals.Nothing (without_adp a.owes.answer) (due_a-without r (rank a.phase) a.owes.answer due) refl refl;
    linked = ways-a;
    early = λ c. early-a;
  }) x b e
