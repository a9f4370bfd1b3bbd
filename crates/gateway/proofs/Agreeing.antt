-- What two ends of a play know of each other: once the originator has heard the answer to its offer, both have the terms of both offers.
use Rattle.gateway.proofs.Names.{◌≡◌, ◌∙◌, ◌⊎◌, inl, inr, ℕ, ◌≤◌, Bool, true, false, cond, List, [], ◌∷◌, ◌++◌, refl, sym, ap, subst, arith}
use Rattle.gateway.proofs.Names.{Option, Some, None, Ok, has_number, false≢true, Role, Originator, Answerer, other, Check, Frame, Arrived}
use Rattle.gateway.proofs.Names.{Sent, Account, check_of, fresh, Slot, arrives, hear, Said, speak, linked-alike, tries-alike, Phase}
use Rattle.gateway.proofs.Names.{Detecting, Negotiating, Establishing, Connected, Releasing, Closed, Setup}
use Rattle.std.proofs.Common.{◌≢◌}
use Rattle.link_account.proofs.Names.{is_some, AllByRecursion, is_originator}
use Rattle.link_account.proofs.Names.{Sabme, Disc, Xid, Offer, Terms, agree, offer_in, written}
use Rattle.link_account.proofs.Names.{without_adp, frame_for, ready_frame, nr_of}
use Rattle.frame_check.specs.declared.check.Check.TheVariants.{Sixteen, ThirtyTwo}
use Rattle.link_account.specs.declared.answer.Answer.{Answer}
use Rattle.link_account.proofs.HearWays.{numbers-alike}
use Rattle.link_account.proofs.SpeakWays.{Tries, retimed}
use Rattle.lapm_frames.specs.declared.arrived.Arrived.TheVariants as arrivals
use Rattle.lapm_frames.specs.declared.sent.Sent.TheVariants as slots
use Rattle.link_account.specs.declared.answer.Answer.TheVariants as answers
use Rattle.link_account.proofs.HearWays as hears
use Rattle.link_account.proofs.SpeakWays as speaks

abbrev pub rank : Phase → ℕ
rank Detecting = 0
rank Negotiating = 1
rank Establishing = 2
rank Connected = 3
rank Releasing = 4
rank Closed = 5

-- what an end shows of itself
pub record Face : Type 0 where
  pub setup : Setup
  pub phase : Phase
  pub terms : Terms
  pub answer : Option Answer

abbrev pub face : Account → Face
face a = record { setup = a.setup; phase = a.phase; terms = a.terms; answer = a.owes.answer }

answers-not : {r : Role} → r ≡ Answerer → r ≡ Originator → ⊥
answers-not a o = false≢true (ap is_originator (sym a ∙ o))

-- ---- speaking

-- a frame that an end may send
abbrev OwnKind : Face → Frame → Type 0
OwnKind f (Xid true pf info) = (info ≡ written f.setup.offer) × (f.setup.role ≡ Originator)
OwnKind f (Xid false pf info) = (info ≡ written f.setup.offer) × (f.answer ≡ Some answers.Xid)
OwnKind f (Sabme pf) = f.phase ≡ Establishing
OwnKind f frame = Unit {0}

abbrev OwnFrame : Face → Frame → Type 0
OwnFrame f frame = (has_number frame ≡ true → f.phase ≡ Connected) × OwnKind f frame

abbrev pub OnSent : (Frame → Type 0) → Sent → Type 0
OnSent P slots.Mark = Unit {0}
OnSent P slots.Odp = Unit {0}
OnSent P slots.Adp = Unit {0}
OnSent P slots.Flags = Unit {0}
OnSent P (slots.Frame frame) = P frame

-- what speaking leaves
record Leaves (f g : Face) : Type 0 where
  setup : g.setup ≡ f.setup
  terms : g.terms ≡ f.terms
  answer : (g.answer ≡ f.answer) ⊎ (g.answer ≡ None)
  phase : (g.phase ≡ f.phase) ⊎ ((f.phase ≡ Connected) × (g.phase ≡ Releasing))

record Saying (f : Face) (sent : Sent) (g : Face) : Type 0 where
  own : OnSent (OwnFrame f) sent
  left : Leaves f g

none-numbered : {X : Type 0} → false ≡ true → X
none-numbered z = absurd (false≢true z)

module _ (turn : ℕ) (a : Account) where
  abbrev Says : Said → Type 0
  Says said = Saying (face a) said.sent (face said.account)

  leaves : Leaves (face a) (face a)
  leaves = record { setup = refl; terms = refl; answer = inl refl; phase = inl refl }

  stays : {sent : Sent} → OnSent (OwnFrame (face a)) sent → Saying (face a) sent (face a)
  stays own = record { own = own; left = leaves }

  -- the answer that is due
  due : (d : Answer) (b : Account) → b.setup ≡ a.setup → a.owes.answer ≡ Some d
      → Saying (face a) (frame_for d b) (record (face a) { answer = None })
  due d b s e = grind (arith)

  -- RR or RNR
  ready : a.phase ≡ Connected → (busy command pf : Bool) (nr : ℕ) → OwnFrame (face a) (ready_frame busy command nr pf)
  ready p q1 command pf nr = grind (arith)

  tries : (frame : Frame) → OwnFrame (face a) frame → Tries Says turn frame a
  tries frame own = tries-alike Says turn frame a (λ w. stays own) (stays tt)

  saying : (release : Bool) (said : Said) → speak turn release a ≡ Ok said → Says said
  saying release said e = speaks.by-ways Says turn release a (record {
    answers = λ l d f. due d a refl f;
    flags = λ l f. stays tt;
    mark = λ p r f. stays tt;
    odp = λ p r l. stays tt;
    xid = λ p r. tries _ (none-numbered, (refl, r));
    sabme = λ p. tries _ (none-numbered, p);
    linked = λ p r. linked-alike Says turn a (λ count awaited w own. record {
      answers = λ d f. due d (retimed a count awaited w own) refl f;
      final = λ n f. stays (ready p a.owes.busy false true (nr_of a));
      poll = λ n q f. stays (ready p a.owes.busy true true (nr_of a));
      segment = λ b u n f. stays (λ z. p, tt);
      brkack = λ b s word f. stays (none-numbered, tt);
      brk = λ b s k word f. stays (none-numbered, tt);
      tell = λ b n f. stays (ready p a.owes.busy false false (nr_of a));
      rej = λ b n m f. stays (λ z. p, tt);
      srej = λ b n s m f. stays (λ z. p, tt);
      flags = λ i. stays tt;
    });
    releases = λ p r. let over : Leaves (face a)
        (record (face a) { phase = Releasing }) = record { setup = refl; terms = refl; answer = inl refl; phase = inr (p, refl) } in
        tries-alike Says turn (Disc true) _ (λ w. record { own = (none-numbered, tt); left = over }) (record { own = tt; left = over });
    disc = λ p. tries _ (none-numbered, tt);
  }) said e

-- ---- what is known

abbrev pub terms_of : Setup → Setup → Terms
terms_of so sa = agree so.offer sa.offer

-- what an originator sends, once it is as far as r
abbrev KindO : Setup → ℕ → Frame → Type 0
KindO so r (Xid command pf info) = (command ≡ true) × (info ≡ written so.offer)
KindO so r (Sabme pf) = 2 ≤ r
KindO so r frame = Unit {0}

abbrev pub SentO : Setup → ℕ → Frame → Type 0
SentO so r frame = (has_number frame ≡ true → 2 ≤ r) × KindO so r frame

-- what an answerer sends, once they are as far as r and m
abbrev KindA : Setup → ℕ → Frame → Type 0
KindA sa m (Xid command pf info) = (command ≡ false) × (info ≡ written sa.offer) × (1 ≤ m)
KindA sa m frame = Unit {0}

abbrev pub SentA : Setup → ℕ → ℕ → Frame → Type 0
SentA sa r m frame = (has_number frame ≡ true → 2 ≤ r) × KindA sa m frame

-- the originator, where the answerer is as far as m
pub record KnowsO (so sa : Setup) (m : ℕ) (o : Face) : Type 0 where
  pub setup_is : o.setup ≡ so
  pub due : o.answer ≡ Some answers.Xid → ⊥
  pub terms_are : 2 ≤ rank o.phase → o.terms ≡ terms_of so sa
  pub met : 2 ≤ rank o.phase → 1 ≤ m

-- the answerer, where the originator is as far as r
pub record KnowsA (so sa : Setup) (r : ℕ) (a : Face) : Type 0 where
  pub setup_is : a.setup ≡ sa
  pub due : a.answer ≡ Some answers.Xid → 1 ≤ rank a.phase
  pub terms_are : 1 ≤ rank a.phase → a.terms ≡ terms_of so sa
  pub never_two : rank a.phase ≢ 2
  pub linked : 3 ≤ rank a.phase → 2 ≤ r

-- both offers are read as they are written
pub record Reads (so sa : Setup) : Type 0 where
  pub originates : so.role ≡ Originator
  pub answers : sa.role ≡ Answerer
  pub orig : offer_in (written so.offer) ≡ Some so.offer
  pub answ : offer_in (written sa.offer) ≡ Some sa.offer

-- ---- hearing

abbrev is_xid : Answer → Bool
is_xid answers.Adp = false
is_xid answers.Xid = true
is_xid (answers.Ua pf) = false
is_xid (answers.Dm pf) = false

none-some : (x : Answer) → ◌≡◌ {A = Option Answer} None (Some x) → ⊥
none-some x z = false≢true (ap is_some z)

-- another answer is due than XID
not-xid : (d : Answer) → is_xid d ≡ false → Some d ≡ Some answers.Xid → ⊥
not-xid d n e = let same : d ≡ answers.Xid = cc in false≢true (sym n ∙ ap is_xid same)

-- an ADP is no longer due
xid-due : (o : Option Answer) → without_adp o ≡ Some answers.Xid → o ≡ Some answers.Xid
xid-due q0 e = grind (arith)

abbrev pub OnArrived : (Frame → Type 0) → Arrived → Type 0
OnArrived P arrivals.Nothing = Unit {0}
OnArrived P (arrivals.Pattern seen) = Unit {0}
OnArrived P (arrivals.Frame frame) = P frame

-- what an end knows goes on to hold in its phase or a later one
module _ (Knows : Face → Type 0) (Sent : Frame → Type 0) (turn : ℕ) (a : Account) where
  abbrev Later : Face → Type 0
  Later g = Knows g × (rank a.phase ≤ rank g.phase)

  abbrev Hears : Arrived → Account → Type 0
  Hears x b = OnArrived Sent x → Later (face b)

  linked : Later (face a) → ((pf : Bool) → Later (record (face a) { answer = Some (answers.Ua pf) }))
      → ((pf : Bool) → a.setup.role ≡ Answerer → Later (record (face a) { phase = Closed; answer = Some (answers.Ua pf) }))
      → hears.ConnectedWays Hears turn a
  linked stays owing closes = grind (arith, numbers-alike)

-- the originator
module _ (so sa : Setup) (reads : Reads so sa) (r m turn : ℕ) (a : Account) (h : KnowsO so sa m (face a)) where
  abbrev LaterO : Face → Type 0
  LaterO = Later (KnowsO so sa m) (SentA sa r m) turn a

  stays-o : LaterO (face a)
  stays-o = (h, omega arith)

  owing-o : (d : Answer) → is_xid d ≡ false → LaterO (record (face a) { answer = Some d })
  owing-o d n = (record { setup_is = h.setup_is; due = not-xid d n; terms_are = h.terms_are; met = h.met }, omega arith)

  role-o : {X : Type 0} → a.setup.role ≡ Answerer → X
  role-o e = absurd (answers-not e (ap (λ (s : Setup). s.role) h.setup_is ∙ reads.originates))

  -- it comes to this phase, on the terms that it has
  moves-o : (p q : Phase) → a.phase ≡ p → rank p ≤ rank q → (2 ≤ rank p) ⊎ (rank q ≤ 1) → LaterO (record (face a) { phase = q })
  moves-o p q e l b = grind (arith)

  agrees : a.phase ≡ Negotiating → (pf : Bool) (info : List ℕ) (offer : Offer) → offer_in info ≡ Some offer → KindA sa m (Xid false pf info)
      → LaterO (record (face a) { phase = Establishing; terms = agree a.setup.offer offer })
  agrees p pf info offer f given = grind (arith)

  early-o : hears.EarlyWays (Hears (KnowsO so sa m) (SentA sa r m) turn a) turn a
  early-o = grind (arith)

  hears-o : (x : Arrived) (b : Account) → hear turn x a ≡ Ok b → OnArrived (SentA sa r m) x → LaterO (face b)
  hears-o x b e = hears.by-ways (Hears (KnowsO so sa m) (SentA sa r m) turn a) turn a (record {
    nothing = λ k. (
      record { setup_is = h.setup_is; due = λ e. h.due (xid-due a.owes.answer e); terms_are = h.terms_are; met = h.met },
      omega arith,
    );
    linked = λ p. linked (KnowsO so sa m) (SentA sa r m) turn a stays-o (λ pf. owing-o (answers.Ua pf) refl) (λ pf s. role-o s);
    early = λ c. early-o;
  }) x b e

-- the answerer
module _ (so sa : Setup) (reads : Reads so sa) (r turn : ℕ) (a : Account) (h : KnowsA so sa r (face a)) where
  abbrev LaterA : Face → Type 0
  LaterA = Later (KnowsA so sa r) (SentO so r) turn a

  stays-a : LaterA (face a)
  stays-a = (h, omega arith)

  owing-a : (d : Answer) → is_xid d ≡ false → LaterA (record (face a) { answer = Some d })
  owing-a d n = grind (arith)

  role-a : {X : Type 0} → a.setup.role ≡ Originator → X
  role-a e = absurd (answers-not (ap (λ (s : Setup). s.role) h.setup_is ∙ reads.answers) e)

  -- it comes to this phase, on the terms that it has
  moves-a : (p q : Phase) (d : Option Answer) → a.phase ≡ p → 1 ≤ rank p → rank p ≤ rank q → 3 ≤ rank q → (3 ≤ rank p) ⊎ (2 ≤ r)
      → LaterA (record (face a) { phase = q; answer = d })
  moves-a p q d e s l three b = grind (arith)

  -- an offer makes it Negotiating
  commanded : (a.phase ≡ Detecting) ⊎ (a.phase ≡ Negotiating) → (info : List ℕ) (offer : Offer) → offer_in info ≡ Some offer
      → info ≡ written so.offer
      → LaterA (record (face a) { phase = Negotiating; terms = agree offer a.setup.offer; answer = Some answers.Xid })
  commanded p info offer f i = grind (arith)

  early-a : (2 ≤ r → 1 ≤ rank a.phase) → hears.EarlyWays (Hears (KnowsA so sa r) (SentO so r) turn a) turn a
  early-a met = grind (arith)

  hears-a : (2 ≤ r → 1 ≤ rank a.phase) → (x : Arrived) (b : Account) → hear turn x a ≡ Ok b → OnArrived (SentO so r) x → LaterA (face b)
  hears-a met x b e = hears.by-ways (Hears (KnowsA so sa r) (SentO so r) turn a) turn a (record {
    nothing = λ k. (
      record {
        setup_is = h.setup_is;
        due = λ e. h.due (xid-due a.owes.answer e);
        terms_are = h.terms_are;
        never_two = h.never_two;
        linked = h.linked;
      },
      omega arith,
    );
    linked = λ p. linked (KnowsA so sa r) (SentO so r) turn a stays-a (λ pf. owing-a (answers.Ua pf) refl)
        (λ pf s. moves-a Connected Closed (Some (answers.Ua pf)) p (omega arith) (omega arith) (omega arith) (inl (omega arith)));
    early = λ c. early-a met;
  }) x b e

-- ---- both

abbrev pub AllSent : (Frame → Type 0) → List Slot → Type 0
AllSent P line = AllByRecursion {X = Slot} (λ s. OnSent P s.sent) line

-- both ends, and what is on the line
pub record Knows (so sa : Setup) (o a : Face) (lo la : List Slot) : Type 0 where
  pub orig : KnowsO so sa (rank a.phase) o
  pub answ : KnowsA so sa (rank o.phase) a
  pub line_o : AllSent (SentO so (rank o.phase)) lo
  pub line_a : AllSent (SentA sa (rank o.phase) (rank a.phase)) la

-- the same, of the end of a role and its peer
abbrev pub KnowsAt : Role → Setup → Setup → Account → List Slot → Account → List Slot → Type 0
KnowsAt Originator so sa x lx y ly = Knows so sa (face x) (face y) lx ly
KnowsAt Answerer so sa x lx y ly = Knows so sa (face y) (face x) ly lx

pub knows-turned : (role : Role) (so sa : Setup) (x : Account) (lx : List Slot) (y : Account) (ly : List Slot)
    → KnowsAt role so sa x lx y ly
    → KnowsAt (other role) so sa y ly x lx
knows-turned q0 so sa x lx y ly h = grind (arith)

pub knows-as : (role : Role) (so sa : Setup) (x b : Account) (lx : List Slot) (y : Account) (ly : List Slot) → face b ≡ face x
    → KnowsAt role so sa x lx y ly → KnowsAt role so sa b lx y ly
knows-as q0 so sa x b lx y ly e h = grind (arith)

-- what was sent goes on to be so
sent-weaker : (P Q : Frame → Type 0) → ((frame : Frame) → P frame → Q frame) → (s : Sent) → OnSent P s → OnSent Q s
sent-weaker P Q f s h = grind (arith)

all-weaker : (P Q : Frame → Type 0) → ((frame : Frame) → P frame → Q frame) → (line : List Slot) → AllSent P line → AllSent Q line
all-weaker P Q f [] h = tt
all-weaker P Q f (slot ∷ line) h = (sent-weaker P Q f slot.sent h.0, all-weaker P Q f line h.1)

all-snoc : (P : Frame → Type 0) (line : List Slot) (slot : Slot) → AllSent P line → OnSent P slot.sent → AllSent P (line ++ slot ∷ [])
all-snoc P [] slot h last = (last, tt)
all-snoc P (s ∷ line) slot h last = (h.0, all-snoc P line slot h.1 last)

more : (m n : ℕ) → 2 ≤ m → m ≤ n → 2 ≤ n
more m n h l = omega (arith, h, l)

kind_o-later : (so : Setup) (r s : ℕ) → r ≤ s → (frame : Frame) → KindO so r frame → KindO so s frame
kind_o-later so r s l frame h = grind (arith)

sent_o-later : (so : Setup) (r s : ℕ) → r ≤ s → (frame : Frame) → SentO so r frame → SentO so s frame
sent_o-later so r s l frame h = (λ e. more r s (h.0 e) l, kind_o-later so r s l frame h.1)

kind_a-later : (sa : Setup) (m n : ℕ) → m ≤ n → (frame : Frame) → KindA sa m frame → KindA sa n frame
kind_a-later sa m n l frame h = grind (arith)

sent_a-later : (sa : Setup) (r m s n : ℕ) → r ≤ s → m ≤ n → (frame : Frame) → SentA sa r m frame → SentA sa s n frame
sent_a-later sa r m s n l k frame h = (λ e. more r s (h.0 e) l, kind_a-later sa m n k frame h.1)

orig-later : (so sa : Setup) (m n : ℕ) (o : Face) → m ≤ n → KnowsO so sa m o → KnowsO so sa n o
orig-later so sa m n o l h = grind (arith)

answ-later : (so sa : Setup) (r s : ℕ) (a : Face) → r ≤ s → KnowsA so sa r a → KnowsA so sa s a
answ-later so sa r s a l h = grind (arith)

-- what arrives at the end of a role
abbrev pub ArrivesAt : Role → Setup → Setup → Account → Account → Arrived → Type 0
ArrivesAt Originator so sa x y arrived = OnArrived (SentA sa (rank x.phase) (rank y.phase)) arrived
ArrivesAt Answerer so sa x y arrived = OnArrived (SentO so (rank y.phase)) arrived

pub nothing-arrives : (role : Role) (so sa : Setup) (x y : Account) → ArrivesAt role so sa x y arrivals.Nothing
nothing-arrives q0 so sa x y = grind (arith)

on-arrives : (P : Frame → Type 0) (s : Sent) → OnSent P s → OnArrived P (arrives s)
on-arrives P s h = grind (arith)

pub first-arrives : (role : Role) (so sa : Setup) (x : Account) (slot : Slot) (left : List Slot) (y : Account) (ly : List Slot)
    → KnowsAt role so sa x (slot ∷ left) y ly → ArrivesAt (other role) so sa y x (arrives slot.sent)
first-arrives q0 so sa x slot left y ly h = grind (arith)

pub knows-less : (role : Role) (so sa : Setup) (x : Account) (slot : Slot) (left : List Slot) (y : Account) (ly : List Slot)
    → KnowsAt role so sa x (slot ∷ left) y ly → KnowsAt role so sa x left y ly
knows-less q0 so sa x slot left y ly h = grind (arith)

pub knows-heard : (role : Role) (so sa : Setup) → Reads so sa → (x b : Account) (lx : List Slot) (y : Account) (ly : List Slot) (turn : ℕ)
    (arrived : Arrived) → ArrivesAt role so sa x y arrived → hear turn arrived x ≡ Ok b → KnowsAt role so sa x lx y ly
    → KnowsAt role so sa b lx y ly
knows-heard Originator so sa reads x b lx y ly turn arrived k e h =
    let heard = hears-o so sa reads (rank x.phase) (rank y.phase) turn x h.orig arrived b e k in
    record {
      orig = heard.0;
      answ = answ-later so sa (rank x.phase) (rank b.phase) (face y) heard.1 h.answ;
      line_o = all-weaker (SentO so (rank x.phase)) (SentO so (rank b.phase)) (sent_o-later so (rank x.phase) (rank b.phase) heard.1) lx
          h.line_o;
      line_a = all-weaker (SentA sa (rank x.phase) (rank y.phase)) (SentA sa (rank b.phase) (rank y.phase))
          (sent_a-later sa (rank x.phase) (rank y.phase) (rank b.phase) (rank y.phase) heard.1 (omega arith)) ly h.line_a;
    }
knows-heard Answerer so sa reads x b lx y ly turn arrived k e h =
    let heard = hears-a so sa reads (rank y.phase) turn x h.answ h.orig.met arrived b e k in
    record {
      orig = orig-later so sa (rank x.phase) (rank b.phase) (face y) heard.1 h.orig;
      answ = heard.0;
      line_o = h.line_o;
      line_a = all-weaker (SentA sa (rank y.phase) (rank x.phase)) (SentA sa (rank y.phase) (rank b.phase))
          (sent_a-later sa (rank y.phase) (rank x.phase) (rank y.phase) (rank b.phase) (omega arith) heard.1) lx h.line_a;
    }

-- how far speaking takes an end
record Farther (f g : Face) : Type 0 where
  later : rank f.phase ≤ rank g.phase
  from : (n : ℕ) → n ≤ 3 → n ≤ rank g.phase → n ≤ rank f.phase
  two : rank f.phase ≢ 2 → rank g.phase ≢ 2

farther : (f g : Face) → (g.phase ≡ f.phase) ⊎ ((f.phase ≡ Connected) × (g.phase ≡ Releasing)) → Farther f g
farther f g given = grind (arith)

left-due : (x y : Option Answer) → (y ≡ x) ⊎ (y ≡ None) → y ≡ Some answers.Xid → x ≡ Some answers.Xid
left-due x y q2 z = grind (arith)

own-o : (so sa : Setup) (m s : ℕ) (f : Face) → KnowsO so sa m f → rank f.phase ≤ s → (frame : Frame) → OwnFrame f frame → SentO so s frame
own-o so sa m s f h l frame own = grind (arith)

own-a : (so sa : Setup) → Reads so sa → (r : ℕ) (f : Face) → KnowsA so sa r f → (frame : Frame) → OwnFrame f frame
    → SentA sa r (rank f.phase) frame
own-a so sa reads r f h frame own = grind (arith)

pub knows-spoken : (role : Role) (so sa : Setup) → Reads so sa → (x : Account) (lx : List Slot) (y : Account) (ly : List Slot) (turn : ℕ)
    (release : Bool) (said : Said) (slot : Slot) → slot.sent ≡ said.sent → speak turn release x ≡ Ok said → KnowsAt role so sa x lx y ly
    → KnowsAt role so sa said.account (lx ++ slot ∷ []) y ly
knows-spoken Originator so sa reads x lx y ly turn release said slot same e h =
    let b : Face = face said.account in
    let s = saying turn x release said e in
    let k = farther (face x) b s.left.phase in
    record {
      orig = record {
        setup_is = s.left.setup ∙ h.orig.setup_is;
        due = λ z. h.orig.due (left-due x.owes.answer b.answer s.left.answer z);
        terms_are = λ z. s.left.terms ∙ h.orig.terms_are (k.from 2 (omega arith) z);
        met = λ z. h.orig.met (k.from 2 (omega arith) z);
      };
      answ = answ-later so sa (rank x.phase) (rank b.phase) (face y) k.later h.answ;
      line_o = all-snoc (SentO so (rank b.phase)) lx slot
          (all-weaker (SentO so (rank x.phase)) (SentO so (rank b.phase))
          (sent_o-later so (rank x.phase) (rank b.phase) k.later) lx h.line_o)
          (subst (OnSent (SentO so (rank b.phase))) (sym same) (sent-weaker (OwnFrame (face x)) (SentO so (rank b.phase))
          (own-o so sa (rank y.phase) (rank b.phase) (face x) h.orig k.later) said.sent s.own));
      line_a = all-weaker (SentA sa (rank x.phase) (rank y.phase)) (SentA sa (rank b.phase) (rank y.phase))
          (sent_a-later sa (rank x.phase) (rank y.phase) (rank b.phase) (rank y.phase) k.later (omega arith)) ly h.line_a;
    }
knows-spoken Answerer so sa reads x lx y ly turn release said slot same e h =
    let b : Face = face said.account in
    let s = saying turn x release said e in
    let k = farther (face x) b s.left.phase in
    let later = sent_a-later sa (rank y.phase) (rank x.phase) (rank y.phase) (rank b.phase) (omega arith) k.later in
    record {
      orig = orig-later so sa (rank x.phase) (rank b.phase) (face y) k.later h.orig;
      answ = record {
        setup_is = s.left.setup ∙ h.answ.setup_is;
        due = λ z. let was : 1 ≤ rank x.phase = h.answ.due (left-due x.owes.answer b.answer s.left.answer z) in omega (arith, was, k.later);
        terms_are = λ z. s.left.terms ∙ h.answ.terms_are (k.from 1 (omega arith) z);
        never_two = k.two h.answ.never_two;
        linked = λ z. h.answ.linked (k.from 3 (omega arith) z);
      };
      line_o = h.line_o;
      line_a = all-snoc (SentA sa (rank y.phase) (rank b.phase)) lx slot
          (all-weaker (SentA sa (rank y.phase) (rank x.phase)) (SentA sa (rank y.phase) (rank b.phase)) later lx h.line_a)
          (subst (OnSent (SentA sa (rank y.phase) (rank b.phase))) (sym same)
          (sent-weaker (OwnFrame (face x)) (SentA sa (rank y.phase) (rank b.phase))
          (λ frame own. later frame (own-a so sa reads (rank y.phase) (face x) h.answ frame own)) said.sent s.own));
    }

-- ---- the check

-- the check of frames with numbers that both offers come to
abbrev pub agreed_check : Setup → Setup → Check
agreed_check so sa = cond (terms_of so sa).check32 ThirtyTwo Sixteen

check-by : (so sa : Setup) (a : Account) → a.terms ≡ terms_of so sa → check_of a ≡ agreed_check so sa
check-by so sa a e = ap (λ (t : Terms). cond t.check32 ThirtyTwo Sixteen) e

-- a frame with numbers is sent with it
pub check-sent : (role : Role) (so sa : Setup) (x : Account) (lx : List Slot) (y : Account) (ly : List Slot) (turn : ℕ) (release : Bool)
    (said : Said) → speak turn release x ≡ Ok said → KnowsAt role so sa x lx y ly
    → OnSent (λ frame. has_number frame ≡ true → check_of said.account ≡ agreed_check so sa) said.sent
check-sent role so sa x lx y ly turn release said e h =
    let s = saying turn x release said e in
    sent-weaker (OwnFrame (face x)) (λ frame. has_number frame ≡ true → check_of said.account ≡ agreed_check so sa)
    (λ frame own n. check-by so sa said.account (s.left.terms ∙ terms role h (ap rank (own.0 n)))) said.sent s.own
  where
    terms : (role : Role) → KnowsAt role so sa x lx y ly → rank x.phase ≡ 3 → x.terms ≡ terms_of so sa
    terms q0 h three = grind (arith)

-- and its hearer has it
pub check-heard : (role : Role) (so sa : Setup) (x : Account) (slot : Slot) (left : List Slot) (y : Account) (ly : List Slot)
    → KnowsAt role so sa x (slot ∷ left) y ly → OnSent (λ frame. has_number frame ≡ true → check_of y ≡ agreed_check so sa) slot.sent
check-heard role so sa x slot left y ly h = grind (arith, check-by)

-- two ends before their first turns
pub knows-first : (so sa : Setup) → Knows so sa (face (fresh so)) (face (fresh sa)) [] []
knows-first so sa = record {
  orig = record {
    setup_is = refl;
    due = none-some answers.Xid;
    terms_are = λ z. absurd (omega (arith, z));
    met = λ z. absurd (omega (arith, z));
  };
  answ = record {
    setup_is = refl;
    due = λ z. absurd (none-some answers.Xid z);
    terms_are = λ z. absurd (omega (arith, z));
    never_two = λ z. omega (arith, z);
    linked = λ z. absurd (omega (arith, z));
  };
  line_o = tt;
  line_a = tt;
}
