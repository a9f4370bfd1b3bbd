-- All through a run the frames that passed tell how far both ends are.
use Rattle.std.proofs.Common.{◌≡◌, ◌≢◌, ◌⊎◌, ℕ, ◌≤◌, ◌||◌, Bool, true, false, cond, nat_le, List, [], ◌∷◌, length, arith, refl, sym, ◌∙◌}
use Rattle.std.proofs.Common.{ap, subst, Option, Some, None, Ok}
use Rattle.link_account.proofs.Names.{Role, Originator, Answerer, of, Frame, ReadsAllowed, ReadsWritten, KeepsTaken, Sent, Account, hear}
use Rattle.link_account.proofs.Names.{Said, MayPlay}
use Rattle.link_run.proofs.Names.{Accounts, Answer, Carries, Hears, IsCarried, Link, Phase, Releasing, RunOf, Setup, Spoken, Turn, User}
use Rattle.link_run.proofs.Names.{arrival, delivered, first_terms, has_passed, is_xid, opens, served, served_at, spoken}
use Rattle.link_run.proofs.Keeping.{stage}
use Rattle.link_run.proofs.Speaking.{Ledger, Speaks, Keeps_on, Releases}
use Rattle.link_run.proofs.Serving.{served-alone}
use Rattle.link_run.proofs.Running.{told, speaks-at}
use Rattle.link_run.proofs.Ending.{AtBoth, HasSetup, setups-kept, kept-run}
use Rattle.link_run.proofs.Meeting.{is_disc, is_counted, carries, brings}
use Rattle.link_run.proofs.Saying.{Says, is-said}
use Rattle.link_run.proofs.Joining.{serving}
use Rattle.link_run.proofs.Declaring.{OwnFrame, OwnSent, Declares, is-declared}
use Rattle.link_run.proofs.Knowing.{Course, course, rank, OnSent, IfSent, AllSent, all-weaker, came-all, passed-brings, SentO, SentA}
use Rattle.link_run.proofs.Knowing.{sent_o-later, sent_a-later, DueO, DueA, due_a-later, terms_of, Reads, o-hears, a-hears}
use Rattle.lapm_frames.specs.declared.sent.Sent.TheVariants as slots

-- what was sent in some turns and heard in some tells how far both ends are
pub record Known (so sa : Setup) (sent heard : List Turn) (o a : Course) : Type 0 where
  pub sent_o : AllSent (SentO so (rank o.phase)) Originator sent
  pub sent_a : AllSent (SentA sa (rank o.phase) (rank a.phase)) Answerer sent
  pub due_o : DueO o.answer
  pub due_a : DueA (rank o.phase) (rank a.phase) a.answer
  pub terms_o : o.terms ≡ cond (nat_le 2 (rank o.phase)) (terms_of so sa) first_terms
  pub terms_a : a.terms ≡ cond (nat_le 1 (rank a.phase)) (terms_of so sa) first_terms
  pub met : 2 ≤ rank o.phase → 1 ≤ rank a.phase
  pub never_two : rank a.phase ≢ 2
  pub never_four : rank a.phase ≢ 4
  pub linked : 3 ≤ rank a.phase → 2 ≤ rank o.phase
  pub xid_o : has_passed is_xid Originator heard ≡ nat_le 2 (rank o.phase)
  pub xid_a : has_passed is_xid Answerer heard ≡ nat_le 1 (rank a.phase)
  pub open_o : has_passed (opens Originator) Originator heard ≡ nat_le 3 (rank o.phase)
  pub open_a : has_passed (opens Answerer) Answerer heard ≡ nat_le 3 (rank a.phase)

-- one more turn was heard
passed-more : (is : Frame → Bool) (role : Role) (t : Turn) (ts : List Turn) (n : Bool) (m : Bool) → has_passed is role ts ≡ n
    → m ≡ (brings is (arrival (of role t).heard) || n) → has_passed is role (t ∷ ts) ≡ m
passed-more is role t ts n m h e = grind (arith, passed-brings)

known-heard : (so sa : Setup) → Reads so sa → (delay : Role → ℕ) (ts : List Turn) (t : Turn) (turn : ℕ) (o a p b : Account)
    → so.role ≡ Originator → sa.role ≡ Answerer → o.setup ≡ so → a.setup ≡ sa → Known so sa ts ts (course o) (course a)
    → Carries delay ts t → hear turn (arrival t.orig.heard) o ≡ Ok p → hear turn (arrival t.answ.heard) a ≡ Ok b
    → Known so sa ts (t ∷ ts) (course p) (course b)
known-heard so sa reads delay ts t turn o a p b ro ra seto seta h c eo ea =
    let x = o-hears so sa reads (rank a.phase) turn o seto ro h.due_o h.terms_o h.met (arrival t.orig.heard) p eo
    (came-all (SentA sa (rank o.phase) (rank a.phase)) delay Answerer ts t.orig.heard h.sent_a (c Originator)) in
    let y = a-hears so sa reads (rank o.phase) turn a seta ra h.due_a h.terms_a h.met h.never_two h.never_four h.linked
    (arrival t.answ.heard) b ea
    (came-all (SentO so (rank o.phase)) delay Originator ts t.answ.heard h.sent_o (c Answerer)) in
    record {
      sent_o = all-weaker (SentO so (rank o.phase)) (SentO so (rank p.phase))
          (sent_o-later so (rank o.phase) (rank p.phase) x.later) Originator ts h.sent_o;
      sent_a = all-weaker (SentA sa (rank o.phase) (rank a.phase)) (SentA sa (rank p.phase) (rank b.phase))
          (sent_a-later sa (rank o.phase) (rank a.phase) (rank p.phase) (rank b.phase) x.later y.later) Answerer ts h.sent_a;
      due_o = x.due;
      due_a = due_a-later (rank o.phase) (rank b.phase) (rank p.phase) (rank b.phase) x.later (omega arith) b.owes.answer y.due;
      terms_o = x.terms;
      terms_a = y.terms;
      met = λ z. omega (arith, x.met z, y.later);
      never_two = y.never_two;
      never_four = y.never_four;
      linked = λ z. omega (arith, y.linked z, x.later);
      xid_o = passed-more is_xid Originator t ts _ _ h.xid_o x.xid;
      xid_a = passed-more is_xid Answerer t ts _ _ h.xid_a y.xid;
      open_o = passed-more (opens Originator) Originator t ts _ _ h.open_o x.opened;
      open_a = passed-more (opens Answerer) Answerer t ts _ _ h.open_a y.opened;
    }

-- speaking takes an end no farther in what is known, and tells what it sends
pub record Spoke (c b : Course) : Type 0 where
  pub later : rank c.phase ≤ rank b.phase
  pub two : nat_le 2 (rank b.phase) ≡ nat_le 2 (rank c.phase)
  pub three : nat_le 3 (rank b.phase) ≡ nat_le 3 (rank c.phase)
  pub terms : b.terms ≡ c.terms
  pub answer : (b.answer ≡ c.answer) ⊎ (b.answer ≡ None)

spoke : (release : Bool) (a : Account) (said : Said) → Speaks release a said.account → Declares a.phase a said
    → Spoke (course a) (course said.account)
spoke release a said (Keeps_on e) d =
    let phase = ap (λ (l : Ledger). l.phase) e in
    record {
      later = omega (arith, ap rank phase);
      two = ap (λ q. nat_le 2 (rank q)) phase;
      three = ap (λ q. nat_le 3 (rank q)) phase;
      terms = ap (λ (l : Ledger). l.terms) e;
      answer = d.left;
    }
spoke release a said (Releases on role linked e k) d =
    let phase : said.account.phase ≡ Releasing = ap (λ (l : Ledger). l.phase) e in
    record {
      later = omega (arith, ap rank phase, ap rank linked);
      two = ap (λ q. nat_le 2 (rank q)) phase ∙ sym (ap (λ q. nat_le 2 (rank q)) linked);
      three = ap (λ q. nat_le 3 (rank q)) phase ∙ sym (ap (λ q. nat_le 3 (rank q)) linked);
      terms = ap (λ (l : Ledger). l.terms) e;
      answer = d.left;
    }

due_o-spoke : (x y : Option Answer) → (y ≡ x) ⊎ (y ≡ None) → DueO x → DueO y
due_o-spoke x y w h = grind (arith)

due_a-spoke : (r m : ℕ) (x y : Option Answer) → (y ≡ x) ⊎ (y ≡ None) → DueA r m x → DueA r m y
due_a-spoke r m x y w h = grind (arith)

stage-rank : (p : Phase) → 2 ≤ stage p → 4 ≤ rank p
stage-rank p h = grind (arith)

-- what an originator says
said-o : (so : Setup) (p : Phase) (answer : Option Answer) (s : ℕ) (frame : Frame) → OwnFrame so answer p frame → DueO answer → rank p ≤ s
    → (is_disc frame ≡ true → 4 ≤ s) → (is_counted frame ≡ true → stage p ≡ 1) → SentO so s frame
said-o so p answer s frame own d l disc c = grind (arith)

-- what an answerer says
said-a : (sa : Setup) (p : Phase) (answer : Option Answer) (r s : ℕ) (frame : Frame) → sa.role ≡ Answerer → OwnFrame sa answer p frame
    → DueA r (rank p) answer → r ≤ s → (is_counted frame ≡ true → stage p ≡ 1) → (3 ≤ rank p → 2 ≤ r) → SentA sa s (rank p) frame
said-a sa p answer r s frame role own d l c k = grind (arith)

if-said : (P : Frame → Type 0) (o : Option Spoken) (said : Said) → o ≡ Some (spoken said) → OnSent P said.sent → IfSent P o
if-said P o said e h = subst (IfSent P) (sym e) h

sent-by : (P : Frame → Type 0) (s : Sent) → ((frame : Frame) → s ≡ slots.Frame frame → P frame) → OnSent P s
sent-by P s h = grind (arith)

known-spoken : (so sa : Setup) (ts : List Turn) (t : Turn) (o a : Account) (release : Bool) (p b : Said)
    → Known so sa ts (t ∷ ts) (course o) (course a) → o.setup ≡ so → a.setup ≡ sa → sa.role ≡ Answerer
    → Speaks release o p.account → Speaks false a b.account → Says o.phase o p → Says a.phase a b → Declares o.phase o p
    → Declares a.phase a b
    → t.orig.sent ≡ Some (spoken p) → t.answ.sent ≡ Some (spoken b) → Known so sa (t ∷ ts) (t ∷ ts) (course p.account) (course b.account)
known-spoken so sa ts t o a release p b h eo ea role go ga wo wa dco dca so-sent sa-sent =
    let x = spoke release o p go dco in
    let y = spoke false a b ga dca in
    let same : b.account.phase ≡ a.phase = same-phase a b.account ga in
    record {
      sent_o = (
        if-said (SentO so (rank p.account.phase)) t.orig.sent p so-sent (sent-by (SentO so (rank p.account.phase)) p.sent (λ frame e.
            said-o so o.phase o.owes.answer (rank p.account.phase) frame
            (subst (λ z. OwnFrame z o.owes.answer o.phase frame) eo (subst (OwnSent o.setup o.owes.answer o.phase) e dco.own)) h.due_o
            x.later
            (λ z. stage-rank p.account.phase (wo.disc (ap (carries is_disc) e ∙ z))) (λ z. wo.counted (ap (carries is_counted) e ∙ z)))),
        all-weaker (SentO so (rank o.phase)) (SentO so (rank p.account.phase))
            (sent_o-later so (rank o.phase) (rank p.account.phase) x.later) Originator ts h.sent_o,
      );
      sent_a = (
        if-said (SentA sa (rank p.account.phase) (rank b.account.phase)) t.answ.sent b sa-sent
            (subst (λ q. OnSent (SentA sa (rank p.account.phase) (rank q)) b.sent) (sym same)
            (sent-by (SentA sa (rank p.account.phase) (rank a.phase)) b.sent (λ frame e.
            said-a sa a.phase a.owes.answer (rank o.phase) (rank p.account.phase) frame role
            (subst (λ z. OwnFrame z a.owes.answer a.phase frame) ea (subst (OwnSent a.setup a.owes.answer a.phase) e dca.own)) h.due_a
            x.later
            (λ z. wa.counted (ap (carries is_counted) e ∙ z)) h.linked))),
        all-weaker (SentA sa (rank o.phase) (rank a.phase)) (SentA sa (rank p.account.phase) (rank b.account.phase))
            (sent_a-later sa (rank o.phase) (rank a.phase) (rank p.account.phase) (rank b.account.phase) x.later y.later) Answerer ts
            h.sent_a,
      );
      due_o = due_o-spoke o.owes.answer p.account.owes.answer x.answer h.due_o;
      due_a = due_a-later (rank o.phase) (rank a.phase) (rank p.account.phase) (rank b.account.phase) x.later y.later b.account.owes.answer
          (due_a-spoke (rank o.phase) (rank a.phase) a.owes.answer b.account.owes.answer y.answer h.due_a);
      terms_o = x.terms ∙ h.terms_o ∙ ap (λ z. cond z (terms_of so sa) first_terms) (sym x.two);
      terms_a = y.terms ∙ h.terms_a ∙ ap (λ q. cond (nat_le 1 (rank q)) (terms_of so sa) first_terms) (sym same);
      met = λ z. omega (arith, y.later, h.met (le-two (rank p.account.phase) (rank o.phase) x.two z));
      never_two = λ z. h.never_two (sym (ap rank same) ∙ z);
      never_four = λ z. h.never_four (sym (ap rank same) ∙ z);
      linked = λ z. omega (arith, x.later, h.linked (omega (arith, z, ap rank same)));
      xid_o = h.xid_o ∙ sym x.two;
      xid_a = h.xid_a ∙ ap (λ q. nat_le 1 (rank q)) (sym same);
      open_o = h.open_o ∙ sym x.three;
      open_a = h.open_a ∙ ap (λ q. nat_le 3 (rank q)) (sym same);
    }
  where
    same-phase : (x y : Account) → Speaks false x y → y.phase ≡ x.phase
    same-phase x y w = grind (arith)

    le-two : (m n : ℕ) → nat_le 2 m ≡ nat_le 2 n → 2 ≤ m → 2 ≤ n
    le-two m n e l = grind (arith)

-- serving leaves this
delivered-terms : (a : Account) → (delivered a).terms ≡ a.terms
delivered-terms a = grind (arith)

pub course-served : (u : User) (turn : ℕ) (released : Bool) (a : Account) → course (served u turn released a).account ≡ course a
course-served u turn released a = grind (arith, serving, served-alone, delivered-terms)

abbrev pub KnownOf : Link → List Turn → List Turn → Accounts → Type 0
KnownOf link sent heard ends = Known link.orig.setup link.answ.setup sent heard (course ends.orig) (course ends.answ)

pub known-mid : (reads : ReadsAllowed) (keeps : KeepsTaken) (written : ReadsWritten) (link : Link) (delay : Role → ℕ) (ts : List Turn)
    (before : Accounts) (t : Turn) (mid : Accounts) → MayPlay link.orig.setup link.answ.setup → RunOf link ts before
    → KnownOf link ts ts before
    → Carries delay ts t → Hears (length ts) before t mid → KnownOf link ts (t ∷ ts) mid
known-mid reads keeps written link delay ts before t mid p h m c k =
    let s = kept-run reads keeps (HasSetup link) link (setups-kept link) ts before h in
    let read : Reads link.orig.setup link.answ.setup =
    record { orig = written link.orig.setup.offer p.offer_o; answ = written link.answ.setup.offer p.offer_a } in
    known-heard link.orig.setup link.answ.setup read delay ts t (length ts) before.orig before.answ mid.orig mid.answ p.originates p.answers
    (s Originator) (s Answerer) m c (k Originator).hears (k Answerer).hears

pub known-run : (reads : ReadsAllowed) (keeps : KeepsTaken) (written : ReadsWritten) (link : Link) (delay : Role → ℕ)
    → MayPlay link.orig.setup link.answ.setup → (ts : List Turn) (ends : Accounts) → IsCarried delay ts → RunOf link ts ends
    → KnownOf link ts ts ends
known-run reads keeps written link delay p [] ends c h = subst (KnownOf link [] []) (sym h) (record {
  sent_o = tt;
  sent_a = tt;
  due_o = tt;
  due_a = tt;
  terms_o = refl;
  terms_a = refl;
  met = λ z. absurd (omega (arith, z));
  never_two = λ z. omega (arith, z);
  never_four = λ z. omega (arith, z);
  linked = λ z. absurd (omega (arith, z));
  xid_o = refl;
  xid_a = refl;
  open_o = refl;
  open_a = refl;
})
known-run reads keeps written link delay p (t ∷ ts) ends c h =
    let before = h.0 in
    let g = h.2 in
    let turn = length ts in
    let o = (served_at link turn g.mid Originator).account in
    let a = (served_at link turn g.mid Answerer).account in
    let ko = g.speaking Originator in
    let ka = g.speaking Answerer in
    let release = told link turn g.mid Originator in
    let mid = known-mid reads keeps written link delay ts before t g.mid p h.1
    (known-run reads keeps written link delay p ts before c.1 h.1) c.0 g.hearing in
    let left : Known link.orig.setup link.answ.setup ts (t ∷ ts) (course o) (course a) =
    subst (λ z. Known link.orig.setup link.answ.setup ts (t ∷ ts) z (course a)) (sym (course-served link.orig.user turn _ g.mid.orig))
    (subst (λ z. Known link.orig.setup link.answ.setup ts (t ∷ ts) (course g.mid.orig) z)
    (sym (course-served link.answ.user turn _ g.mid.answ)) mid) in
    let setups : AtBoth (HasSetup link) ends = kept-run reads keeps (HasSetup link) link (setups-kept link) (t ∷ ts) ends h in
    let go = speaks-at link turn g.mid Originator ko.said ko.says in
    let ga = speaks-at link turn g.mid Answerer ka.said ka.says in
    let m = known-spoken link.orig.setup link.answ.setup ts t o a release ko.said ka.said left
    (setup-before release o ko.said.account ends.orig ko.after_is go (setups Originator))
    (setup-before false a ka.said.account ends.answ ka.after_is ga (setups Answerer)) p.answers
    go ga (is-said turn release o ko.said ko.says) (is-said turn false a ka.said ka.says) (is-declared turn release o ko.said ko.says)
    (is-declared turn false a ka.said ka.says) ko.sent_is ka.sent_is in
    subst (λ (x : Account). Known link.orig.setup link.answ.setup (t ∷ ts) (t ∷ ts) (course x) (course ends.answ)) (sym ko.after_is)
    (subst (λ (x : Account). Known link.orig.setup link.answ.setup (t ∷ ts) (t ∷ ts) (course ko.said.account) (course x))
    (sym ka.after_is) m)
  where
    setup-before : {s : Setup} (release : Bool) (x y e : Account) → e ≡ y → Speaks release x y → e.setup ≡ s → x.setup ≡ s
    setup-before {s} release x y e q v w = grind (arith)
