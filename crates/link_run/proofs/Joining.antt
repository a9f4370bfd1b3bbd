-- How far both ends have come, by what each has sent: neither is sent numbered frames before it is Connected, and the answerer is closed
-- only once
-- the originator releases.
use Rattle.link_run.proofs.Names.{◌≡◌, ◌≢◌, ◌⊎◌, ℕ, zero, suc, ◌-◌, ◌≤◌, ◌||◌, Bool, true, false, List, [], ◌∷◌, length, arith, refl, sym}
use Rattle.link_run.proofs.Names.{◌∙◌, ap, subst, Option, Some, None, slice_get, or_right, or_left, false≢true, Role, Originator, Answerer}
use Rattle.link_run.proofs.Names.{Frame, ReadsAllowed, KeepsTaken, Account, after_busy, Said, MayPlay, Heard, of, Setup, sent_in, sent_ago}
use Rattle.link_run.proofs.Names.{Crosses, Carries, IsCarried, User, delivered, offered, served, is_released, Link, Accounts, Turn, Spoken}
use Rattle.link_run.proofs.Names.{spoken, arrival, Hears, RunOf, served_at}
use Rattle.std.proofs.lemmas.Bool.{or_cases}
use Rattle.link_run.proofs.Keeping.{stage, GoesOn, hears}
use Rattle.link_run.proofs.Speaking.{Speaks}
use Rattle.link_run.proofs.Serving.{served-alone, offers-alone}
use Rattle.link_run.proofs.Running.{told, speaks-at}
use Rattle.link_run.proofs.Ending.{HasSetup, setups-kept, kept-run}
use Rattle.link_run.proofs.Meeting.{is_ua, is_disc, is_segment, is_counted, carries, brings, owes_ua, Told, is-told}
use Rattle.link_run.proofs.Saying.{Part, part, Says, is-said}

-- whether a role sent such a frame in a turn, and in any of these turns
abbrev pub sent_is : (Frame → Bool) → Option Spoken → Bool
sent_is is None = false
sent_is is (Some slot) = carries is slot.sent

abbrev pub any_sent : (Frame → Bool) → Role → List Turn → Bool
any_sent is role [] = false
any_sent is role (t ∷ ts) = sent_is is (of role t).sent || any_sent is role ts

ago-any : (is : Frame → Bool) (role : Role) (k : ℕ) (ts : List Turn) → sent_is is (sent_in role (slice_get ts k)) ≡ true
    → any_sent is role ts ≡ true
ago-any is role k [] e = absurd (false≢true e)
ago-any is role zero (t ∷ ts) e = or_left (sent_is is (of role t).sent) (any_sent is role ts) e
ago-any is role (suc k) (t ∷ ts) e = or_right (sent_is is (of role t).sent) (any_sent is role ts) (ago-any is role k ts e)

brought : (is : Frame → Bool) (o : Option Spoken) (h : Heard) → Crosses o h → brings is (arrival h) ≡ true → sent_is is o ≡ true
brought is o x c e = grind (arith)

pub came : (is : Frame → Bool) (delay : Role → ℕ) (role : Role) (ts : List Turn) (h : Heard) → Crosses (sent_ago (delay role) role ts) h
    → brings is (arrival h) ≡ true → any_sent is role ts ≡ true
came is delay role ts h c e = ago-any is role (delay role - 1) ts (brought is (sent_ago (delay role) role ts) h c e)

-- how far the ends are, after these turns
pub record Met (ts : List Turn) (o a : Account) : Type 0 where
  pub up : 1 ≤ stage o.phase → 1 ≤ stage a.phase
  pub uas : any_sent is_ua Answerer ts ≡ true → 1 ≤ stage a.phase
  pub due : owes_ua a.owes.answer ≡ true → 1 ≤ stage a.phase
  pub counted : a.numbered ≡ true → 1 ≤ stage o.phase
  pub froms : any_sent is_counted Originator ts ≡ true → 1 ≤ stage o.phase
  pub segments : any_sent is_segment Answerer ts ≡ true → 1 ≤ stage o.phase
  pub discs : any_sent is_disc Originator ts ≡ true → 2 ≤ stage o.phase
  pub hung : stage a.phase ≡ 3 → 2 ≤ stage o.phase
  pub never : stage a.phase ≢ 2

later : (a b : Account) → GoesOn a b → stage a.phase ≤ stage b.phase
later a b x = grind (arith)

still-never : (a b : Account) → GoesOn a b → stage a.phase ≢ 2 → stage b.phase ≢ 2
still-never a b x h z = grind (arith)

met-heard : (ts : List Turn) (o a p b : Account) (delay : Role → ℕ) (ho ha : Heard) → Met ts o a → o.setup.role ≡ Originator → GoesOn o p
    → GoesOn a b → Told o.phase (arrival ho) o p → Told a.phase (arrival ha) a b
    → Crosses (sent_ago (delay Answerer) Answerer ts) ho → Crosses (sent_ago (delay Originator) Originator ts) ha → Met ts p b
met-heard ts o a p b delay ho ha m role go ga to ta co ca =
    let lo = later o p go in
    let la = later a b ga in
    record {
      up = λ z. up-by (stage o.phase) refl z;
      uas = λ z. omega (arith, m.uas z, la);
      due = λ z. due-by (ta.owes z);
      counted = λ z. counted-by (ta.numbered z);
      froms = λ z. omega (arith, m.froms z, lo);
      segments = λ z. omega (arith, m.segments z, lo);
      discs = λ z. omega (arith, m.discs z, lo);
      hung = λ z. hung-by (stage a.phase) refl z;
      never = still-never a b ga m.never;
    }
  where
    up-by : (n : ℕ) → stage o.phase ≡ n → 1 ≤ stage p.phase → 1 ≤ stage b.phase
    up-by zero e z = omega (arith, later a b ga, m.uas (came is_ua delay Answerer ts ho co (to.entered e z role)))
    up-by (suc n) e z = omega (arith, later a b ga, m.up (omega (arith, e)))

    due-by : (owes_ua a.owes.answer ≡ true) ⊎ (1 ≤ stage b.phase) → 1 ≤ stage b.phase
    due-by x = grind (arith)

    counted-by : (a.numbered ≡ true) ⊎ (brings is_counted (arrival ha) ≡ true) → 1 ≤ stage p.phase
    counted-by given = grind (arith, later, came)

    hung-by : (n : ℕ) → stage a.phase ≡ n → stage b.phase ≡ 3 → 2 ≤ stage p.phase
    hung-by zero e z = omega (arith, later o p go, m.discs (came is_disc delay Originator ts ha ca (ta.hung (omega (arith, e)) z)))
    hung-by (suc zero) e z = omega (arith, later o p go, m.discs (came is_disc delay Originator ts ha ca (ta.hung (omega (arith, e)) z)))
    hung-by n e z = grind (arith)

-- serving leaves this as it is
pub record Leaves (a b : Account) : Type 0 where
  pub phase : b.phase ≡ a.phase
  pub answer : b.owes.answer ≡ a.owes.answer
  pub part_is : part b ≡ part a
  pub setup : b.setup ≡ a.setup

delivered-leaves : (a : Account) → Leaves a (delivered a)
delivered-leaves a = grind (arith)

-- being told of a pause leaves what answer is due
busy-answer : (busy : Bool) (a : Account) → (after_busy busy a).owes.answer ≡ a.owes.answer
busy-answer busy a = grind (arith)

pub serving : (u : User) (turn : ℕ) (released : Bool) (a : Account) → Leaves a (served u turn released a).account
serving u turn released a = grind (arith, delivered-leaves, busy-answer, offered, offers-alone, served-alone)

later-spoken : (release : Bool) (a b : Account) → Speaks release a b → stage a.phase ≤ stage b.phase
later-spoken release a b x = grind (arith)

same-spoken : (a b : Account) → Speaks false a b → stage b.phase ≡ stage a.phase
same-spoken a b x = grind (arith)

pub linked-spoken : (release : Bool) (a b : Account) → Speaks release a b → 1 ≤ stage b.phase → 1 ≤ stage a.phase
linked-spoken release a b x z = grind (arith)

met-spoken : (ts : List Turn) (t : Turn) (o a : Account) (release : Bool) (p b : Said) → Met ts o a → a.setup.role ≡ Answerer
    → Speaks release o p.account → Speaks false a b.account → Says o.phase o p → Says a.phase a b
    → t.orig.sent ≡ Some (spoken p) → t.answ.sent ≡ Some (spoken b) → Met (t ∷ ts) p.account b.account
met-spoken ts t o a release p b m role go ga to ta so sa =
    let lo = later-spoken release o p.account go in
    let la = same-spoken a b.account ga in
    record {
      up = λ z. omega (arith, la, m.up (linked-spoken release o p.account go z));
      uas = λ z. omega (arith, la, uas-by (or_cases (sent_is is_ua t.answ.sent) (any_sent is_ua Answerer ts) z));
      due = λ z. omega (arith, la, m.due (ta.owes z));
      counted = λ z. omega (arith, lo, m.counted (sym (ap (λ (x : Part). x.numbered) ta.part_is) ∙ z));
      froms = λ z. froms-by (or_cases (sent_is is_counted t.orig.sent) (any_sent is_counted Originator ts) z);
      segments = λ z. omega (arith, lo, segments-by (or_cases (sent_is is_segment t.answ.sent) (any_sent is_segment Answerer ts) z));
      discs = λ z. discs-by (or_cases (sent_is is_disc t.orig.sent) (any_sent is_disc Originator ts) z);
      hung = λ z. omega (arith, lo, m.hung (omega (arith, la, z)));
      never = λ z. m.never (omega (arith, la, z));
    }
  where
    uas-by : (sent_is is_ua t.answ.sent ≡ true) ⊎ (any_sent is_ua Answerer ts ≡ true) → 1 ≤ stage a.phase
    uas-by x = grind (arith)

    froms-by : (sent_is is_counted t.orig.sent ≡ true) ⊎ (any_sent is_counted Originator ts ≡ true) → 1 ≤ stage p.account.phase
    froms-by x = grind (arith)

    segments-by : (sent_is is_segment t.answ.sent ≡ true) ⊎ (any_sent is_segment Answerer ts ≡ true) → 1 ≤ stage o.phase
    segments-by x = grind (arith)

    discs-by : (sent_is is_disc t.orig.sent ≡ true) ⊎ (any_sent is_disc Originator ts ≡ true) → 2 ≤ stage p.account.phase
    discs-by x = grind (arith)

met-left : (ts : List Turn) (o a p b : Account) → Leaves o p → Leaves a b → Met ts o a → Met ts p b
met-left ts o a p b l k m = grind (arith)

pub met-mid : (reads : ReadsAllowed) (keeps : KeepsTaken) (link : Link) (delay : Role → ℕ) (ts : List Turn) (before : Accounts) (t : Turn)
    (mid : Accounts) → MayPlay link.orig.setup link.answ.setup → RunOf link ts before → Met ts before.orig before.answ → Carries delay ts t
    → Hears (length ts) before t mid → Met ts mid.orig mid.answ
met-mid reads keeps link delay ts before t mid p h m c k =
    let s = kept-run reads keeps (HasSetup link) link (setups-kept link) ts before h in
    met-heard ts before.orig before.answ mid.orig mid.answ delay t.orig.heard t.answ.heard m
    (ap (λ (x : Setup). x.role) (s Originator) ∙ p.originates)
    (hears reads keeps (length ts) (arrival t.orig.heard) before.orig mid.orig (k Originator).hears)
    (hears reads keeps (length ts) (arrival t.answ.heard) before.answ mid.answ (k Answerer).hears)
    (is-told (length ts) (arrival t.orig.heard) before.orig mid.orig (k Originator).hears)
    (is-told (length ts) (arrival t.answ.heard) before.answ mid.answ (k Answerer).hears) (c Originator) (c Answerer)

pub met-run : (reads : ReadsAllowed) (keeps : KeepsTaken) (link : Link) (delay : Role → ℕ) → MayPlay link.orig.setup link.answ.setup
    → (ts : List Turn) (ends : Accounts) → IsCarried delay ts → RunOf link ts ends → Met ts ends.orig ends.answ
met-run reads keeps link delay p [] ends c h = grind (arith)
met-run reads keeps link delay p (t ∷ ts) ends c h =
    let before = h.0 in
    let g = h.2 in
    let turn = length ts in
    let o = (served_at link turn g.mid Originator).account in
    let a = (served_at link turn g.mid Answerer).account in
    let r = is_released g.mid.orig.phase in
    let ko = g.speaking Originator in
    let ka = g.speaking Answerer in
    let mid = met-mid reads keeps link delay ts before t g.mid p h.1 (met-run reads keeps link delay p ts before c.1 h.1) c.0 g.hearing in
    let lo = serving link.orig.user turn r g.mid.orig in
    let la = serving link.answ.user turn r g.mid.answ in
    let setup = kept-run reads keeps (HasSetup link) link (setups-kept link) (t ∷ ts) ends h Answerer in
    let left = met-left ts g.mid.orig g.mid.answ o a lo la mid in
    let role : a.setup.role ≡ Answerer =
    role-of ends ka.said.account a ka.after_is (speaks-at link turn g.mid Answerer ka.said ka.says)
    (ap (λ (x : Setup). x.role) setup ∙ p.answers) in
    let m = met-spoken ts t o a (told link turn g.mid Originator) ko.said ka.said left role
    (speaks-at link turn g.mid Originator ko.said ko.says) (speaks-at link turn g.mid Answerer ka.said ka.says)
    (is-said turn (told link turn g.mid Originator) o ko.said ko.says) (is-said turn false a ka.said ka.says) ko.sent_is ka.sent_is in
    subst (λ (x : Account). Met (t ∷ ts) x ends.answ) (sym ko.after_is)
    (subst (λ (x : Account). Met (t ∷ ts) ko.said.account x) (sym ka.after_is) m)
  where
    role-of : (e : Accounts) (x y : Account) → e.answ ≡ x → Speaks false y x → e.answ.setup.role ≡ Answerer → y.setup.role ≡ Answerer
    role-of e x y q v w = grind (arith)
