use Rattle.turn_losses.proofs.Names.{◌⊎◌, inl, inr, ◌≡◌, ℕ, suc, ◌+◌, ◌<◌, ◌≤◌, Bool, true, false, cond, nat_lt, List, [], ◌∷◌, length}
use Rattle.turn_losses.proofs.Names.{arith, refl, sym, ◌∙◌, ap, subst, None, Ok, nat_tests, Role, Originator, Answerer, Arrived, Account}
use Rattle.turn_losses.proofs.Names.{is_connected, Said, speak, cases_lt, of, fresh, Phase, is_busy, is_closed, is_released, Link, Accounts}
use Rattle.turn_losses.proofs.Names.{Turn, RunOf, start, arrival, served_at, said_at, releases, Carries, IsCarried, Hears, OneDue}
use Rattle.turn_losses.proofs.Names.{of_arrived, Served, linked-of, unlinked-of, Rates, rates, Stands, KeepsTime, Deed, Happens, Trace}
use Rattle.turn_losses.proofs.Names.{TimedRun, past, sent_or, is_linked, PollTurn, end_of, is_poll, is_final}
use Rattle.link_run.proofs.Names.{GoingTurn}
use Rattle.turn_bound.proofs.AtMostOne.{one-hears}
use Rattle.turn_losses.proofs.PollHear.{PollHeard}
use Rattle.turn_losses.proofs.PollTurn.{poll-speaks, poll-turn}
use Rattle.turn_losses.proofs.InTurn.{InTurn, in-turn}
use Rattle.turn_losses.proofs.Answering.{end-answers}
use Rattle.turn_losses.proofs.HeardNumber.{CountKept, count-hears, await-hears}
use Rattle.turn_losses.proofs.Trace.{Early}

served-heard : (role : Role) (turn breaks : ℕ) (busy polled : Bool) (a b c : Account) → Served turn breaks busy b c
    → PollHeard role turn polled a b → PollHeard role turn polled a c
served-heard role turn breaks busy polled a b c s h = grind (arith)

pub silent-of : (z : Rates) (before turn : ℕ) (r : Role) (p : Phase) (a : Account) → Stands z before turn r p a → r ≡ Answerer
    → is_connected p ≡ true → a.numbered ≡ false → a.wait.timer ≡ None
silent-of z before turn q x a st e f n = grind (arith)

-- a turn of one end
module _ {tries period : ℕ} {link : Link} {role : Role} {turn : ℕ} {a : Account} {arrived : Arrived} {mid b : Account}
    (i : InTurn tries period link role turn a arrived mid b) where
  served-count : CountKept a mid → (mid.outgoing.count ≡ 0) ⊎ ((mid.outgoing.count ≡ a.outgoing.count) × (b.wait.timer ≡ a.wait.timer))
  served-count y = grind (arith)

  served-one : OneDue role mid → (b.owes.answer ≡ None) ⊎ (is_released b.phase ≡ false → b.owes.reply ≡ false)
  served-one o = grind (arith)

  end-polls : (release : Bool) (said : Said) → speak turn release b ≡ Ok said → Early role a
      → (made : Bool) × PollTurn period turn role (of_arrived is_poll arrived)
      (of_arrived is_final arrived) made mid.outgoing.count said.sent a said.account
  end-polls release said speaks early =
      let z : Rates = rates tries period in
      let s = i.served in
      let one = one-hears role arrived turn a mid i.role_is i.none_due i.hears in
      poll-turn period turn role (of_arrived is_poll arrived) (of_arrived is_final arrived) a b said i.long
      (served-heard role turn (length (of role link).user.breaks) (is_busy turn (of role link).user.busy) (of_arrived is_poll arrived) a mid
      b
      s i.polls)
      (poll-speaks turn release b said speaks)
      (record {
        one = served-one one;
        calm = λ c x. s.reply ∙ one.calm (ap is_connected (sym s.phase) ∙ c) (ap is_released (sym s.phase) ∙ x);
        none = λ r c. s.answer ∙ one.none r (ap is_closed (sym s.phase) ∙ c);
      })
      i.none_due early (λ e. (unlinked-of z turn turn role a.phase a i.stands e).timer)
      (λ r e n. silent-of z (turn + 1) turn role i.phase b i.b_stands r (ap is_connected (sym (s.phase ∙ i.heard.phase)) ∙ e) n)
      i.b_period (λ e. ap (λ o. o.awaited) s.longer.outgoing ∙ await-hears arrived turn a mid e i.hears)
      mid.outgoing.count (ap (λ o. o.count) s.longer.outgoing)
      (λ e. served-count (count-hears z arrived turn a mid e (linked-of z turn turn role a.phase a i.stands e).sends i.hears))

-- an end speaks as its role does
abbrev pub release_of : Link → ℕ → Accounts → Role → Bool
release_of link turn mid Originator = releases link turn mid
release_of link turn mid Answerer = false

pub said-as : (link : Link) (turn : ℕ) (mid : Accounts) (role : Role)
    → said_at link turn mid role ≡ speak turn (release_of link turn mid role) (served_at link turn mid role).account
said-as link turn mid b = grind (arith)

abbrev pub AllEarly : Accounts → Type 0
AllEarly ends = (role : Role) → Early role (of role ends)

-- a turn of both
turn-happens : (tries period : ℕ) (delay : Role → ℕ) (link : Link) (ts : List Turn) (before : Accounts) (t : Turn) (after : Accounts)
    → KeepsTime tries period delay link → RunOf link ts before → IsCarried delay ts → Carries delay ts t
    → GoingTurn link ts before t after → AllEarly before
    → (d : Deed) × (d.turn ≡ t) × Happens period delay link ts (length ts) before d after
turn-happens tries period delay link ts before t after k run c cs g early = (
  record { turn = t; mid = g.mid; made = λ role. (polls role).0 },
  refl,
  record {
    number = refl;
    run = run;
    carried = c;
    carries = cs;
    hearing = g.hearing;
    going = g.going;
    speaking = g.speaking;
    polls = λ role.
        let s = g.speaking role in
        subst (λ x. PollTurn period (length ts) role (of_arrived is_poll (arrival (of role t).heard))
        (of_arrived is_final (arrival (of role t).heard)) (polls role).0 (of role g.mid).outgoing.count x (of role before)
        (of role after))
        (ap sent_or (sym s.sent_is))
        (subst (λ x. PollTurn period (length ts) role (of_arrived is_poll (arrival (of role t).heard))
        (of_arrived is_final (arrival (of role t).heard)) (polls role).0 (of role g.mid).outgoing.count s.said.sent (of role before) x)
        (sym s.after_is) (polls role).1);
    answers = λ role. end-answers (at role) (release_of link (length ts) g.mid role) (g.speaking role).said
        (sym (said-as link (length ts) g.mid role) ∙ (g.speaking role).says);
  },
)
  where
    at : (r : Role) → InTurn tries period link r (length ts) (of r before) (arrival (of r t).heard) (of r g.mid)
        (served_at link (length ts) g.mid r).account
    at = in-turn tries period delay link ts before k run c t g.mid g.hearing

    polls : (role : Role)
        → (made : Bool) × PollTurn period (length ts) role (of_arrived is_poll (arrival (of role t).heard))
        (of_arrived is_final (arrival (of role t).heard)) made (of role g.mid).outgoing.count (g.speaking role).said.sent (of role before)
        (g.speaking role).said.account
    polls role = end-polls (at role) (release_of link (length ts) g.mid role) (g.speaking role).said
        (sym (said-as link (length ts) g.mid role) ∙ (g.speaking role).says) (early role)

-- a run as it is looked up
pub record Traced (period : ℕ) (delay : Role → ℕ) (link : Link) (ts : List Turn) (ends : Accounts) : Type 0 where
  pub state : ℕ → Accounts
  pub deed : ℕ → Deed
  pub trace : Trace period delay link ts state deed
  pub last : state (length ts) ≡ ends
  pub early : AllEarly ends

none-deed : Accounts → Deed
none-deed ends = grind (arith)

is-below : (m n : ℕ) → m < n → nat_lt m n ≡ true
is-below m n l = grind (arith, nat_tests, l)

not-below : (m n : ℕ) → n ≤ m → nat_lt m n ≡ false
not-below m n l = grind (arith, nat_tests, l)

-- the turns before a turn
pub past-length : (ts : List Turn) (t : ℕ) → t ≤ length ts → length (past ts t) ≡ t
past-length [] t l = omega (arith, l)
past-length (x ∷ ts) t l = elim (cases_lt (length ts) t) [
  | inl less ↦ ap (λ b. length (cond b (x ∷ ts) (past ts t))) (is-below (length ts) t less) ∙ omega (arith, less, l)
  | inr more ↦ ap (λ b. length (cond b (x ∷ ts) (past ts t))) (not-below (length ts) t more) ∙ past-length ts t more
]

past-later : (x : Turn) (ts : List Turn) (t : ℕ) → t ≤ length ts → past (x ∷ ts) t ≡ past ts t
past-later x ts t l = ap (λ b. cond b (x ∷ ts) (past ts t)) (not-below (length ts) t l)

pub past-all : (ts : List Turn) → past ts (length ts) ≡ ts
past-all [] = refl
past-all (x ∷ ts) = ap (λ b. cond b (x ∷ ts) (past ts (suc (length ts)))) (is-below (length ts) (suc (length ts)) (omega arith))

pub past-before : (x : Turn) (ts : List Turn) → past (x ∷ ts) (length ts) ≡ ts
past-before x ts = past-later x ts (length ts) (omega arith) ∙ past-all ts

-- A run with one more turn, and what that turn was.
pub record OneMore (period : ℕ) (delay : Role → ℕ) (link : Link) (x : Turn) (ts : List Turn) (before : Accounts) (d : Deed)
    (after : Accounts) : Type 0 where
  pub traced : Traced period delay link (x ∷ ts) after
  pub before_is : traced.state (length ts) ≡ before
  pub deed_is : traced.deed (length ts) ≡ d

pub longer : (period : ℕ) (delay : Role → ℕ) (link : Link) (ts : List Turn) (s : Accounts) (x : Turn) (d : Deed) (u : Accounts)
    → Traced period delay link ts s → d.turn ≡ x → Happens period delay link ts (length ts) s d u → OneMore period delay link x ts s d u
longer period delay link ts s x d u k dx h = record {
  traced = record {
    state = state;
    deed = deed;
    trace = record { starts = ap (λ b. cond b u (k.state 0)) first ∙ k.trace.starts; happens = happens; grows = grows };
    last = ap (λ b. cond b u (k.state (suc n))) last;
    early = λ role. (h.polls role).early;
  };
  before_is = early-state n (omega arith) ∙ k.last;
  deed_is = late-deed n (omega arith);
}
  where
    n : ℕ
    n = length ts

    state : ℕ → Accounts
    state t = cond (nat_lt n t) u (k.state t)

    deed : ℕ → Deed
    deed t = cond (nat_lt t n) (k.deed t) d

    first : nat_lt n 0 ≡ false
    first = not-below n 0 (omega arith)

    last : nat_lt n (suc n) ≡ true
    last = is-below n (suc n) (omega arith)

    early-state : (t : ℕ) → t ≤ n → state t ≡ k.state t
    early-state t l = let e : nat_lt n t ≡ false = not-below n t l in ap (λ b. cond b u (k.state t)) e

    late-state : (t : ℕ) → n < t → state t ≡ u
    late-state t l = let e : nat_lt n t ≡ true = is-below n t l in ap (λ b. cond b u (k.state t)) e

    early-deed : (t : ℕ) → t < n → deed t ≡ k.deed t
    early-deed t l = let e : nat_lt t n ≡ true = is-below t n l in ap (λ b. cond b (k.deed t) d) e

    late-deed : (t : ℕ) → n ≤ t → deed t ≡ d
    late-deed t l = let e : nat_lt t n ≡ false = not-below t n l in ap (λ b. cond b (k.deed t) d) e

    moved : (t : ℕ) (us : List Turn) (a b : Accounts) (w : Deed) → past (x ∷ ts) t ≡ us → state t ≡ a → deed t ≡ w → state (t + 1) ≡ b
        → Happens period delay link us t a w b
        → Happens period delay link (past (x ∷ ts) t) t (state t) (deed t) (state (t + 1))
    moved t us a b w o p q r g = grind (arith, deed)

    happens : (t : ℕ) → t < suc n → Happens period delay link (past (x ∷ ts) t) t (state t) (deed t) (state (t + 1))
    happens t less = elim (cases_lt t n) [
      | inl l ↦ moved t (past ts t) (k.state t) (k.state (t + 1)) (k.deed t) (past-later x ts t (omega (arith, l)))
          (early-state t (omega (arith, l))) (early-deed t l) (early-state (t + 1) (omega (arith, l)))
          (k.trace.happens t l)
      | inr g ↦ at-last (omega (arith, less, g))
    ]
      where
        at-last : t ≡ n → Happens period delay link (past (x ∷ ts) t) t (state t) (deed t) (state (t + 1))
        at-last q = moved t ts s u d (ap (past (x ∷ ts)) q ∙ (past-later x ts n (omega arith) ∙ past-all ts))
            (early-state t (omega (arith, q)) ∙ (ap k.state q ∙ k.last)) (late-deed t (omega (arith, q)))
            (late-state (t + 1) (omega (arith, q))) (subst (λ y. Happens period delay link ts y s d u) (sym q) h)

    grows : (t : ℕ) → t < suc n → past (x ∷ ts) (t + 1) ≡ (deed t).turn ∷ past (x ∷ ts) t
    grows t less = elim (cases_lt t n) [
      | inl l ↦ past-later x ts (t + 1) (omega (arith, l))
          ∙ (k.trace.grows t l ∙
          (ap (λ w. w.turn ∷ past ts t) (sym (early-deed t l))
          ∙ ap (λ us. (deed t).turn ∷ us) (sym (past-later x ts t (omega (arith, l))))))
      | inr g ↦ at-last (omega (arith, less, g))
    ]
      where
        at-last : t ≡ n → past (x ∷ ts) (t + 1) ≡ (deed t).turn ∷ past (x ∷ ts) t
        at-last q =
            ap (λ b. cond b (x ∷ ts) (past ts (t + 1))) (is-below n (t + 1) (omega (arith, q)))
            ∙ (ap (λ y. y ∷ ts) (sym (ap (λ w. w.turn) (late-deed t (omega (arith, q))) ∙ dx))
            ∙ ap (λ us. (deed t).turn ∷ us) (sym (ap (past (x ∷ ts)) q ∙ (past-later x ts n (omega arith) ∙ past-all ts))))

-- every run is traced
pub traced : (tries period : ℕ) (delay : Role → ℕ) (link : Link) (ts : List Turn) (ends : Accounts) → KeepsTime tries period delay link
    → RunOf link ts ends → IsCarried delay ts → Traced period delay link ts ends
traced tries period delay link [] ends k run c = record {
  state = λ t. ends;
  deed = λ t. none-deed ends;
  trace = record {
    starts = run;
    happens = λ t l. let none : ⊥ = omega (arith, l) in absurd none;
    grows = λ t l. let none : ⊥ = grind (arith) in absurd none;
  };
  last = refl;
  early = λ role. subst (λ x. Early role (of role x)) (sym run) (begins role);
}
  where
    begins : (role : Role) → Early role (of role (start link))
    begins role = grind (arith)
traced tries period delay link (t ∷ ts) ends k (before, run, g) c =
    let w = traced tries period delay link ts before k run c.1 in
    let d = turn-happens tries period delay link ts before t ends k run c.1 c.0 g w.early in
    (longer period delay link ts before t d.0 ends w d.1 d.2).traced

abbrev pub timed-of : (tries period : ℕ) (delay : Role → ℕ) (link : Link) (ts : List Turn) (ends : Accounts)
    → KeepsTime tries period delay link → RunOf link ts ends → IsCarried delay ts → Traced period delay link ts ends → TimedRun
timed-of tries period delay link ts ends k run c w = record {
  tries = tries;
  period = period;
  delay = delay;
  link = link;
  ts = ts;
  ends = ends;
  keeps = k;
  run = run;
  carried = c;
  state = w.state;
  deed = w.deed;
  trace = w.trace;
  last = w.last;
}

abbrev pub timed-run : (tries period : ℕ) (delay : Role → ℕ) (link : Link) (ts : List Turn) (ends : Accounts)
    → KeepsTime tries period delay link → RunOf link ts ends → IsCarried delay ts → TimedRun
timed-run tries period delay link ts ends k run c = timed-of tries period delay link ts ends k run c
    (traced tries period delay link ts ends k run c)

-- and so is one more turn of it
pub traced-turn : (tries period : ℕ) (delay : Role → ℕ) (link : Link) (ts : List Turn) (before : Accounts) (t : Turn) (after : Accounts)
    → KeepsTime tries period delay link → RunOf link ts before → GoingTurn link ts before t after → IsCarried delay (t ∷ ts)
    → (d : Deed) × (d.turn ≡ t) × OneMore period delay link t ts before d after
traced-turn tries period delay link ts before t after k run g c =
    let w = traced tries period delay link ts before k run c.1 in
    let d = turn-happens tries period delay link ts before t after k run c.1 c.0 g w.early in
    (d.0, d.1, longer period delay link ts before t d.0 after w d.1 d.2)

-- The turns of an end of a run, one by one.
abbrev pub TurnAt : TimedRun → Role → ℕ → Type 0
TurnAt w r u = InTurn w.tries w.period w.link r u ((end_of w r).account u) ((end_of w r).heard u) ((end_of w r).mid u)
    ((end_of w r).served u)

-- what it says then
pub record EndTurn (w : TimedRun) (r : Role) (u : ℕ) : Type 0 where
  pub in_turn : TurnAt w r u
  pub said : Said
  pub says : speak u (release_of w.link u (w.deed u).mid r) ((end_of w r).served u) ≡ Ok said
  pub slot : (end_of w r).slot u ≡ said.sent
  pub after : (end_of w r).account (u + 1) ≡ said.account
  pub linked : is_linked ((end_of w r).account (u + 1)).phase ≡ is_linked ((end_of w r).mid u).phase
  pub connected : is_connected ((end_of w r).account (u + 1)).phase ≡ true → is_connected ((end_of w r).mid u).phase ≡ true

pub end-turn : (w : TimedRun) → (r : Role) → (u : ℕ) → u < length w.ts → EndTurn w r u
end-turn w r u l =
    let h = w.trace.happens u l in
    let s = h.speaking r in
    let mid : Accounts = (w.deed u).mid in
    let i : TurnAt w r u = subst (λ n. InTurn w.tries w.period w.link r n (of r (w.state u)) ((end_of w r).heard u) (of r mid)
    (served_at w.link n mid r).account) h.number
    (in-turn w.tries w.period w.delay w.link (past w.ts u) (w.state u) w.keeps h.run h.carried (w.deed u).turn mid
    (subst (λ n. Hears n (w.state u) (w.deed u).turn mid) (sym h.number) h.hearing) r) in
    let says = sym (said-as w.link u mid r) ∙ s.says in
    let k = poll-speaks u (release_of w.link u mid r) ((end_of w r).served u) s.said says in
    record {
      in_turn = i;
      said = s.said;
      says = says;
      slot = ap sent_or s.sent_is;
      after = s.after_is;
      linked = ap (λ (x : Account). is_linked x.phase) s.after_is ∙ (k.linked ∙ ap is_linked i.served.phase);
      connected = λ c. ap is_connected (sym i.served.phase) ∙ (k.connected
          (ap (λ (x : Account). is_connected x.phase) (sym s.after_is) ∙ c)).0;
    }

-- the turn behind a run
pub last-turn : (w : TimedRun) (t : Turn) (mid : Accounts) → Hears (length w.ts) w.ends t mid → (r : Role)
    → InTurn w.tries w.period w.link r (length w.ts) (of r w.ends) (arrival (of r t).heard) (of r mid)
    (served_at w.link (length w.ts) mid r).account
last-turn w = in-turn w.tries w.period w.delay w.link w.ts w.ends w.keeps w.run w.carried

pub starts-fresh : (w : TimedRun) (r : Role) → (end_of w r).account 0 ≡ fresh (of r w.link).setup
starts-fresh w b = grind (arith)
