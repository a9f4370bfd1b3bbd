-- What is heard determines a run.
use Rattle.link_run.proofs.Names.{◌≡◌, ℕ, true, false, List, [], ◌∷◌, length, map, arith, refl, sym, ◌∙◌, ap, subst, Some, Result, Ok, Err}
use Rattle.link_run.proofs.Names.{is_ok, false≢true, Role, Originator, Answerer, of, LinkFault, Said, is_closed, OneOutcome, OneRun}
use Rattle.link_run.proofs.Names.{heard_in, Broken, Done, Going, Outcome, TurnIs, Accounts, GoingTurn, Hears, IsBroken, IsSilent, Link}
use Rattle.link_run.proofs.Names.{Side, Turn, said_at, spoken}
use Rattle.link_account.proofs.Names.{Both}
use Rattle.link_run.proofs.Playing.{head-of}

abbrev ok-or : {A E : Type 0} → A → Result A E → A
ok-or d (Ok x) = x
ok-or d (Err e) = d

pub one-ok : {A E : Type 0} {r : Result A E} {x y : A} → r ≡ Ok x → r ≡ Ok y → x ≡ y
one-ok {A} {E} {r} {x} {y} e k = ap (ok-or x) (sym e ∙ k)

not-both : {A E : Type 0} {r : Result A E} {x : A} {f : E} → r ≡ Ok x → r ≡ Err f → ⊥
not-both {A} {E} {r} {x} {f} e k = false≢true (ap is_ok (sym k ∙ e))

-- what is the same of each end
pub same-both : {A : Type 0} (x y : Both A) → ((r : Role) → of r x ≡ of r y) → x ≡ y
same-both {A} x y h =
    ap (λ z. record { orig = z; answ = x.answ }) (h Originator) ∙ ap (λ z. record { orig = y.orig; answ = z }) (h Answerer)

pub same-side : (s u : Side) → s.heard ≡ u.heard → s.check ≡ u.check → s.sent ≡ u.sent → s.given ≡ u.given → s ≡ u
same-side s u h c p g = grind (arith)

-- the same is heard by each end
abbrev pub HearSame : Turn → Turn → Type 0
HearSame t u = (r : Role) → (of r t).heard ≡ (of r u).heard

one-mid : (turn : ℕ) (before : Accounts) (t u : Turn) (mid others : Accounts) → Hears turn before t mid → Hears turn before u others
    → HearSame t u
    → mid ≡ others
one-mid turn before t u mid others h k e = grind (arith, same-both, one-ok)

-- a turn by what was heard, the ends that have heard, and what was sent
one-turn : (turn : ℕ) (before : Accounts) (t u : Turn) (mid others : Accounts) → Hears turn before t mid → Hears turn before u others
    → HearSame t u
    → mid ≡ others
    → ((r : Role) → (of r t).sent ≡ (of r u).sent) → t ≡ u
one-turn turn before t u mid others h k e m p = grind (arith, same-both, same-side)

pub record SameGoing (t u : Turn) (mid others after later : Accounts) : Type 0 where
  pub mids : mid ≡ others
  pub turns : t ≡ u
  pub ends : after ≡ later

one-going : (link : Link) (ts : List Turn) (before : Accounts) (t u : Turn) (after later : Accounts) (g : GoingTurn link ts before t after)
    (k : GoingTurn link ts before u later) → HearSame t u → SameGoing t u g.mid k.mid after later
one-going link ts before t u after later g k e =
    let turn = length ts in
    let m = one-mid turn before t u g.mid k.mid g.hearing k.hearing e in
    let x : (r : Role) → (g.speaking r).said ≡ (k.speaking r).said =
    λ r. one-ok (g.speaking r).says (ap (λ z. said_at link turn z r) m ∙ (k.speaking r).says) in
    record {
      mids = m;
      turns = one-turn turn before t u g.mid k.mid g.hearing k.hearing e m
          (λ r. (g.speaking r).sent_is ∙ ap (λ s. Some (spoken s)) (x r) ∙ sym (k.speaking r).sent_is);
      ends = same-both after later (λ r. (g.speaking r).after_is ∙ ap (λ (s : Said). s.account) (x r) ∙ sym (k.speaking r).after_is);
    }

heard-same : (t u : Turn) → heard_in t ≡ heard_in u → HearSame t u
heard-same t u e x = grind (arith)

pub one_run : OneRun
one_run link [] [] ends others h k e = (refl, h ∙ sym k)
one_run link [] (u ∷ us) ends others h k e = absurd (omega (arith, ap length e))
one_run link (t ∷ ts) [] ends others h k e = absurd (omega (arith, ap length e))
one_run link (t ∷ ts) (u ∷ us) ends others h k e =
    let parts = head-of (heard_in t) (heard_in u) (map heard_in ts) (map heard_in us) e in
    let ih = one_run link ts us h.0 k.0 h.1 k.1 parts.1 in
    let g : GoingTurn link ts h.0 u others =
    subst (λ b. GoingTurn link ts b u others) (sym ih.1) (subst (λ l. GoingTurn link l k.0 u others) (sym ih.0) k.2) in
    let s = one-going link ts h.0 t u ends others h.2 g (heard-same t u parts.0) in
    (ap (λ z. z ∷ ts) s.turns ∙ ap (λ l. u ∷ l) ih.0, s.ends)

-- what becomes of a turn
pub hearing-of : (link : Link) (ts : List Turn) (before : Accounts) (t : Turn) (mid : Accounts) (a : Outcome) → TurnIs link ts before t mid a
    → Hears (length ts) before t mid
hearing-of link ts before t mid a h = grind (arith)

-- what an outcome says of the ends that have heard, and of what is sent
pub record Says (link : Link) (turn : ℕ) (t : Turn) (mid : Accounts) : Type 0 where
  pub going : is_closed mid.orig.phase ≡ false
  pub said : Role → Said
  pub says : (r : Role) → said_at link turn mid r ≡ Ok (said r)
  pub sent_is : (r : Role) → (of r t).sent ≡ Some (spoken (said r))

abbrev Tells : Link → ℕ → Turn → Accounts → Outcome → Type 0
Tells link turn t mid Going = Says link turn t mid
Tells link turn t mid Done = (is_closed mid.orig.phase ≡ true) × IsSilent t
Tells link turn t mid (Broken role fault) = (is_closed mid.orig.phase ≡ false) × IsBroken link turn mid role fault × IsSilent t

tells : (link : Link) (ts : List Turn) (before : Accounts) (t : Turn) (mid : Accounts) (a : Outcome) → TurnIs link ts before t mid a
    → Tells link (length ts) t mid a
tells link ts before t mid Going h =
    let g = h.1 in
    subst (λ m. Says link (length ts) t m) h.2
    (record {
      going = g.going;
      said = λ r. (g.speaking r).said;
      says = λ r. (g.speaking r).says;
      sent_is = λ r. (g.speaking r).sent_is;
    })
tells link ts before t mid a h = grind (arith)

abbrev SameOutcome : Turn → Turn → Outcome → Outcome → Type 0
SameOutcome t u a b = (a ≡ b) × ((r : Role) → (of r t).sent ≡ (of r u).sent)

silent-both : (t u : Turn) → IsSilent t → IsSilent u → (r : Role) → (of r t).sent ≡ (of r u).sent
silent-both t u h k r = h r ∙ sym (k r)

same-role : (link : Link) (turn : ℕ) (mid : Accounts) (r s : Role) (f g : LinkFault) → IsBroken link turn mid r f
    → IsBroken link turn mid s g
    → Broken r f ≡ Broken s g
same-role link turn mid x y f g h k = grind (arith)

not-broken : (link : Link) (turn : ℕ) (t : Turn) (mid : Accounts) (r : Role) (f : LinkFault) → Says link turn t mid
    → IsBroken link turn mid r f
    → ⊥
not-broken link turn t mid Originator f h k = not-both (h.says Originator) k
not-broken link turn t mid Answerer f h k = not-both (h.says Answerer) k.1

same-outcome : (link : Link) (turn : ℕ) (t u : Turn) (mid : Accounts) (a b : Outcome) → Tells link turn t mid a → Tells link turn u mid b
    → SameOutcome t u a b
same-outcome link turn t u mid Going Going h k = grind (arith, spoken, one-ok)
same-outcome link turn t u mid Going Done h k = absurd (false≢true (sym h.going ∙ k.0))
same-outcome link turn t u mid Going (Broken r f) h k = absurd (not-broken link turn t mid r f h k.1)
same-outcome link turn t u mid Done Going h k = absurd (false≢true (sym k.going ∙ h.0))
same-outcome link turn t u mid Done Done h k = (refl, silent-both t u h.1 k.1)
same-outcome link turn t u mid Done (Broken r f) h k = absurd (false≢true (sym k.0 ∙ h.0))
same-outcome link turn t u mid (Broken r f) Going h k = absurd (not-broken link turn u mid r f k h.1)
same-outcome link turn t u mid (Broken r f) Done h k = absurd (false≢true (sym h.0 ∙ k.0))
same-outcome link turn t u mid (Broken r f) (Broken s g) h k = (same-role link turn mid r s f g h.1 k.1, silent-both t u h.2 k.2)

pub one_outcome : OneOutcome
one_outcome link ts before t u mid others a b h k e =
    let turn = length ts in
    let w = heard-same t u e in
    let ht = hearing-of link ts before t mid a h in
    let hu = hearing-of link ts before u others b k in
    let m = one-mid turn before t u mid others ht hu w in
    let s = same-outcome link turn t u mid a b (tells link ts before t mid a h)
    (subst (λ z. Tells link turn u z b) (sym m) (tells link ts before u others b k)) in
    (one-turn turn before t u mid others ht hu w m s.1, m, s.0)
