use Rattle.turn_bound.proofs.Names.{◌≡◌, ℕ, ◌+◌, ◌*◌, ◌≤◌, ◌||◌, Bool, true, false, cond, nat_eq, length, arith, refl, sym, ◌∙◌, ap, subst}
use Rattle.turn_bound.proofs.Names.{Option, Some, None, Ok, ◌<◌, ◌&&◌, nat_le, after_next, nat_tests, Role, Originator, Answerer, Outgoing}
use Rattle.turn_bound.proofs.Names.{next_number, BreakWord, is_connected, is_originator, Said, may_send, speak_linked, Frame, trying, speak}
use Rattle.turn_bound.proofs.Names.{is_some, AllSaid, Expired, Steps, Ways, answers_alone, by-linked, by-ways, linked-so, next-keeps}
use Rattle.turn_bound.proofs.Names.{polling_at, steps-so, breaking, running, says_segment, timer_expires, Owes, Setup, Phase, Connected}
use Rattle.turn_bound.proofs.Names.{is_closed, Negotiating, Establishing, Releasing}
use Rattle.link_account.proofs.Names.{OwnBreaks, ticked, Account}
use Rattle.link_account.proofs.SpeakWays.{ConnectedWays, Tries as TryWays}
use Rattle.turn_bound.proofs.Value.{Rates, AreRates, is_waiting, Sends, lasts, sender_value, Breaks, is_breaking, break_left, value, lives}
use Rattle.turn_bound.proofs.Value.{IsOf, IsAck, IsSilent, LinkedIn, Linked, Stands, Runs, left, try_left, Tries, tries_fit}
use Rattle.turn_bound.proofs.Sending.{WaitedWell, waited-quiet, waited-expired, sent-well, TickedWell, ticked-well, brk-sent}
use Rattle.shared_terms.specs.Timer.{expires}
use Rattle.turn_bound.proofs.Hearing.{tries-now}

-- what the timers make of a Connected account
pub record Timed (z : Rates) (total breaks turn : ℕ) (role : Role) (a b : Account) : Type 0 where
  pub waited : WaitedWell z total turn a.outgoing a.wait.timer b.outgoing b.wait.timer
  pub ticked : TickedWell z breaks turn a.own_breaks b.own_breaks
  pub linked : Linked z (turn + 1) (turn + 1) role b
  pub setup : b.setup ≡ a.setup
  pub phase : b.phase ≡ a.phase
  pub numbered : b.numbered ≡ a.numbered
  pub pieces : b.outgoing.pieces ≡ a.outgoing.pieces
  pub ended : b.outgoing.ended ≡ a.outgoing.ended

-- what a step makes of it, by the parts that count
pub record StepIn (z : Rates) (total breaks turn : ℕ) (role : Role) (a : Account) (s : Setup) (p : Phase) (n : Bool) (o : Outgoing)
    (timer : Option ℕ) (b : OwnBreaks) (due : Option BreakWord) : Type 0 where
  pub linked : LinkedIn z (turn + 1) (turn + 1) role n o timer b due
  pub waits : is_waiting a.outgoing ≡ true → is_waiting o ≡ true
  pub falls : sender_value z total (turn + 1) o timer + cond (is_waiting a.outgoing) 0 (cond (is_waiting o) (z.room + 1) 0)
      ≤ sender_value z total (turn + 1) a.outgoing a.wait.timer
  pub breaking : is_breaking (turn + 1) b ≡ is_breaking (turn + 1) a.own_breaks
  pub left : break_left z (turn + 1) b ≡ break_left z (turn + 1) a.own_breaks
  pub lengths : b.lengths ≡ a.own_breaks.lengths
  pub setup : s ≡ a.setup
  pub phase : p ≡ a.phase
  pub numbered : n ≡ a.numbered
  pub pieces : o.pieces ≡ a.outgoing.pieces
  pub ended : o.ended ≡ a.outgoing.ended

abbrev pub Stepped : Rates → ℕ → ℕ → ℕ → Role → Account → Account → Type 0
Stepped z total breaks turn role a b =
    StepIn z total breaks turn role a b.setup b.phase b.numbered b.outgoing b.wait.timer b.own_breaks b.their_breaks.ack

nothing-falls : (v k : ℕ) (w : Bool) → v + cond w 0 (cond w (k + 1) 0) ≤ v
nothing-falls v k b = grind (arith)

-- The steps of a Connected end.
module _ (z : Rates) (total breaks turn : ℕ) (role : Role) (a : Account) (y : AreRates z) (h : Linked z (turn + 1) (turn + 1) role a)
    (er : a.setup.role ≡ role) (all : length a.outgoing.pieces ≤ total) where
  -- a frame that leaves the sender's part as it is
  leaves : (b : OwnBreaks) (due : Option BreakWord) → Breaks z (turn + 1) (turn + 1) b
      → is_breaking (turn + 1) b ≡ is_breaking (turn + 1) a.own_breaks
      → break_left z (turn + 1) b ≡ break_left z (turn + 1) a.own_breaks → b.lengths ≡ a.own_breaks.lengths → IsAck due
      → StepIn z total breaks turn role a a.setup a.phase a.numbered a.outgoing a.wait.timer b due
  leaves b due sound breaking left lengths ack = grind (arith, nothing-falls)

  -- and the breaks
  same : (due : Option BreakWord) → IsAck due
      → StepIn z total breaks turn role a a.setup a.phase a.numbered a.outgoing a.wait.timer a.own_breaks due
  same due ack = leaves a.own_breaks due h.breaks refl refl refl ack

  -- an I frame
  segment : (n : ℕ) → may_send a ≡ Some n → AllSaid (λ s. Stepped z total breaks turn role a s.account) (says_segment turn (Some n) a)
  segment n e =
      let g = allowed (is_originator a.setup.role || a.numbered) refl e in
      let s = sent-well z total turn a.outgoing a.wait.timer n y h.sends all g.0 in
      let keeps = next-keeps a.outgoing in
      record {
        linked = record { sends = s.sends; breaks = h.breaks; ack = h.ack; silent = heard-of role er g.1 _ _ };
        waits = λ w. s.waits;
        falls = subst (λ l. sender_value z total (turn + 1) (after_next a.outgoing) (running turn a.wait.timer) + cond
            (is_waiting a.outgoing) 0 (cond l (z.room + 1) 0) ≤ sender_value z total (turn + 1) a.outgoing a.wait.timer)
            (sym s.waits) s.falls;
        breaking = refl;
        left = refl;
        lengths = refl;
        setup = refl;
        phase = refl;
        numbered = refl;
        pieces = keeps.pieces;
        ended = keeps.ended;
      }
    where
      allowed : (b : Bool) → is_originator a.setup.role || a.numbered ≡ b → cond b (next_number a.outgoing) None ≡ Some n
          → (next_number a.outgoing ≡ Some n) × (is_originator a.setup.role || a.numbered ≡ true)
      allowed b f e = grind (arith)

      heard-of : (r : Role) → a.setup.role ≡ r → is_originator a.setup.role || a.numbered ≡ true → (high : ℕ) (timer : Option ℕ)
          → IsSilent r a.numbered high timer
      heard-of r f g high timer = grind (arith)

  pub steps-well : (special : Bool) → Steps (λ s. Stepped z total breaks turn role a s.account) turn special a
  steps-well special = record {
    answers = λ d e. same _ h.ack;
    final = λ n e. same _ h.ack;
    poll = λ n r e. same _ h.ack;
    segment = λ b u n e. segment n e;
    brkack = λ b s word e. same None tt;
    brk = grind (arith, leaves, brk-sent);
    tell = λ b w e. same _ h.ack;
    rej = λ b w n k. same _ h.ack;
    srej = λ b w s n k. same _ h.ack;
    flags = λ i. same _ h.ack;
  }

-- The timers come first: the account that they leave, and what the step makes of it.
pub record Spoke (z : Rates) (total breaks turn : ℕ) (role : Role) (a : Account) (said : Said) : Type 0 where
  pub timed : Account
  pub is_timed : Timed z total breaks turn role a timed
  pub stepped : Stepped z total breaks turn role timed said.account

module _ (z : Rates) (total breaks turn : ℕ) (role : Role) (a : Account) (y : AreRates z) (k : IsOf z a.setup)
    (h : Linked z (turn + 1) turn role a) where
  ticks : (own : OwnBreaks) → ticked turn a.setup.period a.setup.tries a.own_breaks ≡ Some own → TickedWell z breaks turn a.own_breaks own
  ticks own t = ticked-well z breaks turn a.own_breaks own y h.breaks (ap (λ p. ticked turn p z.tries a.own_breaks) (sym k.period)
      ∙ (ap (λ n. ticked turn a.setup.period n a.own_breaks) (sym k.tries) ∙ t))

  stood : timer_expires turn a a.wait.timer ≡ false → (own : OwnBreaks) → ticked turn a.setup.period a.setup.tries a.own_breaks ≡ Some own
      → Timed z total breaks turn role a (record a { own_breaks = own; special = false })
  stood x own t =
      let w = waited-quiet z total turn a.outgoing a.wait.timer y h.sends
      (λ set e. ap (λ p. nat_eq turn (set + p)) (sym k.period) ∙ (ap (timer_expires turn a) (sym e) ∙ x)) in
      let c = ticks own t in
      record {
        waited = w;
        ticked = c;
        linked = record { sends = w.sends; breaks = c.sound; ack = h.ack; silent = h.silent };
        setup = refl;
        phase = refl;
        numbered = refl;
        pieces = refl;
        ended = refl;
      }

  expired : (set : ℕ) → Expired turn a set → (own : OwnBreaks) → ticked turn a.setup.period a.setup.tries a.own_breaks ≡ Some own
      → Timed z total breaks turn role a (polling_at turn a own)
  expired set x own t =
      let w = subst (λ timer. WaitedWell z total turn a.outgoing timer
      (record a.outgoing { count = a.outgoing.count + 1; awaited = true }) (Some turn)) (sym x.timer)
      (waited-expired z total turn a.outgoing set y (subst (Sends z (turn + 1) turn a.outgoing) x.timer h.sends)
      (due (omega (arith, x.due, k.period))) x.left) in
      let c = ticks own t in
      record {
        waited = w;
        ticked = c;
        linked = record { sends = w.sends; breaks = c.sound; ack = h.ack; silent = loud role h.silent };
        setup = refl;
        phase = refl;
        numbered = refl;
        pieces = refl;
        ended = refl;
      }
    where
      due : turn ≡ set + z.period → nat_eq turn (set + z.period) ≡ true
      due q = grind (arith, nat_tests, q)

      loud : (r : Role) → IsSilent r a.numbered a.outgoing.high a.wait.timer → IsSilent r a.numbered a.outgoing.high (Some turn)
      loud r s = grind (arith)

  pub spoke-ways : a.setup.role ≡ role → length a.outgoing.pieces ≤ total → ConnectedWays (Spoke z total breaks turn role a) turn a
  spoke-ways er all = record {
    stands = λ x own t. rows (record a { own_breaks = own; special = false }) (stood x own t);
    expires = λ set x own t. rows (polling_at turn a own) (expired set x own t);
  }
    where
      rows : (b : Account) → Timed z total breaks turn role a b → Steps (Spoke z total breaks turn role a) turn a.special b
      rows b t = steps-so _ _ turn a.special b (λ s x. record { timed = b; is_timed = t; stepped = x })
          (steps-well z total breaks turn role b y t.linked (ap (λ s. s.role) t.setup ∙ er)
          (omega (arith, all, ap (λ l. length l) t.pieces)) a.special)

  pub spoke : a.setup.role ≡ role → length a.outgoing.pieces ≤ total → (said : Said) → speak_linked turn a ≡ Ok said
      → Spoke z total breaks turn role a said
  spoke er all = by-linked (Spoke z total breaks turn role a) turn a (spoke-ways er all)

  -- where the segments' clock doesn't run that of the break alone can expire
  pub untimed : (P : Said → Type 0) → a.wait.timer ≡ None
      → ((own : OwnBreaks) → ticked turn a.setup.period a.setup.tries a.own_breaks ≡ Some own
      → Linked z (turn + 1) (turn + 1) role (record a { own_breaks = own; special = false })
      → Steps P turn a.special (record a { own_breaks = own; special = false }))
      → (said : Said) → speak_linked turn a ≡ Ok said → P said
  untimed P none rows = by-linked P turn a (record {
    stands = λ x own t. rows own t (stood x own t).linked;
    expires = λ set x. let wrong : None ≡ Some set = sym none ∙ x.timer in cc;
  })

-- what speaking makes of an end
pub record SpeaksAs (z : Rates) (total breaks turn : ℕ) (role : Role) (p : Phase) (a : Account) (q : Phase) (b : Account) : Type 0 where
  pub phase : b.phase ≡ q
  pub keeps : is_connected p ≡ false → q ≡ p
  pub opens : is_closed p ≡ false → is_closed q ≡ false
  pub stands : Stands z (turn + 1) (turn + 1) role q b
  pub setup : b.setup ≡ a.setup
  pub pieces : b.outgoing.pieces ≡ a.outgoing.pieces
  pub ended : b.outgoing.ended ≡ a.outgoing.ended
  pub lengths : b.own_breaks.lengths ≡ a.own_breaks.lengths
  pub falls : value z total breaks (turn + 1) role q b + lasts z.room (lives turn role p a)
      (lives (turn + 1) role q b) ≤ value z total breaks turn role p a

pub spoken-linked : (z : Rates) (total breaks turn : ℕ) (role : Role) (a : Account) (said : Said) → a.phase ≡ Connected
    → Spoke z total breaks turn role a said → SpeaksAs z total breaks turn role Connected a Connected said.account
spoken-linked z total breaks turn role a said e x = grind (arith)

-- A U try goes on, with this in its account's wait.
module _ (z : Rates) (turn : ℕ) (frame : Frame) (a : Account) (y : AreRates z) (k : IsOf z a.setup) (h : Tries z (turn + 1) turn a)
    (Q : Account → Type 0) (goes : (try : Bool) (set count : ℕ) → Runs z (turn + 1) (turn + 1) count set
    → left z (turn + 1) count (Some set) + 1 ≤ try_left z turn a
    → Q (record a { wait = record a.wait { try = try; try_set = set; try_count = count } })) where
  try-stood : expires a.wait.try_set a.setup.period turn ≡ false → (try : Bool) → Q (record a { wait = record a.wait { try = try } })
  try-stood x try = grind (arith, tries_fit)

  pub tries-well : TryWays (λ s. Q s.account) turn frame a
  tries-well = grind (arith, try-stood, tries_fit)

-- Speaking: whatever the role and the phase.
module _ (z : Rates) (total breaks turn : ℕ) (release : Bool) (role : Role) (a : Account) (y : AreRates z) (k : IsOf z a.setup)
    (st : (p : Phase) → a.phase ≡ p → Stands z (turn + 1) turn role p a) (er : a.setup.role ≡ role)
    (all : length a.outgoing.pieces ≤ total) where
  abbrev P : Account → Type 0
  P b = (q : Phase) × SpeaksAs z total breaks turn role a.phase a q b

  -- in this phase
  now : (p : Phase) → a.phase ≡ p → (q : Phase) (b : Account) → SpeaksAs z total breaks turn role p a q b → P b
  now p e q b w = (q, subst (λ p. SpeaksAs z total breaks turn role p a q b) (sym e) w)

  alone : (o : Owes) → answers_alone a.phase a.setup.role ≡ true → P (record a { owes = o })
  alone o t = grind (arith, lives)

  linked : a.phase ≡ Connected → ConnectedWays (λ s. P s.account) turn a
  linked e = linked-so _ _ turn a (λ s x. now Connected e Connected s.account (spoken-linked z total breaks turn role a s e x))
      (spoke-ways z total breaks turn role a y k (st Connected e) er all)

module _ (z : Rates) (total breaks turn : ℕ) (release : Bool) (a : Account) (y : AreRates z) (k : IsOf z a.setup)
    (st : (p : Phase) → a.phase ≡ p → Stands z (turn + 1) turn Originator p a) (er : a.setup.role ≡ Originator)
    (all : length a.outgoing.pieces ≤ total) where
  -- an originator in a U try, also one that is told to release now
  tried : (p : Phase) → a.phase ≡ p → (q : Phase) (b : Account) → b.phase ≡ q → (is_connected p ≡ false → q ≡ p) → is_closed q ≡ false
      → Stands z (turn + 1) (turn + 1) Originator q b → b.setup ≡ a.setup → b.outgoing ≡ a.outgoing → b.own_breaks ≡ a.own_breaks
      → value z total breaks (turn + 1) Originator q b + lasts z.room (lives turn Originator p a) (lives (turn + 1) Originator q b)
      ≤ value z total breaks turn Originator p a
      → P z total breaks turn release Originator a y k st er all b
  tried p e q b phase keeps opens stands setup outgoing own falls = grind (arith)

  o-ways : Ways (λ s. P z total breaks turn release Originator a y k st er all s.account) turn release a
  o-ways = record {
    answers = λ t d e. alone z total breaks turn release Originator a y k st er all _ t;
    flags = λ t e. alone z total breaks turn release Originator a y k st er all a.owes t;
    mark = λ p r e. let wrong : Originator ≡ Answerer = sym er ∙ r in cc;
    odp = grind (arith, before, tried);
    xid = λ p r. tries-well z turn _ a y k (st Negotiating p).1 _ (λ try set count runs falls.
        tried Negotiating p Negotiating _ p (λ x. refl) refl ((st Negotiating p).0, runs) refl refl refl (omega (arith, falls)));
    sabme = λ p. tries-well z turn _ a y k (st Establishing p).1 _ (λ try set count runs falls.
        tried Establishing p Establishing _ p (λ x. refl) refl ((st Establishing p).0, runs) refl refl refl (omega (arith, falls)));
    linked = λ p r. linked z total breaks turn release Originator a y k st er all p;
    releases = grind (arith, tries-well, trying, tries-now, tried, lasts-most);
    disc = λ p. tries-well z turn _ a y k (st Releasing p) _ (λ try set count runs falls.
        tried Releasing p Releasing _ p (λ x. refl) refl runs refl refl refl (omega (arith, falls)));
  }
    where
      lasts-most : (l : Bool) → lasts z.room l true ≤ z.room + 1
      lasts-most b = grind (arith)

      before : nat_le ((a.setup.tries + 1) * a.setup.period) turn ≡ false → turn < z.whole
      before l = grind (arith)

module _ (z : Rates) (total breaks turn : ℕ) (release : Bool) (a : Account) (y : AreRates z) (k : IsOf z a.setup)
    (st : (p : Phase) → a.phase ≡ p → Stands z (turn + 1) turn Answerer p a) (er : a.setup.role ≡ Answerer)
    (all : length a.outgoing.pieces ≤ total) where
  a-ways : Ways (λ s. P z total breaks turn release Answerer a y k st er all s.account) turn release a
  a-ways = record {
    answers = λ t d e. alone z total breaks turn release Answerer a y k st er all _ t;
    flags = λ t e. alone z total breaks turn release Answerer a y k st er all a.owes t;
    mark = λ p r e. alone z total breaks turn release Answerer a y k st er all a.owes (rw (p, r) refl);
    odp = λ p r. wrong r;
    xid = λ p r. wrong r;
    sabme = λ p. absurd (st Establishing p);
    linked = λ p r. linked z total breaks turn release Answerer a y k st er all p;
    releases = λ p r. wrong (originates a.setup.role release r);
    disc = λ p. absurd (st Releasing p);
  }
    where
      wrong : {A : Type 0} → a.setup.role ≡ Originator → A
      wrong r = let other-role : Answerer ≡ Originator = sym er ∙ r in cc

      originates : (r : Role) (b : Bool) → (b && is_originator r) ≡ true → r ≡ Originator
      originates c b x = grind (arith)

pub speaks-well : (z : Rates) (total breaks turn : ℕ) (role : Role) (p : Phase) (release : Bool) (a : Account) (said : Said) → AreRates z
    → IsOf z a.setup → Stands z (turn + 1) turn role p a → a.phase ≡ p → a.setup.role ≡ role → length a.outgoing.pieces ≤ total
    → speak turn release a ≡ Ok said → (q : Phase) × SpeaksAs z total breaks turn role p a q said.account
speaks-well z total breaks turn role p release a said y k h e er all f =
    subst (λ p. (q : Phase) × SpeaksAs z total breaks turn role p a q said.account) e (go role er (λ p g.
    subst (λ p. Stands z (turn + 1) turn role p a) (sym e ∙ g) h))
  where
    go : (r : Role) → a.setup.role ≡ r → ((p : Phase) → a.phase ≡ p → Stands z (turn + 1) turn r p a)
        → (q : Phase) × SpeaksAs z total breaks turn r a.phase a q said.account
    go Originator er st = by-ways _ turn release a (o-ways z total breaks turn release a y k st er all) said f
    go Answerer er st = by-ways _ turn release a (a-ways z total breaks turn release a y k st er all) said f

pub stopped : (m : Option ℕ) → is_some m ≡ false → m ≡ None
stopped b e = grind (arith)

-- an end that stays Connected isn't told to release
pub linked-says : (turn : ℕ) (release : Bool) (a : Account) (said : Said) → a.phase ≡ Connected → is_connected said.account.phase ≡ true
    → speak turn release a ≡ Ok said → (speak_linked turn a ≡ Ok said) × (release && is_originator a.setup.role ≡ false)
linked-says turn release a said e c h = grind (arith)
