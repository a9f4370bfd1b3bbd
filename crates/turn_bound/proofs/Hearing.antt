use Rattle.turn_bound.proofs.Names.{◌≡◌, ℕ, ◌≤◌, Bool, true, false, List, arith, Some, ◌+◌, ◌-◌, ◌*◌, ◌<◌, ◌||◌, length, refl, subst}
use Rattle.turn_bound.proofs.Names.{Option, sym, ◌∙◌, ap, Ok, inl, inr, TheirBreaks, no_breaks, paused_at, ConnectedWays, EarlyWays}
use Rattle.turn_bound.proofs.Names.{Numbers, acked-keeps, acked_back-keeps, numbered_with, resumed-keeps, nat_tests, Role, Originator}
use Rattle.turn_bound.proofs.Names.{Answerer, Outgoing, Frame, I, Rr, Rnr, Rej, Arrived, Incoming, Sabme, Disc, Ui, is_originator, other}
use Rattle.turn_bound.proofs.Names.{hear, on_nothing, trying, size_for, window_for, connected, first_wait, on_xid_command, on_xid_response}
use Rattle.turn_bound.proofs.Names.{timer_after, Owes, Phase, Connected, Detecting, Negotiating, Establishing, Releasing, Closed, Terms}
use Rattle.link_account.proofs.Names.{Offer, agree, offer_in, OwnBreaks, after_answer}
use Rattle.link_account.proofs.Names.{Account, Srej, Xid}
use Rattle.link_account.proofs.Names.{owing}
use Rattle.xid_params.specs.Terms.{lowered, default_offer}
use Rattle.xid_params.proofs.Allowed.{reads_allowed_always}
use Rattle.link_account.proofs.HearWays.{by-ways}
use Rattle.turn_bound.proofs.Value.{frame_rnrs, value, lives, IsAck, IsSilent, Linked, Stands, Rates, AreRates, is_waiting, Sends, ends}
use Rattle.turn_bound.proofs.Value.{Breaks, is_breaking, worth, time_left, linked_left, linked_lives, IsOf, Unlinked, Tries}
use Rattle.turn_bound.proofs.Value.{phases_left, arrived_rnrs, tries_fit, left-some, ticks-now}
use Rattle.turn_bound.proofs.Sender.{acked-heard, Heard, HeardWell, heard-well, heard-busy, meant-range, heard-advanced, heard-resumed}
use Rattle.turn_bound.proofs.Sender.{heard-selected}
use Rattle.turn_bound.proofs.Sending.{later-sends, later-breaks, ChangedWell, answered-well, ends-same, or-false}
use Rattle.lapm_frames.specs.declared.arrived.Arrived.TheVariants as arrivals
use Rattle.lapm_frames.specs.declared.seen.Seen.TheVariants.{Odp, Adp}
use Rattle.lapm_sender.specs.Outgoing as outgoing
use Rattle.lapm_receiver.specs.Incoming as incoming
use Rattle.link_account.specs.declared.answer.Answer.TheVariants as answers
use Rattle.link_run.proofs.Keeping.{answer-lengths}

abbrev pub HasWindows : Offer → Type 0
HasWindows o = (1 ≤ o.tx_window) × (1 ≤ o.rx_window)

-- an offer that is read has windows of one segment at least
pub read-windows : (info : List ℕ) (o : Offer) → offer_in info ≡ Some o → HasWindows o
read-windows info o e = let k = reads_allowed_always info o e in (k.tx_window_low, k.rx_window_low)

pub lowered-one : (srej : Bool) (w : ℕ) → 1 ≤ w → 1 ≤ lowered srej w
lowered-one b w h = grind (arith)

pub agreed-windows : (o a : Offer) → HasWindows o → HasWindows a → (1 ≤ (agree o a).window_o) × (1 ≤ (agree o a).window_a)
agreed-windows o a h k = grind (arith, lowered-one)

-- what hearing makes of an end of one role and phase
pub record HeardAs (z : Rates) (total breaks turn more : ℕ) (role : Role) (p : Phase) (a : Account) (q : Phase) (b : Account) : Type 0 where
  pub phase : b.phase ≡ q
  pub stands : Stands z (turn + 1) turn role q b
  pub setup : b.setup ≡ a.setup
  pub pieces : b.outgoing.pieces ≡ a.outgoing.pieces
  pub ended : b.outgoing.ended ≡ a.outgoing.ended
  pub lengths : b.own_breaks.lengths ≡ a.own_breaks.lengths
  pub falls : value z total breaks turn role q b + ends z.room (lives turn role p a)
      (lives turn role q b) ≤ value z total breaks turn role p a + more

pub more-as : (z : Rates) (total breaks turn more : ℕ) (role : Role) (p : Phase) (a : Account) (q : Phase) (b : Account)
    → HeardAs z total breaks turn 0 role p a q b → HeardAs z total breaks turn more role p a q b
more-as z total breaks turn more role p a q b h = grind (arith)

-- the two parts of a Connected end together
pub ends-both : (k : ℕ) (s b s' b' : Bool) → ends k (s || b) (s' || b') ≤ ends k s s' + ends k b b'
ends-both k s b s' b' = grind (arith)

-- A Connected end goes on so: its sender's part and its breaks.
pub connected-well : (z : Rates) (total breaks turn more : ℕ) (role : Role) (a b : Account)
    → HeardWell z total turn a.outgoing a.wait.timer b.outgoing b.wait.timer more → ChangedWell z breaks turn a.own_breaks b.own_breaks
    → IsAck b.their_breaks.ack → IsSilent role b.numbered b.outgoing.high b.wait.timer → b.phase ≡ Connected → b.setup ≡ a.setup
    → b.outgoing.pieces ≡ a.outgoing.pieces → b.outgoing.ended ≡ a.outgoing.ended → b.own_breaks.lengths ≡ a.own_breaks.lengths
    → HeardAs z total breaks turn more role Connected a Connected b
connected-well z total breaks turn more role a b s c ack silent phase setup pieces ended lengths = grind (arith, ends-both)

same-heard : (z : Rates) (total turn : ℕ) (o : Outgoing) (timer : Option ℕ) → Sends z turn turn o timer
    → HeardWell z total turn o timer o timer 0
same-heard z total turn o timer s = record { sends = later-sends z turn o timer s; falls = omega (arith, ends-same z.room (is_waiting o)) }

same-changed : (z : Rates) (breaks turn : ℕ) (b : OwnBreaks) → Breaks z turn turn b → ChangedWell z breaks turn b b
same-changed z breaks turn b s = record { sound = later-breaks z turn b s; falls = omega (arith, ends-same z.room (is_breaking turn b)) }

-- one that heard a number isn't silent any more
spoken-to : (role : Role) (high : ℕ) (timer : Option ℕ) → IsSilent role true high timer
spoken-to role high timer = grind (arith)

-- what leaves the sender's part and the breaks as they are
pub quiet-well : (z : Rates) (total breaks turn : ℕ) (role : Role) (a : Account) → Linked z turn turn role a → a.phase ≡ Connected
    → (o : Owes) (t : TheirBreaks) → IsAck t.ack
    → HeardAs z total breaks turn 0 role Connected a Connected (record a { owes = o; their_breaks = t })
quiet-well z total breaks turn role a h e o t ack = grind (arith, connected-well, same-heard, same-changed)

-- numbers and words, of a Connected end
module _ (z : Rates) (total breaks turn : ℕ) (role : Role) (a : Account) (y : AreRates z) (h : Linked z turn turn role a)
    (e : a.phase ≡ Connected)
    (all : length a.outgoing.pieces ≤ total) where
  number : (new : Outgoing) (incoming : Incoming) (reply urgent : Bool) → Heard a.outgoing new → new.ended ≡ a.outgoing.ended
      → HeardAs z total breaks turn 0 role Connected a Connected
      (numbered_with a new incoming (timer_after turn a.outgoing new a.wait.timer) reply urgent)
  number new incoming reply urgent k ended = connected-well z total breaks turn 0 role a _
      (heard-well z total turn a.outgoing new a.wait.timer y h.sends k all) (same-changed z breaks turn a.own_breaks h.breaks) h.ack
      (spoken-to role _ _) e refl k.pieces ended refl

  busy : (more : ℕ) (new : Outgoing) (reply : Bool) → z.quota ≡ more → Heard a.outgoing new → new.ended ≡ a.outgoing.ended
      → HeardAs z total breaks turn more role Connected a Connected
      (numbered_with a (paused_at new) a.incoming (Some turn) reply a.wait.urgent)
  busy more new reply q k ended = subst (λ x. HeardAs z total breaks turn x role Connected a Connected
      (numbered_with a (paused_at new) a.incoming (Some turn) reply a.wait.urgent)) q
      (connected-well z total breaks turn z.quota role a _ (heard-busy z total turn a.outgoing new a.wait.timer y h.sends k all)
      (same-changed z breaks turn a.own_breaks h.breaks) h.ack (spoken-to role _ _) e refl k.pieces ended refl)

  pub number-well : (P : Arrived → Account → Type 0)
      → ((frame : Frame) (b : Account) → HeardAs z total breaks turn (z.quota * frame_rnrs frame) role Connected a Connected b
      → P (arrivals.Frame frame) b) → Numbers P turn a
  number-well P f = record {
    i = λ ns nr pf info n m. let r = meant-range a.outgoing.front a.outgoing.high nr n m in f (I ns nr pf info) _
        (more-as z total breaks turn _ role _ a _ _
        (number _ _ _ _ (heard-advanced z turn turn a.outgoing a.wait.timer n h.sends r.0 r.1) refl));
    rr = λ command pf nr n final g m. f (Rr command nr pf) _ (more-as z total breaks turn _ role _ a _ _ (number _ _ _ _
        (heard-resumed a.outgoing _ (acked-heard z turn turn a final command pf nr n h.sends g m).0)
        (resumed-keeps a.outgoing _ (acked-keeps final a.outgoing n)).ended));
    rej = λ command pf nr n final g m. f (Rej command nr pf) _ (more-as z total breaks turn _ role _ a _ _ (number _ _ _ _
        (heard-resumed a.outgoing _ (acked-heard z turn turn a final command pf nr n h.sends g m).1)
        (resumed-keeps a.outgoing _ (acked_back-keeps final a.outgoing n)).ended));
    rnr = λ command pf nr n final g m. f (Rnr command nr pf) _ (busy _ _ _ (omega arith)
        (acked-heard z turn turn a final command pf nr n h.sends g m).0 (acked-keeps final a.outgoing n).ended);
    srej = λ command pf nr n g m. let r = meant-range a.outgoing.front (a.outgoing.high - 1) nr n m in
        let some : a.outgoing.front < a.outgoing.high = grind (arith, nat_tests, g) in
        f (Srej command nr pf) _ (more-as z total breaks turn _ role _ a _ _ (number _ _ _ _
        (heard-selected z turn turn a.outgoing a.wait.timer n h.sends r.0 (omega (arith, r.1, some))) refl));
  }

  pub answer-well : (number : ℕ) → HeardAs z total breaks turn 0 role Connected a Connected
      (record a { own_breaks = after_answer turn number a.own_breaks })
  answer-well number = grind (arith, connected-well, same-heard, answered-well, answer-lengths)

-- what lives counts
pub linked-some : (z : Rates) (before turn : ℕ) (role : Role) (a : Account) → AreRates z → Linked z before turn role a
    → linked_lives turn a ≡ true → 1 ≤ linked_left z turn a
linked-some z before turn role a y h e = grind (arith, left-some, tries_fit, or-false)

-- an end becomes Connected
abbrev pub connected_as : Role → ℕ → Account → Account
connected_as role turn a = record a {
  phase = Connected;
  outgoing = outgoing.begun (window_for role a.terms) (size_for role a.terms) a.setup.tries (is_originator role);
  incoming = incoming.begun (window_for (other role) a.terms) a.terms.srej;
  wait = first_wait role turn a.wait;
}

none-broken : (z : Rates) (before turn : ℕ) → Breaks z before turn no_breaks
none-broken z before turn = record { low = omega arith; high = omega arith; due = λ e. e; clock = λ w. cc; rests = omega arith }

begins-o : (z : Rates) (total breaks turn : ℕ) (a : Account) → AreRates z → IsOf z a.setup → Unlinked a
    → HeardAs z total breaks turn 0 Originator Establishing a Connected (connected_as Originator turn a)
begins-o z total breaks turn a y k u = grind (arith, ticks-now, none-broken)

begins-a : (z : Rates) (total breaks turn : ℕ) (p : Phase) (a : Account) → AreRates z → IsOf z a.setup → Unlinked a
    → lives turn Answerer p a ≡ false → time_left z turn Answerer p a ≡ 0
    → HeardAs z total breaks turn 0 Answerer p a Connected (connected_as Answerer turn a)
begins-a z total breaks turn p a y k u dead none = grind (arith)

-- what changes nothing of what counts
pub idle-well : (z : Rates) (total breaks turn : ℕ) (role : Role) (p q : Phase) (a b : Account) → Stands z (turn + 1) turn role q b
    → b.phase ≡ q → b.setup ≡ a.setup → b.outgoing ≡ a.outgoing → b.own_breaks ≡ a.own_breaks
    → lives turn role q b ≡ lives turn role p a → time_left z turn role q b ≡ time_left z turn role p a
    → phases_left role q ≡ phases_left role p → HeardAs z total breaks turn 0 role p a q b
idle-well z total breaks turn role p q a b s phase setup outgoing own live time phases = grind (arith)

-- a try begins
pub tries-now : (z : Rates) (turn : ℕ) (p : Phase) (a : Account) → Tries z (turn + 1) turn (trying p turn a)
tries-now z turn p a = record { tied = omega arith; started = omega arith; within = omega arith; tried = omega arith }

pub later-tries : (z : Rates) (turn : ℕ) (a : Account) → Tries z turn turn a → Tries z (turn + 1) turn a
later-tries z turn a t = record { tied = t.tied; started = omega (arith, t.started); within = t.within; tried = t.tried }

pub same-unlinked : (a b : Account) → Unlinked a → b.outgoing ≡ a.outgoing → b.wait.timer ≡ a.wait.timer → b.own_breaks ≡ a.own_breaks
    → b.their_breaks.ack ≡ a.their_breaks.ack → b.terms ≡ a.terms → Unlinked b
same-unlinked a b u o t w k e = grind (arith)

-- on other terms
on-terms : (a : Account) (terms : Terms) → Unlinked a → (1 ≤ terms.window_o) × (1 ≤ terms.window_a) → Unlinked (record a { terms = terms })
on-terms a terms u windows = grind (arith)

-- hearing before Connected, of an originator
o-detecting : (z : Rates) (total breaks turn : ℕ) (a : Account) → AreRates z → Unlinked a
    → (q : Phase) × HeardAs z total breaks turn 0 Originator Detecting a q (trying Negotiating turn a)
o-detecting z total breaks turn a y u = grind (arith)

o-negotiating : (z : Rates) (total breaks turn : ℕ) (a : Account) (offer : Offer) (info : List ℕ) → AreRates z → IsOf z a.setup
    → Unlinked a → offer_in info ≡ Some offer
    → (q : Phase) × HeardAs z total breaks turn 0 Originator Negotiating a q (on_xid_response (Some offer) turn a)
o-negotiating z total breaks turn a offer info y k u f =
    let windows = agreed-windows a.setup.offer offer (k.tx_window, k.rx_window) (read-windows info offer f) in
    grind (arith, on-terms, tries-now)

-- an answerer before it is Connected
a-xid : (z : Rates) (total breaks turn : ℕ) (p : Phase) (a : Account) (offer : Offer) (info : List ℕ) → lives turn Answerer p a ≡ false
    → time_left z turn Answerer p a ≡ 0 → IsOf z a.setup → Unlinked a → offer_in info ≡ Some offer
    → (q : Phase) × HeardAs z total breaks turn 0 Answerer p a q (on_xid_command (Some offer) a)
a-xid z total breaks turn p a offer info dead none k u f = (
  Negotiating,
  idle-well z total breaks turn Answerer p Negotiating a _ (on-terms a (agree offer a.setup.offer) u
      (agreed-windows offer a.setup.offer (read-windows info offer f) (k.tx_window, k.rx_window))) refl refl refl refl (sym dead)
      (sym none) refl,
)

default-windows : (a : Account) (z : Rates) → IsOf z a.setup
    → (1 ≤ (agree default_offer a.setup.offer).window_o) × (1 ≤ (agree default_offer a.setup.offer).window_a)
default-windows a z k = agreed-windows default_offer a.setup.offer (omega arith, omega arith) (k.tx_window, k.rx_window)

-- SABME: the answerer becomes Connected, on these terms
a-sabme : (z : Rates) (total breaks turn : ℕ) (p : Phase) (a : Account) (pf : Bool) → lives turn Answerer p a ≡ false
    → time_left z turn Answerer p a ≡ 0 → AreRates z → IsOf z a.setup → Unlinked a → a.setup.role ≡ Answerer
    → HeardAs z total breaks turn 0 Answerer p a Connected (owing (answers.Ua pf) (connected turn a))
a-sabme z total breaks turn p a pf dead none y k u er = grind (arith, begins-a)

-- of default terms
a-sabme-default : (z : Rates) (total breaks turn : ℕ) (a : Account) (pf : Bool) → AreRates z → IsOf z a.setup → Unlinked a
    → a.setup.role ≡ Answerer
    → HeardAs z total breaks turn 0 Answerer Detecting a Connected
    (owing (answers.Ua pf) (connected turn (record a { terms = agree default_offer a.setup.offer })))
a-sabme-default z total breaks turn a pf y k u er = grind (arith, a-sabme, on-terms, default-windows)

closes : (z : Rates) (total breaks turn : ℕ) (a b : Account) → AreRates z → Linked z turn turn Answerer a → b.phase ≡ Closed
    → b.setup ≡ a.setup → b.outgoing ≡ a.outgoing → b.own_breaks ≡ a.own_breaks
    → HeardAs z total breaks turn 0 Answerer Connected a Closed b
closes z total breaks turn a b y h phase setup outgoing own = assumption (
  ap (λ o. o.pieces) outgoing,
  ap (λ o. o.ended) outgoing,
  ap (λ o. o.lengths) own,
  go (linked_lives turn a) refl,
)
  where
    go : (l : Bool) → linked_lives turn a ≡ l
        → value z total breaks turn Answerer Closed b + ends z.room
        (linked_lives turn a) false ≤ value z total breaks turn Answerer Connected a + 0
    go true e = omega (
      arith,
      ap (worth z total) outgoing,
      ap (λ o. z.quota * (breaks - length o.lengths)) own,
      linked-some z turn turn Answerer a y h e,
      ap (λ l. ends z.room l false) e,
    )
    go false e = grind (arith)

-- nothing changes but what it owes
still-well : (z : Rates) (total breaks turn : ℕ) (role : Role) (p : Phase) (a : Account) (o : Owes) → Stands z turn turn role p a
    → a.phase ≡ p → HeardAs z total breaks turn 0 role p a p (record a { owes = o })
still-well z total breaks turn role p a o h e = grind (arith, quiet-well, idle-well, later-tries)

-- Hearing: whatever the role, the phase and what arrives.
module _ (z : Rates) (total breaks turn : ℕ) (role : Role) (a : Account) (y : AreRates z) (k : IsOf z a.setup)
    (s : Stands z turn turn role a.phase a)
    (er : a.setup.role ≡ role) (all : length a.outgoing.pieces ≤ total) where
  abbrev P : Arrived → Account → Type 0
  P x b = (q : Phase) × HeardAs z total breaks turn (z.quota * arrived_rnrs x) role a.phase a q b

  -- in this phase
  now : (x : Arrived) (b : Account) (p : Phase) → a.phase ≡ p → (q : Phase) × HeardAs z total breaks turn 0 role p a q b → P x b
  now x b p e w = grind (arith, more-as)

  still : (x : Arrived) (o : Owes) → P x (record a { owes = o })
  still x o = now x (record a { owes = o }) a.phase refl (a.phase, still-well z total breaks turn role a.phase a o s refl)

  same : (x : Arrived) → P x a
  same x = still x a.owes

  stands : (p : Phase) → a.phase ≡ p → Stands z turn turn role p a
  stands p e = subst (λ p. Stands z turn turn role p a) e s

  linked-ways : a.phase ≡ Connected → ConnectedWays P turn a
  linked-ways e = let h = stands Connected e in record {
    pattern = λ seen. same (arrivals.Pattern seen);
    plain = λ frame p. same (arrivals.Frame frame);
    numbers = number-well z total breaks turn role a y h e all P
        (λ frame b w. (Connected, subst (λ p. HeardAs z total breaks turn (z.quota * frame_rnrs frame) role p a Connected b) (sym e) w));
    sabme = λ pf n r. still (arrivals.Frame (Sabme pf)) _;
    disc = λ pf r. now (arrivals.Frame (Disc pf)) _ Connected e (Closed, closed role (sym er ∙ r) h pf);
    brk = λ command pf info number length_octet q.
        now (arrivals.Frame (Ui command pf info)) _ Connected e
        (Connected, quiet-well z total breaks turn role a h e _ _ tt);
    brkack = λ command pf info number length_octet q.
        now (arrivals.Frame (Ui command pf info)) _ Connected e (Connected, answer-well z total breaks turn role a y h e all number);
  }
    where
      closed : (r : Role) → r ≡ Answerer → Linked z turn turn r a → (pf : Bool)
          → HeardAs z total breaks turn 0 r Connected a Closed (owing (answers.Ua pf) (record a { phase = Closed }))
      closed Answerer q h pf = closes z total breaks turn a _ y h refl refl refl refl
      closed Originator q h pf = cc

module _ (z : Rates) (total breaks turn : ℕ) (a : Account) (y : AreRates z) (k : IsOf z a.setup)
    (s : Stands z turn turn Originator a.phase a)
    (er : a.setup.role ≡ Originator) (all : length a.outgoing.pieces ≤ total) where
  o-now : (x : Arrived) (b : Account) (p : Phase) → a.phase ≡ p → (q : Phase) × HeardAs z total breaks turn 0 Originator p a q b
      → P z total breaks turn Originator a y k s er all x b
  o-now = now z total breaks turn Originator a y k s er all

  o-stands : (p : Phase) → a.phase ≡ p → Stands z turn turn Originator p a
  o-stands = stands z total breaks turn Originator a y k s er all

  o-early : EarlyWays (P z total breaks turn Originator a y k s er all) turn a
  o-early = record {
    ignores = λ x f. same z total breaks turn Originator a y k s er all x;
    detects = λ p r. o-now (arrivals.Pattern Adp) _ Detecting p (o-detecting z total breaks turn a y (o-stands Detecting p));
    detected = λ p r. wrong r;
    xid = λ p r pf info offer f. wrong r;
    agrees = λ p r pf info offer f.
        o-now (arrivals.Frame (Xid false pf info)) _ Negotiating p
        (o-negotiating z total breaks turn a offer info y k (o-stands Negotiating p).0 f);
    sabme_first = λ p r pf. wrong r;
    sabme = λ p r pf. wrong r;
    ua = grind (arith, o-now, begins-o, o-stands);
    disc = λ p pf. still z total breaks turn Originator a y k s er all (arrivals.Frame (Disc pf)) _;
    closes = grind (arith, o-stands, o-now, tries_fit);
  }
    where
      wrong : {A : Type 0} → a.setup.role ≡ Answerer → A
      wrong r = let other-role : Originator ≡ Answerer = sym er ∙ r in cc

module _ (z : Rates) (total breaks turn : ℕ) (a : Account) (y : AreRates z) (k : IsOf z a.setup) (s : Stands z turn turn Answerer a.phase a)
    (er : a.setup.role ≡ Answerer) (all : length a.outgoing.pieces ≤ total) where
  a-now : (x : Arrived) (b : Account) (p : Phase) → a.phase ≡ p → (q : Phase) × HeardAs z total breaks turn 0 Answerer p a q b
      → P z total breaks turn Answerer a y k s er all x b
  a-now = now z total breaks turn Answerer a y k s er all

  a-stands : (p : Phase) → a.phase ≡ p → Stands z turn turn Answerer p a
  a-stands = stands z total breaks turn Answerer a y k s er all

  a-early : EarlyWays (P z total breaks turn Answerer a y k s er all) turn a
  a-early = record {
    ignores = λ x f. same z total breaks turn Answerer a y k s er all x;
    detects = λ p r. wrong r;
    detected = λ p r. still z total breaks turn Answerer a y k s er all (arrivals.Pattern Odp) _;
    xid = λ p r pf info offer f. elim p [
      | inl q ↦ a-now (arrivals.Frame (Xid true pf info)) _ Detecting q
          (a-xid z total breaks turn Detecting a offer info refl refl k (a-stands Detecting q) f)
      | inr q ↦ a-now (arrivals.Frame (Xid true pf info)) _ Negotiating q
          (a-xid z total breaks turn Negotiating a offer info refl refl k (a-stands Negotiating q) f)
    ];
    agrees = λ p r pf info offer f. wrong r;
    sabme_first = grind (arith, a-now, a-sabme-default, a-stands);
    sabme = grind (arith, a-now, a-sabme, a-stands);
    ua = λ p. absurd (a-stands Establishing p);
    disc = λ p pf. still z total breaks turn Answerer a y k s er all (arrivals.Frame (Disc pf)) _;
    closes = λ p frame f. absurd (a-stands Releasing p);
  }
    where
      wrong : {A : Type 0} → a.setup.role ≡ Originator → A
      wrong r = let other-role : Answerer ≡ Originator = sym er ∙ r in cc

pub hears-well : (z : Rates) (total breaks turn : ℕ) (role : Role) (arrived : Arrived) (a mid : Account) → AreRates z → IsOf z a.setup
    → Stands z turn turn role a.phase a → a.setup.role ≡ role → length a.outgoing.pieces ≤ total → hear turn arrived a ≡ Ok mid
    → (q : Phase) × HeardAs z total breaks turn (z.quota * arrived_rnrs arrived) role a.phase a q mid
hears-well z total breaks turn role arrived a mid y k s er all = by-ways (P z total breaks turn role a y k s er all) turn a (record {
  nothing = still z total breaks turn role a y k s er all arrivals.Nothing (on_nothing a).owes;
  linked = linked-ways z total breaks turn role a y k s er all;
  early = λ c. early role s er;
}) arrived mid
  where
    early : (r : Role) (t : Stands z turn turn r a.phase a) (f : a.setup.role ≡ r)
        → EarlyWays (P z total breaks turn r a y k t f all) turn a
    early Originator t f = o-early z total breaks turn a y k t f all
    early Answerer t f = a-early z total breaks turn a y k t f all
