-- An end that is whole stays so, and the link is released once both ends are.
use Rattle.turn_bound.proofs.Names.{◌≡◌, ℕ, ◌+◌, ◌≤◌, ◌&&◌, ◌⊎◌, nat_eq, Bool, true, false, cond, List, [], ◌∷◌, map, length, inl, inr}
use Rattle.turn_bound.proofs.Names.{arith, refl, sym, ◌∙◌, ap, subst, Ok, is_whole, nat_tests, Role, Originator, Answerer, is_originator}
use Rattle.turn_bound.proofs.Names.{of, Outgoing, Arrived, is_connected, trying, Said, speak, speak_in, speak_linked, speak_releasing}
use Rattle.turn_bound.proofs.Names.{is-linked, Phase, Detecting, Negotiating, Establishing, Connected, Releasing, Closed, User, is_busy}
use Rattle.turn_bound.proofs.Names.{is_released, has_finished, Link, Accounts, Turn, RunOf, arrival, releases, IsCarried, finished_at}
use Rattle.turn_bound.proofs.Names.{served_ends, NeverBusy, KeepsTime}
use Rattle.turn_bound.proofs.Truths.{and-two}
use Rattle.link_account.proofs.Names.{Account}
use Rattle.turn_bound.proofs.Value.{Rates, rates, AreRates, IsOf, Linked, Stands, arrived_weight, arrived_rnrs, unlinked-of}
use Rattle.turn_bound.proofs.Run.{served_account}
use Rattle.turn_bound.proofs.Speaking.{spoke}
use Rattle.turn_bound.proofs.MeetHear.{is_begun, of_arrived}
use Rattle.turn_bound.proofs.Taking.{frame_poll, Takes, Closes, takes}
use Rattle.turn_bound.proofs.Pausing.{goes-on, says-calm}
use Rattle.turn_bound.proofs.Ending.{fits}
use Rattle.turn_bound.proofs.Tied.{keeps, Tied, tied, link_of, turn_of, state_of}
use Rattle.turn_bound.proofs.Meeting.{meets-run, released-closed}
use Rattle.turn_bound.proofs.CalmRuns.{said-speaks, end-at, never-at, light-arrival, hears-in}
use Rattle.turn_bound.proofs.OneTurn.{Hearing, spoken-as}
use Rattle.turn_bound.proofs.Falls.{Fits}

abbrev pub IsWhole : Outgoing → Type 0
IsWhole o = (o.ended ≡ true) × (o.front ≡ length o.pieces)

pub whole-is : (o : Outgoing) → is_whole o ≡ true → IsWhole o
whole-is o e = grind (arith)

pub is-whole : (o : Outgoing) → IsWhole o → is_whole o ≡ true
is-whole o (e, f) = let same : nat_eq o.front (length o.pieces) ≡ true = grind (arith, nat_tests, f) in rw (e, same) refl

-- what is served and what is said of it
pub record Spoken (z : Rates) (turn : ℕ) (role : Role) (b : Account) (said : Said) : Type 0 where
  pub stands : Stands z (turn + 1) turn role b.phase b
  pub is_of : IsOf z b.setup
  pub role_is : b.setup.role ≡ role
  pub keeps : is_connected b.phase ≡ false → said.account.phase ≡ b.phase
  pub pieces : said.account.outgoing.pieces ≡ b.outgoing.pieces
  pub ended : said.account.outgoing.ended ≡ b.outgoing.ended
  pub front : said.account.outgoing.front ≡ b.outgoing.front

-- where its user isn't busy
module _ {z : Rates} {user : User} {turn : ℕ} {role : Role} {a : Account} {arrived : Arrived} {mid b : Account}
    (i : Hearing z user turn role a arrived mid b) (calm : is_busy turn user.busy ≡ false) (release : Bool) {said : Said}
    (speaks : speak turn release b ≡ Ok said) where
  spoken-of : Spoken z turn role b said
  spoken-of =
      let spoke = spoken-as i (length b.outgoing.pieces) release speaks (omega arith) in
      let c = says-calm turn release b said (λ x. i.serves.busy_now (ap is_connected (sym i.serves.phase) ∙ x) ∙ calm) speaks in
      record {
        stands = subst (λ q. Stands z (turn + 1) turn role q b) (sym i.b_phase) i.b_stands;
        is_of = i.b_is_of;
        role_is = i.b_role;
        keeps = λ x. spoke.1.phase ∙ (spoke.1.keeps (ap is_connected (sym i.b_phase) ∙ x) ∙ sym i.b_phase);
        pieces = spoke.1.pieces;
        ended = spoke.1.ended;
        front = ap (λ m. m.1) c.0;
      }

  pub said-whole : IsWhole b.outgoing → IsWhole said.account.outgoing
  said-whole v = (spoken-of.ended ∙ v.0, spoken-of.front ∙ (v.1 ∙ ap (λ x. length x) (sym spoken-of.pieces)))

  -- An end that is whole stays so.
  pub whole-stays : arrived_weight arrived ≤ 2 → arrived_rnrs arrived ≡ 0 → IsWhole a.outgoing → IsWhole said.account.outgoing
  whole-stays light quiet w = said-whole (served (hearing-so a.phase refl))
    where
      served : IsWhole mid.outgoing → IsWhole b.outgoing
      served v = grind (arith)

      same : mid.outgoing ≡ a.outgoing → IsWhole mid.outgoing
      same e = subst IsWhole (sym e) w

      early : is_begun a.phase ≡ false → IsWhole mid.outgoing
      early e = grind (arith, unlinked-of)

      late : is_released a.phase ≡ true → IsWhole mid.outgoing
      late e = same ((goes-on turn arrived a mid quiet i.hears).late e)

      hearing-so : (p : Phase) → a.phase ≡ p → IsWhole mid.outgoing
      hearing-so Detecting e = early (ap is_begun e)
      hearing-so Negotiating e = early (ap is_begun e)
      hearing-so Establishing e = early (ap is_begun e)
      hearing-so Releasing e = late (ap is_released e)
      hearing-so Closed e = late (ap is_released e)
      hearing-so Connected e = by (takes z turn role a linked e arrived mid light quiet i.hears)
        where
          linked : Linked z turn turn role a
          linked = subst (λ q. Stands z turn turn role q a) e i.stands

          by : Closes a mid ⊎ ((mid.phase ≡ Connected) × Takes turn (of_arrived frame_poll arrived) a mid) → IsWhole mid.outgoing
          by x = grind (arith)

-- An end that is told to release, of one that isn't: it was Connected, and told now.
pub told-now : (z : Rates) (turn : ℕ) (role : Role) (release : Bool) (b : Account) (said : Said) → AreRates z → Spoken z turn role b said
    → speak turn release b ≡ Ok said → is_released b.phase ≡ false → is_released said.account.phase ≡ true → release ≡ true
told-now z turn role release b said y s e open_ told = go (is_connected b.phase) refl
  where
    go : (c : Bool) → is_connected b.phase ≡ c → release ≡ true
    go false h = let wrong : true ≡ false = sym told ∙ (ap is_released (s.keeps h) ∙ open_) in cc
    go true h = by (release && is_originator b.setup.role) refl (subst (λ q. speak_in q turn release b ≡ Ok said) linked e)
      where
        linked : b.phase ≡ Connected
        linked = is-linked b.phase h

        by : (x : Bool) → release && is_originator b.setup.role ≡ x
            → cond x (speak_releasing turn (trying Releasing turn b)) (speak_linked turn b) ≡ Ok said → release ≡ true
        by true f g = (and-two release (is_originator b.setup.role) f).0
        by false f g =
            let p = spoke z (length b.outgoing.pieces) 0 turn role b y s.is_of
            (subst (λ q. Stands z (turn + 1) turn role q b) linked s.stands) s.role_is (omega arith) said g in
            let wrong : true ≡ false = sym told ∙ ap is_released (p.stepped.phase ∙ (p.is_timed.phase ∙ linked)) in cc

finished-whole : (user : User) (turn : ℕ) (a : Account) → has_finished user turn a ≡ true → IsWhole a.outgoing
finished-whole user turn a e = grind (arith, whole-is, and-two)

-- Once the originator is told to release both ends are whole.
pub released-whole : (tries period : ℕ) (delay : Role → ℕ) (link : Link) (ts : List Turn) (ends : Accounts)
    → KeepsTime tries period delay link
    → NeverBusy link → RunOf link ts ends → IsCarried delay ts
    → is_released ends.orig.phase ≡ true → (role : Role) → IsWhole (of role ends).outgoing
released-whole tries period delay link [] ends k n run c e role = grind (arith)
released-whole tries period delay link (t ∷ ts) ends k n (before, run, g) c e role =
    go (λ f. released-whole tries period delay link ts before k n run c.1 f) (is_released before.orig.phase) refl
  where
    turn : ℕ
    turn = length ts

    i : (r : Role) → Hearing (rates tries period) (of r link).user turn r (of r before) (arrival (of r t).heard) (of r g.mid)
        (served_account (of r link).user turn (is_released g.mid.orig.phase) (of r g.mid))
    i r = hears-in tries period delay link ts before r k run c.1 t g.mid g.hearing

    after : (r : Role) → IsWhole (g.speaking r).said.account.outgoing → IsWhole (of r ends).outgoing
    after r w = subst (λ (a : Account). IsWhole a.outgoing) (sym (g.speaking r).after_is) w

    stayed : ((r : Role) → IsWhole (of r before).outgoing) → (r : Role) → IsWhole (of r ends).outgoing
    stayed w r =
        let sp = said-speaks link turn g.mid r (g.speaking r).said (g.speaking r).says in
        let light = light-arrival delay link ts before t r n run c.0 in
        after r (whole-stays (i r) (never-at link turn r n) sp.0 sp.1 light.0 light.1 (w r))

    -- the originator is told in this turn: both have finished
    finished : releases link turn g.mid ≡ true → (r : Role) → IsWhole (of r ends).outgoing
    finished told r =
        let sp = said-speaks link turn g.mid r (g.speaking r).said (g.speaking r).says in
        after r (said-whole (i r) (never-at link turn r n) sp.0 sp.1
        (finished-whole (of r link).user turn (served_account (of r link).user turn (is_released g.mid.orig.phase) (of r g.mid))
        (of-both r)))
      where
        b : (finished_at link turn (served_ends link turn g.mid) Originator ≡ true) ×
            (finished_at link turn (served_ends link turn g.mid) Answerer ≡ true)
        b = grind (arith, and-two)

        of-both : (q : Role) → has_finished (of q link).user turn
            (served_account (of q link).user turn (is_released g.mid.orig.phase) (of q g.mid)) ≡ true
        of-both Originator = b.0
        of-both Answerer = b.1

    told : is_released before.orig.phase ≡ false → releases link turn g.mid ≡ true
    told open_ =
        let o = g.speaking Originator in
        told-now (rates tries period) turn Originator (releases link turn g.mid)
        (served_account link.orig.user turn (is_released g.mid.orig.phase) g.mid.orig) o.said x.rates
        (spoken-of x (never-at link turn Originator n) (releases link turn g.mid) o.says) o.says
        (ap is_released x.serves.phase ∙ heard-open before.orig.phase refl) (ap (λ (a : Account). is_released a.phase) (sym o.after_is) ∙ e)
      where
        x : Hearing (rates tries period) link.orig.user turn Originator before.orig (arrival t.orig.heard) g.mid.orig
            (served_account link.orig.user turn (is_released g.mid.orig.phase) g.mid.orig)
        x = i Originator

        light : (arrived_weight (arrival t.orig.heard) ≤ 2) × (arrived_rnrs (arrival t.orig.heard) ≡ 0)
        light = light-arrival delay link ts before t Originator n run c.0

        early : is_begun before.orig.phase ≡ false → is_released g.mid.orig.phase ≡ false
        early h = (goes-on turn (arrival t.orig.heard) before.orig g.mid.orig light.1 x.hears).early h

        heard-open : (p : Phase) → before.orig.phase ≡ p → is_released g.mid.orig.phase ≡ false
        heard-open Detecting h = early (ap is_begun h)
        heard-open Negotiating h = early (ap is_begun h)
        heard-open Establishing h = early (ap is_begun h)
        heard-open Releasing h = let wrong : true ≡ false = sym (ap is_released h) ∙ open_ in cc
        heard-open Closed h = let wrong : true ≡ false = sym (ap is_released h) ∙ open_ in cc
        heard-open Connected h = elim
            (takes (rates tries period) turn Originator before.orig
            (subst (λ q. Stands (rates tries period) turn turn Originator q before.orig) h x.stands) h
            (arrival t.orig.heard) g.mid.orig light.0 light.1 x.hears) [
              | inl q ↦ (let wrong : Originator ≡ Answerer = sym x.role_is ∙ q.answers in cc)
              | inr q ↦ ap is_released q.0
            ]

    go : (is_released before.orig.phase ≡ true → (r : Role) → IsWhole (of r before).outgoing) → (b : Bool)
        → is_released before.orig.phase ≡ b → IsWhole (of role ends).outgoing
    go whole true f = stayed (whole f) role
    go whole false f = finished (told f) role

-- An end that is told to release, or closed, is whole.
pub late-whole : (tries period : ℕ) (delay : Role → ℕ) (link : Link) (ts : List Turn) (ends : Accounts) (role : Role)
    → KeepsTime tries period delay link → NeverBusy link → RunOf link ts ends → IsCarried delay ts
    → is_released (of role ends).phase ≡ true → is_whole (of role ends).outgoing ≡ true
late-whole tries period delay link ts ends role k n run c e =
    is-whole (of role ends).outgoing (released-whole tries period delay link ts ends k n run c (by role e) role)
  where
    i : Tied delay link ts ends
    i = tied delay link ts ends k.delays run c

    f : Fits (rates tries period) (link_of delay link)
    f = fits tries period (link_of delay link) (keeps tries period delay link k)

    by : (r : Role) → is_released (of r ends).phase ≡ true → is_released ends.orig.phase ≡ true
    by Originator h = h
    by Answerer h = (meets-run (rates tries period) (link_of delay link) (map turn_of ts) (state_of ends i.forward i.back) f i.run).closed
        (released-closed (rates tries period) (length ts) (length ts) ends.answ.phase ends.answ
        (end-at tries period delay link ts ends Answerer k run c).stands h)
