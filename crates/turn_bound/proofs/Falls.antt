use Rattle.turn_bound.proofs.Names.{◌≡◌, ℕ, ◌+◌, ◌*◌, ◌<◌, ◌≤◌, ◌&&◌, ◌||◌, Bool, true, false, cond, [], length, length-append, arith, refl}
use Rattle.turn_bound.proofs.Names.{sym, ◌∙◌, ap, subst, None, Result, Ok, List, ◌++◌, ◌∷◌, Role, Originator, Answerer, Outgoing, wanted}
use Rattle.turn_bound.proofs.Names.{Arrived, LinkFault, is_connected, is_originator, Said, speak, Slot, Phase, Connected, User, is_busy}
use Rattle.turn_bound.proofs.Names.{is_closed, is_released, has_finished, busy_left}
use Rattle.turn_bound.proofs.Truths.{neither-first, neither-second}
use Rattle.link_account.proofs.Names.{Account}
use Rattle.turn_bound.proofs.Value.{Rates, is_free, lasts, one_if, AreRates, value, linked_lives, lives, IsOf, Linked, Stands, dues}
use Rattle.turn_bound.proofs.Value.{arrived_rnrs, kept}
use Rattle.turn_bound.proofs.Run.{served_account, Link, State, Turn, GoingTurn, arrival, left_on, slot_of, weights, rnrs_on, Totals}
use Rattle.turn_bound.proofs.Run.{is_alive, stall, potential, AreTogether}
use Rattle.turn_bound.proofs.Lines.{AllLight, arrived-well, weights-snoc, rnrs-snoc, light-snoc, weights-most, dues-most, busy-falls}
use Rattle.turn_bound.proofs.Serving.{serves-all}
use Rattle.turn_bound.proofs.OneTurn.{TurnsAs, one-turn, Hearing, hearing}
use Rattle.turn_bound.proofs.Light.{Light, LightSaid, speaks-light}
use Rattle.turn_bound.proofs.StillTurn.{Stays, stays, Stilled, stilled, finished}

-- what an end was offered, of all that it is offered
pub record Offered (total : ℕ) (a : Account) : Type 0 where
  pub fits : length a.outgoing.pieces ≤ total
  pub whole : a.outgoing.ended ≡ true → length a.outgoing.pieces ≡ total

-- a turn of one end, by what it was offered after it
pub record EndTurn (z : Rates) (total : ℕ) (user : User) (turn : ℕ) (role : Role) (arrived : Arrived) (a b : Account)
    (said : Said) : Type 0 where
  pub turns : TurnsAs z total (length user.breaks) turn (z.quota * arrived_rnrs arrived) role a.phase a b said.account.phase said.account
  pub all : length b.outgoing.pieces ≤ total
  pub before : Offered total a
  pub light : Light (is_busy turn user.busy) said
  pub more : is_connected b.phase ≡ true → 1 ≤ b.outgoing.window → b.outgoing.front < total → b.outgoing.front < length b.outgoing.pieces

light-ok : (busy : Bool) (said : Said) (r : Result Said LinkFault) → r ≡ Ok said → LightSaid busy r → Light busy said
light-ok busy said b e h = grind (arith)

-- where none is wanted the file has ended, or the window is full
pub full-or-ended : (total : ℕ) (o : Outgoing) → wanted o ≡ None → 1 ≤ o.window → (o.ended ≡ true → length o.pieces ≡ total)
    → o.front < total → o.front < length o.pieces
full-or-ended total o none window whole less = grind (arith)

module _ {z : Rates} {user : User} {turn : ℕ} {role : Role} {a : Account} {arrived : Arrived} {mid b : Account}
    (i : Hearing z user turn role a arrived mid b) where
  pub end-turn : (total : ℕ) (release : Bool) {said : Said} → speak turn release b ≡ Ok said → Offered total said.account
      → EndTurn z total user turn role arrived a b said
  end-turn total release {said} speaks offered =
      let first = one-turn i (length b.outgoing.pieces) release speaks (omega arith) in
      let same : length said.account.outgoing.pieces ≡ length b.outgoing.pieces = ap (λ l. length l) first.1.pieces in
      let all : length b.outgoing.pieces ≤ total = omega (arith, same, offered.fits) in
      let t = one-turn i total release speaks all in
      let s = i.serves in
      record {
        turns = subst (λ q. TurnsAs z total (length user.breaks) turn (z.quota * arrived_rnrs arrived) role a.phase a b q said.account)
            (sym t.1.phase) t.1;
        all = all;
        before = record {
          fits = omega (arith, t.1.longer, offered.fits);
          whole = λ w. let x = t.1.whole w in ap (λ l. length l) (sym x.0) ∙ offered.whole x.1;
        };
        light = light-ok (is_busy turn user.busy) said (speak turn release b) speaks
            (speaks-light (is_busy turn user.busy) turn release b (λ c. s.busy_now (ap is_connected (sym s.phase) ∙ c)));
        more = λ c w less. full-or-ended total b.outgoing (ap (λ x. cond x (wanted b.outgoing) None) (sym c) ∙ s.wants_none) w
            (λ e. sym same ∙ offered.whole (t.1.ended ∙ e)) less;
      }

-- what holds of both ends and both lines between turns
pub record Sound (z : Rates) (link : Link) (turn : ℕ) (s : State) : Type 0 where
  pub orig : Stands z turn turn Originator s.orig.phase s.orig
  pub answ : Stands z turn turn Answerer s.answ.phase s.answ
  pub orig_setup : s.orig.setup ≡ link.orig.setup
  pub answ_setup : s.answ.setup ≡ link.answ.setup
  pub going : is_closed s.orig.phase ≡ false
  pub forward_fits : length s.forward ≤ link.orig.delay
  pub back_fits : length s.back ≤ link.answ.delay
  pub forward_light : AllLight s.forward
  pub back_light : AllLight s.back

-- the numbers of a turn
falls-busy : (q k v v' w w' st st' x x' ao aa bo ba l m : ℕ) → v' + l ≤ v + q * ao → w' + m ≤ w + q * aa → x' + ao + aa + (bo + ba) ≤ x
    → 1 ≤ bo + ba → st' ≤ k → k + 1 ≤ q
    → v' + w' + st' + q * x' + 1 ≤ v + w + st + q * x
falls-busy q k v v' w w' st st' x x' ao aa bo ba l m h1 h2 h3 h4 h5 h6 =
    let part : q * (x' + ao + aa + 1) ≤ q * x = kept q (x' + ao + aa + 1) x (omega (arith, h3, h4)) in grind (arith)

falls-calm : (q v v' w w' st st' x x' ao aa b l m : ℕ) → v' + l ≤ v + q * ao → w' + m ≤ w + q * aa → x' + ao + aa + b ≤ x
    → st' + 1 ≤ st + l + m
    → v' + w' + st' + q * x' + 1 ≤ v + w + st + q * x
falls-calm q v v' w w' st st' x x' ao aa b l m h1 h2 h3 h4 =
    let part : q * (x' + ao + aa) ≤ q * x = kept q (x' + ao + aa) x (omega (arith, h3)) in grind (arith)

-- the potential, with the phases apart
abbrev pub stall_of : Rates → Totals → ℕ → Bool → State → ℕ
stall_of z totals turn alive s = cond alive z.room (weights s.forward + weights s.back + dues totals.orig s.orig + dues totals.answ s.answ)

pub stall-small : (z : Rates) (link : Link) (totals : Totals) (turn : ℕ) (alive : Bool) (s : State) → Sound z link turn s
    → 2 * (link.orig.delay + link.answ.delay) + 30 ≤ z.room → stall_of z totals turn alive s ≤ z.room
stall-small z link totals turn alive s h big = grind (arith, weights-most, dues-most)

-- an originator that isn't closed, and that doesn't live, is Connected
dead-connected : (turn : ℕ) (p : Phase) (a : Account) → is_closed p ≡ false → lives turn Originator p a ≡ false → p ≡ Connected
dead-connected turn p a c d = grind (arith)

finished-at : {z : Rates} {total more : ℕ} {user : User} {turn : ℕ} {role : Role} {a mid : Account} (released : Bool) {release : Bool}
    {said : Said} → released ≡ false → Stays z turn user role a mid (served_account user turn released mid) release said
    → Stilled z total turn a mid (served_account user turn released mid) said more → Linked z turn turn role a
    → length (served_account user turn released mid).outgoing.pieces ≤ total → linked_lives turn a ≡ false
    → is_free total a.outgoing ≡ false → has_finished user turn (served_account user turn released mid) ≡ true
finished-at true r s t h all dead none = cc
finished-at false r s t h all dead none = finished s t h.breaks all dead none

lives-linked : (turn : ℕ) (role : Role) (a : Account) → a.phase ≡ Connected → lives turn role a.phase a ≡ false
    → linked_lives turn a ≡ false
lives-linked turn role a e f = subst (λ p. lives turn role p a ≡ false) e f

released-not : (p : Phase) → p ≡ Connected → is_released p ≡ false
released-not p e = ap is_released e

-- the state after a turn
abbrev pub state_after : (link : Link) (turn : ℕ) (s : State) (orig_mid answ_mid : Account) (orig_said answ_said : Said) → State
state_after link turn s orig_mid answ_mid orig_said answ_said = record {
  orig = orig_said.account;
  answ = answ_said.account;
  forward = left_on link.orig.delay s.forward
      ++ slot_of orig_said (served_account link.orig.user turn (is_released orig_mid.phase) orig_mid) ∷ [];
  back = left_on link.answ.delay s.back
      ++ slot_of answ_said (served_account link.answ.user turn (is_released orig_mid.phase) answ_mid) ∷ [];
}

abbrev pub state_of : Account → Account → List Slot → List Slot → State
state_of orig answ forward back = record { orig = orig; answ = answ; forward = forward; back = back }

pub after-is : (link : Link) (turn : ℕ) (s : State) (t : Turn) (u : State) (g : GoingTurn link turn s t u)
    → u ≡ state_after link turn s g.orig_mid g.answ_mid g.orig_said g.answ_said
after-is link turn s t u g = grind (arith)

-- the rates are those of both ends
pub record Fits (z : Rates) (link : Link) : Type 0 where
  pub rates : AreRates z
  pub originates : link.orig.setup.role ≡ Originator
  pub answers : link.answ.setup.role ≡ Answerer
  pub orig : IsOf z link.orig.setup
  pub answ : IsOf z link.answ.setup
  pub orig_delay : 1 ≤ link.orig.delay
  pub answ_delay : 1 ≤ link.answ.delay
  pub room : 2 * (link.orig.delay + link.answ.delay) + 30 ≤ z.room

-- what a turn makes of both ends
pub record Both (z : Rates) (link : Link) (totals : Totals) (turn : ℕ) (s : State) (t : Turn) (g : State) (orig_mid answ_mid : Account)
    (orig_said answ_said : Said) : Type 0 where
  pub orig : EndTurn z totals.orig link.orig.user turn Originator (arrival link.answ.delay t.orig_loses s.back) s.orig
      (served_account link.orig.user turn (is_released orig_mid.phase) orig_mid) orig_said
  pub answ : EndTurn z totals.answ link.answ.user turn Answerer (arrival link.orig.delay t.answ_loses s.forward) s.answ
      (served_account link.answ.user turn (is_released orig_mid.phase) answ_mid) answ_said

-- an end hears in a turn
pub hears-o : {z : Rates} {link : Link} {turn : ℕ} {s : State} {t : Turn} {u : State} → Fits z link → Sound z link turn s
    → (g : GoingTurn link turn s t u)
    → Hearing z link.orig.user turn Originator s.orig (arrival link.answ.delay t.orig_loses s.back) g.orig_mid
    (served_account link.orig.user turn (is_released g.orig_mid.phase) g.orig_mid)
hears-o {z} {link} f h g = hearing link.orig.user (is_released g.orig_mid.phase) f.rates (subst (IsOf z) (sym h.orig_setup) f.orig) h.orig
    (ap (λ x. x.role) h.orig_setup ∙ f.originates) g.orig_hears

pub hears-a : {z : Rates} {link : Link} {turn : ℕ} {s : State} {t : Turn} {u : State} → Fits z link → Sound z link turn s
    → (g : GoingTurn link turn s t u)
    → Hearing z link.answ.user turn Answerer s.answ (arrival link.orig.delay t.answ_loses s.forward) g.answ_mid
    (served_account link.answ.user turn (is_released g.orig_mid.phase) g.answ_mid)
hears-a {z} {link} f h g = hearing link.answ.user (is_released g.orig_mid.phase) f.rates (subst (IsOf z) (sym h.answ_setup) f.answ) h.answ
    (ap (λ x. x.role) h.answ_setup ∙ f.answers) g.answ_hears

pub both-turn : (z : Rates) (link : Link) (totals : Totals) (turn : ℕ) (s : State) (t : Turn) (u : State) → Fits z link
    → Sound z link turn s → (g : GoingTurn link turn s t u) → Offered totals.orig g.orig_said.account
    → Offered totals.answ g.answ_said.account
    → Both z link totals turn s t u g.orig_mid g.answ_mid g.orig_said g.answ_said
both-turn z link totals turn s t u f h g oo oa = record {
  orig = end-turn (hears-o f h g) totals.orig _ g.orig_says oo;
  answ = end-turn (hears-a f h g) totals.answ false g.answ_says oa;
}

pub sound-after : (z : Rates) (link : Link) (totals : Totals) (turn : ℕ) (s : State) (t : Turn) (u : State) → Fits z link
    → Sound z link turn s → (g : GoingTurn link turn s t u) → Offered totals.orig g.orig_said.account
    → Offered totals.answ g.answ_said.account
    → Sound z link (turn + 1) (state_after link turn s g.orig_mid g.answ_mid g.orig_said g.answ_said)
sound-after z link totals turn s t u f h g oo oa =
    let b = both-turn z link totals turn s t u f h g oo oa in
    let af = arrived-well link.orig.delay t.answ_loses s.forward in
    let ab = arrived-well link.answ.delay t.orig_loses s.back in
    let so = slot_of g.orig_said (served_account link.orig.user turn (is_released g.orig_mid.phase) g.orig_mid) in
    let sa = slot_of g.answ_said (served_account link.answ.user turn (is_released g.orig_mid.phase) g.answ_mid) in
    let mid = serves-all link.orig.user turn (is_released g.orig_mid.phase) g.orig_mid in
    record {
      orig = b.orig.turns.stands;
      answ = b.answ.turns.stands;
      orig_setup = b.orig.turns.setup ∙ h.orig_setup;
      answ_setup = b.answ.turns.setup ∙ h.answ_setup;
      going = b.orig.turns.opens (ap is_closed mid.phase ∙ g.going);
      forward_fits = omega (arith, af.fits h.forward_fits f.orig_delay, length-append {A = Slot});
      back_fits = omega (arith, ab.fits h.back_fits f.answ_delay, length-append {A = Slot});
      forward_light = light-snoc (left_on link.orig.delay s.forward) so (af.light h.forward_light) b.orig.light.0;
      back_light = light-snoc (left_on link.answ.delay s.back) sa (ab.light h.back_light) b.answ.light.0;
    }

pub calm-free : (fo fa : Bool) → (fo ≡ false → fa ≡ false → ⊥) → 1 ≤ one_if fo + one_if fa
calm-free b fa f = grind (arith)

-- Where nothing lives before and after a turn, and no user is busy in it, the standstill gets shorter.
standstill : (z : Rates) (link : Link) (totals : Totals) (turn : ℕ) (s : State) (t : Turn) (u : State) → Fits z link → Sound z link turn s
    → (g : GoingTurn link turn s t u) → Offered totals.orig g.orig_said.account → Offered totals.answ g.answ_said.account
    → AreTogether s → AreTogether (state_after link turn s g.orig_mid g.answ_mid g.orig_said g.answ_said)
    → is_alive turn s ≡ false → is_alive (turn + 1) (state_after link turn s g.orig_mid g.answ_mid g.orig_said g.answ_said) ≡ false
    → is_busy turn link.orig.user.busy ≡ false → is_busy turn link.answ.user.busy ≡ false
    → stall_of z totals (turn + 1) false
    (state_after link turn s g.orig_mid g.answ_mid g.orig_said g.answ_said) + 1 ≤ stall_of z totals turn false s
standstill z link totals turn s t u f h g oo oa before after dead dead' calm_o calm_a =
    let b = both-turn z link totals turn s t u f h g oo oa in
    let af = arrived-well link.orig.delay t.answ_loses s.forward in
    let ab = arrived-well link.answ.delay t.orig_loses s.back in
    let so = slot_of g.orig_said (served_account link.orig.user turn (is_released g.orig_mid.phase) g.orig_mid) in
    let sa = slot_of g.answ_said (served_account link.answ.user turn (is_released g.orig_mid.phase) g.answ_mid) in
    let s' = state_after link turn s g.orig_mid g.answ_mid g.orig_said g.answ_said in
    let sound' = sound-after z link totals turn s t u f h g oo oa in
    let dead_o = neither-first (lives turn Originator s.orig.phase s.orig) (lives turn Answerer s.answ.phase s.answ) dead in
    let dead_a = neither-second (lives turn Originator s.orig.phase s.orig) (lives turn Answerer s.answ.phase s.answ) dead in
    let dead_o' = neither-first (lives (turn + 1) Originator s'.orig.phase s'.orig) (lives
    (turn + 1) Answerer s'.answ.phase s'.answ) dead' in
    let dead_a' = neither-second (lives (turn + 1) Originator s'.orig.phase s'.orig)
    (lives (turn + 1) Answerer s'.answ.phase s'.answ) dead' in
    let po : s.orig.phase ≡ Connected = dead-connected turn s.orig.phase s.orig h.going dead_o in
    let po' : g.orig_said.account.phase ≡ Connected = dead-connected (turn + 1) s'.orig.phase s'.orig sound'.going dead_o' in
    let pa : s.answ.phase ≡ Connected = before.answ po in
    let pa' : g.answ_said.account.phase ≡ Connected = after.answ po' in
    let lo : Linked z turn turn Originator s.orig = subst (λ p. Stands z turn turn Originator p s.orig) po h.orig in
    let la : Linked z turn turn Answerer s.answ = subst (λ p. Stands z turn turn Answerer p s.answ) pa h.answ in
    let quiet_o = lives-linked turn Originator s.orig po dead_o in
    let quiet_a = lives-linked turn Answerer s.answ pa dead_a in
    let quiet_o' = lives-linked (turn + 1) Originator g.orig_said.account po' dead_o' in
    let quiet_a' = lives-linked (turn + 1) Answerer g.answ_said.account pa' dead_a' in
    let io = hears-o f h g in
    let ia = hears-a f h g in
    let to = stays io po _ g.orig_says po' in
    let ta = stays ia pa false g.answ_says pa' in
    let wo = to.linked.sends.window in
    let wa = ta.linked.sends.window in
    let mo : is_originator s.orig.setup.role || s.orig.numbered ≡ true = ap (λ r. is_originator r || s.orig.numbered) io.role_is in
    let ma : is_originator s.answ.setup.role || s.answ.numbered ≡ true = grind (arith, spoken-to-a, polled-not) in
    let xo = stilled io totals.orig lo po to b.orig.all quiet_o quiet_o' calm_o mo (b.orig.more (ap is_connected to.phase) wo) in
    let xa = stilled ia totals.answ la pa ta b.answ.all quiet_a quiet_a' calm_a ma (b.answ.more (ap is_connected ta.phase) wa) in
    let free = calm-free (is_free totals.orig s.orig.outgoing) (is_free totals.answ s.answ.outgoing) (λ no na.
    let r = released-not g.orig_mid.phase to.mid_phase in
    let fo = finished-at (is_released g.orig_mid.phase) r to xo lo b.orig.all quiet_o no in
    let fa = finished-at (is_released g.orig_mid.phase) r ta xa la b.answ.all quiet_a na in
    all-three _ _ _ fo fa (ap is_originator io.b_role) to.unreleased) in grind (arith, weights-snoc)
  where
    all-three : (x y o : Bool) → x ≡ true → y ≡ true → o ≡ true → (x && y) && o ≡ false → ⊥
    all-three x y o e f g k = let wrong : true ≡ false = sym (rw (e, f, g) refl) ∙ k in cc

    polled-not : (a : Account) → a.outgoing.awaited ≡ true → linked_lives turn a ≡ false → ⊥
    polled-not a e k = grind (arith, neither-first, neither-second)

    spoken-to-a : (o n : Bool) → (n ≡ false → ⊥) → o || n ≡ true
    spoken-to-a b n f = grind (arith)

lasts-some : (k : ℕ) (l l' m m' : Bool) → l || m ≡ true → 1 ≤ lasts k l l' + lasts k m m'
lasts-some k l l' m m' e = grind (arith)

lasts-new : (k : ℕ) (l l' m m' : Bool) → l || m ≡ false → l' || m' ≡ true → k + 1 ≤ lasts k l l' + lasts k m m'
lasts-new k l l' m m' e f = grind (arith)

busy-one : (b c : Bool) → b || c ≡ true → 1 ≤ one_if b + one_if c
busy-one b c e = grind (arith)

-- The potential falls in every turn after which the run goes on.
pub falls : (z : Rates) (link : Link) (totals : Totals) (turn : ℕ) (s : State) (t : Turn) (u : State) → Fits z link → Sound z link turn s
    → (g : GoingTurn link turn s t u) → Offered totals.orig g.orig_said.account → Offered totals.answ g.answ_said.account
    → AreTogether s → AreTogether (state_after link turn s g.orig_mid g.answ_mid g.orig_said g.answ_said)
    → potential z link totals (turn + 1)
    (state_after link turn s g.orig_mid g.answ_mid g.orig_said g.answ_said) + 1 ≤ potential z link totals turn s
falls z link totals turn s t u f h g oo oa before after = by (is_busy turn link.orig.user.busy || is_busy turn link.answ.user.busy) refl
  where
    b : Both z link totals turn s t u g.orig_mid g.answ_mid g.orig_said g.answ_said
    b = both-turn z link totals turn s t u f h g oo oa

    s' : State
    s' = state_after link turn s g.orig_mid g.answ_mid g.orig_said g.answ_said

    small : stall_of z totals (turn + 1) (is_alive (turn + 1) s') s' ≤ z.room
    small = stall-small z link totals (turn + 1) (is_alive (turn + 1) s') s' (sound-after z link totals turn s t u f h g oo oa) f.room

    ao : ℕ
    ao = arrived_rnrs (arrival link.answ.delay t.orig_loses s.back)

    aa : ℕ
    aa = arrived_rnrs (arrival link.orig.delay t.answ_loses s.forward)

    bo : Bool
    bo = is_busy turn link.orig.user.busy

    ba : Bool
    ba = is_busy turn link.answ.user.busy

    lines : rnrs_on s'.forward + rnrs_on s'.back + 2 *
        (busy_left (turn + 1) link.orig.user.busy + busy_left (turn + 1) link.answ.user.busy) + ao + aa + (one_if bo + one_if ba)
        ≤ rnrs_on s.forward + rnrs_on s.back + 2 * (busy_left turn link.orig.user.busy + busy_left turn link.answ.user.busy)
    lines =
        let af = arrived-well link.orig.delay t.answ_loses s.forward in
        let ab = arrived-well link.answ.delay t.orig_loses s.back in
        let so = slot_of g.orig_said (served_account link.orig.user turn (is_released g.orig_mid.phase) g.orig_mid) in
        let sa = slot_of g.answ_said (served_account link.answ.user turn (is_released g.orig_mid.phase) g.answ_mid) in
        omega (
          arith,
          rnrs-snoc (left_on link.orig.delay s.forward) so,
          rnrs-snoc (left_on link.answ.delay s.back) sa,
          af.rnrs,
          ab.rnrs,
          b.orig.light.1,
          b.answ.light.1,
          busy-falls turn link.orig.user.busy,
          busy-falls turn link.answ.user.busy,
        )

    lo : ℕ
    lo = lasts z.room (lives turn Originator s.orig.phase s.orig) (lives (turn + 1) Originator s'.orig.phase s'.orig)

    la : ℕ
    la = lasts z.room (lives turn Answerer s.answ.phase s.answ) (lives (turn + 1) Answerer s'.answ.phase s'.answ)

    calm : is_busy turn link.orig.user.busy ≡ false → is_busy turn link.answ.user.busy ≡ false → (alive : Bool) → is_alive turn s ≡ alive
        → (alive' : Bool) → is_alive (turn + 1) s' ≡ alive'
        → stall_of z totals (turn + 1) alive' s' + 1 ≤ stall_of z totals turn alive s + lo + la
    calm co ca true e alive' e' = omega (
      arith,
      subst (λ x. stall_of z totals (turn + 1) x s' ≤ z.room) e' small,
      lasts-some z.room (lives turn Originator s.orig.phase s.orig) (lives (turn + 1) Originator s'.orig.phase s'.orig)
          (lives turn Answerer s.answ.phase s.answ) (lives (turn + 1) Answerer s'.answ.phase s'.answ) e,
    )
    calm co ca false e true e' = grind (arith, lasts-new, lives)
    calm co ca false e false e' = omega (arith, standstill z link totals turn s t u f h g oo oa before after e e' co ca)

    by : (busy : Bool) → is_busy turn link.orig.user.busy || is_busy turn link.answ.user.busy ≡ busy
        → potential z link totals (turn + 1) s' + 1 ≤ potential z link totals turn s
    by true e = falls-busy z.quota z.room (value z totals.orig (length link.orig.user.breaks) turn Originator s.orig.phase s.orig)
        (value z totals.orig (length link.orig.user.breaks) (turn + 1) Originator s'.orig.phase s'.orig)
        (value z totals.answ (length link.answ.user.breaks) turn Answerer s.answ.phase s.answ)
        (value z totals.answ (length link.answ.user.breaks) (turn + 1) Answerer s'.answ.phase s'.answ)
        (stall z totals turn s) (stall z totals (turn + 1) s') _ _ ao aa (one_if bo)
        (one_if ba) lo la b.orig.turns.falls b.answ.turns.falls lines (busy-one bo ba e) small
        (omega (arith, f.rates.quota, f.rates.first))
    by false e = falls-calm z.quota (value z totals.orig (length link.orig.user.breaks) turn Originator s.orig.phase s.orig)
        (value z totals.orig (length link.orig.user.breaks) (turn + 1) Originator s'.orig.phase s'.orig)
        (value z totals.answ (length link.answ.user.breaks) turn Answerer s.answ.phase s.answ)
        (value z totals.answ (length link.answ.user.breaks) (turn + 1) Answerer s'.answ.phase s'.answ)
        (stall z totals turn s) (stall z totals (turn + 1) s') _ _ ao aa
        (one_if bo + one_if ba) lo la b.orig.turns.falls b.answ.turns.falls lines
        (calm (neither-first bo ba e) (neither-second bo ba e) (is_alive turn s) refl (is_alive (turn + 1) s') refl)
