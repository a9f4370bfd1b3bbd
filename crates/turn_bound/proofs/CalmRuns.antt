-- What holds all through a run where no user is busy.
use Rattle.turn_bound.proofs.Names.{◌≡◌, ℕ, zero, suc, ◌+◌, ◌*◌, ◌≤◌, Bool, true, false, List, [], ◌∷◌, drop, map, length, arith, refl, sym}
use Rattle.turn_bound.proofs.Names.{◌∙◌, ap, subst, Option, Some, None, Ok, slice_get, AllByRecursion, Role, Originator, Answerer, other}
use Rattle.turn_bound.proofs.Names.{of, Heard, is_connected, Said, speak, User, is_busy, is_released, Link, Accounts, Spoken, Turn}
use Rattle.turn_bound.proofs.Names.{GoingTurn, RunOf, releases, arrival, Crosses, Carries, IsCarried, sent_in, BusyLine, NeverBusy}
use Rattle.turn_bound.proofs.Names.{KeepsTime}
use Rattle.link_account.proofs.Names.{Account}
use Rattle.link_run.proofs.Names.{said_at}
use Rattle.link_run.proofs.Names.{Hears}
use Rattle.turn_bound.proofs.Value.{Rates, rates, AreRates, one_if, IsOf, Stands, weight, rnrs, arrived_weight, arrived_rnrs}
use Rattle.turn_bound.proofs.Run.{served_account}
use Rattle.turn_bound.proofs.Serving.{serves-all}
use Rattle.turn_bound.proofs.Falls.{Sound, Fits}
use Rattle.turn_bound.proofs.Ending.{fits, sound-run}
use Rattle.turn_bound.proofs.Tied.{Tied, tied, keeps, link_of, turn_of, state_of, turns-length}
use Rattle.turn_bound.proofs.Light.{Light, LightSaid, speaks-light}
use Rattle.turn_bound.proofs.MeetHear.{is_begun, of_arrived, of_frame}
use Rattle.turn_bound.proofs.Meeting.{speaks-so}
use Rattle.turn_bound.proofs.Taking.{frame_poll, poll_value, poll-most}
use Rattle.turn_bound.proofs.Polled.{nineteen_if, poll-turn}
use Rattle.turn_bound.proofs.Pausing.{goes-on, says-calm}
use Rattle.turn_bound.proofs.OneTurn.{Hearing, hearing}
use Rattle.link_run.specs.Run as runs

-- an end speaks, told to release or not
pub said-speaks : (link : Link) (turn : ℕ) (mid : Accounts) (role : Role) (said : Said) → said_at link turn mid role ≡ Ok said
    → (release : Bool) × (speak turn release (served_account (of role link).user turn (is_released mid.orig.phase) (of role mid)) ≡ Ok said)
said-speaks link turn mid Originator said e = (releases link turn mid, e)
said-speaks link turn mid Answerer said e = (false, e)

-- what holds of each end between turns
pub record EndAt (z : Rates) (turn : ℕ) (role : Role) (a : Account) : Type 0 where
  pub rates : AreRates z
  pub stands : Stands z turn turn role a.phase a
  pub is_of : IsOf z a.setup
  pub role_is : a.setup.role ≡ role

pub end-at : (tries period : ℕ) (delay : Role → ℕ) (link : Link) (ts : List Turn) (ends : Accounts) (role : Role)
    → KeepsTime tries period delay link → RunOf link ts ends → IsCarried delay ts
    → EndAt (rates tries period) (length ts) role (of role ends)
end-at tries period delay link ts ends role k run c = by role
  where
    z : Rates
    z = rates tries period

    i : Tied delay link ts ends
    i = tied delay link ts ends k.delays run c

    f : Fits z (link_of delay link)
    f = fits tries period (link_of delay link) (keeps tries period delay link k)

    h : Sound z (link_of delay link) (length ts) (state_of ends i.forward i.back)
    h = subst (λ n. Sound z (link_of delay link) n (state_of ends i.forward i.back)) (turns-length ts)
        (sound-run z (link_of delay link) (map turn_of ts) (state_of ends i.forward i.back) f i.run)

    by : (r : Role) → EndAt z (length ts) r (of r ends)
    by Originator = record {
      rates = f.rates;
      stands = h.orig;
      is_of = subst (IsOf z) (sym h.orig_setup) f.orig;
      role_is = ap (λ x. x.role) h.orig_setup ∙ f.originates;
    }
    by Answerer = record {
      rates = f.rates;
      stands = h.answ;
      is_of = subst (IsOf z) (sym h.answ_setup) f.answ;
      role_is = ap (λ x. x.role) h.answ_setup ∙ f.answers;
    }

-- and in the turn behind
pub hears-in : (tries period : ℕ) (delay : Role → ℕ) (link : Link) (ts : List Turn) (before : Accounts) (role : Role)
    → KeepsTime tries period delay link → RunOf link ts before → IsCarried delay ts → (t : Turn) (mid : Accounts)
    → Hears (length ts) before t mid
    → Hearing (rates tries period) (of role link).user (length ts) role (of role before) (arrival (of role t).heard) (of role mid)
    (served_account (of role link).user (length ts) (is_released mid.orig.phase) (of role mid))
hears-in tries period delay link ts before role k run c t mid g =
    let e = end-at tries period delay link ts before role k run c in
    hearing (of role link).user (is_released mid.orig.phase) e.rates e.is_of e.stands e.role_is (g role).hears

never-busy : (turn : ℕ) (lines : List BusyLine) → lines ≡ [] → is_busy turn lines ≡ false
never-busy turn lines e = ap (is_busy turn) e

pub never-at : (link : Link) (turn : ℕ) (role : Role) → NeverBusy link → is_busy turn (of role link).user.busy ≡ false
never-at link turn role n = never-busy turn (of role link).user.busy (n role)

-- The slots of a run: none weighs more than two, and none is an RNR.
abbrev pub LightSlot : Option Spoken → Type 0
LightSlot None = Unit {0}
LightSlot (Some slot) = (weight slot.sent ≤ 2) × (rnrs slot.sent ≡ 0)

abbrev pub LightTurn : Turn → Type 0
LightTurn t = (role : Role) → LightSlot (of role t).sent

light-ok : (said : Said) (m : Option Spoken) (busy : Bool) → busy ≡ false → Light busy said → m ≡ Some (runs.spoken said) → LightSlot m
light-ok said m busy e l f = subst LightSlot (sym f) (l.0, omega (arith, l.1, ap one_if e))

said-light : (busy : Bool) (said : Said) (turn : ℕ) (release : Bool) (b : Account) → speak turn release b ≡ Ok said
    → LightSaid busy (speak turn release b) → Light busy said
said-light busy said turn release b e h = grind (arith)

light-turn : (link : Link) (ts : List Turn) (before : Accounts) (t : Turn) (after : Accounts) → NeverBusy link
    → GoingTurn link ts before t after
    → LightTurn t
light-turn link ts before t after n g role =
    let o = g.speaking role in
    let turn : ℕ = length ts in
    let user : User = (of role link).user in
    let released : Bool = is_released g.mid.orig.phase in
    let s = serves-all user turn released (of role g.mid) in
    let sp = said-speaks link turn g.mid role o.said o.says in
    light-ok o.said (of role t).sent (is_busy turn user.busy) (never-at link turn role n)
    (said-light (is_busy turn user.busy) o.said turn sp.0 (served_account user turn released (of role g.mid)) sp.1
    (speaks-light (is_busy turn user.busy) turn sp.0 (served_account user turn released (of role g.mid))
    (λ c. s.busy_now (ap is_connected (sym s.phase) ∙ c))))
    o.sent_is

pub light-run : (link : Link) (ts : List Turn) (ends : Accounts) → NeverBusy link → RunOf link ts ends → AllByRecursion LightTurn ts
light-run link [] ends n run = tt
light-run link (t ∷ ts) ends n (before, run, g) = (light-turn link ts before t ends n g, light-run link ts before n run)

all-get : (ts : List Turn) (n : ℕ) → AllByRecursion LightTurn ts → (role : Role) → LightSlot (sent_in role (slice_get ts n))
all-get [] n h role = tt
all-get (t ∷ ts) zero h role = h.0 role
all-get (t ∷ ts) (suc n) h role = all-get ts n h.1 role

-- so is what arrives
pub light-heard : (m : Option Spoken) (heard : Heard) → Crosses m heard → LightSlot m
    → (arrived_weight (arrival heard) ≤ 2) × (arrived_rnrs (arrival heard) ≡ 0)
light-heard m p c l = grind (arith)

pub light-arrival : (delay : Role → ℕ) (link : Link) (ts : List Turn) (ends : Accounts) (t : Turn) (role : Role) → NeverBusy link
    → RunOf link ts ends → Carries delay ts t
    → (arrived_weight (arrival (of role t).heard) ≤ 2) × (arrived_rnrs (arrival (of role t).heard) ≡ 0)
light-arrival delay link ts ends t role n run c = grind (arith, light-heard, all-get, light-run)

-- No end counts the other as busy, and none told that it is.
pub record Unpaused (a : Account) : Type 0 where
  pub paused : a.outgoing.paused ≡ false
  pub told : a.owes.busy_told ≡ false

pub calm-run : (delay : Role → ℕ) (link : Link) (ts : List Turn) (ends : Accounts) (role : Role) → NeverBusy link → RunOf link ts ends
    → IsCarried delay ts → Unpaused (of role ends)
calm-run delay link [] ends role n run c = grind (arith)
calm-run delay link (t ∷ ts) ends role n (before, run, g) c =
    let turn : ℕ = length ts in
    let user : User = (of role link).user in
    let released : Bool = is_released g.mid.orig.phase in
    let b : Account = served_account user turn released (of role g.mid) in
    let o = g.speaking role in
    let u = calm-run delay link ts before role n run c.1 in
    let light = light-arrival delay link ts before t role n run c.0 in
    let h = goes-on turn (arrival (of role t).heard) (of role before) (of role g.mid) light.1 (g.hearing role).hears in
    let s = serves-all user turn released (of role g.mid) in
    let sp = said-speaks link turn g.mid role o.said o.says in
    let k = says-calm turn sp.0 b o.said (λ x. s.busy_now (ap is_connected (sym s.phase) ∙ x) ∙ never-at link turn role n) sp.1 in
    grind (arith, h)

-- phases don't go back
pub going-run : (delay : Role → ℕ) (link : Link) (ts : List Turn) (before : Accounts) (t : Turn) (after : Accounts) (role : Role)
    → NeverBusy link
    → RunOf link ts before → Carries delay ts t → GoingTurn link ts before t after
    → (is_begun (of role before).phase ≡ true → is_begun (of role after).phase ≡ true)
    × (is_released (of role before).phase ≡ true → is_released (of role after).phase ≡ true)
going-run delay link ts before t after role n run c g =
    let turn : ℕ = length ts in
    let user : User = (of role link).user in
    let released : Bool = is_released g.mid.orig.phase in
    let b : Account = served_account user turn released (of role g.mid) in
    let o = g.speaking role in
    let light = light-arrival delay link ts before t role n run c in
    let h = goes-on turn (arrival (of role t).heard) (of role before) (of role g.mid) light.1 (g.hearing role).hears in
    let s = serves-all user turn released (of role g.mid) in
    let sp = said-speaks link turn g.mid role o.said o.says in
    let so = speaks-so turn sp.0 b o.said sp.1 in (
      λ e. ap (λ x. is_begun x.phase) o.after_is ∙ (so.begun ∙ (ap is_begun s.phase ∙ h.begun e)),
      λ e. ap (λ x. is_released x.phase) o.after_is ∙ so.released (ap is_released s.phase ∙ h.released e),
    )

-- Polls: how many were sent in the last turns, and heard.
abbrev pub poll_in : Option Spoken → ℕ
poll_in None = 0
poll_in (Some slot) = one_if (of_frame frame_poll slot.sent)

abbrev pub polls_sent : ℕ → Role → List Turn → ℕ
polls_sent zero role ts = 0
polls_sent (suc n) role [] = 0
polls_sent (suc n) role (t ∷ ts) = poll_in (of role t).sent + polls_sent n role ts

abbrev pub polls_heard : ℕ → Role → List Turn → ℕ
polls_heard zero role ts = 0
polls_heard (suc n) role [] = 0
polls_heard (suc n) role (t ∷ ts) = one_if (of_arrived frame_poll (arrival (of role t).heard)) + polls_heard n role ts

nineteen : (b : Bool) → nineteen_if b ≡ 19 * one_if b
nineteen b = grind (arith)

pub few-sent : (tries period : ℕ) (delay : Role → ℕ) (link : Link) (n : ℕ) (ts : List Turn) (ends : Accounts) (role : Role)
    → KeepsTime tries period delay link → NeverBusy link → RunOf link ts ends → IsCarried delay ts
    → 19 * polls_sent n role ts + poll_value (length ts) (of role ends).phase (of role ends) ≤ n + 38
few-sent tries period delay link zero ts ends role k nb run c = omega (arith, poll-most (length ts) (of role ends).phase (of role ends))
few-sent tries period delay link (suc n) [] ends role k nb run c = omega (arith, poll-most 0 (of role ends).phase (of role ends))
few-sent tries period delay link (suc n) (t ∷ ts) ends role k nb (before, run, g) c =
    let turn : ℕ = length ts in
    let o = g.speaking role in
    let light = light-arrival delay link ts before t role nb run c.0 in
    let sp = said-speaks link turn g.mid role o.said o.says in
    let one = poll-turn (hears-in tries period delay link ts before role k run c.1 t g.mid g.hearing) sp.0 o.said light.0 light.1 sp.1 in
    let rest = few-sent tries period delay link n ts before role k nb run c.1 in
    let now : poll_value (turn + 1) (of role ends).phase (of role ends) ≡ poll_value (turn + 1) o.said.account.phase o.said.account =
    ap (λ a. poll_value (turn + 1) a.phase a) o.after_is in
    let later : poll_value (suc turn) (of role ends).phase (of role ends) ≡ poll_value (turn + 1) (of role ends).phase (of role ends) =
    ap (λ m. poll_value m (of role ends).phase (of role ends)) (omega arith) in grind (arith, now, nineteen)

-- what was heard was sent before
data Split (k : ℕ) (ts : List Turn) : Type 0 where
  Over : drop k ts ≡ [] → drop (suc k) ts ≡ [] → Split k ts
  Within : (t : Turn) (rest : List Turn) → drop k ts ≡ t ∷ rest → slice_get ts k ≡ Some t → drop (suc k) ts ≡ rest → Split k ts

split : (k : ℕ) (ts : List Turn) → Split k ts
split zero [] = Over refl refl
split zero (t ∷ ts) = Within t ts refl refl refl
split (suc k) [] = Over refl refl
split (suc k) (t ∷ ts) = go (split k ts)
  where
    go : Split k ts → Split (suc k) (t ∷ ts)
    go (Over e f) = Over e f
    go (Within x rest e f g) = Within x rest e f g

crossed-polls : (m : Option Spoken) (heard : Heard) → Crosses m heard → one_if (of_arrived frame_poll (arrival heard)) ≤ poll_in m
crossed-polls m p c = grind (arith)

pub heard-sent : (delay : Role → ℕ) (d n : ℕ) (ts : List Turn) (role : Role) → delay (other role) ≡ d → 1 ≤ d → IsCarried delay ts
    → polls_heard n role ts ≤ polls_sent n (other role) (drop d ts)
heard-sent delay zero n ts role e some c = absurd (omega (arith, some))
heard-sent delay (suc d) zero ts role e some c = omega arith
heard-sent delay (suc d) (suc n) [] role e some c = omega arith
heard-sent delay (suc d) (suc n) (t ∷ ts) role e some c = go (split d ts) (heard-sent delay (suc d) n ts role e some c.1)
  where
    now : one_if (of_arrived frame_poll (arrival (of role t).heard)) ≤ poll_in (sent_in (other role) (slice_get ts d))
    now = grind (arith, crossed-polls)

    go : Split d ts → polls_heard n role ts ≤ polls_sent n (other role) (drop (suc d) ts)
        → one_if (of_arrived frame_poll (arrival (of role t).heard)) + polls_heard n role ts ≤ polls_sent (suc n) (other role) (drop d ts)
    go (Within x rest f g h) less = grind (arith)
    go (Over f g) less = omega (arith, now, less, gone d ts f, ap (polls_sent n (other role)) g, none-sent n)
      where
        none-sent : (m : ℕ) → polls_sent m (other role) [] ≡ 0
        none-sent m = grind (arith)

        gone : (k : ℕ) (m : List Turn) → drop k m ≡ [] → poll_in (sent_in (other role) (slice_get m k)) ≡ 0
        gone zero [] p = refl
        gone zero (x ∷ m) p = cc
        gone (suc k) [] p = refl
        gone (suc k) (x ∷ m) p = gone k m p

-- a run's beginning is a run
pub before-run : (n : ℕ) (link : Link) (ts : List Turn) (ends : Accounts) → RunOf link ts ends → (first : Accounts) × RunOf link
    (drop n ts) first
before-run zero link ts ends run = (ends, run)
before-run (suc n) link [] ends run = (ends, run)
before-run (suc n) link (t ∷ ts) ends (before, run, g) = before-run n link ts before run

pub before-carried : (n : ℕ) (delay : Role → ℕ) (ts : List Turn) → IsCarried delay ts → IsCarried delay (drop n ts)
before-carried zero delay ts c = c
before-carried (suc n) delay [] c = c
before-carried (suc n) delay (t ∷ ts) c = before-carried n delay ts c.1

-- So few polls are heard in so many turns.
pub few-heard : (tries period : ℕ) (delay : Role → ℕ) (link : Link) (n : ℕ) (ts : List Turn) (ends : Accounts) (role : Role)
    → KeepsTime tries period delay link → NeverBusy link → RunOf link ts ends → IsCarried delay ts
    → 19 * polls_heard n role ts ≤ n + 38
few-heard tries period delay link n ts ends role k nb run c =
    let d : ℕ = delay (other role) in
    let first = before-run d link ts ends run in
    let sent = few-sent tries period delay link n (drop d ts) first.0 (other role) k nb first.1 (before-carried d delay ts c) in
    let heard = heard-sent delay d n ts role refl (k.delays (other role)) c in
    omega (arith, sent, heard)
