-- An end in one turn of a run: it hears, and is served.
use Rattle.turn_losses.proofs.Names.{◌≡◌, ℕ, ◌+◌, ◌*◌, ◌≤◌, List, length, map, arith, ◌∙◌, ap, Ok, Role, Arrived, Account, hear, of, Phase}
use Rattle.turn_losses.proofs.Names.{is_busy, is_released, Link, Accounts, Turn, RunOf, Hears, arrival, served_at, IsCarried, fits, HeardAs}
use Rattle.turn_losses.proofs.Names.{of_arrived, Served, Tied, tied, keeps, link_of, turn_of, state_of, AreRates, rates, IsOf, Stands}
use Rattle.turn_losses.proofs.Names.{arrived_rnrs, NoneDue, KeepsTime, is_poll}
use Rattle.turn_bound.proofs.Falls.{Sound}
use Rattle.turn_bound.proofs.Ending.{sound-run}
use Rattle.turn_bound.proofs.CalmRuns.{hears-in}
use Rattle.turn_bound.proofs.Bounding.{at-once-always}
use Rattle.turn_losses.proofs.PollHear.{PollHeard, poll-hears}
use Rattle.turn_losses.proofs.NumberHear.{ServedLeft, served-left}

-- an end's setup is its link's
setup-is : (tries period : ℕ) (delay : Role → ℕ) (link : Link) (ts : List Turn) (ends : Accounts) → KeepsTime tries period delay link
    → RunOf link ts ends → IsCarried delay ts → (role : Role) → (of role ends).setup ≡ (of role link).setup
setup-is tries period delay link ts ends k run c = by
  where
    i : Tied delay link ts ends
    i = tied delay link ts ends k.delays run c

    h : Sound (rates tries period) (link_of delay link) (length (map turn_of ts)) (state_of ends i.forward i.back)
    h = sound-run (rates tries period) (link_of delay link) (map turn_of ts) (state_of ends i.forward i.back)
        (fits tries period (link_of delay link) (keeps tries period delay link k)) i.run

    by : (r : Role) → (of r ends).setup ≡ (of r link).setup
    by r = grind (arith, h)

-- a before it hears, mid once it has heard, b once it is served
pub record InTurn (tries period : ℕ) (link : Link) (role : Role) (turn : ℕ) (a : Account) (arrived : Arrived) (mid b : Account) : Type 0
  where
    pub rated : AreRates (rates tries period)
    pub long : 1 ≤ period
    pub role_is : a.setup.role ≡ role
    pub setup : a.setup ≡ (of role link).setup
    pub is_of : IsOf (rates tries period) a.setup
    pub stands : Stands (rates tries period) turn turn role a.phase a
    pub none_due : NoneDue a
    pub hears : hear turn arrived a ≡ Ok mid
    pub polls : PollHeard role turn (of_arrived is_poll arrived) a mid
    pub phase : Phase
    pub heard : HeardAs (rates tries period) (length a.outgoing.pieces) (length (of role link).user.breaks) turn
        ((rates tries period).quota * arrived_rnrs arrived) role a.phase a phase mid
    pub mid_setup : mid.setup ≡ (of role link).setup
    pub served : Served turn (length (of role link).user.breaks) (is_busy turn (of role link).user.busy) mid b
    pub left : ServedLeft mid b
    pub b_setup : b.setup ≡ (of role link).setup
    pub b_role : b.setup.role ≡ role
    pub b_period : b.setup.period ≡ period
    pub b_tries : b.setup.tries ≡ tries
    pub b_stands : Stands (rates tries period) (turn + 1) turn role phase b

pub in-turn : (tries period : ℕ) (delay : Role → ℕ) (link : Link) (us : List Turn) (x : Accounts) → KeepsTime tries period delay link
    → RunOf link us x → IsCarried delay us → (t : Turn) (mid : Accounts) → Hears (length us) x t mid → (r : Role)
    → InTurn tries period link r (length us) (of r x) (arrival (of r t).heard) (of r mid) (served_at link (length us) mid r).account
in-turn tries period delay link us x kt run c t mid hearing r =
    let h = hears-in tries period delay link us x r kt run c t mid hearing in
    let setup = setup-is tries period delay link us x kt run c r in
    let none = at-once-always tries period delay link us x kt run c r in
    let b-setup = h.b_setup ∙ setup in
    record {
      rated = h.rates;
      long = let q = kt.period_is in omega (arith, q);
      role_is = h.role_is;
      setup = setup;
      is_of = h.is_of;
      stands = h.stands;
      none_due = none;
      hears = h.hears;
      polls = poll-hears r (arrival (of r t).heard) (length us) (of r x) h.role_is none.answer (of r mid) h.hears;
      phase = h.phase;
      heard = h.heard;
      mid_setup = h.heard.setup ∙ setup;
      served = h.serves;
      left = served-left (of r link).user (length us) (is_released mid.orig.phase) (of r mid);
      b_setup = b-setup;
      b_role = h.b_role;
      b_period = ap (λ q. q.period) b-setup ∙ (kt.timed r).period_is;
      b_tries = ap (λ q. q.tries) b-setup ∙ (kt.timed r).tries_are;
      b_stands = h.b_stands;
    }
