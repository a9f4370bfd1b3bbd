use Rattle.turn_bound.proofs.Names.{◌≡◌, ℕ, ◌+◌, ◌*◌, ◌≤◌, Bool, true, false, length, arith, sym, ◌∙◌, ap, subst, Ok, Role, Arrived, hear}
use Rattle.turn_bound.proofs.Names.{Said, speak, Phase, User, is_busy, is_closed}
use Rattle.link_account.proofs.Names.{Account}
use Rattle.turn_bound.proofs.Value.{Rates, AreRates, ends, lasts, value, lives, IsOf, Stands, arrived_rnrs}
use Rattle.turn_bound.proofs.Run.{served_account}
use Rattle.turn_bound.proofs.Hearing.{HeardAs, hears-well}
use Rattle.turn_bound.proofs.Serving.{serves-all, Served, serves-well}
use Rattle.turn_bound.proofs.Speaking.{SpeaksAs, speaks-well}

-- what a whole turn makes of an end
pub record TurnsAs (z : Rates) (total breaks turn more : ℕ) (role : Role) (p : Phase) (a mid : Account) (q : Phase)
    (b : Account) : Type 0 where
  pub phase : b.phase ≡ q
  pub stands : Stands z (turn + 1) (turn + 1) role q b
  pub setup : b.setup ≡ a.setup
  pub longer : length a.outgoing.pieces ≤ length b.outgoing.pieces
  pub pieces : b.outgoing.pieces ≡ mid.outgoing.pieces
  pub ended : b.outgoing.ended ≡ mid.outgoing.ended
  pub opens : is_closed mid.phase ≡ false → is_closed q ≡ false
  pub whole : a.outgoing.ended ≡ true → (b.outgoing.pieces ≡ a.outgoing.pieces) × (b.outgoing.ended ≡ true)
  pub falls : value z total breaks (turn + 1) role q b + lasts z.room (lives turn role p a)
      (lives (turn + 1) role q b) ≤ value z total breaks turn role p a + more

lasts-chain : (k : ℕ) (a b c d : Bool) → lasts k a d ≤ ends k a b + ends k b c + lasts k c d
lasts-chain k a b c d = grind (arith)

-- One end in a turn: a before it hears, mid once it has heard, b once it is served.
pub record Hearing (z : Rates) (user : User) (turn : ℕ) (role : Role) (a : Account) (arrived : Arrived) (mid b : Account) : Type 0 where
  pub rates : AreRates z
  pub is_of : IsOf z a.setup
  pub stands : Stands z turn turn role a.phase a
  pub role_is : a.setup.role ≡ role
  pub hears : hear turn arrived a ≡ Ok mid
  pub serves : Served turn (length user.breaks) (is_busy turn user.busy) mid b
  pub phase : Phase
  pub heard : HeardAs z (length a.outgoing.pieces) (length user.breaks) turn (z.quota * arrived_rnrs arrived) role a.phase a phase mid
  pub b_phase : b.phase ≡ phase
  pub b_stands : Stands z (turn + 1) turn role phase b
  pub b_setup : b.setup ≡ a.setup
  pub b_is_of : IsOf z b.setup
  pub b_role : b.setup.role ≡ role

pub hearing : {z : Rates} (user : User) {turn : ℕ} {role : Role} {arrived : Arrived} {a mid : Account} (released : Bool) → AreRates z
    → IsOf z a.setup → Stands z turn turn role a.phase a → a.setup.role ≡ role → hear turn arrived a ≡ Ok mid
    → Hearing z user turn role a arrived mid (served_account user turn released mid)
hearing {z} user {turn} {role} {arrived} {a} {mid} released y k h er hears =
    let breaks : ℕ = length user.breaks in
    let b : Account = served_account user turn released mid in
    let first = hears-well z (length a.outgoing.pieces) breaks turn role arrived a mid y k h er (omega arith) hears in
    let s = serves-all user turn released mid in
    let setup = s.setup ∙ first.1.setup in
    record {
      rates = y;
      is_of = k;
      stands = h;
      role_is = er;
      hears = hears;
      serves = s;
      phase = first.0;
      heard = first.1;
      b_phase = s.phase ∙ first.1.phase;
      b_stands = (serves-well z (length a.outgoing.pieces) breaks turn (is_busy turn user.busy) role first.0 mid b y first.1.stands
          first.1.phase s).stands;
      b_setup = setup;
      b_is_of = subst (IsOf z) (sym setup) k;
      b_role = ap (λ x. x.role) setup ∙ er;
    }

module _ {z : Rates} {user : User} {turn : ℕ} {role : Role} {a : Account} {arrived : Arrived} {mid b : Account}
    (i : Hearing z user turn role a arrived mid b) where
  -- what it says
  pub spoken-as : (total : ℕ) (release : Bool) {said : Said} → speak turn release b ≡ Ok said → length b.outgoing.pieces ≤ total
      → (q : Phase) × SpeaksAs z total (length user.breaks) turn role i.phase b q said.account
  spoken-as total release {said} speaks all = speaks-well z total (length user.breaks) turn role i.phase release b said i.rates i.b_is_of
      i.b_stands i.b_phase i.b_role all speaks

  -- the whole turn
  pub one-turn : (total : ℕ) (release : Bool) {said : Said} → speak turn release b ≡ Ok said → length b.outgoing.pieces ≤ total
      → (q : Phase) × TurnsAs z total (length user.breaks) turn (z.quota * arrived_rnrs arrived) role a.phase a b q said.account
  one-turn total release {said} speaks all =
      let more : ℕ = z.quota * arrived_rnrs arrived in
      let breaks : ℕ = length user.breaks in
      let s = i.serves in
      let same-length : length mid.outgoing.pieces ≡ length a.outgoing.pieces = ap (λ l. length l) i.heard.pieces in
      let heard = hears-well z total breaks turn role arrived a mid i.rates i.is_of i.stands i.role_is
      (omega (arith, same-length, s.longer.longer, all)) i.hears in
      let same : heard.0 ≡ i.phase = sym heard.1.phase ∙ i.heard.phase in
      let serves = serves-well z total breaks turn (is_busy turn user.busy) role heard.0 mid b i.rates heard.1.stands heard.1.phase s in
      let spoke = subst (λ p. (q : Phase) × SpeaksAs z total breaks turn role p b q said.account) (sym same)
      (spoken-as total release speaks all) in (
        spoke.0,
        record {
          phase = spoke.1.phase;
          stands = spoke.1.stands;
          setup = spoke.1.setup ∙ i.b_setup;
          longer = omega (arith, same-length, s.longer.longer, ap (λ l. length l) spoke.1.pieces);
          pieces = spoke.1.pieces;
          ended = spoke.1.ended;
          opens = λ x. spoke.1.opens (ap is_closed (sym (s.phase ∙ heard.1.phase)) ∙ x);
          whole = λ w. let t = s.longer.ended (heard.1.ended ∙ w) in (spoke.1.pieces ∙ (t.0 ∙ heard.1.pieces), spoke.1.ended ∙ t.1);
          falls = omega (
            arith,
            heard.1.falls,
            serves.falls,
            spoke.1.falls,
            lasts-chain z.room (lives turn role a.phase a) (lives turn role heard.0 mid) (lives turn role heard.0 b)
                (lives (turn + 1) role spoke.0 said.account),
          );
        },
      )
