-- Segments have at most the agreed length, and that is at most what their sender offers.
use Rattle.link_run.proofs.Names.{◌≡◌, ◌≤◌, max, ℕ, zero, suc, Bool, false, cond, List, [], ◌∷◌, ◌++◌, length, arith, refl, ◌∙◌, ap, subst}
use Rattle.link_run.proofs.Names.{Option, Ok, length-take, Role, Originator, Answerer, of, ReadsAllowed, ReadsWritten, Outgoing, with_piece}
use Rattle.link_run.proofs.Names.{KeepsTaken, Account, is_connected, wants, piece_size, after_given, after_busy, Said, MayPlay, size_for}
use Rattle.link_run.proofs.Names.{Connected, Carries, IsCarried, User, delivered, is_busy, is_released, offered, offered_at, offered_times}
use Rattle.link_run.proofs.Names.{room_for, served, SendsShort, Accounts, Hears, Link, RunOf, Turn, arrival, releases, said_at, served_at}
use Rattle.link_run.proofs.Names.{start}
use Rattle.link_run.proofs.Keeping.{GoesOn, hears}
use Rattle.link_run.proofs.Speaking.{Speaks}
use Rattle.link_run.proofs.Serving.{asks-alone, busy-alone}
use Rattle.link_run.proofs.Running.{told, speaks-at}
use Rattle.link_run.proofs.Ending.{IsKept, AtBoth, kept-heard, kept-run, HasSetup, setups-kept}
use Rattle.link_run.proofs.Knowing.{OnSent}
use Rattle.link_run.proofs.Following.{KnownOf, known-run, known-mid}
use Rattle.link_run.proofs.Lengths.{AllShort, ShortFrame, said-short}

-- all segments have at most the agreed length
pub record Fit (a : Account) : Type 0 where
  pub each : AllShort a.outgoing.size a.outgoing.pieces

abbrev pub IsFit : Role → Account → Type 0
IsFit r a = Fit a

one-more : (n : ℕ) (ps : List (List ℕ)) (p : List ℕ) → AllShort n ps → length p ≤ n → AllShort n (ps ++ p ∷ [])
one-more n [] p h l = (l, tt)
one-more n (x ∷ ps) p h l = (h.0, one-more n ps p h.1 l)

fit-piece : (p : List ℕ) (o : Outgoing) → AllShort o.size o.pieces → length p ≤ o.size
    → AllShort (with_piece p o).size (with_piece p o).pieces
fit-piece p o h l = grind (arith, one-more)

size-piece : (a : Account) → piece_size a ≤ a.outgoing.size
size-piece a = grind (arith)

fit-offered-at : (file : List ℕ) (a : Account) (w : Option ℕ) → Fit a → Fit (offered_at file a w)
fit-offered-at file a w h = grind (arith, fit-piece, length-take, size-piece)

fit-offered : (n : ℕ) (file : List ℕ) (a : Account) → Fit a → Fit (offered_times n file a)
fit-offered zero file a h = h
fit-offered (suc n) file a h = fit-offered n file (offered_at file a (wants a)) (fit-offered-at file a (wants a) h)

fit-served : (u : User) (turn : ℕ) (released : Bool) (a : Account) → Fit a → Fit (served u turn released a).account
fit-served u turn released a h = grind (arith, fit-offered, busy-alone, asks-alone)

fit-heard : (a b : Account) → Fit a → GoesOn a b → Fit b
fit-heard a b h x = grind (arith)

fit-spoken : (release : Bool) (a b : Account) → Fit a → Speaks release a b → Fit b
fit-spoken release a b h x = grind (arith)

fits-kept : (link : Link) → IsKept IsFit link
fits-kept link = grind (arith, fit-heard, fit-served, fit-spoken)

-- what an end that has begun has agreed for its segments; before, it has none
pub record Sized (most : ℕ) (a : Account) : Type 0 where
  pub size : a.outgoing.size ≤ most

sized-heard : (most : ℕ) (a b : Account) → Sized most a → GoesOn a b → (b.phase ≡ Connected → size_for b.setup.role b.terms ≤ most)
    → Sized most b
sized-heard most a b h x f = grind (arith)

served-size : (u : User) (turn : ℕ) (released : Bool) (a : Account) → (served u turn released a).account.outgoing.size ≡ a.outgoing.size
served-size u turn released a =
    let g = after_given (delivered a) in
    let c = offered u.file g in
    let b = after_busy (is_busy turn u.busy) c in
    ap (λ (x : Account). x.outgoing.size) (asks-alone turn released u.breaks b)
    ∙ ap (λ (x : Account). x.outgoing.size) (busy-alone (is_busy turn u.busy) c) ∙ sizes (room_for g) u.file g
    ∙ given (is_connected a.phase)
  where
    at : (file : List ℕ) (x : Account) (w : Option ℕ) → (offered_at file x w).outgoing.size ≡ x.outgoing.size
    at file x y = grind (arith)

    sizes : (n : ℕ) (file : List ℕ) (x : Account) → (offered_times n file x).outgoing.size ≡ x.outgoing.size
    sizes zero file x = refl
    sizes (suc n) file x = sizes n file (offered_at file x (wants x)) ∙ at file x (wants x)

    given : (b : Bool) → (after_given
        (cond b (record a { incoming = record a.incoming { given = length a.incoming.taken } }) a)).outgoing.size ≡ a.outgoing.size
    given x = grind (arith)

spoken-size : (release : Bool) (a b : Account) → Speaks release a b → b.outgoing.size ≡ a.outgoing.size
spoken-size release a b x = grind (arith)

-- what an end offers
abbrev most_of : Link → Role → ℕ
most_of link role = (of role link).setup.offer.tx_len

-- the agreed length is at most that
orig-most : (link : Link) (sent heard : List Turn) (mid : Accounts) → KnownOf link sent heard mid → link.orig.setup.role ≡ Originator
    → mid.orig.setup ≡ link.orig.setup → mid.orig.phase ≡ Connected → size_for mid.orig.setup.role mid.orig.terms ≤ most_of link Originator
orig-most link sent heard mid k r s e = grind (arith)

answ-most : (link : Link) (sent heard : List Turn) (mid : Accounts) → KnownOf link sent heard mid → link.answ.setup.role ≡ Answerer
    → mid.answ.setup ≡ link.answ.setup → mid.answ.phase ≡ Connected → size_for mid.answ.setup.role mid.answ.terms ≤ most_of link Answerer
answ-most link sent heard mid k r s e = grind (arith)

-- all through a run
sized-mid : (reads : ReadsAllowed) (keeps : KeepsTaken) (written : ReadsWritten) (link : Link) (delay : Role → ℕ) (ts : List Turn)
    (before : Accounts) (t : Turn) (mid : Accounts) → MayPlay link.orig.setup link.answ.setup → IsCarried delay ts → RunOf link ts before
    → Carries delay ts t → Hears (length ts) before t mid
    → ((r : Role) → Sized (most_of link r) (of r before)) → (r : Role) → Sized (most_of link r) (of r mid)
sized-mid reads keeps written link delay ts before t mid m cs h c k s role = at-role role
  where
    known : KnownOf link ts (t ∷ ts) mid
    known = known-mid reads keeps written link delay ts before t mid m h (known-run reads keeps written link delay m ts before cs h) c k

    setups : AtBoth (HasSetup link) mid
    setups = kept-heard reads keeps (HasSetup link) link (setups-kept link) (length ts) before t mid
        (kept-run reads keeps (HasSetup link) link (setups-kept link) ts before h) k

    at-role : (r : Role) → Sized (most_of link r) (of r mid)
    at-role Originator =
        sized-heard (most_of link Originator) before.orig mid.orig (s Originator)
        (hears reads keeps (length ts) (arrival t.orig.heard) before.orig mid.orig (k Originator).hears)
        (orig-most link ts (t ∷ ts) mid known m.originates (setups Originator))
    at-role Answerer =
        sized-heard (most_of link Answerer) before.answ mid.answ (s Answerer)
        (hears reads keeps (length ts) (arrival t.answ.heard) before.answ mid.answ (k Answerer).hears)
        (answ-most link ts (t ∷ ts) mid known m.answers (setups Answerer))

sized-run : (reads : ReadsAllowed) (keeps : KeepsTaken) (written : ReadsWritten) (link : Link) (delay : Role → ℕ)
    → MayPlay link.orig.setup link.answ.setup → (ts : List Turn) (ends : Accounts) → IsCarried delay ts → RunOf link ts ends → (r : Role)
    → Sized (most_of link r) (of r ends)
sized-run reads keeps written link delay m [] ends c h r = grind (arith, start)
sized-run reads keeps written link delay m (t ∷ ts) ends c h r =
    let g = h.2 in
    let turn = length ts in
    let mid = sized-mid reads keeps written link delay ts h.0 t g.mid m c.1 h.1 c.0 g.hearing
    (sized-run reads keeps written link delay m ts h.0 c.1 h.1) r in
    let s = g.speaking r in
    record {
      size = omega (
        arith,
        mid.size,
        ap (λ (x : Account). x.outgoing.size) s.after_is,
        spoken-size (told link turn g.mid r) (served_at link turn g.mid r).account s.said.account
            (speaks-at link turn g.mid r s.said s.says),
        served-size (of r link).user turn (is_released g.mid.orig.phase) (of r g.mid),
      );
    }

-- longer lists are allowed
weaker : (m n : ℕ) (ps : List (List ℕ)) → m ≤ n → AllShort m ps → AllShort n ps
weaker m n [] l h = tt
weaker m n (p ∷ ps) l h = (omega (arith, l, h.0), weaker m n ps l h.1)

pub sends_short : ReadsAllowed → KeepsTaken → ReadsWritten → SendsShort
sends_short reads keeps written link delay ts ends t after v c g role slot frame e f =
    subst (OnSent (ShortFrame n)) (same ∙ f) (said role (g.speaking role).said (g.speaking role).says short)
  where
    n : ℕ
    n = max 23 (most_of link role)

    a : Account
    a = (served_at link (length ts) g.mid role).account

    mid : Sized (most_of link role) (of role g.mid)
    mid = sized-mid reads keeps written link delay ts ends t g.mid v.may_play v.carried v.run c g.hearing
        (sized-run reads keeps written link delay v.may_play ts ends v.carried v.run) role

    fit : Fit (of role g.mid)
    fit = kept-heard reads keeps IsFit link (fits-kept link) (length ts) ends t g.mid
        (kept-run reads keeps IsFit link (fits-kept link) ts ends v.run) g.hearing role

    short : AllShort n a.outgoing.pieces
    short = weaker a.outgoing.size n a.outgoing.pieces
        (omega (arith, mid.size, served-size (of role link).user (length ts) (is_released g.mid.orig.phase) (of role g.mid)))
        (fit-served (of role link).user (length ts) (is_released g.mid.orig.phase) (of role g.mid) fit).each

    said : (r : Role) (s : Said) → said_at link (length ts) g.mid r ≡ Ok s
        → AllShort (max 23 (most_of link r)) (served_at link (length ts) g.mid r).account.outgoing.pieces
        → OnSent (ShortFrame (max 23 (most_of link r))) s.sent
    said Originator s q h =
        said-short (max 23 (most_of link Originator)) (omega arith) (length ts) (releases link (length ts) g.mid)
        (served_at link (length ts) g.mid Originator).account s h q
    said Answerer s q h =
        said-short (max 23 (most_of link Answerer)) (omega arith) (length ts) false
        (served_at link (length ts) g.mid Answerer).account s h q

    same : (g.speaking role).said.sent ≡ slot.sent
    same = grind (arith)
