-- A run of one end counts its user's file as far as it was read, and its end keeps its setup.
use Rattle.link_run.proofs.Names.{arith, ◌≡◌, ℕ, List, [], ◌∷◌, length, sym, ◌∙◌, ap, subst, false, Role, Originator, of, IsAllowed}
use Rattle.link_run.proofs.Names.{ReadsAllowed, KeepsTaken, Account, speak, LoneTurn, LoneRun, LoneGoing, lone_served, Served, has_finished}
use Rattle.link_run.proofs.Names.{speaks_alone, IsOffered, SameSoFar, with_file, Link, Party}
use Rattle.link_run.specs.Alone.{LoneRunsByWhatIsReadOn, LoneRunsKeepTheirSetup}
use Rattle.link_run.proofs.Keeping.{GoesOn, hears}
use Rattle.link_run.proofs.Speaking.{speaks}
use Rattle.link_run.proofs.Cutting.{heard-cuts}
use Rattle.link_run.proofs.Ending.{IsKept, HasCut, cuts-kept, HasSetup, setups-kept}
use Rattle.link_run.proofs.Taking.{Unoffered, IsUnoffered, unoffered-kept, delivered-out}
use Rattle.link_run.proofs.Reading.{served-same, same-spoken, same-served, same-heard}

-- the party twice
abbrev twice : Party → Link
twice party = record { orig = party; answ = party }

-- what holds of each end by itself holds of one alone
kept-alone : (reads : ReadsAllowed) (keeps : KeepsTaken) (P : Role → Account → Type 0) (party : Party) → IsKept P (twice party)
    → (ts : List LoneTurn) (a : Account) → LoneRun party ts a → P Originator a
kept-alone reads keeps P party k [] a h = subst (P Originator) (sym h) (k.begins Originator)
kept-alone reads keeps P party k (t ∷ ts) a h =
    let g = h.2 in
    let turn = length ts in
    let s = lone_served party turn g.mid in
    let m = k.hears Originator h.0 g.mid (kept-alone reads keeps P party k ts h.0 h.1)
    (hears reads keeps turn t.arrived h.0 g.mid g.hears) in
    subst (P Originator) (sym g.after_is)
    (k.speaks Originator (has_finished party.user turn s.account) s.account g.said.account (k.serves Originator turn false g.mid m)
    (speaks turn (has_finished party.user turn s.account) s.account g.said g.says))

lone-unoffered : ReadsAllowed → KeepsTaken → (party : Party) (ts : List LoneTurn) (a : Account) → LoneRun party ts a → Unoffered a
lone-unoffered reads keeps party ts a h = kept-alone reads keeps IsUnoffered party (unoffered-kept (twice party)) ts a h

lone-cut : ReadsAllowed → KeepsTaken → (party : Party) → IsAllowed party.setup.offer → (ts : List LoneTurn) (a : Account)
    → LoneRun party ts a → IsOffered party.user.file a
lone-cut reads keeps party allowed ts a h = kept-alone reads keeps (HasCut (twice party)) party (cuts-kept (twice party) both) ts a h
  where
    both : (r : Role) → IsAllowed (of r (twice party)).setup.offer
    both r = grind (arith)

by-what-was-read : ReadsAllowed → KeepsTaken → (party : Party) (file others : List ℕ) (ts : List LoneTurn) (a : Account)
    → IsAllowed party.setup.offer
    → LoneRun (with_file file party) ts a → SameSoFar a.outgoing file others → LoneRun (with_file others party) ts a
by-what-was-read reads keeps party file others [] a allowed h same = h
by-what-was-read reads keeps party file others (t ∷ ts) a allowed h same = (
  h.0,
  by-what-was-read reads keeps party file others ts h.0 allowed h.1 before,
  record {
    mid = g.mid;
    hears = g.hears;
    going = g.going;
    said = g.said;
    says = says-so ∙ g.says;
    sent = g.sent;
    given = g.given;
    after_is = g.after_is;
  },
)
  where
    old : Party
    old = with_file file party

    new : Party
    new = with_file others party

    turn : ℕ
    turn = length ts

    g : LoneGoing old ts h.0 t a
    g = h.2

    s : Served
    s = lone_served old turn g.mid

    heard : GoesOn h.0 g.mid
    heard = hears reads keeps turn t.arrived h.0 g.mid g.hears

    cut : IsOffered file g.mid
    cut = heard-cuts file h.0 g.mid (lone-cut reads keeps old allowed ts h.0 h.1) heard

    at-served : SameSoFar s.account.outgoing file others
    at-served = same-spoken file others (has_finished party.user turn s.account) s.account g.said.account
        (speaks turn (has_finished party.user turn s.account) s.account g.said g.says)
        (subst (λ (x : Account). SameSoFar x.outgoing file others) g.after_is same)

    before : SameSoFar h.0.outgoing file others
    before = same-heard file others h.0 g.mid (lone-unoffered reads keeps old ts h.0 h.1) heard
        (same-served old.user file others turn false g.mid at-served)

    says-so : speaks_alone new.user turn (lone_served new turn g.mid) ≡ speaks_alone old.user turn s
    says-so = ap (λ (x : Served). speak turn (has_finished party.user turn x.account) x.account)
        (served-same party.user file others turn false g.mid cut at-served)

pub lone_runs_by_what_is_read_on : ReadsAllowed → KeepsTaken → LoneRunsByWhatIsReadOn
lone_runs_by_what_is_read_on reads keeps party file others ts a arrived mid allowed h e same =
    by-what-was-read reads keeps party file others ts a allowed h
    (same-heard file others a mid (lone-unoffered reads keeps (with_file file party) ts a h) (hears reads keeps (length ts) arrived a mid e)
    (subst (λ o. SameSoFar o file others) (delivered-out mid) same))

pub lone_runs_keep_their_setup : ReadsAllowed → KeepsTaken → LoneRunsKeepTheirSetup
lone_runs_keep_their_setup reads keeps party ts a arrived mid h e =
    let k = setups-kept (twice party) in
    k.hears Originator a mid (kept-alone reads keeps (HasSetup (twice party)) party k ts a h)
    (hears reads keeps (length ts) arrived a mid e)
