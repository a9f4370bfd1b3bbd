-- Whatever an end gives up for, where no break waits.
use Rattle.turn_losses.proofs.Names.{◌≡◌, ℕ, ◌+◌, Bool, true, false, cond, ◌∷◌, length, arith, refl, sym, ◌∙◌, ap, List, [], subst, Role}
use Rattle.turn_losses.proofs.Names.{Originator, Answerer, of, waits, LinkFault, Spent, NotDetected, is_connected, Account, break_waits}
use Rattle.turn_losses.proofs.Names.{served_at, is_busy, Link, Accounts, Turn, RunOf, said_at, IsCarried, Hears, BrokenTurn, serves-all}
use Rattle.turn_losses.proofs.Names.{Served, Rates, rates, IsOf, KeepsTime, LosesEach, OriginatorWantsAnswers, is-linked}
use Rattle.turn_losses.proofs.Names.{OriginatorIsStarved, OriginatorWantsPattern, UndetectedIsStarved, OriginatorWantsFrame}
use Rattle.turn_losses.proofs.Names.{AnswererWantsAnswer, GivesUpForLosses}
use Rattle.link_run.proofs.Names.{BreakLine, SpeaksAt}
use Rattle.link_run.specs.Laws.{EachEndIsNamed, IsNamed}
use Rattle.turn_losses.specs.Tries.{IsForLosses, GivesUpUnbroken}
use Rattle.turn_losses.proofs.Parting.{answerer-gives-up}
use Rattle.turn_losses.proofs.Periods.{later-loses}
use Rattle.turn_losses.proofs.Tracing.{timed-run, release_of, said-as}
use Rattle.turn_bound.proofs.Speaking.{speaks-well}
use Rattle.turn_losses.proofs.InTurn.{in-turn}

-- what the laws say of each case
pub record Cases : Type 0 where
  pub named : EachEndIsNamed
  pub orig : OriginatorWantsAnswers
  pub orig_starved : OriginatorIsStarved
  pub pattern : OriginatorWantsPattern
  pub pattern_starved : UndetectedIsStarved
  pub frame : OriginatorWantsFrame
  pub answ : AnswererWantsAnswer

pub gives-up : Cases → GivesUpForLosses
gives-up laws tries period delay link ts before t mid role fault kt run cs broken quiet = go role fault broken
    (laws.named link ts before t mid role fault run.may_play run.run broken) quiet
  where
    waits-not : (r : Role) → is_connected (of r mid).phase ≡ true → break_waits (served_at link (length ts) mid r).account ≡ false
        → waits (served_at link (length ts) mid r).account.own_breaks ≡ false
    waits-not r c q = grind (arith, serves-all)

    -- fewer of the latest periods
    fewer : LosesEach period (tries + 1) (length ts) (t ∷ ts) → LosesEach period tries (length ts) (t ∷ ts)
    fewer h n l = h n (omega (arith, l))

    longer : (count : ℕ) → LosesEach period count (length ts) ts → LosesEach period count (length ts) (t ∷ ts)
    longer count h n l = later-loses period t ts n (h n l)

    spent : (segment since : ℕ) → BrokenTurn link ts before t mid Originator (Spent segment since)
        → break_waits (served_at link (length ts) mid Originator).account ≡ false → (c : Bool) → is_connected mid.orig.phase ≡ c
        → IsForLosses tries period delay ts t c
    spent segment since b q true c =
        let cm = is-linked mid.orig.phase c in
        let no-break = waits-not Originator c q in
        record {
          each = longer tries (laws.orig tries period delay link ts before t mid segment since kt run cs b cm no-break);
          all = λ e. cc;
          starved = laws.orig_starved tries period delay link ts before t mid segment since kt run cs b cm no-break;
        }
    spent segment since b q false c =
        let h = laws.frame tries period delay link ts before t mid segment since kt run cs b c in
        record { each = fewer (longer (tries + 1) h.0); all = λ e. longer (tries + 1) h.0; starved = h.1 }

    answ-spent : (segment since : ℕ) → BrokenTurn link ts before t mid Answerer (Spent segment since)
        → break_waits (served_at link (length ts) mid Answerer).account ≡ false → (c : Bool) → is_connected mid.answ.phase ≡ c
        → IsForLosses tries period delay ts t c
    answ-spent segment since b q true c =
        let h = laws.answ tries period delay link ts before t mid segment since kt run cs b (waits-not Answerer c q) in
        record { each = h.0; all = λ e. cc; starved = h.1 }
    answ-spent segment since b q false c = let wrong : true ≡ false = sym
        (answerer-gives-up (timed-run tries period delay link ts before kt run.run run.carried) t mid (Spent segment since) b) ∙ c in cc

    undetected : BrokenTurn link ts before t mid Originator NotDetected → (c : Bool) → IsForLosses tries period delay ts t c
    undetected b c =
        let h = longer (tries + 1) (laws.pattern tries period delay link ts before t mid kt run.run run.carried b) in
        record {
          each = fewer h;
          all = λ e. h;
          starved = laws.pattern_starved tries period delay link ts before t mid kt run.run
              run.carried b;
        }

    go : (r : Role) (f : LinkFault) → BrokenTurn link ts before t mid r f → IsNamed r f
        → break_waits (served_at link (length ts) mid r).account ≡ false
        → IsForLosses tries period delay ts t (is_connected (of r mid).phase)
    go Originator (Spent segment since) b n q = spent segment since b q (is_connected mid.orig.phase) refl
    go Answerer (Spent segment since) b n q = answ-spent segment since b q (is_connected mid.answ.phase) refl
    go Originator NotDetected b n q = undetected b (is_connected mid.orig.phase)
    go Answerer NotDetected b n q = cc
    go r p b n q = absurd n

-- Where a user asks for no break, none waits.

-- how many breaks an end has taken
abbrev taken : Account → ℕ
taken a = length a.own_breaks.lengths

served-none : (turn : ℕ) (breaks : List BreakLine) (busy : Bool) (a b : Account) → breaks ≡ [] → Served turn (length breaks) busy a b
    → taken a ≡ 0 → taken b ≡ 0
served-none turn breaks busy a b none s e = grind (arith)

-- what an end that has heard and is served has taken
served-taken : (tries period : ℕ) (delay : Role → ℕ) (link : Link) (ts : List Turn) (ends : Accounts) → KeepsTime tries period delay link
    → RunOf link ts ends → IsCarried delay ts → (r : Role) → (of r link).user.breaks ≡ [] → taken (of r ends) ≡ 0
    → (t : Turn) (mid : Accounts) → Hears (length ts) ends t mid → taken (served_at link (length ts) mid r).account ≡ 0
served-taken tries period delay link ts ends k run c r none e t mid hearing =
    let i = in-turn tries period delay link ts ends k run c t mid hearing r in
    served-none (length ts) (of r link).user.breaks (is_busy (length ts) (of r link).user.busy) (of r mid)
    (served_at link (length ts) mid r).account none i.served (ap (λ (l : List ℕ). length l) i.heard.lengths ∙ e)

none-taken : (tries period : ℕ) (delay : Role → ℕ) (link : Link) (ts : List Turn) (ends : Accounts) → KeepsTime tries period delay link
    → RunOf link ts ends → IsCarried delay ts → (r : Role) → (of r link).user.breaks ≡ [] → taken (of r ends) ≡ 0
none-taken tries period delay link [] ends k run c Originator none = ap (λ (x : Accounts). taken x.orig) run
none-taken tries period delay link [] ends k run c Answerer none = ap (λ (x : Accounts). taken x.answ) run
none-taken tries period delay link (t ∷ ts) ends k (before, run, g) c r none =
    let turn : ℕ = length ts in
    let z : Rates = rates tries period in
    let b : Account = (served_at link turn g.mid r).account in
    let i = in-turn tries period delay link ts before k run c.1 t g.mid g.hearing r in
    let s : SpeaksAt (said_at link turn g.mid r) (of r t) (of r ends) = g.speaking r in
    let own = served-taken tries period delay link ts before k run c.1 r none
    (none-taken tries period delay link ts before k run c.1 r none) t g.mid g.hearing in
    let said = speaks-well z (length b.outgoing.pieces) (length (of r link).user.breaks) turn r i.phase
    (release_of link turn g.mid r) b s.said
    i.rated (subst (IsOf z) (i.setup ∙ sym i.b_setup) i.is_of) i.b_stands (i.served.phase ∙ i.heard.phase) i.b_role (omega arith)
    (sym (said-as link turn g.mid r) ∙ s.says) in grind (arith)

pub gives-up-unbroken : GivesUpForLosses → GivesUpUnbroken
gives-up-unbroken law tries period delay link ts before t mid role fault kt none run cs broken =
    law tries period delay link ts before t mid role fault kt run cs broken
    (quiet (is_connected (served_at link (length ts) mid role).account.phase)
    (served-taken tries period delay link ts before kt run.run run.carried role none
    (none-taken tries period delay link ts before kt run.run run.carried role none) t mid broken.hearing))
  where
    b : Account
    b = (served_at link (length ts) mid role).account

    quiet : (c : Bool) → taken b ≡ 0 → cond c (waits b.own_breaks) false ≡ false
    quiet b e = grind (arith)
