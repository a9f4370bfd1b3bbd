-- No end breaks as it hears, and as it speaks it breaks for want of answers alone.
use Rattle.link_run.proofs.Names.{arith, ◌≡◌, ℕ, ◌-◌, true, List, [], ◌∷◌, ◌++◌, length, map, refl, sym, ap, subst, Option, Some, None}
use Rattle.link_run.proofs.Names.{Result, Ok, Err, slice_get, is_ok, Sixteen, at, side, sides, breaks-not, false≢true, Role, Originator}
use Rattle.link_run.proofs.Names.{Answerer, ReadsAllowed, KeepsTaken, LinkFault, Account, hear, Slot, Play, arrives, MayPlay, Heard}
use Rattle.link_run.proofs.Names.{Nothing, Passed, Lost, Chance, of, BreaksForWantAlone, WantsAnswers, Passes, happens, Crosses, on_line}
use Rattle.link_run.proofs.Names.{sent_in, BrokenForWant, HearingsAreWell, told_by_play, told_by_turn, Link, Turn, arrival}
use Rattle.link_run.proofs.Speaking.{breaks-for-want}
use Rattle.link_run.proofs.Playing.{Leads, then-leads, one, made, next-first, head-of, none-is-some, told-slot}
use Rattle.link_run.proofs.Running.{begun, Reaches, lines, run-reaches}
use Rattle.link_run.specs.Run as run

-- the other end of this role breaks
abbrev broken : Role → Account → List Slot → Account → List Slot → LinkFault → Play
broken role x lx y ly fault = sides role (side x lx) (record (side y ly) { fault = Some fault })

passes-breaks : (role : Role) (turn : ℕ) (x y : Account) (slot : Slot) (rest ly : List Slot) (fault : LinkFault)
    → hear turn (arrives slot.sent) y ≡ Err fault
    → happens (Passes role turn) (at role x (slot ∷ rest) y ly) ≡ broken role x rest y ly fault
passes-breaks w turn x y slot rest ly fault e = grind (arith)

wants-of : (role : Role) (x y : Account) (lx ly : List Slot) (fault : LinkFault)
    → WantsAnswers (broken role x lx y ly fault).originator.fault × WantsAnswers (broken role x lx y ly fault).answerer.fault
    → WantsAnswers (Some fault)
wants-of role x y lx ly fault h = grind (arith)

pub well-heard : (reads : ReadsAllowed) (keeps : KeepsTaken) (law : BreaksForWantAlone) (link : Link)
    → MayPlay link.orig.setup link.answ.setup
    → (role : Role) (turn : ℕ) (x y : Account) (lx ly : List Slot) (t : Option Turn) (left : List (Option run.Spoken)) (h : Heard)
    → Leads (begun link) (at role x lx y ly) → told_by_play lx ≡ map told_by_turn (made role t ++ left) → Crosses (sent_in role t) h
    → (r : Result Account LinkFault) → hear turn (arrival h) y ≡ r → is_ok r ≡ true
well-heard reads keeps law link m role turn x y lx ly t left h p e c (Ok b) k = refl
well-heard reads keeps law link m role turn x y lx ly t left Nothing p e c (Err fault) k = absurd (false≢true (sym (ap is_ok k)))
well-heard reads keeps law link m role turn x y lx ly t left (Lost s) p e c (Err fault) k = absurd (false≢true (sym (ap is_ok k)))
well-heard reads keeps law link m role turn x y lx ly t left Chance p e c (Err fault) k = absurd (false≢true (sym (ap is_ok k)))
well-heard reads keeps law link m role turn x y lx ly None left (Passed s) p e c (Err fault) k = absurd c
well-heard reads keeps law link m role turn x y [] ly (Some t) left (Passed s) p e c (Err fault) k = grind (arith, none-is-some)
well-heard reads keeps law link m role turn x y (slot ∷ rest) ly (Some t) left (Passed s) p e c (Err fault) k =
    let parts = head-of (Some (slot.sent, slot.number)) (told_by_turn (of role t).sent) (told_by_play rest) (map told_by_turn left) e in
    let d = told-slot slot (of role t).sent parts.0 (Passed s) c Sixteen in
    let q = then-leads (begun link) (at role x (slot ∷ rest) y ly) (broken role x rest y ly fault) p
    (one (Passes role turn) _ _
    (passes-breaks role turn x y slot rest ly fault (subst (λ z. hear turn (arrives z) y ≡ Err fault) d.0 k))) in
    let wants = subst (λ (z : Play). WantsAnswers z.originator.fault × WantsAnswers z.answerer.fault) q.led
    (law link.orig.setup link.answ.setup q.events m) in
    absurd (breaks-not turn (arrival (Passed s)) y fault k (wants-of role x y rest ly fault wants))

pub hearings_are_well : ReadsAllowed → KeepsTaken → BreaksForWantAlone → HearingsAreWell
hearings_are_well reads keeps law link delay ts ends t v n role = at-role role
  where
    p : Reaches link ends (lines delay ts)
    p = run-reaches reads keeps link delay ts ends v.delays v.carried v.run

    at-role : (role : Role) → is_ok (hear (length ts) (arrival (of role t).heard) (of role ends)) ≡ true
    at-role Originator =
        well-heard reads keeps law link v.may_play Answerer (length ts) ends.answ ends.orig p.la p.lo (slice_get ts (delay Answerer - 1))
        (on_line (delay Answerer - 1) Answerer ts) t.orig.heard p.leads
        (next-first Answerer (delay Answerer) ts p.la (v.delays Answerer) p.answ_line) (n Originator)
        (hear (length ts) (arrival t.orig.heard) ends.orig) refl
    at-role Answerer =
        well-heard reads keeps law link v.may_play Originator (length ts) ends.orig ends.answ p.lo p.la
        (slice_get ts (delay Originator - 1)) (on_line (delay Originator - 1) Originator ts) t.answ.heard p.leads
        (next-first Originator (delay Originator) ts p.lo (v.delays Originator) p.orig_line) (n Answerer)
        (hear (length ts) (arrival t.answ.heard) ends.answ) refl

pub broken_for_want : BrokenForWant
broken_for_want link ts before t mid x fault h = grind (arith, breaks-for-want)
