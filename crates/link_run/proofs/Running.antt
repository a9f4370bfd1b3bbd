-- Each run over a line is a play.
use Rattle.link_run.proofs.Names.{arith, ◌≡◌, ℕ, Bool, false, ◌-◌, List, [], ◌∷◌, ◌++◌, length, map, refl, sym, ap, subst, Option, Some, Ok}
use Rattle.link_run.proofs.Names.{at, slot_of, speaks-event, Role, Originator, Answerer, of, ReadsAllowed, KeepsTaken, fresh, Slot, Play}
use Rattle.link_run.proofs.Names.{Said, Carries, HasDelays, IsCarried, on_line, is_released, HearingsArePlays, IsPlayed, RunsArePlays}
use Rattle.link_run.proofs.Names.{told_by_play, told_by_turn, Accounts, GoingTurn, Hears, Link, RunOf, Turn, arrival, releases, said_at}
use Rattle.link_run.proofs.Names.{served_at}
use Rattle.link_account.specs.Play.{Speaks, start}
use Rattle.link_run.proofs.Keeping.{hears}
use Rattle.link_run.proofs.Speaking.{speaks}
use Rattle.link_run.proofs.Serving.{Handed, Waiting, heard-waits, served-handed, spoken-handed}
use Rattle.link_run.proofs.Playing.{Leads, stay, then-leads, one, arrives-next, told-behind, turns-behind, serves}
use Rattle.link_run.specs.Run as run
use Rattle.link_run.proofs.Speaking as speaking

abbrev pub begun : Link → Play
begun link = start (fresh link.orig.setup) (fresh link.answ.setup)

-- where a play is, with what was sent and hasn't arrived
pub record Reaches (link : Link) (ends : Accounts) (line : Role → List (Option run.Spoken)) : Type 0 where
  pub lo : List Slot
  pub la : List Slot
  pub leads : Leads (begun link) (at Originator ends.orig lo ends.answ la)
  pub orig_line : told_by_play lo ≡ map told_by_turn (line Originator)
  pub answ_line : told_by_play la ≡ map told_by_turn (line Answerer)

-- the lines after some turns, and once both ends have heard in the next one
abbrev pub lines : (Role → ℕ) → List Turn → Role → List (Option run.Spoken)
lines delay ts role = on_line (delay role) role ts

abbrev pub left : (Role → ℕ) → List Turn → Role → List (Option run.Spoken)
left delay ts role = on_line (delay role - 1) role ts

-- whether that role's end is told to release
abbrev pub told : Link → ℕ → Accounts → Role → Bool
told link turn mid Originator = releases link turn mid
told link turn mid Answerer = false

-- what an end is that has spoken
pub speaks-at : (link : Link) (turn : ℕ) (mid : Accounts) (role : Role) (said : Said) → said_at link turn mid role ≡ Ok said
    → speaking.Speaks (told link turn mid role) (served_at link turn mid role).account said.account
speaks-at link turn mid Originator said e = speaks turn (releases link turn mid) (served_at link turn mid Originator).account said e
speaks-at link turn mid Answerer said e = speaks turn false (served_at link turn mid Answerer).account said e

-- what both ends have handed over
pub hearing-waits : (reads : ReadsAllowed) (keeps : KeepsTaken) (turn : ℕ) (before : Accounts) (t : Turn) (mid : Accounts)
    → ((r : Role) → Handed (of r before)) → Hears turn before t mid → (r : Role) → Waiting (of r mid)
hearing-waits reads keeps turn before t mid h k r =
    heard-waits (of r before) (of r mid) (h r) (hears reads keeps turn (arrival (of r t).heard) (of r before) (of r mid) (k r).hears)

pub going-handed : (reads : ReadsAllowed) (keeps : KeepsTaken) (link : Link) (ts : List Turn) (before : Accounts) (t : Turn)
    (after : Accounts)
    → ((r : Role) → Handed (of r before)) → GoingTurn link ts before t after → (r : Role) → Handed (of r after)
going-handed reads keeps link ts before t after h g r =
    let w = hearing-waits reads keeps (length ts) before t g.mid h g.hearing r in
    let k = g.speaking r in
    subst Handed (sym k.after_is)
    (spoken-handed (told link (length ts) g.mid r) (served_at link (length ts) g.mid r).account k.said.account
    (served-handed (of r link).user (length ts) (is_released g.mid.orig.phase) (of r g.mid) w)
    (speaks-at link (length ts) g.mid r k.said k.says))

start-handed : (link : Link) (r : Role) → Handed (of r (run.start link))
start-handed link r = grind (arith)

pub run-handed : (reads : ReadsAllowed) (keeps : KeepsTaken) (link : Link) (ts : List Turn) (ends : Accounts) → RunOf link ts ends →
    (r : Role)
    → Handed (of r ends)
run-handed reads keeps link [] ends h r = subst (λ (e : Accounts). Handed (of r e)) (sym h) (start-handed link r)
run-handed reads keeps link (t ∷ ts) ends h r = going-handed reads keeps link ts h.0 t ends (run-handed reads keeps link ts h.0 h.1) h.2 r

-- hearing
pub hearing-reaches : (link : Link) (delay : Role → ℕ) (ts : List Turn) (before : Accounts) (turn : ℕ) (t : Turn) (mid : Accounts)
    → HasDelays delay
    → Reaches link before (lines delay ts) → Carries delay ts t → Hears turn before t mid → Reaches link mid (left delay ts)
hearing-reaches link delay ts before turn t mid some p c k =
    let first = arrives-next Answerer turn (delay Answerer) ts before.answ before.orig mid.orig p.la p.lo t.orig.heard
    (some Answerer) p.answ_line (c Originator) (k Originator).hears in
    let second = arrives-next Originator turn (delay Originator) ts mid.orig before.answ mid.answ p.lo first.line t.answ.heard
    (some Originator) p.orig_line (c Answerer) (k Answerer).hears in
    record {
      lo = second.line;
      la = first.line;
      leads = then-leads (begun link) (at Originator mid.orig p.lo before.answ first.line)
          (at Originator mid.orig second.line mid.answ first.line)
          (then-leads (begun link) (at Originator before.orig p.lo before.answ p.la)
          (at Originator mid.orig p.lo before.answ first.line) p.leads first.leads)
          second.leads;
      orig_line = second.left_is;
      answ_line = first.left_is;
    }

-- what is said goes behind what is on the line
said-behind : (delay : Role → ℕ) (role : Role) (ts : List Turn) (t : Turn) (line : List Slot) (slot : Slot) (said : Said) → HasDelays delay
    → told_by_play line ≡ map told_by_turn (left delay ts role)
    → slot.sent ≡ said.sent → slot.number ≡ said.number → (of role t).sent ≡ Some (run.spoken said)
    → told_by_play (line ++ slot ∷ []) ≡ map told_by_turn (lines delay (t ∷ ts) role)
said-behind delay role ts t line slot said some h s n e = grind (arith, told-behind, turns-behind)

-- a turn
going-reaches : (link : Link) (delay : Role → ℕ) (ts : List Turn) (before : Accounts) (t : Turn) (after : Accounts) → HasDelays delay
    → Reaches link before (lines delay ts) → Carries delay ts t → (g : GoingTurn link ts before t after)
    → ((r : Role) → Waiting (of r g.mid)) → Reaches link after (lines delay (t ∷ ts))
going-reaches link delay ts before t after some p c g w =
    let turn = length ts in
    let m = hearing-reaches link delay ts before turn t g.mid some p c g.hearing in
    let r = is_released g.mid.orig.phase in
    let ko = g.speaking Originator in
    let ka = g.speaking Answerer in
    let o = (served_at link turn g.mid Originator).account in
    let a = (served_at link turn g.mid Answerer).account in
    let lo = m.lo ++ slot_of o ko.said ∷ [] in
    let la = m.la ++ slot_of a ka.said ∷ [] in
    let p1 = at Originator g.mid.orig m.lo g.mid.answ m.la in
    let p2 = at Originator o m.lo g.mid.answ m.la in
    let p3 = at Originator o m.lo a m.la in
    let p4 = at Originator ko.said.account lo a m.la in
    let p5 = at Originator ko.said.account lo ka.said.account la in
    let led : Leads (begun link) p5 =
    then-leads (begun link) p1 p5 m.leads
    (then-leads p1 p2 p5 (serves Originator link.orig.user turn r g.mid.orig g.mid.answ m.lo m.la (w Originator))
    (then-leads p2 p3 p5 (serves Answerer link.answ.user turn r g.mid.answ o m.la m.lo (w Answerer))
    (then-leads p3 p4 p5 (one (Speaks Originator turn (releases link turn g.mid)) p3 p4
    (speaks-event Originator turn (releases link turn g.mid) o a m.lo m.la ko.said ko.says))
    (one (Speaks Answerer turn false) p4 p5 (speaks-event Answerer turn false a ko.said.account m.la lo ka.said ka.says))))) in
    record {
      lo = lo;
      la = la;
      leads = subst (λ e. Leads (begun link) (at Originator e lo after.answ la)) (sym ko.after_is)
          (subst (λ e. Leads (begun link) (at Originator ko.said.account lo e la)) (sym ka.after_is) led);
      orig_line = said-behind delay Originator ts t m.lo (slot_of o ko.said) ko.said some m.orig_line refl refl ko.sent_is;
      answ_line = said-behind delay Answerer ts t m.la (slot_of a ka.said) ka.said some m.answ_line refl refl ka.sent_is;
    }

nothing-sent : (d : ℕ) (role : Role) → on_line d role [] ≡ []
nothing-sent d role = grind (arith)

pub run-reaches : (reads : ReadsAllowed) (keeps : KeepsTaken) (link : Link) (delay : Role → ℕ) (ts : List Turn) (ends : Accounts)
    → HasDelays delay → IsCarried delay ts → RunOf link ts ends
    → Reaches link ends (lines delay ts)
run-reaches reads keeps link delay [] ends some c h = record {
  lo = [];
  la = [];
  leads = subst (λ (e : Accounts). Leads (begun link) (at Originator e.orig [] e.answ [])) (sym h) (stay (begun link));
  orig_line = ap (map told_by_turn) (sym (nothing-sent (delay Originator) Originator));
  answ_line = ap (map told_by_turn) (sym (nothing-sent (delay Answerer) Answerer));
}
run-reaches reads keeps link delay (t ∷ ts) ends some c h =
    going-reaches link delay ts h.0 t ends some (run-reaches reads keeps link delay ts h.0 some c.1 h.1) c.0 h.2
    (hearing-waits reads keeps (length ts) h.0 t h.2.mid (run-handed reads keeps link ts h.0 h.1) h.2.hearing)

played-at : (link : Link) (ends : Accounts) (line : Role → List (Option run.Spoken)) → Reaches link ends line → IsPlayed link ends line
played-at link ends line p = grind (arith)

pub runs_are_plays : ReadsAllowed → KeepsTaken → RunsArePlays
runs_are_plays reads keeps link delay ts ends some c h = grind (arith, played-at, run-reaches)

pub hearings_are_plays : ReadsAllowed → KeepsTaken → HearingsArePlays
hearings_are_plays reads keeps link delay ts ends turn t mid some c h n k =
    played-at link mid (left delay ts)
    (hearing-reaches link delay ts ends turn t mid some (run-reaches reads keeps link delay ts ends some c h) n k)
