-- Slots that were read go on the line, and the reading goes on.
use Rattle.line_tap.proofs.Cited.{◌≡◌, ℕ, suc, ◌+◌, ◌-◌, ◌*◌, Option, List, [], ◌∷◌, ◌++◌, length, map, arith, refl, sym, ◌∙◌, ap, subst}
use Rattle.line_tap.proofs.Cited.{Signal, Check, Heard, Sent, HeardAt, sent_by, both_sent_by, Slot, TapAfter, ReadsToo, HearsThese, IsToGo}
use Rattle.line_tap.proofs.Cited.{turn_in, going_in, Tapping, line_of, terms_of, octets_of, Hears, Sends, GoesOn, told, SlotReader, Hearing}
use Rattle.line_tap.proofs.Cited.{Tap, AreWaiting, check_by, judged_by, given_to, Spoken, Turn, ScriptValue, IsCodedAs, signal_of, Both, of}
use Rattle.line_tap.proofs.Cited.{other, Role, Originator, Answerer}
use Rattle.sample_line.specs.Line.{Kept}
use Rattle.line_run.specs.Stream.{Carried, carried_signal}
use Rattle.line_run.proofs.Streaming.{lone-signals}
use Rattle.line_world.specs.declared.direction.DelayedLine.{DelayedLine}
use Rattle.line_world.specs.Way.{CodesNext, HasRoom, Stands, WaitsFor}
use Rattle.line_world.proofs.Waiting.{codes-next, sends-behind}
use Rattle.line_tap.specs.declared.end.TappedEnd.{TappedEnd}
use Rattle.line_tap.proofs.SlotNext.{octets-next}

-- ---- the turn that was heard

pub hears-so : (x : Tapping) (ts : List Turn) (heard : Both Heard) (sent : Both (Option Spoken)) → HearsThese x ts heard
    → Hears x ts (turn_in x ts heard sent)
hears-so x ts heard sent h = record { heard = at; checks = checks; given = given }
  where
    t : Turn
    t = turn_in x ts heard sent

    at : (role : Role) → HeardAt (line_of x) (other role) ts (of role t)
    at Originator = record { heard_of = h.heard_of Originator; well = h.well Originator }
    at Answerer = record { heard_of = h.heard_of Answerer; well = h.well Answerer }

    checks : (role : Role) → (of role t).check ≡ judged_by (terms_of x) role ts
    checks role = grind (arith)

    given : (role : Role) → (of role t).given ≡ given_to role ts (of role t).heard
    given role = grind (arith)

-- ---- a slot is put on its way

-- what a call that puts a slot leaves of a direction
pub record Puts (d new : DelayedLine) (sent : Sent) (labels : List ℕ) : Type 0 where
  pub stands : (script : ScriptValue) (passed : List Signal) (way : List Carried) (x : Carried) → Stands d script passed way
      → CodesNext d passed way x labels → x.spoken.sent ≡ sent → Stands new script passed (way ++ x ∷ [])
  pub sender : new.sender ≡ d.sender
  pub delay : new.delay ≡ d.delay
  pub lag : new.lag ≡ d.lag
  pub line : new.line ≡ d.line

pub waits-again : (d new : DelayedLine) (r : SlotReader) (x : Tapping) (role : Role) (ts : List Turn) (body : List ℕ) (slot : Slot)
    (check : Check)
    (sent : Sent) → HasRoom d (line_of x) role 1 (sent_by 0 role ts) → ReadsToo r (line_of x) check role ts body slot → slot.sent ≡ sent
    → Puts d new sent slot.labels
    → WaitsFor new (line_of x) role 1 (sent_by 0 role ts ++ (record { dlci = 0; spoken = told check slot.sent }) ∷ [])
waits-again d new r x role ts body slot check sent h k same p =
    let item : Carried = record { dlci = 0; spoken = told check slot.sent } in
    let coded : IsCodedAs role (4 * (line_of x).symbols) (map (carried_signal role) (sent_by 0 role ts)) (carried_signal role item)
    slot.labels =
    subst (λ l. IsCodedAs role (4 * (line_of x).symbols) l (signal_of check role 0 slot.sent) slot.labels)
    (sym (lone-signals (line_of x) role ts (λ r n. refl))) k.coded in
    sends-behind d new (line_of x) role 1 (sent_by 0 role ts) item h
    (record { sender = p.sender; delay = p.delay; lag = p.lag; symbols = ap (λ (l : Kept). l.symbols) p.line })
    (p.stands x.script _ _ item h.stands (codes-next d (line_of x) role 1 (sent_by 0 role ts) (d.lag - 1) item slot.labels h coded) same)

-- ---- the reading goes on

plus-one : (n : ℕ) → n + 1 ≡ suc n
plus-one n = omega arith

pub goes-on : (x : Tapping) (ts : List Turn) (tap : Tap) (h : Hearing) (slots : Both Slot) → IsToGo tap x ts h slots
    → GoesOn x ts (going_in x ts h.heard slots)
goes-on x ts tap h slots k = record { hears = hears-so x ts h.heard _ k.hears.hears; sends = sends }
  where
    sends : (role : Role) → Sends x ts (going_in x ts h.heard slots) role
    sends Originator = record { sent = slots.orig.sent; holds = k.read.orig.holds; sent_is = refl }
    sends Answerer = record { sent = slots.answ.sent; holds = k.read.answ.holds; sent_is = refl }

-- what going on leaves of a tap
pub record Goes (tap new : Tap) (slots : Both Slot) (sent : Both Sent) : Type 0 where
  pub script : new.script ≡ tap.script
  pub orig : new.orig ≡ tap.orig
  pub answ : new.answ ≡ tap.answ
  pub at : new.at ≡ tap.at + length tap.orig.piece.items
  pub turn : new.turn ≡ tap.turn + 1
  pub from_orig : Puts tap.lines.from_orig new.lines.from_orig sent.orig slots.orig.labels
  pub from_answ : Puts tap.lines.from_answ new.lines.from_answ sent.answ slots.answ.labels
  pub orig_sent : slots.orig.sent ≡ sent.orig
  pub answ_sent : slots.answ.sent ≡ sent.answ

pub after-going : (x : Tapping) (ts : List Turn) (tap new : Tap) (h : Hearing) (slots : Both Slot) (sent : Both Sent)
    → IsToGo tap x ts h slots → Goes tap new slots sent → TapAfter new x (going_in x ts h.heard slots ∷ ts)
after-going x ts tap new h slots sent k g = record {
  behind = record {
    script_is = g.script ∙ k.script_is;
    tells = (goes-on x ts tap h slots k, k.tells);
    turn = g.turn ∙ ap (λ n. n + 1) k.turn ∙ plus-one (length ts);
    at = omega (arith, g.at, k.at, k.orig_room, octets-next (line_of x) (length ts), ap (octets_of (line_of x)) (plus-one (length ts)));
    orig = rw g.orig (k.read.orig.reads (going_in x ts h.heard slots) refl);
    answ = rw g.answ (k.read.answ.reads (going_in x ts h.heard slots) refl);
    orig_room = ap (λ (e : TappedEnd). length e.piece.items) g.orig ∙ k.orig_room;
    answ_room = ap (λ (e : TappedEnd). length e.piece.items) g.answ ∙ k.answ_room;
  };
  orig = rw g.orig k.orig;
  answ = rw g.answ k.answ;
  lines = wait;
}
  where
    check : Check
    check = check_by (terms_of x)

    wait : AreWaiting new.lines (line_of x) 1 (both_sent_by 0 (going_in x ts h.heard slots ∷ ts))
    wait Originator =
        waits-again tap.lines.from_orig new.lines.from_orig tap.orig.reader x Originator ts x.bodies.orig slots.orig check sent.orig
        (k.read.lines Originator) k.read.orig g.orig_sent g.from_orig
    wait Answerer =
        waits-again tap.lines.from_answ new.lines.from_answ tap.answ.reader x Answerer ts x.bodies.answ slots.answ check sent.answ
        (k.read.lines Answerer) k.read.answ g.answ_sent g.from_answ
