-- The line that a world lends its link's turns, on which that is alone.
use Rattle.line_world.proofs.Cited.{◌≡◌, ℕ, ◌-◌, ◌*◌, ◌<◌, ◌≤◌, ◌^◌, List, [], ◌∷◌, ◌++◌, length, map, arith, refl, sym, ◌∙◌, ap, subst}
use Rattle.line_world.proofs.Cited.{Option, Some, None, false≢true, is_some, line_bits, BitSlot, Signal, LineRun, wire_at, wire_of, link_of}
use Rattle.line_world.proofs.Cited.{ScriptsHaveDelays, NoLineRunIsLong, Carried, IsDue, carried_signal, both_sent_by, AreDue, LinesWait}
use Rattle.line_world.proofs.Cited.{HaveArrived, AreKept, AreReady, ModemsAfter, IsReady, WorldAfter, HasSent, Lines, World, Accounts}
use Rattle.line_world.proofs.Cited.{Spoken, Turn, start, ScriptValue, IsInLimits, delay_of, Kept, bits_behind, signal_of, Both, of, Role}
use Rattle.line_world.proofs.Cited.{Originator, Answerer, file_limit}
use Rattle.std.specs.Prelude.{true}
use Rattle.line_run.specs.LineLaws.{RunsSendSlots, LoneSlotsAreDue, LoneSlotsAreCounted}
use Rattle.line_run.specs.Stream.{carry, sent_by}
use Rattle.line_run.proofs.Streaming.{lone-signals}
use Rattle.line_world.specs.Lines.{PassedFew, from}
use Rattle.line_world.proofs.Waiting.{passed-few}
use Rattle.line_world.specs.World.{HasPassed, HasPassedToo}

pub few-turns : NoLineRunIsLong → (w : World) → IsReady w → w.modems.turn < 2 ^ 39
few-turns law w h = subst (λ n. n < 2 ^ 39) (sym h.after.modems.turn)
    (law (wire_of w.script) h.files h.turns h.ends h.limits within h.after.modems.run)
  where
    within : (role : Role) → length (of role h.files) ≤ file_limit
    within role = grind (arith)

pub record LoneLaws : Type 0 where
  pub due : LoneSlotsAreDue
  pub sent : RunsSendSlots
  pub counted : LoneSlotsAreCounted
  pub delays : ScriptsHaveDelays

due-in : LoneLaws → (script : ScriptValue) (files : Both (List ℕ)) (ts : List Turn) (ends : Accounts) → IsInLimits script
    → LineRun (wire_of script) (link_of script files) ts ends → (role : Role)
    → IsDue (wire_of script) role ts (sent_by 0 role ts) (1 * delay_of script role)
due-in laws script files ts ends limits run role =
    let one : delay_of script role ≡ 1 * delay_of script role = omega arith in
    subst (IsDue (wire_of script) role ts (sent_by 0 role ts)) one
    (laws.due (wire_of script) role ts (λ r n. refl) (laws.delays script limits role)
    (laws.sent (link_of script files) ts ends run.run role))

pub are-due : LoneLaws → (script : ScriptValue) (files : Both (List ℕ)) (ts : List Turn) (ends : Accounts) → IsInLimits script
    → LineRun (wire_of script) (link_of script files) ts ends → AreDue (wire_of script) 1 ts (both_sent_by 0 ts)
are-due laws script files ts ends limits run given = grind (arith, due-in)

pub are-few : LoneLaws → NoLineRunIsLong → (w : World) → IsReady w → PassedFew w.lines.directions
are-few laws long w h = each
  where
    short : length h.turns < 2 ^ 39
    short = subst (λ n. n < 2 ^ 39) h.after.modems.turn (few-turns long w h)

    at : (role : Role) (count : ℕ) → count ≤ length (sent_by 0 role h.turns) → count < 2 ^ 40
    at role count l = grind (arith, short)

    each : (role : Role) → (from role w.lines.directions).line.passed < 2 ^ 40
    each Originator =
        at Originator _ (passed-few w.lines.directions.from_orig (wire_of w.script) Originator 1 (sent_by 0 Originator h.turns)
        (h.after.lines.directions Originator))
    each Answerer =
        at Answerer _ (passed-few w.lines.directions.from_answ (wire_of w.script) Answerer 1 (sent_by 0 Answerer h.turns)
        (h.after.lines.directions Answerer))

abbrev pub alone : Role → ℕ → Option Signal
alone role turn = None

-- so a turn may be made over it
pub lends : LoneLaws → NoLineRunIsLong → (w : World) → IsReady w → AreReady w.modems w.script w.lines
lends laws long w h = record {
  limits = h.limits;
  kept = h.kept;
  beside = alone;
  links = 1;
  streams = both_sent_by 0 h.turns;
  files = h.files;
  within = h.within;
  turns = h.turns;
  ends = h.ends;
  after = subst (λ n. ModemsAfter w.modems (wire_at w.script n alone) h.files h.turns h.ends) (sym h.channel) h.after.modems;
  waits = subst (λ n. LinesWait w.lines (wire_at w.script n alone) 1 (both_sent_by 0 h.turns)) (sym h.channel) h.after.lines;
  due = subst (λ n. AreDue (wire_at w.script n alone) 1 h.turns (both_sent_by 0 h.turns)) (sym h.channel)
      (are-due laws w.script h.files h.turns h.ends h.limits h.after.modems.run);
  few = are-few laws long w h;
}

pub passed-so : (l : Lines) (script : ScriptValue) (role : Role) (ts : List Turn) (line : Kept)
    → LinesWait l (wire_of script) 1 (both_sent_by 0 ts) → line ≡ (from role l.directions).line → HasPassed line script role ts
passed-so l script role ts line h is = grind (arith)

pub passed-too : (l : Lines) (script : ScriptValue) (role : Role) (ts : List Turn) (line : Kept)
    → HaveArrived l (wire_of script) 1 (both_sent_by 0 ts) → line ≡ (from role l.directions).line → HasPassedToo line script role ts
passed-too l script role ts line h is = grind (arith)

-- ---- the slots of the last turn

pub sent-so : (script : ScriptValue) (role : Role) (ts : List Turn) (t : Turn) (bits : BitSlot) → is_some (of role t).sent ≡ true
    → ((front : List Carried) (x : Carried) → of role (both_sent_by 0 (t ∷ ts)) ≡ front ++ x ∷ []
    → line_bits bits ≡ bits_behind (4 * (wire_of script).symbols) (map (carried_signal role) front) (carried_signal role x))
    → HasSent (Some bits) script role ts t
sent-so script role ts t bits sent newest = go (of role t).sent refl
  where
    stream-of : (role : Role) → of role (both_sent_by 0 (t ∷ ts)) ≡ sent_by 0 role ts ++ carry 0 (of role t).sent
    stream-of role = grind (arith)

    go : (s : Option Spoken) → (of role t).sent ≡ s → HasSent (Some bits) script role ts t
    go None e = absurd (false≢true (sym (ap is_some e) ∙ sent))
    go (Some slot) e = (
      slot,
      e,
      newest (sent_by 0 role ts) (record { dlci = 0; spoken = slot }) (stream-of role ∙ ap (λ z. sent_by 0 role ts ++ carry 0 z) e)
          ∙ ap (λ l. bits_behind (4 * (wire_of script).symbols) l (signal_of slot.check role 0 slot.sent))
          (lone-signals (wire_of script) role ts (λ r n. refl)),
    )

-- ---- a world before its first turn

abbrev no-files : Both (List ℕ)
no-files = record { orig = []; answ = [] }

pub ready-first : (w : World) → IsInLimits w.script → w.modems.dlci ≡ 0 → AreKept w.modems
    → ((files : Both (List ℕ)) → WorldAfter w files [] (start (link_of w.script files))) → IsReady w
ready-first w limits channel kept after = record {
  limits = limits;
  channel = channel;
  kept = kept;
  files = no-files;
  within = record { orig = omega arith; answ = omega arith };
  turns = [];
  ends = start (link_of w.script no-files);
  after = after no-files;
}
