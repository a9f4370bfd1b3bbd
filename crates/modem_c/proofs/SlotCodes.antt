-- What a slot answers, by what its kind is.
use Rattle.std.proofs.Common.{◌≡◌, ◌*◌, ◌-◌, ◌++◌, ℕ, List, Option, Some, None, refl, ap, sym, subst, ◌∙◌}
use Rattle.std.specs.Prelude.{Err, unwrap_or}
use Rattle.detection.specs.Slots.{CanCarry, Signal, signal_bits}
use Rattle.gateway.specs.declared.framer.FrameWriter.{FrameWriter}
use Rattle.gateway.specs.declared.framer.SlotStop.{SlotStop}
use Rattle.gateway.specs.declared.framer.SlotStop.TheVariants as stops
use Rattle.gateway.specs.Given.{given}
use Rattle.gateway.specs.SlotsWritten.{AddsSlot, SlotWritten}
use Rattle.modem_c.specs.declared.codes.TheConstants.{DONE, FULL, BAD_ARGUMENT}
use Rattle.modem_c.specs.Framers.{SlottedBy}
use Rattle.modem_c.specs.Framers.Slotted.{BadFrame, NoRoom, Done}

pub none-told : (symbols : ℕ) (signals : List Signal) (by : Option Signal) (bits : List ℕ) (written : ℕ)
    → ((signal : Signal) (size : ℕ) → by ≡ Some signal → CanCarry size signal → ⊥) → written ≡ 0
    → SlottedBy symbols signals by bits bits written BAD_ARGUMENT
none-told symbols signals None bits written never none = (refl, refl, none)
none-told symbols signals (Some signal) bits written never none = BadFrame (λ carries. never signal (4 * (symbols - 128)) refl carries) refl
    refl none

pub one-signal : (by : Option Signal) (one other : Signal) → by ≡ Some one → by ≡ Some other → other ≡ one
one-signal by one other e f = ap (λ (o : Option Signal). unwrap_or o other) (sym f ∙ e)

pub done-slot : (symbols : ℕ) (signals : List Signal) (by : Option Signal) (signal : Signal) (before bits : List ℕ) (after : FrameWriter)
    (count : ℕ)
    → by ≡ Some signal → AddsSlot symbols signals signal after bits count → SlottedBy symbols signals by before bits count DONE
done-slot symbols signals by signal before bits after count is adds =
    subst (λ (b : Option Signal). SlottedBy symbols signals b before bits count DONE) (sym is)
    (Done adds.carries adds.room refl adds.count_is
    (adds.bits_are ∙ ap (λ n. signal_bits (4 * symbols) signals ++ given n bits) (sym adds.count_is)))

pub bad-slot : (symbols : ℕ) (signals : List Signal) (by : Option Signal) (signal : Signal) (writer after : FrameWriter)
    (before bits : List ℕ) (written : ℕ) (stop : SlotStop)
    → by ≡ Some signal → stop ≡ stops.BadFrame → SlotWritten symbols signals signal writer before after bits (Err stop) → written ≡ 0
    → SlottedBy symbols signals by before bits written BAD_ARGUMENT
bad-slot symbols signals by signal writer after before bits written stop is bad told none =
    let h = subst (λ (s : SlotStop). SlotWritten symbols signals signal writer before after bits (Err s)) bad told in
    subst (λ (b : Option Signal). SlottedBy symbols signals b before bits written BAD_ARGUMENT) (sym is) (BadFrame h.0 refl h.2 none)

pub full-slot : (symbols : ℕ) (signals : List Signal) (by : Option Signal) (signal : Signal) (writer after : FrameWriter)
    (before bits : List ℕ) (written : ℕ) (stop : SlotStop)
    → by ≡ Some signal → stop ≡ stops.Full → SlotWritten symbols signals signal writer before after bits (Err stop) → written ≡ 0
    → SlottedBy symbols signals by before bits written FULL
full-slot symbols signals by signal writer after before bits written stop is full told none =
    let h = subst (λ (s : SlotStop). SlotWritten symbols signals signal writer before after bits (Err s)) full told in
    subst (λ (b : Option Signal). SlottedBy symbols signals b before bits written FULL) (sym is) (NoRoom h.0 h.1 refl h.3 none)
