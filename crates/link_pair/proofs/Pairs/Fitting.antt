-- What both links send fits the slots of the line, in whatever order the slots come.
use Rattle.link_pair.proofs.Names.{arith, ◌≡◌, ℕ, zero, suc, ◌*◌, ◌<◌, Bool, true, false, cond, nat_eq, List, [], ◌∷◌, ◌++◌, length, drop}
use Rattle.link_pair.proofs.Names.{refl, sym, ap, subst, Option, Some, None, Signal, FlagSlot, IsSendable, Wire, and_then, signal_in}
use Rattle.link_pair.proofs.Names.{signals, signals_before, LineRun, link_of, slot_symbols, longest_of, SlotsAreCodable, AllSendable}
use Rattle.link_pair.proofs.Names.{signal_or_flags, slot_in, after_second, after_first, idle_turn, lasting, Accounts, Spoken, Turn}
use Rattle.link_pair.proofs.Names.{IsInLimits, signal_of, Both, of, Role}
use Rattle.std.proofs.lemmas.List.{append-nil}
use Rattle.bit_stuffing.specs.Slots.{next_phase}
use Rattle.bit_stuffing.proofs.Fill.{next-low}
use Rattle.detection.specs.Slots.{slot_of}
use Rattle.lapm_frames.specs.declared.sent.Sent.{Sent}
use Rattle.lapm_frames.specs.declared.sent.Sent.TheVariants as slots
use Rattle.line_run.specs.Fitting.{Fits, AreFit}
use Rattle.line_run.proofs.Fits.{codable-fits, spelled-octets}

-- what fits a slot of this size behind whatever was sent before
abbrev pub FitsAlways : ℕ → Signal → Type 0
FitsAlways size signal = (phase : ℕ) → phase < 8 → Fits size phase signal

abbrev pub AllFit : ℕ → List Signal → Type 0
AllFit size [] = Unit {0}
AllFit size (signal ∷ signals) = FitsAlways size signal × AllFit size signals

-- fits in any order
pub all-fit : (size phase : ℕ) (signals : List Signal) → phase < 8 → AllFit size signals → AreFit size phase signals
all-fit size phase [] low h = tt
all-fit size phase (signal ∷ signals) low h = (
  h.0 phase low,
  all-fit size (next_phase size phase (slot_of size signal)) signals (next-low size phase (slot_of size signal)) h.1,
)

pub fit-and-one : (size : ℕ) (before : List Signal) (signal : Signal) → AllFit size before → FitsAlways size signal
    → AllFit size (before ++ signal ∷ [])
fit-and-one size [] signal h f = (f, tt)
fit-and-one size (first ∷ before) signal h f = (h.0, fit-and-one size before signal h.1 f)

fit-and-then : (size : ℕ) (before : List Signal) (o : Option Signal) → AllFit size before
    → ((signal : Signal) → o ≡ Some signal → FitsAlways size signal) → AllFit size (and_then before o)
fit-and-then size before o h f = grind (arith, fit-and-one)

-- all that was sent in these turns fits, on that channel
abbrev pub AllFitting : ℕ → ℕ → List Turn → Type 0
AllFitting size dlci [] = Unit {0}
AllFitting size dlci (t ∷ ts) =
    ((role : Role) (slot : Spoken) → (of role t).sent ≡ Some slot → FitsAlways size (signal_of slot.check role dlci slot.sent))
    × AllFitting size dlci ts

pub fitting-dropped : (size dlci n : ℕ) (ts : List Turn) → AllFitting size dlci ts → AllFitting size dlci (drop n ts)
fitting-dropped size dlci zero ts h = h
fitting-dropped size dlci (suc n) [] h = h
fitting-dropped size dlci (suc n) (t ∷ ts) h = fitting-dropped size dlci n ts h.1

pub fitting-run : (codable : SlotsAreCodable) (c : Wire) (files : Both (List ℕ)) (ts : List Turn) (ends : Accounts) → IsInLimits c.script
    → LineRun c (link_of c.script files) ts ends → AllSendable ts → (dlci : ℕ) → dlci < 64
    → AllFitting (4 * slot_symbols (longest_of c.script)) dlci ts
fitting-run codable c files [] ends h r s dlci low = tt
fitting-run codable c files (t ∷ ts) ends h r s dlci low =
    let before : LineRun c (link_of c.script files) ts r.run.0 = record { run = r.run.1; heard = r.heard.1 } in
    (fits, fitting-run codable c files ts r.run.0 h before s.1 dlci low)
  where
    fits : (role : Role) (slot : Spoken) → (of role t).sent ≡ Some slot
        → FitsAlways (4 * slot_symbols (longest_of c.script)) (signal_of slot.check role dlci slot.sent)
    fits role slot e phase few =
        let is : IsSendable slot.sent = s.0 role slot e in
        codable-fits slot.check role dlci (slot_symbols (longest_of c.script)) phase slot.sent
        (spelled-octets slot.check role dlci slot.sent low is)
        (codable c files ts r.run.0 t ends h (record { run = r.run.1; heard = r.heard.1 }) r.heard.0 r.run.2 role slot dlci phase few e is)

-- flags fit
flags-fit : (size : ℕ) → FitsAlways size (FlagSlot None)
flags-fit size phase low = tt

or-flags-fit : (size dlci : ℕ) (role : Role) (o : Option Spoken)
    → ((slot : Spoken) → o ≡ Some slot → FitsAlways size (signal_of slot.check role dlci slot.sent))
    → FitsAlways size (signal_or_flags dlci role o)
or-flags-fit size dlci role None f = flags-fit size
or-flags-fit size dlci role (Some slot) f = f slot refl

pub slot-fits : (size dlci : ℕ) (role : Role) (ts : List Turn) (round : ℕ) → AllFitting size dlci ts
    → FitsAlways size (slot_in dlci role ts round)
slot-fits size dlci role [] round h = flags-fit size
slot-fits size dlci role (t ∷ ts) round h = go (nat_eq round (length ts)) (slot-fits size dlci role ts round h.1)
  where
    go : (b : Bool) → FitsAlways size (slot_in dlci role ts round)
        → FitsAlways size (cond b (signal_or_flags dlci role (of role t).sent) (slot_in dlci role ts round))
    go true f = or-flags-fit size dlci role (of role t).sent (h.0 role)
    go false f = f

-- what stands beside a link fits
abbrev pub BesideFits : ℕ → (Role → ℕ → Option Signal) → Type 0
BesideFits size beside = (role : Role) (round : ℕ) (signal : Signal) → beside role round ≡ Some signal → FitsAlways size signal

abbrev value-of : Signal → Option Signal → Signal
value-of signal None = signal
value-of signal (Some s) = s

pub second-beside : (size : ℕ) (us : List Turn) → AllFitting size 32 us → BesideFits size (after_second us)
second-beside size us h role given signal e = grind (arith, slot-fits)

pub first-beside : (size : ℕ) (ts : List Turn) → AllFitting size 0 ts → BesideFits size (after_first ts)
first-beside size ts h role round signal e = subst (FitsAlways size) (ap (value-of signal) e) (slot-fits size 0 role ts round h)

pub none-beside : (size : ℕ) → BesideFits size (λ role round. None)
none-beside size role round signal e = absurd cc

-- so the slots of both links fit one another
fit-before : (c : Wire) → BesideFits (4 * c.symbols) c.beside → (role : Role) (ts : List Turn)
    → AllFit (4 * c.symbols) (signals c role ts) → AllFit (4 * c.symbols) (signals_before c role ts)
fit-before c b role ts h = grind (arith, fit-and-then)

pub signals-fit : (c : Wire) → BesideFits (4 * c.symbols) c.beside → (role : Role) (ts : List Turn)
    → AllFitting (4 * c.symbols) c.dlci ts → AllFit (4 * c.symbols) (signals c role ts)
signals-fit c b role [] h = tt
signals-fit c b role (t ∷ ts) h = go (of role t).sent (h.0 role) (fit-before c b role ts (signals-fit c b role ts h.1))
  where
    go : (o : Option Spoken)
        → ((slot : Spoken) → o ≡ Some slot → FitsAlways (4 * c.symbols) (signal_of slot.check role c.dlci slot.sent))
        → AllFit (4 * c.symbols) (signals_before c role ts) → AllFit (4 * c.symbols) (signals_before c role ts ++ signal_in c role o)
    go None f k = subst (AllFit (4 * c.symbols)) (sym (append-nil (signals_before c role ts))) k
    go (Some slot) f k =
        fit-and-one (4 * c.symbols) (signals_before c role ts) (signal_of slot.check role c.dlci slot.sent) k (f slot refl)

pub before-fit : (c : Wire) → BesideFits (4 * c.symbols) c.beside → (role : Role) (ts : List Turn)
    → AllFitting (4 * c.symbols) c.dlci ts → AllFit (4 * c.symbols) (signals_before c role ts)
before-fit c b role ts h = fit-before c b role ts (signals-fit c b role ts h)

-- an ended link sends flags
abbrev sent-of : Option Spoken → Sent
sent-of None = slots.Flags
sent-of (Some slot) = slot.sent

pub idle-sends : (role : Role) (slot : Spoken) → (of role idle_turn).sent ≡ Some slot → slots.Flags ≡ slot.sent
idle-sends role slot e = grind (arith)

pub fitting-lasting : (size dlci n : ℕ) (ts : List Turn) → AllFitting size dlci ts → AllFitting size dlci (lasting n ts)
fitting-lasting size dlci zero ts h = h
fitting-lasting size dlci (suc n) ts h = (fits, fitting-lasting size dlci n ts h)
  where
    fits : (role : Role) (slot : Spoken) → (of role idle_turn).sent ≡ Some slot
        → FitsAlways size (signal_of slot.check role dlci slot.sent)
    fits role slot e = subst (λ s. FitsAlways size (signal_of slot.check role dlci s)) (idle-sends role slot e) (flags-fit size)

pub sendable-lasting : (n : ℕ) (ts : List Turn) → AllSendable ts → AllSendable (lasting n ts)
sendable-lasting zero ts h = h
sendable-lasting (suc n) ts h = ((λ role slot e. subst IsSendable (idle-sends role slot e) tt), sendable-lasting n ts h)
