-- What is heard of a slot depends on that slot, its check and the script's lose lines alone, where noise is faint: whatever goes beside it.
use Rattle.link_pair.proofs.Names.{◌≡◌, ◌≢◌, ◌⊎◌, inl, inr, ℕ, ◌+◌, ◌-◌, ◌*◌, ◌<◌, ◌≤◌, Bool, List, [], ◌∷◌, ◌++◌, length, drop, arith}
use Rattle.link_pair.proofs.Names.{refl, sym, subst, Option, Some, None, append-nil, Signal, signal_bits, Check, IsSendable, Heard, Chance}
use Rattle.link_pair.proofs.Names.{IsFaint, SentAgo, sent-ago, Wire, signals_before, ArrivesAs, IsHeardOf, slot_symbols, longest_of}
use Rattle.link_pair.proofs.Names.{wire_at, AllSendable, ChecksAgree, sent_ago, Spoken, Turn, ScriptValue, delay_of, Records, signal_of, of}
use Rattle.link_pair.proofs.Names.{Role}
use Rattle.bit_stuffing.specs.declared.slot_writer.TheConstants.{HEAD, TAIL}
use Rattle.symbol_map.specs.declared.sample.Sample.{Sample}
use Rattle.exact_decoder.specs.Surviving.Survivors.{LostIs}
use Rattle.exact_decoder.specs.Surviving.V32.{line_depth, line_trellis}
use Rattle.lapm_frames.specs.declared.heard.Heard.TheVariants.{Nothing}
use Rattle.noise_script.specs.Script.{loses}
use Rattle.sample_line.specs.Outcomes.{IsOutcome}
use Rattle.sample_line.specs.Laws.{OneOutcome}
use Rattle.line_run.specs.Unhindered.{octets_in, patterns_in, unhindered}
use Rattle.line_run.specs.Laws.{FaintNeverLost, FaintReceivedIsSent, FaintSentIsReceived, NeverChance, SlotsAreRecorded}
use Rattle.line_run.proofs.Received.{as-expected}
use Rattle.line_run.specs.Sampled.{bits_of, Arrives, LosesLine}
use Rattle.line_ends.proofs.Receiving.{lost-or-not}
use Rattle.line_run.proofs.Bits.{signals-upto}
use Rattle.line_ends.proofs.Becoming.{Sent_behind}
use Rattle.link_pair.proofs.Pairs.Fitting.{AllFit, all-fit, fit-and-one, AllFitting, fitting-dropped, BesideFits, before-fit}
use Rattle.line_ends.proofs.Hearing.{slots-long as long}

pub record ClearLaws : Type 0 where
  pub never_lost : FaintNeverLost
  pub received : FaintReceivedIsSent
  pub all : FaintSentIsReceived
  pub never_chance : NeverChance
  pub recorded : SlotsAreRecorded
  pub one : OneOutcome

-- what goes beside a link
abbrev pub Beside : Type 0
Beside = Role → ℕ → Option Signal

abbrev pub symbols_of : ScriptValue → ℕ
symbols_of script = slot_symbols (longest_of script)

abbrev pub bits_in : ScriptValue → ℕ
bits_in script = 4 * symbols_of script

-- Noise is faint, and what was sent in these turns and beside them can be sent and fits.
pub record IsClear (script : ScriptValue) (dlci : ℕ) (beside : Beside) (ts : List Turn) : Type 0 where
  pub delays : (role : Role) → 1 ≤ delay_of script role
  pub faint : IsFaint script
  pub sendable : AllSendable ts
  pub fits : AllFitting (bits_in script) dlci ts
  pub beside_fits : BesideFits (bits_in script) beside

-- the end that hears judges what arrives by the check that it was sent with
abbrev pub Agrees : ScriptValue → Role → List Turn → Check → Type 0
Agrees script sender ts hearing =
    (slot : Spoken) → sent_ago (delay_of script sender) sender ts ≡ Some slot → ChecksAgree slot.check hearing slot.sent

-- what is to be heard of a slot that was sent behind these turns, and of this sender in the turn after these
abbrev pub due_of : ScriptValue → Role → List Turn → Option Spoken → Heard
due_of script sender earlier None = Nothing
due_of script sender earlier (Some slot) = unhindered (loses script sender (length earlier)) slot.sent

abbrev pub due : ScriptValue → Role → List Turn → Heard
due script sender ts = due_of script sender (drop (delay_of script sender) ts) (sent_ago (delay_of script sender) sender ts)

low : (script : ScriptValue) → HEAD + TAIL < symbols_of script
low script = omega arith

-- a slot that was sent behind these fits there
sent-behind : (script : ScriptValue) (dlci : ℕ) (beside : Beside) (sender : Role) (earlier : List Turn) (t : Turn) (slot : Spoken)
    → AllFitting (bits_in script) dlci (t ∷ earlier) → BesideFits (bits_in script) beside → (of sender t).sent ≡ Some slot
    → Sent_behind (wire_at script dlci beside) sender earlier t slot
sent-behind script dlci beside sender earlier t slot h b e =
    let c : Wire = wire_at script dlci beside in
    let before : List Signal = signals_before c sender earlier in
    let fit : AllFit (bits_in script) before = before-fit c b sender earlier h.1 in
    record {
      signal_is = signals-upto c sender earlier slot t e;
      fits = all-fit (bits_in script) 0 (before ++ signal_of slot.check sender dlci slot.sent ∷ []) (omega arith)
          (fit-and-one (bits_in script) before (signal_of slot.check sender dlci slot.sent) fit (h.0 sender slot e));
      fits_before = all-fit (bits_in script) 0 before (omega arith) fit;
    }

-- what is heard of it is what is due
heard-behind : ClearLaws → (script : ScriptValue) (dlci : ℕ) (beside : Beside) (sender : Role) (earlier : List Turn) (t : Turn)
    (hearing : Check) (slot : Spoken) (heard : Heard)
    → IsFaint script → IsSendable slot.sent → ChecksAgree slot.check hearing slot.sent
    → Sent_behind (wire_at script dlci beside) sender earlier t slot
    → Arrives (wire_at script dlci beside) sender earlier (t ∷ earlier) hearing slot heard
    → heard ≡ unhindered (loses script sender (length earlier)) slot.sent
heard-behind laws script dlci beside sender earlier t hearing slot heard d is agree s a =
    let c : Wire = wire_at script dlci beside in
    let before : List Signal = signals_before c sender earlier in
    let signal : Signal = signal_of slot.check sender dlci slot.sent in
    let recorded : Records script sender (signal_bits (bits_in script) (before ++ signal ∷ [])) a.samples
    = subst (λ l. Records script sender (signal_bits (bits_in script) l) a.samples) s.signal_is a.recorded in
    let same = laws.received script slot.check hearing sender dlci (symbols_of script) before slot.sent a.before a.samples a.octets
    a.patterns
    (d sender (symbols_of script * (length before + 1))) (long script) s.fits is agree a.recorded_before recorded a.received in
    let lose : Bool = loses script sender (length earlier) in
    laws.one lose sender dlci slot.sent (octets_in sender dlci slot.sent) (patterns_in slot.sent) heard (unhindered lose slot.sent)
    (subst (λ xs. IsOutcome lose sender dlci slot.sent (octets_in sender dlci slot.sent) xs heard) same.1
    (subst (λ xs. IsOutcome lose sender dlci slot.sent xs a.patterns heard) same.0 a.outcome)) (as-expected lose sender dlci slot.sent is)

-- the line isn't lost where noise is faint
pub never-lost : ClearLaws → (script : ScriptValue) (sender : Role) (bits : List Bool) (samples : List Sample) (symbol : ℕ) → IsFaint script
    → Records script sender bits samples → LostIs line_trellis line_depth samples (Some symbol) → ⊥
never-lost laws script sender bits samples symbol d r l =
    laws.never_lost sender script (length bits) [] bits symbol (d sender (length bits)) (omega arith)
    (record {
      first = bits;
      rest = [];
      bits_are = sym (append-nil bits);
      loses = record { samples = samples; recorded = r; lost = l };
    })

-- and what is due is heard
due-behind : ClearLaws → (script : ScriptValue) (dlci : ℕ) (beside : Beside) (sender : Role) (earlier : List Turn) (t : Turn)
    (hearing : Check) (slot : Spoken)
    → IsFaint script → IsSendable slot.sent → ChecksAgree slot.check hearing slot.sent
    → Sent_behind (wire_at script dlci beside) sender earlier t slot
    → Arrives (wire_at script dlci beside) sender earlier (t ∷ earlier) hearing slot
    (unhindered (loses script sender (length earlier)) slot.sent)
due-behind laws script dlci beside sender earlier t hearing slot d is agree s =
    record {
      before = first.0;
      samples = upto.0;
      recorded_before = first.1;
      recorded = subst (λ l. Records script sender (signal_bits (bits_in script) l) upto.0) (sym s.signal_is) upto.1;
      not_lost = kept (lost-or-not upto.0);
      octets = octets_in sender dlci slot.sent;
      patterns = patterns_in slot.sent;
      received = laws.all script slot.check hearing sender dlci (symbols_of script) before slot.sent first.0 upto.0
          (d sender (symbols_of script * (length before + 1))) (long script) s.fits is agree first.1 upto.1;
      outcome = as-expected (loses script sender (length earlier)) sender dlci slot.sent is;
    }
  where
    before : List Signal
    before = signals_before (wire_at script dlci beside) sender earlier

    signal : Signal
    signal = signal_of slot.check sender dlci slot.sent

    first : (samples : List Sample) × Records script sender (signal_bits (bits_in script) before) samples
    first = laws.recorded script sender (symbols_of script) before (low script) s.fits_before

    upto : (samples : List Sample) × Records script sender (signal_bits (bits_in script) (before ++ signal ∷ [])) samples
    upto = laws.recorded script sender (symbols_of script) (before ++ signal ∷ []) (low script) s.fits

    kept : ((symbol : ℕ) × LostIs line_trellis line_depth upto.0 (Some symbol)) ⊎ LostIs line_trellis line_depth upto.0 None
        → LostIs line_trellis line_depth upto.0 None
    kept (inl l) = absurd (never-lost laws script sender (signal_bits (bits_in script) (before ++ signal ∷ [])) upto.0 l.0 d upto.1 l.1)
    kept (inr n) = n

-- a slot that arrives in the turn after these was sent so
pub arriving-behind : (script : ScriptValue) (dlci : ℕ) (beside : Beside) (sender : Role) (ts : List Turn) (slot : Spoken)
    → AllFitting (bits_in script) dlci ts → BesideFits (bits_in script) beside → (x : SentAgo sender (delay_of script sender) ts slot)
    → Sent_behind (wire_at script dlci beside) sender (drop (delay_of script sender) ts) x.turn slot
arriving-behind script dlci beside sender ts slot fits b x =
    sent-behind script dlci beside sender (drop (delay_of script sender) ts) x.turn slot
    (subst (AllFitting (bits_in script) dlci) x.rest (fitting-dropped (bits_in script) dlci (delay_of script sender - 1) ts fits)) b x.sent

-- the turn in which it was, and that it fits
pub record Comes (script : ScriptValue) (dlci : ℕ) (beside : Beside) (sender : Role) (ts : List Turn) (slot : Spoken) : Type 0 where
  pub x : SentAgo sender (delay_of script sender) ts slot
  pub behind : Sent_behind (wire_at script dlci beside) sender (drop (delay_of script sender) ts) x.turn slot

comes : (script : ScriptValue) (dlci : ℕ) (beside : Beside) (sender : Role) (ts : List Turn) (slot : Spoken)
    → IsClear script dlci beside ts → sent_ago (delay_of script sender) sender ts ≡ Some slot → Comes script dlci beside sender ts slot
comes script dlci beside sender ts slot h e =
    let x : SentAgo sender (delay_of script sender) ts slot = sent-ago sender (delay_of script sender) ts slot (h.delays sender) e in
    record { x = x; behind = arriving-behind script dlci beside sender ts slot h.fits h.beside_fits x }

-- What is heard of a sender in the turn after these is what is due,
pub heard-due : ClearLaws → (script : ScriptValue) (dlci : ℕ) (beside : Beside) (sender : Role) (ts : List Turn) (hearing : Check)
    (heard : Heard)
    → IsClear script dlci beside ts → Agrees script sender ts hearing
    → IsHeardOf (wire_at script dlci beside) sender ts hearing heard → heard ≡ due script sender ts
heard-due laws script dlci beside sender ts hearing heard h agrees k = go (sent_ago delay sender ts) refl k
  where
    c : Wire
    c = wire_at script dlci beside

    delay : ℕ
    delay = delay_of script sender

    go : (o : Option Spoken) → sent_ago delay sender ts ≡ o → ArrivesAs c sender (drop delay ts) (drop (delay - 1) ts) hearing o heard
        → heard ≡ due_of script sender (drop delay ts) o
    go None e a = a
    go (Some slot) e a =
        let w : Comes script dlci beside sender ts slot = comes script dlci beside sender ts slot h e in
        heard-behind laws script dlci beside sender (drop delay ts) w.x.turn hearing slot heard h.faint (w.x.sendable h.sendable)
        (agrees slot e) w.behind
        (subst (λ us. Arrives c sender (drop delay ts) us hearing slot heard) w.x.rest a)

-- and what is due is heard.
pub due-heard : ClearLaws → (script : ScriptValue) (dlci : ℕ) (beside : Beside) (sender : Role) (ts : List Turn) (hearing : Check)
    → IsClear script dlci beside ts → Agrees script sender ts hearing
    → IsHeardOf (wire_at script dlci beside) sender ts hearing (due script sender ts)
due-heard laws script dlci beside sender ts hearing h agrees = go (sent_ago delay sender ts) refl
  where
    c : Wire
    c = wire_at script dlci beside

    delay : ℕ
    delay = delay_of script sender

    go : (o : Option Spoken) → sent_ago delay sender ts ≡ o
        → ArrivesAs c sender (drop delay ts) (drop (delay - 1) ts) hearing o (due_of script sender (drop delay ts) o)
    go None e = refl
    go (Some slot) e =
        let w : Comes script dlci beside sender ts slot = comes script dlci beside sender ts slot h e in
        subst (λ us. Arrives c sender (drop delay ts) us hearing slot (due_of script sender (drop delay ts) (Some slot))) (sym w.x.rest)
        (due-behind laws script dlci beside sender (drop delay ts) w.x.turn hearing slot h.faint (w.x.sendable h.sendable) (agrees slot e)
        w.behind)

-- which is no chance match
pub due-well : ClearLaws → (script : ScriptValue) (sender : Role) (ts : List Turn) → due script sender ts ≢ Chance
due-well laws script sender ts = grind (arith)

-- So the line isn't lost in that turn.
pub not-lost : ClearLaws → (script : ScriptValue) (dlci : ℕ) (beside : Beside) (sender : Role) (ts : List Turn) (symbol : ℕ)
    → IsFaint script → LosesLine (wire_at script dlci beside) sender ts symbol → ⊥
not-lost laws script dlci beside sender ts symbol d l =
    never-lost laws script sender (bits_of (wire_at script dlci beside) sender (drop (delay_of script sender - 1) ts)) l.loses.samples
    symbol d l.loses.recorded l.loses.lost
