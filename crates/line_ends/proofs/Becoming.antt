-- Whatever goes over a line, a slot that fits behind those before it is lost, mistaken or heard; so both slots of a turn are heard well,
-- or the line ends the run.
use Rattle.std.proofs.Common.{arith, ◌≡◌, ◌⊎◌, inl, inr, ℕ, ◌+◌, ◌-◌, ◌*◌, ◌<◌, ◌≤◌, List, [], ◌∷◌, ◌++◌, length, drop, refl, sym, ap}
use Rattle.std.proofs.Common.{subst, Option, Some, None}
use Rattle.std.specs.Prelude.{is_some}
use Rattle.line_ends.proofs.Names.{Answerer, AreFit, Arrives, ArrivesAs, Becomes, Check, EndsLineBy, Heard, IsHeardOf, IsHeardWell, LineEnd}
use Rattle.line_ends.proofs.Names.{Nothing, Originator, Records, Role, ScriptValue, SentAgo, Signal, SlotsAreRecorded, Spoken, Turn, Wire}
use Rattle.line_ends.proofs.Names.{bits_of, delay_of, line_depth, line_trellis, loses, other, sent-ago, sent_ago, signal_bits, signal_of}
use Rattle.line_ends.proofs.Names.{signals, signals_before, wire_of}
use Rattle.bit_stuffing.specs.declared.slot_writer.TheConstants.{HEAD, TAIL}
use Rattle.symbol_map.specs.declared.sample.Sample.{Sample}
use Rattle.exact_decoder.specs.Surviving.Survivors.{LostIs}
use Rattle.sample_line.specs.Line.{bits_behind}
use Rattle.line_run.specs.Sampled.{LineLost, ChanceMatch}
use Rattle.line_run.proofs.Bits.{signals-upto}
use Rattle.sample_line.proofs.Passing.{slot-added}
use Rattle.line_ends.specs.EachEnds as becomes
use Rattle.line_ends.proofs.Deciding.{some-outcome}
use Rattle.line_ends.proofs.Fitting.{symbols_of, bits_in, fits-before}
use Rattle.line_ends.proofs.Receiving.{ReceiveLaws, lost-or-not, some-received}

pub record BecomeLaws : Type 0 where
  pub recorded : SlotsAreRecorded
  pub receives : ReceiveLaws

-- a slot that was sent behind these turns: it fits behind what stood before it
pub record Sent_behind (c : Wire) (sender : Role) (earlier : List Turn) (t : Turn) (slot : Spoken) : Type 0 where
  pub signal_is : signals c sender (t ∷ earlier) ≡ signals_before c sender earlier ++ signal_of slot.check sender c.dlci slot.sent ∷ []
  pub fits : AreFit (4 * c.symbols) 0 (signals_before c sender earlier ++ signal_of slot.check sender c.dlci slot.sent ∷ [])
  pub fits_before : AreFit (4 * c.symbols) 0 (signals_before c sender earlier)

-- a slot that has arrived, by what is heard of it
by-heard : (c : Wire) (sender : Role) (ts : List Turn) (hearing : Check) (heard : Heard) → IsHeardOf c sender ts hearing heard
    → Becomes c sender ts hearing
by-heard c sender ts hearing heard h = grind (arith)

-- One that fits so becomes one of these three.
pub slot-becomes : BecomeLaws → (c : Wire) (sender : Role) (ts : List Turn) (hearing : Check) → HEAD + TAIL < c.symbols
    → 1 ≤ delay_of c.script sender
    → ((slot : Spoken) → (x : SentAgo sender (delay_of c.script sender) ts slot)
    → Sent_behind c sender (drop (delay_of c.script sender) ts) x.turn slot)
    → Becomes c sender ts hearing
slot-becomes laws c sender ts hearing wide low behind = go (sent_ago delay sender ts) refl
  where
    delay : ℕ
    delay = delay_of c.script sender

    heard-as : (o : Option Spoken) → sent_ago delay sender ts ≡ o → (heard : Heard)
        → ArrivesAs c sender (drop delay ts) (drop (delay - 1) ts) hearing o heard → Becomes c sender ts hearing
    heard-as o e heard a = by-heard c sender ts hearing heard
        (subst (λ z. ArrivesAs c sender (drop delay ts) (drop (delay - 1) ts) hearing z heard) (sym e) a)

    came : (slot : Spoken) → sent_ago delay sender ts ≡ Some slot → (x : SentAgo sender delay ts slot)
        → Sent_behind c sender (drop delay ts) x.turn slot → Becomes c sender ts hearing
    came slot e x s = by (lost-or-not upto.0)
      where
        before : List Signal
        before = signals_before c sender (drop delay ts)

        signal : Signal
        signal = signal_of slot.check sender c.dlci slot.sent

        first : (samples : List Sample) × Records c.script sender (signal_bits (4 * c.symbols) before) samples
        first = laws.recorded c.script sender c.symbols before wide s.fits_before

        upto : (samples : List Sample) × Records c.script sender (signal_bits (4 * c.symbols) (before ++ signal ∷ [])) samples
        upto = laws.recorded c.script sender c.symbols (before ++ signal ∷ []) wide s.fits

        recorded : Records c.script sender (bits_of c sender (x.turn ∷ drop delay ts)) upto.0
        recorded = subst (λ l. Records c.script sender (signal_bits (4 * c.symbols) l) upto.0) (sym s.signal_is) upto.1

        by : ((symbol : ℕ) × LostIs line_trellis line_depth upto.0 (Some symbol)) ⊎ LostIs line_trellis line_depth upto.0 None
            → Becomes c sender ts hearing
        by (inl l) = becomes.Lost l.0 (record {
          arrives = ap is_some e;
          loses = record {
            samples = upto.0;
            recorded = subst (λ us. Records c.script sender (bits_of c sender us) upto.0) (sym x.rest) recorded;
            lost = l.1;
          };
        })
        by (inr n) =
            let r = some-received laws.receives c.script hearing sender (signal_bits (4 * c.symbols) before)
            (bits_behind (4 * c.symbols) before signal) first.0 upto.0 first.1
            (subst (λ xs. Records c.script sender xs upto.0) (slot-added (4 * c.symbols) before signal) upto.1) in
            let o = some-outcome (loses c.script sender (length (drop delay ts))) sender c.dlci slot.sent r.octets r.patterns in
            let a : Arrives c sender (drop delay ts) (x.turn ∷ drop delay ts) hearing slot o.0 = grind (arith, first, upto) in
            heard-as (Some slot) e o.0 (subst (λ us. Arrives c sender (drop delay ts) us hearing slot o.0) (sym x.rest) a)

    go : (o : Option Spoken) → sent_ago delay sender ts ≡ o → Becomes c sender ts hearing
    go None e = heard-as None e Nothing refl
    go (Some slot) e =
        let x : SentAgo sender delay ts slot = sent-ago sender delay ts slot low e in
        came slot e x (behind slot x)

-- So does each slot of a link that is alone on its line, where all that were sent fit.
pub fit-becomes : BecomeLaws → (script : ScriptValue) (sender : Role) (ts : List Turn) (hearing : Check) → HEAD + TAIL < symbols_of script
    → 1 ≤ delay_of script sender → AreFit (bits_in script) 0 (signals (wire_of script) sender ts)
    → Becomes (wire_of script) sender ts hearing
fit-becomes laws script sender ts hearing wide low fits = slot-becomes laws c sender ts hearing wide low behind
  where
    c : Wire
    c = wire_of script

    delay : ℕ
    delay = delay_of script sender

    behind : (slot : Spoken) → (x : SentAgo sender delay ts slot) → Sent_behind c sender (drop delay ts) x.turn slot
    behind slot x =
        let upto : AreFit (bits_in script) 0 (signals c sender (x.turn ∷ drop delay ts)) =
        subst (λ us. AreFit (bits_in script) 0 (signals c sender us)) x.rest (fits-before script sender (delay - 1) ts fits) in
        let same = signals-upto c sender (drop delay ts) slot x.turn x.sent in
        record {
          signal_is = same;
          fits = subst (AreFit (bits_in script) 0) same upto;
          fits_before = fits-before script sender delay ts fits;
        }

-- By what becomes of both slots: both are heard well, or the line ends the run.
pub line-or-heard : (c : Wire) (ts : List Turn) (checks : Role → Check)
    → Becomes c Answerer ts (checks Originator) → Becomes c Originator ts (checks Answerer)
    → ((end : LineEnd) × EndsLineBy c ts checks end) ⊎ ((role : Role) → IsHeardWell c (other role) ts (checks role))
line-or-heard c ts checks = go
  where
    both : IsHeardWell c Answerer ts (checks Originator) → IsHeardWell c Originator ts (checks Answerer) → (role : Role)
        → IsHeardWell c (other role) ts (checks role)
    both w v role = grind (arith)

    go : Becomes c Answerer ts (checks Originator) → Becomes c Originator ts (checks Answerer)
        → ((end : LineEnd) × EndsLineBy c ts checks end) ⊎ ((role : Role) → IsHeardWell c (other role) ts (checks role))
    go (becomes.Lost symbol l) v = inl (LineLost Originator symbol, l)
    go (becomes.Mistaken m) v = inl (ChanceMatch Originator, m)
    go (becomes.Heard w) (becomes.Lost symbol l) = inl (LineLost Answerer symbol, (w, l))
    go (becomes.Heard w) (becomes.Mistaken m) = inl (ChanceMatch Answerer, (w, m))
    go (becomes.Heard w) (becomes.Heard v) = inr (both w v)
