-- What is heard in a script's run whose noise is faint.
use Rattle.std.proofs.Common.{◌≡◌, ◌≢◌, ℕ, ◌+◌, ◌-◌, ◌*◌, ◌<◌, ◌≤◌, Bool, true, List, [], ◌∷◌, ◌++◌, length, drop, arith, refl, sym}
use Rattle.std.proofs.Common.{subst, Option, Some, None, append-nil}
use Rattle.line_ends.proofs.Names.{Accounts, AllSendable, Answerer, AreFit, Arrives, ArrivesAs, Both, Chance, Check, FaintGoOn}
use Rattle.line_ends.proofs.Names.{FaintNeverLost, FaintReceivedIsSent, Frame, Heard, IsFaint, IsHeardOf, IsInLimits, IsSendable, LineRun}
use Rattle.line_ends.proofs.Names.{LosesLine, NeverChance, Nothing, Originator, Records, Role, RunsOver, SamplesAreCarried, ScriptValue}
use Rattle.line_ends.proofs.Names.{ScriptsHaveDelays, ScriptsMayPlay, Sent, SentAgo, Signal, SlotsAreCodable, SlotsHaveRoom, Spoken, Turn}
use Rattle.line_ends.proofs.Names.{Wire, check_of, delay_of, link_of, loses, of, other, sent-ago, sent_ago, signal_bits}
use Rattle.line_ends.proofs.Names.{signal_of, signals, wire_of}
use Rattle.lapm_frames.specs.Checked.{check_for}
use Rattle.lapm_frames.specs.declared.sent.Sent.TheVariants as slots
use Rattle.sample_line.specs.Outcomes.{IsOutcome}
use Rattle.sample_line.specs.Laws.{OneOutcome}
use Rattle.line_run.specs.Unhindered.{ChecksAgree, octets_in, patterns_in, unhindered}
use Rattle.line_run.proofs.Received.{as-expected}
use Rattle.link_run.specs.Overheard.{JudgesByItsCheck}
use Rattle.link_run.specs.Starved.{IsLost}
use Rattle.line_run.specs.Sampled as lines
use Rattle.line_ends.proofs.Fitting.{symbols_of, bits_in, fits-all, fits-before}

pub record HearLaws : Type 0 where
  pub play : ScriptsMayPlay
  pub delays : ScriptsHaveDelays
  pub room : SlotsHaveRoom
  pub codable : SlotsAreCodable
  pub carried : SamplesAreCarried
  pub judges : JudgesByItsCheck
  pub never_lost : FaintNeverLost
  pub received : FaintReceivedIsSent
  pub never_chance : NeverChance
  pub one : OneOutcome

-- the line of samples as any line
pub over : HearLaws → (script : ScriptValue) (files : Both (List ℕ)) (ts : List Turn) (ends : Accounts) → IsInLimits script
    → LineRun (wire_of script) (link_of script files) ts ends → RunsOver (link_of script files) (delay_of script) ts ends
over laws script files ts ends h r = grind (arith)

pub agree-on : (check hearing : Check) (s : Sent)
    → ((frame : Frame) → s ≡ slots.Frame frame → check_for check frame ≡ check_for hearing frame)
    → ChecksAgree check hearing s
agree-on check hearing s f = grind (arith)

-- the slots of a script are long enough
pub slots-long : (script : ScriptValue) → 215 < symbols_of script
slots-long script = omega arith

-- a slot that arrives
arrives-unhindered : HearLaws → (script : ScriptValue) (sender : Role) (earlier : List Turn) (t : Turn) (hearing : Check) (slot : Spoken)
    (heard : Heard)
    → IsInLimits script → IsFaint script → (of sender t).sent ≡ Some slot
    → AreFit (bits_in script) 0 (signals (wire_of script) sender (t ∷ earlier)) → IsSendable slot.sent
    → ChecksAgree slot.check hearing slot.sent → Arrives (wire_of script) sender earlier (t ∷ earlier) hearing slot heard
    → heard ≡ unhindered (loses script sender (length earlier)) slot.sent
arrives-unhindered laws script sender earlier t hearing slot heard h d e fit is agree a =
    let c : Wire = wire_of script in
    let before : List Signal = signals c sender earlier in
    let signal : Signal = signal_of slot.check sender 0 slot.sent in
    let fits : AreFit (bits_in script) 0 (before ++ signal ∷ []) = grind (arith) in
    let recorded : Records script sender (signal_bits (bits_in script) (before ++ signal ∷ [])) a.samples = grind (arith) in
    let same = laws.received script slot.check hearing sender 0 (symbols_of script) before slot.sent a.before a.samples a.octets a.patterns
    (d sender (symbols_of script * (length before + 1))) (slots-long script) fits is agree a.recorded_before recorded a.received in
    let lose : Bool = loses script sender (length earlier) in
    laws.one lose sender 0 slot.sent (octets_in sender 0 slot.sent) (patterns_in slot.sent) heard (unhindered lose slot.sent)
    (subst (λ xs. IsOutcome lose sender 0 slot.sent (octets_in sender 0 slot.sent) xs heard) same.1
    (subst (λ xs. IsOutcome lose sender 0 slot.sent xs a.patterns heard) same.0 a.outcome)) (as-expected lose sender 0 slot.sent is)

-- What is heard of a sender in the turn after these: no chance match, and lost only where the script says so.
pub record AsNamed (script : ScriptValue) (sender : Role) (ts : List Turn) (heard : Heard) : Type 0 where
  pub well : heard ≢ Chance
  pub lost : IsLost heard → (delay_of script sender ≤ length ts) × (loses script sender (length ts - delay_of script sender) ≡ true)

lost-named : (lose : Bool) (s : Sent) → IsLost (unhindered lose s) → lose ≡ true
lost-named lose s h = grind (arith)

nothing-named : (script : ScriptValue) (sender : Role) (ts : List Turn) → AsNamed script sender ts Nothing
nothing-named script sender ts = record { well = λ e. absurd cc; lost = λ h. absurd h }

pub heard-named : HearLaws → (script : ScriptValue) (files : Both (List ℕ)) (ts : List Turn) (ends : Accounts) → IsInLimits script
    → IsFaint script
    → LineRun (wire_of script) (link_of script files) ts ends → AllSendable ts → (role : Role) (heard : Heard)
    → IsHeardOf (wire_of script) (other role) ts (check_of (of role ends)) heard → AsNamed script (other role) ts heard
heard-named laws script files ts ends h d r s role heard k = go (sent_ago delay sender ts) refl k
  where
    sender : Role
    sender = other role

    delay : ℕ
    delay = delay_of script sender

    hearing : Check
    hearing = check_of (of role ends)

    go : (o : Option Spoken) → sent_ago delay sender ts ≡ o
        → ArrivesAs (wire_of script) sender (drop delay ts) (drop (delay - 1) ts) hearing o heard → AsNamed script sender ts heard
    go None e a = subst (AsNamed script sender ts) (sym a) (nothing-named script sender ts)
    go (Some slot) e a =
        let x : SentAgo sender delay ts slot = sent-ago sender delay ts slot (laws.delays script h sender) e in
        let fit : AreFit (bits_in script) 0 (signals (wire_of script) sender (x.turn ∷ drop delay ts))
        = grind (arith, sender, fits-before, delay, fits-all) in
        let arrives : Arrives (wire_of script) sender (drop delay ts) (x.turn ∷ drop delay ts) hearing slot heard
        = subst (λ us. Arrives (wire_of script) sender (drop delay ts) us hearing slot heard) x.rest a in
        let checks : ChecksAgree slot.check hearing slot.sent = grind (arith, agree-on, hearing, over, delay) in
        let same = arrives-unhindered laws script sender (drop delay ts) x.turn hearing slot heard h d x.sent fit
        (x.sendable s) checks arrives in grind (arith, loses, sender, delay, lost-named)

-- the line isn't lost
stays : HearLaws → (script : ScriptValue) (sender : Role) (ts : List Turn) (symbol : ℕ) → IsFaint script
    → LosesLine (wire_of script) sender ts symbol → ⊥
stays laws script sender ts symbol d l =
    let bits : List Bool = lines.bits_of (wire_of script) sender (drop (delay_of script sender - 1) ts) in
    laws.never_lost sender script (length bits) [] bits symbol (d sender (length bits)) (omega arith)
    (record { first = bits; rest = []; bits_are = sym (append-nil bits); loses = l.loses })

pub faint-go-on : HearLaws → FaintGoOn
faint-go-on laws script files ts ends (lines.LineLost Originator symbol) h d r s e = stays laws script Answerer ts symbol d e
faint-go-on laws script files ts ends (lines.LineLost Answerer symbol) h d r s e = stays laws script Originator ts symbol d e.1
faint-go-on laws script files ts ends (lines.ChanceMatch Originator) h d r s e =
    (heard-named laws script files ts ends h d r s Originator Chance e).well refl
faint-go-on laws script files ts ends (lines.ChanceMatch Answerer) h d r s e =
    (heard-named laws script files ts ends h d r s Answerer Chance e.1).well refl
