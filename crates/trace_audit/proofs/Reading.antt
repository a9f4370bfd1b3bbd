-- Both lines of a turn are lines that are read.
use Rattle.trace_audit.proofs.Cited.{◌≡◌, ℕ, ◌<◌, ◌≤◌, ◌^◌, true, false, List, [], ◌∷◌, length, arith, sym, ◌∙◌, subst, Option, Some}
use Rattle.trace_audit.proofs.Cited.{option_map, IfSome, Frame, Heard, Sent, SendLaws, AsksInOctets, LineRun, wire_of, link_of, is_chance}
use Rattle.trace_audit.proofs.Cited.{Outcome, Going, Turn, ScriptValue, IsInLimits, Both, of, Role, count_bound, line_of, LinesAreRead}
use Rattle.trace_audit.proofs.Cited.{IsReadableSent, IsReadableSignal, IsReadableHeard, IsReadable}
use Rattle.std.specs.Prelude.{unwrap_or}
use Rattle.frame_check.specs.declared.sizes.TheConstants.{INFO}
use Rattle.shared_terms.specs.Role.{other}
use Rattle.lapm_frames.specs.Frame.{information_of}
use Rattle.lapm_frames.specs.declared.sent.Sent.TheVariants as slots
use Rattle.noise_script.specs.Script.{delay_of}
use Rattle.link_account.specs.Account.{Account, given_break}
use Rattle.link_run.specs.Run.{Accounts, Spoken}
use Rattle.link_run.specs.Carried.{sent_ago, has_message, Crosses, Carries}
use Rattle.link_run.specs.Outcomes.{TurnIs}
use Rattle.line_run.specs.Sampled.{HeardIn}
use Rattle.line_ends.specs.Plain.{IsPlainSent}
use Rattle.line_run.proofs.Slots.{SentAgo, sent-ago}
use Rattle.line_ends.proofs.Words.{Owes}
use Rattle.line_ends.proofs.Slots.{plain-sent, short-sent}
use Rattle.line_ends.proofs.Sending.{HoldBoth, holds-all, mid-holds-at}
use Rattle.link_run.proofs.Only.{hearing-of}

-- a plain frame of few octets is read
few : (o : Option (List ℕ)) → length (unwrap_or o []) ≤ INFO → IfSome o (λ info. length info < count_bound)
few o h = grind (arith)

-- a slot whose frame has few octets
abbrev IsShort : Sent → Type 0
IsShort s = (frame : Frame) → s ≡ slots.Frame frame → length (information_of frame) ≤ INFO

signal-read : (s : Sent) → has_message s ≡ true → IsPlainSent s → IsShort s → IsReadableSignal s
signal-read q0 m p f = grind (arith)

-- what was sent is read where it is heard
abbrev IsKnown : Option Spoken → Type 0
IsKnown o = (slot : Spoken) → o ≡ Some slot → IsPlainSent slot.sent × IsShort slot.sent

heard-read : (o : Option Spoken) (heard : Heard) → Crosses o heard → IsKnown o → IsReadableHeard heard × (is_chance heard ≡ false)
heard-read o heard c f = grind (arith, signal-read)

-- a break that is given is an octet
given-read : (a : Account) → Owes a → IfSome (given_break a) (λ units. units < 256)
given-read a h = grind (arith)

module _ (laws : SendLaws) (script : ScriptValue) (files : Both (List ℕ)) (ts : List Turn) (ends : Accounts) (h : IsInLimits script)
    (o : AsksInOctets script) (r : LineRun (wire_of script) (link_of script files) ts ends) where
  both : HoldBoth (λ role. (of role (link_of script files)).user.file) ts ends
  both = holds-all laws (wire_of script) files ts ends h o r

  -- what a turn sends
  spoken-read : (t : Turn) (mid : Accounts) (outcome : Outcome) → HeardIn (wire_of script) ts t
      → TurnIs (link_of script files) ts ends t mid outcome → (role : Role) → IsKnown (of role t).sent
  spoken-read t mid Going heard g role slot e =
      let run : LineRun (wire_of script) (link_of script files) (t ∷ ts) g.0 =
      record { run = (ends, r.run, g.1); heard = (heard, r.heard) } in
      let k = holds-all laws (wire_of script) files (t ∷ ts) g.0 h o run in
      (k.plain.0 role slot e, λ frame f. k.short.0 role slot frame e f)
  spoken-read t mid outcome heard l role slot e = grind (arith)

  sent-line : (o : Option Spoken) → IsKnown o → IfSome (option_map (λ (slot : Spoken). slot.sent) o) IsReadableSent
  sent-line o f = grind (arith)

  line-read : (t : Turn) (mid : Accounts) (outcome : Outcome) → HeardIn (wire_of script) ts t
      → TurnIs (link_of script files) ts ends t mid outcome → length ts < 2 ^ 40 → (role : Role)
      → IsReadable (line_of (length ts) role (of role t))
  line-read t mid outcome heard is early role =
      let hearing = hearing-of (link_of script files) ts ends t mid outcome is in
      let carries : Carries (delay_of script) ts t = laws.one (wire_of script) ts t heard in
      let from : Role = other role in
      let known : IsKnown (sent_ago (delay_of script from) from ts) = λ slot e.
      let s : SentAgo from (delay_of script from) ts slot = sent-ago from (delay_of script from) ts slot (laws.delays script h from) e in
      (plain-sent from (delay_of script from) ts slot s both.plain, short-sent from (delay_of script from) ts slot s both.short) in
      let arrived = heard-read (sent_ago (delay_of script from) from ts) (of role t).heard (carries role) known in
      let holds = mid-holds-at laws script files ts ends t mid h carries hearing both role in
      record {
        turn = early;
        arrived = arrived.0;
        sent = sent-line (of role t).sent (spoken-read t mid outcome heard is role);
        given = subst (λ (g : Option ℕ). IfSome g (λ units. units < 256)) (sym (hearing role).given_is)
            (given-read (of role mid) holds.owes);
        no_reply = λ c. let n : false ≡ true = sym arrived.1 ∙ c in absurd cc;
        no_break = λ c. let n : false ≡ true = sym arrived.1 ∙ c in absurd cc;
      }

pub lines-are-read : SendLaws → LinesAreRead
lines-are-read laws script files ts ends t mid outcome h o r heard is early role = grind (arith, line-read)
