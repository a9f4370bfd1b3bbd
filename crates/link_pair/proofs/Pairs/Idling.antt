-- The slots of a link that has ended.
use Rattle.link_pair.proofs.Names.{◌≡◌, ◌⊎◌, inl, inr, ℕ, zero, suc, ◌-◌, List, arith, ◌∙◌, ap, subst, Some, agree-on, RunEnd, IsDone}
use Rattle.link_pair.proofs.Names.{LinkLost, NotDetected, Left, EndsInTurn, OneIsCarried, LineRun, link_of, wire_at, ChecksAgree, check_of}
use Rattle.link_pair.proofs.Names.{lasting, last_ends, IsByLink, sent_ago, Outcome, JudgesOnceHeard, Accounts, Spoken, Turn, ScriptValue}
use Rattle.link_pair.proofs.Names.{IsInLimits, delay_of, Both, of, other, Role}
use Rattle.std.specs.Prelude.{slice_get}
use Rattle.lapm_frames.specs.Checked.{check_for}
use Rattle.lapm_frames.specs.declared.frame.Frame.{Frame}
use Rattle.lapm_frames.specs.declared.sent.Sent.TheVariants as slots
use Rattle.link_run.specs.Carried.{sent_in}
use Rattle.line_run.specs.Ends.{EndsBy}
use Rattle.link_pair.proofs.Pairs.Fitting.{idle-sends}
use Rattle.link_pair.proofs.Pairs.Clear.{Beside, Agrees}
use Rattle.link_pair.proofs.Pairs.Isolating.{IsolationLaws, over, hearing-in}

-- what an end that has ended sends
in-lasting : (role : Role) (n k : ℕ) (ts : List Turn) (slot : Spoken) → sent_in role (slice_get (lasting k ts) n) ≡ Some slot
    → (slots.Flags ≡ slot.sent) ⊎ ((m : ℕ) × (sent_in role (slice_get ts m) ≡ Some slot))
in-lasting role n zero ts slot e = inr (n, e)
in-lasting role zero (suc k) ts slot e = inl (idle-sends role slot e)
in-lasting role (suc n) (suc k) ts slot e = in-lasting role n k ts slot e

-- both ends judge what was sent before by the check that it was sent with
abbrev pub Judges : List Turn → Accounts → Type 0
Judges ts ends = (ago : ℕ) (role : Role) (slot : Spoken) (frame : Frame) → sent_ago ago (other role) ts ≡ Some slot
    → slot.sent ≡ slots.Frame frame → check_for slot.check frame ≡ check_for (check_of (of role ends)) frame

pub agrees-lasting : (script : ScriptValue) (ts : List Turn) (ends : Accounts) → Judges ts ends → (k : ℕ) (role : Role)
    → Agrees script (other role) (lasting k ts) (check_of (of role ends))
agrees-lasting script ts ends judges k role = λ slot e.
    go slot (in-lasting (other role) (delay_of script (other role) - 1) k ts slot e)
  where
    go : (slot : Spoken) → (slots.Flags ≡ slot.sent) ⊎ ((m : ℕ) × (sent_in (other role) (slice_get ts m) ≡ Some slot))
        → ChecksAgree slot.check (check_of (of role ends)) slot.sent
    go slot (inl e) = subst (ChecksAgree slot.check (check_of (of role ends))) e tt
    go slot (inr s) =
        let back : suc s.0 - 1 ≡ s.0 = omega arith in
        agree-on slot.check (check_of (of role ends)) slot.sent (λ frame f.
        judges (suc s.0) role slot frame (ap (λ n. sent_in (other role) (slice_get ts n)) back ∙ s.1) f)

-- so it is once both have heard in a link's last turn
judges-in-turn : IsolationLaws → OneIsCarried → JudgesOnceHeard
    → (script : ScriptValue) (files : Both (List ℕ)) (dlci : ℕ) (beside : Beside) (ts : List Turn) (ends : Accounts) → IsInLimits script
    → LineRun (wire_at script dlci beside) (link_of script files) ts ends
    → (o : Outcome) (turn : ℕ) (left : Left)
    → (e : EndsInTurn (wire_at script dlci beside) (link_of script files) ts ends o turn left) → Judges ts e.mid
judges-in-turn laws one heard script files dlci beside ts ends h r o turn left e =
    λ ago role slot frame p f. heard (link_of script files) (delay_of script) ts ends e.last e.mid
    (over laws script files dlci beside ts ends h r)
    (one (wire_at script dlci beside) ts e.last e.heard) (hearing-in script files ts ends e.last e.mid o e.is) ago role slot frame p f

pub judges-last : IsolationLaws → OneIsCarried → JudgesOnceHeard
    → (script : ScriptValue) (files : Both (List ℕ)) (dlci : ℕ) (beside : Beside) (ts : List Turn) (ends : Accounts) → IsInLimits script
    → LineRun (wire_at script dlci beside) (link_of script files) ts ends → (end : RunEnd) (left : Left) → IsByLink end
    → (e : EndsBy (wire_at script dlci beside) (link_of script files) ts ends end left)
    → Judges ts (last_ends (wire_at script dlci beside) (link_of script files) ts ends end left e)
judges-last laws one heard script files dlci beside ts ends h r (IsDone turn) left b e =
    judges-in-turn laws one heard script files dlci beside ts ends h r _ turn left e
judges-last laws one heard script files dlci beside ts ends h r (LinkLost role segment turn) left b e =
    judges-in-turn laws one heard script files dlci beside ts ends h r _ turn left e.1
judges-last laws one heard script files dlci beside ts ends h r (NotDetected turn) left b e =
    judges-in-turn laws one heard script files dlci beside ts ends h r _ turn left e
judges-last laws one heard script files dlci beside ts ends h r end left b e = absurd b
