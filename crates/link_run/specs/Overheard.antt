-- What the frames that pass tell of both ends, for one who hears the line and knows no account.
use Rattle.std.specs.Prelude.{◌≡◌, ℕ, Bool, true, false, if◌then◌else◌, ◌||◌, List, [], ◌∷◌, length, Some, None, Ok}
use Rattle.frame_check.specs.declared.check.Check.{Check}
use Rattle.frame_check.specs.declared.check.Check.TheVariants.{Sixteen, ThirtyTwo}
use Rattle.shared_terms.specs.declared.role.Role.{Role}
use Rattle.shared_terms.specs.declared.role.Role.TheVariants.{Originator, Answerer}
use Rattle.shared_terms.specs.Role.{other}
use Rattle.shared_terms.specs.Both.{of}
use Rattle.lapm_frames.specs.Checked.{check_for}
use Rattle.lapm_frames.specs.declared.frame.Frame.{Frame}
use Rattle.lapm_frames.specs.declared.frame.Frame.TheVariants.{I, Sabme, Ua, Ui, Xid}
use Rattle.lapm_frames.specs.Frame.{has_number}
use Rattle.xid_params.specs.declared.terms.Terms.{Terms}
use Rattle.xid_params.specs.Terms.{agree}
use Rattle.lapm_receiver.specs.Incoming.{kind_of}
use Rattle.lapm_receiver.specs.declared.took.Took.TheVariants.{InOrder, Kept}
use Rattle.break_signals.specs.declared.word.BreakWord.TheVariants.{Brk}
use Rattle.break_signals.specs.Words.{word_in}
use Rattle.break_signals.specs.Breaks.{gives}
use Rattle.lapm_frames.specs.declared.sent.Sent.TheVariants as slots
use Rattle.lapm_frames.specs.declared.heard.Heard.{Heard}
use Rattle.lapm_frames.specs.declared.heard.Heard.TheVariants.{Passed}
use Rattle.link_account.specs.Account.{Account, first_terms, check_of}
use Rattle.link_account.specs.Laws.{has_begun}
use Rattle.link_run.specs.End.{is_released}
use Rattle.link_run.specs.Run.{Link, Accounts, Spoken, Turn, Hears, GoingTurn}
use Rattle.link_run.specs.Carried.{sent_ago, Carries}
use Rattle.link_run.specs.Laws.{RunsOver}

-- a frame of this kind passes to an end in a turn
abbrev pub passes_in : (Frame → Bool) → Heard → Bool
passes_in is (Passed (slots.Frame frame)) = is frame
passes_in is heard = false

-- one passed to a role in these turns
abbrev pub has_passed : (Frame → Bool) → Role → List Turn → Bool
has_passed is role [] = false
has_passed is role (t ∷ ts) = passes_in is (of role t).heard || has_passed is role ts

-- an offer, as a command or as a response
abbrev pub is_xid : Frame → Bool
is_xid (Xid command pf info) = true
is_xid frame = false

-- the frame by which an end of this role becomes Connected: a UA with F = 1 at the originator, a SABME at the answerer
abbrev pub opens : Role → Frame → Bool
opens Originator (Ua pf) = pf
opens Answerer (Sabme pf) = true
opens role frame = false

-- An end has been Connected exactly where such a frame passed to it.
abbrev pub OpensByFrames : Type 0
OpensByFrames = (link : Link) (delay : Role → ℕ) (ts : List Turn) (ends : Accounts) → RunsOver link delay ts ends
    → (role : Role) → has_begun (of role ends).phase ≡ has_passed (opens role) role ts

-- No I frame passes to an end before.
abbrev pub SegmentsPassLater : Type 0
SegmentsPassLater = (link : Link) (delay : Role → ℕ) (ts : List Turn) (ends : Accounts) (t : Turn) → RunsOver link delay ts ends
    → Carries delay ts t
    → (role : Role) (ns nr : ℕ) (pf : Bool) (info : List ℕ) → (of role t).heard ≡ Passed (slots.Frame (I ns nr pf info))
    → has_passed (opens role) role ts ≡ true

-- what both offers come to
abbrev pub agreed_terms : Link → Terms
agreed_terms link = agree link.orig.setup.offer link.answ.setup.offer

-- The terms are agreed once: an end has those of both offers exactly from when an XID frame passed to it.
abbrev pub AgreesByXid : Type 0
AgreesByXid = (link : Link) (delay : Role → ℕ) (ts : List Turn) (ends : Accounts) → RunsOver link delay ts ends
    → (role : Role) → (of role ends).terms ≡ (if has_passed is_xid role ts then agreed_terms link else first_terms)

-- the agreed check of the frames with numbers
abbrev pub agreed_check : Link → Check
agreed_check link = if (agreed_terms link).check32 then ThirtyTwo else Sixteen

-- Each frame with numbers is sent with the agreed check,
abbrev pub SendsAgreedCheck : Type 0
SendsAgreedCheck = (link : Link) (delay : Role → ℕ) (ts : List Turn) (ends : Accounts) (t : Turn) (after : Accounts) → RunsOver link delay ts ends
    → Carries delay ts t → GoingTurn link ts ends t after
    → (role : Role) (slot : Spoken) (frame : Frame) → (of role t).sent ≡ Some slot → slot.sent ≡ slots.Frame frame
    → has_number frame ≡ true → slot.check ≡ agreed_check link

-- and where it passes, its hearer has that check.
abbrev pub HearsAgreedCheck : Type 0
HearsAgreedCheck = (link : Link) (delay : Role → ℕ) (ts : List Turn) (ends : Accounts) (t : Turn) (mid : Accounts) → RunsOver link delay ts ends
    → Carries delay ts t → Hears (length ts) ends t mid
    → (role : Role) (frame : Frame) → (of role t).heard ≡ Passed (slots.Frame frame) → has_number frame ≡ true
    → (of role t).check ≡ agreed_check link

-- So whatever becomes of a frame on the line, and however long ago it was sent, its hearer judges it by the check that it was sent with,
-- between turns
abbrev pub JudgesByItsCheck : Type 0
JudgesByItsCheck = (link : Link) (delay : Role → ℕ) (ts : List Turn) (ends : Accounts) → RunsOver link delay ts ends
    → (ago : ℕ) (role : Role) (slot : Spoken) (frame : Frame) → sent_ago ago (other role) ts ≡ Some slot
    → slot.sent ≡ slots.Frame frame
    → check_for slot.check frame ≡ check_for (check_of (of role ends)) frame

-- and once both ends have heard.
abbrev pub JudgesOnceHeard : Type 0
JudgesOnceHeard = (link : Link) (delay : Role → ℕ) (ts : List Turn) (ends : Accounts) (t : Turn) (mid : Accounts) → RunsOver link delay ts ends
    → Carries delay ts t → Hears (length ts) ends t mid
    → (ago : ℕ) (role : Role) (slot : Spoken) (frame : Frame) → sent_ago ago (other role) ts ≡ Some slot
    → slot.sent ≡ slots.Frame frame
    → check_for slot.check frame ≡ check_for (check_of (of role mid)) frame

-- nothing of a frame is new to an end: an I frame is neither the next one expected nor one to be held, and a BRK isn't the next one
-- expected
abbrev pub IsOld : Account → Frame → Type 0
IsOld a (I ns nr pf info) = (kind_of ns a.incoming ≡ InOrder → ⊥) × (kind_of ns a.incoming ≡ Kept → ⊥)
IsOld a (Ui command pf info) = (number length_octet : ℕ) → word_in info ≡ Ok (Brk number length_octet)
    → gives number length_octet a.their_breaks ≡ None
IsOld a frame = Unit {0}

-- Once the originator was told to release, which is when a DISC first goes, nothing new passes to either end, and nothing more is taken.
pub record NothingNew (a : Account) (heard : Heard) (b : Account) : Type 0 where
  pub old : (frame : Frame) → heard ≡ Passed (slots.Frame frame) → IsOld a frame
  pub taken : b.incoming.taken ≡ a.incoming.taken
  pub breaks : b.their_breaks.lengths ≡ a.their_breaks.lengths

-- at each end
abbrev pub ReleasesLast : Type 0
ReleasesLast = (link : Link) (delay : Role → ℕ) (ts : List Turn) (ends : Accounts) (t : Turn) (mid : Accounts) → RunsOver link delay ts ends
    → Carries delay ts t → Hears (length ts) ends t mid → is_released ends.orig.phase ≡ true
    → (role : Role) → NothingNew (of role ends) (of role t).heard (of role mid)

-- A break's word that passes before its hearer is Connected is ignored.
abbrev pub EarlyBreaksAreIgnored : Type 0
EarlyBreaksAreIgnored = (link : Link) (delay : Role → ℕ) (ts : List Turn) (ends : Accounts) (t : Turn) (mid : Accounts)
    → RunsOver link delay ts ends
    → Carries delay ts t → Hears (length ts) ends t mid
    → (role : Role) (command pf : Bool) (info : List ℕ) → has_passed (opens role) role ts ≡ false
    → (of role t).heard ≡ Passed (slots.Frame (Ui command pf info))
    → of role mid ≡ of role ends
