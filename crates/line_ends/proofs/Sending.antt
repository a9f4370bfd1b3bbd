-- What the ends of a run send, all through it: what is read where it is heard, and what can be sent where their users' files are octets.
use Rattle.std.proofs.Common.{◌≡◌, ℕ, ◌<◌, ◌≤◌, false, List, [], ◌∷◌, All, length, filter, arith, sym, ◌∙◌, ap, subst, Option, Some, None}
use Rattle.std.proofs.Common.{IfSome, Ok}
use Rattle.std.specs.Prelude.{unwrap_or}
use Rattle.std.proofs.lemmas.List.Elements.{All-map, All-filter}
use Rattle.line_ends.proofs.Names.{Accounts, AllPlain, AllSendable, AllShort, Answerer, AreOctets, AsksInOctets, Both, Carries, Crosses}
use Rattle.line_ends.proofs.Names.{Frame, GoingTurn, Heard, Hears, INFO, IsAllowed, IsInLimits, IsPlainSent, IsSendable, LineRun, Link}
use Rattle.line_ends.proofs.Names.{OctetsAreSendable, OneIsCarried, Originator, Role, RunsOver, SamplesAreCarried, ScriptValue}
use Rattle.line_ends.proofs.Names.{ScriptsHaveDelays, ScriptsMayPlay, SendsShort, Sent, Spoken, Turn, Wire, arrival, break_line, breaks_of}
use Rattle.line_ends.proofs.Names.{delay_of, information_of, link_of, of, other, releases, said_at, same_role, sent-ago, sent_ago}
use Rattle.line_ends.proofs.Names.{served_at, start}
use Rattle.break_signals.specs.Words.{IsSpelledBack}
use Rattle.lapm_frames.specs.declared.sent.Sent.TheVariants as slots
use Rattle.noise_script.specs.declared.entry.Break.{Break}
use Rattle.link_account.specs.Speak.{Said}
use Rattle.link_account.specs.Play.{arrives}
use Rattle.link_run.specs.End.{is_released}
use Rattle.link_run.specs.Reading.{StaysOffered, BeginsUnoffered, HearingStaysOffered, SpeakingStaysOffered}
use Rattle.line_ends.proofs.Slots.{plain-sent}
use Rattle.line_ends.proofs.Words.{ArrivesInOctets, heard-owes}
use Rattle.line_ends.proofs.Saying.{information_in, IsGood, said-good}
use Rattle.line_ends.proofs.Handing.{IsOctetBreak, Holds, OfferLaws, ready, holds-served}

pub record SendLaws : Type 0 where
  pub play : ScriptsMayPlay
  pub delays : ScriptsHaveDelays
  pub carried : SamplesAreCarried
  pub one : OneIsCarried
  pub short : SendsShort
  pub back : IsSpelledBack
  pub begins : BeginsUnoffered
  pub heard : HearingStaysOffered
  pub spoken : SpeakingStaysOffered
  pub offers : OfferLaws

-- what a user hands over
breaks-octets : (script : ScriptValue) (role : Role) → All (λ (b : Break). b.length < 256) script.breaks
    → All IsOctetBreak (breaks_of script role)
breaks-octets script role h =
    let lines : List Break = filter (λ (b : Break). same_role b.role role) script.breaks in
    All-map IsOctetBreak break_line lines
    (All-filter (λ (b : Break). same_role b.role role) (λ (b : Break). b.length < 256) script.breaks h)

user-octets : (script : ScriptValue) (files : Both (List ℕ)) → AsksInOctets script → (role : Role)
    → All IsOctetBreak (of role (link_of script files)).user.breaks
user-octets script files o role = grind (arith, breaks-octets)

-- the offer that an end may send
offers-allowed : ScriptsMayPlay → (script : ScriptValue) (files : Both (List ℕ)) → IsInLimits script → (role : Role)
    → IsAllowed (of role (link_of script files)).setup.offer
offers-allowed play script files h role = grind (arith)

-- what passes was sent
passes-octets : (s : Sent) → IsPlainSent s → ArrivesInOctets (arrives s)
passes-octets s h = grind (arith)

crosses-octets : (o : Option Spoken) (heard : Heard) → Crosses o heard → ((slot : Spoken) → o ≡ Some slot → IsPlainSent slot.sent)
    → ArrivesInOctets (arrival heard)
crosses-octets o heard c f = grind (arith, passes-octets)

-- a frame that is plain and short, of octets, can be sent
short-info : (o : Option (List ℕ)) → length (unwrap_or o []) ≤ INFO → IfSome o (λ info. length info ≤ INFO)
short-info o h = grind (arith)

plain-sendable : (s : Sent) → IsPlainSent s → AreOctets (information_in s)
    → ((frame : Frame) → s ≡ slots.Frame frame → length (information_of frame) ≤ INFO) → IsSendable s
plain-sendable s p o f = grind (arith, short-info)

-- what an end says as a turn's end of it
says-good : (link : Link) (turn : ℕ) (mid : Accounts) (role : Role) (said : Said) → said_at link turn mid role ≡ Ok said → (file : List ℕ)
    → Holds file (served_at link turn mid role).account → IsGood file said
says-good link turn mid Originator said e file h =
    said-good file turn (releases link turn mid) (served_at link turn mid Originator).account said
    (ready file (served_at link turn mid Originator).account h) e
says-good link turn mid Answerer said e file h =
    said-good file turn false (served_at link turn mid Answerer).account said (ready file (served_at link turn mid Answerer).account h) e

stays-offered : SpeakingStaysOffered → (link : Link) (turn : ℕ) (mid : Accounts) (role : Role) (said : Said)
    → said_at link turn mid role ≡ Ok said → (file : List ℕ) → Holds file (served_at link turn mid role).account
    → StaysOffered file (served_at link turn mid role).account said.account
stays-offered law link turn mid Originator said e file h =
    law file turn (releases link turn mid) (served_at link turn mid Originator).account said h.offered e
stays-offered law link turn mid Answerer said e file h = law file turn false (served_at link turn mid Answerer).account said h.offered e

says-holds : SpeakingStaysOffered → (link : Link) (turn : ℕ) (mid : Accounts) (role : Role) (said : Said)
    → said_at link turn mid role ≡ Ok said → (file : List ℕ) → Holds file (served_at link turn mid role).account → Holds file said.account
says-holds law link turn mid role said e file h =
    let good : IsGood file said = says-good link turn mid role said e file h in
    let stays = stays-offered law link turn mid role said e file h in
    record { offered = stays.offered; own = subst AreOctets (sym stays.breaks) h.own; owes = good.owes }

-- a run and what its ends hold, where these are the files of their users
pub record HoldBoth (files : Role → List ℕ) (ts : List Turn) (ends : Accounts) : Type 0 where
  pub plain : AllPlain ts
  pub short : AllShort ts
  pub sendable : ((role : Role) → AreOctets (files role)) → AllSendable ts
  pub holds : (role : Role) → Holds (files role) (of role ends)

abbrev file_of : ScriptValue → Both (List ℕ) → Role → List ℕ
file_of script files role = (of role (link_of script files)).user.file

-- what ends hold once they have heard
pub mid-holds-at : SendLaws → (script : ScriptValue) (files : Both (List ℕ)) (ts : List Turn) (before : Accounts) (t : Turn)
    (mid : Accounts) → IsInLimits script → Carries (delay_of script) ts t → Hears (length ts) before t mid
    → HoldBoth (file_of script files) ts before
    → (role : Role) → Holds (file_of script files role) (of role mid)
mid-holds-at laws script files ts before t mid h c hearing k role =
    let b = k.holds role in
    let hears = (hearing role).hears in
    let arrived : ArrivesInOctets (arrival (of role t).heard) =
    crosses-octets (sent_ago (delay_of script (other role)) (other role) ts) (of role t).heard (c role)
    (λ slot e. plain-sent (other role) (delay_of script (other role)) ts slot
    (sent-ago (other role) (delay_of script (other role)) ts slot (laws.delays script h (other role)) e) k.plain) in
    let file : List ℕ = file_of script files role in
    let stays = laws.heard file (length ts) (arrival (of role t).heard) (of role before) (of role mid) b.offered hears in
    record {
      offered = stays.offered;
      own = subst AreOctets (sym stays.breaks) b.own;
      owes = heard-owes laws.back (length ts) (arrival (of role t).heard) (of role before) (of role mid) arrived b.owes hears;
    }

-- one turn more
next-turn : SendLaws → (c : Wire) (files : Both (List ℕ)) (ts : List Turn) (before : Accounts) (t : Turn) (after : Accounts)
    → IsInLimits c.script → AsksInOctets c.script
    → LineRun c (link_of c.script files) ts before → Carries (delay_of c.script) ts t
    → GoingTurn (link_of c.script files) ts before t after
    → HoldBoth (file_of c.script files) ts before → HoldBoth (file_of c.script files) (t ∷ ts) after
next-turn laws c files ts before t after h o r carries g k =
    record {
      plain = ((λ role slot e. plain role slot e), k.plain);
      short = ((λ role slot frame e f. few role slot frame e f), k.short);
      sendable = λ are. ((λ role slot e. sends role slot e (are role)), k.sendable are);
      holds = λ role. subst (Holds (file role)) (sym (g.speaking role).after_is) (after-holds role);
    }
  where
    link : Link
    link = link_of c.script files

    turn : ℕ
    turn = length ts

    file : Role → List ℕ
    file role = file_of c.script files role

    served-holds : (role : Role) → Holds (file role) (served_at link turn g.mid role).account
    served-holds role = holds-served laws.offers (of role link).user turn (is_released g.mid.orig.phase) (of role g.mid)
        (user-octets c.script files o role) (mid-holds-at laws c.script files ts before t g.mid h carries g.hearing k role)

    after-holds : (role : Role) → Holds (file role) (g.speaking role).said.account
    after-holds role = says-holds laws.spoken link turn g.mid role (g.speaking role).said (g.speaking role).says (file role)
        (served-holds role)

    good : (role : Role) → IsGood (file role) (g.speaking role).said
    good role = says-good link turn g.mid role (g.speaking role).said (g.speaking role).says (file role) (served-holds role)

    over : RunsOver link (delay_of c.script) ts before
    over = record {
      may_play = laws.play c.script files h;
      delays = laws.delays c.script h;
      carried = laws.carried c ts r.heard;
      run = r.run;
    }

    few : (role : Role) (slot : Spoken) (frame : Frame) → (of role t).sent ≡ Some slot → slot.sent ≡ slots.Frame frame
        → length (information_of frame) ≤ INFO
    few role slot frame e f =
        let allowed = offers-allowed laws.play c.script files h role in
        omega (arith, laws.short link (delay_of c.script) ts before t after over carries g role slot frame e f, allowed.tx_len_high)

    sent-of : Spoken → Option Spoken → Sent
    sent-of slot None = slot.sent
    sent-of slot (Some z) = z.sent

    same : (role : Role) (slot : Spoken) → (of role t).sent ≡ Some slot → (g.speaking role).said.sent ≡ slot.sent
    same role slot e = ap (sent-of slot) (sym (g.speaking role).sent_is ∙ e)

    plain : (role : Role) (slot : Spoken) → (of role t).sent ≡ Some slot → IsPlainSent slot.sent
    plain role slot e = subst IsPlainSent (same role slot e) (good role).sent

    sends : (role : Role) (slot : Spoken) → (of role t).sent ≡ Some slot → AreOctets (file role) → IsSendable slot.sent
    sends role slot e are =
        plain-sendable slot.sent (plain role slot e)
        (subst (λ s. AreOctets (information_in s)) (same role slot e) ((good role).octets are)) (λ frame f. few role slot frame e f)

pub holds-all : SendLaws → (c : Wire) (files : Both (List ℕ)) (ts : List Turn) (ends : Accounts) → IsInLimits c.script
    → AsksInOctets c.script → LineRun c (link_of c.script files) ts ends → HoldBoth (file_of c.script files) ts ends
holds-all laws c files [] ends h o r = grind (arith, start, offers-allowed)
holds-all laws c files (t ∷ ts) ends h o r =
    let before : LineRun c (link_of c.script files) ts r.run.0 = record { run = r.run.1; heard = r.heard.1 } in
    next-turn laws c files ts r.run.0 t ends h o before (laws.one c ts t r.heard.0) r.run.2
    (holds-all laws c files ts r.run.0 h o before)

pub octets-are-sendable : SendLaws → OctetsAreSendable
octets-are-sendable laws c files ts ends h o r = (holds-all laws c files ts ends h o.breaks_are r).sendable are
  where
    are : (role : Role) → AreOctets (file_of c.script files role)
    are Originator = o.files_are Originator
    are Answerer = o.files_are Answerer
