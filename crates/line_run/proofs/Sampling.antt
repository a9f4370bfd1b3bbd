-- The line of samples as a line: what is heard of it, and once.
use Rattle.line_run.proofs.Cited.{◌≡◌, ◌≢◌, ℕ, ◌-◌, Bool, true, List, [], ◌∷◌, length, map, drop, arith, refl, sym, ◌∙◌, ap, subst, Option}
use Rattle.line_run.proofs.Cited.{Some, None, is_some, LostIs, line_depth, line_trellis, Check, Heard, Chance, Seen, Sent, EndsOrGoesOn}
use Rattle.line_run.proofs.Cited.{EndsOrIsHeard, HeardOnce, OneIsCarried, OneLineEnd, OneLineEndBy, OneLineRun, SamplesAreCarried}
use Rattle.line_run.proofs.Cited.{ArrivesAs, HeardIn, IsHeardOf, IsHeardOver, IsHeardWell, LosesLine, Wire, bits_before, bits_of, Crosses}
use Rattle.line_run.proofs.Cited.{has_message, sent_ago, OneRun, heard_in, Accounts, Hears, Link, RunOf, Spoken, Turn, delay_of, IsOutcome}
use Rattle.line_run.proofs.Cited.{Receives, of, other, Role, Answerer, Originator}
use Rattle.std.specs.Prelude.{unwrap_or}
use Rattle.std.proofs.lemmas.Bool.{false≢true}
use Rattle.exact_decoder.specs.Surviving.Laws.{LostOnce}
use Rattle.lapm_frames.specs.declared.sent.Sent.TheVariants as sent
use Rattle.sample_line.specs.Outcomes.{is_message, IsWhatWasSent}
use Rattle.sample_line.specs.Laws.{RecordedOnce, ReceivedOnce, OneOutcome}
use Rattle.link_account.specs.Account.{check_of}
use Rattle.line_run.specs.Sampled.{LineLost, ChanceMatch}

-- a message is what arrives as something
same-message : (s : Sent) → has_message s ≡ is_message s
same-message s = grind (arith)

what-was-sent : (sender : Role) (dlci : ℕ) (s : Sent) (octets : List (List ℕ)) (patterns : List Seen)
    → IsWhatWasSent sender dlci s octets patterns → is_message s ≡ true
what-was-sent sender dlci s octets patterns h = grind (arith)

outcome-crosses : (loses : Bool) (sender : Role) (dlci : ℕ) (slot : Spoken) (octets : List (List ℕ)) (patterns : List Seen) (heard : Heard)
    → heard ≢ Chance → IsOutcome loses sender dlci slot.sent octets patterns heard → Crosses (Some slot) heard
outcome-crosses loses sender dlci slot octets patterns heard well h = grind (arith, same-message, what-was-sent)

arrives-crosses : (c : Wire) (sender : Role) (earlier upto : List Turn) (hearing : Check) (o : Option Spoken) (heard : Heard)
    → heard ≢ Chance → ArrivesAs c sender earlier upto hearing o heard → Crosses o heard
arrives-crosses c sender earlier upto hearing o heard well h = grind (arith, outcome-crosses)

pub one_is_carried : OneIsCarried
one_is_carried c ts t h role = grind (arith, arrives-crosses, other)

pub samples_are_carried : SamplesAreCarried
samples_are_carried c [] h = tt
samples_are_carried c (t ∷ ts) h = (one_is_carried c ts t h.0, samples_are_carried c ts h.1)

pub record SampleLaws : Type 0 where
  pub recorded : RecordedOnce
  pub received : ReceivedOnce
  pub outcome : OneOutcome
  pub lost : LostOnce line_trellis

arrives-once : (laws : SampleLaws) (c : Wire) (sender : Role) (earlier upto : List Turn) (hearing : Check) (o : Option Spoken)
    (heard others : Heard) → ArrivesAs c sender earlier upto hearing o heard → ArrivesAs c sender earlier upto hearing o others
    → heard ≡ others
arrives-once laws c sender earlier upto hearing None heard others h k = h ∙ sym k
arrives-once laws c sender earlier upto hearing (Some slot) heard others h k =
    let b = laws.recorded c.script sender (bits_before c sender earlier) k.before h.before k.recorded_before h.recorded_before in
    let s = laws.recorded c.script sender (bits_of c sender upto) k.samples h.samples k.recorded h.recorded in
    let r : Receives hearing sender h.before h.samples k.octets k.patterns = grind (arith) in
    let f = laws.received hearing sender h.before h.samples k.octets h.octets k.patterns h.patterns r h.received in
    laws.outcome _ sender c.dlci slot.sent h.octets h.patterns heard others h.outcome
    (subst (λ z. IsOutcome _ sender c.dlci slot.sent h.octets z others) f.1
    (subst (λ z. IsOutcome _ sender c.dlci slot.sent z k.patterns others) f.0 k.outcome))

pub heard_once : SampleLaws → HeardOnce
heard_once laws c sender ts hearing heard others h k = grind (arith, arrives-once)

-- both ends hear the same of the same slots, where they judge by the same checks
pub same-heard : (laws : SampleLaws) (c : Wire) (ts : List Turn) (t u : Turn) → ((role : Role) → (of role t).check ≡ (of role u).check)
    → HeardIn c ts t → HeardIn c ts u → heard_in t ≡ heard_in u
same-heard laws c ts t u e h k =
    ap (λ z. record { orig = z; answ = t.answ.heard }) (each Originator)
    ∙ ap (λ z. record { orig = u.orig.heard; answ = z }) (each Answerer)
  where
    each : (role : Role) → (of role t).heard ≡ (of role u).heard
    each role = grind (arith, heard_once, other)

-- the checks of turns that the same ends hear
pub same-checks : (turn others : ℕ) (before ends : Accounts) (t u : Turn) (mid later : Accounts) → before ≡ ends → Hears turn before t mid
    → Hears others ends u later → (role : Role) → (of role t).check ≡ (of role u).check
same-checks turn others before ends t u mid later e h k role = grind (arith)

same-heards : (laws : SampleLaws) (c : Wire) (link : Link) (one : OneRun) (ts us : List Turn) (ends others : Accounts)
    → length ts ≡ length us → RunOf link ts ends → RunOf link us others → IsHeardOver c ts → IsHeardOver c us
    → map heard_in ts ≡ map heard_in us
same-heards laws c link one [] [] ends others e h k p q = refl
same-heards laws c link one [] (u ∷ us) ends others e h k p q = absurd (omega (arith, e))
same-heards laws c link one (t ∷ ts) [] ends others e h k p q = absurd (omega (arith, e))
same-heards laws c link one (t ∷ ts) (u ∷ us) ends others e h k p q =
    let ih = same-heards laws c link one ts us h.0 k.0 (omega (arith, e)) h.1 k.1 p.1 q.1 in
    let same = one link ts us h.0 k.0 h.1 k.1 ih in
    let r : HeardIn c ts u = subst (λ l. HeardIn c l u) (sym same.0) q.0 in
    let s = same-heard laws c ts t u
    (same-checks (length ts) (length us) h.0 k.0 t u h.2.mid k.2.mid same.1 h.2.hearing k.2.hearing) p.0 r in
    ap (λ x. x ∷ map heard_in ts) s ∙ ap (λ l. heard_in u ∷ l) ih

pub one_line_run : SampleLaws → OneRun → OneLineRun
one_line_run laws one c link ts us ends others e h k = grind (arith, same-heards)

-- a line that is lost isn't heard, and is lost once
lost-not-heard : (laws : SampleLaws) (c : Wire) (sender : Role) (ts : List Turn) (hearing : Check) (symbol : ℕ) (heard : Heard)
    → LosesLine c sender ts symbol → IsHeardOf c sender ts hearing heard → ⊥
lost-not-heard laws c sender ts hearing symbol heard h k = go (sent_ago (delay_of c.script sender) sender ts) h.arrives k
  where
    go : (o : Option Spoken) → is_some o ≡ true
        → ArrivesAs c sender (drop (delay_of c.script sender) ts) (drop (delay_of c.script sender - 1) ts) hearing o heard → ⊥
    go None e a = false≢true e
    go (Some slot) e a =
        let s = laws.recorded c.script sender
        (bits_of c sender (drop (delay_of c.script sender - 1) ts)) h.loses.samples a.samples h.loses.recorded a.recorded in
        let l = subst (λ z. LostIs line_trellis line_depth z (Some symbol)) s h.loses.lost in
        false≢true (ap is_some (laws.lost line_depth a.samples None (Some symbol) a.not_lost l))

lost-once : (laws : SampleLaws) (c : Wire) (sender : Role) (ts : List Turn) (m n : ℕ) → LosesLine c sender ts m → LosesLine c sender ts n
    → m ≡ n
lost-once laws c sender ts m n h k =
    let s = laws.recorded c.script sender
    (bits_of c sender (drop (delay_of c.script sender - 1) ts)) h.loses.samples k.loses.samples h.loses.recorded k.loses.recorded in
    let l = subst (λ z. LostIs line_trellis line_depth z (Some m)) s h.loses.lost in
    ap (λ (o : Option ℕ). unwrap_or o 0) (laws.lost line_depth k.loses.samples (Some m) (Some n) l k.loses.lost)

well-not-chance : (laws : SampleLaws) (c : Wire) (sender : Role) (ts : List Turn) (hearing : Check) → IsHeardWell c sender ts hearing
    → IsHeardOf c sender ts hearing Chance → ⊥
well-not-chance laws c sender ts hearing h k = h.well (heard_once laws c sender ts hearing h.heard Chance h.is k)

pub one_line_end_by : SampleLaws → OneLineEndBy
one_line_end_by laws c ts checks (LineLost Originator m) (LineLost Originator n) h k =
    ap (LineLost Originator) (lost-once laws c Answerer ts m n h k)
one_line_end_by laws c ts checks (LineLost Originator m) (LineLost Answerer n) h k =
    absurd (lost-not-heard laws c Answerer ts (checks Originator) m k.0.heard h k.0.is)
one_line_end_by laws c ts checks (LineLost Originator m) (ChanceMatch Originator) h k =
    absurd (lost-not-heard laws c Answerer ts (checks Originator) m Chance h k)
one_line_end_by laws c ts checks (LineLost Originator m) (ChanceMatch Answerer) h k =
    absurd (lost-not-heard laws c Answerer ts (checks Originator) m k.0.heard h k.0.is)
one_line_end_by laws c ts checks (LineLost Answerer m) (LineLost Originator n) h k =
    absurd (lost-not-heard laws c Answerer ts (checks Originator) n h.0.heard k h.0.is)
one_line_end_by laws c ts checks (LineLost Answerer m) (LineLost Answerer n) h k =
    ap (LineLost Answerer) (lost-once laws c Originator ts m n h.1 k.1)
one_line_end_by laws c ts checks (LineLost Answerer m) (ChanceMatch Originator) h k =
    absurd (well-not-chance laws c Answerer ts (checks Originator) h.0 k)
one_line_end_by laws c ts checks (LineLost Answerer m) (ChanceMatch Answerer) h k =
    absurd (lost-not-heard laws c Originator ts (checks Answerer) m Chance h.1 k.1)
one_line_end_by laws c ts checks (ChanceMatch Originator) (LineLost Originator n) h k =
    absurd (lost-not-heard laws c Answerer ts (checks Originator) n Chance k h)
one_line_end_by laws c ts checks (ChanceMatch Originator) (LineLost Answerer n) h k =
    absurd (well-not-chance laws c Answerer ts (checks Originator) k.0 h)
one_line_end_by laws c ts checks (ChanceMatch Originator) (ChanceMatch Originator) h k = refl
one_line_end_by laws c ts checks (ChanceMatch Originator) (ChanceMatch Answerer) h k =
    absurd (well-not-chance laws c Answerer ts (checks Originator) k.0 h)
one_line_end_by laws c ts checks (ChanceMatch Answerer) (LineLost Originator n) h k =
    absurd (lost-not-heard laws c Answerer ts (checks Originator) n h.0.heard k h.0.is)
one_line_end_by laws c ts checks (ChanceMatch Answerer) (LineLost Answerer n) h k =
    absurd (lost-not-heard laws c Originator ts (checks Answerer) n Chance k.1 h.1)
one_line_end_by laws c ts checks (ChanceMatch Answerer) (ChanceMatch Originator) h k =
    absurd (well-not-chance laws c Answerer ts (checks Originator) h.0 k)
one_line_end_by laws c ts checks (ChanceMatch Answerer) (ChanceMatch Answerer) h k = refl

pub one_line_end : SampleLaws → OneLineEnd
one_line_end laws c ts ends = one_line_end_by laws c ts (λ role. check_of (of role ends))

-- what an end hears by the check that it has
heard-by : (c : Wire) (ts : List Turn) (ends : Accounts) (t : Turn) (mid : Accounts) → Hears (length ts) ends t mid → HeardIn c ts t
    → (role : Role) → IsHeardWell c (other role) ts (check_of (of role ends))
heard-by c ts ends t mid h k role =
    record {
      heard = (of role t).heard;
      is = subst (λ z. IsHeardOf c (other role) ts z (of role t).heard) (h role).check_is (k role).heard_of;
      well = (k role).well;
    }

pub ends_or_is_heard : SampleLaws → EndsOrIsHeard
ends_or_is_heard laws c ts checks (LineLost Originator m) h w = lost-not-heard laws c Answerer ts (checks Originator) m (w Originator).heard
    h (w Originator).is
ends_or_is_heard laws c ts checks (LineLost Answerer m) h w = lost-not-heard laws c Originator ts (checks Answerer) m (w Answerer).heard h.1
    (w Answerer).is
ends_or_is_heard laws c ts checks (ChanceMatch Originator) h w = well-not-chance laws c Answerer ts (checks Originator) (w Originator) h
ends_or_is_heard laws c ts checks (ChanceMatch Answerer) h w = well-not-chance laws c Originator ts (checks Answerer) (w Answerer) h.1

pub ends_or_goes_on : SampleLaws → EndsOrGoesOn
ends_or_goes_on laws c ts ends a t mid h n k = grind (arith, ends_or_is_heard, heard-by)
