-- What the frames that pass tell.
use Rattle.std.proofs.Common.{zero, suc, ◌≡◌, inl, inr, ℕ, ◌+◌, ◌-◌, ◌%◌, ◌≤◌, Bool, true, false, cond, nat_eq, nat_le, List, [], ◌∷◌, ◌++◌}
use Rattle.std.proofs.Common.{length, map, arith, length-append, refl, sym, ◌∙◌, ap, subst, Option, Some, None, Result, Ok, slice_get}
use Rattle.link_account.proofs.Names.{false≢true, nat_tests, append-nil, IsPrefixOf, Check, Role, Originator, Answerer, other, of, is_some}
use Rattle.link_account.proofs.Names.{Frame, I, Ui, Terms, ReadsAllowed, ReadsWritten, KeepsTaken, kind_of, InOrder, Kept, Brk, word_in}
use Rattle.link_account.proofs.Names.{Sent, Passed, LinkFault, Account, check_of, on_frame, Slot, Play, MayPlay}
use Rattle.link_run.proofs.Names.{Accounts, AgreesByXid, Crosses, EarlyBreaksAreIgnored, HasDelays, HearsAgreedCheck, IsCarried, IsOld}
use Rattle.link_run.proofs.Names.{JudgesByItsCheck, JudgesOnceHeard, KnownByNumber, Link, NextIsBreak, NextIsKnown, NextWasOffered}
use Rattle.link_run.proofs.Names.{NothingNew, OpensByFrames, Phase, ReleasesLast, RunOf, RunsOver, SegmentsPassLater, SendsAgreedCheck}
use Rattle.link_run.proofs.Names.{SendsBreaksTaken, SendsWhatWasOffered, Setup, Sixteen, Spoken, ThirtyTwo, Turn, agreed_check}
use Rattle.link_run.proofs.Names.{agreed_terms, arrival, first_terms, gives, has_begun, has_passed, is_released, is_xid, opens, sent_ago}
use Rattle.link_run.proofs.Names.{sent_in, spoken, told_by_play, told_by_turn}
use Rattle.lapm_frames.specs.Checked.{check_for}
use Rattle.lapm_frames.specs.Frame.{has_number}
use Rattle.link_run.proofs.Keeping.{stage, GoesOn, hears, Standing, standing, stands-heard}
use Rattle.link_run.proofs.Playing.{made, next-first, head-of, none-is-some}
use Rattle.link_run.proofs.Running.{Reaches, lines, run-reaches, hearing-reaches}
use Rattle.link_run.proofs.Ending.{Facts, PlayLaws, facts}
use Rattle.link_run.proofs.Finishing.{Over, over-run}
use Rattle.link_run.proofs.Taking.{side_with, all-taken}
use Rattle.link_run.proofs.Knowing.{rank, OnSent, IfSent, OnArrived, ago-all, came-all, SentO, SentA}
use Rattle.link_run.proofs.Following.{KnownOf, known-mid, known-run}
use Rattle.link_run.proofs.Meeting.{is_segment, is_counted, brings}
use Rattle.link_run.proofs.Joining.{Met, met-run, came}
use Rattle.lapm_frames.specs.declared.sent.Sent.TheVariants as slots

pub record KnowingLaws : Type 0 where
  pub reads : ReadsAllowed
  pub keeps : KeepsTaken
  pub written : ReadsWritten

known : (laws : KnowingLaws) (link : Link) (delay : Role → ℕ) (ts : List Turn) (ends : Accounts) → RunsOver link delay ts ends
    → KnownOf link ts ts ends
known laws link delay ts ends v = known-run laws.reads laws.keeps laws.written link delay v.may_play ts ends v.carried v.run

begun-rank : (p : Phase) → has_begun p ≡ nat_le 3 (rank p)
begun-rank p = grind (arith)

pub opens_by_frames : KnowingLaws → OpensByFrames
opens_by_frames laws link delay ts ends v role = at-role role
  where
    k : KnownOf link ts ts ends
    k = known laws link delay ts ends v

    at-role : (role : Role) → has_begun (of role ends).phase ≡ has_passed (opens role) role ts
    at-role Originator = begun-rank ends.orig.phase ∙ sym k.open_o
    at-role Answerer = begun-rank ends.answ.phase ∙ sym k.open_a

pub agrees_by_xid : KnowingLaws → AgreesByXid
agrees_by_xid laws link delay ts ends v role = at-role role
  where
    k : KnownOf link ts ts ends
    k = known laws link delay ts ends v

    at-role : (role : Role) → (of role ends).terms ≡ cond (has_passed is_xid role ts) (agreed_terms link) first_terms
    at-role Originator = k.terms_o ∙ ap (λ b. cond b (agreed_terms link) first_terms) (sym k.xid_o)
    at-role Answerer = k.terms_a ∙ ap (λ b. cond b (agreed_terms link) first_terms) (sym k.xid_a)

-- an end that has agreed has the agreed check
agreed-at : (link : Link) (a : Account) (b : Bool) → a.terms ≡ cond b (agreed_terms link) first_terms → b ≡ true
    → check_of a ≡ agreed_check link
agreed-at link a b e t = ap (λ (x : Terms). cond x.check32 ThirtyTwo Sixteen) (e ∙ ap (λ c. cond c (agreed_terms link) first_terms) t)

orig-agreed : (link : Link) (sent heard : List Turn) (ends : Accounts) → KnownOf link sent heard ends → 2 ≤ rank ends.orig.phase
    → check_of ends.orig ≡ agreed_check link
orig-agreed link sent heard ends k l = agreed-at link ends.orig (nat_le 2 (rank ends.orig.phase)) k.terms_o (grind (arith, nat_tests))

answ-agreed : (link : Link) (sent heard : List Turn) (ends : Accounts) → KnownOf link sent heard ends → 2 ≤ rank ends.orig.phase
    → check_of ends.answ ≡ agreed_check link
answ-agreed link sent heard ends k l = let m = k.met l in
    agreed-at link ends.answ (nat_le 1 (rank ends.answ.phase)) k.terms_a (grind (arith, nat_tests))

-- who sends a frame with numbers is Connected
numbered-o : (so : Setup) (r : ℕ) (frame : Frame) → has_number frame ≡ true → SentO so r frame → 2 ≤ r
numbered-o so r x e h = grind (arith)

numbered-a : (sa : Setup) (r m : ℕ) (frame : Frame) → has_number frame ≡ true → SentA sa r m frame → 2 ≤ r
numbered-a sa r m x e h = grind (arith)

-- a slot that was sent
of-slot : (P : Frame → Type 0) (o : Option Spoken) (slot : Spoken) (frame : Frame) → o ≡ Some slot → slot.sent ≡ slots.Frame frame
    → IfSent P o → P frame
of-slot P o slot frame e f h = subst (OnSent P) f (subst (IfSent P) e h)

checked-as : (o : Option Spoken) (slot s : Spoken) → o ≡ Some slot → o ≡ Some s → slot.check ≡ s.check
checked-as o slot s e k = grind (arith)

pub sends_agreed_check : KnowingLaws → SendsAgreedCheck
sends_agreed_check laws link delay ts ends t after v c g role slot frame = at-role role
  where
    k : KnownOf link (t ∷ ts) (t ∷ ts) after
    k = known-run laws.reads laws.keeps laws.written link delay v.may_play (t ∷ ts) after (c, v.carried) (ends, v.run, g)

    at-role : (role : Role) → (of role t).sent ≡ Some slot → slot.sent ≡ slots.Frame frame → has_number frame ≡ true
        → slot.check ≡ agreed_check link
    at-role Originator e f n =
        checked-as t.orig.sent slot (spoken (g.speaking Originator).said) e (g.speaking Originator).sent_is
        ∙ ap check_of (sym (g.speaking Originator).after_is)
        ∙ orig-agreed link (t ∷ ts) (t ∷ ts) after k
        (numbered-o link.orig.setup (rank after.orig.phase) frame n
        (of-slot (SentO link.orig.setup (rank after.orig.phase)) t.orig.sent slot frame e f k.sent_o.0))
    at-role Answerer e f n =
        checked-as t.answ.sent slot (spoken (g.speaking Answerer).said) e (g.speaking Answerer).sent_is
        ∙ ap check_of (sym (g.speaking Answerer).after_is)
        ∙ answ-agreed link (t ∷ ts) (t ∷ ts) after k
        (numbered-a link.answ.setup (rank after.orig.phase) (rank after.answ.phase) frame n
        (of-slot (SentA link.answ.setup (rank after.orig.phase) (rank after.answ.phase)) t.answ.sent slot frame e f k.sent_a.0))

pub hears_agreed_check : KnowingLaws → HearsAgreedCheck
hears_agreed_check laws link delay ts ends t mid v c h role frame = at-role role
  where
    k : KnownOf link ts ts ends
    k = known laws link delay ts ends v

    at-role : (role : Role) → (of role t).heard ≡ Passed (slots.Frame frame) → has_number frame ≡ true
        → (of role t).check ≡ agreed_check link
    at-role Originator e n =
        let P = SentA link.answ.setup (rank ends.orig.phase) (rank ends.answ.phase) in
        let s : P frame = subst (λ x. OnArrived P (arrival x)) e (came-all P delay Answerer ts t.orig.heard k.sent_a (c Originator)) in
        (h Originator).check_is
        ∙ orig-agreed link ts ts ends k (numbered-a link.answ.setup (rank ends.orig.phase) (rank ends.answ.phase) frame n s)
    at-role Answerer e n =
        let P = SentO link.orig.setup (rank ends.orig.phase) in
        let s : P frame = subst (λ x. OnArrived P (arrival x)) e (came-all P delay Originator ts t.answ.heard k.sent_o (c Answerer)) in
        (h Answerer).check_is ∙ answ-agreed link ts ts ends k (numbered-o link.orig.setup (rank ends.orig.phase) frame n s)

-- all slots with numbers that a role sent in these turns have that check
abbrev pub HasCheck : Check → Option Spoken → Type 0
HasCheck check o = (slot : Spoken) (frame : Frame) → o ≡ Some slot → slot.sent ≡ slots.Frame frame → has_number frame ≡ true
    → slot.check ≡ check

abbrev pub AllChecked : Check → Role → List Turn → Type 0
AllChecked check role [] = Unit {0}
AllChecked check role (t ∷ ts) = HasCheck check (of role t).sent × AllChecked check role ts

all-checked : KnowingLaws → (link : Link) (delay : Role → ℕ) → MayPlay link.orig.setup link.answ.setup → HasDelays delay
    → (role : Role) (ts : List Turn) (ends : Accounts) → IsCarried delay ts → RunOf link ts ends → AllChecked (agreed_check link) role ts
all-checked laws link delay m d role [] ends c h = tt
all-checked laws link delay m d role (t ∷ ts) ends c h = (
  sends_agreed_check laws link delay ts h.0 t ends (record { may_play = m; delays = d; carried = c.1; run = h.1 }) c.0 h.2 role,
  all-checked laws link delay m d role ts h.0 c.1 h.1,
)

ago-checked : (check : Check) (role : Role) (k : ℕ) (ts : List Turn) → AllChecked check role ts
    → HasCheck check (sent_in role (slice_get ts k))
ago-checked check role k [] h = λ slot frame e. absurd (false≢true (ap is_some e))
ago-checked check role zero (t ∷ ts) h = h.0
ago-checked check role (suc k) (t ∷ ts) h = ago-checked check role k ts h.1

-- what was sent in these turns, where so much is known of both ends
judges-all : KnowingLaws → (link : Link) (delay : Role → ℕ) (ts heard : List Turn) (before ends : Accounts) → RunsOver link delay ts before
    → KnownOf link ts heard ends → (ago : ℕ) (role : Role) (slot : Spoken) (frame : Frame) → sent_ago ago (other role) ts ≡ Some slot
    → slot.sent ≡ slots.Frame frame → check_for slot.check frame ≡ check_for (check_of (of role ends)) frame
judges-all laws link delay ts heard before ends v k ago role slot frame e f = go (has_number frame) refl
  where
    at-role : (role : Role) → has_number frame ≡ true → sent_ago ago (other role) ts ≡ Some slot
        → check_of (of role ends) ≡ agreed_check link
    at-role Originator n q =
        let P = SentA link.answ.setup (rank ends.orig.phase) (rank ends.answ.phase) in
        orig-agreed link ts heard ends k
        (numbered-a link.answ.setup (rank ends.orig.phase) (rank ends.answ.phase) frame n
        (of-slot P (sent_ago ago Answerer ts) slot frame q f (ago-all P Answerer (ago - 1) ts k.sent_a)))
    at-role Answerer n q =
        let P = SentO link.orig.setup (rank ends.orig.phase) in
        answ-agreed link ts heard ends k
        (numbered-o link.orig.setup (rank ends.orig.phase) frame n
        (of-slot P (sent_ago ago Originator ts) slot frame q f (ago-all P Originator (ago - 1) ts k.sent_o)))

    go : (b : Bool) → has_number frame ≡ b → cond b slot.check Sixteen ≡ cond b (check_of (of role ends)) Sixteen
    go false n = refl
    go true n = ago-checked (agreed_check link) (other role) (ago - 1) ts
        (all-checked laws link delay v.may_play v.delays (other role) ts before v.carried v.run) slot frame e f n ∙ sym (at-role role n e)

pub judges_by_its_check : KnowingLaws → JudgesByItsCheck
judges_by_its_check laws link delay ts ends v ago role slot frame e f =
    judges-all laws link delay ts ts ends ends v (known laws link delay ts ends v) ago role slot frame e f

pub judges_once_heard : KnowingLaws → JudgesOnceHeard
judges_once_heard laws link delay ts ends t mid v c h ago role slot frame e f =
    judges-all laws link delay ts (t ∷ ts) ends mid v
    (known-mid laws.reads laws.keeps laws.written link delay ts ends t mid v.may_play v.run (known laws link delay ts ends v) c h) ago role
    slot frame e f

-- the slot that passes stands first on its line
pub record First (line : List Slot) (s : Sent) : Type 0 where
  pub slot : Slot
  pub rest : List Slot
  pub is : line ≡ slot ∷ rest
  pub sent_is : slot.sent ≡ s

first-of : (role : Role) (line : List Slot) (t : Option Turn) (left : List (Option Spoken)) (s : Sent)
    → told_by_play line ≡ map told_by_turn (made role t ++ left) → Crosses (sent_in role t) (Passed s) → First line s
first-of role line None left s e c = absurd c
first-of role [] (Some t) left s e c = absurd (none-is-some (told_by_turn (of role t).sent) (map told_by_turn left) e)
first-of role (slot ∷ rest) (Some t) left s e c =
    record {
      slot = slot;
      rest = rest;
      is = refl;
      sent_is =
          of-turn (of role t).sent
          (head-of (Some (slot.sent, slot.number)) (told_by_turn (of role t).sent) (told_by_play rest) (map told_by_turn left) e).0 c;
    }
  where
    of-turn : (o : Option Spoken) → Some (slot.sent, slot.number) ≡ told_by_turn o → Crosses o (Passed s) → slot.sent ≡ s
    of-turn o q d = grind (arith)

-- nothing of what stands first is new where all was taken and given
old-segment : (from to : Account) (line tl : List Slot) (ns nr : ℕ) (pf : Bool) (info : List ℕ) → First line (slots.Frame (I ns nr pf info))
    → NextIsKnown (side_with from line) (side_with to tl) → NextWasOffered (side_with from line) (side_with to tl)
    → has_begun to.phase ≡ true → length from.outgoing.pieces ≤ length to.incoming.taken
    → (kind_of ns to.incoming ≡ InOrder → ⊥) × (kind_of ns to.incoming ≡ Kept → ⊥)
old-segment from to line tl ns nr pf info f by offered begun all =
    let e : line ≡ (record { sent = slots.Frame (I ns nr pf info); number = f.slot.number; told = f.slot.told }) ∷ f.rest =
    f.is ∙ ap (λ z. (record { sent = z; number = f.slot.number; told = f.slot.told }) ∷ f.rest) f.sent_is in
    let k = by ns nr pf info f.slot.number f.slot.told f.rest e begun in
    let o = offered ns nr pf info f.slot.number f.slot.told f.rest e in
    (λ z. omega (arith, k.0 z, o.1, all), λ z. omega (arith, (k.2 z).0, o.1, all))

old-break : (from to : Account) (line tl : List Slot) (command pf : Bool) (info : List ℕ) → First line (slots.Frame (Ui command pf info))
    → NextIsBreak (side_with from line) (side_with to tl) → length from.own_breaks.lengths ≤ length to.their_breaks.lengths
    → (number length_octet : ℕ) → word_in info ≡ Ok (Brk number length_octet) → gives number length_octet to.their_breaks ≡ None
old-break from to line tl command pf info f by all number length_octet w =
    let e : line ≡ (record { sent = slots.Frame (Ui command pf info); number = f.slot.number; told = f.slot.told }) ∷ f.rest =
    f.is ∙ ap (λ z. (record { sent = z; number = f.slot.number; told = f.slot.told }) ∷ f.rest) f.sent_is in
    let k = by command pf info number length_octet f.slot.number f.slot.told f.rest e w in
    go (nat_eq number (length to.their_breaks.lengths % 2))
    (let last : length to.their_breaks.lengths ≡ f.slot.number + 1 = omega (arith, k.taken, k.given, all) in
    odd number f.slot.number (length to.their_breaks.lengths) k.number_is last)
  where
    odd : (number n m : ℕ) → number ≡ n % 2 → m ≡ n + 1 → nat_eq number (m % 2) ≡ false
    odd number n m p q = grind (arith)

    go : (b : Bool) → b ≡ false → cond b (Some length_octet) None ≡ None
    go x z = grind (arith)

old-frame : (from to : Account) (line tl : List Slot) (frame : Frame) → First line (slots.Frame frame)
    → NextIsKnown (side_with from line) (side_with to tl) → NextWasOffered (side_with from line) (side_with to tl)
    → NextIsBreak (side_with from line) (side_with to tl)
    → has_begun to.phase ≡ true → length from.outgoing.pieces ≤ length to.incoming.taken
    → length from.own_breaks.lengths ≤ length to.their_breaks.lengths → IsOld to frame
old-frame from to line tl (I ns nr pf info) f by offered breaks begun all given =
    old-segment from to line tl ns nr pf info f by offered begun all
old-frame from to line tl (Ui command pf info) f by offered breaks begun all given =
    old-break from to line tl command pf info f breaks given
old-frame from to line tl frame f by offered breaks begun all given = tt

-- what was taken is no more where it begins what was all taken
no-more : {X : Type 0} (xs ys zs more : List X) → ys ≡ xs ++ more → IsPrefixOf ys zs → length zs ≤ length xs → ys ≡ xs
no-more {X} xs ys zs more e p h = go more e (omega (arith, h, ap length e, ap length p.1, length-append ys p.0, length-append xs more))
  where
    go : (more : List X) → ys ≡ xs ++ more → length more ≤ 0 → ys ≡ xs
    go [] e l = e ∙ append-nil xs
    go (m ∷ more) e l = absurd (omega (arith, l))

pub record OldLaws : Type 0 where
  pub knowing : KnowingLaws
  pub plays : PlayLaws
  pub by_number : KnownByNumber
  pub offered : SendsWhatWasOffered
  pub breaks : SendsBreaksTaken

pub released-stage : (p : Phase) → is_released p ≡ true → 2 ≤ stage p
released-stage p e = grind (arith)

pub stage-begun : (p : Phase) → 1 ≤ stage p → has_begun p ≡ true
stage-begun p h = grind (arith)

pub releases_last : OldLaws → ReleasesLast
releases_last laws link delay ts ends t mid v c k released role = at-role role
  where
    m : MayPlay link.orig.setup link.answ.setup
    m = v.may_play

    p : Reaches link ends (lines delay ts)
    p = run-reaches laws.knowing.reads laws.knowing.keeps link delay ts ends v.delays v.carried v.run

    two : 2 ≤ stage ends.orig.phase
    two = released-stage ends.orig.phase released

    over : Over ends.orig ends.answ
    over = over-run laws.knowing.reads laws.knowing.keeps laws.plays link delay m v.delays ts ends v.carried v.run two

    f : Facts ends.orig ends.answ
    f = facts laws.plays link m ends _ p

    g : Facts mid.orig mid.answ
    g = facts laws.plays link m mid _ (hearing-reaches link delay ts ends (length ts) t mid v.delays p c k)

    by : NextIsKnown (side_with ends.orig p.lo) (side_with ends.answ p.la)
        × NextIsKnown (side_with ends.answ p.la) (side_with ends.orig p.lo)
    by = subst (λ (q : Play). NextIsKnown q.originator q.answerer × NextIsKnown q.answerer q.originator) p.leads.led
        (laws.by_number link.orig.setup link.answ.setup p.leads.events m)

    offered : NextWasOffered (side_with ends.orig p.lo) (side_with ends.answ p.la)
        × NextWasOffered (side_with ends.answ p.la) (side_with ends.orig p.lo)
    offered = subst (λ (q : Play). NextWasOffered q.originator q.answerer × NextWasOffered q.answerer q.originator) p.leads.led
        (laws.offered link.orig.setup link.answ.setup p.leads.events m)

    breaks : NextIsBreak (side_with ends.orig p.lo) (side_with ends.answ p.la)
        × NextIsBreak (side_with ends.answ p.la) (side_with ends.orig p.lo)
    breaks = subst (λ (q : Play). NextIsBreak q.originator q.answerer × NextIsBreak q.answerer q.originator) p.leads.led
        (laws.breaks link.orig.setup link.answ.setup p.leads.events)

    stands : standing mid.orig ≡ standing ends.orig
    stands = stands-heard (length ts) (arrival t.orig.heard) ends.orig mid.orig two (k Originator).hears

    -- what the answerer takes
    came : GoesOn ends.answ mid.answ
    came = hears laws.knowing.reads laws.knowing.keeps (length ts) (arrival t.answ.heard) ends.answ mid.answ (k Answerer).hears

    given : length ends.orig.own_breaks.lengths ≤ length ends.answ.their_breaks.lengths
    given = omega (arith, over.o_breaks, f.answered_o)

    more-taken : GoesOn ends.answ mid.answ → mid.answ.incoming.taken ≡ ends.answ.incoming.taken
    more-taken (inl s) =
        no-more ends.answ.incoming.taken mid.answ.incoming.taken mid.orig.outgoing.pieces s.taken s.taken_are g.taken_a
        (omega (arith, all-taken ends over f, ap (λ (z : Standing). length z.outgoing.pieces) stands))
    more-taken (inr e) = absurd (omega (arith, e.was, over.a_linked))

    more-breaks : GoesOn ends.answ mid.answ → mid.answ.their_breaks.lengths ≡ ends.answ.their_breaks.lengths
    more-breaks (inl s) =
        no-more ends.answ.their_breaks.lengths mid.answ.their_breaks.lengths mid.orig.own_breaks.lengths s.theirs s.theirs_are g.given_a
        (omega (arith, given, ap (λ (z : Standing). length z.own_breaks.lengths) stands))
    more-breaks (inr e) = absurd (omega (arith, e.was, over.a_linked))

    at-role : (role : Role) → NothingNew (of role ends) (of role t).heard (of role mid)
    at-role Originator = record {
      old = λ frame e.
          let first = first-of Answerer p.la (slice_get ts (delay Answerer - 1)) _ (slots.Frame frame)
          (next-first Answerer (delay Answerer) ts p.la (v.delays Answerer) p.answ_line)
          (subst (Crosses (sent_ago (delay Answerer) Answerer ts)) e (c Originator)) in
          old-frame ends.answ ends.orig p.la p.lo frame first by.1 offered.1 breaks.1
          (stage-begun ends.orig.phase (omega (arith, two))) over.a_taken over.a_breaks;
      taken = ap (λ (z : Standing). z.incoming.taken) stands;
      breaks = ap (λ (z : Standing). z.their_breaks.lengths) stands;
    }
    at-role Answerer = record {
      old = λ frame e.
          let first = first-of Originator p.lo (slice_get ts (delay Originator - 1)) _ (slots.Frame frame)
          (next-first Originator (delay Originator) ts p.lo (v.delays Originator) p.orig_line)
          (subst (Crosses (sent_ago (delay Originator) Originator ts)) e (c Answerer)) in
          old-frame ends.orig ends.answ p.lo p.la frame first by.0 offered.0 breaks.0 (stage-begun ends.answ.phase over.a_linked)
          (all-taken ends over f) given;
      taken = more-taken came;
      breaks = more-breaks came;
    }

-- what is no break's time is ignored
ignores : (p : Phase) (command pf : Bool) (info : List ℕ) (turn : ℕ) (a : Account) → has_begun p ≡ false
    → on_frame p (Ui command pf info) turn a ≡ Ok a
ignores p command pf info turn a e = grind (arith)

pub same-ok : (r : Result Account LinkFault) (x y : Account) → r ≡ Ok x → r ≡ Ok y → x ≡ y
same-ok r x y e k = grind (arith)

pub early_breaks_are_ignored : KnowingLaws → EarlyBreaksAreIgnored
early_breaks_are_ignored laws link delay ts ends t mid v c k role command pf info closed e = grind
    (arith, opens_by_frames, same-ok, ignores)

pub segments_pass_later : KnowingLaws → SegmentsPassLater
segments_pass_later laws link delay ts ends t v c role ns nr pf info e =
    sym (opens_by_frames laws link delay ts ends v role) ∙ at-role role e
  where
    m : Met ts ends.orig ends.answ
    m = met-run laws.reads laws.keeps link delay v.may_play ts ends v.carried v.run

    at-role : (role : Role) → (of role t).heard ≡ Passed (slots.Frame (I ns nr pf info)) → has_begun (of role ends).phase ≡ true
    at-role Originator q =
        stage-begun ends.orig.phase
        (m.segments (came is_segment delay Answerer ts t.orig.heard (c Originator) (ap (λ h. brings is_segment (arrival h)) q)))
    at-role Answerer q = stage-begun ends.answ.phase
        (m.up (m.froms (came is_counted delay Originator ts t.answ.heard (c Answerer) (ap (λ h. brings is_counted (arrival h)) q))))
