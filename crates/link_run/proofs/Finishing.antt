-- Once the originator was told to release, nothing of both files or of any break is left; so done means whole.
use Rattle.std.proofs.lemmas.Bool.{and_parts}
use Rattle.link_run.proofs.Names.{◌≡◌, ℕ, zero, suc, ◌≤◌, ◌||◌, Bool, true, false, List, [], ◌∷◌, ◌++◌, length, arith, length-append, refl}
use Rattle.link_run.proofs.Names.{sym, ◌∙◌, ap, subst, Option, None, Ok, concat, at, append-nil, IsPrefixOf, Role, Originator, Answerer, of}
use Rattle.link_run.proofs.Names.{ReadsAllowed, KeepsTaken, Account, is_connected, wants, after_given, Said, MayPlay, Phase, Setup}
use Rattle.link_run.proofs.Names.{HasDelays, IsCarried, User, delivered, has_finished, is_closed, is_released, offered_at, offered_times}
use Rattle.link_run.proofs.Names.{served, DoneIsWhole, HoldWhole, Accounts, Hears, Link, RunOf, Turn, arrival, finished_at, releases}
use Rattle.link_run.proofs.Names.{said_at, served_at, served_ends}
use Rattle.std.proofs.Common.{not}
use Rattle.link_run.proofs.Keeping.{stage, GoesOn, hears, standing, stands-heard}
use Rattle.link_run.proofs.Speaking.{Ledger, Speaks, Keeps_on, Releases, stands-spoken}
use Rattle.link_run.proofs.Serving.{Waiting, served-alone, busy-alone}
use Rattle.link_run.proofs.Playing.{then-leads, serves}
use Rattle.link_run.proofs.Running.{begun, Reaches, speaks-at, run-handed, hearing-waits, hearing-reaches, run-reaches}
use Rattle.link_run.proofs.Cutting.{linked-stage}
use Rattle.link_run.proofs.Ending.{AtBoth, kept-heard, kept-run, HasSetup, setups-kept, HasCut, cuts-kept, Facts, PlayLaws, facts}
use Rattle.link_run.proofs.Ending.{allowed-both}
use Rattle.link_run.specs.Run as run

neither : (b c : Bool) → not (b || c) ≡ true → (b ≡ false) × (c ≡ false)
neither x c e = grind (arith)

-- an end that has finished
pub record Finished (a : Account) : Type 0 where
  pub linked : is_connected a.phase ≡ true
  pub ended : a.outgoing.ended ≡ true
  pub front : a.outgoing.front ≡ length a.outgoing.pieces
  pub answered : length a.own_breaks.lengths ≤ a.own_breaks.answered

finished : (u : User) (turn : ℕ) (a : Account) → has_finished u turn a ≡ true → Finished a
finished u turn a e = grind (arith, and_parts, neither)

-- what holds of both ends from then on
pub record Over (o a : Account) : Type 0 where
  pub o_ended : o.outgoing.ended ≡ true
  pub o_front : o.outgoing.front ≡ length o.outgoing.pieces
  pub o_breaks : length o.own_breaks.lengths ≤ o.own_breaks.answered
  pub a_linked : 1 ≤ stage a.phase
  pub a_ended : a.outgoing.ended ≡ true
  pub a_taken : length a.outgoing.pieces ≤ length o.incoming.taken
  pub a_breaks : length a.own_breaks.lengths ≤ length o.their_breaks.lengths

-- the originator's part stands, and the answerer's file and breaks are no more than before
pub record SameLeft (a b : Account) : Type 0 where
  pub linked : 1 ≤ stage a.phase → 1 ≤ stage b.phase
  pub ended : b.outgoing.ended ≡ a.outgoing.ended
  pub pieces : b.outgoing.pieces ≡ a.outgoing.pieces
  pub lengths : b.own_breaks.lengths ≡ a.own_breaks.lengths

still-over : (o p a b : Account) → Over o a → standing p ≡ standing o → SameLeft a b → Over p b
still-over o p a b h s l = grind (arith)

heard-left : (a b : Account) → 1 ≤ stage a.phase → GoesOn a b → SameLeft a b
heard-left a b linked x = grind (arith)

spoken-left : (a b : Account) → Speaks false a b → SameLeft a b
spoken-left a b x = grind (arith)

-- nothing is offered once the file has ended
pub offers-none : (n : ℕ) (file : List ℕ) (a : Account) → wants a ≡ None → offered_times n file a ≡ a
offers-none zero file a e = refl
offers-none (suc n) file a e = ap (λ w. offered_times n file (offered_at file a w)) e ∙ offers-none n file a e

pub ended-wants : (a : Account) → a.outgoing.ended ≡ true → wants a ≡ None
ended-wants a e = grind (arith)

-- serving an end whose file has ended, once the originator was told to release
pub record Idles (a b : Account) : Type 0 where
  pub outgoing : b.outgoing ≡ a.outgoing
  pub taken : b.incoming.taken ≡ a.incoming.taken
  pub own : b.own_breaks ≡ a.own_breaks
  pub theirs : b.their_breaks ≡ a.their_breaks
  pub phase : b.phase ≡ a.phase

given-idles : (a : Account) → Idles a (after_given (delivered a))
given-idles a = grind (arith)

served-idles : (u : User) (turn : ℕ) (a : Account) → a.outgoing.ended ≡ true → Idles a (served u turn true a).account
served-idles u turn a e = grind (arith, given-idles, busy-alone, offers-none, ended-wants)

-- of the originator, what is delivered isn't part of what stands
idles-over : (o p a b : Account) → Over o a → Idles o p → Idles a b → Over p b
idles-over o p a b h i l = grind (arith)

over-heard : (reads : ReadsAllowed) (keeps : KeepsTaken) (turn : ℕ) (before : Accounts) (t : Turn) (mid : Accounts)
    → 2 ≤ stage before.orig.phase
    → Over before.orig before.answ → Hears turn before t mid → Over mid.orig mid.answ
over-heard reads keeps turn before t mid s h k =
    still-over before.orig mid.orig before.answ mid.answ h
    (stands-heard turn (arrival t.orig.heard) before.orig mid.orig s (k Originator).hears)
    (heard-left before.answ mid.answ h.a_linked (hears reads keeps turn (arrival t.answ.heard) before.answ mid.answ (k Answerer).hears))

-- both ends have been served
abbrev pub both_served : Link → ℕ → Accounts → Accounts
both_served link turn mid =
    record { orig = (served_at link turn mid Originator).account; answ = (served_at link turn mid Answerer).account }

served-reaches : (link : Link) (turn : ℕ) (mid : Accounts) (line : Role → List (Option run.Spoken)) → Reaches link mid line
    → ((r : Role) → Waiting (of r mid)) → Reaches link (both_served link turn mid) line
served-reaches link turn mid line p w =
    let s = both_served link turn mid in
    let r = is_released mid.orig.phase in
    record {
      lo = p.lo;
      la = p.la;
      leads = then-leads (begun link) (at Originator mid.orig p.lo mid.answ p.la) (at Originator s.orig p.lo s.answ p.la) p.leads
          (then-leads (at Originator mid.orig p.lo mid.answ p.la) (at Originator s.orig p.lo mid.answ p.la)
          (at Originator s.orig p.lo s.answ p.la)
          (serves Originator link.orig.user turn r mid.orig mid.answ p.lo p.la (w Originator))
          (serves Answerer link.answ.user turn r mid.answ s.orig p.la p.lo (w Answerer)));
      orig_line = p.orig_line;
      answ_line = p.answ_line;
    }

-- where the originator is released
released-at : (p : Phase) → is_closed p ≡ false → 2 ≤ stage p → is_released p ≡ true
released-at p e h = grind (arith)

over-going : (link : Link) (turn : ℕ) (mid : Accounts) (o a : Said) → is_closed mid.orig.phase ≡ false
    → (2 ≤ stage mid.orig.phase → Over mid.orig mid.answ)
    → Facts (both_served link turn mid).orig (both_served link turn mid).answ
    → said_at link turn mid Originator ≡ Ok o → Speaks (releases link turn mid) (both_served link turn mid).orig o.account
    → Speaks false (both_served link turn mid).answ a.account
    → 2 ≤ stage o.account.phase → Over o.account a.account
over-going link turn mid o a going h f e (Keeps_on k) l two =
    let s = both_served link turn mid in
    let served-phase : stage s.orig.phase ≡ stage mid.orig.phase =
    ap (λ (b : Account). stage b.phase) (served-alone link.orig.user turn (is_released mid.orig.phase) mid.orig)
    ∙ ap stage (delivered-phase mid.orig) in
    let before : 2 ≤ stage s.orig.phase = omega (arith, two, ap (λ (z : Ledger). stage z.phase) k) in
    let m : 2 ≤ stage mid.orig.phase = omega (arith, before, served-phase) in
    let over = h m in
    let released = released-at mid.orig.phase going m in
    let io : Idles mid.orig s.orig =
    subst (λ r. Idles mid.orig (served link.orig.user turn r mid.orig).account) (sym released)
    (served-idles link.orig.user turn mid.orig over.o_ended) in
    let ia : Idles mid.answ s.answ =
    subst (λ r. Idles mid.answ (served link.answ.user turn r mid.answ).account) (sym released)
    (served-idles link.answ.user turn mid.answ over.a_ended) in
    still-over s.orig o.account s.answ a.account (idles-over mid.orig s.orig mid.answ s.answ over io ia)
    (stands-spoken turn (releases link turn mid) s.orig o before e) (spoken-left s.answ a.account l)
  where
    delivered-phase : (x : Account) → (delivered x).phase ≡ x.phase
    delivered-phase x = grind (arith)
over-going link turn mid o a going h f e (Releases on role linked k stand) l two =
    let s = both_served link turn mid in
    let both = and_parts (finished_at link turn (served_ends link turn mid) Originator)
    (finished_at link turn (served_ends link turn mid) Answerer) on in
    let x = finished link.orig.user turn s.orig both.0 in
    let y = finished link.answ.user turn s.answ both.1 in
    still-over s.orig o.account s.answ a.account (record {
      o_ended = x.ended;
      o_front = x.front;
      o_breaks = x.answered;
      a_linked = omega (arith, linked-stage s.answ.phase y.linked);
      a_ended = y.ended;
      a_taken = omega (arith, y.front, f.acked_a);
      a_breaks = omega (arith, y.answered, f.answered_a);
    }) stand (spoken-left s.answ a.account l)

pub over-run : (reads : ReadsAllowed) (keeps : KeepsTaken) (laws : PlayLaws) (link : Link) (delay : Role → ℕ)
    → MayPlay link.orig.setup link.answ.setup → HasDelays delay → (ts : List Turn) (ends : Accounts) → IsCarried delay ts
    → RunOf link ts ends
    → 2 ≤ stage ends.orig.phase → Over ends.orig ends.answ
over-run reads keeps laws link delay m some [] ends c h two = absurd (omega (arith, two, ap (λ (e : Accounts). stage e.orig.phase) h))
over-run reads keeps laws link delay m some (t ∷ ts) ends c h two =
    let before = h.0 in
    let g = h.2 in
    let turn = length ts in
    let reached = hearing-reaches link delay ts before turn t g.mid some
    (run-reaches reads keeps link delay ts before some c.1 h.1) c.0 g.hearing in
    let waiting = hearing-waits reads keeps turn before t g.mid (run-handed reads keeps link ts before h.1) g.hearing in
    let f = facts laws link m (both_served link turn g.mid) _ (served-reaches link turn g.mid _ reached waiting) in
    let ko = g.speaking Originator in
    let ka = g.speaking Answerer in
    let mids : 2 ≤ stage g.mid.orig.phase → Over g.mid.orig g.mid.answ = λ z.
    let earlier = was-released (hears reads keeps turn (arrival t.orig.heard) before.orig g.mid.orig (g.hearing Originator).hears)
    (not-closed g.mid.orig.phase g.going) z in
    over-heard reads keeps turn before t g.mid earlier (over-run reads keeps laws link delay m some ts before c.1 h.1 earlier) g.hearing in
    subst (λ (e : Accounts). Over e.orig e.answ) (sym (same-ends ends ko.said.account ka.said.account ko.after_is ka.after_is))
    (over-going link turn g.mid ko.said ka.said g.going mids f ko.says (speaks-at link turn g.mid Originator ko.said ko.says)
    (speaks-at link turn g.mid Answerer ka.said ka.says)
    (subst (λ (x : Account). 2 ≤ stage x.phase) ko.after_is two))
  where
    not-closed : (p : Phase) → is_closed p ≡ false → stage p ≤ 2
    not-closed p e = grind (arith)

    was-released : {x y : Account} → GoesOn x y → stage y.phase ≤ 2 → 2 ≤ stage y.phase → 2 ≤ stage x.phase
    was-released x low high = grind (arith)

    same-ends : (e : Accounts) (x y : Account) → e.orig ≡ x → e.answ ≡ y → e ≡ record { orig = x; answ = y }
    same-ends e x y p q = ap (λ z. record { orig = z; answ = e.answ }) p ∙ ap (λ z. record { orig = x; answ = z }) q

-- a prefix that isn't shorter is the whole
whole-prefix : {X : Type 0} (xs ys : List X) → IsPrefixOf xs ys → length ys ≤ length xs → xs ≡ ys
whole-prefix {X} xs ys p h = go p.0 p.1
  where
    go : (rest : List X) → xs ++ rest ≡ ys → xs ≡ ys
    go [] e = sym (append-nil xs) ∙ e
    go (z ∷ rest) e = absurd (omega (arith, h, ap length e, length-append xs (z ∷ rest)))

whole : (link : Link) (mid : Accounts) → Over mid.orig mid.answ → Facts mid.orig mid.answ → AtBoth (HasCut link) mid → HoldWhole link mid
whole link mid h f c Originator = assumption (
  ap concat (whole-prefix mid.orig.incoming.taken mid.answ.outgoing.pieces f.taken_o h.a_taken) ∙ (c Answerer).cut.whole h.a_ended,
  whole-prefix mid.orig.their_breaks.lengths mid.answ.own_breaks.lengths f.given_o h.a_breaks,
)
whole link mid h f c Answerer = record {
  file_is = ap concat (whole-prefix mid.answ.incoming.taken mid.orig.outgoing.pieces f.taken_a (omega (arith, f.acked_o, h.o_front)))
      ∙ (c Originator).cut.whole h.o_ended;
  breaks_are = whole-prefix mid.answ.their_breaks.lengths mid.orig.own_breaks.lengths f.given_a (omega (arith, h.o_breaks, f.answered_o));
}

closed-stage : (p : Phase) → is_closed p ≡ true → stage p ≡ 3
closed-stage p e = grind (arith)

pub done_is_whole : ReadsAllowed → KeepsTaken → PlayLaws → DoneIsWhole
done_is_whole reads keeps laws link delay ts ends t mid v n k =
    let turn = length ts in
    let m = v.may_play in
    let reached = hearing-reaches link delay ts ends turn t mid v.delays
    (run-reaches reads keeps link delay ts ends v.delays v.carried v.run) n k.hearing in
    let kept = cuts-kept link (allowed-both link m) in
    let role = ap (λ (s : Setup). s.role) (kept-run reads keeps (HasSetup link) link (setups-kept link) ts ends v.run Originator)
    ∙ m.originates in
    let two = hung-up (hears reads keeps turn (arrival t.orig.heard) ends.orig mid.orig (k.hearing Originator).hears)
    (closed-stage mid.orig.phase k.done) role in
    whole link mid (over-heard reads keeps turn ends t mid two
    (over-run reads keeps laws link delay m v.delays ts ends v.carried v.run two) k.hearing)
    (facts laws link m mid _ reached)
    (kept-heard reads keeps (HasCut link) link kept turn ends t mid (kept-run reads keeps (HasCut link) link kept ts ends v.run) k.hearing)
  where
    hung-up : {x y : Account} → GoesOn x y → stage y.phase ≡ 3 → x.setup.role ≡ Originator → 2 ≤ stage x.phase
    hung-up x e r = grind (arith)
