-- What a link came to over a channel in so many rounds is one thing.
use Rattle.link_pair.proofs.Names.{◌≡◌, ◌≢◌, ◌⊎◌, inl, inr, ℕ, ◌<◌, List, ◌∷◌, length, arith, refl, sym, ◌∙◌, ap, subst, compare, left_of}
use Rattle.link_pair.proofs.Names.{left-is, RunEnd, IsDone, LinkLost, NotDetected, Left, Wire, HeardIn, LineRun, LineEnd, EndsLine}
use Rattle.link_pair.proofs.Names.{check_of, Progress, Ended, last_ends, IsByLink, HearsIdly, HasEnded, Lasts, hearing-of, Outcome, Going}
use Rattle.link_pair.proofs.Names.{Done, Broken, TurnIs, Link, Accounts, Turn, Hears, trace_text, of, other, Role, Originator, Answerer}
use Rattle.shared_terms.specs.declared.fault.LinkFault.TheVariants as faults
use Rattle.link_run.specs.Laws.{heard_in, OneOutcome}
use Rattle.line_run.specs.LineLaws.{HeardOnce, OneLineRun, EndsOrIsHeard}
use Rattle.line_run.proofs.Resulting.{done-not, broken-not, Cut, cut}
use Rattle.line_run.specs.Ends.{Leaves, EndsBy}

pub record SameLaws : Type 0 where
  pub heard : HeardOnce
  pub run : OneLineRun
  pub either : EndsOrIsHeard
  pub outcome : OneOutcome

-- what both ends hear in a turn, by the checks that they had
pub well-heard : (c : Wire) (ts : List Turn) (ends : Accounts) (t : Turn) (mid : Accounts) → Hears (length ts) ends t mid → HeardIn c ts t
    → HearsIdly c ts ends
well-heard c ts ends t mid h k role = grind (arith)

same-heard : (laws : SameLaws) (c : Wire) (ts : List Turn) (ends : Accounts) (t u : Turn) (mid later : Accounts)
    → Hears (length ts) ends t mid → Hears (length ts) ends u later → HeardIn c ts t → HeardIn c ts u → heard_in t ≡ heard_in u
same-heard laws c ts ends t u mid later h k p q =
    ap (λ z. record { orig = z; answ = t.answ.heard }) (each Originator)
    ∙ ap (λ z. record { orig = u.orig.heard; answ = z }) (each Answerer)
  where
    each : (role : Role) → (of role t).heard ≡ (of role u).heard
    each role = grind (arith, other)

-- one turn is made behind these, with one outcome
same-turn : (laws : SameLaws) (c : Wire) (link : Link) (ts : List Turn) (ends : Accounts) (t u : Turn) (mid later : Accounts)
    (a b : Outcome)
    → TurnIs link ts ends t mid a → TurnIs link ts ends u later b → HeardIn c ts t → HeardIn c ts u
    → (t ≡ u) × (mid ≡ later) × (a ≡ b)
same-turn laws c link ts ends t u mid later a b h k p q =
    laws.outcome link ts ends t u mid later a b h k
    (same-heard laws c ts ends t u mid later (hearing-of link ts ends t mid a h) (hearing-of link ts ends u later b k) p q)

-- how a link ended, by its last turn
abbrev pub named : ℕ → Outcome → RunEnd
named turn Going = IsDone turn
named turn Done = IsDone turn
named turn (Broken role (faults.Spent segment since)) = LinkLost role segment turn
named turn (Broken role fault) = NotDetected turn

pub record LastTurnIs (c : Wire) (link : Link) (ts : List Turn) (before mid : Accounts) (end : RunEnd) (left : Left) : Type 0 where
  pub last : Turn
  pub outcome : Outcome
  pub heard : HeardIn c ts last
  pub is : TurnIs link ts before last mid outcome
  pub not_going : outcome ≢ Going
  pub named_is : named (length ts) outcome ≡ end
  pub leaves : Leaves mid (trace_text (last ∷ ts)) left

last-turn : (c : Wire) (link : Link) (ts : List Turn) (before : Accounts) (end : RunEnd) (left : Left) → IsByLink end
    → (e : EndsBy c link ts before end left) → LastTurnIs c link ts before (last_ends c link ts before end left e) end left
last-turn c link ts before (IsDone turn) left b e = record {
  last = e.last;
  outcome = Done;
  heard = e.heard;
  is = e.is;
  not_going = done-not;
  named_is = ap IsDone (sym e.number);
  leaves = e.leaves;
}
last-turn c link ts before (LinkLost role segment turn) left b e = record {
  last = e.1.last;
  outcome = Broken role (faults.Spent segment e.0);
  heard = e.1.heard;
  is = e.1.is;
  not_going = broken-not role (faults.Spent segment e.0);
  named_is = ap (LinkLost role segment) (sym e.1.number);
  leaves = e.1.leaves;
}
last-turn c link ts before (NotDetected turn) left b e = record {
  last = e.last;
  outcome = Broken Originator faults.NotDetected;
  heard = e.heard;
  is = e.is;
  not_going = broken-not Originator faults.NotDetected;
  named_is = ap NotDetected (sym e.number);
  leaves = e.leaves;
}
last-turn c link ts before end left b e = absurd b

-- an ended link, by the turns before its last one
pub record EndedIs (c : Wire) (link : Link) (ts : List Turn) (ends : Accounts) (end : RunEnd) (left : Left) : Type 0 where
  pub before : Accounts
  pub run : LineRun c link ts before
  pub last : LastTurnIs c link ts before ends end left

pub ended-is : (c : Wire) (link : Link) (rounds : ℕ) (ts : List Turn) (ends : Accounts) (end : RunEnd) (left : Left)
    → HasEnded c link rounds ts ends end left → EndedIs c link ts ends end left
ended-is c link rounds ts ends end left h = record {
  before = h.ran.ends;
  run = subst (λ us. LineRun c link us h.ran.ends) h.turns_are h.ran.run;
  last =
      subst (λ us. LastTurnIs c link us h.ran.ends ends end left) h.turns_are
      (subst (λ mid. LastTurnIs c link h.ran.turns h.ran.ends mid end left) h.ends_are
      (last-turn c link h.ran.turns h.ran.ends end left h.by_link h.ran.ended));
}

-- a link that ended doesn't go on
ended-stays : (laws : SameLaws) (c : Wire) (link : Link) (ts : List Turn) (ends : Accounts) (end : RunEnd) (left : Left)
    → EndedIs c link ts ends end left → (us : List Turn) (others : Accounts) → LineRun c link us others → length ts < length us → ⊥
ended-stays laws c link ts ends end left e us others r l =
    let k : Cut c link (length ts) = cut c link (length ts) us others r.run r.heard l in
    let same = laws.run c link k.turns ts k.before e.before k.count k.run e.run in
    let there : LastTurnIs c link k.turns k.before ends end left =
    subst (λ vs. LastTurnIs c link vs k.before ends end left) (sym same.0)
    (subst (λ b. LastTurnIs c link ts b ends end left) (sym same.1) e.last) in
    let s = same-turn laws c link k.turns k.before there.last k.turn ends k.going.mid there.outcome Going there.is (k.after, k.going, refl)
    there.heard k.heard in
    there.not_going s.2

-- two ends of one link are one
ended-once : (laws : SameLaws) (c : Wire) (link : Link) (ts us : List Turn) (ends others : Accounts) (a b : RunEnd) (left leaves : Left)
    → EndedIs c link ts ends a left → EndedIs c link us others b leaves → Ended ts ends a left ≡ Ended us others b leaves
ended-once laws c link ts us ends others a b left leaves e f = go (compare (length ts) (length us))
  where
    go : (length ts ≡ length us) ⊎ ((length ts < length us) ⊎ (length us < length ts)) → Ended ts ends a left ≡ Ended us others b leaves
    go (inr (inl l)) = absurd (ended-stays laws c link ts ends a left e us f.before f.run l)
    go (inr (inr l)) = absurd (ended-stays laws c link us others b leaves f ts e.before e.run l)
    go (inl n) =
        let same = laws.run c link ts us e.before f.before n e.run f.run in
        let there : LastTurnIs c link us f.before ends a left =
        subst (λ vs. LastTurnIs c link vs f.before ends a left) same.0
        (subst (λ z. LastTurnIs c link ts z ends a left) same.1 e.last) in
        let s = same-turn laws c link us f.before there.last f.last.last ends others there.outcome f.last.outcome there.is f.last.is
        there.heard
        f.last.heard in
        let end-is : a ≡ b = sym there.named_is ∙ ap (named (length us)) s.2 ∙ f.last.named_is in
        let left-same : left ≡ leaves =
        left-is ends (trace_text (there.last ∷ us)) left there.leaves ∙ ap (λ t. left_of ends (trace_text (t ∷ us))) s.0
        ∙ ap (λ z. left_of z (trace_text (f.last.last ∷ us))) s.1
        ∙ sym (left-is others (trace_text (f.last.last ∷ us)) leaves f.last.leaves) in
        ap (λ vs. Ended vs ends a left) same.0 ∙ ap (λ z. Ended us z a left) s.1 ∙ ap (λ z. Ended us others z left) end-is
        ∙ ap (Ended us others b) left-same

-- So what a link came to is one thing.
pub lasts-once : (laws : SameLaws) (c : Wire) (link : Link) (rounds : ℕ) (p q : Progress) → Lasts c link rounds p → Lasts c link rounds q
    → p ≡ q
lasts-once laws c link rounds p q h k = grind (arith, ended-stays, ended-is, ended-once)

-- where the line ends a turn, its slots aren't heard well
pub ends-or-hears : (laws : SameLaws) (c : Wire) (ts : List Turn) (ends : Accounts) (end : LineEnd) → EndsLine c ts ends end
    → HearsIdly c ts ends → ⊥
ends-or-hears laws c ts ends end e w = laws.either c ts (λ role. check_of (of role ends)) end e w
