-- A script and two users have one result at most.
use Rattle.line_run.proofs.Cited.{◌≡◌, ◌≢◌, ℕ, zero, suc, ◌<◌, List, [], ◌∷◌, ◌++◌, length, arith, refl, sym, ◌∙◌, ap, subst, ChanceMatch}
use Rattle.line_run.proofs.Cited.{EndsBy, EndsInTurn, IsDone, Leaves, Left, LineLost, LinkLost, OneResult, RunEnd, RunsTo, EndsOrGoesOn}
use Rattle.line_run.proofs.Cited.{HeardOnce, OneLineEnd, OneLineRun, EndsLine, HeardIn, IsHeardOver, LineEnd, LineRun, Wire, hearing-of}
use Rattle.line_run.proofs.Cited.{OneOutcome, heard_in, Outcome, Done, TurnIs, Accounts, GoingTurn, Hears, Link, RunOf, Turn, of, other}
use Rattle.line_run.proofs.Cited.{Role, Answerer, Originator}
use Rattle.std.proofs.Common.{◌⊎◌, inl, inr}
use Rattle.shared_terms.specs.declared.fault.LinkFault.{LinkFault}
use Rattle.shared_terms.specs.declared.fault.LinkFault.TheVariants.{NotDetected, Spent}
use Rattle.link_run.specs.Outcomes.{Going, Broken}
use Rattle.line_texts.specs.LineText.{chance_line}
use Rattle.link_run.specs.Trace.{trace_text}
use Rattle.line_run.specs.Sampled as lines
use Rattle.line_run.specs.Ends as ends
use Rattle.line_run.proofs.Sampling.{same-checks}
use Rattle.line_run.proofs.WhatIsLeft.{left_of, left-is}

pub record ResultLaws : Type 0 where
  pub heard : HeardOnce
  pub run : OneLineRun
  pub end : OneLineEnd
  pub either : EndsOrGoesOn
  pub outcome : OneOutcome

-- how a run ends, by what ends it
pub data Cause : Type 0 where
  In_turn : Outcome → Cause
  On_line : LineEnd → Cause

abbrev pub line_text : List Turn → LineEnd → List ℕ
line_text ts (lines.LineLost role symbol) = trace_text ts
line_text ts (lines.ChanceMatch role) = trace_text ts ++ chance_line (length ts) role

pub record TurnEnds (c : Wire) (link : Link) (ts : List Turn) (es : Accounts) (o : Outcome) (left : Left) : Type 0 where
  pub last : Turn
  pub mid : Accounts
  pub heard : HeardIn c ts last
  pub is : TurnIs link ts es last mid o
  pub not_going : o ≢ Going
  pub leaves : Leaves mid (trace_text (last ∷ ts)) left

abbrev EndsWith : Wire → Link → List Turn → Accounts → Cause → Left → Type 0
EndsWith c link ts es (In_turn o) left = TurnEnds c link ts es o left
EndsWith c link ts es (On_line e) left = EndsLine c ts es e × Leaves es (line_text ts e) left

abbrev broken_end : ℕ → Role → LinkFault → RunEnd
broken_end n role (Spent segment since) = LinkLost role segment n
broken_end n role fault = ends.NotDetected n

abbrev end_of : ℕ → Cause → RunEnd
end_of n (In_turn Going) = IsDone n
end_of n (In_turn Done) = IsDone n
end_of n (In_turn (Broken role fault)) = broken_end n role fault
end_of n (On_line (lines.LineLost role symbol)) = LineLost role symbol
end_of n (On_line (lines.ChanceMatch role)) = ChanceMatch role n

pub record Caused (c : Wire) (link : Link) (ts : List Turn) (es : Accounts) (end : RunEnd) (left : Left) : Type 0 where
  pub cause : Cause
  pub ends : EndsWith c link ts es cause left
  pub is : end_of (length ts) cause ≡ end

-- outcomes differ
abbrev number : Outcome → ℕ
number Going = 0
number Done = 1
number (Broken role fault) = 2

in-turn : (c : Wire) (link : Link) (ts : List Turn) (es : Accounts) (o : Outcome) (turn : ℕ) (left : Left) → o ≢ Going
    → EndsInTurn c link ts es o turn left → TurnEnds c link ts es o left
in-turn c link ts es o turn left n e = record { last = e.last; mid = e.mid; heard = e.heard; is = e.is; not_going = n; leaves = e.leaves }

pub done-not : Done ≢ Going
done-not z = omega (arith, ap number z)

pub broken-not : (role : Role) (fault : LinkFault) → Broken role fault ≢ Going
broken-not role fault z = omega (arith, ap number z)

caused : (c : Wire) (link : Link) (ts : List Turn) (es : Accounts) (end : RunEnd) (left : Left) → EndsBy c link ts es end left
    → Caused c link ts es end left
caused c link ts es (IsDone turn) left e =
    record { cause = In_turn Done; ends = in-turn c link ts es Done turn left done-not e; is = ap IsDone (sym e.number) }
caused c link ts es (LinkLost role segment turn) left e = record {
  cause = In_turn (Broken role (Spent segment e.0));
  ends = in-turn c link ts es (Broken role (Spent segment e.0)) turn left (broken-not role (Spent segment e.0)) e.1;
  is = ap (LinkLost role segment) (sym e.1.number);
}
caused c link ts es (ends.NotDetected turn) left e = record {
  cause = In_turn (Broken Originator NotDetected);
  ends = in-turn c link ts es (Broken Originator NotDetected) turn left (broken-not Originator NotDetected) e;
  is = ap ends.NotDetected (sym e.number);
}
caused c link ts es (LineLost role symbol) left e =
    record { cause = On_line (lines.LineLost role symbol); ends = (e.is, e.leaves); is = refl }
caused c link ts es (ChanceMatch role turn) left e =
    record { cause = On_line (lines.ChanceMatch role); ends = (e.1.is, e.1.leaves); is = ap (ChanceMatch role) (sym e.0) }

same-left : (es fs : Accounts) (text others : List ℕ) (a b : Left) → Leaves es text a → Leaves fs others b → es ≡ fs → text ≡ others → a ≡ b
same-left es fs text others a b h k e t =
    left-is es text a h ∙ ap (λ z. left_of z text) e ∙ ap (left_of fs) t ∙ sym (left-is fs others b k)

-- two turns after the same ones, which the same is heard in
both-heard : (laws : ResultLaws) (c : Wire) (ts : List Turn) (es : Accounts) (t u : Turn) (mid later : Accounts)
    → Hears (length ts) es t mid
    → Hears (length ts) es u later → HeardIn c ts t → HeardIn c ts u → heard_in t ≡ heard_in u
both-heard laws c ts es t u mid later h k p q =
    ap (λ z. record { orig = z; answ = t.answ.heard }) (each Originator)
    ∙ ap (λ z. record { orig = u.orig.heard; answ = z }) (each Answerer)
  where
    each : (role : Role) → (of role t).heard ≡ (of role u).heard
    each role = grind (arith, other, same-checks)

same-cause : (laws : ResultLaws) (c : Wire) (link : Link) (ts : List Turn) (es : Accounts) (k q : Cause) (a b : Left)
    → EndsWith c link ts es k a → EndsWith c link ts es q b → (k ≡ q) × (a ≡ b)
same-cause laws c link ts es (In_turn o) (In_turn p) a b h w =
    let e = both-heard laws c ts es h.last w.last h.mid w.mid (hearing-of link ts es h.last h.mid o h.is)
    (hearing-of link ts es w.last w.mid p w.is) h.heard w.heard in
    let s = laws.outcome link ts es h.last w.last h.mid w.mid o p h.is w.is e in (
      ap In_turn s.2,
      same-left h.mid w.mid (trace_text (h.last ∷ ts)) (trace_text (w.last ∷ ts)) a b h.leaves w.leaves s.1
          (ap (λ t. trace_text (t ∷ ts)) s.0),
    )
same-cause laws c link ts es (In_turn o) (On_line e) a b h w =
    absurd (laws.either c ts es e h.last h.mid w.0 (hearing-of link ts es h.last h.mid o h.is) h.heard)
same-cause laws c link ts es (On_line e) (In_turn o) a b h w =
    absurd (laws.either c ts es e w.last w.mid h.0 (hearing-of link ts es w.last w.mid o w.is) w.heard)
same-cause laws c link ts es (On_line e) (On_line f) a b h w =
    let s = laws.end c ts es e f h.0 w.0 in
    (ap On_line s, same-left es es (line_text ts e) (line_text ts f) a b h.1 w.1 refl (ap (line_text ts) s))

pub same-or-less : (m n : ℕ) → m < suc n → (n ≡ m) ⊎ (m < n)
same-or-less zero zero l = inl refl
same-or-less zero (suc n) l = inr (omega arith)
same-or-less (suc m) zero l = absurd (omega (arith, l))
same-or-less (suc m) (suc n) l = grind (arith)

-- the turn of that number in a longer run
pub record Cut (c : Wire) (link : Link) (n : ℕ) : Type 0 where
  pub turns : List Turn
  pub before : Accounts
  pub count : length turns ≡ n
  pub run : LineRun c link turns before
  pub turn : Turn
  pub after : Accounts
  pub going : GoingTurn link turns before turn after
  pub heard : HeardIn c turns turn

pub cut : (c : Wire) (link : Link) (n : ℕ) (ts : List Turn) (es : Accounts) → RunOf link ts es → IsHeardOver c ts → n < length ts
    → Cut c link n
cut c link n [] es h k l = absurd (omega (arith, l))
cut c link n (t ∷ ts) es h k l = go (same-or-less n (length ts) l) (cut c link n ts h.0 h.1 k.1)
  where
    go : (length ts ≡ n) ⊎ (n < length ts) → (n < length ts → Cut c link n) → Cut c link n
    go (inl e) f = record {
      turns = ts;
      before = h.0;
      count = e;
      run = record { run = h.1; heard = k.1 };
      turn = t;
      after = es;
      going = h.2;
      heard = k.0;
    }
    go (inr e) f = f e

-- a run that ended doesn't go on
ended-stays : (laws : ResultLaws) (c : Wire) (link : Link) (end : RunEnd) (left : Left) (r : RunsTo c link end left) (ts : List Turn)
    (es : Accounts) → LineRun c link ts es → length r.turns < length ts → ⊥
ended-stays laws c link end left r ts es h less =
    let k = cut c link (length r.turns) ts es h.run h.heard less in
    let same = laws.run c link r.turns k.turns r.ends k.before (sym k.count) r.run k.run in
    let w = caused c link r.turns r.ends end left r.ended in
    let ends-there : EndsWith c link k.turns k.before w.cause left =
    subst (λ ts. EndsWith c link ts k.before w.cause left) same.0
    (subst (λ es. EndsWith c link r.turns es w.cause left) same.1 w.ends) in
    against c link k w.cause left ends-there laws
  where
    against : (c : Wire) (link : Link) {n : ℕ} (k : Cut c link n) (q : Cause) (left : Left) → EndsWith c link k.turns k.before q left
        → ResultLaws → ⊥
    against c link k (In_turn o) left e laws =
        let same = both-heard laws c k.turns k.before k.turn e.last k.going.mid e.mid k.going.hearing
        (hearing-of link k.turns k.before e.last e.mid o e.is) k.heard e.heard in
        let s = laws.outcome link k.turns k.before k.turn e.last k.going.mid e.mid Going o (k.after, k.going, refl) e.is same in
        e.not_going (sym s.2)
    against c link k (On_line f) left e laws = laws.either c k.turns k.before f k.turn k.going.mid e.0 k.going.hearing k.heard

pub compare : (m n : ℕ) → (m ≡ n) ⊎ ((m < n) ⊎ (n < m))
compare zero zero = inl refl
compare zero (suc n) = inr (inl (omega arith))
compare (suc m) zero = inr (inr (omega arith))
compare (suc m) (suc n) = grind (arith)

pub one_result : ResultLaws → OneResult
one_result laws c link a b left others r q = go (compare (length r.turns) (length q.turns))
  where
    go : (length r.turns ≡ length q.turns) ⊎ ((length r.turns < length q.turns) ⊎ (length q.turns < length r.turns))
        → (a ≡ b) × (left ≡ others)
    go (inl e) =
        let same = laws.run c link r.turns q.turns r.ends q.ends e r.run q.run in
        let x = caused c link r.turns r.ends a left r.ended in
        let y = caused c link q.turns q.ends b others q.ended in
        let there : EndsWith c link q.turns q.ends x.cause left =
        subst (λ ts. EndsWith c link ts q.ends x.cause left) same.0
        (subst (λ es. EndsWith c link r.turns es x.cause left) same.1 x.ends) in
        let s = same-cause laws c link q.turns q.ends x.cause y.cause left others there y.ends in
        (sym x.is ∙ ap (λ n. end_of n x.cause) e ∙ ap (end_of (length q.turns)) s.0 ∙ y.is, s.1)
    go (inr (inl e)) = absurd (ended-stays laws c link a left r q.turns q.ends q.run e)
    go (inr (inr e)) = absurd (ended-stays laws c link b others q r.turns r.ends r.run e)
