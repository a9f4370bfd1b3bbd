-- A script and two recordings tell one thing.
use Rattle.line_tap.proofs.Cited.{◌≡◌, ◌⊎◌, inl, inr, ℕ, ◌+◌, ◌*◌, ◌<◌, ◌≤◌, List, [], ◌∷◌, ◌++◌, length, arith, refl, sym, ◌∙◌, ap, subst}
use Rattle.line_tap.proofs.Cited.{Some, mul-suc, cases_lt, phase-low, HEAD, TAIL, slots_of, Check, Sent, Left, SlotsTellWhatWasSent, Wire}
use Rattle.line_tap.proofs.Cited.{signals, bits_of, IsHeardOf, IsHeardWell, LineEnd, SlotsHaveRoom, TapEnd, IsDone, Leaves, LastHears}
use Rattle.line_tap.proofs.Cited.{EndsWhole, EndsLine, EndsOnLine, EndsBy, TellsOnce, Tapping, line_of, terms_of, phase_behind, next_bits}
use Rattle.line_tap.proofs.Cited.{octets_of, HoldsNext, told, Hears, GoesOn, Tells, check_by, judged_by, given_to, Side, Turn, trace_text}
use Rattle.line_tap.proofs.Cited.{IsInLimits, same-behind, mode_of, tap_of, of, other, Role, Originator, Answerer, PointsDiffer}
use Rattle.line_run.specs.Sampled as lines
use Rattle.line_run.specs.LineLaws.{HeardOnce, OneLineEndBy, EndsOrIsHeard}
use Rattle.line_tap.specs.Ends.{LineLost, ChanceMatch, BadTap, EndsBadly}
use Rattle.line_tap.proofs.Coding.{samples-tell}
use Rattle.link_run.proofs.Only.{same-side}
use Rattle.line_run.proofs.Resulting.{line_text}

pub record OnceLaws : Type 0 where
  pub heard : HeardOnce
  pub end : OneLineEndBy
  pub either : EndsOrIsHeard
  pub slots : SlotsTellWhatWasSent
  pub points : PointsDiffer
  pub room : SlotsHaveRoom

-- ---- one slot

pub holds-once : OnceLaws → (c : Wire) (check : Check) (role : Role) (ts : List Turn) (body : List ℕ) (s others : Sent)
    → HEAD + TAIL < c.symbols → c.dlci < 64 → HoldsNext c check role ts body s → HoldsNext c check role ts body others → s ≡ others
holds-once laws c check role ts body s others long low h k =
    let phase : ℕ = phase_behind c role ts in
    let bits = samples-tell laws.points (tap_of (mode_of role)) (bits_of c role ts ++ next_bits c check role ts s)
    (bits_of c role ts ++ next_bits c check role ts others) _ h.modulated k.modulated in
    let next : next_bits c check role ts s ≡ next_bits c check role ts others = same-behind (bits_of c role ts) _ _ bits in
    let small : phase < 8 = phase-low (4 * c.symbols) 0 (slots_of (4 * c.symbols) (signals c role ts)) (omega arith) in
    laws.slots check role c.dlci c.symbols phase s others low small long h.codable k.codable next

-- ---- one turn

turn-same : (t u : Turn) → ((role : Role) → of role t ≡ of role u) → t ≡ u
turn-same t u e = turns t.orig u.orig t.answ u.answ (e Originator) (e Answerer)
  where
    turn : Side → Side → Turn
    turn s r = record { orig = s; answ = r }

    turns : (s q r p : Side) → s ≡ q → r ≡ p → turn s r ≡ turn q p
    turns s q r p a b = rw (a, b) refl

heard-same : OnceLaws → (x : Tapping) (ts : List Turn) (t u : Turn) → Hears x ts t → Hears x ts u → (role : Role)
    → (of role t).heard ≡ (of role u).heard
heard-same laws x ts t u h k role =
    let same : (of role t).check ≡ (of role u).check = h.checks role ∙ sym (k.checks role) in
    laws.heard (line_of x) (other role) ts (of role u).check (of role t).heard (of role u).heard
    (subst (λ z. IsHeardOf (line_of x) (other role) ts z (of role t).heard) same (h.heard role).heard_of) (k.heard role).heard_of

one-turn : OnceLaws → (x : Tapping) (ts : List Turn) (t u : Turn) → Hears x ts t → Hears x ts u
    → ((role : Role) → (of role t).sent ≡ (of role u).sent) → t ≡ u
one-turn laws x ts t u h k e =
    turn-same t u (λ role. same-side (of role t) (of role u) (heard-same laws x ts t u h k role) (h.checks role ∙ sym (k.checks role))
    (e role) (h.given role ∙ ap (given_to role ts) (heard-same laws x ts t u h k role) ∙ sym (k.given role)))

one-going : OnceLaws → (x : Tapping) (ts : List Turn) (t u : Turn) → IsInLimits x.script → GoesOn x ts t → GoesOn x ts u → t ≡ u
one-going laws x ts t u w g h =
    one-turn laws x ts t u g.hears h.hears (λ role. (g.sends role).sent_is
    ∙ ap (λ s. Some (told (check_by (terms_of x)) s))
    (holds-once laws (line_of x) (check_by (terms_of x)) role ts (of role x.bodies) (g.sends role).sent (h.sends role).sent
    (laws.room x.script w).0 (omega arith) (g.sends role).holds (h.sends role).holds)
    ∙ sym (h.sends role).sent_is)

one-tells : OnceLaws → (x : Tapping) (ts us : List Turn) → IsInLimits x.script → length ts ≡ length us → Tells x ts → Tells x us → ts ≡ us
one-tells laws x [] [] w e h k = refl
one-tells laws x [] (u ∷ us) w e h k = absurd (omega (arith, e))
one-tells laws x (t ∷ ts) [] w e h k = absurd (omega (arith, e))
one-tells laws x (t ∷ ts) (u ∷ us) w e h k =
    let rest = one-tells laws x ts us w (omega (arith, e)) h.1 k.1 in
    let first = one-going laws x ts t u w h.0 (subst (λ l. GoesOn x l u) (sym rest) k.0) in
    ap (λ l. t ∷ l) rest ∙ ap (λ z. z ∷ us) first

-- ---- the line, or not

well-in : (x : Tapping) (ts : List Turn) (t : Turn) → Hears x ts t → (role : Role)
    → IsHeardWell (line_of x) (other role) ts (judged_by (terms_of x) role ts)
well-in x ts t h role = grind (arith)

line-or-hears : OnceLaws → (x : Tapping) (ts : List Turn) (t : Turn) (end : LineEnd) → EndsLine x ts end → Hears x ts t → ⊥
line-or-hears laws x ts t end e h = laws.either (line_of x) ts (λ role. judged_by (terms_of x) role ts) end e (well-in x ts t h)

one-line : OnceLaws → (x : Tapping) (ts : List Turn) (a b : LineEnd) → EndsLine x ts a → EndsLine x ts b → a ≡ b
one-line laws x ts a b h k = laws.end (line_of x) ts (λ role. judged_by (terms_of x) role ts) a b h k

-- ---- the ends by what ends it

pub data Cause : Type 0 where
  Whole : Cause
  Refused : Role → Cause
  On_line : LineEnd → Cause

abbrev pub end_of : ℕ → Cause → TapEnd
end_of n Whole = IsDone (n + 1)
end_of n (Refused role) = BadTap role n
end_of n (On_line (lines.LineLost role symbol)) = LineLost role symbol
end_of n (On_line (lines.ChanceMatch role)) = ChanceMatch role n

abbrev EndsWith : Tapping → List Turn → Cause → Left → Type 0
EndsWith x ts Whole left = EndsWhole x ts (length ts + 1) left
EndsWith x ts (Refused role) left = EndsBadly x ts role (length ts) left
EndsWith x ts (On_line end) left = EndsOnLine x ts end (line_text ts end) left

pub record Caused (x : Tapping) (ts : List Turn) (end : TapEnd) (left : Left) : Type 0 where
  pub cause : Cause
  pub ends : EndsWith x ts cause left
  pub is : end_of (length ts) cause ≡ end

caused : (x : Tapping) (ts : List Turn) (end : TapEnd) (left : Left) → EndsBy x ts end left → Caused x ts end left
caused x ts (IsDone turns) left e = record {
  cause = Whole;
  ends = record { number = refl; last = e.last; none = e.none; leaves = e.leaves };
  is = ap IsDone (sym e.number);
}
caused x ts (BadTap role turn) left e = record {
  cause = Refused role;
  ends = record { number = refl; last = e.last; some = e.some; refused = e.refused; leaves = e.leaves };
  is = ap (BadTap role) (sym e.number);
}
caused x ts (LineLost role symbol) left e = record { cause = On_line (lines.LineLost role symbol); ends = e; is = refl }
caused x ts (ChanceMatch role turn) left e =
    record { cause = On_line (lines.ChanceMatch role); ends = e.1; is = ap (ChanceMatch role) (sym e.0) }

left-same : (a b : Left) → ((role : Role) → of role a.got ≡ of role b.got) → a.trace ≡ b.trace → a ≡ b
left-same a b e t = lefts a.got.orig b.got.orig a.got.answ b.got.answ a.trace b.trace (e Originator) (e Answerer) t
  where
    left : List ℕ → List ℕ → List ℕ → Left
    left o p t = record { got = record { orig = o; answ = p }; trace = t }

    lefts : (o q p r t u : List ℕ) → o ≡ q → p ≡ r → t ≡ u → left o p t ≡ left q r u
    lefts o q p r t u a b e = rw (a, b, e) refl

leaves-once : (x : Tapping) (ts us : List Turn) (text others : List ℕ) (a b : Left) → ts ≡ us → text ≡ others → Leaves x ts text a
    → Leaves x us others b → a ≡ b
leaves-once x ts us text others a b e t h k = grind (arith, left-same)

last-once : OnceLaws → (x : Tapping) (ts : List Turn) (a b : LastHears x ts) → a.last ≡ b.last
last-once laws x ts a b = one-turn laws x ts a.last b.last a.hears b.hears (λ role. a.silent role ∙ sym (b.silent role))

refused-once : (x : Tapping) (ts : List Turn) (a b : Role) (left others : Left) → EndsBadly x ts a (length ts) left
    → EndsBadly x ts b (length ts) others → a ≡ b
refused-once x ts a b left others h k = grind (arith)

same-cause : OnceLaws → (x : Tapping) (ts : List Turn) (k q : Cause) (a b : Left) → EndsWith x ts k a → EndsWith x ts q b
    → (k ≡ q) × (a ≡ b)
same-cause laws x ts Whole Whole a b h w =
    let e = last-once laws x ts h.last w.last in (
      refl,
      leaves-once x (h.last.last ∷ ts) (w.last.last ∷ ts) _ _ a b (ap (λ t. t ∷ ts) e) (ap (λ t. trace_text (t ∷ ts)) e) h.leaves w.leaves,
    )
same-cause laws x ts Whole (Refused role) a b h w = absurd (omega (arith, h.none w.some.0, w.some.1))
same-cause laws x ts (Refused role) Whole a b h w = absurd (omega (arith, w.none h.some.0, h.some.1))
same-cause laws x ts Whole (On_line end) a b h w = absurd (line-or-hears laws x ts h.last.last end w.is h.last.hears)
same-cause laws x ts (On_line end) Whole a b h w = absurd (line-or-hears laws x ts w.last.last end h.is w.last.hears)
same-cause laws x ts (Refused role) (On_line end) a b h w = absurd (line-or-hears laws x ts h.last.last end w.is h.last.hears)
same-cause laws x ts (On_line end) (Refused role) a b h w = absurd (line-or-hears laws x ts w.last.last end h.is w.last.hears)
same-cause laws x ts (Refused role) (Refused side) a b h w =
    let e = last-once laws x ts h.last w.last in (
      ap Refused (refused-once x ts role side a b h w),
      leaves-once x (h.last.last ∷ ts) (w.last.last ∷ ts) _ _ a b (ap (λ t. t ∷ ts) e) refl h.leaves w.leaves,
    )
same-cause laws x ts (On_line end) (On_line other_end) a b h w =
    let e = one-line laws x ts end other_end h.is w.is in
    (ap On_line e, leaves-once x ts ts (line_text ts end) (line_text ts other_end) a b refl (ap (line_text ts) e) h.leaves w.leaves)

-- ---- how many turns

more-octets : (c : Wire) (n : ℕ) → HEAD + TAIL < c.symbols → octets_of c n < octets_of c (n + 1)
more-octets c n long = grind (arith, mul-suc)

ends-or-goes : OnceLaws → (x : Tapping) (ts : List Turn) (k : Cause) (left : Left) (t : Turn) → IsInLimits x.script → EndsWith x ts k left
    → GoesOn x ts t → ⊥
ends-or-goes laws x ts Whole left t w e g =
    omega (arith, more-octets (line_of x) (length ts) (laws.room x.script w).0, (g.sends Originator).holds.whole, e.none Originator)
ends-or-goes laws x ts (Refused Originator) left t w e g = e.refused (g.sends Originator).sent (g.sends Originator).holds
ends-or-goes laws x ts (Refused Answerer) left t w e g = e.refused.1 (g.sends Answerer).sent (g.sends Answerer).holds
ends-or-goes laws x ts (On_line end) left t w e g = line-or-hears laws x ts t end e.is g.hears

pub record Cut (x : Tapping) (n : ℕ) : Type 0 where
  pub turns : List Turn
  pub count : length turns ≡ n
  pub tells : Tells x turns
  pub turn : Turn
  pub goes : GoesOn x turns turn

cut : (x : Tapping) (us : List Turn) (n : ℕ) → n < length us → Tells x us → Cut x n
cut x [] n l h = absurd (omega (arith, l))
cut x (u ∷ us) n l h =
    elim (cases_lt n (length us)) [
      | inl less ↦ cut x us n less h.1
      | inr more ↦ record { turns = us; count = omega (arith, l, more); tells = h.1; turn = u; goes = h.0 }
    ]

not-longer : OnceLaws → (x : Tapping) (ts us : List Turn) (k : Cause) (left : Left) → IsInLimits x.script → Tells x ts
    → EndsWith x ts k left → Tells x us → length ts < length us → ⊥
not-longer laws x ts us k left w h e g l =
    let c = cut x us (length ts) l g in
    let same = one-tells laws x c.turns ts w c.count c.tells h in
    ends-or-goes laws x ts k left c.turn w e (subst (λ v. GoesOn x v c.turn) same c.goes)

pub tells_once : OnceLaws → TellsOnce
tells_once laws x a b left others w h k = by (cases_lt (length h.turns) (length k.turns)) (cases_lt (length k.turns) (length h.turns))
  where
    p : Caused x h.turns a left
    p = caused x h.turns a left h.ended

    q : Caused x k.turns b others
    q = caused x k.turns b others k.ended

    by : (length h.turns < length k.turns) ⊎ (length k.turns ≤ length h.turns)
        → (length k.turns < length h.turns) ⊎ (length h.turns ≤ length k.turns) → (a ≡ b) × (left ≡ others)
    by (inl l) other_way = absurd (not-longer laws x h.turns k.turns p.cause left w h.tells p.ends k.tells l)
    by (inr m) (inl l) = absurd (not-longer laws x k.turns h.turns q.cause others w k.tells q.ends h.tells l)
    by (inr m) (inr l) =
        let same = one-tells laws x k.turns h.turns w (omega (arith, m, l)) k.tells h.tells in
        let r = same-cause laws x h.turns p.cause q.cause left others p.ends (subst (λ ts. EndsWith x ts q.cause others) same q.ends) in
        (sym p.is ∙ ap (end_of (length h.turns)) r.0 ∙ ap (λ n. end_of n q.cause) (sym (ap length same)) ∙ q.is, r.1)
