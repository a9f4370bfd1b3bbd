-- Each reading of two recordings goes on or ends, and so it ends.
use Rattle.line_tap.proofs.Cited.{◌≡◌, ◌⊎◌, inl, inr, ℕ, zero, suc, ◌+◌, ◌*◌, ◌<◌, ◌≤◌, List, [], ◌∷◌, ◌++◌, length, arith, refl, Option}
use Rattle.line_tap.proofs.Cited.{Some, None, cases_lt, concat, HEAD, TAIL, Sent, Decided, Left, HeardAt, IsHeardWell, LineEnd}
use Rattle.line_tap.proofs.Cited.{ScriptsHaveDelays, SlotsHaveRoom, IsDone, Leaves, LastHears, IsFirstRefused, EndsLine, Tapping, line_of}
use Rattle.line_tap.proofs.Cited.{terms_of, octets_of, HoldsNext, told, Hears, GoesOn, Tells, chance_line, check_by, judged_by, received}
use Rattle.line_tap.proofs.Cited.{given_to, Spoken, Side, Turn, trace_text, IsInLimits, of, other, Role, Originator, Answerer}
use Rattle.line_run.specs.Sampled as lines
use Rattle.line_ends.specs.EachEnds.{Becomes}
use Rattle.line_ends.proofs.Becoming.{BecomeLaws, fit-becomes, line-or-heard}
use Rattle.line_tap.specs.Ends.{LineLost, ChanceMatch, BadTap}
use Rattle.line_tap.specs.Laws.{HasEnd, EachTapEnds}
use Rattle.line_tap.proofs.NextOrNone.{next-or-none}
use Rattle.line_tap.proofs.ToldFit.{FitLaws, told-fit}

pub record EndLaws : Type 0 where
  pub delays : ScriptsHaveDelays
  pub room : SlotsHaveRoom
  pub becomes : BecomeLaws
  pub fit : FitLaws

-- what both ends hear in a turn, where the line doesn't end the reading
abbrev AreHeard : Tapping → List Turn → Type 0
AreHeard x ts = (role : Role) → IsHeardWell (line_of x) (other role) ts (judged_by (terms_of x) role ts)

ends-or-heard : EndLaws → (x : Tapping) (ts : List Turn) → IsInLimits x.script → Tells x ts
    → ((end : LineEnd) × EndsLine x ts end) ⊎ AreHeard x ts
ends-or-heard laws x ts w h =
    line-or-heard (line_of x) ts (λ role. judged_by (terms_of x) role ts) (becoming Originator) (becoming Answerer)
  where
    becoming : (role : Role) → Becomes (line_of x) (other role) ts (judged_by (terms_of x) role ts)
    becoming role =
        fit-becomes laws.becomes x.script (other role) ts (judged_by (terms_of x) role ts) (laws.room x.script w).0
        (laws.delays x.script w (other role)) (told-fit laws.fit x ts h (other role))

-- ---- the turn in which this is heard, and this is sent

side-in : (x : Tapping) (ts : List Turn) → AreHeard x ts → Role → Option Spoken → Side
side-in x ts h role sent = assumption ((h role).heard, judged_by (terms_of x) role ts, sent, given_to role ts (h role).heard)

turn-in : (x : Tapping) (ts : List Turn) → AreHeard x ts → (Role → Option Spoken) → Turn
turn-in x ts h sent = record { orig = side-in x ts h Originator (sent Originator); answ = side-in x ts h Answerer (sent Answerer) }

sent-in : (x : Tapping) (ts : List Turn) (h : AreHeard x ts) (sent : Role → Option Spoken) (role : Role)
    → (of role (turn-in x ts h sent)).sent ≡ sent role
unfolding turn-in side-in
sent-in x ts h sent role = grind (arith)

hears-in : (x : Tapping) (ts : List Turn) (h : AreHeard x ts) (sent : Role → Option Spoken) → Hears x ts (turn-in x ts h sent)
unfolding turn-in side-in
hears-in x ts h sent = record {
  heard = λ role. by (λ role s. HeardAt (line_of x) (other role) ts s) role
      (λ role. record { heard_of = (h role).is; well = (h role).well });
  checks = λ role. by (λ role s. s.check ≡ judged_by (terms_of x) role ts) role (λ role. refl);
  given = λ role. by (λ role s. s.given ≡ given_to role ts s.heard) role (λ role. refl);
}
  where
    by : (P : Role → Side → Type 0) (role : Role) → ((role : Role) → P role (side-in x ts h role (sent role)))
        → P role (of role (turn-in x ts h sent))
    by P role f = grind (arith)

-- ---- what is left

left-of : (x : Tapping) → List Turn → List ℕ → Left
left-of x ts text = record {
  got = record {
    orig = concat (received (terms_of x) Originator ts).taken;
    answ = concat (received (terms_of x) Answerer ts).taken;
  };
  trace = text;
}

leaves-so : (x : Tapping) (ts : List Turn) (text : List ℕ) → Leaves x ts text (left-of x ts text)
unfolding left-of
leaves-so x ts text = record { got_is = is; trace_is = refl }
  where
    is : (role : Role) → of role (left-of x ts text).got ≡ concat (received (terms_of x) role ts).taken
    is role = grind (arith)

-- ---- the ends

line-end : (x : Tapping) (ts : List Turn) → Tells x ts → (end : LineEnd) → EndsLine x ts end → HasEnd x
line-end x ts h (lines.LineLost role symbol) e =
    let text : List ℕ = trace_text ts in
    record {
      end = LineLost role symbol;
      left = left-of x ts text;
      is = record { turns = ts; tells = h; ended = record { is = e; leaves = leaves-so x ts text } };
    }
line-end x ts h (lines.ChanceMatch role) e =
    let text : List ℕ = trace_text ts ++ chance_line (length ts) role in
    record {
      end = ChanceMatch role (length ts);
      left = left-of x ts text;
      is = record { turns = ts; tells = h; ended = (refl, record { is = e; leaves = leaves-so x ts text }) };
    }

last-in : (x : Tapping) (ts : List Turn) → AreHeard x ts → LastHears x ts
last-in x ts h = record {
  last = turn-in x ts h (λ role. None);
  hears = hears-in x ts h (λ role. None);
  silent = λ role. sent-in x ts h (λ role. None) role;
}

whole-end : (x : Tapping) (ts : List Turn) → Tells x ts → AreHeard x ts
    → ((role : Role) → length (of role x.bodies) ≤ octets_of (line_of x) (length ts)) → HasEnd x
whole-end x ts h a none =
    let last : LastHears x ts = last-in x ts a in
    let text : List ℕ = trace_text (last.last ∷ ts) in
    record {
      end = IsDone (length ts + 1);
      left = left-of x (last.last ∷ ts) text;
      is = record {
        turns = ts;
        tells = h;
        ended = record { number = refl; last = last; none = none; leaves = leaves-so x (last.last ∷ ts) text };
      };
    }

bad-end : (x : Tapping) (ts : List Turn) → Tells x ts → AreHeard x ts
    → (side : Role) × (octets_of (line_of x) (length ts) < length (of side x.bodies)) → (role : Role) → IsFirstRefused x ts role → HasEnd x
bad-end x ts h a some role refused =
    let last : LastHears x ts = last-in x ts a in
    let text : List ℕ = trace_text ts in
    record {
      end = BadTap role (length ts);
      left = left-of x (last.last ∷ ts) text;
      is = record {
        turns = ts;
        tells = h;
        ended = record { number = refl; last = last; some = some; refused = refused; leaves = leaves-so x (last.last ∷ ts) text };
      };
    }

-- ---- the slots of a turn: none is left of either, or both are there, or one is refused

abbrev SlotOf : Tapping → List Turn → Role → Type 0
SlotOf x ts role = (s : Sent) × HoldsNext (line_of x) (check_by (terms_of x)) role ts (of role x.bodies) s

slot-or-none : (x : Tapping) (ts : List Turn) (role : Role) → Decided (SlotOf x ts role)
slot-or-none x ts role = next-or-none (line_of x) (check_by (terms_of x)) role ts (of role x.bodies)

goes-on : (x : Tapping) (ts : List Turn) → AreHeard x ts → ((role : Role) → SlotOf x ts role) → (t : Turn) × GoesOn x ts t
goes-on x ts a slots = (
  turn-in x ts a sent,
  record {
    hears = hears-in x ts a sent;
    sends = λ role. record { sent = (slots role).0; holds = (slots role).1; sent_is = sent-in x ts a sent role };
  },
)
  where
    sent : Role → Option Spoken
    sent role = Some (told (check_by (terms_of x)) (slots role).0)

some-left : (x : Tapping) (ts : List Turn) → ((side : Role) × (octets_of (line_of x) (length ts) < length (of side x.bodies)))
    ⊎ ((role : Role) → length (of role x.bodies) ≤ octets_of (line_of x) (length ts))
some-left x ts =
    go (cases_lt (octets_of (line_of x) (length ts)) (length x.bodies.orig))
    (cases_lt (octets_of (line_of x) (length ts)) (length x.bodies.answ))
  where
    both : length x.bodies.orig ≤ octets_of (line_of x) (length ts) → length x.bodies.answ ≤ octets_of (line_of x) (length ts)
        → (role : Role) → length (of role x.bodies) ≤ octets_of (line_of x) (length ts)
    both k l role = grind (arith)

    go : (octets_of (line_of x) (length ts) < length x.bodies.orig) ⊎ (length x.bodies.orig ≤ octets_of (line_of x) (length ts))
        → (octets_of (line_of x) (length ts) < length x.bodies.answ) ⊎ (length x.bodies.answ ≤ octets_of (line_of x) (length ts))
        → ((side : Role) × (octets_of (line_of x) (length ts) < length (of side x.bodies)))
        ⊎ ((role : Role) → length (of role x.bodies) ≤ octets_of (line_of x) (length ts))
    go b d = grind (arith)

heard-turn : (x : Tapping) (ts : List Turn) → Tells x ts → AreHeard x ts → ((t : Turn) → Tells x (t ∷ ts) → HasEnd x) → HasEnd x
heard-turn x ts h a on = by (some-left x ts)
  where
    both : SlotOf x ts Originator → SlotOf x ts Answerer → (role : Role) → SlotOf x ts role
    both s r Originator = s
    both s r Answerer = r

    second : (side : Role) × (octets_of (line_of x) (length ts) < length (of side x.bodies)) → SlotOf x ts Originator
        → Decided (SlotOf x ts Answerer) → HasEnd x
    second some s (inl r) = let next = goes-on x ts a (both s r) in on next.0 (next.1, h)
    second some s (inr n) = bad-end x ts h a some Answerer (s, λ r k. n (r, k))

    first : (side : Role) × (octets_of (line_of x) (length ts) < length (of side x.bodies)) → Decided (SlotOf x ts Originator) → HasEnd x
    first some (inl s) = second some s (slot-or-none x ts Answerer)
    first some (inr n) = bad-end x ts h a some Originator (λ s k. n (s, k))

    by : ((side : Role) × (octets_of (line_of x) (length ts) < length (of side x.bodies)))
        ⊎ ((role : Role) → length (of role x.bodies) ≤ octets_of (line_of x) (length ts)) → HasEnd x
    by (inl some) = first some (slot-or-none x ts Originator)
    by (inr none) = whole-end x ts h a none

-- ---- a recording has at least an octet for each turn

each-has-one : (s n : ℕ) → 1 ≤ s → n ≤ s * n
each-has-one s n low = grind (arith)

few-turns : EndLaws → (x : Tapping) (ts : List Turn) → IsInLimits x.script → Tells x ts → length ts ≤ length x.bodies.orig
few-turns laws x [] w h = omega arith
few-turns laws x (t ∷ ts) w h =
    let long : HEAD + TAIL < (line_of x).symbols = (laws.room x.script w).0 in
    omega (arith, (h.0.sends Originator).holds.whole, each-has-one (line_of x).symbols (length ts + 1) (omega (arith, long)))

-- with so many turns to go at most
ends-within : EndLaws → (x : Tapping) → IsInLimits x.script → (n : ℕ) (ts : List Turn) → Tells x ts → length x.bodies.orig < length ts + n
    → HasEnd x
ends-within laws x w zero ts h l = absurd (omega (arith, l, few-turns laws x ts w h))
ends-within laws x w (suc n) ts h l =
    by x ts h (λ t k. ends-within laws x w n (t ∷ ts) k (omega (arith, l))) (ends-or-heard laws x ts w h)
  where
    by : (x : Tapping) (ts : List Turn) → Tells x ts → ((t : Turn) → Tells x (t ∷ ts) → HasEnd x)
        → ((end : LineEnd) × EndsLine x ts end) ⊎ AreHeard x ts → HasEnd x
    by x ts h on (inl e) = line-end x ts h e.0 e.1
    by x ts h on (inr a) = heard-turn x ts h a on

pub each-tap-ends : EndLaws → EachTapEnds
each-tap-ends laws x w = ends-within laws x w (length x.bodies.orig + 1) [] tt (omega arith)
