-- Each pair ends.
use Rattle.link_pair.proofs.Names.{◌≡◌, ◌⊎◌, inl, inr, ℕ, zero, suc, ◌+◌, ◌^◌, ◌<◌, ◌≤◌, ◌||◌, max, Bool, true, false, List, [], ◌++◌}
use Rattle.link_pair.proofs.Names.{length, arith, refl, sym, ◌∙◌, ap, subst, Some, false≢true, AreOfOctets, left_of, leaves-so, Left}
use Rattle.link_pair.proofs.Names.{LineEnd, link_of, wire_at, first_dlci, second_dlci, after_second, after_first, slot_in, Which, First}
use Rattle.link_pair.proofs.Names.{Second, end_of, line_end, is_going, EndsTurn, LeavesOf, text_for, by_links, by_line, AreShort}
use Rattle.link_pair.proofs.Names.{PairsHaveFewRounds, Progress, Goes, Ended, turns_in, Lasts, PairAt, start, trace_text, ScriptValue}
use Rattle.link_pair.proofs.Names.{IsInLimits, delay_of, Both, Role}
use Rattle.std.proofs.lemmas.Bool.{or_left, or_right}
use Rattle.link_pair.specs.Pairs.Laws.{HasPairEnd, EachPairEnds}
use Rattle.link_pair.proofs.Pairs.Fitting.{AllFitting, BesideFits, second-beside, first-beside}
use Rattle.link_pair.proofs.Pairs.Clear.{Beside, bits_in}
use Rattle.link_pair.proofs.Pairs.Isolating.{IsolationLaws, fitting-on}
use Rattle.link_pair.proofs.Pairs.Pairing.{has-run}
use Rattle.link_pair.proofs.Pairs.Agreeing.{same-lasts}
use Rattle.link_pair.proofs.Pairs.Stepping.{At}
use Rattle.link_pair.proofs.Pairs.Becoming.{NextLaws, NextOf, On_line, Made, next-of}
use Rattle.link_pair.proofs.Pairing.{either}

pub record EndLaws : Type 0 where
  pub links : IsolationLaws
  pub becomes : NextLaws
  pub few : PairsHaveFewRounds

-- what a pair is over
pub record IsGiven (script : ScriptValue) (files others : Both (List ℕ)) : Type 0 where
  pub limits : IsInLimits script
  pub octets : AreOfOctets script files
  pub more : AreOfOctets script others
  pub short : AreShort files
  pub shorts : AreShort others

-- what a link sent fits each channel
fitting : EndLaws → (script : ScriptValue) (files : Both (List ℕ)) (dlci : ℕ) (beside : Beside) (rounds : ℕ) (p : Progress)
    → IsInLimits script → AreOfOctets script files
    → Lasts (wire_at script dlci beside) (link_of script files) rounds p → (at : ℕ) → at < 64 → AllFitting (bits_in script) at (turns_in p)
fitting laws script files dlci beside rounds p h o l at low = grind (arith, has-run, fitting-on)

-- what is left where the line ends a pair
left-of : Progress → List ℕ → Left
left-of (Goes ts ends) text = left_of ends (trace_text ts ++ text)
left-of (Ended ts ends end left) text = record { got = left.got; trace = left.trace ++ text }

leaves : (p : Progress) (text : List ℕ) → LeavesOf p text (left-of p text)
unfolding left-of
leaves (Goes ts ends) text = leaves-so ends (trace_text ts ++ text)
leaves (Ended ts ends end left) text = (refl, refl)

line-ends : (script : ScriptValue) (files others : Both (List ℕ)) (link : Which) (round : ℕ) (p q : Progress) (cause : LineEnd)
    → At script files others link round p q → (is_going p || is_going q) ≡ true → EndsTurn script link round p q cause
    → HasPairEnd script files others
line-ends script files others link round p q cause a g e = record {
  end = line_end round cause;
  left = left-of p (text_for First link round cause);
  leaves = left-of q (text_for Second link round cause);
  runs = by_line link round cause (record {
    p = p;
    q = q;
    at = a;
    going = g;
    is = e;
    first_leaves = leaves p (text_for First link round cause);
    second_leaves = leaves q (text_for Second link round cause);
  }) refl;
}

both-end : (script : ScriptValue) (files others : Both (List ℕ)) (firsts seconds : ℕ) (p q : Progress)
    → PairAt script files others firsts seconds p q → is_going p ≡ false → is_going q ≡ false
    → firsts ≡ suc (max (length (turns_in p)) (length (turns_in q))) → seconds ≡ max (length (turns_in p)) (suc (length (turns_in q)))
    → HasPairEnd script files others
both-end script files others firsts seconds (Goes ts ends) q a f g m n = absurd (false≢true (sym f))
both-end script files others firsts seconds (Ended ts ends end left) (Goes us mids) a f g m n = absurd (false≢true (sym g))
both-end script files others firsts seconds (Ended ts ends end left) (Ended us mids last had) a f g m n = record {
  end = end_of end last;
  left = left;
  leaves = had;
  runs = by_links end last (record {
    ts = ts;
    us = us;
    ends = ends;
    mids = mids;
    at = subst (λ z. PairAt script files others (suc (max (length ts) (length us))) z (Ended ts ends end left) (Ended us mids last had)) n
        (subst (λ z. PairAt script files others z seconds (Ended ts ends end left) (Ended us mids last had)) m a);
  }) refl;
}

ended-before : (script : ScriptValue) (dlci : ℕ) (beside : Beside) (files : Both (List ℕ)) (rounds : ℕ) (p : Progress)
    → Lasts (wire_at script dlci beside) (link_of script files) rounds p → is_going p ≡ false → length (turns_in p) < rounds
ended-before script dlci beside files rounds p l g = grind (arith)

-- the second link's turn in a round, and then the next round
second-turn : EndLaws → (script : ScriptValue) (files others : Both (List ℕ)) → IsGiven script files others → (round : ℕ) (p q : Progress)
    → At script files others Second round p q → (is_going p || is_going q) ≡ true
    → ((r s : Progress) → At script files others First (suc round) r s → (is_going r || is_going s) ≡ true → HasPairEnd script files others)
    → HasPairEnd script files others
second-turn laws script files others v round p q a g on =
    step (next-of laws.becomes script others second_dlci (after_first (turns_in p)) round q v.limits delays
    (fitting laws script others second_dlci (after_first (turns_in p)) round q v.limits v.more a.second 32 (omega arith)) beside a.second)
  where
    delays : (role : Role) → 1 ≤ delay_of script role
    delays = laws.links.delays script v.limits

    beside : BesideFits (bits_in script) (after_first (turns_in p))
    beside = first-beside (bits_in script) (turns_in p)
        (fitting laws script files first_dlci (after_second (turns_in q)) (suc round) p v.limits v.octets a.first 0 (omega arith))

    near : (next : Progress) → ((at : ℕ) (role : Role) (r : ℕ) → r < round
        → slot_in at role (turns_in q) r ≡ slot_in at role (turns_in next) r)
        → (role : Role) (r : ℕ) → r < suc round → after_second (turns_in q) role r ≡ after_second (turns_in next) role r
    near next same role r l = grind (arith)

    went : (next : Progress) → At script files others First (suc round) p next
        → (is_going next ≡ false → is_going q ≡ true → length (turns_in next) ≡ round)
        → (is_going q ≡ false → (is_going next ≡ false) × (length (turns_in next) ≡ length (turns_in q)))
        → (x y : Bool) → is_going p ≡ x → is_going next ≡ y → HasPairEnd script files others
    went next b just stays true y e f = on p next b (or_left (is_going p) (is_going next) e)
    went next b just stays false true e f = on p next b (or_right (is_going p) (is_going next) f)
    went next b just stays false false e f = grind (arith, either, ended-before, both-end)

    step : NextOf script second_dlci (after_first (turns_in p)) (link_of script others) round q → HasPairEnd script files others
    step (On_line cause e) = line-ends script files others Second round p q cause a g e
    step (Made next l same just stays back) =
        went next
        (record {
          first = same-lasts script first_dlci (after_second (turns_in q)) (after_second (turns_in next)) delays (link_of script files)
              (suc round) p (near next same) a.first;
          second = l;
        }) just stays (is_going p) (is_going next) refl refl

-- the first link's turn, and then the second's
first-turn : EndLaws → (script : ScriptValue) (files others : Both (List ℕ)) → IsGiven script files others → (round : ℕ) (p q : Progress)
    → At script files others First round p q → (is_going p || is_going q) ≡ true
    → ((r s : Progress) → At script files others First (suc round) r s → (is_going r || is_going s) ≡ true → HasPairEnd script files others)
    → HasPairEnd script files others
first-turn laws script files others v round p q a g on =
    step (next-of laws.becomes script files first_dlci (after_second (turns_in q)) round p v.limits delays
    (fitting laws script files first_dlci (after_second (turns_in q)) round p v.limits v.octets a.first 0 (omega arith)) beside a.first)
  where
    delays : (role : Role) → 1 ≤ delay_of script role
    delays = laws.links.delays script v.limits

    beside : BesideFits (bits_in script) (after_second (turns_in q))
    beside = second-beside (bits_in script) (turns_in q)
        (fitting laws script others second_dlci (after_first (turns_in p)) round q v.limits v.more a.second 32 (omega arith))

    went : (next : Progress) → At script files others Second round next q
        → (is_going next ≡ false → is_going p ≡ true → length (turns_in next) ≡ round)
        → (x y : Bool) → is_going next ≡ x → is_going q ≡ y → HasPairEnd script files others
    went next b just true y e f = second-turn laws script files others v round next q b (or_left (is_going next) (is_going q) e) on
    went next b just false true e f = second-turn laws script files others v round next q b (or_right (is_going next) (is_going q) f) on
    went next b just false false e f = over (either (is_going p) (is_going q) g)
      where
        over : (is_going p ≡ true) ⊎ ((is_going p ≡ false) × (is_going q ≡ true)) → HasPairEnd script files others
        over (inr h) = absurd (false≢true (sym f ∙ h.1))
        over (inl h) = grind (arith, ended-before, both-end)

    step : NextOf script first_dlci (after_second (turns_in q)) (link_of script files) round p → HasPairEnd script files others
    step (On_line cause e) = line-ends script files others First round p q cause a g e
    step (Made next l same just stays back) =
        went next
        (record {
          first = l;
          second = same-lasts script second_dlci (after_first (turns_in p)) (after_first (turns_in next)) delays (link_of script others)
              round q (λ role r k. ap Some (same first_dlci role r k)) a.second;
        }) just (is_going next) (is_going q) refl refl

-- with so many rounds to go at most
ends-within : EndLaws → (script : ScriptValue) (files others : Both (List ℕ)) → IsGiven script files others → (n round : ℕ) (p q : Progress)
    → At script files others First round p q → (is_going p || is_going q) ≡ true → 2 ^ 39 ≤ round + n → HasPairEnd script files others
ends-within laws script files others v zero round p q a g l = absurd (go (either (is_going p) (is_going q) g))
  where
    go : (is_going p ≡ true) ⊎ ((is_going p ≡ false) × (is_going q ≡ true)) → ⊥
    go (inl e) = omega (arith, l, ((laws.few script files others round round p q v.limits v.short v.shorts a).0 e).below)
    go (inr e) = omega (arith, l, ((laws.few script files others round round p q v.limits v.short v.shorts a).1 e.1).below)
ends-within laws script files others v (suc n) round p q a g l =
    first-turn laws script files others v round p q a g
    (λ r s b h. ends-within laws script files others v n (suc round) r s b h (omega (arith, l)))

pub each-pair-ends : EndLaws → EachPairEnds
each-pair-ends laws script files others h short shorts o oo =
    ends-within laws script files others (record { limits = h; octets = o; more = oo; short = short; shorts = shorts }) (2 ^ 39) 0
    (Goes [] (start (link_of script files))) (Goes [] (start (link_of script others)))
    (record {
      first = record { run = record { run = refl; heard = tt }; count = refl };
      second = record { run = record { run = refl; heard = tt }; count = refl };
    }) refl (omega arith)
