-- A pair has one result.
use Rattle.link_pair.proofs.Names.{◌≡◌, ◌⊎◌, inl, inr, ℕ, suc, ◌-◌, ◌*◌, ◌<◌, ◌≤◌, ◌||◌, max, Bool, true, false, List, ◌++◌, length, arith}
use Rattle.link_pair.proofs.Names.{refl, sym, ◌∙◌, ap, compare, left-is, RunEnd, IsDone, Left, LineEnd, ScriptsHaveDelays, Which, First}
use Rattle.link_pair.proofs.Names.{Second, PairEnd, end_of, line_end, is_going, EndsTurn, LeavesOf, PairRunsTo, by_links, by_line}
use Rattle.link_pair.proofs.Names.{OnePairResult, Progress, Goes, Ended, turns_in, PairAt, trace_text, ScriptValue, Both}
use Rattle.std.proofs.lemmas.Bool.{cases_lt}
use Rattle.line_run.specs.LineLaws.{OneLineEnd}
use Rattle.link_pair.specs.Pairs.Ends.{LineEnds}
use Rattle.link_pair.proofs.Pairs.Same.{SameLaws, ends-or-hears}
use Rattle.link_pair.proofs.Pairs.Stepping.{HasDelays, At, one-at, HearsTurn, Earlier, turns_by, same-place, back-to}

pub record ResultLaws : Type 0 where
  pub same : SameLaws
  pub delays : ScriptsHaveDelays
  pub end : OneLineEnd

-- the turns that both made in all where both have ended, before which of them they had made so many
abbrev place : ℕ → ℕ → ℕ
place m n = max (2 * suc n) (suc (2 * m))

-- how a pair ends as a turn begins
data Stops (script : ScriptValue) (link : Which) (round : ℕ) (p q : Progress) : Type 0 where
  Both_over : is_going p ≡ false → is_going q ≡ false → turns_by link round ≡ place (length (turns_in p)) (length (turns_in q))
      → Stops script link round p q
  On_line : (cause : LineEnd) → EndsTurn script link round p q cause → (is_going p || is_going q) ≡ true → Stops script link round p q

going-not : (x y : Bool) → x ≡ false → y ≡ false → (x || y) ≡ true → ⊥
going-not x y e f g = grind (arith)

ends-not-heard : SameLaws → (script : ScriptValue) (link : Which) (round : ℕ) (p q : Progress) (cause : LineEnd)
    → EndsTurn script link round p q cause → HearsTurn script link round p q → ⊥
ends-not-heard laws script link round p q cause e h = grind (arith, ends-or-hears)

-- a pair that stops doesn't go on
not-later : SameLaws → (script : ScriptValue) (files others : Both (List ℕ)) → HasDelays script → (a b : Which) (m n : ℕ)
    (p q r s : Progress) → At script files others a m p q → Stops script a m p q → At script files others b n r s → Stops script b n r s
    → turns_by a m < turns_by b n → ⊥
not-later laws script files others delays a b m n p q r s h stop k stops l =
    go stop stops
  where
    more : ℕ
    more = turns_by b n - suc (turns_by a m)

    x : Earlier script files others a m r s
    x = back-to script files others delays more b a n m r s (omega (arith, l)) k

    one : (x.p0 ≡ p) × (x.q0 ≡ q)
    one = one-at laws script files others delays a m x.p0 x.q0 p q x.at h

    stays : is_going p ≡ false → is_going q ≡ false → (r ≡ p) × (s ≡ q)
    stays e f = (x.p_stays (ap is_going one.0 ∙ e) ∙ one.0, x.q_stays (ap is_going one.1 ∙ f) ∙ one.1)

    go : Stops script a m p q → Stops script b n r s → ⊥
    go (On_line cause e g) t = grind (arith, ends-not-heard, m, one, x)
    go (Both_over e f place) (Both_over g h' other) = grind (arith, stays)
    go (Both_over e f place) (On_line cause u g) = grind (arith, stays, going-not)

-- so two stop at one place
one-place : SameLaws → (script : ScriptValue) (files others : Both (List ℕ)) → HasDelays script → (a b : Which) (m n : ℕ)
    (p q r s : Progress) → At script files others a m p q → Stops script a m p q → At script files others b n r s → Stops script b n r s
    → turns_by a m ≡ turns_by b n
one-place laws script files others delays a b m n p q r s h stop k stops = go (compare (turns_by a m) (turns_by b n))
  where
    go : (turns_by a m ≡ turns_by b n) ⊎ ((turns_by a m < turns_by b n) ⊎ (turns_by b n < turns_by a m)) → turns_by a m ≡ turns_by b n
    go (inl e) = e
    go (inr (inl l)) = absurd (not-later laws script files others delays a b m n p q r s h stop k stops l)
    go (inr (inr l)) = absurd (not-later laws script files others delays b a n m r s p q k stops h stop l)

-- where both have ended
pub record BothStop (script : ScriptValue) (files others : Both (List ℕ)) (p q : Progress) : Type 0 where
  pub link : Which
  pub round : ℕ
  pub at : At script files others link round p q
  pub count : turns_by link round ≡ place (length (turns_in p)) (length (turns_in q))

both-stop : (script : ScriptValue) (files others : Both (List ℕ)) (p q : Progress)
    → PairAt script files others (suc (max (length (turns_in p)) (length (turns_in q))))
    (max (length (turns_in p)) (suc (length (turns_in q)))) p q → BothStop script files others p q
both-stop script files others p q a = go (cases_lt n m)
  where
    m : ℕ
    m = length (turns_in p)

    n : ℕ
    n = length (turns_in q)

    at : (firsts seconds : ℕ) → suc (max m n) ≡ firsts → max m (suc n) ≡ seconds → PairAt script files others firsts seconds p q
    at firsts seconds e f = grind (arith, m, n)

    go : (n < m) ⊎ (m ≤ n) → BothStop script files others p q
    go (inl l) = record { link = Second; round = m; at = at (suc m) m (omega (arith, l)) (omega (arith, l)); count = omega (arith, l) }
    go (inr l) = record {
      link = First;
      round = suc n;
      at = at (suc n) (suc n) (omega (arith, l)) (omega (arith, l));
      count = omega (arith, l);
    }

-- the parts of an ended link
abbrev end-in : Progress → RunEnd
end-in (Goes ts ends) = IsDone 0
end-in (Ended ts ends end left) = end

abbrev left-in : Left → Progress → Left
left-in left (Goes ts ends) = left
left-in left (Ended ts ends end had) = had

-- what is left of a link is one thing
leaves-once : (p : Progress) (text : List ℕ) (left other : Left) → LeavesOf p text left → LeavesOf p text other → left ≡ other
leaves-once (Goes ts ends) text left other h k =
    left-is ends (trace_text ts ++ text) left h ∙ sym (left-is ends (trace_text ts ++ text) other k)
leaves-once (Ended ts ends end had) text left other h k = grind (arith)

one-cause : OneLineEnd → (script : ScriptValue) (link : Which) (round : ℕ) (p q : Progress) (a b : LineEnd)
    → EndsTurn script link round p q a → EndsTurn script link round p q b → a ≡ b
one-cause law script link round p q a b e f = grind (arith)

abbrev Same : PairEnd → PairEnd → Left → Left → Left → Left → Type 0
Same a b left other leaves others = (a ≡ b) × (left ≡ other) × (leaves ≡ others)

-- two ends by the line, in one turn
same-line : ResultLaws → (script : ScriptValue) (files others : Both (List ℕ)) → HasDelays script → (link : Which) (round : ℕ)
    (cause reason : LineEnd) (left other leaves more : Left) → LineEnds script files others link round cause left leaves
    → LineEnds script files others link round reason other more
    → Same (line_end round cause) (line_end round reason) left other leaves more
same-line laws script files others delays link round cause reason left other leaves more x y = grind (arith, one-at, one-cause, leaves-once)

pub one-pair-result : ResultLaws → OnePairResult
one-pair-result laws script files others a b left other leaves more h r s = go r s
  where
    delays : HasDelays script
    delays = laws.delays script h

    go : PairRunsTo script files others a left leaves → PairRunsTo script files others b other more → Same a b left other leaves more
    go (by_links x y d e) (by_links v w f g) =
        let i = both-stop script files others (Ended d.ts d.ends x left) (Ended d.us d.mids y leaves) d.at in
        let j = both-stop script files others (Ended f.ts f.ends v other) (Ended f.us f.mids w more) f.at in
        let place = one-place laws.same script files others delays i.link j.link i.round j.round
        (Ended d.ts d.ends x left) (Ended d.us d.mids y leaves) (Ended f.ts f.ends v other) (Ended f.us f.mids w more)
        i.at (Both_over refl refl i.count) j.at (Both_over refl refl j.count) in
        let there : At script files others j.link j.round (Ended d.ts d.ends x left) (Ended d.us d.mids y leaves) =
        same-place (λ link round. At script files others link round (Ended d.ts d.ends x left) (Ended d.us d.mids y leaves)) i.link j.link
        i.round j.round place i.at in
        let one = one-at laws.same script files others delays j.link j.round (Ended d.ts d.ends x left) (Ended d.us d.mids y leaves)
        (Ended f.ts f.ends v other) (Ended f.us f.mids w more) there j.at in (
          e ∙ ap (λ z. end_of z y) (ap end-in one.0) ∙ ap (end_of v) (ap end-in one.1) ∙ sym g,
          ap (left-in left) one.0,
          ap (left-in leaves) one.1,
        )
    go (by_links x y d e) (by_line link round cause f g) =
        let i = both-stop script files others (Ended d.ts d.ends x left) (Ended d.us d.mids y leaves) d.at in
        let place = one-place laws.same script files others delays i.link link i.round round
        (Ended d.ts d.ends x left) (Ended d.us d.mids y leaves) f.p f.q
        i.at (Both_over refl refl i.count) f.at (On_line cause f.is f.going) in
        let there = same-place (λ l n. At script files others l n (Ended d.ts d.ends x left) (Ended d.us d.mids y leaves)) i.link link
        i.round round place i.at in
        let one = one-at laws.same script files others delays link round (Ended d.ts d.ends x left) (Ended d.us d.mids y leaves) f.p f.q
        there f.at in
        absurd (going-not (is_going f.p) (is_going f.q) (ap is_going (sym one.0)) (ap is_going (sym one.1)) f.going)
    go (by_line link round cause f g) (by_links x y d e) =
        let i = both-stop script files others (Ended d.ts d.ends x other) (Ended d.us d.mids y more) d.at in
        let place = one-place laws.same script files others delays i.link link i.round round
        (Ended d.ts d.ends x other) (Ended d.us d.mids y more) f.p f.q
        i.at (Both_over refl refl i.count) f.at (On_line cause f.is f.going) in
        let there = same-place (λ l n. At script files others l n (Ended d.ts d.ends x other) (Ended d.us d.mids y more)) i.link link
        i.round round place i.at in
        let one = one-at laws.same script files others delays link round (Ended d.ts d.ends x other) (Ended d.us d.mids y more) f.p f.q
        there f.at in
        absurd (going-not (is_going f.p) (is_going f.q) (ap is_going (sym one.0)) (ap is_going (sym one.1)) f.going)
    go (by_line link round cause f g) (by_line way turn reason k l) =
        let place = one-place laws.same script files others delays link way round turn f.p f.q k.p k.q f.at (On_line cause f.is f.going)
        k.at
        (On_line reason k.is k.going) in
        let there : LineEnds script files others way turn cause left leaves =
        same-place (λ l n. LineEnds script files others l n cause left leaves) link way round turn place f in
        let rounds = same-place (λ z n. line_end round cause ≡ line_end n cause) link way round turn place refl in
        let same = same-line laws script files others delays way turn cause reason left other leaves more there k in
        (g ∙ rounds ∙ same.0 ∙ sym l, same.1, same.2)
