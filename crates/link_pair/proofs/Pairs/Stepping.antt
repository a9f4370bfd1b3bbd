-- Pairs turn by turn: what there was before the last turn, and that there was one thing.
use Rattle.link_pair.proofs.Names.{◌≡◌, ◌⊎◌, inl, inr, ℕ, zero, suc, ◌+◌, ◌-◌, ◌*◌, ◌<◌, ◌≤◌, false, List, [], ◌∷◌, length, arith, refl}
use Rattle.link_pair.proofs.Names.{sym, ap, subst, Some, false≢true, RunEnd, Left, link_of, wire_at, first_dlci, second_dlci, slot_in}
use Rattle.link_pair.proofs.Names.{after_second, after_first, first_wire, second_wire, lasting, Which, First, Second, is_going, firsts_at}
use Rattle.link_pair.proofs.Names.{Progress, Goes, Ended, turns_in, ends_in, turns_on_line, HearsIdly, IdlesFor, Lasts, PairAt, hearing-of}
use Rattle.link_pair.proofs.Names.{Link, Accounts, Turn, start, ScriptValue, delay_of, Both, Role}
use Rattle.link_pair.proofs.Pairs.Clear.{Beside}
use Rattle.link_pair.proofs.Pairs.Same.{SameLaws, well-heard, EndedIs, ended-is, lasts-once}
use Rattle.line_run.proofs.Resulting.{same-or-less}
use Rattle.link_pair.proofs.Pairs.Agreeing.{same-lasts, slot-stays}

-- what a link came to one round before: its slots stay, those that arrive in that round are heard well, and once it has ended it stays so
pub record Before (script : ScriptValue) (dlci : ℕ) (beside : Beside) (link : Link) (rounds : ℕ) (p : Progress) : Type 0 where
  pub earlier : Progress
  pub lasts : Lasts (wire_at script dlci beside) link rounds earlier
  pub same : (at : ℕ) (role : Role) (round : ℕ) → round < rounds
      → slot_in at role (turns_in p) round ≡ slot_in at role (turns_in earlier) round
  pub well : HearsIdly (wire_at script dlci beside) (turns_on_line rounds earlier) (ends_in earlier)
  pub stays : is_going earlier ≡ false → p ≡ earlier

before-ended : (script : ScriptValue) (dlci : ℕ) (beside : Beside) (link : Link) (rounds : ℕ) (ts : List Turn) (ends : Accounts)
    (end : RunEnd)
    (left : Left) → Lasts (wire_at script dlci beside) link (suc rounds) (Ended ts ends end left)
    → (rounds ≡ length ts) ⊎ (length ts < rounds) → Before script dlci beside link rounds (Ended ts ends end left)
before-ended script dlci beside link rounds ts ends end left h (inl e) =
    let k : EndedIs (wire_at script dlci beside) link ts ends end left = ended-is (wire_at script dlci beside) link _ ts ends end left h in
    record {
      earlier = Goes ts k.before;
      lasts = record { run = k.run; count = sym e };
      same = λ at role round l. refl;
      well = well-heard (wire_at script dlci beside) ts k.before k.last.last ends
          (hearing-of link ts k.before k.last.last ends k.last.outcome k.last.is) k.last.heard;
      stays = λ g. absurd (false≢true (sym g));
    }
before-ended script dlci beside link rounds ts ends end left h (inr l) =
    let more : suc rounds - suc (length ts) ≡ suc (rounds - suc (length ts)) = omega (arith, l) in
    let idles : IdlesFor (wire_at script dlci beside) ends (suc (rounds - suc (length ts))) ts =
    subst (λ n. IdlesFor (wire_at script dlci beside) ends n ts) more h.idles in
    let back : suc (rounds - suc (length ts)) ≡ rounds - length ts = omega (arith, l) in
    record {
      earlier = Ended ts ends end left;
      lasts = record {
        ran = h.ran;
        turns_are = h.turns_are;
        ends_are = h.ends_are;
        by_link = h.by_link;
        before = l;
        idles = idles.1;
      };
      same = λ at role round k. refl;
      well = subst (λ n. HearsIdly (wire_at script dlci beside) (lasting n ts) ends) back idles.0;
      stays = λ g. refl;
    }

before-of : (script : ScriptValue) (dlci : ℕ) (beside : Beside) (link : Link) (rounds : ℕ) (p : Progress)
    → Lasts (wire_at script dlci beside) link (suc rounds) p → Before script dlci beside link rounds p
before-of script dlci beside link rounds (Goes [] ends) h = absurd (omega (arith, h.count))
before-of script dlci beside link rounds (Goes (t ∷ ts) ends) h =
    let r = h.run.run in
    record {
      earlier = Goes ts r.0;
      lasts = record { run = record { run = r.1; heard = h.run.heard.1 }; count = omega (arith, h.count) };
      same = λ at role round l. slot-stays at role t ts round (omega (arith, l, h.count));
      well = well-heard (wire_at script dlci beside) ts r.0 t r.2.mid r.2.hearing h.run.heard.0;
      stays = λ g. absurd (false≢true (sym g));
    }
before-of script dlci beside link rounds (Ended ts ends end left) h =
    before-ended script dlci beside link rounds ts ends end left h (same-or-less (length ts) rounds h.before)

-- a pair before the last turn of its first link, or of its second
pub record BeforeFirst (script : ScriptValue) (files others : Both (List ℕ)) (rounds : ℕ) (p q : Progress) : Type 0 where
  pub was : Before script first_dlci (after_second (turns_in q)) (link_of script files) rounds p
  pub at : PairAt script files others rounds rounds was.earlier q

pub record BeforeSecond (script : ScriptValue) (files others : Both (List ℕ)) (rounds : ℕ) (p q : Progress) : Type 0 where
  pub was : Before script second_dlci (after_first (turns_in p)) (link_of script others) rounds q
  pub at : PairAt script files others (suc rounds) rounds p was.earlier

abbrev pub HasDelays : ScriptValue → Type 0
HasDelays script = (role : Role) → 1 ≤ delay_of script role

pub before-first : (script : ScriptValue) (files others : Both (List ℕ)) → HasDelays script → (rounds : ℕ) (p q : Progress)
    → PairAt script files others (suc rounds) rounds p q → BeforeFirst script files others rounds p q
before-first script files others delays rounds p q a =
    let e = before-of script first_dlci (after_second (turns_in q)) (link_of script files) rounds p a.first in
    record {
      was = e;
      at = record {
        first = e.lasts;
        second = same-lasts script second_dlci (after_first (turns_in p)) (after_first (turns_in e.earlier)) delays (link_of script others)
            rounds q (λ role round l. ap Some (e.same first_dlci role round l)) a.second;
      };
    }

pub before-second : (script : ScriptValue) (files others : Both (List ℕ)) → HasDelays script → (rounds : ℕ) (p q : Progress)
    → PairAt script files others (suc rounds) (suc rounds) p q → BeforeSecond script files others rounds p q
before-second script files others delays rounds p q a =
    record {
      was = e;
      at = record {
        first = same-lasts script first_dlci (after_second (turns_in q)) (after_second (turns_in e.earlier)) delays (link_of script files)
            (suc rounds) p beside a.first;
        second = e.lasts;
      };
    }
  where
    e : Before script second_dlci (after_first (turns_in p)) (link_of script others) rounds q
    e = before-of script second_dlci (after_first (turns_in p)) (link_of script others) rounds q a.second

    beside : (role : Role) (round : ℕ) → round < suc rounds
        → after_second (turns_in q) role round ≡ after_second (turns_in e.earlier) role round
    beside role round l = grind (arith, e)

-- there is one thing that a pair came to in so many turns
starts : (script : ScriptValue) (dlci : ℕ) (beside : Beside) (link : Link) (p : Progress) → Lasts (wire_at script dlci beside) link 0 p
    → p ≡ Goes [] (start link)
starts script dlci beside link (Goes [] ends) h = ap (Goes []) h.run.run
starts script dlci beside link (Goes (t ∷ ts) ends) h = absurd (omega (arith, h.count))
starts script dlci beside link (Ended ts ends end left) h = absurd (omega (arith, h.before))

abbrev pub OneAt : ScriptValue → Both (List ℕ) → Both (List ℕ) → ℕ → ℕ → Type 0
OneAt script files others firsts seconds = (p q r s : Progress) → PairAt script files others firsts seconds p q
    → PairAt script files others firsts seconds r s → (p ≡ r) × (q ≡ s)

one-start : (script : ScriptValue) (files others : Both (List ℕ)) → OneAt script files others 0 0
one-start script files others p q r s a b = grind (arith, starts)

one-first : SameLaws → (script : ScriptValue) (files others : Both (List ℕ)) → HasDelays script → (n : ℕ) → OneAt script files others n n
    → OneAt script files others (suc n) n
one-first laws script files others delays n one p q r s a b =
    let x = before-first script files others delays n p q a in
    let y = before-first script files others delays n r s b in
    let e = one x.was.earlier q y.was.earlier s x.at y.at in (
      lasts-once laws (first_wire script (turns_in s)) (link_of script files) (suc n) p r
          (subst (λ z. Lasts (first_wire script (turns_in z)) (link_of script files) (suc n) p) e.1 a.first) b.first,
      e.1,
    )

one-second : SameLaws → (script : ScriptValue) (files others : Both (List ℕ)) → HasDelays script → (n : ℕ)
    → OneAt script files others (suc n) n → OneAt script files others (suc n) (suc n)
one-second laws script files others delays n one p q r s a b =
    let x = before-second script files others delays n p q a in
    let y = before-second script files others delays n r s b in
    let e = one p x.was.earlier r y.was.earlier x.at y.at in (
      e.0,
      lasts-once laws (second_wire script (turns_in r)) (link_of script others) (suc n) q s
          (subst (λ z. Lasts (second_wire script (turns_in z)) (link_of script others) (suc n) q) e.0 a.second) b.second,
    )

one-round : SameLaws → (script : ScriptValue) (files others : Both (List ℕ)) → HasDelays script → (n : ℕ) → OneAt script files others n n
one-round laws script files others delays zero = one-start script files others
one-round laws script files others delays (suc n) =
    one-second laws script files others delays n
    (one-first laws script files others delays n (one-round laws script files others delays n))

-- as the turn of a link begins in a round
abbrev pub At : ScriptValue → Both (List ℕ) → Both (List ℕ) → Which → ℕ → Progress → Progress → Type 0
At script files others link round p q = PairAt script files others (firsts_at link round) round p q

pub one-at : SameLaws → (script : ScriptValue) (files others : Both (List ℕ)) → HasDelays script → (link : Which) (round : ℕ)
    (p q r s : Progress) → At script files others link round p q → At script files others link round r s → (p ≡ r) × (q ≡ s)
one-at laws script files others delays link round p q r s a b = grind (arith, one-round, one-first)

-- that turn's slots are heard well
abbrev pub HearsTurn : ScriptValue → Which → ℕ → Progress → Progress → Type 0
HearsTurn script First round p q = HearsIdly (first_wire script (turns_in q)) (turns_on_line round p) (ends_in p)
HearsTurn script Second round p q = HearsIdly (second_wire script (turns_in p)) (turns_on_line round q) (ends_in q)

-- a pair as an earlier turn began
pub record Earlier (script : ScriptValue) (files others : Both (List ℕ)) (link : Which) (round : ℕ) (p q : Progress) : Type 0 where
  pub p0 : Progress
  pub q0 : Progress
  pub at : At script files others link round p0 q0
  pub well : HearsTurn script link round p0 q0
  pub p_stays : is_going p0 ≡ false → p ≡ p0
  pub q_stays : is_going q0 ≡ false → q ≡ q0

-- how many turns were made by then, of both links
abbrev pub turns_by : Which → ℕ → ℕ
turns_by First round = 2 * round
turns_by Second round = suc (2 * round)

back-second : (script : ScriptValue) (files others : Both (List ℕ)) → HasDelays script → (round : ℕ) (p q : Progress)
    → At script files others First (suc round) p q → Earlier script files others Second round p q
back-second script files others delays round p q a =
    let b = before-second script files others delays round p q a in
    record { p0 = p; q0 = b.was.earlier; at = b.at; well = b.was.well; p_stays = λ e. refl; q_stays = b.was.stays }

back-first : (script : ScriptValue) (files others : Both (List ℕ)) → HasDelays script → (round : ℕ) (p q : Progress)
    → At script files others Second round p q → Earlier script files others First round p q
back-first script files others delays round p q a =
    let b = before-first script files others delays round p q a in
    record { p0 = b.was.earlier; q0 = q; at = b.at; well = b.was.well; p_stays = b.was.stays; q_stays = λ e. refl }

-- a turn of that number is one turn
pub same-place : (P : Which → ℕ → Type 0) (a b : Which) (m n : ℕ) → turns_by a m ≡ turns_by b n → P a m → P b n
same-place P a b m n e h = grind (arith)

joined : (script : ScriptValue) (files others : Both (List ℕ)) (a b : Which) (m n : ℕ) (p q : Progress)
    → (x : Earlier script files others a m p q) → Earlier script files others b n x.p0 x.q0 → Earlier script files others b n p q
joined script files others a b m n p q x y = grind (arith)

-- a pair as it was so many turns before
pub back-to : (script : ScriptValue) (files others : Both (List ℕ)) → HasDelays script → (more : ℕ) (a b : Which) (m n : ℕ) (p q : Progress)
    → turns_by a m ≡ suc (more + turns_by b n) → At script files others a m p q → Earlier script files others b n p q
back-to script files others delays zero First b zero n p q e h = absurd (omega (arith, e))
back-to script files others delays (suc more) First b zero n p q e h = absurd (omega (arith, e))
back-to script files others delays zero First b (suc m) n p q e h =
    same-place (λ link round. Earlier script files others link round p q) Second b m n (omega (arith, e))
    (back-second script files others delays m p q h)
back-to script files others delays zero Second b m n p q e h =
    same-place (λ link round. Earlier script files others link round p q) First b m n (omega (arith, e))
    (back-first script files others delays m p q h)
back-to script files others delays (suc more) First b (suc m) n p q e h =
    let x = back-second script files others delays m p q h in
    joined script files others Second b m n p q x
    (back-to script files others delays more Second b m n x.p0 x.q0 (omega (arith, e)) x.at)
back-to script files others delays (suc more) Second b m n p q e h =
    let x = back-first script files others delays m p q h in
    joined script files others First b m n p q x
    (back-to script files others delays more First b m n x.p0 x.q0 (omega (arith, e)) x.at)
