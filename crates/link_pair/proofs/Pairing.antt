-- A pair, from turn to turn of its links.
use Rattle.link_pair.proofs.Names.{◌≡◌, ◌⊎◌, ℕ, zero, suc, ◌+◌, ◌*◌, ◌^◌, ◌<◌, ◌≤◌, ◌||◌, Bool, true, false, List, ◌∷◌, ◌++◌, length, arith}
use Rattle.link_pair.proofs.Names.{refl, sym, ◌∙◌, ap, Option, Some, None, Left, Written, Wire, wire_at, link_of, ScriptsHaveDelays}
use Rattle.link_pair.proofs.Names.{Carried, carry, and_sent, AreSent, LinesWait, AreDue, AreWithin, Lines, Modems, run_end, StandsFor}
use Rattle.link_pair.proofs.Names.{HalfAt, HalfIsReady, Follows, both_ended, streams_at, Awaits, first_dlci, second_dlci, slot_in}
use Rattle.link_pair.proofs.Names.{after_second, after_first, first_wire, second_wire, Which, First, Second, is_going, firsts_at}
use Rattle.link_pair.proofs.Names.{AreFewRounds, AreShort, PairsHaveFewRounds, FirstSlotsAreDue, SecondSlotsAreDue, Progress, Goes, Ended}
use Rattle.link_pair.proofs.Names.{turns_in, turns_on_line, Lasts, PairAt, both_sent, first_sent, LinkEnd, Endings, Pair, Link, Accounts}
use Rattle.link_pair.proofs.Names.{Turn, Spoken, ScriptValue, IsInLimits, FolderState, Both, of, Role}
use Rattle.std.proofs.lemmas.List.{length-append}
use Rattle.line_world.specs.Lines.{PassedFew, from}
use Rattle.line_world.proofs.Waiting.{passed-few}
use Rattle.link_pair.proofs.Pairs.Clear.{Beside}
use Rattle.link_pair.proofs.Pairs.Agreeing.{same-lasts, slot-stays}
use Rattle.link_pair.proofs.Pairs.Streaming.{both-length}
use Rattle.link_pair.proofs.Pairs.Placing.{sent-on-line, length-on-line}

pub record PairLaws : Type 0 where
  pub delays : ScriptsHaveDelays
  pub first : FirstSlotsAreDue
  pub second : SecondSlotsAreDue
  pub few : PairsHaveFewRounds

pub pair-laws : ScriptsHaveDelays → FirstSlotsAreDue → SecondSlotsAreDue → PairsHaveFewRounds → PairLaws
pair-laws delays first second few = record { delays = delays; first = first; second = second; few = few }

-- ---- how many rounds there are

pub either : (x y : Bool) → (x || y) ≡ true → (x ≡ true) ⊎ ((x ≡ false) × (y ≡ true))
either x y e = grind (arith)

are-short : (files : Both (List ℕ)) → AreWithin files → AreShort files
are-short files within b = grind (arith)

firsts-least : (link : Which) (round : ℕ) → round ≤ firsts_at link round
firsts-least link round = grind (arith)

pub few-rounds : PairsHaveFewRounds → (x : Pair) (f : FolderState) (n m : Written) (link : Which) → Awaits x f n m link
    → x.round < 2 ^ 39
few-rounds law x f n m link a = go (either (is_going a.p) (is_going a.q) a.going)
  where
    both : (is_going a.p ≡ true → AreFewRounds x.script a.files (firsts_at link x.round) a.p)
        × (is_going a.q ≡ true → AreFewRounds x.script a.others x.round a.q)
    both = law x.script a.files a.others (firsts_at link x.round) x.round a.p a.q a.limits (are-short a.files a.first_known.within)
        (are-short a.others a.second_known.within) a.at

    go : (is_going a.p ≡ true) ⊎ ((is_going a.p ≡ false) × (is_going a.q ≡ true)) → x.round < 2 ^ 39
    go given = grind (arith, both, firsts-least)

-- ---- the line between turns

-- it waits for the same whatever goes beside, on every channel
pub waits-over : (l : Lines) (script : ScriptValue) (dlci at : ℕ) (b d : Beside) (links : ℕ) (streams : Both (List Carried))
    → LinesWait l (wire_at script dlci b) links streams → LinesWait l (wire_at script at d) links streams
waits-over l script dlci at b d links streams h = grind (arith)

pub first-due : PairLaws → (script : ScriptValue) (files others : Both (List ℕ)) (round : ℕ) (p q : Progress) → IsInLimits script
    → PairAt script files others round round p q
    → AreDue (first_wire script (turns_in q)) 2 (turns_on_line round p) (streams_at First round p q)
first-due laws script files others round p q h at given = grind (arith)

pub second-due : PairLaws → (script : ScriptValue) (files others : Both (List ℕ)) (round : ℕ) (p q : Progress) → IsInLimits script
    → PairAt script files others (suc round) round p q
    → AreDue (second_wire script (turns_in p)) 2 (turns_on_line round q) (streams_at Second round p q)
second-due laws script files others round p q h at given = grind (arith)

-- how many slots both have sent
one-carried : (dlci : ℕ) (o : Option Spoken) → length (carry dlci o) ≤ 1
one-carried dlci o = grind (arith)

first-length : (role : Role) (ts us : List Turn) → AreSent role ts → AreSent role us → length ts ≡ suc (length us)
    → length (first_sent role ts us) ≤ 2 * length us + 1
first-length role ts us h k e = grind (arith, both-length, one-carried, length-append)

stream-short : (script : ScriptValue) (files others : Both (List ℕ)) (link : Which) (round : ℕ) (p q : Progress)
    → PairAt script files others (firsts_at link round) round p q → (role : Role)
    → length (of role (streams_at link round p q)) ≤ 2 * round + 1
stream-short script files others First round p q at role = by role
  where
    P : List Turn
    P = turns_on_line round p

    Q : List Turn
    Q = turns_on_line round q

    long : length P ≡ round
    long = length-on-line script first_dlci (after_second (turns_in q)) (link_of script files) round p at.first

    wide : length Q ≡ round
    wide = length-on-line script second_dlci (after_first (turns_in p)) (link_of script others) round q at.second

    count : (side : Role) → length (both_sent side P Q) ≤ 2 * round + 1
    count side =
        omega (
          arith,
          long,
          both-length side P Q (sent-on-line script first_dlci (after_second (turns_in q))
              (link_of script files) round round p at.first side)
              (sent-on-line script second_dlci (after_first (turns_in p)) (link_of script others) round round q at.second side) (long
              ∙ sym wide),
        )

    by : (side : Role) → length (of side (streams_at First round p q)) ≤ 2 * round + 1
    by side = grind (arith, count)
stream-short script files others Second round p q at role = by role
  where
    P : List Turn
    P = turns_on_line (suc round) p

    Q : List Turn
    Q = turns_on_line round q

    long : length P ≡ suc round
    long = length-on-line script first_dlci (after_second (turns_in q)) (link_of script files) (suc round) p at.first

    wide : length Q ≡ round
    wide = length-on-line script second_dlci (after_first (turns_in p)) (link_of script others) round q at.second

    count : (side : Role) → length (first_sent side P Q) ≤ 2 * round + 1
    count side =
        omega (
          arith,
          wide,
          first-length side P Q
              (sent-on-line script first_dlci (after_second (turns_in q)) (link_of script files) (suc round) (suc round) p at.first side)
              (sent-on-line script second_dlci (after_first (turns_in p)) (link_of script others) round round q at.second side)
              (long ∙ ap suc (sym wide)),
        )

    by : (side : Role) → length (of side (streams_at Second round p q)) ≤ 2 * round + 1
    by side = grind (arith, count)

passed : PairLaws → (x : Pair) (f : FolderState) (n m : Written) (link : Which) → Awaits x f n m link → PassedFew x.lines.directions
passed laws x f n m link a = each
  where
    short : x.round < 2 ^ 39
    short = few-rounds laws.few x f n m link a

    long : (role : Role) → length (of role (streams_at link x.round a.p a.q)) ≤ 2 * x.round + 1
    long = stream-short x.script a.files a.others link x.round a.p a.q a.at

    each : (role : Role) → (from role x.lines.directions).line.passed < 2 ^ 40
    each role =
        omega (
          arith,
          short,
          long role,
          passed-few (from role x.lines.directions) (first_wire x.script (turns_in a.q)) role 2 (of role (streams_at link x.round a.p a.q))
              (a.lines.directions role),
        )

-- ---- so each link's part of a round may be made

pub first-at : PairLaws → (x : Pair) (f : FolderState) (n m : Written) (a : Awaits x f n m First)
    → HalfAt x.first x.lines f n x.script (after_second (turns_in a.q)) 2 (streams_at First x.round a.p a.q) a.files x.round a.p
first-at laws x f n m a = grind (arith, first-due)

pub second-at : PairLaws → (x : Pair) (f : FolderState) (n m : Written) (a : Awaits x f n m Second)
    → HalfAt x.second x.lines f m x.script (after_first (turns_in a.p)) 2 (streams_at Second x.round a.p a.q) a.others x.round a.q
second-at laws x f n m a = grind (arith, waits-over, second-due)

pub first-ready : PairLaws → (x : Pair) (f : FolderState) (n m : Written) → Awaits x f n m First
    → HalfIsReady x.first x.lines x.script f n x.round
first-ready laws x f n m a = record {
  limits = a.limits;
  low = omega (arith, a.first_dlci_is);
  few = passed laws x f n m First a;
  beside = after_second (turns_in a.q);
  links = 2;
  streams = streams_at First x.round a.p a.q;
  files = a.files;
  p = a.p;
  at = first-at laws x f n m a;
}

pub second-ready : PairLaws → (x : Pair) (f : FolderState) (n m : Written) → Awaits x f n m Second
    → HalfIsReady x.second x.lines x.script f m x.round
second-ready laws x f n m a = record {
  limits = a.limits;
  low = omega (arith, a.second_dlci_is);
  few = passed laws x f n m Second a;
  beside = after_first (turns_in a.p);
  links = 2;
  streams = streams_at Second x.round a.p a.q;
  files = a.others;
  p = a.q;
  at = second-at laws x f n m a;
}

-- ---- what a turn leaves of the other link

-- the slots of earlier rounds stay as they are
follows-stays : (p next : Progress) (rounds : ℕ) → Follows p next → (is_going p ≡ true → length (turns_in p) ≡ rounds)
    → (dlci : ℕ) (role : Role) (round : ℕ) → round < rounds → slot_in dlci role (turns_in p) round ≡ slot_in dlci role (turns_in next) round
follows-stays p next rounds is count dlci role round l = grind (arith, slot-stays)

pub counted : (c : Wire) (link : Link) (rounds : ℕ) (p : Progress) → Lasts c link rounds p → is_going p ≡ true
    → length (turns_in p) ≡ rounds
counted c link rounds p l e = grind (arith)

-- the pair once the first link has come farther,
pub at-second : ScriptsHaveDelays → (script : ScriptValue) (files more others : Both (List ℕ)) (round : ℕ) (p next q : Progress)
    → IsInLimits script → PairAt script files others round round p q → Follows p next
    → Lasts (first_wire script (turns_in q)) (link_of script more) (suc round) next
    → PairAt script more others (suc round) round next q
at-second delays script files more others round p next q h at follows l = record {
  first = l;
  second = same-lasts script second_dlci (after_first (turns_in p)) (after_first (turns_in next)) (delays script h) (link_of script others)
      round q (λ role r k. ap Some (follows-stays p next round follows
      (counted (first_wire script (turns_in q)) (link_of script files) round p at.first) first_dlci role r k)) at.second;
}

-- and once the second has
pub at-first : ScriptsHaveDelays → (script : ScriptValue) (files others more : Both (List ℕ)) (round : ℕ) (p q next : Progress)
    → IsInLimits script → PairAt script files others (suc round) round p q → Follows q next
    → Lasts (second_wire script (turns_in p)) (link_of script more) (suc round) next
    → PairAt script files more (suc round) (suc round) p next
at-first delays script files others more round p q next h at follows l = record {
  first = same-lasts script first_dlci (after_second (turns_in q)) (after_second (turns_in next)) (delays script h) (link_of script files)
      (suc round) p near at.first;
  second = l;
}
  where
    near : (role : Role) (r : ℕ) → r < suc round → after_second (turns_in q) role r ≡ after_second (turns_in next) role r
    near role zero k = refl
    near role (suc r) k = ap Some (follows-stays q next round follows
        (counted (second_wire script (turns_in p)) (link_of script others) round q at.second) second_dlci role r (omega (arith, k)))

-- what is on the line then
pub after-first-turn : (sent : Turn) (round : ℕ) (p next q : Progress) → turns_on_line (suc round) next ≡ sent ∷ turns_on_line round p
    → streams_at Second round next q ≡ and_sent (streams_at First round p q) first_dlci sent
after-first-turn sent round p next q e = grind (arith)

second-more : (role : Role) (ts us : List Turn) (u : Turn) (count : ℕ) → length ts ≡ suc count
    → both_sent role ts (u ∷ us) ≡ first_sent role ts us ++ carry second_dlci (of role u).sent
second-more role ts us u count e = grind (arith)

pub after-second-turn : (sent : Turn) (round : ℕ) (p q next : Progress) → length (turns_on_line (suc round) p) ≡ suc round
    → turns_on_line (suc round) next ≡ sent ∷ turns_on_line round q
    → streams_at First (suc round) p next ≡ and_sent (streams_at Second round p q) second_dlci sent
after-second-turn sent round p q next long e = grind (arith, second-more)

-- ---- both have ended, or one goes on

pub stands-going : (a b : Option LinkEnd) (x y : Modems) (files others : Both (List ℕ))
    (p q : Progress) → StandsFor a x files p → StandsFor b y others q → both_ended a b ≡ None → (is_going p || is_going q) ≡ true
stands-going a b x y files others p q s t e = grind (arith)

-- both have
pub record AreOver (endings : Endings) (p q : Progress) : Type 0 where
  pub ts : List Turn
  pub ends : Accounts
  pub left : Left
  pub us : List Turn
  pub mids : Accounts
  pub leaves : Left
  pub first_is : p ≡ Ended ts ends (run_end endings.first) left
  pub second_is : q ≡ Ended us mids (run_end endings.second) leaves

pub stands-over : (a b : Option LinkEnd) (x y : Modems) (files others : Both (List ℕ))
    (p q : Progress) (endings : Endings) → StandsFor a x files p → StandsFor b y others q → both_ended a b ≡ Some endings
    → AreOver endings p q
stands-over None b x y files others p q endings s t e = absurd (cc e)
stands-over (Some found) None x y files others p q endings s t e = absurd (cc e)
stands-over (Some found) (Some last) x y files others (Goes ts ends) q endings s t e = absurd s
stands-over (Some found) (Some last) x y files others (Ended ts ends end left) (Goes us mids) endings s t e = absurd t
stands-over (Some found) (Some last) x y files others (Ended ts ends end left) (Ended us mids by had) endings s t e = record {
  ts = ts;
  ends = ends;
  left = left;
  us = us;
  mids = mids;
  leaves = had;
  first_is = ap (λ z. Ended ts ends z left) (s.end_is ∙ ap (λ z. run_end (first-of z)) e);
  second_is = ap (λ z. Ended us mids z had) (t.end_is ∙ ap (λ z. run_end (second-of z)) e);
}
  where
    first-of : Option Endings → LinkEnd
    first-of None = found
    first-of (Some z) = z.first

    second-of : Option Endings → LinkEnd
    second-of None = last
    second-of (Some z) = z.second
