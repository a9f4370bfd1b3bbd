-- What a link's turn comes to for the pair.
use Rattle.link_pair.proofs.Names.{◌≡◌, ◌⊎◌, ℕ, suc, ◌+◌, ◌<◌, max, true, false, List, [], length, arith, refl, sym, ◌∙◌, ap, subst, Option}
use Rattle.link_pair.proofs.Names.{Some, None, Result, Ok, Err, append-nil, Left, Written, outputs_of, Wire, LineEnd, wire_at, link_of}
use Rattle.link_pair.proofs.Names.{Carried, RunFault, LinesWait, Lines, run_end, left_by, HoldLeft, Follows, HasCome, IsEndedByLine}
use Rattle.link_pair.proofs.Names.{LinkStops, LinkStopsReading, IsStopped, HalfEnds, HalfAt, both_ended, streams_at, Awaits, HaveEnded}
use Rattle.link_pair.proofs.Names.{FaultEndsIn, Comes, first_dlci, second_dlci, after_second, after_first, first_wire, second_wire, First}
use Rattle.link_pair.proofs.Names.{Second, is_going, LeavesOf, by_links, by_line, Progress, Ended, turns_in, Lasts, PairAt, Half, LinkEnd}
use Rattle.link_pair.proofs.Names.{Endings, Pair, Link, Accounts, Turn, ScriptValue, FolderState, OnlyPuts, Both}
use Rattle.line_run.specs.Sampled as lines
use Rattle.link_pair.specs.Pairs.Ends.{BothEnd}
use Rattle.link_pair.specs.Pairs.Ends as pairs
use Rattle.link_pair.proofs.Pairs.Clear.{Beside}
use Rattle.link_pair.proofs.Pairs.Placing.{length-on-line}
use Rattle.line_run.specs.declared.fault.RunFault.TheVariants as faults
use Rattle.link_pair.specs.Half.{last_turn}
use Rattle.link_pair.specs.Half.{HalfAnswers}
use Rattle.link_pair.specs.Pair.{last_round, EndedIn, StopsIn}
use Rattle.link_pair.proofs.Beside.{AllApart, first-beside, second-beside, known-beside, held-beside}
use Rattle.link_pair.proofs.Pairing.{PairLaws, AreOver, either, counted, waits-over, at-first, at-second, after-first-turn}
use Rattle.link_pair.proofs.Pairing.{after-second-turn, first-at, second-at, stands-going, stands-over}

-- the pair with one of its links in its next round, and the line then
abbrev pub first_moved : Pair → Half → Lines → Pair
first_moved x h l = record { first = h; second = x.second; lines = l; script = x.script; round = x.round }

abbrev pub second_moved : Pair → Half → Lines → Pair
second_moved x h l = record { first = x.first; second = h; lines = l; script = x.script; round = x.round + 1 }

-- how the folder is around the turn
pub record Leaves (old new : FolderState) (n m : Written) (own : Written) : Type 0 where
  pub apart : AllApart n m
  pub only : OnlyPuts old new (outputs_of own)

-- what a link's turn answers, whatever goes beside it
abbrev pub Answers : Half → Lines → ScriptValue → FolderState → FolderState → Written → ℕ → Half → Lines
    → Result (Unit {0}) RunFault → Type 0
Answers half lines script old new n round h l answer =
    (beside : Beside) (links : ℕ) (streams : Both (List Carried)) (files : Both (List ℕ)) (p : Progress)
    → HalfAt half lines old n script beside links streams files round p
    → HalfAnswers h l (wire_at script half.dlci beside) links streams new n files round p answer

-- both have ended: the later one in this round
ended-before : (c : Wire) (files : Both (List ℕ)) (rounds : ℕ) (p : Progress) → Lasts c (link_of c.script files) rounds p
    → is_going p ≡ false → length (turns_in p) < rounds
ended-before c files rounds p l e = grind (arith)

ended-now : (p next : Progress) (rounds : ℕ) → Follows p next → is_going p ≡ true → is_going next ≡ false → length (turns_in p) ≡ rounds
    → length (turns_in next) ≡ rounds
ended-now p next rounds f g e count = grind (arith)

-- its last turn is numbered by those before
last-turn-is : (c : Wire) (link : Link) (rounds : ℕ) (p : Progress) (ts : List Turn) (ends : Accounts) (found : LinkEnd) (left : Left)
    → p ≡ Ended ts ends (run_end found) left → Lasts c link rounds p → last_turn found ≡ length ts
last-turn-is c link rounds p ts ends found left e l = grind (arith)

over-pair : (script : ScriptValue) (files others : Both (List ℕ)) (firsts seconds : ℕ) (p q : Progress) (endings : Endings)
    → PairAt script files others firsts seconds p q → (o : AreOver endings p q)
    → firsts ≡ suc (max (length o.ts) (length o.us)) → seconds ≡ max (length o.ts) (suc (length o.us))
    → BothEnd script files others (run_end endings.first) (run_end endings.second) o.left o.leaves
over-pair script files others firsts seconds p q endings at o e f = grind (arith)

one-more : (round : ℕ) → suc round ≡ round + 1
one-more round = omega arith

-- what is left of the other one, with nothing behind its trace
leaves-none : (p : Progress) → LeavesOf p [] (left_by p)
leaves-none p = grind (arith, append-nil)

abbrev Stopping : Type 1
Stopping = Wire → Link → FolderState → Written → ℕ → Progress → Type 0

-- ---- the turn of the first link

module _ (laws : PairLaws) (x : Pair) (h : Half) (l : Lines) (old new : FolderState) (n m : Written) (a : Awaits x old n m First)
    (around : Leaves old new n m n) where
  first-come : Answers x.first x.lines x.script old new n x.round h l (Ok tt)
      → HasCome h l (first_wire x.script (turns_in a.q)) 2 (streams_at First x.round a.p a.q) new n x.round a.p
  first-come answers =
      subst (λ d. HasCome h l (wire_at x.script d (after_second (turns_in a.q))) 2 (streams_at First x.round a.p a.q) new n x.round a.p)
      a.first_dlci_is
      (answers (after_second (turns_in a.q)) 2 (streams_at First x.round a.p a.q) a.files a.p (first-at laws x old n m a))

  goes-to-second : h.dlci ≡ x.first.dlci → both_ended h.ended x.second.ended ≡ None
      → Answers x.first x.lines x.script old new n x.round h l (Ok tt) → Awaits (first_moved x h l) new n m Second
  goes-to-second same none answers =
      let k = first-come answers in
      let beside = second-beside n m around.apart in record {
        limits = a.limits;
        first_dlci_is = same ∙ a.first_dlci_is;
        second_dlci_is = a.second_dlci_is;
        first_wire_is = k.channel ∙ sym (same ∙ a.first_dlci_is);
        second_wire_is = a.second_wire_is;
        files = k.others;
        others = a.others;
        p = k.next;
        q = a.q;
        at = at-second laws.delays x.script a.files k.others a.others x.round a.p k.next a.q a.limits a.at k.follows k.lasts;
        going = stands-going h.ended x.second.ended h.modems x.second.modems k.others a.others k.next a.q k.stands a.second none;
        first = k.stands;
        second = a.second;
        lines = subst (LinesWait l (first_wire x.script (turns_in a.q)) 2) (sym (after-first-turn k.sent x.round a.p k.next a.q k.on_line))
            k.waits;
        first_known = k.knows;
        second_known = known-beside old new m n a.others beside around.only a.second_known;
        first_holds = k.holds;
        second_holds = held-beside old new m n a.q beside around.only a.second_holds;
      }

  ends-first : (endings : Endings) → both_ended h.ended x.second.ended ≡ Some endings
      → Answers x.first x.lines x.script old new n x.round h l (Ok tt)
      → HaveEnded x.script new n m endings × (last_round endings ≡ x.round)
  ends-first endings some answers = (
    record {
      files = k.others;
      others = a.others;
      first_known = k.knows;
      second_known = known-beside old new m n a.others (second-beside n m around.apart) around.only a.second_known;
      left = o.left;
      leaves = o.leaves;
      runs = by_links (run_end endings.first) (run_end endings.second)
          (over-pair x.script k.others a.others (suc x.round) x.round k.next a.q endings at o (omega (arith, first-long, second-short))
          (omega (arith, first-long, second-short))) refl;
      first_holds = subst (HoldLeft new n) o.first_is k.holds;
      second_holds = subst (HoldLeft new m) o.second_is
          (held-beside old new m n a.q (second-beside n m around.apart) around.only a.second_holds);
    },
    omega (arith, first-turn, second-turn, first-long, second-short),
  )
    where
      k : HasCome h l (first_wire x.script (turns_in a.q)) 2 (streams_at First x.round a.p a.q) new n x.round a.p
      k = first-come answers

      o : AreOver endings k.next a.q
      o = stands-over h.ended x.second.ended h.modems x.second.modems k.others a.others k.next a.q endings k.stands a.second some

      at : PairAt x.script k.others a.others (suc x.round) x.round k.next a.q
      at = at-second laws.delays x.script a.files k.others a.others x.round a.p k.next a.q a.limits a.at k.follows k.lasts

      second-over : is_going a.q ≡ false
      second-over = ap is_going o.second_is

      going : (is_going a.p ≡ true) ⊎ ((is_going a.p ≡ false) × (is_going a.q ≡ true)) → is_going a.p ≡ true
      going b = grind (arith)

      was : is_going a.p ≡ true
      was = going (either (is_going a.p) (is_going a.q) a.going)

      first-long : length o.ts ≡ x.round
      first-long = ap (λ z. length (turns_in z)) (sym o.first_is)
          ∙ ended-now a.p k.next x.round k.follows was (ap is_going o.first_is)
          (counted (first_wire x.script (turns_in a.q)) (link_of x.script a.files) x.round a.p a.at.first was)

      second-short : length o.us < x.round
      second-short = grind (arith, o, ended-before, second-over)

      first-turn : last_turn endings.first ≡ length o.ts
      first-turn = grind (arith, last-turn-is, k, o)

      second-turn : last_turn endings.second ≡ length o.us
      second-turn = grind (arith, last-turn-is, o)

  line-first : (cause : LineEnd)
      → IsEndedByLine (wire_at x.script x.first.dlci (after_second (turns_in a.q))) new n a.files x.round a.p cause
      → EndedIn x.script new n m x.round (pairs.line_end x.round cause)
  line-first cause e =
      let k = subst (λ d. IsEndedByLine (wire_at x.script d (after_second
      (turns_in a.q))) new n a.files x.round a.p cause) a.first_dlci_is e in
      let beside = second-beside n m around.apart in record {
        ended = record {
          files = a.files;
          others = a.others;
          first_known = k.knows;
          second_known = known-beside old new m n a.others beside around.only a.second_known;
          left = k.left;
          leaves = left_by a.q;
          runs = by_line First x.round cause (record {
            p = a.p;
            q = a.q;
            at = a.at;
            going = a.going;
            is = k.is;
            first_leaves = k.leaves;
            second_leaves = leaves-none a.q;
          }) refl;
          first_holds = k.holds;
          second_holds = held-beside old new m n a.q beside around.only a.second_holds;
        };
        in_round = refl;
      }

  stops-first : (S : Stopping) → IsStopped S (wire_at x.script x.first.dlci (after_second (turns_in a.q))) new n x.round a.p
      → StopsIn S x.script new n m x.round
  stops-first S e =
      let k = subst (λ d. IsStopped S (wire_at x.script d (after_second (turns_in a.q))) new n x.round a.p) a.first_dlci_is e in
      let beside = second-beside n m around.apart in record {
        stops = record {
          link = First;
          round = x.round;
          files = k.others;
          others = a.others;
          first_known = k.knows;
          second_known = known-beside old new m n a.others beside around.only a.second_known;
          p = a.p;
          q = a.q;
          at = record { first = k.lasts; second = a.at.second };
          going = a.going;
          stops = (k.stops, held-beside old new m n a.q beside around.only a.second_holds);
        };
        in_round = refl;
      }

  pub fault-first : (fault : RunFault) → Answers x.first x.lines x.script old new n x.round h l (Err fault)
      → FaultEndsIn x.script new n m x.round fault
  fault-first fault answers =
      go fault (answers (after_second (turns_in a.q)) 2 (streams_at First x.round a.p a.q) a.files a.p (first-at laws x old n m a))
    where
      go : (fault : RunFault) → HalfEnds (wire_at x.script x.first.dlci (after_second (turns_in a.q))) new n a.files x.round a.p fault
          → FaultEndsIn x.script new n m x.round fault
      go faults.ReadFault e = stops-first LinkStopsReading e
      go faults.WriteFault e = stops-first LinkStops e
      go faults.NoMemory e = stops-first LinkStops e
      go (faults.LineLost role symbol) e = line-first (lines.LineLost role symbol) e
      go (faults.ChanceMatch role turn) e =
          subst (λ t. EndedIn x.script new n m x.round (pairs.ChanceMatch role t)) (sym e.0)
          (line-first (lines.ChanceMatch role) e.1)
      go fault e = absurd e

  pub comes-first : h.dlci ≡ x.first.dlci → (o : Option Endings) → both_ended h.ended x.second.ended ≡ o
      → Answers x.first x.lines x.script old new n x.round h l (Ok tt) → Comes x.script x.round First (first_moved x h l) new n m (Ok o)
  comes-first same o none answers = grind (arith, goes-to-second, ends-first)

-- ---- the turn of the second link

module _ (laws : PairLaws) (x : Pair) (h : Half) (l : Lines) (old new : FolderState) (n m : Written) (a : Awaits x old n m Second)
    (around : Leaves old new n m m) where
  second-come : Answers x.second x.lines x.script old new m x.round h l (Ok tt)
      → HasCome h l (second_wire x.script (turns_in a.p)) 2 (streams_at Second x.round a.p a.q) new m x.round a.q
  second-come answers =
      subst (λ d. HasCome h l (wire_at x.script d (after_first (turns_in a.p))) 2 (streams_at Second x.round a.p a.q) new m x.round a.q)
      a.second_dlci_is
      (answers (after_first (turns_in a.p)) 2 (streams_at Second x.round a.p a.q) a.others a.q (second-at laws x old n m a))

  goes-to-first : h.dlci ≡ x.second.dlci → both_ended x.first.ended h.ended ≡ None
      → Answers x.second x.lines x.script old new m x.round h l (Ok tt) → Awaits (second_moved x h l) new n m First
  goes-to-first same none answers =
      let k = second-come answers in
      let beside = first-beside n m around.apart in
      let long = length-on-line x.script first_dlci (after_second (turns_in a.q)) (link_of x.script a.files) (suc x.round) a.p a.at.first in
      let waits : LinesWait l (first_wire x.script (turns_in k.next)) 2 (streams_at First (suc x.round) a.p k.next) =
      subst (LinesWait l (first_wire x.script (turns_in k.next)) 2)
      (sym (after-second-turn k.sent x.round a.p a.q k.next long k.on_line))
      (waits-over l x.script second_dlci first_dlci (after_first (turns_in a.p)) (after_second (turns_in k.next)) 2 _ k.waits) in record {
        limits = a.limits;
        first_dlci_is = a.first_dlci_is;
        second_dlci_is = same ∙ a.second_dlci_is;
        first_wire_is = a.first_wire_is;
        second_wire_is = k.channel ∙ sym (same ∙ a.second_dlci_is);
        files = a.files;
        others = k.others;
        p = a.p;
        q = k.next;
        at = subst (λ r. PairAt x.script a.files k.others r r a.p k.next) (one-more x.round)
            (at-first laws.delays x.script a.files a.others k.others x.round a.p a.q k.next a.limits a.at k.follows k.lasts);
        going = stands-going x.first.ended h.ended x.first.modems h.modems a.files k.others a.p k.next a.first k.stands none;
        first = a.first;
        second = k.stands;
        lines = subst (λ r. LinesWait l (first_wire x.script (turns_in k.next)) 2 (streams_at First r a.p k.next))
            (one-more x.round) waits;
        first_known = known-beside old new n m a.files beside around.only a.first_known;
        second_known = k.knows;
        first_holds = held-beside old new n m a.p beside around.only a.first_holds;
        second_holds = k.holds;
      }

  ends-second : (endings : Endings) → both_ended x.first.ended h.ended ≡ Some endings
      → Answers x.second x.lines x.script old new m x.round h l (Ok tt)
      → HaveEnded x.script new n m endings × (last_round endings ≡ x.round)
  ends-second endings some answers = (
    record {
      files = a.files;
      others = k.others;
      first_known = known-beside old new n m a.files (first-beside n m around.apart) around.only a.first_known;
      second_known = k.knows;
      left = o.left;
      leaves = o.leaves;
      runs = by_links (run_end endings.first) (run_end endings.second)
          (over-pair x.script a.files k.others (suc x.round) (suc x.round) a.p k.next endings at o (omega (arith, first-short, second-long))
          (omega (arith, first-short, second-long))) refl;
      first_holds = subst (HoldLeft new n) o.first_is
          (held-beside old new n m a.p (first-beside n m around.apart) around.only a.first_holds);
      second_holds = subst (HoldLeft new m) o.second_is k.holds;
    },
    omega (arith, first-turn, second-turn, first-short, second-long),
  )
    where
      k : HasCome h l (second_wire x.script (turns_in a.p)) 2 (streams_at Second x.round a.p a.q) new m x.round a.q
      k = second-come answers

      o : AreOver endings a.p k.next
      o = stands-over x.first.ended h.ended x.first.modems h.modems a.files k.others a.p k.next endings a.first k.stands some

      at : PairAt x.script a.files k.others (suc x.round) (suc x.round) a.p k.next
      at = at-first laws.delays x.script a.files a.others k.others x.round a.p a.q k.next a.limits a.at k.follows k.lasts

      first-over : is_going a.p ≡ false
      first-over = ap is_going o.first_is

      going : (is_going a.p ≡ true) ⊎ ((is_going a.p ≡ false) × (is_going a.q ≡ true)) → is_going a.q ≡ true
      going b = grind (arith)

      was : is_going a.q ≡ true
      was = going (either (is_going a.p) (is_going a.q) a.going)

      second-long : length o.us ≡ x.round
      second-long = ap (λ z. length (turns_in z)) (sym o.second_is)
          ∙ ended-now a.q k.next x.round k.follows was (ap is_going o.second_is)
          (counted (second_wire x.script (turns_in a.p)) (link_of x.script a.others) x.round a.q a.at.second was)

      first-short : length o.ts < suc x.round
      first-short = grind (arith, o, ended-before, first-over)

      first-turn : last_turn endings.first ≡ length o.ts
      first-turn = grind (arith, last-turn-is, o)

      second-turn : last_turn endings.second ≡ length o.us
      second-turn = grind (arith, last-turn-is, k, o)

  line-second : (cause : LineEnd)
      → IsEndedByLine (wire_at x.script x.second.dlci (after_first (turns_in a.p))) new m a.others x.round a.q cause
      → EndedIn x.script new n m x.round (pairs.line_end x.round cause)
  line-second cause e =
      let k = subst (λ d. IsEndedByLine (wire_at x.script d (after_first
      (turns_in a.p))) new m a.others x.round a.q cause) a.second_dlci_is e in
      let beside = first-beside n m around.apart in record {
        ended = record {
          files = a.files;
          others = a.others;
          first_known = known-beside old new n m a.files beside around.only a.first_known;
          second_known = k.knows;
          left = left_by a.p;
          leaves = k.left;
          runs = by_line Second x.round cause (record {
            p = a.p;
            q = a.q;
            at = a.at;
            going = a.going;
            is = k.is;
            first_leaves = leaves-none a.p;
            second_leaves = k.leaves;
          }) refl;
          first_holds = held-beside old new n m a.p beside around.only a.first_holds;
          second_holds = k.holds;
        };
        in_round = refl;
      }

  stops-second : (S : Stopping) → IsStopped S (wire_at x.script x.second.dlci (after_first (turns_in a.p))) new m x.round a.q
      → StopsIn S x.script new n m x.round
  stops-second S e =
      let k = subst (λ d. IsStopped S (wire_at x.script d (after_first (turns_in a.p))) new m x.round a.q) a.second_dlci_is e in
      let beside = first-beside n m around.apart in record {
        stops = record {
          link = Second;
          round = x.round;
          files = a.files;
          others = k.others;
          first_known = known-beside old new n m a.files beside around.only a.first_known;
          second_known = k.knows;
          p = a.p;
          q = a.q;
          at = record { first = a.at.first; second = k.lasts };
          going = a.going;
          stops = (held-beside old new n m a.p beside around.only a.first_holds, k.stops);
        };
        in_round = refl;
      }

  pub fault-second : (fault : RunFault) → Answers x.second x.lines x.script old new m x.round h l (Err fault)
      → FaultEndsIn x.script new n m x.round fault
  fault-second fault answers =
      go fault (answers (after_first (turns_in a.p)) 2 (streams_at Second x.round a.p a.q) a.others a.q (second-at laws x old n m a))
    where
      go : (fault : RunFault) → HalfEnds (wire_at x.script x.second.dlci (after_first (turns_in a.p))) new m a.others x.round a.q fault
          → FaultEndsIn x.script new n m x.round fault
      go faults.ReadFault e = stops-second LinkStopsReading e
      go faults.WriteFault e = stops-second LinkStops e
      go faults.NoMemory e = stops-second LinkStops e
      go (faults.LineLost role symbol) e = line-second (lines.LineLost role symbol) e
      go (faults.ChanceMatch role turn) e =
          subst (λ t. EndedIn x.script new n m x.round (pairs.ChanceMatch role t)) (sym e.0)
          (line-second (lines.ChanceMatch role) e.1)
      go fault e = absurd e

  pub comes-second : h.dlci ≡ x.second.dlci → (o : Option Endings) → both_ended x.first.ended h.ended ≡ o
      → Answers x.second x.lines x.script old new m x.round h l (Ok tt)
      → Comes x.script x.round Second (second_moved x h l) new n m (Ok o)
  comes-second same o none answers = grind (arith, goes-to-first, ends-second)
