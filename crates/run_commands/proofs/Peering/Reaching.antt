-- From one turn to the next, and to the end of a run.
use Rattle.run_commands.proofs.Names.{◌≡◌, inl, inr, ◌∙◌, ℕ, suc, ◌+◌, ◌*◌, ◌<◌, ◌≤◌, Bool, true, false, IsTrue, List, [], ◌∷◌, ◌++◌}
use Rattle.run_commands.proofs.Names.{length, take, refl, sym, ap, subst, arith, append_assoc, length-append, cases_lt, take_all}
use Rattle.run_commands.proofs.Names.{concat-append, concat, stop-earlier, IsWithin, ReadTo, ReadFails, StopCounts, Read, LoneTurn}
use Rattle.run_commands.proofs.Names.{LoneHearingsDeliver, LoneSpeakingTakesNothing, deliveries, OnlyPuts-reads, OnlyPuts-trans}
use Rattle.run_commands.proofs.Names.{GoesOn-trans, KeepsName-trans, octets-kept, told_later, CountsStand-trans, FolderState, octets_at}
use Rattle.run_commands.proofs.Names.{GoesOn, KeepsName, OnlyReads, CountsStand, AreApart, AreNoneOf, AreApartFrom, Holds, OnlyPuts}
use Rattle.run_commands.proofs.Names.{HoldPart, FolderFault, HoldLeft, PeerEnd, IsDone, GivesUp, MakesTurn, RunsTo, left_of, left_after}
use Rattle.run_commands.proofs.Names.{slot_at, slots_before, Reached, fault_stop, Names, inputs_of, outputs_of, turn_names, LinkFault}
use Rattle.run_commands.proofs.Names.{FILE_LIMIT, Role, slot_octets, Past, PeerRun, PeerTurn, Outcome, Going, Closed, Broken, party_of}
use Rattle.run_commands.proofs.Names.{after, over, SingleAfter, file_limit, Makes, Single}
use Rattle.std.proofs.Common.{append-nil}
use Rattle.std.proofs.lemmas.Bool.{false≢true}
use Rattle.outside_calls.specs.declared.folder.FolderFault.TheVariants as folder
use Rattle.stations.specs.declared.one_end.step.SingleFault.{SingleFault}
use Rattle.stations.specs.declared.one_end.step.SingleFault.TheVariants as faults
use Rattle.stations.specs.OneEnd.Peer.{turn_line}
use Rattle.stations.specs.OneEnd.Single.{KnowsFile}
use Rattle.stations.specs.OneEnd.Turn.{Stops, added, StopsInReading as TurnStopsInReading, EndsBy as TurnEndsBy, FaultCounts}
use Rattle.command_base.specs.Stops.{IsOwn}
use Rattle.outside_calls.proofs.Putting.{HoldEach-add, HoldPart-add}
use Rattle.command_base.proofs.Reading.{ReadTo-begins}
use Rattle.run_commands.specs.Peering.Runs.{Left}
use Rattle.run_commands.specs.Peering.Ends.{Takes, held_of, RanTo, StopsBetween, StopsInTurn, StopsInReading, EndsBy, status_of}
use Rattle.run_commands.proofs.Peering.Slots.{slots-front, slot-behind, full-slot, short-slot, slots-whole, slots-short, slots-more}

-- ---- what is known of the bits

-- what follows those that were read
pub record Known (start : FolderState) (name read : List ℕ) : Type 0 where
  pub rest : List ℕ
  pub told : IsTrue (start.tells name) → read ++ rest ≡ octets_at start name

pub known : (start now : FolderState) (name : List ℕ) (limit at : ℕ) (read : List ℕ) → ReadTo start now name limit at read
    → Known start name read
known start now name limit at read r = by (start.tells name) refl
  where
    by : (told : Bool) → start.tells name ≡ told → Known start name read
    by true e = let p = ReadTo-begins start now name limit at read r e in record { rest = p.0; told = λ told. p.1 }
    by false e = record { rest = []; told = λ told. absurd (false≢true (sym e ∙ told)) }

-- a slot of those that were read is whole, or they are at their end
pub record KnownSlot (start : FolderState) (name read slot : List ℕ) : Type 0 where
  pub rest : List ℕ
  pub told : IsTrue (start.tells name) → (read ++ slot) ++ rest ≡ octets_at start name
  pub cut : take slot_octets (slot ++ rest) ≡ slot

pub known-slot : (start now : FolderState) (name : List ℕ) (limit at : ℕ) (read slot : List ℕ)
    → ReadTo start now name limit at (read ++ slot) → length slot ≤ slot_octets
    → (length slot < slot_octets → IsTrue (start.tells name) → read ++ slot ≡ octets_at start name) → KnownSlot start name read slot
known-slot start now name limit at read slot r few end = elim (cases_lt (length slot) slot_octets) [
  | inl less ↦ record { rest = []; told = λ told. append-nil (read ++ slot) ∙ end less told; cut = short-slot slot few }
  | inr more ↦
      let k = known start now name limit at (read ++ slot) r in
      record { rest = k.rest; told = k.told; cut = full-slot slot k.rest (omega (arith, few, more)) }
]

-- ---- what is known of the file

known-later : (a b : FolderState) (name file : List ℕ) → GoesOn a b → KeepsName a b name → KnowsFile a name file → KnowsFile b name file
known-later a b name file on kept k = grind (arith)

file-is : (start now : FolderState) (name file : List ℕ) → GoesOn start now → KeepsName start now name → IsWithin start name FILE_LIMIT
    → KnowsFile now name file → IsTrue (start.tells name) → file ≡ octets_at start name
file-is start now name file on kept within k told =
    k.told (told_later on name told) ∙ ap (take file_limit) (octets-kept start now name kept told)
    ∙ take_all file_limit (octets_at start name) (omega (arith, within told))

-- ---- a turn that is read and made

-- what stands around a turn against a slot that was read: the folder at first, before and after the read, and after the turn
pub record Around (start mid next : FolderState) (n : Names) (p : Past) (octets slot : List ℕ) : Type 0 where
  pub apart : AreNoneOf (outputs_of n) (inputs_of n)
  pub read : ReadTo start mid n.bits FILE_LIMIT (slot_octets * length p.turns + length slot) (octets ++ slot)
  pub count : length octets ≡ slot_octets * length p.turns
  pub some : 1 ≤ length slot
  pub few : length slot ≤ slot_octets
  pub end : length slot < slot_octets → IsTrue (start.tells n.bits) → octets ++ slot ≡ octets_at start n.bits
  pub slots_are : p.slots ≡ slots_before octets (length p.turns)
  pub file_within : IsWithin start n.file FILE_LIMIT
  pub file_kept : KeepsName start mid n.file
  pub knows : KnowsFile mid n.file p.file
  pub holds : HoldLeft mid n (left_of n.role p)
  pub only : OnlyPuts mid next (outputs_of n)
  pub stand : CountsStand start mid

-- the turn, against the slot of its number
abbrev makes-turn : (role : Role) (p : Past) (octets slot rest : List ℕ) (turn : ℕ) (outcome : Outcome) (t : LoneTurn) (given : List ℕ)
    → turn ≡ length p.turns → length octets ≡ slot_octets * length p.turns
    → p.slots ≡ slots_before octets (length p.turns) → 1 ≤ length slot → take slot_octets (slot ++ rest) ≡ slot
    → PeerTurn role p slot t given outcome
    → MakesTurn role p.file ((octets ++ slot) ++ rest) turn outcome (left_after role p t given)
makes-turn role p octets slot rest turn outcome t given number count slots some cut is = record {
  past = p;
  is_past = record { run = is.run; file_is = refl; slots_are = slots ∙ sym (slots-behind p.turns) };
  turn_is = number;
  has_slot = slots-more all turn (omega (arith, number, count, some, length-append (octets ++ slot) rest, length-append octets slot));
  last = t;
  given = given;
  is = subst (λ x. PeerTurn role p x t given outcome)
      (sym (ap (slot_at all) number ∙ slot-behind (length p.turns) octets slot rest count cut)) is;
  left_is = refl;
}
  where
    all : List ℕ
    all = (octets ++ slot) ++ rest

    slots-behind : (ts : List LoneTurn) → slots_before all (length p.turns) ≡ slots_before octets (length p.turns)
    slots-behind ts = grind (arith, append_assoc, rest, slots-front, count)

-- the outputs behind it
made-holds : (mid next : FolderState) (n : Names) (p : Past) (slot : List ℕ) (outcome : Outcome) → GoesOn mid next
    → HoldLeft mid n (left_of n.role p) → (m : Makes n.role mid next (turn_names n) p slot outcome)
    → HoldLeft next n (left_after n.role (over m.others p) m.turn m.octets)
made-holds mid next n p slot outcome on h m =
    HoldEach-add mid next (outputs_of n) (held_of (left_of n.role p)) (added n.role p m.turn m.octets) on h m.writes

-- the faults of one input, behind what counted none
pub fails-later : (start mid next : FolderState) (name : List ℕ) (fault : FolderFault) → CountsStand start mid
    → ReadFails mid next (name ∷ []) fault → ReadFails start next (name ∷ []) fault
fails-later start mid next name fault stand fails = stop-earlier start mid next (name ∷ []) [] (Read fault) stand fails

module _ (start mid next : FolderState) (n : Names) (p : Past) (octets slot : List ℕ) (a : Around start mid next n p octets slot) where
  abbrev on-to : GoesOn start next
  on-to = GoesOn-trans a.read.goes_on a.only.goes_on

  file-on : KeepsName start next n.file
  file-on = grind (arith)

  bits-on : ReadTo start next n.bits FILE_LIMIT (slot_octets * length p.turns + length slot) (octets ++ slot)
  bits-on = grind (arith)

  -- what a run took of the inputs
  taken : (others all : List ℕ) → KnowsFile next n.file others → (IsTrue (start.tells n.bits) → all ≡ octets_at start n.bits)
      → Takes start n others all
  taken others all k bits = record {
    bits_within = a.read.within;
    file_within = a.file_within;
    file_is = file-is start next n.file others on-to file-on a.file_within k;
    bits_are = bits;
  }

  -- it is the last one
  pub ends-in : (turn : ℕ) (outcome : Outcome) (end : PeerEnd) → turn ≡ length p.turns → Makes n.role mid next (turn_names n) p slot outcome
      → ((file all : List ℕ) (left : Left) → MakesTurn n.role file all turn outcome left → RunsTo n.role file all end left)
      → RanTo start next n end
  ends-in turn outcome end number m by =
      let k = known-slot start mid n.bits FILE_LIMIT _ octets slot a.read a.few a.end in
      let all = (octets ++ slot) ++ k.rest in
      record {
        file = m.others;
        octets = all;
        takes = taken m.others all (m.known.known a.knows) k.told;
        left = left_after n.role (over m.others p) m.turn m.octets;
        run = by m.others all _
            (makes-turn n.role (over m.others p) octets slot k.rest turn outcome m.turn m.octets number
            a.count a.slots_are a.some k.cut m.is);
        holds = made-holds mid next n p slot outcome a.only.goes_on a.holds m;
      }

  -- the folder fails in it
  abbrev stops-in : (turn : ℕ) → turn ≡ length p.turns → Stops n.role mid next (turn_names n) p slot → StopsInTurn start next n
  stops-in turn number s =
      let k = known-slot start mid n.bits FILE_LIMIT _ octets slot a.read a.few a.end in
      let all = (octets ++ slot) ++ k.rest in
      record {
        file = s.others;
        octets = all;
        takes = taken s.others all (s.known.known a.knows) k.told;
        stops = record {
          turn = turn;
          outcome = s.outcome;
          left = left_after n.role (over s.others p) s.turn s.octets;
          makes = makes-turn n.role
              (over s.others p) octets slot k.rest turn s.outcome s.turn s.octets number a.count a.slots_are a.some k.cut s.is;
          holds = subst (λ m. HoldPart next (outputs_of n) (held_of (left_of n.role p)) (s.octets ∷ turn_line n.role m s.turn ∷ []))
              (sym number)
              (HoldPart-add mid next (outputs_of n) (held_of (left_of n.role p)) (added n.role p s.turn s.octets) a.only.goes_on a.holds
              s.writes);
        };
      }

  -- to read the file
  reads-in : (turn : ℕ) → turn ≡ length p.turns → TurnStopsInReading n.role mid next (turn_names n) p slot → StopsInReading start next n
  reads-in turn number s = (
    stops-in turn number s.0,
    HoldEach-add mid next (outputs_of n) (held_of (left_of n.role p)) (s.0.octets ∷ []) a.only.goes_on a.holds s.1,
  )

  -- a fault of the turn
  pub fault-ends : (turn : ℕ) (fault : SingleFault) → turn ≡ length p.turns → FaultCounts mid next (n.file ∷ []) (outputs_of n) fault
      → TurnEndsBy n.role mid next (turn_names n) p slot fault → EndsBy start next n (fault_stop n.role turn fault)
  fault-ends turn faults.ReadFault number rose e =
      inr (inr (refl, fails-later start mid next n.file folder.Failed a.stand rose, reads-in turn number e))
  fault-ends turn faults.WriteFault number counts e = inr (stops-in turn number e)
  fault-ends turn faults.NoMemory number counts e = inr (stops-in turn number e)
  fault-ends turn (faults.Link fault) number counts e =
      inr (fault, turn, refl, ends-in turn (Broken fault) (GivesUp fault turn) number e (λ file all left m. m))

  -- the originator is closed
  pub closed-ends : (turn : ℕ) → turn ≡ length p.turns → Makes n.role mid next (turn_names n) p slot Closed
      → RanTo start next n (IsDone (turn + 1))
  closed-ends turn number m = ends-in turn Closed (IsDone (turn + 1)) number m (λ file all left k. inr (turn, refl, k))

-- ---- the run goes on

-- what was taken, once it has
took : LoneHearingsDeliver → LoneSpeakingTakesNothing
    → (role : Role) (p : Past) (slot : List ℕ) (t : LoneTurn) (given : List ℕ) (is : PeerTurn role p slot t given Going)
    → concat is.is.0.incoming.taken ≡ concat p.account.incoming.taken ++ given
took hearing speaking role p slot t given is =
    let party = party_of role p.file in
    let g = is.is.1 in
    ap concat (speaking party p.turns p.account t is.is.0 g) ∙ ap concat (hearing party p.turns p.account t g.mid is.run.run g.hears)
    ∙ concat-append p.account.incoming.taken (deliveries g.mid) ∙ ap (λ xs. concat p.account.incoming.taken ++ xs) (sym is.is.2)

gone-holds : LoneHearingsDeliver → LoneSpeakingTakesNothing → (mid next : FolderState) (n : Names) (p : Past) (slot : List ℕ)
    → GoesOn mid next → HoldLeft mid n (left_of n.role p)
    → (m : Makes n.role mid next (turn_names n) p slot Going)
    → HoldLeft next n (left_of n.role (after slot m.turn m.is.is.0 (over m.others p)))
gone-holds hearing speaking mid next n p slot on h m =
    let k = made-holds mid next n p slot Going on h m in
    (subst (Holds next n.got) (sym (took hearing speaking n.role (over m.others p) slot m.turn m.octets m.is)) k.0, k.1)

slots-on : (p : Past) (octets slot : List ℕ) → length octets ≡ slot_octets * length p.turns → p.slots ≡ slots_before octets (length p.turns)
    → length slot ≤ slot_octets
    → slot ∷ p.slots ≡ slots_before (octets ++ slot) (suc (length p.turns))
slots-on p octets slot count slots few =
    let n = length p.turns in
    let here : slot_at (octets ++ slot) n ≡ slot =
    ap (λ xs. slot_at xs n) (sym (append-nil (octets ++ slot))) ∙ slot-behind n octets slot [] count (short-slot slot few) in
    ap (λ l. slot ∷ l) (slots ∙ sym (slots-front n octets slot (omega (arith, count))))
    ∙ ap (λ x. x ∷ slots_before (octets ++ slot) n) (sym here)

-- the slot was whole
pub goes-on : LoneHearingsDeliver → LoneSpeakingTakesNothing
    → (start mid next : FolderState) (n : Names) (s : Single) (p : Past) (octets slot : List ℕ) → Around start mid next n p octets slot
    → s.role ≡ n.role → CountsStand mid next → (m : Makes n.role mid next (turn_names n) p slot Going)
    → SingleAfter s (after slot m.turn m.is.is.0 (over m.others p)) → length slot ≡ slot_octets → Reached start next n s
goes-on hearing speaking start mid next n s p octets slot a role stand m after-is full = record {
  past = after slot m.turn m.is.is.0 (over m.others p);
  after = after-is;
  role_is = role;
  octets = octets ++ slot;
  read = subst (λ x. ReadTo start next n.bits FILE_LIMIT x (octets ++ slot)) (more (length p.turns) (length slot) full)
      (bits-on start mid next n p octets slot a);
  slots_are = slots-on p octets slot a.count a.slots_are a.few;
  file_within = a.file_within;
  file_kept = file-on start mid next n p octets slot a;
  knows = m.known.known a.knows;
  holds = gone-holds hearing speaking mid next n p slot a.only.goes_on a.holds m;
  stand = CountsStand-trans a.stand stand;
}
  where
    more : (turns count : ℕ) → count ≡ slot_octets → slot_octets * turns + count ≡ slot_octets * suc turns
    more turns count e = omega (arith, e)

-- it was the last one, and short
pub ends-short : LoneHearingsDeliver → LoneSpeakingTakesNothing
    → (start mid next : FolderState) (n : Names) (p : Past) (octets slot : List ℕ) (turn : ℕ) → Around start mid next n p octets slot
    → turn ≡ length p.turns → Makes n.role mid next (turn_names n) p slot Going → PeerRun n.role p → length slot < slot_octets
    → RanTo start next n (IsDone (turn + 1))
ends-short hearing speaking start mid next n p octets slot turn a number m run short = record {
  file = m.others;
  octets = octets ++ slot;
  takes = taken start mid next n p octets slot a m.others (octets ++ slot) (m.known.known a.knows) (a.end short);
  left = left_of n.role past;
  run = inl (record {
    past = past;
    is_past = record {
      run = record { run = (p.account, m.is.run.run, m.is.is.1); hears = (m.is.hears, m.is.run.hears) };
      file_is = refl;
      slots_are = slots-on p octets slot a.count a.slots_are a.few;
    };
    turns_are = omega (arith, number);
    all = slots-short (octets ++ slot) turn (length slot) (omega (arith, number, a.count, length-append octets slot)) a.some a.few;
    left_is = refl;
  });
  holds = gone-holds hearing speaking mid next n p slot a.only.goes_on a.holds m;
}
  where
    past : Past
    past = after slot m.turn m.is.is.0 (over m.others p)

-- ---- nothing more is read

holds-read : (old mid : FolderState) (n : Names) (left : Left) → OnlyReads old mid → HoldLeft old n left → HoldLeft mid n left
holds-read old mid n left r h = grind (arith)

reads-file : (start old mid : FolderState) (n : Names) (s : Single) (r : Reached start old n s) → OnlyReads old mid
    → KeepsName start mid n.file
reads-file start old mid n s r reads = KeepsName-trans start old mid n.file r.read.goes_on r.file_kept (reads.names n.file)

took-so : (start old mid : FolderState) (n : Names) (s : Single) (r : Reached start old n s) (all : List ℕ) → OnlyReads old mid
    → (IsTrue (start.tells n.bits) → all ≡ octets_at start n.bits) → Takes start n r.past.file all
took-so start old mid n s r all reads bits = record {
  bits_within = r.read.within;
  file_within = r.file_within;
  file_is =
      file-is start mid n.file r.past.file (GoesOn-trans r.read.goes_on reads.goes_on) (reads-file start old mid n s r reads) r.file_within
      (known-later old mid n.file r.past.file reads.goes_on (reads.names n.file) r.knows);
  bits_are = bits;
}

run-of : (n : Names) (s : Single) (p : Past) → SingleAfter s p → s.role ≡ n.role → PeerRun n.role p
run-of n s p a e = subst (λ r. PeerRun r p) e a.run

-- all slots were heard
pub ends-whole : (start old mid : FolderState) (n : Names) (s : Single) (r : Reached start old n s) (turn : ℕ) → turn ≡ length r.past.turns
    → OnlyReads old mid → (IsTrue (start.tells n.bits) → r.octets ≡ octets_at start n.bits)
    → RanTo start mid n (IsDone turn)
ends-whole start old mid n s r turn number reads bits = record {
  file = r.past.file;
  octets = r.octets;
  takes = took-so start old mid n s r r.octets reads bits;
  left = left_of n.role r.past;
  run = inl (record {
    past = r.past;
    is_past = record { run = run-of n s r.past r.after r.role_is; file_is = refl; slots_are = r.slots_are };
    turns_are = number;
    all = slots-whole r.octets turn (omega (arith, r.read.count, number));
    left_is = refl;
  });
  holds = holds-read old mid n (left_of n.role r.past) reads r.holds;
}

-- a slot isn't read
pub not-read : (start old mid : FolderState) (n : Names) (s : Single) (r : Reached start old n s) → OnlyReads old mid
    → StopsBetween start mid n
not-read start old mid n s r reads =
    let k = known start old n.bits FILE_LIMIT _ r.octets r.read in
    record {
      file = r.past.file;
      octets = r.octets ++ k.rest;
      takes = took-so start old mid n s r (r.octets ++ k.rest) reads k.told;
      past = r.past;
      is_past = record {
        run = run-of n s r.past r.after r.role_is;
        file_is = refl;
        slots_are = r.slots_are ∙ sym (slots-front (length r.past.turns) r.octets k.rest (omega (arith, r.read.count)));
      };
      holds = holds-read old mid n (left_of n.role r.past) reads r.holds;
    }

-- a slot is read, and a turn made
pub around : (start old mid next : FolderState) (n : Names) (s : Single) (r : Reached start old n s) (slot : List ℕ)
    → AreNoneOf (outputs_of n) (inputs_of n)
    → OnlyReads old mid
    → ReadTo start mid n.bits FILE_LIMIT (slot_octets * length r.past.turns + length slot) (r.octets ++ slot) → 1 ≤ length slot
    → length slot ≤ slot_octets
    → (length slot < slot_octets → IsTrue (start.tells n.bits) → r.octets ++ slot ≡ octets_at start n.bits)
    → OnlyPuts mid next (outputs_of n) → CountsStand old mid → Around start mid next n r.past r.octets slot
around start old mid next n s r slot apart reads read some few end only stand = grind (arith)

-- likewise where the slot is what a read left at the front of a piece
pub around-slot : (start old mid next : FolderState) (n : Names) (s : Single) (r : Reached start old n s) (turn count : ℕ) (piece : List ℕ)
    → turn ≡ length r.past.turns → AreNoneOf (outputs_of n) (inputs_of n) → OnlyReads old mid
    → (ReadTo start old n.bits FILE_LIMIT (slot_octets * turn) r.octets
    → ReadTo start mid n.bits FILE_LIMIT (slot_octets * turn + count) (r.octets ++ take count piece))
    → (ReadTo start old n.bits FILE_LIMIT (slot_octets * turn) r.octets
    → count < slot_octets → IsTrue (start.tells n.bits) → r.octets ++ take count piece ≡ octets_at start n.bits)
    → 1 ≤ count → count ≤ slot_octets → length (take count piece) ≡ count → OnlyPuts mid next (outputs_of n) → CountsStand old mid
    → Around start mid next n r.past r.octets (take count piece)
around-slot start old mid next n s r turn count piece number apart reads more end some few long only stand = grind (arith, around)

-- ---- what a turn touches, and what it counts

-- the names that it uses are apart as all are
pub turn-apart : (n : Names) → AreApart (outputs_of n) → AreNoneOf (outputs_of n) (inputs_of n) → AreApartFrom (n.file ∷ []) (outputs_of n)
turn-apart n apart none = (apart, ((none.0.0, tt), ((none.1.0.0, tt), tt)))

-- a slot is read, and the outputs are written
pub touches : (old mid next : FolderState) (n : Names) → OnlyReads old mid → OnlyPuts mid next (outputs_of n)
    → OnlyPuts old next (outputs_of n)
touches old mid next n reads puts = OnlyPuts-trans old mid next (outputs_of n) (OnlyPuts-reads old mid (outputs_of n) reads) puts

-- a fault of one input is one of the inputs'
pub bits-fail : (old new : FolderState) (n : Names) (fault : FolderFault) → ReadFails old new (n.bits ∷ []) fault
    → ReadFails old new (inputs_of n) fault
bits-fail old new n fault rose = grind (arith)

pub file-fails : (old new : FolderState) (n : Names) (fault : FolderFault) → ReadFails old new (n.file ∷ []) fault
    → ReadFails old new (inputs_of n) fault
file-fails old new n fault refused = grind (arith)

own-fault : (role : Role) (fault : LinkFault) (turn : ℕ) → IsOwn (status_of role fault turn)
own-fault role fault turn = grind (arith)

-- a fault of a turn, behind what counted none
pub fault-counts : (old mid next : FolderState) (n : Names) (turn : ℕ) (fault : SingleFault) → CountsStand old mid
    → FaultCounts mid next (n.file ∷ []) (outputs_of n) fault
    → StopCounts old next (inputs_of n) (outputs_of n) (fault_stop n.role turn fault)
fault-counts old mid next n turn fault stand rose = grind (arith, stop-earlier, file-fails, own-fault)
