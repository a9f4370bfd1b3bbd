-- Where the turns of a run have come.
use Rattle.line_world.proofs.Cited.{◌≡◌, inl, inr, ℕ, ◌+◌, ◌-◌, ◌≤◌, ◌<◌, ◌^◌, List, [], ◌∷◌, ◌++◌, length, take, refl, sym, ◌∙◌, ap, subst}
use Rattle.line_world.proofs.Cited.{arith, length-take, concat-append, concat, Written, inputs_of, outputs_of, Tapes, tapes_of, LineRun}
use Rattle.line_world.proofs.Cited.{wire_of, link_of, both_sent_by, RunFault, chance_line, octets_of, HoldTapes, HoldTapesPartly, added}
use Rattle.line_world.proofs.Cited.{GoesOnBy, EndsInTurn, StopsReading, Stops, IsWriting, KnowsFiles, WorldAfter, script_of, turn_of, World}
use Rattle.line_world.proofs.Cited.{hearing-of, deliveries, Outcome, Done, Going, Broken, Accounts, Turn, LastTurn, start, Hears, turn_text}
use Rattle.line_world.proofs.Cited.{ScriptValue, Holds-kept, Holds-more, HoldsPart-more, OnlyPuts-refl, OnlyPuts-trans, inputs-kept}
use Rattle.line_world.proofs.Cited.{CountsStand-refl, CountsStand-trans, FolderState, octets_at, GoesOn, KeepsName, CountsStand}
use Rattle.line_world.proofs.Cited.{AreApartFrom, Holds, KeepsEach, OnlyPuts, AddEach, Both, of, Role, Originator, Answerer, file_at}
use Rattle.std.proofs.lemmas.List.{append-nil}
use Rattle.shared_terms.specs.declared.fault.LinkFault.TheVariants as causes
use Rattle.link_run.specs.Counts.{numbers_sent, repeated, segment_number, sent_again}
use Rattle.link_run.specs.Run.{Link, RunOf}
use Rattle.link_run.specs.Laws.{HearingsDeliver, SpeakingTakesNothing}
use Rattle.link_run.specs.Trace.{trace_text}
use Rattle.line_run.specs.Ends.{RunEnd, Left, EndsBy}
use Rattle.line_run.specs.Ends as runs
use Rattle.line_world.specs.Limits.{file_limit}
use Rattle.line_run.specs.declared.fault.RunFault.TheVariants as faults
use Rattle.line_world.specs.World.{lost_of, again_of}
use Rattle.line_world.specs.Turn.{LosesLine, MeetsChance, StopsInTurn}
use Rattle.line_world.specs.Turn.{EndsBy as TurnEndsBy}
use Rattle.outside_calls.specs.Outputs.{HoldsPart, Creates, joined, HoldEach}
use Rattle.outside_calls.proofs.Putting.{HoldEach-kept, HoldEach-add, HoldPart-add}
use Rattle.line_run.proofs.WhatIsLeft.{left_of, leaves-so}
use Rattle.line_world.proofs.Folders.{IsApart, stay-known, knows-kept}
use Rattle.line_world.proofs.Several.{puts-front, puts-behind, apart-front, inputs-front, inputs-behind, keeps-front, keeps-behind}
use Rattle.line_world.specs.Turns.{held_of, AddsTurn, RunEnds, RunCounts, RunStops, RunStopsReading, FaultEnds}

-- Some turns were made over these files, and the outputs hold what they left.
pub record Reached (w : World) (script : ScriptValue) (n : Written) (tapes : Tapes) (old now : FolderState) : Type 0 where
  pub script_is : script_of w ≡ script
  pub files : Both (List ℕ)
  pub knows : KnowsFiles now n files
  pub turns : List Turn
  pub ends : Accounts
  pub world : WorldAfter w files turns ends
  pub holds : HoldEach now (outputs_of n) (held_of (left_of ends (trace_text turns)))
  pub only : OnlyPuts old now (outputs_of n ++ tapes_of tapes)
  pub stand : CountsStand old now

-- files as the folder tells them
abbrev pub files_at : FolderState → Written → Both (List ℕ)
files_at f n = record { orig = file_at f n.orig file_limit; answ = file_at f n.answ file_limit }

pub knows-told : (f : FolderState) (n : Written) → KnowsFiles f n (files_at f n)
knows-told f n = assumption (few (octets_at f n.orig), few (octets_at f n.answ))
  where
    few : (octets : List ℕ) → length (take file_limit octets) ≤ file_limit
    few octets = omega (arith, length-take file_limit octets)

-- what is known stays so where the inputs are kept
pub knows-later : (a b : FolderState) (n : Written) (files : Both (List ℕ)) → IsApart n → OnlyPuts a b (outputs_of n)
    → KnowsFiles a n files → KnowsFiles b n files
knows-later a b n files apart only k = (stay-known a b n files apart only k.within).known k

-- of a world that has made a turn, over its script
abbrev over : (w v : World) (script : ScriptValue) (n : Written) (tapes : Tapes) (old now : FolderState) → Reached w script n tapes old now
    → script_of v ≡ script_of w → Reached w (script_of v) n tapes old now
over w v script n tapes old now r same = record {
  script_is = sym same;
  files = r.files;
  knows = r.knows;
  turns = r.turns;
  ends = r.ends;
  world = r.world;
  holds = r.holds;
  only = r.only;
  stand = r.stand;
}

-- before the first turn
unfoldable pub reached-start : (w : World) (n : Written) (tapes : Tapes) (s : FolderState)
    → ((files : Both (List ℕ)) → WorldAfter w files [] (start (link_of (script_of w) files)))
    → Creates s (outputs_of n) → Reached w (script_of w) n tapes s s
reached-start w n tapes s first created = record {
  script_is = refl;
  files = files_at s n;
  knows = knows-told s n;
  turns = [];
  ends = start (link_of (script_of w) (files_at s n));
  world = first (files_at s n);
  holds = created;
  only = OnlyPuts-refl s (outputs_of n ++ tapes_of tapes);
  stand = CountsStand-refl s;
}

-- what a received file holds once its end has heard
held-more : (next : FolderState) (name : List ℕ) (taken more all : List (List ℕ)) → Holds next name (concat taken ++ concat more)
    → all ≡ taken ++ more → Holds next name (concat all)
held-more next name taken more all holds e = subst (Holds next name) (sym (concat-append taken more) ∙ ap concat (sym e)) holds

-- the outputs after a turn that is written
pub held-turn : HearingsDeliver
    → (link : Link) (ts : List Turn) (ends : Accounts) (t : Turn) (mid : Accounts) (now next : FolderState) (n : Written)
    → RunOf link ts ends → Hears (length ts) ends t mid
    → GoesOn now next → HoldEach now (outputs_of n) (held_of (left_of ends (trace_text ts)))
    → AddEach now next (outputs_of n) (added mid (turn_text (length ts) t))
    → HoldEach next (outputs_of n) (held_of (left_of mid (trace_text (t ∷ ts))))
held-turn delivers link ts ends t mid now next n run hears on h w =
    let held = HoldEach-add now next (outputs_of n) (held_of (left_of ends (trace_text ts))) (added mid (turn_text (length ts) t)) on h
    w in (
      held-more next n.got_o ends.orig.incoming.taken (deliveries mid.orig) mid.orig.incoming.taken held.0
          (delivers link ts ends t mid run hears Originator),
      (
        held-more next n.got_a ends.answ.incoming.taken (deliveries mid.answ) mid.answ.incoming.taken held.1.0
            (delivers link ts ends t mid run hears Answerer),
        held.1.1,
      ),
    )

-- the run goes on
unfoldable pub reached-going : HearingsDeliver → SpeakingTakesNothing
    → (w w' : World) (script : ScriptValue) (n : Written) (tapes : Tapes) (old now next : FolderState)
    (r : Reached w script n tapes old now)
    → script_of w' ≡ script_of w → GoesOnBy w'.modems w'.lines (wire_of (script_of w')) 1 (both_sent_by 0 r.turns) now next n r.files
    r.turns r.ends → OnlyPuts now next (outputs_of n) → CountsStand now next → Reached w' script n tapes old next
reached-going delivers speaks w w' script n tapes old now next r same g only stand =
    let mid = g.going.mid in
    let held = held-turn delivers (link_of (script_of w) r.files) r.turns r.ends g.turn mid now next n r.world.modems.run.run
    g.going.hearing only.goes_on r.holds g.writes in
    let nothing = speaks (link_of (script_of w') g.others) r.turns r.ends g.turn g.after g.going in
    record {
      script_is = same ∙ r.script_is;
      files = g.others;
      knows = g.known.known r.knows;
      turns = g.turn ∷ r.turns;
      ends = g.after;
      world = record { modems = g.modems; lines = g.lines };
      holds = (
        subst (λ t. Holds next n.got_o (concat t)) (sym (nothing Originator)) held.0,
        (subst (λ t. Holds next n.got_a (concat t)) (sym (nothing Answerer)) held.1.0, held.1.1),
      );
      only = OnlyPuts-trans old now next (outputs_of n ++ tapes_of tapes) r.only (puts-front now next (outputs_of n) (tapes_of tapes) only);
      stand = CountsStand-trans r.stand stand;
    }

run-ends : (script : ScriptValue) (f : FolderState) (n : Written) (tapes : Tapes) (end : RunEnd) (files : Both (List ℕ)) (left : Left)
    (ts : List Turn) (ends : Accounts) → KnowsFiles f n files → LineRun (wire_of script) (link_of script files) ts ends
    → EndsBy (wire_of script) (link_of script files) ts ends end left → HoldEach f (outputs_of n) (held_of left)
    → HoldTapes f tapes (wire_of script) ts → RunEnds script f n tapes end
run-ends script f n tapes end files left ts ends knows run ended holds t =
    record {
      files = files;
      knows = knows;
      left = left;
      run = record { turns = ts; ends = ends; run = run; ended = ended };
      holds = holds;
      taped = t;
    }

-- the run so far, over the script
run-so : (w : World) (script : ScriptValue) (n : Written) (tapes : Tapes) (old now : FolderState) (r : Reached w script n tapes old now)
    → LineRun (wire_of script) (link_of script r.files) r.turns r.ends
run-so w script n tapes old now r = subst (λ s. LineRun (wire_of s) (link_of s r.files) r.turns r.ends) r.script_is r.world.modems.run

-- no octets are added to either received file
abbrev pub none_got : Both (List ℕ)
none_got = record { orig = []; answ = [] }

pub kept-none : (now next : FolderState) (name octets : List ℕ) → GoesOn now next → Holds now name octets → KeepsName now next name
    → Holds next name (octets ++ [])
kept-none now next name octets on holds kept = grind (arith, append-nil)

-- what a turn adds to the outputs
abbrev more_of : Accounts → List ℕ → Left
more_of mid text = record { got = record { orig = concat (deliveries mid.orig); answ = concat (deliveries mid.answ) }; trace = text }

module _ (delivers : HearingsDeliver) (w v : World) (n : Written) (tapes : Tapes) (old now next : FolderState)
    (r : Reached w (script_of v) n tapes old now) (only : OnlyPuts now next (outputs_of n))
    (t : HoldTapes next tapes (wire_of (script_of v)) r.turns) where
  -- the run ends in a turn that is written
  abbrev ended-turn : (outcome : Outcome) (number : ℕ)
      (e : EndsInTurn v.modems v.lines (wire_of (script_of v)) 1 (both_sent_by 0 r.turns) now next n r.files r.turns r.ends outcome number)
      → runs.EndsInTurn (wire_of (script_of v))
      (link_of (script_of v) e.others) r.turns r.ends outcome number (left_of e.mid (trace_text (e.turn ∷ r.turns))) × HoldEach next
      (outputs_of n) (held_of (left_of e.mid (trace_text (e.turn ∷ r.turns))))
  ended-turn outcome number e = (
    record {
      number = e.number_is;
      last = e.turn;
      mid = e.mid;
      heard = e.makes.heard;
      is = e.makes.is;
      leaves = leaves-so e.mid (trace_text (e.turn ∷ r.turns));
    },
    held-turn delivers (link_of (script_of w) r.files) r.turns r.ends e.turn e.mid now next n r.world.modems.run.run
        (hearing-of (link_of (script_of v) e.others) r.turns r.ends e.turn e.mid outcome e.makes.is) only.goes_on r.holds e.writes,
  )

  -- the run is done
  abbrev done-so : (number : ℕ)
      → EndsInTurn v.modems v.lines (wire_of (script_of v)) 1 (both_sent_by 0 r.turns) now next n r.files r.turns r.ends Done number
      → RunEnds (script_of v) next n tapes (runs.IsDone number)
  done-so number e =
      let k = ended-turn Done number e in
      run-ends (script_of v) next n tapes (runs.IsDone number) e.others _ r.turns r.ends (e.known.known r.knows) e.makes.run k.0 k.1 t

  reached-line : (role : Role) (symbol : ℕ) → IsApart n → LosesLine v.modems (wire_of (script_of v)) now next n r.turns r.ends role symbol
      → RunEnds (script_of v) next n tapes (runs.LineLost role symbol)
  reached-line role symbol apart e =
      run-ends (script_of v) next n tapes (runs.LineLost role symbol) r.files (left_of r.ends (trace_text r.turns)) r.turns r.ends
      (knows-later now next n r.files apart only r.knows) (run-so w (script_of v) n tapes old now r)
      (record { is = e.is; leaves = leaves-so r.ends (trace_text r.turns) })
      (HoldEach-kept now next (outputs_of n) (held_of (left_of r.ends (trace_text r.turns))) only.goes_on r.holds e.kept) t

  reached-chance : (role : Role) (number : ℕ) → IsApart n
      → MeetsChance v.modems (wire_of (script_of v)) now next n r.turns r.ends role number
      → RunEnds (script_of v) next n tapes (runs.ChanceMatch role number)
  reached-chance role number apart e =
      let text = trace_text r.turns ++ chance_line (length r.turns) role in
      run-ends (script_of v) next n tapes (runs.ChanceMatch role number) r.files (left_of r.ends text) r.turns r.ends
      (knows-later now next n r.files apart only r.knows) (run-so w (script_of v) n tapes old now r)
      (e.number_is, record { is = e.is; leaves = leaves-so r.ends text }) (
        Holds-kept now next n.got_o _ only.goes_on r.holds.0 e.received.0,
        (
          Holds-kept now next n.got_a _ only.goes_on r.holds.1.0 e.received.1.0,
          (Holds-more now next n.trace (trace_text r.turns) (chance_line (length r.turns) role) only.goes_on r.holds.1.1.0 e.trace, tt),
        ),
      ) t

  -- the folder fails in a turn, whatever it comes to,
  adds-turn : (s : StopsInTurn v.modems v.lines (wire_of (script_of v)) 1 (both_sent_by 0 r.turns) now next n r.files r.turns r.ends)
      → AddsTurn (wire_of (script_of v)) (link_of (script_of v) s.others) r.turns r.ends (more_of s.mid (turn_text (length r.turns) s.turn))
  adds-turn s = grind (arith)

  abbrev stopped-turn : StopsInTurn v.modems v.lines (wire_of (script_of v)) 1 (both_sent_by 0 r.turns) now next n r.files r.turns r.ends
      → RunStops (script_of v) next n tapes
  stopped-turn s = record {
    files = s.others;
    knows = s.known.known r.knows;
    stops = record {
      turns = r.turns;
      ends = r.ends;
      run = s.makes.run;
      left = left_of r.ends (trace_text r.turns);
      leaves = leaves-so r.ends (trace_text r.turns);
      more = more_of s.mid (turn_text (length r.turns) s.turn);
      adds = inl (adds-turn s);
      holds = HoldPart-add now next (outputs_of n) (held_of (left_of r.ends (trace_text r.turns)))
          (added s.mid (turn_text (length r.turns) s.turn)) only.goes_on r.holds s.writes;
    };
    taped = inl t;
  }

  -- as a file is read,
  reached-reading : StopsReading v.modems v.lines (wire_of (script_of v)) 1 (both_sent_by 0 r.turns) now next n r.files r.turns r.ends
      → RunStopsReading (script_of v) next n tapes
  reached-reading (s, delivered) = (
    stopped-turn s,
    assumption (
      adds-turn s,
      HoldEach-add now next (outputs_of n) (held_of (left_of r.ends (trace_text r.turns))) (octets_of s.mid) only.goes_on r.holds delivered,
    ),
  )

  -- or at any of its steps
  reached-stops : IsApart n → Stops v.modems v.lines (wire_of (script_of v)) 1 (both_sent_by 0 r.turns) now next n r.files r.turns r.ends
      → RunStops (script_of v) next n tapes
  reached-stops apart (inl s) = stopped-turn s
  reached-stops apart (inr s) = record {
    files = r.files;
    knows = knows-later now next n r.files apart only r.knows;
    stops = record {
      turns = r.turns;
      ends = r.ends;
      run = run-so w (script_of v) n tapes old now r;
      left = left_of r.ends (trace_text r.turns);
      leaves = leaves-so r.ends (trace_text r.turns);
      more = record { got = none_got; trace = chance_line (length r.turns) s.role };
      adds = inr (record { role = s.role; is = s.is; got_is = none; trace_is = refl });
      holds = inr (
        kept-none now next n.got_o _ only.goes_on r.holds.0 s.received.0,
        inr (
          kept-none now next n.got_a _ only.goes_on r.holds.1.0 s.received.1.0,
          inl (
            HoldsPart-more now next n.trace (trace_text r.turns) (chance_line (length r.turns) s.role) only.goes_on r.holds.1.1.0 s.trace,
            tt,
          ),
        ),
      );
    };
    taped = inl t;
  }
    where
      none : (side : Role) → of side none_got ≡ []
      none role = grind (arith)

  -- a fault ends the run
  fault-so : (fault : RunFault) → IsApart n
      → TurnEndsBy v.modems v.lines (wire_of (script_of v)) 1 (both_sent_by 0 r.turns) now next n r.files r.turns r.ends fault
      → FaultEnds (script_of v) next n tapes fault
  fault-so faults.ReadFault apart e = reached-reading e
  fault-so faults.WriteFault apart e = reached-stops apart e
  fault-so faults.NoMemory apart e = reached-stops apart e
  fault-so (faults.LineLost role symbol) apart e = reached-line role symbol apart e
  fault-so (faults.ChanceMatch role turn) apart e = reached-chance role turn apart e
  fault-so (faults.NotDetected turn) apart e =
      let k = ended-turn (Broken Originator causes.NotDetected) turn e in
      run-ends (script_of v) next n tapes (runs.NotDetected turn) e.others _ r.turns r.ends (e.known.known r.knows) e.makes.run k.0 k.1 t
  fault-so (faults.LinkLost role segment turn) apart e =
      let k = ended-turn (Broken role (causes.Spent segment e.0)) turn e.1 in
      run-ends (script_of v) next n tapes (runs.LinkLost role segment turn) e.1.others _ r.turns r.ends (e.1.known.known r.knows)
      e.1.makes.run (e.0, k.0) k.1 t

-- nothing goes again in a turn in which nothing is sent
none-again : (ts : List Turn) (ends : Accounts) (t : Turn) (mid : Accounts) → LastTurn ts ends t mid → sent_again (t ∷ ts) ≡ sent_again ts
none-again ts ends t mid h = λ k. repeated (segment_number (h.silent Originator k) ++ numbers_sent Originator ts)
    + repeated (segment_number (h.silent Answerer k) ++ numbers_sent Answerer ts)

module _ (delivers : HearingsDeliver) (w v : World) (script : ScriptValue) (n : Written) (tapes : Tapes) (old now next : FolderState)
    (r : Reached w script n tapes old now) (same : script_of v ≡ script_of w) (only : OnlyPuts now next (outputs_of n))
    (t : HoldTapes next tapes (wire_of script) r.turns) where
  pub reached-done : (number : ℕ)
      → EndsInTurn v.modems v.lines (wire_of (script_of v)) 1 (both_sent_by 0 r.turns) now next n r.files r.turns r.ends Done number
      → RunEnds script next n tapes (runs.IsDone number)
  reached-done number e =
      subst (λ s. RunEnds s next n tapes (runs.IsDone number)) (same ∙ r.script_is)
      (done-so delivers w v n tapes old now next (over w v script n tapes old now r same) only
      (subst (λ s. HoldTapes next tapes (wire_of s) r.turns) (sym (same ∙ r.script_is)) t) number e)

  -- with all its turns counted
  pub reached-counts : (number : ℕ)
      → EndsInTurn v.modems v.lines (wire_of (script_of v)) 1 (both_sent_by 0 r.turns) now next n r.files r.turns r.ends Done number
      → RunCounts script next n tapes number (lost_of v) (again_of v)
  unfolding run-ends
  reached-counts number e =
      subst (λ s. RunCounts s next n tapes number (lost_of v) (again_of v)) (same ∙ r.script_is) (record {
        ran =
            done-so delivers w v n tapes old now next (over w v script n tapes old now r same) only
            (subst (λ s. HoldTapes next tapes (wire_of s) r.turns) (sym (same ∙ r.script_is)) t) number e;
        lost_is = e.halts.lost;
        again_is = e.halts.again ∙ sym (none-again r.turns r.ends e.turn e.mid e.makes.is);
      })

  pub reached-fault : (fault : RunFault) → IsApart n
      → TurnEndsBy v.modems v.lines (wire_of (script_of v)) 1 (both_sent_by 0 r.turns) now next n r.files r.turns r.ends fault
      → FaultEnds script next n tapes fault
  reached-fault fault apart e =
      subst (λ s. FaultEnds s next n tapes fault) (same ∙ r.script_is)
      (fault-so delivers w v n tapes old now next (over w v script n tapes old now r same) only
      (subst (λ s. HoldTapes next tapes (wire_of s) r.turns) (sym (same ∙ r.script_is)) t) fault apart e)

-- a turn more is nearer to the bound
pub nearer : (turns next : ℕ) → turns < 2 ^ 40 → next ≡ turns + 1 → 2 ^ 40 - next < 2 ^ 40 - turns
nearer turns next h e = omega (arith, h, e)

pub next-turn : (w w' : World) (script : ScriptValue) (n : Written) (tapes : Tapes) (old now next : FolderState)
    (r : Reached w script n tapes old now)
    → GoesOnBy w'.modems w'.lines (wire_of (script_of w')) 1 (both_sent_by 0 r.turns) now next n r.files r.turns r.ends
    → turn_of w' ≡ turn_of w + 1
next-turn w w' script n tapes old now next r g = omega (arith, g.modems.turn, r.world.modems.turn)

-- ---- what both ends sent is recorded

-- all that is written has names of its own
abbrev pub AreAllApart : Written → Tapes → Type 0
AreAllApart n tapes = AreApartFrom (inputs_of n) (outputs_of n ++ tapes_of tapes)

pub apart-outputs : (n : Written) (tapes : Tapes) → AreAllApart n tapes → IsApart n
apart-outputs n tapes apart = grind (arith, apart-front, inputs-front)

pub kept-by-tapes : (now next : FolderState) (n : Written) (tapes : Tapes) → AreAllApart n tapes → OnlyPuts now next (tapes_of tapes)
    → KeepsEach now next (inputs_of n)
kept-by-tapes now next n tapes apart p = grind (arith, inputs-kept, inputs-behind)

-- the recordings are kept as the other outputs are written
pub tapes-kept : (now next : FolderState) (n : Written) (tapes : Tapes) → AreAllApart n tapes → OnlyPuts now next (outputs_of n)
    → KeepsEach now next (tapes_of tapes)
tapes-kept now next n tapes apart p = keeps-behind now next (outputs_of n) (tapes_of tapes) apart.0 p

-- as the recordings are written, what the turns left stays
unfoldable pub reached-put : (w : World) (script : ScriptValue) (n : Written) (tapes : Tapes) (old now next : FolderState)
    → AreAllApart n tapes
    → Reached w script n tapes old now → OnlyPuts now next (tapes_of tapes) → CountsStand now next → Reached w script n tapes old next
reached-put w script n tapes old now next apart r p stand = record {
  script_is = r.script_is;
  files = r.files;
  knows = knows-kept now next n r.files p.goes_on (kept-by-tapes now next n tapes apart p) r.knows;
  turns = r.turns;
  ends = r.ends;
  world = r.world;
  holds = HoldEach-kept now next (outputs_of n) (held_of (left_of r.ends (trace_text r.turns))) p.goes_on r.holds
      (keeps-front now next (outputs_of n) (tapes_of tapes) apart.0 p);
  only = OnlyPuts-trans old now next (outputs_of n ++ tapes_of tapes) r.only (puts-behind now next (outputs_of n) (tapes_of tapes) p);
  stand = CountsStand-trans r.stand stand;
}

-- the folder fails as they are written
stops-taping : (w v : World) (n : Written) (tapes : Tapes) (old now next last : FolderState) (r : Reached w (script_of v) n tapes old now)
    → AreAllApart n tapes
    → (g : GoesOnBy v.modems v.lines (wire_of (script_of v)) 1 (both_sent_by 0 r.turns) now next n r.files r.turns r.ends)
    → OnlyPuts now next (outputs_of n) → OnlyPuts next last (tapes_of tapes)
    → HoldTapesPartly last tapes (wire_of (script_of v)) r.turns g.turn → RunStops (script_of v) last n tapes
stops-taping w v n tapes old now next last r apart g only p partly = record {
  files = g.others;
  knows = knows-kept next last n g.others p.goes_on (kept-by-tapes next last n tapes apart p) (g.known.known r.knows);
  stops = record {
    turns = r.turns;
    ends = r.ends;
    run = g.run;
    left = left_of r.ends (trace_text r.turns);
    leaves = leaves-so r.ends (trace_text r.turns);
    more = more_of g.going.mid text;
    adds = inl adds;
    holds = inr (all.0, inr (all.1.0, inl (whole n.trace (trace_text r.turns) text all.1.1.0, tt)));
  };
  taped = inr (record { adds = adds; goes_on = refl; holds = all; taped = partly });
}
  where
    text : List ℕ
    text = turn_text (length r.turns) g.turn

    got : (role : Role) → of role (record { orig = concat (deliveries g.going.mid.orig); answ = concat (deliveries g.going.mid.answ) })
        ≡ concat (deliveries (of role g.going.mid))
    got role = grind (arith)

    adds : AddsTurn (wire_of (script_of v)) (link_of (script_of v) g.others) r.turns r.ends
        (more_of g.going.mid (turn_text (length r.turns) g.turn))
    adds = record {
      turn = g.turn;
      mid = g.going.mid;
      outcome = Going;
      heard = g.heard;
      is = (g.after, g.going, refl);
      got_is = got;
      trace_is = refl;
    }

    all : HoldEach last (outputs_of n)
        (joined (held_of (left_of r.ends (trace_text r.turns))) (added g.going.mid (turn_text (length r.turns) g.turn)))
    all = HoldEach-kept next last (outputs_of n)
        (joined (held_of (left_of r.ends (trace_text r.turns))) (added g.going.mid (turn_text (length r.turns) g.turn))) p.goes_on
        (HoldEach-add now next (outputs_of n) (held_of (left_of r.ends (trace_text r.turns)))
        (added g.going.mid (turn_text (length r.turns) g.turn))
        only.goes_on r.holds g.writes) (keeps-front next last (outputs_of n) (tapes_of tapes) apart.0 p)

    whole : (name octets piece : List ℕ) → Holds last name (octets ++ piece) → HoldsPart last name octets piece
    whole name octets piece h told = (piece, ([], append-nil piece), h told)

pub reached-taping : (w v : World) (script : ScriptValue) (n : Written) (tapes : Tapes) (old now next last : FolderState) (fault : RunFault)
    (r : Reached w script n tapes old now) → AreAllApart n tapes → script_of v ≡ script_of w
    → (g : GoesOnBy v.modems v.lines (wire_of (script_of v)) 1 (both_sent_by 0 r.turns) now next n r.files r.turns r.ends)
    → OnlyPuts now next (outputs_of n) → OnlyPuts next last (tapes_of tapes) → IsWriting fault
    → HoldTapesPartly last tapes (wire_of (script_of v)) r.turns g.turn → FaultEnds script last n tapes fault
reached-taping w v script n tapes old now next last fault r apart same g only p writing partly =
    by fault writing (subst (λ s. RunStops s last n tapes) (same ∙ r.script_is)
    (stops-taping w v n tapes old now next last (over w v script n tapes old now r same) apart g only p partly))
  where
    by : (fault : RunFault) → IsWriting fault → RunStops script last n tapes → FaultEnds script last n tapes fault
    by fault writing s = grind (arith)
