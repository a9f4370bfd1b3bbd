-- A link of a pair that goes on, or ends in its turn.
use Rattle.link_pair.proofs.Names.{◌≡◌, inl, inr, ℕ, suc, ◌-◌, List, [], ◌∷◌, ◌++◌, length, refl, sym, ap, subst, arith, Option, Some, None}
use Rattle.link_pair.proofs.Names.{Result, Ok, Err, append-nil, concat, Signal, left_of, leaves-so, Left, RunsTo, EndsInTurn, Written}
use Rattle.link_pair.proofs.Names.{outputs_of, Wire, LineRun, wire_at, link_of, Carried, and_sent, RunFault, chance_line, IsApart}
use Rattle.link_pair.proofs.Names.{knows-later, none_got, kept-none, LinesWait, HaveArrived, AreDue, AreWithin, CountsOver, AddsTurn}
use Rattle.link_pair.proofs.Names.{held_of, KnowsFiles, Lines, Modems, check_of, run_end, StandsFor, left_by, HoldLeft, HalfAt, HalfIsReady}
use Rattle.link_pair.proofs.Names.{HasCome, IsEndedByLine, LinkStops, LinkStopsReading, IsStopped, HalfEnds, idle_turn, lasting, Progress}
use Rattle.link_pair.proofs.Names.{Goes, Ended, turns_on_line, last_ends, IsByLink, IdlesFor, Lasts, Half, LinkEnd, hearing-of, deliveries}
use Rattle.link_pair.proofs.Names.{Outcome, Done, Broken, Accounts, Turn, trace_text, ScriptValue, Holds-kept, Holds-more, HoldsPart-more}
use Rattle.link_pair.proofs.Names.{HoldEach-kept, FolderState, OnlyPuts, Holds, HoldEach, Both, of, Role, Originator, Answerer}
use Rattle.outside_calls.proofs.Putting.{HoldEach-add, HoldPart-add}
use Rattle.shared_terms.specs.declared.fault.LinkFault.TheVariants as causes
use Rattle.link_run.specs.Laws.{HearingsDeliver, SpeakingTakesNothing}
use Rattle.link_run.specs.Trace.{turn_text}
use Rattle.line_run.specs.Sampled as lines
use Rattle.line_run.specs.Ends.{EndsBy}
use Rattle.line_world.specs.declared.step.Step.{Step}
use Rattle.line_world.specs.declared.step.Step.TheVariants as steps
use Rattle.line_run.specs.declared.fault.RunFault.TheVariants as run_faults
use Rattle.line_run.specs.Names.{inputs_of}
use Rattle.line_world.specs.Link.{octets_of}
use Rattle.line_world.specs.Modems.{AreKept, AreReady, ModemsAfter}
use Rattle.line_world.specs.Turn.{added, GoesOnBy, LosesLine, MeetsChance, StopsInTurn, StopsReading, Stops, TurnAnswers, TurnCounts}
use Rattle.line_world.specs.Turn as turns
use Rattle.line_world.proofs.Reached.{held-turn}
use Rattle.link_pair.specs.Pairs.Pair.{GoesFor}
use Rattle.link_pair.specs.declared.half.LinkEnd.TheVariants as link_ends
use Rattle.link_pair.specs.Half.{sorted, MayGoOn}

-- ---- what a link is that goes on

pub record AtGoing (h : Half) (script : ScriptValue) (beside : Role → ℕ → Option Signal) (files : Both (List ℕ)) (round : ℕ)
    (p : Progress) : Type 0 where
  pub ts : List Turn
  pub ends : Accounts
  pub is : p ≡ Goes ts ends
  pub may : MayGoOn h.modems files ts ends
  pub goes : GoesFor (wire_at script h.dlci beside) (link_of script files) round ts ends

pub at-going : (h : Half) (script : ScriptValue) (beside : Role → ℕ → Option Signal) (files : Both (List ℕ)) (round : ℕ) (p : Progress)
    → h.ended ≡ None → StandsFor h.ended h.modems files p → Lasts (wire_at script h.dlci beside) (link_of script files) round p
    → AtGoing h script beside files round p
at-going h script beside files round p none stands = grind (arith)

pub modems-after : (h : Half) (script : ScriptValue) (beside : Role → ℕ → Option Signal) (files : Both (List ℕ)) (round : ℕ) (p : Progress)
    (a : AtGoing h script beside files round p) → ModemsAfter h.modems (wire_at script h.dlci beside) files a.ts a.ends
modems-after h script beside files round p a = grind (arith)

-- its turn may be made
pub ready-for : (h : Half) (l : Lines) (script : ScriptValue) (f : FolderState) (n : Written) (round : ℕ) → h.ended ≡ None
    → HalfIsReady h l script f n round → AreReady h.modems script l
ready-for h l script f n round none r =
    let a : AtGoing h script r.beside r.files round r.p =
    at-going h script r.beside r.files round r.p none r.at.stands r.at.lasts in
    let due : AreDue (wire_at script h.dlci r.beside) r.links a.ts r.streams =
    subst (λ p. AreDue (wire_at script h.dlci r.beside) r.links (turns_on_line round p) r.streams) a.is r.at.due in
    record {
      limits = r.limits;
      kept = a.may.kept;
      beside = r.beside;
      links = r.links;
      streams = r.streams;
      files = r.files;
      within = r.at.knows.within;
      turns = a.ts;
      ends = a.ends;
      after = subst (λ x. ModemsAfter h.modems (wire_at script x r.beside) r.files a.ts a.ends) (sym r.at.channel)
          (modems-after h script r.beside r.files round r.p a);
      waits = subst (λ x. LinesWait l (wire_at script x r.beside) r.links r.streams) (sym r.at.channel) r.at.waits;
      due = subst (λ x. AreDue (wire_at script x r.beside) r.links a.ts r.streams) (sym r.at.channel) due;
      few = r.few;
    }

-- ---- what its turn comes to

-- it goes on
pub record GoneOn (m : Modems) (l : Lines) (c : Wire) (links : ℕ) (streams : Both (List Carried)) (f : FolderState) (n : Written)
    (ts : List Turn) : Type 0 where
  pub others : Both (List ℕ)
  pub turn : Turn
  pub after : Accounts
  pub run : LineRun c (link_of c.script others) (turn ∷ ts) after
  pub may : MayGoOn m others (turn ∷ ts) after
  pub waits : LinesWait l c links (and_sent streams c.dlci turn)
  pub knows : KnowsFiles f n others
  pub holds : HoldLeft f n (Goes (turn ∷ ts) after)

-- it ends so
pub record EndedNow (m : Modems) (l : Lines) (c : Wire) (links : ℕ) (streams : Both (List Carried)) (f : FolderState) (n : Written)
    (ts : List Turn) (found : LinkEnd) : Type 0 where
  pub others : Both (List ℕ)
  pub mid : Accounts
  pub left : Left
  pub ran : RunsTo c (link_of c.script others) (run_end found) left
  pub turns_are : ran.turns ≡ ts
  pub ends_are : last_ends c (link_of c.script others) ran.turns ran.ends (run_end found) left ran.ended ≡ mid
  pub checks : (role : Role) → of role m.heard_by ≡ check_of (of role mid)
  pub arrived : HaveArrived l c links streams
  pub knows : KnowsFiles f n others
  pub holds : HoldEach f (outputs_of n) (held_of left)

abbrev pub Comes : Modems → Lines → Wire → ℕ → Both (List Carried) → FolderState → Written → Both (List ℕ) → List Turn → Accounts
    → Result (Option LinkEnd) RunFault → Type 0
Comes m l c links streams f n files ts ends (Ok None) = GoneOn m l c links streams f n ts
Comes m l c links streams f n files ts ends (Ok (Some found)) = EndedNow m l c links streams f n ts found
Comes m l c links streams f n files ts ends (Err fault) = HalfEnds c f n files (length ts) (Goes ts ends) fault

-- what the folder and the outputs are before the turn, and how the turn touches them
pub record Around (old new : FolderState) (n : Written) (files : Both (List ℕ)) (ts : List Turn) (ends : Accounts) : Type 0 where
  pub apart : IsApart n
  pub only : OnlyPuts old new (outputs_of n)
  pub knows : KnowsFiles old n files
  pub holds : HoldLeft old n (Goes ts ends)

abbrev more_of : Accounts → List ℕ → Left
more_of mid text = record { got = record { orig = concat (deliveries mid.orig); answ = concat (deliveries mid.answ) }; trace = text }

module _ (delivers : HearingsDeliver) (speaks : SpeakingTakesNothing) (m : Modems) (l : Lines) (c : Wire) (links : ℕ)
    (streams : Both (List Carried)) (old new : FolderState) (n : Written) (files : Both (List ℕ)) (ts : List Turn) (ends : Accounts)
    (a : Around old new n files ts ends) (run : LineRun c (link_of c.script files) ts ends) where
  gone-on : AreKept m → GoesOnBy m l c links streams old new n files ts ends → GoneOn m l c links streams new n ts
  gone-on kept g =
      let held = held-turn delivers (link_of c.script files) ts ends g.turn g.going.mid old new n run.run g.going.hearing a.only.goes_on
      a.holds g.writes in
      let nothing = speaks (link_of c.script g.others) ts ends g.turn g.after g.going in record {
        others = g.others;
        turn = g.turn;
        after = g.after;
        run = g.modems.run;
        may = record { kept = kept; link = g.modems.link; turn = g.modems.turn; tally = g.modems.tally; spoke = g.modems.spoke };
        waits = g.lines;
        knows = g.known.known a.knows;
        holds = (
          subst (λ t. Holds new n.got_o (concat t)) (sym (nothing Originator)) held.0,
          (subst (λ t. Holds new n.got_a (concat t)) (sym (nothing Answerer)) held.1.0, held.1.1),
        );
      }

  -- the last turn, and what the outputs hold behind it
  abbrev last-turn : (outcome : Outcome) (number : ℕ) (e : turns.EndsInTurn m l c links streams old new n files ts ends outcome number)
      → EndsInTurn c (link_of c.script e.others) ts ends outcome number (left_of e.mid (trace_text (e.turn ∷ ts)))
  last-turn outcome number e = record {
    number = e.number_is;
    last = e.turn;
    mid = e.mid;
    heard = e.makes.heard;
    is = e.makes.is;
    leaves = leaves-so e.mid (trace_text (e.turn ∷ ts));
  }

  last-held : (outcome : Outcome) (number : ℕ) (e : turns.EndsInTurn m l c links streams old new n files ts ends outcome number)
      → HoldEach new (outputs_of n) (held_of (left_of e.mid (trace_text (e.turn ∷ ts))))
  last-held outcome number e =
      held-turn delivers (link_of c.script files) ts ends e.turn e.mid old new n run.run
      (hearing-of (link_of c.script e.others) ts ends e.turn e.mid outcome e.makes.is) a.only.goes_on a.holds e.writes

  ended : (outcome : Outcome) (found : LinkEnd) (turn : ℕ) (e : turns.EndsInTurn m l c links streams old new n files ts ends outcome turn)
      → (by : EndsBy c (link_of c.script e.others) ts ends (run_end found) (left_of e.mid (trace_text (e.turn ∷ ts))))
      → last_ends c (link_of c.script e.others) ts ends (run_end found) (left_of e.mid (trace_text (e.turn ∷ ts))) by ≡ e.mid
      → EndedNow m l c links streams new n ts found
  ended outcome found turn e by is = record {
    others = e.others;
    mid = e.mid;
    left = left_of e.mid (trace_text (e.turn ∷ ts));
    ran = record { turns = ts; ends = ends; run = e.makes.run; ended = by };
    turns_are = refl;
    ends_are = is;
    checks = e.checks;
    arrived = e.halts.lines;
    knows = e.known.known a.knows;
    holds = last-held outcome turn e;
  }

  -- the line ends the pair
  line-lost : (role : Role) (symbol : ℕ) → LosesLine m c old new n ts ends role symbol
      → IsEndedByLine c new n files (length ts) (Goes ts ends) (lines.LineLost role symbol)
  line-lost role symbol e = record {
    is = e.is;
    knows = knows-later old new n files a.apart a.only a.knows;
    left = left_of ends (trace_text ts ++ []);
    leaves = leaves-so ends (trace_text ts ++ []);
    holds =
        let h = HoldEach-kept old new (outputs_of n) (held_of (left_by (Goes ts ends))) a.only.goes_on a.holds e.kept in
        (h.0, (h.1.0, (subst (Holds new n.trace) (sym (append-nil (trace_text ts))) h.1.1.0, tt)));
  }

  chance-met : (role : Role) (turn : ℕ) → MeetsChance m c old new n ts ends role turn
      → (turn ≡ length ts) × IsEndedByLine c new n files (length ts) (Goes ts ends) (lines.ChanceMatch role)
  chance-met role turn e = (
    e.number_is,
    record {
      is = e.is;
      knows = knows-later old new n files a.apart a.only a.knows;
      left = left_of ends (trace_text ts ++ chance_line (length ts) role);
      leaves = leaves-so ends (trace_text ts ++ chance_line (length ts) role);
      holds = (
        Holds-kept old new n.got_o _ a.only.goes_on a.holds.0 e.received.0,
        (
          Holds-kept old new n.got_a _ a.only.goes_on a.holds.1.0 e.received.1.0,
          (Holds-more old new n.trace (trace_text ts) (chance_line (length ts) role) a.only.goes_on a.holds.1.1.0 e.trace, tt),
        ),
      );
    },
  )

  adds-turn : (s : StopsInTurn m l c links streams old new n files ts ends)
      → AddsTurn c (link_of c.script s.others) ts ends (more_of s.mid (turn_text (length ts) s.turn))
  adds-turn s = grind (arith)

  stops-so : (s : StopsInTurn m l c links streams old new n files ts ends)
      → LinkStops c (link_of c.script s.others) new n (length ts) (Goes ts ends)
  stops-so s = record {
    more = more_of s.mid (turn_text (length ts) s.turn);
    adds = inl (adds-turn s);
    holds = HoldPart-add old new (outputs_of n) (held_of (left_by (Goes ts ends))) (added s.mid (turn_text (length ts) s.turn))
        a.only.goes_on a.holds s.writes;
  }

  stopped : Stops m l c links streams old new n files ts ends → IsStopped LinkStops c new n (length ts) (Goes ts ends)
  stopped (inl s) = record {
    others = s.others;
    knows = s.known.known a.knows;
    lasts = record { run = s.makes.run; count = refl };
    stops = stops-so s;
  }
  stopped (inr s) = record {
    others = files;
    knows = knows-later old new n files a.apart a.only a.knows;
    lasts = record { run = run; count = refl };
    stops = record {
      more = record { got = none_got; trace = chance_line (length ts) s.role };
      adds = inr (record { role = s.role; is = s.is; got_is = none; trace_is = refl });
      holds = inr (
        kept-none old new n.got_o _ a.only.goes_on a.holds.0 s.received.0,
        inr (
          kept-none old new n.got_a _ a.only.goes_on a.holds.1.0 s.received.1.0,
          inl (HoldsPart-more old new n.trace (trace_text ts) (chance_line (length ts) s.role) a.only.goes_on a.holds.1.1.0 s.trace, tt),
        ),
      );
    };
  }
    where
      none : (side : Role) → of side none_got ≡ []
      none side = grind (arith)

  stopped-reading : StopsReading m l c links streams old new n files ts ends
      → IsStopped LinkStopsReading c new n (length ts) (Goes ts ends)
  unfolding stops-so
  stopped-reading (s, delivered) = record {
    others = s.others;
    knows = s.known.known a.knows;
    lasts = record { run = s.makes.run; count = refl };
    stops = record {
      stops = stops-so s;
      adds = adds-turn s;
      holds = HoldEach-add old new (outputs_of n) (held_of (left_by (Goes ts ends))) (octets_of s.mid) a.only.goes_on a.holds delivered;
    };
  }

  pub comes : (answer : Result Step RunFault) → (answer ≡ Ok steps.Going → AreKept m)
      → TurnAnswers m l c links streams old new n files ts ends answer → Comes m l c links streams new n files ts ends (sorted answer)
  comes (Ok steps.Going) kept t = gone-on (kept refl) t
  comes (Ok (steps.Done turn)) kept t = ended Done (link_ends.Done turn) turn t (last-turn Done turn t) refl
  comes (Err (run_faults.LinkLost role segment turn)) kept t =
      ended (Broken role (causes.Spent segment t.0)) (link_ends.LinkLost role segment turn) turn t.1
      (t.0, last-turn (Broken role (causes.Spent segment t.0)) turn t.1) refl
  comes (Err (run_faults.NotDetected turn)) kept t =
      ended (Broken Originator causes.NotDetected) (link_ends.NotDetected turn) turn t
      (last-turn (Broken Originator causes.NotDetected) turn t) refl
  comes (Err (run_faults.LineLost role symbol)) kept t = line-lost role symbol t
  comes (Err (run_faults.ChanceMatch role turn)) kept t = chance-met role turn t
  comes (Err run_faults.ReadFault) kept t = stopped-reading t
  comes (Err run_faults.WriteFault) kept t = stopped t
  comes (Err run_faults.NoMemory) kept t = stopped t

-- ---- so the link has come farther

pub has-gone : (h : Half) (l : Lines) (c : Wire) (links : ℕ) (streams : Both (List Carried)) (f : FolderState) (n : Written)
    (files : Both (List ℕ)) (ts : List Turn) (ends : Accounts) → h.ended ≡ None → h.modems.dlci ≡ c.dlci
    → GoneOn h.modems l c links streams f n ts → HasCome h l c links streams f n (length ts) (Goes ts ends)
has-gone h l c links streams f n files ts ends none channel g = record {
  others = g.others;
  next = Goes (g.turn ∷ ts) g.after;
  sent = g.turn;
  lasts = record { run = g.run; count = refl };
  stands = subst (λ o. StandsFor o h.modems g.others (Goes (g.turn ∷ ts) g.after)) (sym none) g.may;
  channel = channel;
  follows = (g.turn, refl);
  on_line = refl;
  waits = g.waits;
  knows = g.knows;
  holds = g.holds;
}

by-link : (found : LinkEnd) → IsByLink (run_end found)
by-link found = grind (arith)

pub has-ended : (h : Half) (l m : Lines) (c : Wire) (links : ℕ) (streams : Both (List Carried)) (f : FolderState) (n : Written)
    (files : Both (List ℕ)) (ts : List Turn) (ends : Accounts) (found : LinkEnd) → h.ended ≡ Some found → h.modems.dlci ≡ c.dlci
    → LinesWait l c links (and_sent streams c.dlci idle_turn)
    → EndedNow h.modems m c links streams f n ts found → HasCome h l c links streams f n (length ts) (Goes ts ends)
has-ended h l m c links streams f n files ts ends found is channel waits e = record {
  others = e.others;
  next = Ended ts e.mid (run_end found) e.left;
  sent = idle_turn;
  lasts = record {
    ran = e.ran;
    turns_are = e.turns_are;
    ends_are = e.ends_are;
    by_link = by-link found;
    before = omega arith;
    idles = subst (λ k. IdlesFor c e.mid k ts) (sym none-left) tt;
  };
  stands = subst (λ o. StandsFor o h.modems e.others (Ended ts e.mid (run_end found) e.left)) (sym is)
      (record { end_is = refl; checks = e.checks });
  channel = channel;
  follows = refl;
  on_line = ap (λ k. lasting k ts) one-left;
  waits = waits;
  knows = e.knows;
  holds = e.holds;
}
  where
    none-left : suc (length ts) - suc (length ts) ≡ 0
    none-left = omega arith

    one-left : suc (length ts) - length ts ≡ 1
    one-left = omega arith

-- ---- from what a turn over a lent line answers

abbrev pub AnswersSo : Modems → Modems → Lines → Lines → ScriptValue → FolderState → FolderState → Written → Result Step RunFault → Type 0
AnswersSo m m' l l' script old new n answer =
    (beside : Role → ℕ → Option Signal) (links : ℕ) (streams : Both (List Carried)) (files : Both (List ℕ)) (ts : List Turn)
    (ends : Accounts)
    → ModemsAfter m (wire_at script m.dlci beside) files ts ends → AreWithin files
    → LinesWait l (wire_at script m.dlci beside) links streams → AreDue (wire_at script m.dlci beside) links ts streams
    → TurnAnswers m' l' (wire_at script m.dlci beside) links streams old new n files ts ends answer

pub record CameTo (m : Modems) (l : Lines) (c : Wire) (links : ℕ) (streams : Both (List Carried)) (f : FolderState) (n : Written)
    (files : Both (List ℕ)) (round : ℕ) (p : Progress) (o : Result (Option LinkEnd) RunFault) : Type 0 where
  pub ts : List Turn
  pub ends : Accounts
  pub is : p ≡ Goes ts ends
  pub count : length ts ≡ round
  pub comes : Comes m l c links streams f n files ts ends o

pub came-to : HearingsDeliver → SpeakingTakesNothing
    → (h : Half) (m : Modems) (l l' : Lines) (script : ScriptValue) (beside : Role → ℕ → Option Signal) (links : ℕ)
    (streams : Both (List Carried)) (old new : FolderState) (n : Written) (files : Both (List ℕ)) (round : ℕ) (p : Progress)
    (answer : Result Step RunFault) (o : Result (Option LinkEnd) RunFault) → sorted answer ≡ o → h.ended ≡ None → IsApart n
    → OnlyPuts old new (outputs_of n) → HalfAt h l old n script beside links streams files round p → (answer ≡ Ok steps.Going → AreKept m)
    → AnswersSo h.modems m l l' script old new n answer
    → CameTo m l' (wire_at script h.dlci beside) links streams new n files round p o
came-to delivers speaks h m l l' script beside links streams old new n files round p answer o sorts none apart only at kept turn =
    let a : AtGoing h script beside files round p = at-going h script beside files round p none at.stands at.lasts in
    let due : AreDue (wire_at script h.dlci beside) links a.ts streams =
    subst (λ x. AreDue (wire_at script h.dlci beside) links (turns_on_line round x) streams) a.is at.due in
    let made : TurnAnswers m l' (wire_at script h.modems.dlci beside) links streams old new n files a.ts a.ends answer =
    turn beside links streams files a.ts a.ends
    (subst (λ x. ModemsAfter h.modems (wire_at script x beside) files a.ts a.ends) (sym at.channel)
    (modems-after h script beside files round p a)) at.knows.within
    (subst (λ x. LinesWait l (wire_at script x beside) links streams) (sym at.channel) at.waits)
    (subst (λ x. AreDue (wire_at script x beside) links a.ts streams) (sym at.channel) due) in
    let there : TurnAnswers m l' (wire_at script h.dlci beside) links streams old new n files a.ts a.ends answer =
    subst (λ x. TurnAnswers m l' (wire_at script x beside) links streams old new n files a.ts a.ends answer) at.channel made in
    record {
      ts = a.ts;
      ends = a.ends;
      is = a.is;
      count = a.goes.count;
      comes = subst (Comes m l' (wire_at script h.dlci beside) links streams new n files a.ts a.ends) sorts
          (comes delivers speaks m l' (wire_at script h.dlci beside) links streams old new n files a.ts a.ends
          (record { apart = apart; only = only; knows = at.knows; holds = subst (HoldLeft old n) a.is at.holds }) a.goes.run answer kept
          there);
    }

pub came-going : (h : Half) (l : Lines) (c : Wire) (links : ℕ) (streams : Both (List Carried)) (f : FolderState) (n : Written)
    (files : Both (List ℕ)) (round : ℕ) (p : Progress) → h.ended ≡ None → h.modems.dlci ≡ c.dlci
    → CameTo h.modems l c links streams f n files round p (Ok None) → HasCome h l c links streams f n round p
came-going h l c links streams f n files round p none channel a = grind (arith, has-gone)

pub came-ended : (h : Half) (l m : Lines) (c : Wire) (links : ℕ) (streams : Both (List Carried)) (f : FolderState) (n : Written)
    (files : Both (List ℕ)) (round : ℕ) (p : Progress) (found : LinkEnd) → h.ended ≡ Some found → h.modems.dlci ≡ c.dlci
    → LinesWait l c links (and_sent streams c.dlci idle_turn) → CameTo h.modems m c links streams f n files round p (Ok (Some found))
    → HasCome h l c links streams f n round p
came-ended h l m c links streams f n files round p found is channel waits a =
    subst (λ x. HasCome h l c links streams f n round x) (sym a.is)
    (subst (λ k. HasCome h l c links streams f n k (Goes a.ts a.ends)) a.count
    (has-ended h l m c links streams f n files a.ts a.ends found is channel waits a.comes))

pub came-halted : (m : Modems) (l : Lines) (c : Wire) (links : ℕ) (streams : Both (List Carried)) (f : FolderState) (n : Written)
    (files : Both (List ℕ)) (round : ℕ) (p : Progress) (fault : RunFault) → CameTo m l c links streams f n files round p (Err fault)
    → HalfEnds c f n files round p fault
came-halted m l c links streams f n files round p fault a = grind (arith)

-- what a turn counted is what the pair counts by it
pub sorted-counts : (a b : FolderState) (n : Written) (answer : Result Step RunFault) (r : Result (Option LinkEnd) RunFault)
    → r ≡ sorted answer → TurnCounts a b n answer → CountsOver a b (inputs_of n) (outputs_of n) r
sorted-counts a b n answer r e h = grind (arith)
