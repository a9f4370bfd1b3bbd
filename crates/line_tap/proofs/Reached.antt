-- Where the turns of a tap have come.
use Rattle.line_tap.proofs.Cited.{◌≡◌, inl, ℕ, ◌+◌, ◌-◌, ◌<◌, arith, List, [], ◌∷◌, ◌++◌, length, sym, subst, concat, HEAD, TAIL, LineLost}
use Rattle.line_tap.proofs.Cited.{ChanceMatch, BadTap, Stop, Own, Read, Write, Say, NoMemory, KeepsTaken, Left, TapEnd, EndsBy, TapNames}
use Rattle.line_tap.proofs.Cited.{outputs_of, IsReady, TapAfter, AreReadTo, GoesOnBy, EndsInTurn, EndsReading, StopsInTurn, StopsReadingIn}
use Rattle.line_tap.proofs.Cited.{Tapping, tapping, line_of, terms_of, left_of, got_in, added, no_octets, Tap, held_of, received, Turn}
use Rattle.line_tap.proofs.Cited.{trace_text, turn_text, ScriptValue, FolderState, HoldEach, Both, of, Role, Originator, Answerer}
use Rattle.outside_calls.specs.Folder.{GoesOn}
use Rattle.outside_calls.specs.Outputs.{Creates, Holds}
use Rattle.outside_calls.proofs.Putting.{HoldEach-add, HoldPart-add, AddPart-none}
use Rattle.line_tap.specs.Ends as ends
use Rattle.line_tap.specs.declared.limits.TheConstants.{TAP_LIMIT}
use Rattle.line_tap.specs.Tap.{TurnStops}
use Rattle.line_tap.specs.Turns.{TapEnds, TapStops, TapStopsReading, StopsBy}
use Rattle.line_tap.proofs.Longer.{longer, tells-longer, got-more}
use Rattle.line_tap.proofs.Whole.{Rest, rests, more_of, knows-whole, none-short, whole-longer, badly-longer, lost-longer, chance-longer}
use Rattle.line_tap.proofs.Whole.{got-longer, adds-longer}

-- Some turns were made over what was read, and the outputs hold what they left.
pub record Reached (tap : Tap) (script : ScriptValue) (start now : FolderState) (n : TapNames) : Type 0 where
  pub bodies : Both (List ℕ)
  pub turns : List Turn
  pub after : TapAfter tap (tapping script bodies) turns
  pub read : AreReadTo start now n bodies
  pub holds : HoldEach now (outputs_of n) (held_of (left_of (tapping script bodies) turns (trace_text turns)))

-- none was made
pub reached-none : (tap : Tap) (start now : FolderState) (n : TapNames) → TapAfter tap (tapping tap.script no_octets) []
    → AreReadTo start now n no_octets → Creates now (outputs_of n) → Reached tap tap.script start now n
reached-none tap start now n after read created = grind (arith)

-- less of the recordings is left
pub less-left : (old new : Tap) → old.at < new.at → IsReady new → TAP_LIMIT - new.at < TAP_LIMIT - old.at
less-left old new nearer ready = omega (arith, nearer, ready.within)

held-more : (next : FolderState) (name before more all : List ℕ) → Holds next name (before ++ more) → all ≡ before ++ more
    → Holds next name all
held-more next name before more all holds e = subst (Holds next name) (sym e) holds

-- ---- the reading ends

-- ---- it stops

module _ (tap : Tap) (script : ScriptValue) (start now next : FolderState) (n : TapNames) (r : Reached tap script start now n)
    (on : GoesOn now next) where
  pub reached-going : KeepsTaken → (new : Tap) → GoesOnBy new start now next n (tapping script r.bodies) r.turns
      → Reached new script start next n
  reached-going law new g =
      let x : Tapping = tapping script r.bodies in
      let held = HoldEach-add now next (outputs_of n) (held_of (left_of x r.turns (trace_text r.turns)))
      (held_of (added x r.turns g.turn (turn_text (length r.turns) g.turn))) on r.holds g.writes in
      record {
        bodies = g.others;
        turns = g.turn ∷ r.turns;
        after = g.after;
        read = g.read;
        holds = (
          held-more next n.got_o (concat (received (terms_of x) Originator r.turns).taken) (got_in x Originator r.turns g.turn)
              (concat (received (terms_of x) Originator (g.turn ∷ r.turns)).taken) held.0 (got-more law x Originator r.turns g.turn),
          (
            held-more next n.got_a (concat (received (terms_of x) Answerer r.turns).taken) (got_in x Answerer r.turns g.turn)
                (concat (received (terms_of x) Answerer (g.turn ∷ r.turns)).taken) held.1.0 (got-more law x Answerer r.turns g.turn),
            held.1.1,
          ),
        );
      }

  -- it ends so by what was read, and by the whole of it
  tap-ends : (end : TapEnd) (e : EndsInTurn start now next n (tapping script r.bodies) r.turns end) (rest : (role : Role)
      → Rest start n role (of role e.others)) → ((left : Left) → EndsBy (tapping script e.others) r.turns end left
      → EndsBy (longer (tapping script e.others) (more_of start n e.others rest)) r.turns end left) → TapEnds script start next n end
  tap-ends end e rest by = record {
    bodies = (longer (tapping script e.others) (more_of start n e.others rest)).bodies;
    knows = knows-whole start n e.others rest;
    left = _;
    tap = record {
      turns = r.turns;
      tells = tells-longer (tapping script e.others) (more_of start n e.others rest) r.turns e.tells;
      ended = by _ e.ended;
    };
    holds = HoldEach-add now next (outputs_of n) (held_of (left_of (tapping script r.bodies) r.turns (trace_text r.turns))) (held_of e.more)
        on r.holds e.writes;
  }

  pub reached-done : (turns : ℕ) → HEAD + TAIL < (line_of (tapping script r.bodies)).symbols
      → EndsReading start now next n (tapping script r.bodies) r.turns (ends.IsDone turns) → TapEnds script start next n (ends.IsDone turns)
  reached-done turns long (e, out) =
      let rest = rests start next n e.others e.read in
      tap-ends (ends.IsDone turns) e rest (λ left k. whole-longer (tapping script e.others) (more_of start n e.others rest) r.turns turns
      left long (none-short start n (tapping script e.others) r.turns rest out) k)

  stops-so : HEAD + TAIL < (line_of (tapping script r.bodies)).symbols → StopsInTurn start now next n (tapping script r.bodies) r.turns
      → TapStops script start next n
  stops-so long s =
      let rest = rests start next n s.others s.read in
      record {
        bodies = (longer (tapping script s.others) (more_of start n s.others rest)).bodies;
        knows = knows-whole start n s.others rest;
        stops = record {
          turns = r.turns;
          tells = tells-longer (tapping script s.others) (more_of start n s.others rest) r.turns s.tells;
          more = s.more;
          adds = adds-longer start n (tapping script s.others) r.turns s.more rest long s.adds;
          holds = HoldPart-add now next (outputs_of n) (held_of (left_of (tapping script r.bodies) r.turns (trace_text r.turns)))
              (held_of s.more) on r.holds s.writes;
        };
      }

  stops-reading : StopsReadingIn start now next n (tapping script r.bodies) r.turns → TapStopsReading script start next n
  stops-reading s =
      let rest = rests start next n s.others s.read in
      let more = more_of start n s.others rest in
      let got = got-longer (tapping script s.others) more r.turns s.more s.adds in (
        record {
          bodies = (longer (tapping script s.others) more).bodies;
          knows = knows-whole start n s.others rest;
          stops = record {
            turns = r.turns;
            tells = tells-longer (tapping script s.others) more r.turns s.tells;
            more = s.more;
            adds = inl got;
            holds = HoldPart-add now next (outputs_of n) (held_of (left_of (tapping script r.bodies) r.turns (trace_text r.turns)))
                (held_of s.more) on
                r.holds (AddPart-none now next (n.got_o ∷ n.got_a ∷ []) n.trace [] (s.more.got.orig ∷ s.more.got.answ ∷ []) s.more.trace
                [] tt s.writes);
          };
        },
        record {
          adds = got;
          holds = HoldEach-add now next (outputs_of n) (held_of (left_of (tapping script r.bodies) r.turns (trace_text r.turns)))
              (s.more.got.orig ∷ s.more.got.answ ∷ []) on r.holds s.writes;
        },
      )

  pub reached-stop : (stop : Stop) → HEAD + TAIL < (line_of (tapping script r.bodies)).symbols
      → TurnStops start now next n (tapping script r.bodies) r.turns stop → StopsBy script start next n stop
  reached-stop (Own (LineLost role symbol)) long e =
      let rest = rests start next n e.others e.read in
      tap-ends (ends.LineLost role symbol) e rest (lost-longer (tapping script e.others) (more_of start n e.others rest) r.turns role
      symbol)
  reached-stop (Own (ChanceMatch role turn)) long e =
      let rest = rests start next n e.others e.read in
      tap-ends (ends.ChanceMatch role turn) e rest (chance-longer (tapping script e.others) (more_of start n e.others rest) r.turns role
      turn)
  reached-stop (Own (BadTap role turn)) long (e, out) =
      let rest = rests start next n e.others e.read in
      tap-ends (ends.BadTap role turn) e rest (λ left k. badly-longer (tapping script e.others) (more_of start n e.others rest) r.turns
      role turn left (none-short start n (tapping script e.others) r.turns rest out) k)
  reached-stop (Own answer) long e = e
  reached-stop (Read fault) long e = stops-reading e
  reached-stop (Write fault) long e = stops-so long e
  reached-stop (Say fault) long e = e
  reached-stop NoMemory long e = e
