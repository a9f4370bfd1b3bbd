-- What is computed of a link is its run over the line of samples, where noise is faint.
use Rattle.command_laws.proofs.Names.{◌≡◌, ℕ, zero, suc, ◌-◌, ◌<◌, Bool, true, false, cond, List, [], ◌∷◌, length, drop, arith, refl, sym}
use Rattle.command_laws.proofs.Names.{◌∙◌, ap, subst, Option, Some, None, Result, Ok, Err, false≢true, All-nil, All-cons, Way, Next, Goes}
use Rattle.command_laws.proofs.Names.{Ends_run, Stops, IsMade, turn_with, both_said, crossing, speaking, hearing, next, heard_by, made}
use Rattle.command_laws.proofs.Names.{runs, all_turns, AreOctets, Nothing, Passed, Lost, Sent, ScriptRunsTo, DisplacesNoneIsFaint, Left}
use Rattle.command_laws.proofs.Names.{OneResult, LineRun, wire_of, link_of, Account, hear, Said, BothDone, AreIsolated, sent_ago}
use Rattle.command_laws.proofs.Names.{has_message, is_closed, TurnIs, Link, Accounts, Spoken, Turn, Hears, RunOf, arrival, said_at, start}
use Rattle.command_laws.proofs.Names.{ScriptValue, IsInLimits, delay_of, Both, of, LinkFault, Role, Originator, Answerer}
use Rattle.std.specs.Prelude.{is_some}
use Rattle.std.proofs.lemmas.List.{length-drop, length-replicate}
use Rattle.std.proofs.lemmas.List.Elements.{All-replicate}
use Rattle.shared_terms.specs.Role.{other}
use Rattle.lapm_frames.specs.declared.sent.Sent.TheVariants as slots
use Rattle.line_run.specs.Unhindered.{unhindered}
use Rattle.noise_script.specs.declared.entry.Break.{Break}
use Rattle.noise_script.specs.Script.{loses}
use Rattle.link_account.specs.Account.{check_of}
use Rattle.link_run.specs.Outcomes.{Outcome, Done}
use Rattle.link_run.specs.Trace.{trace_text}
use Rattle.line_run.specs.Sampled.{HeardIn, IsHeardOf}
use Rattle.line_run.specs.Ends.{IsDone}
use Rattle.line_ends.specs.Completes.{DisplacesNone, AreOfOctets}
use Rattle.command_laws.specs.Worked.Made.{Made, EndsAs}
use Rattle.command_laws.specs.Worked.Made.{with_last}
use Rattle.link_pair.specs.Pairs.Ends.{end_of, PairRunsTo}
use Rattle.xid_params.specs.Offers.{IsAllowed}
use Rattle.link_pair.specs.Pairs.Laws.{AreShort, UndisplacedPairsAreIsolated, HasPairEnd, EachPairEnds}
use Rattle.link_pair.proofs.Pairs.Fitting.{none-beside}
use Rattle.link_pair.proofs.Pairs.Clear.{bits_in, due, due_of, due-heard, due-well}
use Rattle.link_pair.proofs.Pairs.Isolating.{IsolationLaws, MaySend, clear-on, agrees-on}
use Rattle.line_run.proofs.WhatIsLeft.{left_of, leaves-so}
use Rattle.command_laws.specs.Worked.Rows.{no_lines, one_octet_each, fifteen_segments, way_of, first_made, second_made, EndsSo}
use Rattle.command_laws.specs.Worked.Rows.{PairEndsSo}
use Rattle.command_laws.specs.Worked.Rows.{RowsHold}
use Rattle.xid_params.specs.Terms.{default_offer}

-- what crosses a way is what is to be heard
crossed : (lose : Bool) (check-slot : Spoken) (s : Sent) → cond (has_message s) (cond lose (Lost s) (Passed s)) Nothing ≡ unhindered lose s
crossed lose slot slots.Mark = refl
crossed lose slot slots.Flags = refl
crossed lose slot slots.Odp = refl
crossed lose slot slots.Adp = refl
crossed lose slot (slots.Frame frame) = refl

heard-due : (script : ScriptValue) (ts : List Turn) (role : Role) → heard_by (way_of script) ts role ≡ due script (other role) ts
heard-due script ts role = go (sent_ago delay sender ts)
  where
    sender : Role
    sender = other role

    delay : ℕ
    delay = delay_of script sender

    go : (o : Option Spoken) → crossing (loses script sender (length ts - delay)) o ≡ due_of script sender (drop delay ts) o
    go None = refl
    go (Some slot) =
        crossed (loses script sender (length ts - delay)) slot slot.sent
        ∙ ap (λ n. unhindered (loses script sender n) slot.sent) (sym (length-drop delay ts))

-- each turn hears what is to be heard
abbrev TurnDue : ScriptValue → List Turn → Turn → Type 0
TurnDue script ts t = (role : Role) → (of role t).heard ≡ due script (other role) ts

abbrev AllDue : ScriptValue → List Turn → Type 0
AllDue script [] = Unit {0}
AllDue script (t ∷ ts) = TurnDue script ts t × AllDue script ts

turn-due : (script : ScriptValue) (ts : List Turn) (before mid : Accounts) (sent : Role → Option Spoken)
    → TurnDue script ts (turn_with before mid (heard_by (way_of script) ts) sent)
turn-due script ts before mid sent Originator = heard-due script ts Originator
turn-due script ts before mid sent Answerer = heard-due script ts Answerer

abbrev NextDue : ScriptValue → List Turn → Next → Type 0
NextDue script ts (Goes t later) = TurnDue script ts t
NextDue script ts (Ends_run t mid outcome) = TurnDue script ts t
NextDue script ts Stops = Unit {0}

spoken-due : (script : ScriptValue) (ts : List Turn) (ends mid : Accounts) (b : Bool) (o a : Result Said LinkFault)
    → NextDue script ts (speaking ends mid (heard_by (way_of script) ts) b o a)
spoken-due script ts ends mid true o a = turn-due script ts ends mid (λ role. None)
spoken-due script ts ends mid false (Err fault) a = turn-due script ts ends mid (λ role. None)
spoken-due script ts ends mid false (Ok o) (Err fault) = turn-due script ts ends mid (λ role. None)
spoken-due script ts ends mid false (Ok o) (Ok a) = turn-due script ts ends mid (both_said o a)

hearing-due : (link : Link) (script : ScriptValue) (ts : List Turn) (ends : Accounts) (o a : Result Account LinkFault)
    → NextDue script ts (hearing link (length ts) ends (heard_by (way_of script) ts) o a)
hearing-due link script ts ends (Ok o) (Ok a) =
    let mid : Accounts = record { orig = o; answ = a } in
    spoken-due script ts ends mid (is_closed o.phase) (said_at link (length ts) mid Originator) (said_at link (length ts) mid Answerer)
hearing-due link script ts ends (Ok o) (Err fault) = tt
hearing-due link script ts ends (Err fault) a = tt

next-due : (link : Link) (script : ScriptValue) (ts : List Turn) (ends : Accounts) → NextDue script ts (next link (way_of script) ts ends)
next-due link script ts ends =
    hearing-due link script ts ends (hear (length ts) (arrival (heard_by (way_of script) ts Originator)) ends.orig)
    (hear (length ts) (arrival (heard_by (way_of script) ts Answerer)) ends.answ)

abbrev LastDue : ScriptValue → List Turn → Option Turn → Type 0
LastDue script ts None = Unit {0}
LastDue script ts (Some t) = TurnDue script ts t

made-due : (count : ℕ) (link : Link) (script : ScriptValue) (ts : List Turn) (ends : Accounts) (n : Next) → AllDue script ts
    → NextDue script ts n → AllDue script (made count link (way_of script) ts ends n).turns
    × LastDue script (made count link (way_of script) ts ends n).turns (made count link (way_of script) ts ends n).last
made-due zero link script ts ends n h k = (h, tt)
made-due (suc count) link script ts ends (Goes t later) h k =
    made-due count link script (t ∷ ts) later (next link (way_of script) (t ∷ ts) later) (k, h) (next-due link script (t ∷ ts) later)
made-due (suc count) link script ts ends (Ends_run t mid outcome) h k = (h, k)
made-due (suc count) link script ts ends Stops h k = (h, tt)

-- so it is heard on the line of samples
due-in : IsolationLaws → (script : ScriptValue) (files : Both (List ℕ)) → MaySend script files → (ts : List Turn) (ends : Accounts)
    → LineRun (wire_of script) (link_of script files) ts ends → (t : Turn) (mid : Accounts) → Hears (length ts) ends t mid
    → TurnDue script ts t → HeardIn (wire_of script) ts t
due-in laws script files m ts ends r t mid h k role = record {
  heard_of = subst (IsHeardOf (wire_of script) (other role) ts (of role t).check) (sym (k role))
      (subst (λ z. IsHeardOf (wire_of script) (other role) ts z (due script (other role) ts)) (sym (h role).check_is)
      (due-heard laws.clear script 0 (λ side turn. None) (other role) ts (check_of (of role ends))
      (clear-on laws script files 0 (λ side turn. None) ts ends m r 0 (λ side turn. None) (omega arith) (none-beside (bits_in script)))
      (agrees-on laws script files 0 (λ side turn. None) ts ends m.limits r role)));
  well = λ e. due-well laws.clear script (other role) ts (sym (k role) ∙ e);
}

due-run : IsolationLaws → (script : ScriptValue) (files : Both (List ℕ)) → MaySend script files → (ts : List Turn) (ends : Accounts)
    → RunOf (link_of script files) ts ends → AllDue script ts → LineRun (wire_of script) (link_of script files) ts ends
due-run laws script files m [] ends r k = record { run = r; heard = tt }
due-run laws script files m (t ∷ ts) ends r k =
    let before = due-run laws script files m ts r.0 r.1 k.1 in
    record { run = r; heard = (due-in laws script files m ts r.0 before t r.2.mid r.2.hearing k.0, before.heard) }

abbrev outcome-in : Outcome → Option Outcome → Outcome
outcome-in o None = o
outcome-in o (Some p) = p

-- a computed run that is done
done-run : IsolationLaws → (script : ScriptValue) (files : Both (List ℕ)) → MaySend script files → (m : Made)
    → IsMade (link_of script files) (way_of script) m → AllDue script m.turns × LastDue script m.turns m.last → (turn : ℕ) → EndsSo m turn
    → (left : Left) × ScriptRunsTo script files (IsDone turn) left × (left.trace ≡ trace_text (all_turns m))
done-run laws script files s m is k turn e = go m.last m.outcome is.last k.1 e.done e.made refl
  where
    run : LineRun (wire_of script) (link_of script files) m.turns m.ends
    run = due-run laws script files s m.turns m.ends is.run k.0

    go : (last : Option Turn) (outcome : Option Outcome) → EndsAs (link_of script files) (way_of script) m last outcome
        → LastDue script m.turns last → outcome ≡ Some Done → is_some last ≡ true → m.last ≡ last
        → (left : Left) × ScriptRunsTo script files (IsDone turn) left × (left.trace ≡ trace_text (all_turns m))
    go None outcome h d f p q = absurd (false≢true p)
    go (Some t) None h d f p q = absurd (false≢true (ap is_some f))
    go (Some t) (Some o) h d f p q =
        let there : TurnIs (link_of script files) m.turns m.ends t m.mid Done =
        subst (λ z. TurnIs (link_of script files) m.turns m.ends t m.mid z) (ap (outcome-in o) f) h.is in (
          left_of m.mid (trace_text (t ∷ m.turns)),
          record {
            turns = m.turns;
            ends = m.ends;
            run = run;
            ended = record {
              number = sym e.last;
              last = t;
              mid = m.mid;
              heard = due-in laws script files s m.turns m.ends run t m.mid there.hearing d;
              is = there;
              leaves = leaves-so m.mid (trace_text (t ∷ m.turns));
            };
          },
          ap (λ (l : Option Turn). trace_text (with_last l m.turns)) (sym q),
        )

-- the script without lines
plain-limits : IsInLimits no_lines
plain-limits = record {
  delay_orig_some = omega arith;
  delay_orig_few = omega arith;
  delay_answ_some = omega arith;
  delay_answ_few = omega arith;
  tries_some = omega arith;
  tries_few = omega arith;
  offer_orig_allowed = allowed;
  offer_answ_allowed = allowed;
  losses_few = omega arith;
  hits_few = omega arith;
  noises_few = omega arith;
  breaks_few = omega arith;
  pauses_few = omega arith;
  quiet = tt;
  pauses_short = tt;
}
  where
    allowed : IsAllowed default_offer
    allowed = record {
      tx_len_low = omega arith;
      tx_len_high = omega arith;
      rx_len_low = omega arith;
      rx_len_high = omega arith;
      tx_window_low = omega arith;
      tx_window_high = omega arith;
      rx_window_low = omega arith;
      rx_window_high = omega arith;
    }

one-octets : AreOfOctets no_lines one_octet_each
one-octets = record { files_are = files; breaks_are = All-nil (λ (b : Break). b.length < 256) }
  where
    files : (role : Role) → AreOctets (of role one_octet_each)
    files Originator = All-cons (λ octet. octet < 256) 97 [] (omega arith) (All-nil (λ octet. octet < 256))
    files Answerer = All-cons (λ octet. octet < 256) 98 [] (omega arith) (All-nil (λ octet. octet < 256))

many-octets : AreOfOctets no_lines fifteen_segments
many-octets = record { files_are = files; breaks_are = All-nil (λ (b : Break). b.length < 256) }
  where
    files : (role : Role) → AreOctets (of role fifteen_segments)
    files Originator = All-replicate (λ octet. octet < 256) 1920 1 (omega arith)
    files Answerer = All-nil (λ octet. octet < 256)

one-short : AreShort one_octet_each
one-short Originator = omega arith
one-short Answerer = omega arith

many-short : AreShort fifteen_segments
many-short Originator = omega (arith, length-replicate {A = ℕ} 1920 1)
many-short Answerer = omega arith

pub record RowLaws : Type 0 where
  pub links : IsolationLaws
  pub faint : DisplacesNoneIsFaint
  pub computed : (count : ℕ) (link : Link) (way : Way) → IsMade link way (runs count link way)
  pub one : OneResult
  pub isolated : UndisplacedPairsAreIsolated
  pub ends : EachPairEnds

-- each of two links alone, and so both together
both-so : RowLaws → (files others : Both (List ℕ)) → AreOfOctets no_lines files → AreOfOctets no_lines others → AreShort files
    → AreShort others → (m n : ℕ) (first second : Made) → first ≡ runs 100 (link_of no_lines files) (way_of no_lines)
    → second ≡ runs 100 (link_of no_lines others) (way_of no_lines) → EndsSo first m → EndsSo second n
    → PairEndsSo files others m n (trace_text (all_turns first)) (trace_text (all_turns second))
both-so laws files others o oo f g m n first second a b x y =
    let quiet : DisplacesNone no_lines = record { no_hits = refl; no_noises = refl } in
    let faint = laws.faint no_lines quiet in
    let one = done-run laws.links no_lines files (record { limits = plain-limits; faint = faint; octets = o }) first (is-made files first a)
    (is-due files first a) m x in
    let two = done-run laws.links no_lines others (record { limits = plain-limits; faint = faint; octets = oo }) second
    (is-made others second b) (is-due others second b) n y in
    let e : HasPairEnd no_lines files others = laws.ends no_lines files others plain-limits f g o oo in
    let i : AreIsolated no_lines files others e.end e.left e.leaves =
    laws.isolated no_lines files others e.end e.left e.leaves plain-limits quiet o oo e.runs in
    let p = laws.one (wire_of no_lines) (link_of no_lines files) i.first (IsDone m) e.left one.0 i.first_runs one.1 in
    let q = laws.one (wire_of no_lines) (link_of no_lines others) i.second (IsDone n) e.leaves two.0 i.second_runs two.1 in
    let end-is : e.end ≡ BothDone m n = i.end_is ∙ ap (λ z. end_of z i.second) p.0 ∙ ap (end_of (IsDone m)) q.0 in
    record {
      left = e.left;
      leaves = e.leaves;
      runs = subst (λ z. PairRunsTo no_lines files others z e.left e.leaves) end-is e.runs;
      trace_is = ap (λ (l : Left). l.trace) p.1 ∙ one.2;
      traces_are = ap (λ (l : Left). l.trace) q.1 ∙ two.2;
    }
  where
    is-made : (these : Both (List ℕ)) (made : Made) → made ≡ runs 100 (link_of no_lines these) (way_of no_lines)
        → IsMade (link_of no_lines these) (way_of no_lines) made
    is-made these made e = subst (IsMade (link_of no_lines these) (way_of no_lines)) (sym e)
        (laws.computed 100 (link_of no_lines these) (way_of no_lines))

    is-due : (these : Both (List ℕ)) (made : Made) → made ≡ runs 100 (link_of no_lines these) (way_of no_lines)
        → AllDue no_lines made.turns × LastDue no_lines made.turns made.last
    is-due these made e =
        subst (λ (z : Made). AllDue no_lines z.turns × LastDue no_lines z.turns z.last) (sym e)
        (made-due 100 (link_of no_lines these) no_lines [] (start (link_of no_lines these))
        (next (link_of no_lines these) (way_of no_lines) [] (start (link_of no_lines these))) tt
        (next-due (link_of no_lines these) no_lines [] (start (link_of no_lines these))))

pub rows-hold : RowLaws → EndsSo first_made 12 → EndsSo second_made 26 → RowsHold
rows-hold laws x y = (
  both-so laws one_octet_each one_octet_each one-octets one-octets one-short one-short 12 12 first_made first_made refl refl x x,
  both-so laws one_octet_each fifteen_segments one-octets many-octets one-short many-short 12 26 first_made second_made refl refl x y,
)
