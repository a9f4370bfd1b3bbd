-- A whole turn.
use Rattle.line_world.proofs.Cited.{arith, ◌≡◌, inl, inr, ℕ, ◌+◌, ◌<◌, List, [], ◌∷◌, length, refl, sym, ◌∙◌, ap, subst, Result, Ok, Err}
use Rattle.line_world.proofs.Cited.{Heard, SamplesAreCarried, OneIsCarried, Written, outputs_of, received_of, Wire, HeardIn, IsHeardOf}
use Rattle.line_world.proofs.Cited.{link_of, ScriptsMayPlay, ScriptsHaveDelays, Carried, RunFault, HaveArrived, AreCounted, AreIdle}
use Rattle.line_world.proofs.Cited.{AreWithin, octets_of, Overhears, HasGone, HearsThese, AddsPart, SpeaksLast, turn_in, AreKept, Stops}
use Rattle.line_world.proofs.Cited.{StopsReading, EndsInTurn, GoesOnBy, IsWriting, added, IsReading, StayKnown, Lines, Modems, Step, Counts}
use Rattle.line_world.proofs.Cited.{check_of, hearing-of, lost_in, Outcome, TurnIs, Broken, Accounts, Turn, Hears, turn_text, IsInLimits}
use Rattle.line_world.proofs.Cited.{AddEach-next, AddPart-next, AddPart-none, AddPart-longer, FolderState, OnlyWrites, OnlyPuts, AddEach}
use Rattle.line_world.proofs.Cited.{Both, of, other, LinkFault, Role, Originator, Answerer}
use Rattle.outside_calls.specs.Outputs.{AddPart}
use Rattle.shared_terms.specs.declared.fault.LinkFault.TheVariants as faults
use Rattle.link_run.specs.Laws.{EachTurnIsMade, MakesTurn as MakesAny}
use Rattle.line_run.specs.declared.fault.RunFault.TheVariants as run_faults
use Rattle.line_world.specs.declared.step.Step.TheVariants as steps
use Rattle.line_world.specs.Tally.{IsFew}
use Rattle.line_world.specs.Turn.{SendsNone, MakesTurn, EndsBy}
use Rattle.line_world.specs.Mid.{InTurn, SameBeside, AddsLines}
use Rattle.link_run.specs.Counts.{lost_slots}
use Rattle.line_world.proofs.Speaking.{hears-these}
use Rattle.line_world.proofs.Hearing.{heard-in, none-sent, runs-over}
use Rattle.line_world.proofs.Serving.{hears-in}
use Rattle.line_world.proofs.Folders.{IsApart, stay-known}

-- ---- what a turn would come to

pub record MakingLaws : Type 0 where
  pub play : ScriptsMayPlay
  pub delays : ScriptsHaveDelays
  pub carried : SamplesAreCarried
  pub one : OneIsCarried
  pub made : EachTurnIsMade

both-same : (x y : Accounts) → x.orig ≡ y.orig → x.answ ≡ y.answ → x ≡ y
both-same x y o a = λ k. record { orig = o k; answ = a k }

-- The turn that is being made.
pub record Making (c : Wire) (files : Both (List ℕ)) (ts : List Turn) (ends : Accounts) (heard : Both Heard) (mid : Accounts) : Type 0 where
  pub turn : Turn
  pub outcome : Outcome
  pub hears : HearsThese heard turn
  pub makes : MakesTurn c files ts ends turn mid outcome

pub making : MakingLaws → (c : Wire) (files : Both (List ℕ)) (ts : List Turn) (ends : Accounts) (heard : Both Heard) (mid : Accounts)
    → IsInLimits c.script → Overhears c files ts ends heard mid → Making c files ts ends heard mid
making laws c files ts ends heard mid limits o = record {
  turn = m.turn;
  outcome = m.outcome;
  hears = λ role. m.heard_is role ∙ hears-these heard ends mid none-sent role;
  makes = record { run = o.run; heard = well; is = subst (λ x. TurnIs (link_of c.script files) ts ends m.turn x m.outcome) same m.is };
}
  where
    first : Turn
    first = turn_in heard ends mid none-sent

    heard-first : HeardIn c ts first
    heard-first = heard-in c files ts ends heard mid none-sent o

    m : MakesAny (link_of c.script files) ts ends (λ role. (of role first).heard)
    m = grind (arith, first, runs-over, heard-first)

    hears : Hears (length ts) ends m.turn m.mid
    hears = hearing-of (link_of c.script files) ts ends m.turn m.mid m.outcome m.is

    first-hears : Hears (length ts) ends first mid
    first-hears = hears-in c files ts ends mid heard none-sent o

    same-at : (role : Role) → of role m.mid ≡ of role mid
    same-at role = grind (arith)

    same : m.mid ≡ mid
    same = both-same m.mid mid (same-at Originator) (same-at Answerer)

    well : HeardIn c ts m.turn
    well role =
        let h = heard-first role in
        record {
          heard_of = subst (λ x. IsHeardOf c (other role) ts (of role m.turn).check x) (sym (m.heard_is role))
              (subst (λ x. IsHeardOf c (other role) ts x (of role first).heard) ((first-hears role).check_is
              ∙ sym (hears role).check_is) h.heard_of);
          well = λ f. h.well (sym (m.heard_is role) ∙ f);
        }

-- ---- the ends after a turn in which nothing is sent

abbrev pub Halts : Modems → Lines → Wire → ℕ → Both (List Carried) → List Turn → Both Heard → Type 0
Halts m l c links streams ts heard = (t : Turn) → HearsThese heard t → SendsNone m l c links streams ts t

pub same-beside : (m : Modems) → SameBeside m m
same-beside m = record { dlci = refl; turn = refl; tally = refl; heard_by = refl; spoke = refl }

pub halts-so : (old m : Modems) (l : Lines) (c : Wire) (links : ℕ) (streams : Both (List Carried)) (files : Both (List ℕ)) (ts : List Turn)
    (ends : Accounts) (heard : Both Heard) (mid now : Accounts)
    → InTurn old c files ts ends heard mid now → HaveArrived l c links streams → SameBeside old m → Halts m l c links streams ts heard
halts-so old m l c links streams files ts ends heard mid now h arrived same t hears =
    let orig = sym (hears Originator) in
    let answ = sym (hears Answerer) in
    assumption (
      ap (λ (x : Counts). x.lost) same.tally ∙ h.tally.lost ∙ (λ k. lost_slots ts + lost_in (orig k) + lost_in (answ k)),
      ap (λ (x : Counts). x.again) same.tally ∙ h.tally.again,
    )

-- what both hear with once they have heard
abbrev pub Checked : Modems → Accounts → Type 0
Checked m mid = (role : Role) → of role m.heard_by ≡ check_of (of role mid)

pub checked-so : (old m : Modems) (c : Wire) (files : Both (List ℕ)) (ts : List Turn) (ends : Accounts) (heard : Both Heard)
    (mid now : Accounts) → InTurn old c files ts ends heard mid now → SameBeside old m → Checked m mid
checked-so old m c files ts ends heard mid now h same role = ap (of role) same.heard_by ∙ h.checks role

-- ---- a fault of the folder

module _ (m : Modems) (l : Lines) (c : Wire) (links : ℕ) (streams : Both (List Carried)) (a b : FolderState) (n : Written)
    (files : Both (List ℕ)) (ts : List Turn) (ends : Accounts) where
  pub writing-ends : (fault : RunFault) → IsWriting fault → Stops m l c links streams a b n files ts ends
      → EndsBy m l c links streams a b n files ts ends fault
  writing-ends other is h = grind (arith)

  pub reading-ends : (fault : RunFault) → IsReading fault → StopsReading m l c links streams a b n files ts ends
      → EndsBy m l c links streams a b n files ts ends fault
  reading-ends other is h = grind (arith)

module _ (laws : MakingLaws) (m : Modems) (l : Lines) (c : Wire) (links : ℕ) (streams : Both (List Carried)) (a b : FolderState)
    (n : Written) (files : Both (List ℕ)) (ts : List Turn) (ends : Accounts) (heard : Both Heard) (mid : Accounts)
    (limits : IsInLimits c.script) (apart : IsApart n) (within : AreWithin files) (only : OnlyPuts a b (outputs_of n))
    (o : Overhears c files ts ends heard mid) (halts : Halts m l c links streams ts heard) where
  -- as what both took is handed over,
  pub stops-handing : AddPart a b (outputs_of n) (octets_of mid) → Stops m l c links streams a b n files ts ends
  stops-handing part =
      let k = making laws c files ts ends heard mid limits o in
      inl (record {
        others = files;
        known = stay-known a b n files apart only within;
        turn = k.turn;
        mid = mid;
        outcome = k.outcome;
        makes = k.makes;
        halts = halts k.turn k.hears;
        writes = AddPart-longer a b (outputs_of n) (octets_of mid) (turn_text (length ts) k.turn ∷ []) part;
      })

  -- as the files are read,
  pub stops-reading : AddEach a b (outputs_of n) (octets_of mid) → StopsReading m l c links streams a b n files ts ends
  stops-reading delivered =
      let k = making laws c files ts ends heard mid limits o in (
        record {
          others = files;
          known = stay-known a b n files apart only within;
          turn = k.turn;
          mid = mid;
          outcome = k.outcome;
          makes = k.makes;
          halts = halts k.turn k.hears;
          writes = AddPart-none a b (received_of n) n.trace [] (octets_of mid) (turn_text (length ts) k.turn) [] tt delivered;
        },
        delivered,
      )

-- ---- the run ends in this turn

module _ (m : Modems) (l : Lines) (c : Wire) (links : ℕ) (streams : Both (List Carried)) (a b z : FolderState) (n : Written)
    (files others : Both (List ℕ)) (ts : List Turn) (ends : Accounts) (heard : Both Heard) (mid : Accounts) (apart : IsApart n)
    (known : StayKnown a z n files others) (only : OnlyPuts a b (outputs_of n)) (delivered : AddEach a b (outputs_of n) (octets_of mid))
    (lines : OnlyWrites b z n.trace) (halts : Halts m l c links streams ts heard) where
  -- and as the lines go out.
  pub stops-writing : AddsPart c b z n others ts ends heard mid → Stops m l c links streams a z n files ts ends
  stops-writing p =
      inl (record {
        others = others;
        known = known;
        turn = p.turn;
        mid = mid;
        outcome = p.outcome;
        makes = p.makes;
        halts = halts p.turn p.hears;
        writes = AddPart-next a b z (received_of n) n.trace [] (octets_of mid) _ tt apart.0 only.goes_on delivered lines p.trace;
      })

  pub ends-in : (outcome : Outcome) (number : ℕ) → number ≡ length ts → Checked m mid → AddsLines c b z n others ts ends heard mid outcome
      → EndsInTurn m l c links streams a z n files ts ends outcome number
  ends-in outcome number e checked p =
      record {
        number_is = e;
        others = others;
        known = known;
        turn = p.turn;
        mid = mid;
        makes = p.makes;
        halts = halts p.turn p.hears;
        checks = checked;
        writes = AddEach-next a b z (received_of n) n.trace [] (octets_of mid) _ tt apart.0 only.goes_on delivered lines (inr p.trace);
      }

  pub speaks-last : (fault : RunFault) → Checked m mid → SpeaksLast c b z n others ts ends heard mid fault
      → EndsBy m l c links streams a z n files ts ends fault
  speaks-last run_faults.WriteFault checked h = stops-writing h
  speaks-last run_faults.NoMemory checked h = stops-writing h
  speaks-last (run_faults.LinkLost role segment turn) checked h = (
    h.0,
    ends-in (Broken role (faults.Spent segment h.0)) turn h.1.0 checked h.1.1,
  )
  speaks-last (run_faults.NotDetected turn) checked h = ends-in (Broken Originator faults.NotDetected) turn h.0 checked h.1
  speaks-last fault checked h = absurd h

-- ---- the run goes on

pub goes-on-by : (m : Modems) (l : Lines) (c : Wire) (links : ℕ) (streams : Both (List Carried)) (a b z : FolderState) (n : Written)
    (files others : Both (List ℕ)) (ts : List Turn) (ends mid : Accounts)
    → IsApart n → StayKnown a z n files others → OnlyPuts a b (outputs_of n) → AddEach a b (outputs_of n) (octets_of mid)
    → OnlyWrites b z n.trace → HasGone m l c links streams b z n others ts ends mid → GoesOnBy m l c links streams a z n files ts ends
goes-on-by m l c links streams a b z n files others ts ends mid apart known only delivered lines h = record {
  others = others;
  known = known;
  turn = h.turn;
  after = h.after;
  run = h.run;
  going = h.going;
  heard = h.heard;
  modems = h.modems;
  lines = h.lines;
  writes = subst (λ x. AddEach a z (outputs_of n) (added x (turn_text (length ts) h.turn))) (sym h.mid_is)
      (AddEach-next a b z (received_of n) n.trace [] (octets_of mid) _ tt apart.0 only.goes_on delivered lines (inr h.trace));
}

-- and another turn may be made
pub kept-on : (m : Modems) (number : ℕ) → m.dlci < 64 → AreIdle m.link → AreCounted m.link number number → IsFew m.tally number number
    → m.turn ≡ number → AreKept m
kept-on m number channel idle counted few e = grind (arith)

-- what a fault ends doesn't go on
pub no-step : {A : Type 0} {fault : RunFault} {step : Step} → Err fault ≡ Ok step → A
no-step e = absurd cc

-- nor does what is done
abbrev pub done-step : ℕ → Result Step RunFault
done-step turn = Ok (steps.Done turn)

pub done-no-step : {A : Type 0} {turn : ℕ} → done-step turn ≡ Ok steps.Going → A
done-no-step e = absurd cc
