-- Pairs whose noise is faint: the line doesn't end them, and each link runs as it does alone.
use Rattle.link_pair.proofs.Names.{ℕ, ◌-◌, ◌<◌, List, length, arith, sym, subst, None, Chance, IsFaint, DisplacesNoneIsFaint, OneIsCarried}
use Rattle.link_pair.proofs.Names.{Wire, LineRun, LineEnd, EndsLine, link_of, wire_at, check_of, first_dlci, second_dlci, after_second}
use Rattle.link_pair.proofs.Names.{after_first, Which, EndsTurn, by_links, by_line, FaintPairsAreIsolated, Progress, Goes, Ended, turns_in}
use Rattle.link_pair.proofs.Names.{ends_in, turns_on_line, Lasts, PairAt, JudgesOnceHeard, Link, Accounts, Turn, ScriptValue, Both, of}
use Rattle.link_pair.proofs.Names.{other, Role, Originator, Answerer}
use Rattle.line_run.specs.Sampled as lines
use Rattle.link_pair.specs.Pairs.Laws.{UndisplacedPairsAreIsolated}
use Rattle.link_pair.proofs.Pairs.Fitting.{AllFitting, BesideFits, second-beside, first-beside, none-beside, fitting-lasting}
use Rattle.link_pair.proofs.Pairs.Fitting.{sendable-lasting}
use Rattle.link_pair.proofs.Pairs.Clear.{Beside, bits_in, IsClear, Agrees, heard-due, due-well, not-lost}
use Rattle.link_pair.proofs.Pairs.Isolating.{IsolationLaws, MaySend, fitting-on, clear-on, agrees-on, runs-move}
use Rattle.link_pair.proofs.Pairs.Idling.{Judges, agrees-lasting, judges-last}

pub record PairLaws : Type 0 where
  pub links : IsolationLaws
  pub one : OneIsCarried
  pub heard : JudgesOnceHeard

-- the turns that a link made are a run
pub record HasRun (c : Wire) (link : Link) (ts : List Turn) : Type 0 where
  pub before : Accounts
  pub run : LineRun c link ts before

pub has-run : (c : Wire) (link : Link) (rounds : ℕ) (p : Progress) → Lasts c link rounds p → HasRun c link (turns_in p)
has-run c link rounds p h = grind (arith)

-- what it sent fits each channel
pub fits-in : IsolationLaws → (script : ScriptValue) (files : Both (List ℕ)) (dlci : ℕ) (beside : Beside) (rounds : ℕ) (p : Progress)
    → MaySend script files → Lasts (wire_at script dlci beside) (link_of script files) rounds p → (at : ℕ) → at < 64
    → AllFitting (bits_in script) at (turns_in p)
fits-in laws script files dlci beside rounds p m h at low = grind (arith, has-run, fitting-on)

-- a link's line is clear and both its ends judge by the right checks, also once it has ended
pub record IsHeardRight (script : ScriptValue) (dlci : ℕ) (beside : Beside) (ts : List Turn) (ends : Accounts) : Type 0 where
  pub clear : IsClear script dlci beside ts
  pub agrees : (role : Role) → Agrees script (other role) ts (check_of (of role ends))

heard-right : PairLaws → (script : ScriptValue) (files : Both (List ℕ)) (dlci : ℕ) (beside : Beside) (rounds count : ℕ) (p : Progress)
    → MaySend script files → dlci < 64 → BesideFits (bits_in script) beside
    → Lasts (wire_at script dlci beside) (link_of script files) count p
    → IsHeardRight script dlci beside (turns_on_line rounds p) (ends_in p)
heard-right laws script files dlci beside rounds count (Goes ts ends) m low b h = record {
  clear = clear-on laws.links script files dlci beside ts ends m h.run dlci beside low b;
  agrees = agrees-on laws.links script files dlci beside ts ends m.limits h.run;
}
heard-right laws script files dlci beside rounds count (Ended ts ends end left) m low b h =
    let c : Wire = wire_at script dlci beside in
    let link : Link = link_of script files in
    let k : ℕ = rounds - length ts in
    let run : LineRun c link ts h.ran.ends = subst (λ us. LineRun c link us h.ran.ends) h.turns_are h.ran.run in
    let clear : IsClear script dlci beside ts = clear-on laws.links script files dlci beside ts h.ran.ends m run dlci beside low b in
    let judges : Judges ts ends =
    subst (λ us. Judges us ends) h.turns_are
    (subst (Judges h.ran.turns) h.ends_are
    (judges-last laws.links laws.one laws.heard script files dlci beside h.ran.turns h.ran.ends m.limits h.ran.run end left h.by_link
    h.ran.ended)) in
    record {
      clear = record {
        delays = clear.delays;
        faint = clear.faint;
        sendable = sendable-lasting k ts clear.sendable;
        fits = fitting-lasting (bits_in script) dlci k ts clear.fits;
        beside_fits = b;
      };
      agrees = agrees-lasting script ts ends judges k;
    }

-- so the line doesn't end it
never-ends : PairLaws → (script : ScriptValue) (dlci : ℕ) (beside : Beside) (ts : List Turn) (ends : Accounts) → IsFaint script
    → IsHeardRight script dlci beside ts ends → (end : LineEnd) → EndsLine (wire_at script dlci beside) ts ends end → ⊥
never-ends laws script dlci beside ts ends d h (lines.LineLost Originator symbol) e =
    not-lost laws.links.clear script dlci beside Answerer ts symbol d e
never-ends laws script dlci beside ts ends d h (lines.LineLost Answerer symbol) e =
    not-lost laws.links.clear script dlci beside Originator ts symbol d e.1
never-ends laws script dlci beside ts ends d h (lines.ChanceMatch Originator) e =
    due-well laws.links.clear script Answerer ts
    (sym (heard-due laws.links.clear script dlci beside Answerer ts (check_of ends.orig) Chance h.clear (h.agrees Originator) e))
never-ends laws script dlci beside ts ends d h (lines.ChanceMatch Answerer) e =
    due-well laws.links.clear script Originator ts
    (sym (heard-due laws.links.clear script dlci beside Originator ts (check_of ends.answ) Chance h.clear (h.agrees Answerer) e.1))

-- what goes beside both links fits
pub first-near : IsolationLaws → (script : ScriptValue) (files others : Both (List ℕ)) (n m : ℕ) (p q : Progress) → MaySend script others
    → PairAt script files others n m p q → BesideFits (bits_in script) (after_second (turns_in q))
first-near laws script files others n m p q s a = second-beside (bits_in script) (turns_in q)
    (fits-in laws script others second_dlci (after_first (turns_in p)) m q s a.second 32 (omega arith))

pub second-near : IsolationLaws → (script : ScriptValue) (files others : Both (List ℕ)) (n m : ℕ) (p q : Progress) → MaySend script files
    → PairAt script files others n m p q → BesideFits (bits_in script) (after_first (turns_in p))
second-near laws script files others n m p q s a = first-beside (bits_in script) (turns_in p)
    (fits-in laws script files first_dlci (after_second (turns_in q)) n p s a.first 0 (omega arith))

line-ends-not : PairLaws → (script : ScriptValue) (files others : Both (List ℕ)) (link : Which) (round n m : ℕ) (p q : Progress)
    → MaySend script files → MaySend script others → PairAt script files others n m p q
    → (end : LineEnd) → EndsTurn script link round p q end → ⊥
line-ends-not laws script files others link round n m p q s t a end e = grind (arith, first-near, never-ends, heard-right, second-near)

-- isolation
pub faint-pairs-are-isolated : PairLaws → FaintPairsAreIsolated
faint-pairs-are-isolated laws script files others end left leaves h d o oo (by_line link round cause e is) = grind (arith, line-ends-not)
faint-pairs-are-isolated laws script files others end left leaves h d o oo (by_links first second b is) =
    let s : MaySend script files = record { limits = h; faint = d; octets = o } in
    let t : MaySend script others = record { limits = h; faint = d; octets = oo } in
    let near = first-near laws.links script files others _ _ _ _ t b.at in
    let beside = second-near laws.links script files others _ _ _ _ s b.at in
    record {
      first = first;
      second = second;
      first_runs = runs-move laws.links script files first_dlci (after_second b.us) 0 (λ role round. None) s
          (record { low = omega arith; fits = near; at_low = omega arith; near_fits = none-beside (bits_in script) })
          first left b.at.first.by_link b.at.first.ran;
      second_runs = runs-move laws.links script others second_dlci (after_first b.ts) 0 (λ role round. None) t
          (record { low = omega arith; fits = beside; at_low = omega arith; near_fits = none-beside (bits_in script) })
          second leaves b.at.second.by_link b.at.second.ran;
      first_by_link = b.at.first.by_link;
      second_by_link = b.at.second.by_link;
      end_is = is;
    }

pub undisplaced-pairs-are-isolated : DisplacesNoneIsFaint → FaintPairsAreIsolated → UndisplacedPairsAreIsolated
undisplaced-pairs-are-isolated faint law script files others end left leaves h d o oo r =
    law script files others end left leaves h (faint script d) o oo r
