use Rattle.command_laws.proofs.Names.{◌≡◌, ◌≢◌, ℕ, zero, suc, ◌+◌, ◌≤◌, List, [], arith, refl, all_turns, runs, Turn, Answerer}
use Rattle.std.proofs.Common.{max, lit≤, lit<}
use Rattle.link_run.specs.Starved.{SpanLoses}
use Rattle.command_laws.specs.Worked.RunSettings.{way, loses, hundred_each}
use Rattle.command_laws.specs.Worked.RunTraces.{OneLossStarvesNone}
use Rattle.command_laws.proofs.worked.runs.starved_runs.Goals as goal

abbrev lost_turns : List Turn
lost_turns = all_turns (runs 200 hundred_each (way 1 (loses 100000 40) []))

spans : (span : ℕ) → span ≤ 5 → SpanLoses 20 (max 1 1) lost_turns span
spans zero few = record { turn = 142; within = lit< tt; in_span = record { behind = lit< tt; before = lit≤ tt }; lost = (Answerer, tt) }
spans (suc zero) few = record {
  turn = 122;
  within = lit< tt;
  in_span = record { behind = lit< tt; before = lit≤ tt };
  lost = (Answerer, tt);
}
spans (suc (suc zero)) few =
    record { turn = 102; within = lit< tt; in_span = record { behind = lit< tt; before = lit≤ tt }; lost = (Answerer, tt) }
spans (suc (suc (suc zero))) few =
    record { turn = 82; within = lit< tt; in_span = record { behind = lit< tt; before = lit≤ tt }; lost = (Answerer, tt) }
spans (suc (suc (suc (suc zero)))) few =
    record { turn = 62; within = lit< tt; in_span = record { behind = lit< tt; before = lit≤ tt }; lost = (Answerer, tt) }
spans (suc (suc (suc (suc (suc zero))))) few =
    record { turn = 42; within = lit< tt; in_span = record { behind = lit< tt; before = lit≤ tt }; lost = (Answerer, tt) }
spans (suc (suc (suc (suc (suc (suc n)))))) few = absurd (omega (arith, few))

-- no turn lies in the third span, nor in the fourth
none_so_early : (turn : ℕ) → turn + 40 ≤ 30 → ⊥
none_so_early turn before = omega (arith, before)

none_earlier : (turn : ℕ) → turn + 60 ≤ 30 → ⊥
none_earlier turn before = omega (arith, before)

starves-none : OneLossStarvesNone
starves-none s = by s.spared refl
  where
    third : 2 ≢ s.spared → ⊥
    third other = let l = s.each 2 (lit≤ tt) other in none_so_early l.turn l.in_span.before

    fourth : 3 ≢ s.spared → ⊥
    fourth other = let l = s.each 3 (lit≤ tt) other in none_earlier l.turn l.in_span.before

    by : (spared : ℕ) → s.spared ≡ spared → ⊥
    by zero e = third (λ q. omega (arith, e, q))
    by (suc zero) e = third (λ q. omega (arith, e, q))
    by (suc (suc zero)) e = fourth (λ q. omega (arith, e, q))
    by (suc (suc (suc n))) e = third (λ q. omega (arith, e, q))

pub returns : goal.returns
returns c = record { yes = record { spared = 6; each = λ span few other. spans span few }; no = starves-none }
