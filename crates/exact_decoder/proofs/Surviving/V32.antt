-- The laws of the eight-state code, whichever of its states its sequences start in.
use Rattle.exact_decoder.proofs.Names.{◌≡◌, ℕ, ◌<◌, Bool, true, refl, subst, sym, arith, eqb-true, ltb-true, HasLaws}
use Rattle.trellis_tables.specs.V32Laws.{v32_bounded, v32_within, v32_enters_once, v32_reaches}
use Rattle.exact_decoder.specs.Surviving.V32.{v32_code, line_trellis, any_trellis}

pub v32-has-laws : (starts : ℕ → Bool) (start : ℕ) → starts start ≡ true → ((state : ℕ) → starts state ≡ true → state < 8)
    → HasLaws (v32_code starts) 8 32 2
v32-has-laws starts start there within = record {
  bounded = v32_bounded;
  within = v32_within;
  enters_once = v32_enters_once;
  some_steps = omega arith;
  reaches = v32_reaches;
  start = start;
  starts_there = there;
  starts_within = within;
}

pub line-has-laws : HasLaws line_trellis 8 32 2
line-has-laws = v32-has-laws _ 0 refl (λ state e. subst (λ s. s < 8) (sym (eqb-true state 0 e)) (omega arith))

pub any-has-laws : HasLaws any_trellis 8 32 2
any-has-laws = v32-has-laws _ 0 refl (λ state e. ltb-true state 8 e)
