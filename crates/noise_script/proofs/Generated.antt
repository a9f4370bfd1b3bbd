-- A generator that makes one step more.
use Rattle.std.proofs.Common.{arith, ◌≡◌, ◌∙◌, ℕ, zero, suc, ◌+◌, refl, sym, ap, add-one}
use Rattle.rand_pcg.specs.Lcg.{Lcg, next_state, state_after, increment_of}
use Rattle.rand_pcg.specs.Pcg.{pcg32}
use Rattle.noise_script.specs.Offsets.{generator_at}

last-step : (w m increment n state : ℕ)
    → next_state w m increment (state_after w m increment n state) ≡ state_after w m increment (n + 1) state
unfolding state_after
last-step w m increment zero state = refl
last-step w m increment (suc n) state = last-step w m increment n (next_state w m increment state)
    ∙ ap (λ (k : ℕ). state_after w m increment k (next_state w m increment state)) (add-one n)
    ∙ ap (λ (k : ℕ). state_after w m increment k state) (sym (add-one (suc n)))

-- the step that gives a word
pub one-on : (seed stream place state word after : ℕ) (from words : Lcg) → state ≡ (generator_at seed stream place).state
    → from ≡ record { state = state; increment = increment_of 64 stream } → (word, words) ≡ pcg32 from → after ≡ words.state
    → after ≡ (generator_at seed stream (place + 1)).state
one-on seed stream place state word after from words before from_is step is = grind (arith, last-step)
