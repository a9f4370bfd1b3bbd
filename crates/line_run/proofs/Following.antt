-- What a decoder makes of recordings, whatever displaces their samples.
use Rattle.line_run.proofs.Cited.{◌≡◌, ℕ, ◌+◌, ◌*◌, ◌≤◌, Bool, List, length, ◌++◌, take, arith, sym, ap, subst, ◌∙◌, length-append}
use Rattle.line_run.proofs.Cited.{IsReleased, line_trellis, ScriptValue, LosesAt, LosesWithin, Records, IsPrefixOf, Role, Sample}
use Rattle.std.proofs.lemmas.List.{take_all}

-- Of a sender's first symbols, so many: the labels that are released were sent, all that was sent is released but for the last bits, at
-- most
-- so many, and the line isn't lost.
pub record Follows (lag : ℕ) (script : ScriptValue) (sender : Role) (count : ℕ) : Type 0 where
  pub sent : (bits : List Bool) (samples : List Sample) (labels : List ℕ) → length bits ≤ 4 * count
      → (r : Records script sender bits samples)
      → IsReleased line_trellis samples labels → IsPrefixOf labels r.modulated.labels
  pub few : (bits : List Bool) (samples : List Sample) (labels : List ℕ) → length bits ≤ 4 * count
      → (r : Records script sender bits samples)
      → IsReleased line_trellis samples labels → 4 * length r.modulated.labels ≤ 4 * length labels + lag
  pub goes_on : (bits : List Bool) (symbol : ℕ) → length bits ≤ 4 * count → LosesAt sender script bits symbol → ⊥

-- the samples as all the first of them
pub all-of : (samples : List Sample) (labels : List ℕ) → IsReleased line_trellis samples labels
    → IsReleased line_trellis (take (length samples) samples) labels
all-of samples labels released =
    subst (λ (xs : List Sample). IsReleased line_trellis xs labels) (sym (take_all (length samples) samples (omega arith))) released

pub none-within : (lag : ℕ) (sender : Role) (script : ScriptValue) (count : ℕ) (before bits : List Bool) (symbol : ℕ)
    → Follows lag script sender count → length (before ++ bits) ≤ 4 * count
    → LosesWithin sender script before bits symbol → ⊥
none-within lag sender script count before bits symbol h few l =
    let all = length-append {A = Bool} before bits in
    let some = length-append {A = Bool} before l.first in
    let two : length bits ≡ length l.first + length l.rest = ap length l.bits_are ∙ length-append {A = Bool} l.first l.rest in
    h.goes_on (before ++ l.first) symbol (omega (arith, few, all, some, two)) l.loses
