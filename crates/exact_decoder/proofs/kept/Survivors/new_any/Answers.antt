use Rattle.exact_decoder.proofs.Names.{◌≡◌, ℕ, List, Option, IfOk, lit<, subst, Kept}
use Rattle.exact_decoder.proofs.Started.{start_kept}
use Rattle.exact_decoder.proofs.Keeping.{any-sums, any-are}
use Rattle.exact_decoder.proofs.kept.Survivors.new_any.Goals as goal

pub with_sums-requires : goal.with_sums-requires
with_sums-requires g c = (
  lit< tt,
  (
    any-are g.row.STATES c.in_ok-sums.sums.items c.requires.some c.requires.few c.in_ok-sums.ensures.0 c.in_ok-sums.ensures.1,
    (c.requires.labels, c.requires.depth),
  ),
)

pub returns : goal.returns
returns g c =
    subst (λ (l : List (Option ℕ)). IfOk c.with_sums.result (λ s. let k : Kept = start_kept g.row.STATES l in s ≡ k))
    (any-sums g.row.STATES c.in_ok-sums.sums.items c.requires.few c.in_ok-sums.ensures.0 c.in_ok-sums.ensures.1) c.with_sums.ensures
