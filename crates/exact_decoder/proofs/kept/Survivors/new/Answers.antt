use Rattle.std.proofs.Common.{arith}
use Rattle.exact_decoder.proofs.Names.{◌≡◌, ℕ, List, Option, IfOk, map, lit<, replicate, set, None, Some, sym, subst, sum_in, Kept}
use Rattle.exact_decoder.proofs.Names.{AreSums}
use Rattle.exact_decoder.proofs.Started.{start_kept}
use Rattle.exact_decoder.proofs.Keeping.{start-sums, start-are}
use Rattle.exact_decoder.proofs.kept.Survivors.new.Goals as goal

pub with_sums-requires : goal.with_sums-requires
with_sums-requires g c = (
  lit< tt,
  (
    subst (λ n. AreSums g.row.STATES (set c.in_ok-sums.sums.items c.args.start n)) (sym c.from.ensures)
        (start-are _ _ _ c.requires.few c.requires.start c.in_ok-sums.ensures.0 c.in_ok-sums.ensures.1),
    (c.requires.labels, c.requires.depth),
  ),
)

pub returns : goal.returns
returns g c =
    let sums : map sum_in (set c.in_ok-sums.sums.items c.args.start c.from.result) ≡ set (replicate g.row.STATES None) c.args.start
    (Some 0) = grind (arith, set, start-sums) in
    subst (λ (l : List (Option ℕ)). IfOk c.with_sums.result (λ s. let k : Kept = start_kept g.row.STATES l in s ≡ k)) sums
    c.with_sums.ensures
