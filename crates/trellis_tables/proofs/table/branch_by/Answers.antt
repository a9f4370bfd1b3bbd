use Rattle.trellis_tables.proofs.Names.{◌<◌, ◌≤◌, ap, sym, subst, arith}
use Rattle.trellis_tables.proofs.Tables.{branch-there, next_by_y-lt}
use Rattle.trellis_tables.proofs.table.branch_by.Goals as goal

pub returns : goal.returns
returns c =
    let there = branch-there c.args.state c.args.y c.requires.state c.requires.y in
    record {
      to = ap (λ b. b.0) there;
      first = ap (λ b. b.1) there;
      bound = subst (λ b. b.0 < 8) (sym there) (next_by_y-lt c.args.state c.args.y c.requires.state c.requires.y);
      small = subst (λ b. b.1 ≤ 28) (sym there) (omega (arith, c.requires.y));
    }
