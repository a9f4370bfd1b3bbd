use Rattle.exact_decoder.proofs.Names.{arith, sym, subst, from_newest, AreColumns}
use Rattle.exact_decoder.proofs.Walking.{column-here, column-fits}
use Rattle.exact_decoder.proofs.Rings.{newest-at, columns-long}
use Rattle.exact_decoder.proofs.columns.Columns.column.Goals as goal

pub returns-clause-next : goal.returns-clause-next
returns-clause-next g c =
    let items = c.self.inside.items.items in
    let newest = c.self.inside.newest in
    let count = c.self.inside.count in
    let long = columns-long items _ _ _ c.self.invariant.1 c.self.view_is in
    let here = newest-at items _ _ _ c.index.result.now c.self.invariant.1 (omega (arith, long, c.requires.within)) c.index.ensures in
    grind (arith, column-here)

pub returns-clause-column : goal.returns-clause-column
returns-clause-column g c =
    let items = c.self.inside.items.items in
    let newest = c.self.inside.newest in
    let count = c.self.inside.count in
    let long = columns-long items _ _ _ c.self.invariant.1 c.self.view_is in
    let here = newest-at items _ _ _ c.index.result.now c.self.invariant.1 (omega (arith, long, c.requires.within)) c.index.ensures in
    column-fits _ _ (from_newest newest count items) _ c.index.result.now here
    (subst (AreColumns g.row.STATES g.row.LABELS) (sym c.self.view_is) c.requires.columns)
