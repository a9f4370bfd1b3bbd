use Rattle.trellis_tables.proofs.v32.V32CodeTrellisCode832.point.Goals as goal

pub returns : goal.returns
returns c = c.point.ensures
