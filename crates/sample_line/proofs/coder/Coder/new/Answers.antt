use Rattle.sample_line.proofs.Names.{[], subst, ModulatorStands, Mode}
use Rattle.sample_line.proofs.coder.Coder.new.Goals as goal

pub returns-clause-stands : goal.returns-clause-stands
returns-clause-stands c = record {
  writer = c.new.ensures.stands;
  points = [];
  modulator = subst (λ (mode : Mode). ModulatorStands mode c.new-2.result [] []) c.mode_of.ensures c.new-2.ensures;
}
