use Rattle.line_world.proofs.Cited.{sym, ◌∙◌}
use Rattle.line_world.proofs.Coded.{nothing-newest}
use Rattle.line_world.proofs.end_coder.EndCoder.new.Goals as goal

pub returns : goal.returns
returns c = λ channel size. record {
  stands = c.new.ensures.stands;
  sends = c.new.ensures.sender;
  symbols = c.new.ensures.symbols ∙ sym size;
  newest = λ front x e. absurd (nothing-newest front x e);
}
