use Rattle.line_texts.proofs.Names.{sym, ap, is_chance}
use Rattle.line_texts.proofs.slots.is_chance.Goals as goal

pub returns-in-Chance : goal.returns-in-Chance
returns-in-Chance c = sym (ap is_chance c.in-Chance.is)
