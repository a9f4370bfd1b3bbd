use Rattle.noise_script.proofs.Noisy.{noisy-lines-spell}
use Rattle.noise_script.proofs.laws.noisy_lines_spell.Goals as goal

pub returns : goal.returns
returns c = noisy-lines-spell
