use Rattle.command_base.proofs.Differing.{outputs-differ, none-of-inputs}
use Rattle.command_base.proofs.laws.apart_names_differ.Goals as goal

pub returns : goal.returns
returns c = record { outputs = outputs-differ; inputs = none-of-inputs }
