use Rattle.noise_script.proofs.Ranges.{spelled-in-limits, breaks-octets}
use Rattle.noise_script.proofs.laws.spelled_scripts_are_in_limits.Goals as goal

pub returns : goal.returns
returns c = record { limits = spelled-in-limits; breaks = breaks-octets }
