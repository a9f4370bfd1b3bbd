use Rattle.detection.proofs.OneSignal.{one-signal}
use Rattle.detection.proofs.laws.one_signal.Goals as goal

pub returns : goal.returns
returns c = one-signal
