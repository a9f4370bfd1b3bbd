use Rattle.stations.proofs.OneEnd.Once.{hearing-breaks, peers-heard, others-wants}
use Rattle.stations.proofs.one_end.laws.peers_faults_are_heard.Goals as goal

pub returns : goal.returns
returns c = record { hearing = hearing-breaks; peers = peers-heard; wants = others-wants }
