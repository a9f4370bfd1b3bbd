use Rattle.lapm_frames.proofs.Names.{refl, []}
use Rattle.lapm_frames.proofs.Faults.{nothing-short}
use Rattle.lapm_frames.proofs.RowLemmas.{wrong-address, lone-address, wrong-control, no-number, too-many}
use Rattle.lapm_frames.proofs.laws.faults_by_octets.Goals as goal

pub returns-clause-nothing : goal.returns-clause-nothing
returns-clause-nothing c = λ sender dlci. nothing-short sender dlci [] refl

pub returns-clause-address : goal.returns-clause-address
returns-clause-address c = wrong-address

pub returns-clause-address_alone : goal.returns-clause-address_alone
returns-clause-address_alone c = lone-address

pub returns-clause-control : goal.returns-clause-control
returns-clause-control c = wrong-control

pub returns-clause-no_number : goal.returns-clause-no_number
returns-clause-no_number c = no-number

pub returns-clause-too_many : goal.returns-clause-too_many
returns-clause-too_many c = too-many
