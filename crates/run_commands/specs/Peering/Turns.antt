-- How far a run has come, and why it stops in a turn.
use Rattle.std.specs.Prelude.{◌≡◌, ℕ, ◌*◌, List, length}
use Rattle.outside_calls.specs.Folder.{FolderState, KeepsName, OnlyReads, CountsStand}
use Rattle.outside_calls.specs.declared.folder.FolderFault.TheVariants as folder
use Rattle.shared_terms.specs.declared.role.Role.{Role}
use Rattle.shared_terms.specs.declared.limits.TheConstants.{FILE_LIMIT}
use Rattle.command_base.specs.declared.stop.Stop.{Stop}
use Rattle.command_base.specs.declared.stop.Stop.TheVariants.{Own, Read, Write}
use Rattle.command_base.specs.Inputs.{IsWithin, ReadTo}
use Rattle.stations.specs.declared.one_end.single.Single.{Single}
use Rattle.stations.specs.declared.one_end.step.SingleFault.{SingleFault}
use Rattle.stations.specs.declared.one_end.step.SingleFault.TheVariants as faults
use Rattle.stations.specs.OneEnd.Heard.{slot_octets}
use Rattle.stations.specs.OneEnd.Peer.{Past}
use Rattle.stations.specs.OneEnd.Single.{KnowsFile, SingleAfter, role_of}
use Rattle.run_commands.specs.Peering.Words.{Names}
use Rattle.run_commands.specs.Peering.Runs.{left_of, slots_before}
use Rattle.run_commands.specs.Peering.Ends.{HoldLeft, status_of}

-- Both inputs are within their limits, nothing was written, and no fault was counted.
pub record IsBegun (old now : FolderState) (n : Names) : Type 0 where
  pub bits_within : IsWithin old n.bits FILE_LIMIT
  pub file_within : IsWithin old n.file FILE_LIMIT
  pub reads : OnlyReads old now
  pub stand : CountsStand old now

-- Turns were made against the slots of all that was read of the bits, and the outputs hold what they left.
pub record Reached (start now : FolderState) (n : Names) (s : Single) : Type 0 where
  pub past : Past
  pub after : SingleAfter s past
  pub role_is : role_of s ≡ n.role
  pub octets : List ℕ
  pub read : ReadTo start now n.bits FILE_LIMIT (slot_octets * length past.turns) octets
  pub slots_are : past.slots ≡ slots_before octets (length past.turns)
  pub file_within : IsWithin start n.file FILE_LIMIT
  pub file_kept : KeepsName start now n.file
  pub knows : KnowsFile now n.file past.file
  pub holds : HoldLeft now n (left_of n.role past)
  pub stand : CountsStand start now

-- why a run stops where there is this fault in its turn of that number
abbrev pub fault_stop : Role → ℕ → SingleFault → Stop
fault_stop role turn faults.ReadFault = Read folder.Failed
fault_stop role turn faults.WriteFault = Write folder.Failed
fault_stop role turn (faults.Link fault) = Own (status_of role fault turn)
fault_stop role turn faults.NoMemory = Write folder.NoMemory
