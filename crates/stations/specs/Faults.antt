-- Which fault it is that a folder fails.
use Rattle.outside_calls.specs.declared.folder.FolderFault.{FolderFault}
use Rattle.outside_calls.specs.declared.folder.FolderFault.TheVariants as folder

-- why there is no further turn where a call of the folder is not done: the first of these where it failed, the second where it had no
-- memory
abbrev pub fault_of : {T : Type 0} → T → T → FolderFault → T
fault_of failed no_memory folder.Failed = failed
fault_of failed no_memory folder.NoMemory = no_memory
