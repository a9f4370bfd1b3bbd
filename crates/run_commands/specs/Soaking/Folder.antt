-- The folder of a soak: both files of a seed, and three outputs.
use Rattle.std.specs.Prelude.{◌≡◌, ℕ, List, [], ◌∷◌, length, codes}
use Rattle.outside_calls.specs.Folder.{FolderState, octets_at}
use Rattle.shared_terms.specs.declared.role.Role.TheVariants.{Originator, Answerer}
use Rattle.line_run.specs.Names.{Written}
use Rattle.run_commands.specs.Soaking.Soak.{soak_file}

-- the names that its turns use
abbrev pub soak_names : Written
soak_names = record { orig = codes "orig"; answ = codes "answ"; got_o = codes "got_o"; got_a = codes "got_a"; trace = codes "trace" }

-- those of its outputs
abbrev pub soak_outputs : List (List ℕ)
soak_outputs = codes "got_o" ∷ codes "got_a" ∷ codes "trace" ∷ []

-- It holds both files of a seed, of 65,536 octets each.
pub record HoldsFiles (f : FolderState) (seed : ℕ) : Type 0 where
  pub orig : octets_at f soak_names.orig ≡ soak_file seed Originator
  pub answ : octets_at f soak_names.answ ≡ soak_file seed Answerer
  pub orig_size : length (soak_file seed Originator) ≡ 65536
  pub answ_size : length (soak_file seed Answerer) ≡ 65536
