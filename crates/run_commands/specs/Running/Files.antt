-- Of which script and files a run is.
use Rattle.std.specs.Prelude.{◌≡◌, ℕ, IsTrue, List}
use Rattle.frame_check.specs.Octets.{AreOctets}
use Rattle.outside_calls.specs.Folder.{FolderState, octets_at}
use Rattle.shared_terms.specs.Both.{Both}
use Rattle.noise_script.specs.Script.{ScriptValue}
use Rattle.noise_script.specs.Grammar.{ScriptSpelling}
use Rattle.run_inputs.specs.Words.{RunNames}

-- The script and the files of a run are those of the folder, which are octets.
pub record AreOf (f : FolderState) (n : RunNames) (script : ScriptValue) (files : Both (List ℕ)) : Type 0 where
  pub script_is : IsTrue (f.tells n.script) → ScriptSpelling (octets_at f n.script) script
  pub orig_is : IsTrue (f.tells n.names.orig) → files.orig ≡ octets_at f n.names.orig
  pub answ_is : IsTrue (f.tells n.names.answ) → files.answ ≡ octets_at f n.names.answ
  pub orig_octets : IsTrue (f.tells n.names.orig) → AreOctets (octets_at f n.names.orig)
  pub answ_octets : IsTrue (f.tells n.names.answ) → AreOctets (octets_at f n.names.answ)
