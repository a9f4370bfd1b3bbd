-- From the turns of a soak to how it ends.
use Rattle.run_commands.proofs.Names.{◌≡◌, ◌∙◌, ℕ, List, ◌∷◌, length, take, None, Ok, Err, refl, ap, subst, arith, take_all, RunEnd}
use Rattle.run_commands.proofs.Names.{Written, link_of, RunFault, FaultCounts, RunEnds, FaultEnds, KnowsFiles, ScriptValue, IsInLimits}
use Rattle.run_commands.proofs.Names.{inputs-kept, octets-kept, octets_at, KeepsName, KeepsEach, OnlyOutputs, OnlyPuts, SureState}
use Rattle.run_commands.proofs.Names.{sure_folder, Ends, SoakEnds, soak_wire, soak_files, HoldsFiles, soak_names, soak_file, Both}
use Rattle.run_commands.proofs.Names.{Originator, Answerer}
use Rattle.link_run.specs.Counts.{lost_slots, sent_again}
use Rattle.line_run.specs.Ends.{RunsTo}
use Rattle.line_run.specs.Ends as runs
use Rattle.line_world.specs.Limits.{file_limit}
use Rattle.line_run.specs.Names.{inputs_of, outputs_of}
use Rattle.line_run.specs.declared.fault.RunFault.TheVariants as faults
use Rattle.line_world.specs.Turns.{RunCounts}
use Rattle.run_commands.specs.Soaking.Soak.{soak_script}
use Rattle.run_commands.specs.Soaking.Ends.{soak_stop}
use Rattle.run_commands.specs.Soaking.Folder.{soak_outputs}
use Rattle.run_commands.proofs.Soaking.Filling.{IsTurnEnd, apart, turn-end}

-- A soak's turns were made in its folder: it held the files, the outputs were made, and turns touched these alone.
pub record Made (seed : ℕ) (a b d : SureState) : Type 0 where
  pub limits : IsInLimits (soak_script seed)
  pub holds : HoldsFiles (sure_folder a) seed
  pub creates : OnlyOutputs (sure_folder a) (sure_folder b) soak_outputs
  pub turns : OnlyPuts (sure_folder b) (sure_folder d) soak_outputs

-- a file as it was before all turns
file-is : (seed : ℕ) (a b d : SureState) (name file content : List ℕ) → KeepsName (sure_folder a) (sure_folder b) name
    → KeepsName (sure_folder b) (sure_folder d) name → octets_at (sure_folder a) name ≡ content → length content ≡ 65536
    → file ≡ take file_limit (octets_at (sure_folder d) name) → file ≡ content
file-is seed a b d name file content first next is size known =
    let same : octets_at (sure_folder d) name ≡ content =
    octets-kept (sure_folder b) (sure_folder d) name next refl ∙ octets-kept (sure_folder a) (sure_folder b) name first refl ∙ is in
    known ∙ ap (take file_limit) same ∙ take_all file_limit content (omega (arith, size))

-- what the turns knew are the seed's files
files-are : (seed : ℕ) (a b d : SureState) (files : Both (List ℕ)) → Made seed a b d → KnowsFiles (sure_folder d) soak_names files
    → files ≡ soak_files seed
files-are seed a b d files m k =
    let first : KeepsEach (sure_folder a) (sure_folder b) (inputs_of soak_names) =
    inputs-kept (sure_folder a) (sure_folder b) (inputs_of soak_names) soak_outputs apart.1 m.creates.names in
    let next : KeepsEach (sure_folder b) (sure_folder d) (inputs_of soak_names) =
    inputs-kept (sure_folder b) (sure_folder d) (inputs_of soak_names) soak_outputs apart.1 m.turns.names in
    let orig : files.orig ≡ soak_file seed Originator
    = file-is seed a b d soak_names.orig files.orig (soak_file seed Originator) first.0 next.0 m.holds.orig m.holds.orig_size (k.orig refl)
    in
    let answ : files.answ ≡ soak_file seed Answerer
    = file-is seed a b d soak_names.answ files.answ (soak_file seed Answerer) first.1.0 next.1.0 m.holds.answ m.holds.answ_size
    (k.answ refl) in
    both files orig answ
  where
    both : (files : Both (List ℕ)) → files.orig ≡ soak_file seed Originator → files.answ ≡ soak_file seed Answerer → files ≡ soak_files seed
    both files o a = grind (arith)

ends-so : (seed : ℕ) (a b d : SureState) (end : RunEnd) → Made seed a b d → RunEnds (soak_script seed) (sure_folder d) soak_names None end
    → SoakEnds seed end
ends-so seed a b d end m r = record {
  limits = m.limits;
  left = r.left;
  run = subst (λ (files : Both (List ℕ)). RunsTo (soak_wire seed) (link_of (soak_script seed) files) end r.left)
      (files-are seed a b d r.files m r.knows) r.run;
}

-- the run is done
soaked : (seed : ℕ) (a b d : SureState) (turn lost again : ℕ) → Made seed a b d
    → RunCounts (soak_script seed) (sure_folder d) soak_names None turn lost again
    → Ends seed (Ok (record { turn = turn; lost = lost; again = again }))
soaked seed a b d turn lost again m c =
    let r = c.ran in
    let counted = subst
    (λ (files : Both (List ℕ)). (run : RunsTo (soak_wire seed) (link_of (soak_script seed) files) (runs.IsDone turn) r.left)
    × (lost ≡ lost_slots (run.ended.last ∷ run.turns)) × (again ≡ sent_again (run.ended.last ∷ run.turns)))
    (files-are seed a b d r.files m r.knows) (r.run, c.lost_is, c.again_is) in
    record { ends = record { limits = m.limits; left = r.left; run = counted.0 }; lost_is = counted.1; again_is = counted.2 }

-- or it ends otherwise
ended : (seed : ℕ) (a b d : SureState) (fault : RunFault) → Made seed a b d → IsTurnEnd fault
    → FaultEnds (soak_script seed) (sure_folder d) soak_names None fault → Ends seed (Err (soak_stop fault))
ended seed a b d faults.ReadFault m t e = absurd t
ended seed a b d faults.WriteFault m t e = absurd t
ended seed a b d faults.NoMemory m t e = tt
ended seed a b d fault m t e = ends-so seed a b d _ m e

-- ---- over the script of the world, and the names as they are written

-- The same, by what is known of them.
pub record MadeOver (seed : ℕ) (a b d : SureState) (script : ScriptValue) (n : Written) : Type 0 where
  pub script_is : script ≡ soak_script seed
  pub names_are : n ≡ soak_names
  pub limits : IsInLimits script
  pub holds : HoldsFiles (sure_folder a) seed
  pub creates : OnlyOutputs (sure_folder a) (sure_folder b) soak_outputs
  pub turns : OnlyPuts (sure_folder b) (sure_folder d) (outputs_of n)

made : (seed : ℕ) (a b d : SureState) (script : ScriptValue) (n : Written) → MadeOver seed a b d script n → Made seed a b d
made seed a b d script n m = grind (arith)

pub soaked-over : (seed : ℕ) (a b d : SureState) (script : ScriptValue) (n : Written) (turn lost again : ℕ) → MadeOver seed a b d script n
    → RunCounts script (sure_folder d) n None turn lost again
    → Ends seed (Ok (record { turn = turn; lost = lost; again = again }))
soaked-over seed a b d script n turn lost again m c =
    soaked seed a b d turn lost again (made seed a b d script n m)
    (subst (λ (s : ScriptValue). RunCounts s (sure_folder d) soak_names None turn lost again) m.script_is
    (subst (λ (w : Written). RunCounts script (sure_folder d) w None turn lost again) m.names_are c))

pub ended-over : (seed : ℕ) (a b d : SureState) (script : ScriptValue) (n : Written) (fault : RunFault) → MadeOver seed a b d script n
    → FaultCounts (sure_folder b) (sure_folder d) n fault → FaultEnds script (sure_folder d) n None fault
    → Ends seed (Err (soak_stop fault))
ended-over seed a b d script n fault m counts e =
    ended seed a b d fault (made seed a b d script n m)
    (turn-end b d fault (subst (λ (w : Written). FaultCounts (sure_folder b) (sure_folder d) w fault) m.names_are counts))
    (subst (λ (s : ScriptValue). FaultEnds s (sure_folder d) soak_names None fault) m.script_is
    (subst (λ (w : Written). FaultEnds script (sure_folder d) w None fault) m.names_are e))
