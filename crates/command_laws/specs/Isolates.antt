-- What a pair and a run of one of its links alone leave alike.
use Rattle.std.specs.Prelude.{◌≡◌, ℕ, IsTrue, List, [], ◌∷◌}
use Rattle.outside_calls.specs.Folder.{FolderState, held_at, octets_at}
use Rattle.noise_script.specs.Script.{ScriptValue}
use Rattle.noise_script.specs.Grammar.{ScriptSpelling}
use Rattle.line_ends.specs.Completes.{IsFaint, DisplacesNone}
use Rattle.command_base.specs.declared.status.Status.{Status}
use Rattle.command_base.specs.Job.{Answers}
use Rattle.run_inputs.specs.Answers.{EndsRun}
use Rattle.run_inputs.specs.Words as alone
use Rattle.run_commands.specs.Running.Ends.{run_job}
use Rattle.link_pair.specs.Pairs.Ends.{Which}
use Rattle.link_pair.specs.Words.{Names, inputs_of, run_of}
use Rattle.link_pair.specs.Headline.{AreTold}
use Rattle.link_pair.specs.Answers.{EndsPair}
use Rattle.link_pair.specs.Ends.{pair_job}

-- two folders hold the same of each
abbrev pub HoldSame : FolderState → FolderState → List (List ℕ) → Type 0
HoldSame f g [] = Unit {0}
HoldSame f g (name ∷ names) = (octets_at f name ≡ octets_at g name) × HoldSame f g names

-- what is told of each of these names in both is the same
abbrev pub AreLeftAlike : FolderState → FolderState → List (List ℕ) → Type 0
AreLeftAlike f g [] = Unit {0}
AreLeftAlike f g (name ∷ names) =
    (IsTrue (f.tells name) → IsTrue (g.tells name) → held_at f name ≡ held_at g name) × AreLeftAlike f g names

-- A pair, and a run of one of its links alone with the same inputs, each of which ends by itself: `old` and `was` are the folders before,
-- `new` and `then` those behind them.
pub record RunsBoth (words others : List (List ℕ)) (old new was then : FolderState) (n : Names) (link : Which) (s r : Status) : Type 0 where
  pub pair : Answers (pair_job n) words old new s
  pub run : Answers (run_job (run_of link n)) others was then r
  pub pair_ends : EndsPair s
  pub run_ends : EndsRun r
  pub told : AreTold old (inputs_of n)
  pub told_alone : AreTold was (alone.inputs_of (run_of link n))
  pub same : HoldSame old was (alone.inputs_of (run_of link n))

-- Where the noise of the script is faint, the link's received files and its trace are left as its run alone leaves them, whatever the files
-- of the other link hold;
abbrev pub FaintLinksAreAlone : Type 0
FaintLinksAreAlone = (words others : List (List ℕ)) (old new was then : FolderState) (n : Names) (link : Which) (s r : Status)
    → RunsBoth words others old new was then n link s r
    → ((script : ScriptValue) → ScriptSpelling (octets_at old n.script) script → IsFaint script)
    → AreLeftAlike new then (alone.texts_of (run_of link n))

-- and so they are where no line of it displaces a symbol.
abbrev pub UndisplacedLinksAreAlone : Type 0
UndisplacedLinksAreAlone = (words others : List (List ℕ)) (old new was then : FolderState) (n : Names) (link : Which) (s r : Status)
    → RunsBoth words others old new was then n link s r
    → ((script : ScriptValue) → ScriptSpelling (octets_at old n.script) script → DisplacesNone script)
    → AreLeftAlike new then (alone.texts_of (run_of link n))
