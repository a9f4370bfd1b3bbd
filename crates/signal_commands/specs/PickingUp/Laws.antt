-- Laws of what samples give.
use Rattle.std.specs.Prelude.{◌≡◌, List, ◌++◌}
use Rattle.scramblers.specs.declared.mode.Mode.{Mode}
use Rattle.symbol_map.specs.declared.sample.Sample.{Sample}
use Rattle.bit_stuffing.specs.Found.{Found}
use Rattle.shared_terms.specs.Prefix.{IsPrefixOf}
use Rattle.signal_commands.specs.PickingUp.Gives.{GivesPieces}

-- samples give pieces, and one list of them
abbrev pub SomePiecesAreGiven : Type 0
SomePiecesAreGiven = (mode : Mode) (samples : List Sample) → (pieces : List Found) × GivesPieces mode samples pieces

abbrev pub PiecesAreGivenOnce : Type 0
PiecesAreGivenOnce = (mode : Mode) (samples : List Sample) (pieces others : List Found)
    → GivesPieces mode samples pieces → GivesPieces mode samples others → pieces ≡ others

-- what samples give begins what they give with others behind them
abbrev pub LaterPiecesStandBehind : Type 0
LaterPiecesStandBehind = (mode : Mode) (samples more : List Sample) (pieces later : List Found)
    → GivesPieces mode samples pieces → GivesPieces mode (samples ++ more) later → IsPrefixOf pieces later
