-- One step of playing a recording.
use Rattle.signal_commands.proofs.Names.{arith, ◌≡◌, ◌≢◌, true, List, sym, ℕ, none-of-inputs, are_apart, IsNotOpened, Stop, FolderState}
use Rattle.signal_commands.proofs.Names.{OnlyReads, OnlyWrites, OnlyOutput, DecodeNames}
use Rattle.signal_commands.specs.Decoding.Words.{inputs_of, outputs_of}
use Rattle.signal_commands.specs.Decoding.Ends.{EndsBy}

pub apart-names : (n : DecodeNames) → are_apart (inputs_of n) (outputs_of n) ≡ true → n.rec ≢ n.file
apart-names n e same = (none-of-inputs (inputs_of n) (outputs_of n) e).0.0 (sym same)

-- a read and a write behind what only the output was touched by
pub only-read : (start a b : FolderState) (name : List ℕ) → OnlyOutput start a name → OnlyReads a b → OnlyOutput start b name
only-read start a b name o r = grind (arith)

pub only-write : (start a b : FolderState) (name : List ℕ) → OnlyOutput start a name → OnlyWrites a b name → OnlyOutput start b name
only-write start a b name o w = grind (arith)

pub only-then : (a b d : FolderState) (name : List ℕ) → OnlyOutput a b name → OnlyOutput b d name → OnlyOutput a d name
only-then a b d name o p = grind (arith)

pub only-of-reads : (start now : FolderState) (name : List ℕ) → OnlyReads start now → OnlyOutput start now name
only-of-reads start now name r = record { goes_on = r.goes_on; names = λ other apart. r.names other; said = r.said }

-- the recording is refused, or was not read
pub not-opened : (old new : FolderState) (n : DecodeNames) (stop : Stop) → OnlyReads old new → IsNotOpened old new n.rec n.rate 1 stop
    → EndsBy old new n stop
not-opened old new n other reads fails = grind (arith)
