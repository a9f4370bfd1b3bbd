-- Outputs that are created, and recordings that get their headers.
use Rattle.run_commands.proofs.Names.{arith, ◌≡◌, ℕ, List, [], ◌∷◌, append-nil, tapes_of, Wire, Holds-kept, FolderState, Appended, GoesOn}
use Rattle.run_commands.proofs.Names.{CountsStand, Holds, Creates, KeepsEach, AreApart, OnlyOutputs, FolderFault, header_of, RunNames}
use Rattle.run_commands.proofs.Names.{texts_of, mode_of, Role}
use Rattle.outside_calls.specs.Folder.{OnlyWrites}
use Rattle.outside_calls.specs.declared.folder.FolderFault.TheVariants as folder
use Rattle.outside_calls.proofs.Holding.{Holds-more}
use Rattle.command_base.specs.Stops.{WriteFails}
use Rattle.command_base.proofs.Jobs.{write-earlier}
use Rattle.run_inputs.specs.Words.{outputs_of}
use Rattle.line_world.specs.Taping.{TapeStands, KeepsTape}
use Rattle.line_world.specs.declared.tape.Tape.{Tape}
use Rattle.command_base.proofs.Creating.{OnlyOutputs-none as touches-first}

-- a header behind nothing
pub heads : (a b : FolderState) (name header : List ℕ) → GoesOn a b → Holds a name [] → Appended a b name header → Holds b name header
heads a b name header on none put = Holds-more a b name [] header on none put

-- it is the recording of no turns
pub begins : (tape : Tape) (a b : FolderState) (c : Wire) (role : Role) (name : List ℕ) → TapeStands tape c role [] []
    → tape.name.now ≡ name
    → GoesOn a b → Holds a name [] → Appended a b name (header_of (mode_of role)) → KeepsTape tape b c role []
begins tape a b c role name stands is on none put = grind (arith, append-nil)

-- outputs that were created and then kept
pub creates-kept : (a b : FolderState) (names : List (List ℕ)) → GoesOn a b → KeepsEach a b names → Creates a names → Creates b names
creates-kept a b [] on kept c = tt
creates-kept a b (name ∷ names) on kept c = (Holds-kept a b name [] on c.0 kept.0, creates-kept a b names on kept.1 c.1)

-- those that every run has, among all that were created
pub creates-front : (f : FolderState) (n : RunNames) → Creates f (outputs_of n) → Creates f (texts_of n)
creates-front f n c = (c.0, (c.1.0, (c.1.1.0, tt)))

-- ---- the recordings among all outputs

pub tapes-apart : (n : RunNames) → AreApart (outputs_of n) → AreApart (tapes_of n.tapes)
tapes-apart n apart = apart.1.1.1

pub creates-tapes : (f : FolderState) (n : RunNames) → Creates f (outputs_of n) → Creates f (tapes_of n.tapes)
creates-tapes f n c = c.1.1.1

-- they are touched behind all
pub touches-tapes : (old mid new : FolderState) (n : RunNames) → OnlyOutputs old mid (outputs_of n) → OnlyOutputs mid new (tapes_of n.tapes)
    → OnlyOutputs old new (outputs_of n)
touches-tapes old mid new n first next = grind (arith)

-- a fault of one of them is one of the outputs'
pub tapes-fail : (old mid new : FolderState) (n : RunNames) (fault : FolderFault) → CountsStand old mid
    → WriteFails mid new (tapes_of n.tapes) fault → WriteFails old new (outputs_of n) fault
tapes-fail old mid new n fault stand rose = grind (arith, write-earlier)

-- ---- two outputs, one behind the other

pub touches-both : (a b c : FolderState) (name other : List ℕ) → OnlyWrites a b name → OnlyWrites b c other
    → OnlyOutputs a c (name ∷ other ∷ [])
touches-both a b c name other first next = grind (arith, touches-first)
