-- What a turn answers, what it adds to each output, and what is left where the folder doesn't take that.
use Rattle.std.specs.Prelude.{◌≡◌, ◌⊎◌, ℕ, ◌+◌, Bool, true, false, ◌∷◌, [], ◌++◌, List, length, Result, Ok, Err}
use Rattle.std.specs.Option.{MatchOption}
use Rattle.outside_calls.specs.Folder.{FolderState, Appended, PartlyAppended, Rose, FaultsStand, CountsStand}
use Rattle.outside_calls.specs.Outputs.{KeepsEach}
use Rattle.outside_calls.specs.Outputs.{AddEach, AddPart, SomeRose}
use Rattle.shared_terms.specs.declared.role.Role.{Role}
use Rattle.shared_terms.specs.Both.{Both, of}
use Rattle.link_account.specs.Account.{check_of}
use Rattle.line_texts.specs.LineText.{chance_line}
use Rattle.link_run.specs.Run.{Accounts, Turn, GoingTurn}
use Rattle.link_run.specs.Outcomes.{Outcome, Done, TurnIs}
use Rattle.link_run.specs.Trace.{turn_text}
use Rattle.link_run.specs.Counts.{lost_slots, sent_again}
use Rattle.line_run.specs.Sampled.{Wire, HeardIn, LineRun, LineIsLost, IsChanceMatch}
use Rattle.line_run.specs.Ends.{ByEnd}
use Rattle.line_run.specs.Scripted.{link_of}
use Rattle.line_run.specs.Names.{Written, inputs_of, outputs_of, received_of}
use Rattle.line_world.specs.Link.{octets_of}
use Rattle.line_run.specs.Stream.{Carried, and_sent}
use Rattle.line_run.specs.Faults.{fault_end}
use Rattle.line_world.specs.Lines.{LinesWait, HaveArrived}
use Rattle.line_world.specs.declared.lines.Lines.{Lines}
use Rattle.line_world.specs.declared.modems.Modems.{Modems}
use Rattle.line_world.specs.declared.step.Step.{Step}
use Rattle.line_world.specs.declared.step.Step.TheVariants as steps
use Rattle.line_run.specs.declared.fault.RunFault.{RunFault}
use Rattle.line_run.specs.declared.fault.RunFault.TheVariants as run_faults
use Rattle.line_world.specs.Modems.{ModemsAfter}
use Rattle.line_world.specs.World.{StayKnown}

-- what a turn adds to the outputs: to each received file what its end took, and to the trace both lines
abbrev pub added : Accounts → List ℕ → List (List ℕ)
added mid text = octets_of mid ++ text ∷ []

-- The turn after these, over a channel and files: what both ends hear in it, are once they have heard, and what it comes to.
pub record MakesTurn (c : Wire) (files : Both (List ℕ)) (ts : List Turn) (ends : Accounts) (turn : Turn) (mid : Accounts)
    (outcome : Outcome) : Type 0 where
  pub run : LineRun c (link_of c.script files) ts ends
  pub heard : HeardIn c ts turn
  pub is : TurnIs (link_of c.script files) ts ends turn mid outcome

-- The run goes on by one turn.
pub record GoesOnBy (m : Modems) (l : Lines) (c : Wire) (links : ℕ) (streams : Both (List Carried)) (old new : FolderState) (n : Written) (files : Both (List ℕ)) (ts : List Turn) (ends : Accounts) : Type 0 where
  pub others : Both (List ℕ)
  pub known : StayKnown old new n files others
  pub turn : Turn
  pub after : Accounts
  pub run : LineRun c (link_of c.script others) ts ends
  pub going : GoingTurn (link_of c.script others) ts ends turn after
  pub heard : HeardIn c ts turn
  pub modems : ModemsAfter m c others (turn ∷ ts) after
  pub lines : LinesWait l c links (and_sent streams c.dlci turn)
  pub writes : AddEach old new (outputs_of n) (added going.mid (turn_text (length ts) turn))

-- Nothing is sent in this turn: the line has passed the slots that arrived in it, and those of them that were lost are counted.
pub record SendsNone (m : Modems) (l : Lines) (c : Wire) (links : ℕ) (streams : Both (List Carried)) (ts : List Turn) (turn : Turn) : Type 0 where
  pub lines : HaveArrived l c links streams
  pub lost : m.tally.lost ≡ lost_slots (turn ∷ ts)
  pub again : m.tally.again ≡ sent_again ts

-- Nothing is heard in it either, and no more is counted than in the turns before.
pub record HearsNone (m : Modems) (ts : List Turn) : Type 0 where
  pub lost : m.tally.lost ≡ lost_slots ts
  pub again : m.tally.again ≡ sent_again ts

-- The run ends in this turn, with that outcome.
pub record EndsInTurn (m : Modems) (l : Lines) (c : Wire) (links : ℕ) (streams : Both (List Carried)) (old new : FolderState) (n : Written) (files : Both (List ℕ)) (ts : List Turn) (ends : Accounts)
    (outcome : Outcome) (number : ℕ) : Type 0 where
  pub number_is : number ≡ length ts
  pub others : Both (List ℕ)
  pub known : StayKnown old new n files others
  pub turn : Turn
  pub mid : Accounts
  pub makes : MakesTurn c others ts ends turn mid outcome
  pub halts : SendsNone m l c links streams ts turn
  pub checks : (role : Role) → of role m.heard_by ≡ check_of (of role mid)
  pub writes : AddEach old new (outputs_of n) (added mid (turn_text (length ts) turn))

-- The line is lost as this turn begins: nothing is written.
pub record LosesLine (m : Modems) (c : Wire) (old new : FolderState) (n : Written) (ts : List Turn) (ends : Accounts) (role : Role)
    (symbol : ℕ) : Type 0 where
  pub is : LineIsLost c ts ends role symbol
  pub halts : HearsNone m ts
  pub kept : KeepsEach old new (outputs_of n)

-- A slot is a chance match: the one line of it is written.
pub record MeetsChance (m : Modems) (c : Wire) (old new : FolderState) (n : Written) (ts : List Turn) (ends : Accounts) (role : Role)
    (number : ℕ) : Type 0 where
  pub number_is : number ≡ length ts
  pub is : IsChanceMatch c ts ends role
  pub halts : HearsNone m ts
  pub received : KeepsEach old new (received_of n)
  pub trace : Appended old new n.trace (chance_line (length ts) role)

-- The folder fails in this turn, and a part of what it adds is written: whatever the turn comes to,
pub record StopsInTurn (m : Modems) (l : Lines) (c : Wire) (links : ℕ) (streams : Both (List Carried)) (old new : FolderState) (n : Written) (files : Both (List ℕ)) (ts : List Turn)
    (ends : Accounts) : Type 0 where
  pub others : Both (List ℕ)
  pub known : StayKnown old new n files others
  pub turn : Turn
  pub mid : Accounts
  pub outcome : Outcome
  pub makes : MakesTurn c others ts ends turn mid outcome
  pub halts : SendsNone m l c links streams ts turn
  pub writes : AddPart old new (outputs_of n) (added mid (turn_text (length ts) turn))

-- or where a slot is a chance match.
pub record StopsAtChance (m : Modems) (c : Wire) (old new : FolderState) (n : Written) (ts : List Turn) (ends : Accounts) : Type 0 where
  pub role : Role
  pub is : IsChanceMatch c ts ends role
  pub halts : HearsNone m ts
  pub received : KeepsEach old new (received_of n)
  pub trace : PartlyAppended old new n.trace (chance_line (length ts) role)

-- A file that is sent isn't read: what both ends took is written, and nothing of the lines.
abbrev pub StopsReading : Modems → Lines → Wire → ℕ → Both (List Carried) → FolderState → FolderState → Written → Both (List ℕ) → List Turn → Accounts → Type 0
StopsReading m l c links streams old new n files ts ends = (stops : StopsInTurn m l c links streams old new n files ts ends) × AddEach old new (outputs_of n) (octets_of stops.mid)

abbrev pub Stops : Modems → Lines → Wire → ℕ → Both (List Carried) → FolderState → FolderState → Written → Both (List ℕ) → List Turn → Accounts → Type 0
Stops m l c links streams old new n files ts ends = StopsInTurn m l c links streams old new n files ts ends ⊎ StopsAtChance m c old new n ts ends

-- why a run ends in this turn with less than both files
abbrev pub EndsBy : Modems → Lines → Wire → ℕ → Both (List Carried) → FolderState → FolderState → Written → Both (List ℕ) → List Turn → Accounts → RunFault → Type 0
EndsBy m l c links streams old new n files ts ends run_faults.ReadFault = StopsReading m l c links streams old new n files ts ends
EndsBy m l c links streams old new n files ts ends run_faults.WriteFault = Stops m l c links streams old new n files ts ends
EndsBy m l c links streams old new n files ts ends run_faults.NoMemory = Stops m l c links streams old new n files ts ends
EndsBy m l c links streams old new n files ts ends fault = MatchOption (fault_end fault) ⊥
    (ByEnd (EndsInTurn m l c links streams old new n files ts ends) (LosesLine m c old new n ts ends) (MeetsChance m c old new n ts ends))

-- what a turn answers, after these turns
abbrev pub TurnAnswers : Modems → Lines → Wire → ℕ → Both (List Carried) → FolderState → FolderState → Written → Both (List ℕ) → List Turn → Accounts → Result Step RunFault → Type 0
TurnAnswers m l c links streams old new n files ts ends (Ok steps.Going) = GoesOnBy m l c links streams old new n files ts ends
TurnAnswers m l c links streams old new n files ts ends (Ok (steps.Done turn)) = EndsInTurn m l c links streams old new n files ts ends Done turn
TurnAnswers m l c links streams old new n files ts ends (Err fault) = EndsBy m l c links streams old new n files ts ends fault

-- how many turns were made, once a turn is answered: one more where the run goes on
abbrev pub turns_made : ℕ → Result Step RunFault → ℕ
turns_made turn (Ok steps.Going) = turn + 1
turns_made turn answer = turn

-- whether the run goes on, so that both ends sent in the turn
abbrev pub goes_on : Result Step RunFault → Bool
goes_on (Ok steps.Going) = true
goes_on answer = false

-- an output was not written
abbrev pub IsWriting : RunFault → Type 0
IsWriting run_faults.WriteFault = Unit {0}
IsWriting run_faults.NoMemory = Unit {0}
IsWriting fault = ⊥

-- a file that is sent was not read
abbrev pub IsReading : RunFault → Type 0
IsReading run_faults.ReadFault = Unit {0}
IsReading run_faults.NoMemory = Unit {0}
IsReading fault = ⊥

-- what was counted where a run ends in this turn: a fault of these names, a refusal of memory by the folder, or nothing
abbrev pub FaultCountsOver : FolderState → FolderState → List (List ℕ) → List (List ℕ) → RunFault → Type 0
FaultCountsOver old new inputs outputs run_faults.ReadFault = SomeRose old.read_faults new.read_faults inputs
FaultCountsOver old new inputs outputs run_faults.WriteFault = SomeRose old.write_faults new.write_faults outputs
FaultCountsOver old new inputs outputs run_faults.NoMemory = FaultsStand old new × Rose old.refusals new.refusals
FaultCountsOver old new inputs outputs fault = CountsStand old new

-- of the run's own names
abbrev pub FaultCounts : FolderState → FolderState → Written → RunFault → Type 0
FaultCounts old new n fault = FaultCountsOver old new (inputs_of n) (outputs_of n) fault

-- what turns counted
abbrev pub CountsOver : {T : Type 0} → FolderState → FolderState → List (List ℕ) → List (List ℕ) → Result T RunFault → Type 0
CountsOver old new inputs outputs (Ok done) = CountsStand old new
CountsOver old new inputs outputs (Err fault) = FaultCountsOver old new inputs outputs fault

-- what a turn counted, or a part of it
abbrev pub TurnCounts : {T : Type 0} → FolderState → FolderState → Written → Result T RunFault → Type 0
TurnCounts old new n (Ok done) = CountsStand old new
TurnCounts old new n (Err fault) = FaultCounts old new n fault
