-- What a pair answers.
use Rattle.std.specs.Prelude.{◌≡◌, ℕ, Option, Some, None, Result, Ok, Err}
use Rattle.line_run.specs.Ends.{RunEnd}
use Rattle.line_run.specs.Ends as runs
use Rattle.command_base.specs.declared.status.Status.{Status}
use Rattle.command_base.specs.declared.status.Status.TheVariants as status
use Rattle.command_base.specs.declared.stop.Stop.{Stop}
use Rattle.command_base.specs.declared.stop.Stop.TheVariants.{Own}
use Rattle.link_pair.specs.Pairs.Ends.{Which, First, Second, PairEnd, BothDone, LinkLost, NotDetected, LineLost, ChanceMatch}
use Rattle.run_inputs.specs.Answers.{answer_of as run_answer}
use Rattle.line_run.specs.declared.fault.RunFault.{RunFault}
use Rattle.line_run.specs.declared.fault.RunFault.TheVariants as faults
use Rattle.link_pair.specs.declared.command.LastTurns.{LastTurns}

-- the number of a link
abbrev pub number_of : Which → ℕ
number_of First = 1
number_of Second = 2

-- the answer to how a pair ends
abbrev pub answer_of : PairEnd → Status
answer_of (BothDone first second) = status.Done
answer_of (LinkLost link role segment turn) = status.PairLinkLost (number_of link) role segment turn
answer_of (NotDetected link turn) = status.PairNotDetected (number_of link) turn
answer_of (LineLost role symbol) = status.LineLost role symbol
answer_of (ChanceMatch role round) = status.ChanceMatch role round

-- what a job comes to whose pair ends so: it is done with the last turns of both links, or stops for the answer
abbrev pub result_of : PairEnd → Result LastTurns Stop
result_of (BothDone first second) = Ok (record { first = first; second = second })
result_of end = Err (Own (answer_of end))

-- the last turn of a link of this number that is done, or why the job stops
abbrev pub last_turn_of : ℕ → RunEnd → Result ℕ Stop
last_turn_of link (runs.IsDone turn) = Ok turn
last_turn_of link (runs.LinkLost role segment turn) = Err (Own (status.PairLinkLost link role segment turn))
last_turn_of link (runs.NotDetected turn) = Err (Own (status.PairNotDetected link turn))
last_turn_of link end = Err (Own (run_answer end))

-- how a pair ended whose rounds end by this fault, where the line ended it
abbrev pub end_by_line : RunFault → Option PairEnd
end_by_line (faults.LineLost role symbol) = Some (LineLost role symbol)
end_by_line (faults.ChanceMatch role round) = Some (ChanceMatch role round)
end_by_line fault = None

-- an answer by which a pair itself ends: no input is refused, the folder doesn't fail, and memory is found
abbrev pub EndsPair : Status → Type 0
EndsPair status.Done = Unit {0}
EndsPair (status.LineLost role symbol) = Unit {0}
EndsPair (status.ChanceMatch role round) = Unit {0}
EndsPair (status.PairLinkLost link role segment turn) = Unit {0}
EndsPair (status.PairNotDetected link turn) = Unit {0}
EndsPair answer = ⊥

-- what holds of a pair by its answer, where it isn't done: this of its end, or that where it didn't come to one; a lost link has a number
abbrev pub ByAnswer : (PairEnd → Type 0) → Type 0 → Status → Type 0
ByAnswer Ended Else (status.PairLinkLost link role segment turn) =
    (which : Which) × (link ≡ number_of which) × Ended (LinkLost which role segment turn)
ByAnswer Ended Else (status.PairNotDetected link turn) = (which : Which) × (link ≡ number_of which) × Ended (NotDetected which turn)
ByAnswer Ended Else (status.LineLost role symbol) = Ended (LineLost role symbol)
ByAnswer Ended Else (status.ChanceMatch role round) = Ended (ChanceMatch role round)
ByAnswer Ended Else (status.LinkLost role segment turn) = ⊥
ByAnswer Ended Else (status.NotDetected turn) = ⊥
ByAnswer Ended Else answer = Else
