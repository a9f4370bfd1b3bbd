use Rattle.line_run.proofs.Streaming.{run-sent, lone-slots-are-due, lone-count}
use Rattle.line_run.proofs.laws.slots_are_due_alone.Goals as goal

pub returns : goal.returns
returns c = record { sent = λ link ts ends run role. run-sent link role ts ends run; due = lone-slots-are-due; counted = lone-count }
