use Rattle.command_base.proofs.Names.{refl, Listening}
use Rattle.command_base.proofs.Hearing.{heard-nothing, said-nothing}
use Rattle.command_base.proofs.listener.Listener.new.Goals as goal

pub returns-clause-heard : goal.returns-clause-heard
returns-clause-heard c = λ start.
    let l : Listening = record { deframer = c.new.result; sender = c.args.sender; pieces = 0 } in
    heard-nothing start l c.new.ensures refl (said-nothing start)
