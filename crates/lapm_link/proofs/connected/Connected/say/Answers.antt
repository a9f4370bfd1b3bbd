use Rattle.lapm_link.proofs.Names.{◌≡◌, Bool, false, err_from_is_err_and, Sent, SaysLinked, Connected, Account, steps}
use Rattle.link_account.specs.Speak.{on_timer}
use Rattle.lapm_link.proofs.Saying.{second_breaks, timers_pass, forgotten}
use Rattle.lapm_link.proofs.connected.Connected.say.Goals as goal

pub returns-in_err-on_break_timer-clause-speaks : goal.returns-in_err-on_break_timer-clause-speaks
returns-in_err-on_break_timer-clause-speaks c = λ a h.
    let p = err_from_is_err_and c.from_residual-in_err-on_break_timer.result c.from_residual-in_err-on_break_timer.ensures.1 in
    rw (p.1, p.2) (second_breaks c.on_timer.new.self c.on_break_timer.new.self _ c.args.turn a.special (on_timer c.args.turn a)
    (c.in_ok-on_timer.ensures.becomes a h) (λ b k. c.in_err-on_break_timer.ensures.becomes b k))

-- the steps by what the last speaking was
by_last : (end : Connected) (sent : Sent) (turn : _) (special special' : Bool) (a : Account) → special ≡ special'
    → SaysLinked (steps turn special a) end sent → SaysLinked (steps turn special' a) end sent
by_last end sent turn special special' a e h = rw (← e) h

pub returns-clause-speaks : goal.returns-clause-speaks
returns-clause-speaks c = λ a h.
    timers_pass c.on_timer.new.self c.on_break_timer.new.self c.first_step.new.self c.first_step.result c.args.turn a.special
    (on_timer c.args.turn a)
    (c.in_ok-on_timer.ensures.becomes a h) (λ b k. c.in_ok-on_break_timer.ensures.becomes b k)
    (λ b k. by_last c.first_step.new.self c.first_step.result c.args.turn c.args.self.now.special a.special
    (record b { special = false }) h.beside.special_is
    (c.first_step.ensures.says (record b { special = false }) (record { sender_stands = k.sender_stands; beside = forgotten k.beside })))
