use Rattle.lapm_link.proofs.Saying.{first, next}
use Rattle.lapm_link.proofs.connected.Connected.first_step.Goals as goal

pub returns-in-Some-clause-says : goal.returns-in-Some-clause-says
returns-in-Some-clause-says c = λ a h. first _ _ _ _ a (c.in-Some.ensures.gives a h)

pub returns-in-Some-say_reply-clause-says : goal.returns-in-Some-say_reply-clause-says
returns-in-Some-say_reply-clause-says c = λ a h.
    next c.say_answer.new.self _ _ _ _ a (c.in_default.ensures.gives a h) (λ h1. first _ _ _ _ a (c.in-Some-say_reply.ensures.gives a h1))

pub returns-in-Some-say_poll-clause-says : goal.returns-in-Some-say_poll-clause-says
returns-in-Some-say_poll-clause-says c = λ a h.
    next c.say_answer.new.self _ _ _ _ a (c.in_default.ensures.gives a h) (λ h1.
    next c.say_reply.new.self _ _ _ _ a (c.in_default-say_reply.ensures.gives a h1) (λ h2.
    first _ _ _ _ a (c.in-Some-say_poll.ensures.gives a h2)))

pub returns-in-Some-say_urgent-clause-says : goal.returns-in-Some-say_urgent-clause-says
returns-in-Some-say_urgent-clause-says c = λ a h.
    next c.say_answer.new.self _ _ _ _ a (c.in_default.ensures.gives a h) (λ h1.
    next c.say_reply.new.self _ _ _ _ a (c.in_default-say_reply.ensures.gives a h1) (λ h2.
    next c.say_poll.new.self _ _ _ _ a (c.in_default-say_poll.ensures.gives a h2) (λ h3.
    first _ _ _ _ a (c.in-Some-say_urgent.ensures.gives a h3))))

pub returns-clause-says : goal.returns-clause-says
returns-clause-says c = λ a h.
    next c.say_answer.new.self _ _ _ _ a (c.in_default.ensures.gives a h) (λ h1.
    next c.say_reply.new.self _ _ _ _ a (c.in_default-say_reply.ensures.gives a h1) (λ h2.
    next c.say_poll.new.self _ _ _ _ a (c.in_default-say_poll.ensures.gives a h2) (λ h3.
    next c.say_urgent.new.self _ _ _ _ a (c.in_default-say_urgent.ensures.gives a h3) (λ h4.
    c.later_step.ensures.says a h4))))
