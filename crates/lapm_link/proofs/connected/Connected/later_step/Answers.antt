use Rattle.std.proofs.Common.{refl}
use Rattle.lapm_link.proofs.Saying.{first, next}
use Rattle.lapm_link.proofs.connected.Connected.later_step.Goals as goal

pub returns-in-Some-clause-says : goal.returns-in-Some-clause-says
returns-in-Some-clause-says c = λ a h. first _ _ _ _ a (c.in-Some.ensures.gives a h)

pub returns-in-Some-say_news-clause-says : goal.returns-in-Some-say_news-clause-says
returns-in-Some-say_news-clause-says c = λ a h.
    next c.say_break.new.self _ _ _ _ a (c.in_default.ensures.gives a h) (λ h1. first _ _ _ _ a (c.in-Some-say_news.ensures.gives a h1))

pub returns-in-Some-say_segment-clause-says : goal.returns-in-Some-say_segment-clause-says
returns-in-Some-say_segment-clause-says c = λ a h.
    next c.say_break.new.self _ _ _ _ a (c.in_default.ensures.gives a h) (λ h1.
    next c.say_news.new.self _ _ _ _ a (c.in_default-say_news.ensures.gives a h1) (λ h2.
    first _ _ _ _ a (c.in-Some-say_segment.ensures.gives a h2)))

pub returns-in-Some-say_acknowledgement-clause-says : goal.returns-in-Some-say_acknowledgement-clause-says
returns-in-Some-say_acknowledgement-clause-says c = λ a h.
    next c.say_break.new.self _ _ _ _ a (c.in_default.ensures.gives a h) (λ h1.
    next c.say_news.new.self _ _ _ _ a (c.in_default-say_news.ensures.gives a h1) (λ h2.
    next c.say_segment.new.self _ _ _ _ a (c.in_default-say_segment.ensures.gives a h2) (λ h3.
    first _ _ _ _ a (c.in-Some-say_acknowledgement.ensures.gives a h3))))

pub returns-clause-says : goal.returns-clause-says
returns-clause-says c = λ a h.
    next c.say_break.new.self _ _ _ _ a (c.in_default.ensures.gives a h) (λ h1.
    next c.say_news.new.self _ _ _ _ a (c.in_default-say_news.ensures.gives a h1) (λ h2.
    next c.say_segment.new.self _ _ _ _ a (c.in_default-say_segment.ensures.gives a h2) (λ h3.
    next c.say_acknowledgement.new.self _ _ _ _ a (c.in_default-say_acknowledgement.ensures.gives a h3) (λ h4.
    record { sent_is = refl; links = h4 }))))
