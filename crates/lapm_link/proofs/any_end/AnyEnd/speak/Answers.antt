use Rattle.lapm_link.proofs.any_end.AnyEnd.speak.Goals as goal

pub returns-in-Detecting : goal.returns-in-Detecting
returns-in-Detecting c = rw c.in-Detecting.is (assumption c.speak.ensures)

pub returns-in-Negotiating : goal.returns-in-Negotiating
returns-in-Negotiating c = rw c.in-Negotiating.is (assumption c.speak-in-Negotiating.ensures)

pub returns-in-Establishing : goal.returns-in-Establishing
returns-in-Establishing c = rw c.in-Establishing.is (assumption c.speak-in-Establishing.ensures)

pub returns-in-Connected : goal.returns-in-Connected
returns-in-Connected c = rw c.in-Connected.is (assumption c.speak-in-Connected.ensures)

pub returns-in-Releasing : goal.returns-in-Releasing
returns-in-Releasing c = rw c.in-Releasing.is (assumption c.speak-in-Releasing.ensures)

pub returns-in-Closed : goal.returns-in-Closed
returns-in-Closed c = rw c.in-Closed.is (assumption c.speak-in-Closed.ensures)
