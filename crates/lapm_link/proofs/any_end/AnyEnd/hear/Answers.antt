use Rattle.lapm_link.proofs.any_end.AnyEnd.hear.Goals as goal

pub returns-in-Detecting-clause-hears : goal.returns-in-Detecting-clause-hears
returns-in-Detecting-clause-hears g c = rw c.in-Detecting.is c.hear.ensures.hears

pub returns-in-Negotiating-clause-hears : goal.returns-in-Negotiating-clause-hears
returns-in-Negotiating-clause-hears g c = rw c.in-Negotiating.is c.hear-in-Negotiating.ensures.hears

pub returns-in-Establishing-clause-hears : goal.returns-in-Establishing-clause-hears
returns-in-Establishing-clause-hears g c = rw c.in-Establishing.is c.hear-in-Establishing.ensures.hears

pub returns-in-Connected-clause-hears : goal.returns-in-Connected-clause-hears
returns-in-Connected-clause-hears g c = rw c.in-Connected.is c.hear-in-Connected.ensures.hears

pub returns-in-Releasing-clause-hears : goal.returns-in-Releasing-clause-hears
returns-in-Releasing-clause-hears g c = rw c.in-Releasing.is c.hear-in-Releasing.ensures.hears

pub returns-in-Closed-clause-hears : goal.returns-in-Closed-clause-hears
returns-in-Closed-clause-hears g c = rw c.in-Closed.is c.hear-in-Closed.ensures.hears
