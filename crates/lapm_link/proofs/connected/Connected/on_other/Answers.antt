use Rattle.lapm_link.proofs.connected.Connected.on_other.Goals as goal

pub returns-in-I-clause-becomes : goal.returns-in-I-clause-becomes
returns-in-I-clause-becomes c = λ a h. rw c.in-I.is (c.on_i.ensures.becomes a h)

pub returns-in-Rr-clause-becomes : goal.returns-in-Rr-clause-becomes
returns-in-Rr-clause-becomes c = λ a h. rw c.in-Rr.is (c.on_ready.ensures.becomes a h)

pub returns-in-Rnr-clause-becomes : goal.returns-in-Rnr-clause-becomes
returns-in-Rnr-clause-becomes c = λ a h. rw c.in-Rnr.is (c.on_rnr.ensures.becomes a h)

pub returns-in-Rej-clause-becomes : goal.returns-in-Rej-clause-becomes
returns-in-Rej-clause-becomes c = λ a h. rw c.in-Rej.is (c.on_ready-in-Rej.ensures.becomes a h)

pub returns-in-Srej-clause-becomes : goal.returns-in-Srej-clause-becomes
returns-in-Srej-clause-becomes c = λ a h. rw c.in-Srej.is (c.on_number.ensures.becomes a h)

pub returns-in-Sabme-clause-becomes : goal.returns-in-Sabme-clause-becomes
returns-in-Sabme-clause-becomes c = λ a h. rw c.in-Sabme.is (c.on_sabme.ensures.becomes a h)

pub returns-in-Frmr-clause-becomes : goal.returns-in-Frmr-clause-becomes
returns-in-Frmr-clause-becomes c = λ a h. rw c.in-Frmr.is (c.peer_reset.ensures a h)

pub returns-in-Ui-clause-becomes : goal.returns-in-Ui-clause-becomes
returns-in-Ui-clause-becomes c = λ a h. rw c.in-Ui.is (c.on_word.ensures.links a h)
