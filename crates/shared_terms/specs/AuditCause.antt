-- The word of each cause for which a trace is not a run's.
use Rattle.std.specs.Prelude.{ℕ, List, codes}
use Rattle.shared_terms.specs.declared.audit_cause.AuditCause.{AuditCause}
use Rattle.shared_terms.specs.declared.audit_cause.AuditCause.TheVariants.{End, Beyond, Spelling, Turn, Role, Arrived, Sent, Break}

abbrev pub audit_word : AuditCause → List ℕ
audit_word End = codes "end"
audit_word Beyond = codes "beyond"
audit_word Spelling = codes "spelling"
audit_word Turn = codes "turn"
audit_word Role = codes "role"
audit_word Arrived = codes "arrived"
audit_word Sent = codes "sent"
audit_word Break = codes "break"
