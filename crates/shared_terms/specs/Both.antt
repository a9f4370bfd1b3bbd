-- What there is of each end: one for the originator and one for the answerer. A sentence on a link is said once, for a role and its peer.
use Rattle.shared_terms.specs.declared.role.Role.{Role}
use Rattle.shared_terms.specs.declared.role.Role.TheVariants.{Originator, Answerer}
use Rattle.shared_terms.specs.declared.both.Both as code

abbrev pub Both : Type 0 → Type 0
Both A = code.Both A

-- the one of this role
abbrev pub of : {A : Type 0} → Role → Both A → A
of Originator both = both.orig
of Answerer both = both.answ
