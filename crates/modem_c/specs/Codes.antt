-- What the numbers mean that C passes.
use Rattle.std.specs.Prelude.{ℕ, zero, suc, Option, Some, None}
use Rattle.scramblers.specs.declared.mode.Mode.{Mode}
use Rattle.scramblers.specs.declared.mode.Mode.TheVariants.{Call, Answer}
use Rattle.shared_terms.specs.declared.role.Role.{Role}
use Rattle.shared_terms.specs.declared.role.Role.TheVariants.{Originator, Answerer}
use Rattle.frame_check.specs.declared.check.Check.{Check}
use Rattle.frame_check.specs.declared.check.Check.TheVariants.{Sixteen, ThirtyTwo}
use Rattle.gateway.specs.declared.any_reader.LineKind.{LineKind}
use Rattle.gateway.specs.declared.any_reader.LineKind.TheVariants.{Begun, Middle, Quarters}

abbrev pub line_kind_of : ℕ → Option LineKind
line_kind_of zero = Some Begun
line_kind_of (suc zero) = Some Middle
line_kind_of (suc (suc zero)) = Some Quarters
line_kind_of (suc (suc (suc n))) = None

-- of a line that is sent: it has no middle
abbrev pub sent_line_of : ℕ → Option LineKind
sent_line_of zero = Some Begun
sent_line_of (suc zero) = None
sent_line_of (suc (suc zero)) = Some Quarters
sent_line_of (suc (suc (suc n))) = None

abbrev pub mode_of : ℕ → Option Mode
mode_of zero = Some Call
mode_of (suc zero) = Some Answer
mode_of (suc (suc n)) = None

abbrev pub role_of : ℕ → Option Role
role_of zero = Some Originator
role_of (suc zero) = Some Answerer
role_of (suc (suc n)) = None

-- the check of I frames and S frames: 1 for that of 32 bits
abbrev pub check_of : ℕ → Option Check
check_of zero = Some Sixteen
check_of (suc zero) = Some ThirtyTwo
check_of (suc (suc n)) = None
