-- Laws on ends and their accounts.
use Rattle.std.specs.Prelude.{◌≡◌, ◌≤◌, length}
use Rattle.lapm_receiver.specs.Incoming.{undelivered}
use Rattle.lapm_link.specs.declared.any_end.AnyEnd.{AnyEnd}
use Rattle.link_account.specs.Account.{Account, given_break}
use Rattle.lapm_link.specs.Stands.{StandsFor, phase_of, taken_of, undelivered_of, waiting_of}

-- what an account tells of an end that stands for it
pub record Tells (end : AnyEnd) (a : Account) : Type 0 where
  pub phase : phase_of end ≡ a.phase
  pub taken : taken_of end ≤ length a.incoming.taken
  pub undelivered : undelivered_of end ≤ undelivered a.incoming
  pub waiting : waiting_of end ≡ given_break a

-- The conditions on an end that is to hear are told by its account.
abbrev pub AccountTells : Type 0
AccountTells = (end : AnyEnd) (a : Account) → StandsFor end a → Tells end a
