-- How the ends of a link keep time.
use Rattle.std.specs.Prelude.{◌≡◌, ℕ, ◌+◌, ◌*◌, ◌≤◌}
use Rattle.shared_terms.specs.declared.role.Role.{Role}
use Rattle.shared_terms.specs.declared.role.Role.TheVariants.{Originator, Answerer}
use Rattle.shared_terms.specs.Both.{of}
use Rattle.link_account.specs.declared.setup.Setup.{Setup}
use Rattle.link_run.specs.Run.{Link}
use Rattle.link_run.specs.Carried.{HasDelays}

-- An end tries so often and waits so long, and offers a window of one segment at least both ways.
pub record IsTimed (tries period : ℕ) (setup : Setup) : Type 0 where
  pub tries_are : setup.tries ≡ tries
  pub period_is : setup.period ≡ period
  pub tx_window : 1 ≤ setup.offer.tx_window
  pub rx_window : 1 ≤ setup.offer.rx_window

-- The ends of a link keep one time. Their period is that of two ways there and back, and of what an answer may wait.
pub record KeepsTime (tries period : ℕ) (delay : Role → ℕ) (link : Link) : Type 0 where
  pub roles : (role : Role) → (of role link).setup.role ≡ role
  pub timed : (role : Role) → IsTimed tries period (of role link).setup
  pub some_tries : 1 ≤ tries
  pub delays : HasDelays delay
  pub period_is : period ≡ 2 * (delay Originator + delay Answerer) + 16
