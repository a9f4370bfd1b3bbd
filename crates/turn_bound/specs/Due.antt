-- What is due between turns.
use Rattle.std.specs.Prelude.{◌≡◌, ℕ, false, List, None}
use Rattle.shared_terms.specs.declared.role.Role.{Role}
use Rattle.shared_terms.specs.Both.{of}
use Rattle.link_account.specs.Account.{Account}
use Rattle.link_run.specs.End.{is_released}
use Rattle.link_run.specs.Run.{Link, Accounts, Turn, RunOf}
use Rattle.link_run.specs.Carried.{IsCarried}
use Rattle.turn_bound.specs.Time.{KeepsTime}

-- no answer is due, and no F reply until the end is told to release: one frame is heard in a turn, and these go first
pub record NoneDue (a : Account) : Type 0 where
  pub answer : a.owes.answer ≡ None
  pub reply : is_released a.phase ≡ false → a.owes.reply ≡ false

abbrev pub AnswersAtOnce : Type 0
AnswersAtOnce = (tries period : ℕ) (delay : Role → ℕ) (link : Link) (ts : List Turn) (ends : Accounts)
    → KeepsTime tries period delay link → RunOf link ts ends → IsCarried delay ts → (role : Role) → NoneDue (of role ends)
