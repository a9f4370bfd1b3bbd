-- A frame that goes until it is answered, and the account for which it stands.
use Rattle.std.specs.Prelude.{◌≡◌, ◌+◌, Result, Ok, Err}
use Rattle.lapm_frames.specs.declared.sent.Sent.{Sent}
use Rattle.shared_terms.specs.declared.fault.LinkFault.{LinkFault}
use Rattle.lapm_link.specs.declared.attempt.Attempt.{Attempt}
use Rattle.link_account.specs.Account.{Account}
use Rattle.link_account.specs.Speak.{Said}

-- whether the frame is due, when its timer was set, and how many of the tries are left
pub record Tries (attempt : Attempt) (a : Account) : Type 0 where
  pub due_is : attempt.due ≡ a.wait.try
  pub set_is : attempt.set ≡ a.wait.try_set
  pub left_is : attempt.left + a.wait.try_count ≡ a.setup.tries

-- but for its tries an account is as it was
abbrev pub retried : Account → Account → Account
retried b a = record a { wait = record a.wait { try = b.wait.try; try_set = b.wait.try_set; try_count = b.wait.try_count } }

-- what is sent is what the account says, and nothing but the tries changes
pub record TriesOnce (said : Said) (a : Account) (attempt : Attempt) (sent : Sent) : Type 0 where
  pub sent_is : sent ≡ said.sent
  pub tries : Tries attempt said.account
  pub rest_is : said.account ≡ retried said.account a

-- the same where the tries may be spent
abbrev pub TriesSo : Result Said LinkFault → Account → Attempt → Result Sent LinkFault → Type 0
TriesSo (Ok said) a attempt (Ok sent) = TriesOnce said a attempt sent
TriesSo (Err fault) a attempt (Err spent) = spent ≡ fault
TriesSo (Ok said) a attempt (Err spent) = ⊥
TriesSo (Err fault) a attempt (Ok sent) = ⊥
