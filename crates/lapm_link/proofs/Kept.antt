-- What an end that isn't connected keeps of its account as that goes on.
use Rattle.lapm_link.proofs.Names.{◌≡◌, ℕ, Bool, Option, IsUnlinked, Account, Setup, Terms}
use Rattle.link_account.specs.declared.answer.Answer.{Answer}
use Rattle.link_account.specs.declared.phase.Phase.{Phase}

-- phase, terms and tries may change
pub moved : {setup : Setup} {answer : Option Answer} {a : Account} (p : Phase) (t : Terms) (due : Bool) (set count : ℕ)
    → IsUnlinked setup answer a
    → IsUnlinked setup answer (record a { phase = p; terms = t; wait = record a.wait { try = due; try_set = set; try_count = count } })
moved p t due set count h = assumption

-- the same setup and answer
pub as_kept : {setup setup' : Setup} {answer answer' : Option Answer} (a : Account) → setup' ≡ setup → answer' ≡ answer
    → IsUnlinked setup answer a → IsUnlinked setup' answer' a
as_kept a s e h = rw (s, e) h
