-- The words of breaks, as they are heard, sent and due.
use Rattle.turn_losses.proofs.Names.{ℕ, Bool, true, false, nat_eq, Option, Some, None, Result, Ok, Err, Frame, Ui, BreakWord, Ack, word_in}
use Rattle.link_account.proofs.Names.{Brk, BreakFault}

-- the words of breaks in a frame
abbrev pub is_word : (BreakWord → Bool) → Result BreakWord BreakFault → Bool
is_word f (Ok word) = f word
is_word f (Err fault) = false

abbrev pub of_word : (BreakWord → Bool) → Frame → Bool
of_word f (Ui command pf info) = is_word f (word_in info)
of_word f frame = false

abbrev pub brk_of : ℕ → BreakWord → Bool
brk_of n (Brk m l) = nat_eq m n
brk_of n (Ack m l) = false

abbrev pub ack_of : ℕ → BreakWord → Bool
ack_of n (Brk m l) = false
ack_of n (Ack m l) = nat_eq m n

abbrev pub any_brk : BreakWord → Bool
any_brk (Brk m l) = true
any_brk (Ack m l) = false

-- a BRKACK is due, of any number or of this one
abbrev pub pends : Option BreakWord → Bool
pends None = false
pends (Some word) = true

abbrev pub pends_of : ℕ → Option BreakWord → Bool
pends_of n None = false
pends_of n (Some word) = ack_of n word
