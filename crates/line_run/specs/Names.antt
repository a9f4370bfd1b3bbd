-- The names of a run's files: those that both users send, those that they receive, and the trace.
use Rattle.std.specs.Prelude.{ℕ, List, [], ◌∷◌}
use Rattle.line_run.specs.declared.names.Names.{Names}

-- names as octets
pub record Written : Type 0 where
  pub orig : List ℕ
  pub answ : List ℕ
  pub got_o : List ℕ
  pub got_a : List ℕ
  pub trace : List ℕ

abbrev pub written : Names → Written
written n = record { orig = n.orig.now; answ = n.answ.now; got_o = n.got_o.now; got_a = n.got_a.now; trace = n.trace.now }

-- the files that are sent
abbrev pub inputs_of : Written → List (List ℕ)
inputs_of n = n.orig ∷ n.answ ∷ []

-- the received files, and all that is written, in that order
abbrev pub received_of : Written → List (List ℕ)
received_of n = n.got_o ∷ n.got_a ∷ []

abbrev pub outputs_of : Written → List (List ℕ)
outputs_of n = n.got_o ∷ n.got_a ∷ n.trace ∷ []
