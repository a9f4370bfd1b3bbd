-- The names of a tap, as octets.
use Rattle.std.specs.Prelude.{ℕ, List, [], ◌∷◌}
use Rattle.shared_terms.specs.declared.role.Role.{Role}
use Rattle.shared_terms.specs.declared.role.Role.TheVariants.{Originator, Answerer}
use Rattle.line_tap.specs.declared.names.TapWords.{TapWords}

pub record TapNames : Type 0 where
  pub rec_o : List ℕ
  pub rec_a : List ℕ
  pub script : List ℕ
  pub got_o : List ℕ
  pub got_a : List ℕ
  pub trace : List ℕ

-- the recording of what a role sent
abbrev pub recording_of : Role → TapNames → List ℕ
recording_of Originator n = n.rec_o
recording_of Answerer n = n.rec_a

-- the names that are read, and those that are written, in the order of the words
abbrev pub inputs_of : TapNames → List (List ℕ)
inputs_of n = n.rec_o ∷ n.rec_a ∷ n.script ∷ []

abbrev pub outputs_of : TapNames → List (List ℕ)
outputs_of n = n.got_o ∷ n.got_a ∷ n.trace ∷ []

-- both recordings: the inputs that turns read
abbrev pub recordings_of : TapNames → List (List ℕ)
recordings_of n = n.rec_o ∷ n.rec_a ∷ []

abbrev pub named : TapWords → TapNames
named w = record {
  rec_o = w.rec_o.now;
  rec_a = w.rec_a.now;
  script = w.script.now;
  got_o = w.got_o.now;
  got_a = w.got_a.now;
  trace = w.trace.now;
}
