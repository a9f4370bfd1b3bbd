-- The names that the turns of an audit use.
use Rattle.std.specs.Prelude.{ℕ, List, [], ◌∷◌, string_bytes}
use Rattle.line_run.specs.Names.{Written}
use Rattle.trace_audit.specs.declared.names.MadeNames.{MadeNames}

-- the names of the outputs
abbrev pub made_outputs : MadeNames → List (List ℕ)
made_outputs m = string_bytes m.got_o ∷ string_bytes m.got_a ∷ string_bytes m.trace ∷ []

-- with those of the files
abbrev pub names_written : List ℕ → List ℕ → MadeNames → Written
names_written orig answ m = record {
  orig = orig;
  answ = answ;
  got_o = string_bytes m.got_o;
  got_a = string_bytes m.got_a;
  trace = string_bytes m.trace;
}
