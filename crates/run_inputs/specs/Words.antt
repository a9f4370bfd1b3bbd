-- The words of a run, as octets.
use Rattle.std.specs.Prelude.{ℕ, List, [], ◌∷◌, Option, Some, None}
use Rattle.std.specs.Option.{option_map}
use Rattle.line_run.specs.Names as sent
use Rattle.line_run.specs.Names.{Written, written}
use Rattle.line_run.specs.Recorded.{Tapes, tapes_of}
use Rattle.command_base.specs.Apart.{where_apart}
use Rattle.run_inputs.specs.declared.words.RunWords.{RunWords}

-- the names of a run; where it is recorded, those of its recordings too
pub record RunNames : Type 0 where
  pub names : Written
  pub script : List ℕ
  pub tapes : Tapes

-- the files that are sent, the names that are read, and those that are written, in the order of the words
abbrev pub files_of : RunNames → List (List ℕ)
files_of n = sent.inputs_of n.names

abbrev pub inputs_of : RunNames → List (List ℕ)
inputs_of n = n.names.orig ∷ n.names.answ ∷ n.script ∷ []

-- what a run writes, recorded or not, and all that is written
abbrev pub texts_of : RunNames → List (List ℕ)
texts_of n = sent.outputs_of n.names

abbrev pub outputs_of : RunNames → List (List ℕ)
outputs_of n = n.names.got_o ∷ n.names.got_a ∷ n.names.trace ∷ tapes_of n.tapes

-- these names, where no output is another one or an input
abbrev pub asked_for : RunNames → Option RunNames
asked_for n = where_apart (inputs_of n) (outputs_of n) n

-- the words behind `run`: ORIG ANSW SCRIPT GOT_O GOT_A TRACE, and no others
abbrev pub run_named : List (List ℕ) → Option RunNames
run_named (orig ∷ answ ∷ script ∷ got_o ∷ got_a ∷ trace ∷ []) =
    asked_for (record {
      names = record { orig = orig; answ = answ; got_o = got_o; got_a = got_a; trace = trace };
      script = script;
      tapes = None;
    })
run_named words = None

-- the words behind `record`: ORIG ANSW SCRIPT GOT_O GOT_A TRACE REC_O REC_A, and no others
abbrev pub record_named : List (List ℕ) → Option RunNames
record_named (orig ∷ answ ∷ script ∷ got_o ∷ got_a ∷ trace ∷ rec_o ∷ rec_a ∷ []) =
    asked_for (record {
      names = record { orig = orig; answ = answ; got_o = got_o; got_a = got_a; trace = trace };
      script = script;
      tapes = Some (record { orig = rec_o; answ = rec_a });
    })
record_named words = None

abbrev pub named : RunWords → RunNames
named w = record {
  names = written w.names;
  script = w.script.now;
  tapes = option_map (λ names. record { orig = names.orig.now; answ = names.answ.now }) w.tapes;
}
