-- The words of a pair, as octets.
use Rattle.std.specs.Prelude.{ℕ, List, [], ◌∷◌, ◌++◌, Option, None}
use Rattle.command_base.specs.Apart.{where_apart}
use Rattle.run_inputs.specs.Words.{RunNames}
use Rattle.line_run.specs.Names.{Written, written}
use Rattle.link_pair.specs.Pairs.Ends.{Which, First, Second}
use Rattle.link_pair.specs.Pair.{all_inputs, all_outputs}
use Rattle.link_pair.specs.declared.words.PairWords.{PairWords}

-- the names of a pair: the script, and the files of each link
pub record Names : Type 0 where
  pub script : List ℕ
  pub first : Written
  pub second : Written

-- the files that are sent, the names that are read, and those that are written, in the order of the words
abbrev pub files_of : Names → List (List ℕ)
files_of n = all_inputs n.first n.second

abbrev pub inputs_of : Names → List (List ℕ)
inputs_of n = files_of n ++ n.script ∷ []

abbrev pub outputs_of : Names → List (List ℕ)
outputs_of n = all_outputs n.first n.second

-- these names, where no output is another one or an input
abbrev pub asked_for : Names → Option Names
asked_for n = where_apart (inputs_of n) (outputs_of n) n

-- the words behind `pair`: O1 A1 O2 A2 SCRIPT GO1 GA1 GO2 GA2 T1 T2, and no others
abbrev pub names_of : List (List ℕ) → Option Names
names_of (o ∷ a ∷ p ∷ b ∷ script ∷ go ∷ ga ∷ gp ∷ gb ∷ t ∷ u ∷ []) =
    asked_for (record {
      script = script;
      first = record { orig = o; answ = a; got_o = go; got_a = ga; trace = t };
      second = record { orig = p; answ = b; got_o = gp; got_a = gb; trace = u };
    })
names_of words = None

abbrev pub named : PairWords → Names
named w = record { script = w.script.now; first = written w.links.first; second = written w.links.second }

-- the files of one link
abbrev pub link_names : Which → Names → Written
link_names First n = n.first
link_names Second n = n.second

-- the names of a run of that link alone
abbrev pub run_of : Which → Names → RunNames
run_of which n = record { names = link_names which n; script = n.script; tapes = None }
