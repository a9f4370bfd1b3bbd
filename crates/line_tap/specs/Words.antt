-- The words of a tap, as octets.
use Rattle.std.specs.Prelude.{ℕ, List, [], ◌∷◌, Option, None}
use Rattle.command_base.specs.Apart.{where_apart}
use Rattle.line_tap.specs.Names.{TapNames, inputs_of, outputs_of}

-- these names, where no output is another one or an input
abbrev pub asked_for : TapNames → Option TapNames
asked_for n = where_apart (inputs_of n) (outputs_of n) n

-- the words behind `tap`: REC_O REC_A SCRIPT GOT_O GOT_A TRACE, and no others
abbrev pub names_of : List (List ℕ) → Option TapNames
names_of (rec_o ∷ rec_a ∷ script ∷ got_o ∷ got_a ∷ trace ∷ []) =
    asked_for (record { rec_o = rec_o; rec_a = rec_a; script = script; got_o = got_o; got_a = got_a; trace = trace })
names_of words = None
