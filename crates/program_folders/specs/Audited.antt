-- What the folder of an audit stands for.
use Rattle.std.specs.Prelude.{ℕ, ◌+◌, Bool, true, false, if◌then◌else◌, List, None}
use Rattle.std.specs.FinMap as finite
use Rattle.std.specs.Str.{bytes_eq}
use Rattle.outside_calls.specs.Folder.{FolderState}

-- The names of the outputs that are swallowed, and that of the trace, which is held.
pub record Swallowed : Type 0 where
  pub got_o : List ℕ
  pub got_a : List ℕ
  pub trace : List ℕ

abbrev pub swallowed : List ℕ → List ℕ → List ℕ → Swallowed
swallowed got_o got_a trace = record { got_o = got_o; got_a = got_a; trace = trace }

-- whether it tells a name: the trace, and of the others those that the folder handed in tells, without the swallowed ones
abbrev pub audit_tells : FolderState → Swallowed → List ℕ → Bool
audit_tells inner n name =
    if bytes_eq name n.trace then true
    else (if bytes_eq name n.got_o then false else (if bytes_eq name n.got_a then false else inner.tells name))

-- the sum of two counts
abbrev pub sum_of : ℕ → ℕ → ℕ
sum_of a b = a + b

-- It passes reads on, holds that text as the trace, never fails to write or say, and counts its own refusals beside those of the folder
-- handed in.
abbrev pub audit_state : FolderState → Swallowed → List ℕ → ℕ → FolderState
audit_state inner n text refusals = record {
  held = finite.insert inner.held n.trace text;
  tells = audit_tells inner n;
  said = None;
  read_faults = inner.read_faults;
  write_faults = λ _. 0;
  say_faults = 0;
  refusals = sum_of inner.refusals refusals;
}
