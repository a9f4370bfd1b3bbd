-- What the recordings hold of what both ends of a run send, where there are any.
use Rattle.std.specs.Prelude.{◌⊎◌, ℕ, List, ◌∷◌, ◌++◌, Some, None}
use Rattle.outside_calls.specs.Folder.{FolderState}
use Rattle.outside_calls.specs.Outputs.{Holds, HoldsPart}
use Rattle.shared_terms.specs.declared.role.Role.{Role}
use Rattle.shared_terms.specs.declared.role.Role.TheVariants.{Originator, Answerer}
use Rattle.sample_line.specs.Mode.{mode_of}
use Rattle.recordings.specs.Recording.{header_of}
use Rattle.link_run.specs.Run.{Turn}
use Rattle.line_run.specs.Sampled.{Wire}
use Rattle.line_run.specs.Recorded.{Tapes, IsRecorded}

-- A recording holds its header and the samples of all that a role sent in these turns,
pub record HoldsTape (f : FolderState) (name : List ℕ) (c : Wire) (role : Role) (ts : List Turn) : Type 0 where
  pub body : List ℕ
  pub recorded : IsRecorded c role ts body
  pub holds : Holds f name (header_of (mode_of role) ++ body)

-- and behind that a part of what it sent in one turn more.
pub record HoldsTapePart (f : FolderState) (name : List ℕ) (c : Wire) (role : Role) (ts : List Turn) (t : Turn) : Type 0 where
  pub body : List ℕ
  pub recorded : IsRecorded c role ts body
  pub more : List ℕ
  pub recorded_more : IsRecorded c role (t ∷ ts) (body ++ more)
  pub holds : HoldsPart f name (header_of (mode_of role) ++ body) more

-- both hold what was sent in these turns
abbrev pub HoldTapes : FolderState → Tapes → Wire → List Turn → Type 0
HoldTapes f None c ts = Unit {0}
HoldTapes f (Some names) c ts = HoldsTape f names.orig c Originator ts × HoldsTape f names.answ c Answerer ts

-- The folder failed as what was sent in one turn more was put behind that: the originator's holds a part of it and the answerer's nothing of it, or
-- the originator's all and the answerer's a part.
abbrev pub HoldTapesPartly : FolderState → Tapes → Wire → List Turn → Turn → Type 0
HoldTapesPartly f None c ts t = ⊥
HoldTapesPartly f (Some names) c ts t =
    (HoldsTapePart f names.orig c Originator ts t × HoldsTape f names.answ c Answerer ts)
    ⊎ (HoldsTape f names.orig c Originator (t ∷ ts) × HoldsTapePart f names.answ c Answerer ts t)
