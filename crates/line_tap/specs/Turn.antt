-- What a turn of a tap adds to the outputs, and what they hold where the folder takes a part of it.
use Rattle.std.specs.Prelude.{◌≡◌, ◌⊎◌, ℕ, ◌≤◌, List, [], ◌∷◌, length, drop}
use Rattle.std.specs.List.{concat}
use Rattle.outside_calls.specs.Folder.{FolderState}
use Rattle.outside_calls.specs.Outputs.{HoldEach, HoldPart, joined}
use Rattle.shared_terms.specs.declared.role.Role.{Role}
use Rattle.shared_terms.specs.declared.role.Role.TheVariants.{Originator, Answerer}
use Rattle.shared_terms.specs.Both.{Both, of}
use Rattle.line_texts.specs.LineText.{chance_line}
use Rattle.link_run.specs.Run.{Turn, IsSilent}
use Rattle.link_run.specs.Trace.{trace_text, turn_text}
use Rattle.link_run.specs.Listened.{received}
use Rattle.line_run.specs.Ends.{Left}
use Rattle.line_tap.specs.Tapping.{Tapping, line_of, terms_of, octets_of, Hears, GoesOn, Tells}
use Rattle.line_tap.specs.Ends.{IsChanceMatch}
use Rattle.line_tap.specs.Names.{TapNames, outputs_of}
use Rattle.line_world.specs.Turns.{held_of}

-- what turns leave, with this text
abbrev pub left_of : Tapping → List Turn → List ℕ → Left
left_of x ts text = record {
  got = record {
    orig = concat (received (terms_of x) Originator ts).taken;
    answ = concat (received (terms_of x) Answerer ts).taken;
  };
  trace = text;
}

-- the octets that a role's user is given in the turn after these
abbrev pub got_in : Tapping → Role → List Turn → Turn → List ℕ
got_in x role ts t = concat (drop (length (received (terms_of x) role ts).taken) (received (terms_of x) role (t ∷ ts)).taken)

-- what a turn adds to the outputs, with this text
abbrev pub added : Tapping → List Turn → Turn → List ℕ → Left
added x ts t text = record { got = record { orig = got_in x Originator ts t; answ = got_in x Answerer ts t }; trace = text }

-- The last turn: both recordings end before it.
pub record IsLast (x : Tapping) (ts : List Turn) (t : Turn) : Type 0 where
  pub hears : Hears x ts t
  pub silent : IsSilent t
  pub none : (role : Role) → length (of role x.bodies) ≤ octets_of (line_of x) (length ts)

-- a turn after these whose lines are written
abbrev pub MakesTurn : Tapping → List Turn → Turn → Type 0
MakesTurn x ts t = GoesOn x ts t ⊎ IsLast x ts t

-- What both ends took in the turn after these, and nothing of its lines,
pub record AddsGot (x : Tapping) (ts : List Turn) (more : Left) : Type 0 where
  pub turn : Turn
  pub hears : Hears x ts turn
  pub is : more ≡ added x ts turn []

-- or both, whether the reading goes on or ends in it,
pub record AddsTurn (x : Tapping) (ts : List Turn) (more : Left) : Type 0 where
  pub turn : Turn
  pub makes : MakesTurn x ts turn
  pub is : more ≡ added x ts turn (turn_text (length ts) turn)

-- nothing was read
abbrev pub no_octets : Both (List ℕ)
no_octets = record { orig = []; answ = [] }

-- or the line of a chance match alone.
pub record AddsChance (x : Tapping) (ts : List Turn) (more : Left) : Type 0 where
  pub role : Role
  pub ends : IsChanceMatch x ts role
  pub is : more ≡ record { got = no_octets; trace = chance_line (length ts) role }

-- what the turn after these adds, as far as it was made
abbrev pub Adds : Tapping → List Turn → Left → Type 0
Adds x ts more = AddsGot x ts more ⊎ (AddsTurn x ts more ⊎ AddsChance x ts more)

-- The folder failed in the turn after some: the outputs hold what these left, and a part of what that turn adds.
pub record StopsAfter (x : Tapping) (f : FolderState) (n : TapNames) : Type 0 where
  pub turns : List Turn
  pub tells : Tells x turns
  pub more : Left
  pub adds : Adds x turns more
  pub holds : HoldPart f (outputs_of n) (held_of (left_of x turns (trace_text turns))) (held_of more)

-- It failed to read a recording: the outputs hold all that both users are given in that turn, and nothing of its lines.
pub record StopsReading (x : Tapping) (f : FolderState) (n : TapNames) (s : StopsAfter x f n) : Type 0 where
  pub adds : AddsGot x s.turns s.more
  pub holds : HoldEach f (outputs_of n)
      (joined (held_of (left_of x s.turns (trace_text s.turns))) (s.more.got.orig ∷ s.more.got.answ ∷ []))
