-- What a recording of a direction of the line has, where nothing disturbs what is sent.
use Rattle.std.specs.Prelude.{◌≡◌, ℕ, List, [], ◌∷◌, Option, Some, None}
use Rattle.std.specs.List.{flat_map}
use Rattle.scramblers.specs.Mode.{tap_of}
use Rattle.shared_terms.specs.declared.role.Role.{Role}
use Rattle.sample_line.specs.Mode.{mode_of}
use Rattle.shared_terms.specs.Both.{Both}
use Rattle.symbol_map.specs.declared.sample.Sample.{Sample}
use Rattle.line_coding.specs.Modulates.{Modulates}
use Rattle.recordings.specs.Recording.{sample_octets}
use Rattle.link_run.specs.Run.{Turn}
use Rattle.line_run.specs.Sampled.{Wire, bits_of}

-- the names of the recordings of both directions, where there are any; the originator's is written first
abbrev pub Tapes : Type 0
Tapes = Option (Both (List ℕ))

abbrev pub tapes_of : Tapes → List (List ℕ)
tapes_of None = []
tapes_of (Some names) = names.orig ∷ names.answ ∷ []

-- These octets are the samples of all that a role sent in these turns, as it sent them.
pub record IsRecorded (c : Wire) (role : Role) (ts : List Turn) (body : List ℕ) : Type 0 where
  pub samples : List Sample
  pub modulated : Modulates (tap_of (mode_of role)) (bits_of c role ts) samples
  pub body_is : body ≡ flat_map sample_octets samples
