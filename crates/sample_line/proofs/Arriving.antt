-- Labels more come to the hearer, or the line is lost with one of them.
use Rattle.sample_line.proofs.Names.{◌≡◌, ◌∙◌, ℕ, Bool, List, [], ◌++◌, map, take, drop, Result, Err, Some, refl, sym, ap, subst}
use Rattle.sample_line.proofs.Names.{map-append, take-append-drop, LostIs, line_depth, line_trellis, Lost, Check, Sent, ScriptValue}
use Rattle.sample_line.proofs.Names.{HearsSamples, mode_of, Carries, CarriesBetween, LosesAmong, Arrives, Transmits, Hearer, Path, Tally}
use Rattle.sample_line.proofs.Names.{Silent, Transmitter, Role, point_of, Sample}
use Rattle.std.proofs.Common.{Ok}
use Rattle.std.proofs.lemmas.List.{append-nil}
use Rattle.sample_line.specs.Path.{LosesWith}
use Rattle.sample_line.proofs.Finding.{found-none}

abbrev pub path_of : Transmitter → Hearer → Path
path_of transmitter hearer = record { transmitter = transmitter; hearer = hearer }

pub arrived : (transmitter : Transmitter) (hearer : Hearer) (script : ScriptValue) (points samples : List Sample)
    (check : Check) (sender : Role) (dlci : ℕ) (s : Sent) (earlier : List Bool) (result : Result Tally Lost)
    → Transmits transmitter script points samples
    → HearsSamples (mode_of transmitter.sender) hearer samples check sender dlci s earlier result
    → Arrives (path_of transmitter hearer) script points check sender dlci s earlier result
arrived transmitter hearer script points samples check sender dlci s earlier (Ok tally) sent heard = record {
  read = heard.read;
  carries = record { samples = samples; transmits = sent; hears = heard.hears };
  tallies = heard.tallies;
}
arrived transmitter hearer script points samples check sender dlci s earlier (Err lost) sent heard =
    subst (λ (xs : List Sample). LostIs line_trellis line_depth xs (Some lost.symbol)) sent.samples_are heard

pub begun : (path : Path) (script : ScriptValue) (before : List Sample) (earlier : List Bool) (check : Check) (sender : Role) (dlci : ℕ)
    (s : Sent) → Carries path script before earlier → CarriesBetween path script (before ++ []) check sender dlci s earlier Silent
begun path script before earlier check sender dlci s h = record {
  read = earlier;
  carries = subst (λ (xs : List Sample). Carries path script xs earlier) (sym (append-nil before)) h;
  tallies = record { octets = []; patterns = []; found = found-none check earlier; tallies = (refl, refl) };
}

pub lost-among : (sender : Role) (script : ScriptValue) (before points : List Sample) (labels : List ℕ) (n symbol : ℕ)
    → points ≡ before ++ map point_of (take n labels)
    → LosesWith sender script points symbol → LosesAmong sender script before (map point_of labels) symbol
lost-among sender script before points labels n symbol e h = record {
  first = map point_of (take n labels);
  rest = map point_of (drop n labels);
  points_are = ap (map point_of) (sym (take-append-drop n labels)) ∙ map-append point_of (take n labels) (drop n labels);
  loses = subst (λ (xs : List Sample). LosesWith sender script xs symbol) e h;
}
