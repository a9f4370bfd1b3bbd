-- What each end hears is read off labels that begin a code sequence which is no farther from the recording than any other.
use Rattle.std.specs.Prelude.{◌≡◌, ℕ, ◌-◌, List, [], ◌∷◌, ◌++◌, drop, Some}
use Rattle.frame_check.specs.declared.check.Check.{Check}
use Rattle.symbol_map.specs.declared.sample.Sample.{Sample}
use Rattle.exact_decoder.specs.Surviving.Survivors.{IsLeast}
use Rattle.exact_decoder.specs.Surviving.V32.{line_trellis}
use Rattle.shared_terms.specs.declared.role.Role.{Role}
use Rattle.shared_terms.specs.Role.{other}
use Rattle.shared_terms.specs.Both.{of}
use Rattle.lapm_frames.specs.declared.heard.Heard.{Heard}
use Rattle.noise_script.specs.Script.{delay_of}
use Rattle.link_run.specs.Run.{Spoken, Turn}
use Rattle.link_run.specs.Carried.{sent_ago}
use Rattle.line_run.specs.Sampled.{Wire, Arrives}

-- the labels begin a code sequence that is no farther from the samples than any other
abbrev pub BeginNearest : List Sample → List ℕ → Type 0
BeginNearest samples labels = (rest : List ℕ) × IsLeast line_trellis samples (labels ++ rest)

-- The last slot that this sender sent in these turns has arrived with this outcome, read off such labels.
pub record IsReadOff (c : Wire) (sender : Role) (earlier upto : List Turn) (hearing : Check) (slot : Spoken)
    (heard : Heard) : Type 0 where
  pub arrives : Arrives c sender earlier upto hearing slot heard
  pub nearest : BeginNearest arrives.samples arrives.received.gives.labels

-- each slot that an end heard in these turns
abbrev pub AreReadOff : Wire → List Turn → Type 0
AreReadOff c [] = Unit {0}
AreReadOff c (t ∷ ts) =
    ((role : Role) (slot : Spoken) → sent_ago (delay_of c.script (other role)) (other role) ts ≡ Some slot
    → IsReadOff c (other role) (drop (delay_of c.script (other role)) ts) (drop (delay_of c.script (other role) - 1) ts)
    (of role t).check slot (of role t).heard)
    × AreReadOff c ts
