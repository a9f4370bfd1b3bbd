-- Laws of what is recorded and received.
use Rattle.std.specs.Prelude.{◌≡◌, ℕ, ◌<◌, Bool, List, ◌++◌}
use Rattle.frame_check.specs.declared.check.Check.{Check}
use Rattle.frame_check.specs.declared.sizes.TheConstants.{SLOT}
use Rattle.symbol_map.specs.declared.sample.Sample.{Sample}
use Rattle.lapm_frames.specs.declared.seen.Seen.{Seen}
use Rattle.shared_terms.specs.declared.role.Role.{Role}
use Rattle.lapm_frames.specs.declared.sent.Sent.{Sent}
use Rattle.noise_script.specs.Script.{ScriptValue}
use Rattle.lapm_frames.specs.declared.heard.Heard.{Heard}
use Rattle.sample_line.specs.Recorded.{Records}
use Rattle.sample_line.specs.Received.{Gives, Receives}
use Rattle.sample_line.specs.Outcomes.{IsOutcome}
use Rattle.lapm_frames.specs.Sendable.{IsSendable}
use Rattle.sample_line.specs.Signals.{IsCodable}

-- what is recorded of bits is one list
abbrev pub RecordedOnce : Type 0
RecordedOnce = (script : ScriptValue) (sender : Role) (bits : List Bool) (samples other : List Sample)
    → Records script sender bits samples → Records script sender bits other → samples ≡ other

-- and a prefix of what is recorded once more bits follow
abbrev pub RecordingsGrow : Type 0
RecordingsGrow = (script : ScriptValue) (sender : Role) (bits more : List Bool) (before samples : List Sample)
    → Records script sender bits before → Records script sender (bits ++ more) samples
    → (rest : List Sample) × (samples ≡ before ++ rest)

-- what samples give is one list of bits
abbrev pub GivenOnce : Type 0
GivenOnce = (sender : Role) (samples : List Sample) (bits other : List Bool) → Gives sender samples bits → Gives sender samples other
    → bits ≡ other

-- and stays, whatever samples follow
abbrev pub GivenStays : Type 0
GivenStays = (sender : Role) (samples more : List Sample) (bits later : List Bool)
    → Gives sender samples bits → Gives sender (samples ++ more) later → (rest : List Bool) × (later ≡ bits ++ rest)

-- one list of octets and one of patterns are received in a slot
abbrev pub ReceivedOnce : Type 0
ReceivedOnce = (check : Check) (sender : Role) (before upto : List Sample) (octets others : List (List ℕ))
    (patterns other_patterns : List Seen)
    → Receives check sender before upto octets patterns → Receives check sender before upto others other_patterns
    → (octets ≡ others) × (patterns ≡ other_patterns)

-- and they have one outcome
abbrev pub OneOutcome : Type 0
OneOutcome = (loses : Bool) (sender : Role) (dlci : ℕ) (s : Sent) (octets : List (List ℕ)) (patterns : List Seen) (heard other : Heard)
    → IsOutcome loses sender dlci s octets patterns heard → IsOutcome loses sender dlci s octets patterns other → heard ≡ other

-- what can be sent fits a slot of the most symbols, behind any unfinished flag
abbrev pub AllFits : Type 0
AllFits = (check : Check) (sender : Role) (dlci phase : ℕ) (s : Sent) → phase < 8 → IsSendable s → IsCodable check sender dlci SLOT phase s
