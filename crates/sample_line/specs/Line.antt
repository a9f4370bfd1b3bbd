-- For which past a line stands, and what becomes of a slot that passes through it.
use Rattle.std.specs.Prelude.{◌≡◌, ℕ, ◌*◌, Bool, List, [], ◌∷◌, ◌++◌, length, None, Result, Ok, Err}
use Rattle.frame_check.specs.declared.check.Check.{Check}
use Rattle.scramblers.specs.Mode.{tap_of}
use Rattle.symbol_map.specs.declared.sample.Sample.{Sample}
use Rattle.line_coding.specs.Modulates.{Modulates}
use Rattle.exact_decoder.specs.Decoder.{Decoding}
use Rattle.exact_decoder.specs.declared.decoder.Lost.{Lost}
use Rattle.bit_stuffing.specs.Slots.{slot_bits, phase_after}
use Rattle.lapm_frames.specs.declared.seen.Seen.{Seen}
use Rattle.detection.specs.Slots.{Signal, signal_bits, slot_of, slots_of}
use Rattle.shared_terms.specs.declared.role.Role.{Role}
use Rattle.sample_line.specs.Mode.{mode_of}
use Rattle.lapm_frames.specs.declared.sent.Sent.{Sent}
use Rattle.noise_script.specs.Script.{ScriptValue}
use Rattle.lapm_frames.specs.declared.heard.Heard.{Heard}
use Rattle.sample_line.specs.declared.path.Path.{Path}
use Rattle.sample_line.specs.Recorded.{Records}
use Rattle.sample_line.specs.Received.{Receives}
use Rattle.sample_line.specs.Outcomes.{IsOutcome}
use Rattle.sample_line.specs.Path.{Carries, LosesWithin}

-- what a line keeps
pub record Kept : Type 0 where
  pub symbols : ℕ  -- how many a slot has
  pub passed : ℕ  -- how many slots have passed
  pub path : Path

abbrev pub sender_of : Kept → Role
sender_of line = line.path.transmitter.sender

abbrev pub decoder_of : Kept → Decoding
decoder_of line = line.path.hearer.reader.decoder

-- how many bits a slot has
abbrev pub size_of : Kept → ℕ
size_of line = 4 * line.symbols

-- The line stands for the slots that have passed. The decoder has heard exactly their samples, and each label that it released was taken and
-- read.
pub record LineStands (line : Kept) (script : ScriptValue) (passed : List Signal) : Type 0 where
  pub slots : line.passed ≡ length passed
  pub points : List Sample
  pub modulated : Modulates (tap_of (mode_of (sender_of line))) (signal_bits (size_of line) passed) points
  pub read : List Bool
  pub carries : Carries line.path script points read
  pub not_lost : line.path.hearer.reader.decoder.lost ≡ None
  pub all_taken : line.path.hearer.reader.decoder.pending ≡ []

-- the bits of a slot behind these
abbrev pub bits_behind : ℕ → List Signal → Signal → List Bool
bits_behind size before signal = slot_bits size (phase_after size (slots_of size before)) (slot_of size signal)

-- A slot has passed: what was received in it, by the recordings of all slots up to it and of those before, and its outcome.
pub record PassesSlot (line : Kept) (script : ScriptValue) (passed : List Signal) (signal : Signal) (check : Check) (dlci : ℕ)
    (loses : Bool) (s : Sent) (heard : Heard) : Type 0 where
  pub before : List Sample
  pub upto : List Sample
  pub recorded_before : Records script (sender_of line) (signal_bits (size_of line) passed) before
  pub recorded : Records script (sender_of line) (signal_bits (size_of line) (passed ++ signal ∷ [])) upto
  pub octets : List (List ℕ)
  pub patterns : List Seen
  pub received : Receives check (sender_of line) before upto octets patterns
  pub outcome : IsOutcome loses (sender_of line) dlci s octets patterns heard
  pub stands : LineStands line script (passed ++ signal ∷ [])

-- A slot passes, or the line is lost within it.
abbrev pub Passes : Kept → ScriptValue → List Signal → Signal → Check → ℕ → Bool → Sent → Result Heard Lost → Type 0
Passes line script passed signal check dlci loses s (Ok heard) =
    PassesSlot line script passed signal check dlci loses s heard
Passes line script passed signal check dlci loses s (Err lost) =
    LosesWithin (sender_of line) script (signal_bits (size_of line) passed) (bits_behind (size_of line) passed signal) lost.symbol
