-- For which slots a direction stands: those that have passed, and those that are on their way.
use Rattle.std.specs.Prelude.{◌≡◌, ℕ, ◌-◌, ◌*◌, ◌<◌, ◌≤◌, List, [], ◌∷◌, ◌++◌, length, map, take, drop, None, Result, Ok, Err}
use Rattle.frame_check.specs.declared.check.Check.{Check}
use Rattle.symbol_map.specs.declared.sample.Sample.{Sample}
use Rattle.exact_decoder.specs.Surviving.Survivors.{LostIs}
use Rattle.exact_decoder.specs.Surviving.V32.{line_depth, line_trellis}
use Rattle.detection.specs.Slots.{Signal, signal_bits}
use Rattle.exact_decoder.specs.declared.decoder.Lost.{Lost}
use Rattle.shared_terms.specs.declared.role.Role.{Role}
use Rattle.lapm_frames.specs.declared.seen.Seen.{Seen}
use Rattle.lapm_frames.specs.Sendable.{IsSendable}
use Rattle.lapm_frames.specs.declared.heard.Heard.{Heard}
use Rattle.lapm_frames.specs.declared.heard.Heard.TheVariants.{Nothing}
use Rattle.noise_script.specs.Script.{ScriptValue, delay_of, loses}
use Rattle.link_run.specs.Run.{Turn}
use Rattle.line_run.specs.Sampled.{Wire, IsHeardOf, LosesLine}
use Rattle.sample_line.specs.Recorded.{Records}
use Rattle.sample_line.specs.Received.{Receives}
use Rattle.sample_line.specs.Outcomes.{IsOutcome}
use Rattle.sample_line.specs.Path.{LosesAt}
use Rattle.sample_line.specs.Line.{Kept, LineStands, sender_of, size_of}
use Rattle.sample_line.specs.Coder.{IsCodedAs}
use Rattle.line_run.specs.Stream.{Carried, carried_signal}
use Rattle.line_world.specs.declared.slot.SentSlot.{SentSlot}
use Rattle.line_world.specs.declared.direction.DelayedLine.{DelayedLine}

-- A slot is what was sent, which an end may send, coded behind all slots before.
pub record IsOnWay (size : ℕ) (role : Role) (before : List Signal) (slot : SentSlot) (x : Carried) : Type 0 where
  pub sent : slot.sent ≡ x.spoken.sent
  pub sendable : IsSendable x.spoken.sent
  pub coded : IsCodedAs role size before (carried_signal role x) slot.labels

-- so are these, the oldest first
abbrev pub AreOnWay : ℕ → Role → List Signal → List SentSlot → List Carried → Type 0
AreOnWay size role before [] [] = Unit {0}
AreOnWay size role before (slot ∷ slots) (x ∷ way) = IsOnWay size role before slot x × AreOnWay size role (before ++ carried_signal role x ∷ []) slots way
AreOnWay size role before (slot ∷ slots) [] = ⊥
AreOnWay size role before [] (x ∷ way) = ⊥

-- These slots have passed, and those are on their way.
pub record Stands (d : DelayedLine) (script : ScriptValue) (passed : List Signal) (way : List Carried) : Type 0 where
  pub line : LineStands d.line script passed
  pub slots : AreOnWay (size_of d.line) d.sender passed d.slots.items way
  pub sender : sender_of d.line ≡ d.sender
  pub room : d.slots.capacity ≡ d.lag

-- These labels are one slot more behind those that are on their way.
abbrev pub CodesNext : DelayedLine → List Signal → List Carried → Carried → List ℕ → Type 0
CodesNext d passed way x labels =
    IsCodedAs d.sender (size_of d.line) (passed ++ map (carried_signal d.sender) way) (carried_signal d.sender x) labels

-- What is heard of a slot behind those that passed, by a hearer with this check on this channel: that of this number of its sender.
pub record HeardBehind (script : ScriptValue) (sender : Role) (size dlci : ℕ) (passed : List Signal) (number : ℕ) (hearing : Check)
    (x : Carried) (heard : Heard) : Type 0 where
  pub before : List Sample
  pub samples : List Sample
  pub recorded_before : Records script sender (signal_bits size passed) before
  pub recorded : Records script sender (signal_bits size (passed ++ carried_signal sender x ∷ [])) samples
  pub not_lost : LostIs line_trellis line_depth samples None
  pub octets : List (List ℕ)
  pub patterns : List Seen
  pub received : Receives hearing sender before samples octets patterns
  pub outcome : IsOutcome (loses script sender number) sender dlci x.spoken.sent octets patterns heard

-- the oldest slot on its way has passed, or the line is lost within it
abbrev pub PassesOldest : DelayedLine → DelayedLine → ScriptValue → List Signal → Carried → List Carried → ℕ → Check → ℕ
    → Result Heard Lost → Type 0
PassesOldest old new script passed x rest number hearing dlci (Ok heard) =
    HeardBehind script old.sender (size_of old.line) dlci passed number hearing x heard
    × Stands new script (passed ++ carried_signal old.sender x ∷ []) rest
PassesOldest old new script passed x rest number hearing dlci (Err lost) =
    LosesAt old.sender script (signal_bits (size_of old.line) (passed ++ carried_signal old.sender x ∷ [])) lost.symbol

-- What arriving answers: nothing as long as there is room on the line, and then what becomes of the oldest slot.
pub data Arrival (old new : DelayedLine) (script : ScriptValue) (passed : List Signal) (way : List Carried) (turn : ℕ) (hearing : Check)
    (dlci : ℕ) (result : Result Heard Lost) : Type 0 where
  Early : length way < old.lag → result ≡ Ok Nothing → Stands new script passed way → Arrival old new script passed way turn hearing dlci result
  Due : (x : Carried) (rest : List Carried) → way ≡ x ∷ rest → old.lag ≤ length way
      → PassesOldest old new script passed x rest (turn - old.delay) hearing dlci result
      → Arrival old new script passed way turn hearing dlci result

-- These slots were put on the line in this order, and all but so many of the last have passed.
abbrev pub StandsAt : DelayedLine → ScriptValue → List Carried → ℕ → Type 0
StandsAt d script stream waiting =
    Stands d script (map (carried_signal d.sender) (take (length stream - waiting) stream)) (drop (length stream - waiting) stream)

-- so it is of the line that a role's direction has
abbrev pub Carries : Kept → ScriptValue → Role → List Carried → ℕ → Type 0
Carries line script role stream waiting = LineStands line script (map (carried_signal role) (take (length stream - waiting) stream))

-- This direction, in which a role sends, stands for a stream of slots over a channel, of which so many are on their way. So many links send one
-- in each turn.
pub record IsOver (d : DelayedLine) (c : Wire) (role : Role) (links : ℕ) (stream : List Carried) (waiting : ℕ) : Type 0 where
  pub stands : StandsAt d c.script stream waiting
  pub sends : d.sender ≡ role
  pub symbols : d.line.symbols ≡ c.symbols
  pub delay : d.delay ≡ delay_of c.script role
  pub lag : d.lag ≡ links * d.delay
  pub some : 1 ≤ d.delay
  pub lag_some : 1 ≤ d.lag

-- it waits for the next slot,
abbrev pub WaitsFor : DelayedLine → Wire → Role → ℕ → List Carried → Type 0
WaitsFor d c role links stream = IsOver d c role links stream d.lag

-- or that has arrived, and there is room for one
abbrev pub HasRoom : DelayedLine → Wire → Role → ℕ → List Carried → Type 0
HasRoom d c role links stream = IsOver d c role links stream (d.lag - 1)

-- what arrives for a link in the turn after these
abbrev pub ArrivesAs : DelayedLine → Wire → Role → ℕ → List Turn → List Carried → Check → Result Heard Lost → Type 0
ArrivesAs d c role links ts stream hearing (Ok heard) = IsHeardOf c role ts hearing heard × HasRoom d c role links stream
ArrivesAs d c role links ts stream hearing (Err lost) = LosesLine c role ts lost.symbol
