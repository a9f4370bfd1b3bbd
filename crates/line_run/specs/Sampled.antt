-- What the line of samples makes of the slots of a run: what is recorded of all slots of a direction, what is received of that in each
-- slot, and how the line may end a run.
use Rattle.std.specs.Prelude.{◌≡◌, ◌≢◌, ℕ, ◌-◌, ◌*◌, is_some, Bool, true, List, [], ◌∷◌, ◌++◌, length, drop, Option, Some, None}
use Rattle.frame_check.specs.declared.check.Check.{Check}
use Rattle.symbol_map.specs.declared.sample.Sample.{Sample}
use Rattle.exact_decoder.specs.Surviving.Survivors.{LostIs}
use Rattle.exact_decoder.specs.Surviving.V32.{line_depth, line_trellis}
use Rattle.shared_terms.specs.declared.role.Role.{Role}
use Rattle.shared_terms.specs.declared.role.Role.TheVariants.{Originator, Answerer}
use Rattle.shared_terms.specs.Role.{other}
use Rattle.shared_terms.specs.Both.{of}
use Rattle.detection.specs.Slots.{Signal, signal_bits}
use Rattle.lapm_frames.specs.declared.seen.Seen.{Seen}
use Rattle.lapm_frames.specs.declared.heard.Heard.{Heard}
use Rattle.lapm_frames.specs.declared.heard.Heard.TheVariants.{Nothing, Chance}
use Rattle.noise_script.specs.Script.{ScriptValue, delay_of, loses}
use Rattle.sample_line.specs.Signals.{signal_of}
use Rattle.sample_line.specs.Recorded.{Records}
use Rattle.sample_line.specs.Received.{Receives}
use Rattle.sample_line.specs.Outcomes.{IsOutcome}
use Rattle.sample_line.specs.Path.{LosesAt}
use Rattle.link_account.specs.Account.{check_of}
use Rattle.link_run.specs.Run.{Link, Accounts, Spoken, Side, Turn, RunOf}
use Rattle.link_run.specs.Carried.{sent_ago}

-- How the slots of a link go over the line.
pub record Wire : Type 0 where
  pub script : ScriptValue
  pub symbols : ℕ  -- of a slot
  pub dlci : ℕ
  pub beside : Role → ℕ → Option Signal  -- what a role sends of another link ahead of this link's slot of that turn, behind the one before

-- nothing goes beside the link
abbrev pub IsAlone : Wire → Type 0
IsAlone c = (role : Role) (turn : ℕ) → c.beside role turn ≡ None

-- a slot that was sent, as a signal: its frame has the check of its sender
abbrev pub signal_in : Wire → Role → Option Spoken → List Signal
signal_in c role None = []
signal_in c role (Some slot) = signal_of slot.check role c.dlci slot.sent ∷ []

-- one more slot behind these, where there is one
abbrev pub and_then : List Signal → Option Signal → List Signal
and_then before None = before
and_then before (Some signal) = before ++ signal ∷ []

-- The slots that a role sent up to the last of these turns, in order, with those of another link between them,
abbrev pub signals : Wire → Role → List Turn → List Signal
signals c role [] = []
signals c role (t ∷ ts) = and_then (signals c role ts) (c.beside role (length ts)) ++ signal_in c role (of role t).sent

-- and up to the slot of the turn after these
abbrev pub signals_before : Wire → Role → List Turn → List Signal
signals_before c role ts = and_then (signals c role ts) (c.beside role (length ts))

-- and their bits
abbrev pub bits_of : Wire → Role → List Turn → List Bool
bits_of c role ts = signal_bits (4 * c.symbols) (signals c role ts)

abbrev pub bits_before : Wire → Role → List Turn → List Bool
bits_before c role ts = signal_bits (4 * c.symbols) (signals_before c role ts)

-- The last slot that this sender sent in these turns has arrived: the line isn't lost by then, what is received in the slot is what its
-- samples give beside those of all slots before, judged by the hearer's check, and this is its outcome.
pub record Arrives (c : Wire) (sender : Role) (earlier upto : List Turn) (hearing : Check) (slot : Spoken) (heard : Heard) : Type 0 where
  pub before : List Sample
  pub samples : List Sample
  pub recorded_before : Records c.script sender (bits_before c sender earlier) before
  pub recorded : Records c.script sender (bits_of c sender upto) samples
  pub not_lost : LostIs line_trellis line_depth samples None
  pub octets : List (List ℕ)
  pub patterns : List Seen
  pub received : Receives hearing sender before samples octets patterns
  pub outcome : IsOutcome (loses c.script sender (length earlier)) sender c.dlci slot.sent octets patterns heard

-- a slot that has arrived, or none
abbrev pub ArrivesAs : Wire → Role → List Turn → List Turn → Check → Option Spoken → Heard → Type 0
ArrivesAs c sender earlier upto hearing None heard = heard ≡ Nothing
ArrivesAs c sender earlier upto hearing (Some slot) heard = Arrives c sender earlier upto hearing slot heard

-- what a hearer with this check hears of this sender in the turn after these
abbrev pub IsHeardOf : Wire → Role → List Turn → Check → Heard → Type 0
IsHeardOf c sender ts hearing heard =
    ArrivesAs c sender (drop (delay_of c.script sender) ts) (drop (delay_of c.script sender - 1) ts) hearing
    (sent_ago (delay_of c.script sender) sender ts) heard

-- and it doesn't end the run
pub record HeardAt (c : Wire) (sender : Role) (ts : List Turn) (s : Side) : Type 0 where
  pub heard_of : IsHeardOf c sender ts s.check s.heard
  pub well : s.heard ≢ Chance

-- what both ends hear in a turn that goes on or ends as the ends speak
abbrev pub HeardIn : Wire → List Turn → Turn → Type 0
HeardIn c ts t = (role : Role) → HeardAt c (other role) ts (of role t)

-- and so in each of these turns
abbrev pub IsHeardOver : Wire → List Turn → Type 0
IsHeardOver c [] = Unit {0}
IsHeardOver c (t ∷ ts) = HeardIn c ts t × IsHeardOver c ts

-- Turns after which a run over the line goes on, and the ends after them.
pub record LineRun (c : Wire) (link : Link) (ts : List Turn) (ends : Accounts) : Type 0 where
  pub run : RunOf link ts ends
  pub heard : IsHeardOver c ts

-- How the line ends a run as a turn begins.
pub data LineEnd : Type 0 where
  LineLost : (role : Role) (symbol : ℕ) → LineEnd  -- the role of the end that hears, and the symbol of all that it hears in the run
  ChanceMatch : (role : Role) → LineEnd

-- the line is lost with this symbol of all that arrive in the turn after these
pub record LosesLine (c : Wire) (sender : Role) (ts : List Turn) (symbol : ℕ) : Type 0 where
  pub arrives : is_some (sent_ago (delay_of c.script sender) sender ts) ≡ true
  pub loses : LosesAt sender c.script (bits_of c sender (drop (delay_of c.script sender - 1) ts)) symbol

-- what arrives of this sender doesn't end the run
pub record IsHeardWell (c : Wire) (sender : Role) (ts : List Turn) (hearing : Check) : Type 0 where
  pub heard : Heard
  pub is : IsHeardOf c sender ts hearing heard
  pub well : heard ≢ Chance

-- The line ends a run, or a reading, in the turn after these, where the ends judge by these checks. The originator's slot counts first,
-- and a lost line before a chance match.
abbrev pub EndsLineBy : Wire → List Turn → (Role → Check) → LineEnd → Type 0
EndsLineBy c ts checks (LineLost Originator symbol) = LosesLine c Answerer ts symbol
EndsLineBy c ts checks (ChanceMatch Originator) = IsHeardOf c Answerer ts (checks Originator) Chance
EndsLineBy c ts checks (LineLost Answerer symbol) = IsHeardWell c Answerer ts (checks Originator) × LosesLine c Originator ts symbol
EndsLineBy c ts checks (ChanceMatch Answerer) =
    IsHeardWell c Answerer ts (checks Originator) × IsHeardOf c Originator ts (checks Answerer) Chance

-- so it ends the run with these ends
abbrev pub EndsLine : Wire → List Turn → Accounts → LineEnd → Type 0
EndsLine c ts ends end = EndsLineBy c ts (λ role. check_of (of role ends)) end

-- that role can't follow what it receives in that turn from this symbol on
abbrev pub LineIsLost : Wire → List Turn → Accounts → Role → ℕ → Type 0
LineIsLost c ts ends role symbol = EndsLine c ts ends (LineLost role symbol)

-- what it receives of a slot of that turn is a chance match
abbrev pub IsChanceMatch : Wire → List Turn → Accounts → Role → Type 0
IsChanceMatch c ts ends role = EndsLine c ts ends (ChanceMatch role)
