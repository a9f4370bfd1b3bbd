-- The two directions of the line, between the turns of links and within one.
use Rattle.std.specs.Prelude.{◌≡◌, ◌≢◌, ◌*◌, ◌<◌, ◌^◌, ℕ, List, [], ◌∷◌, ◌++◌, map, Result, Ok, Err}
use Rattle.frame_check.specs.declared.check.Check.{Check}
use Rattle.bit_stuffing.specs.BitSlot.{line_bits}
use Rattle.sample_line.specs.Line.{bits_behind}
use Rattle.sample_line.specs.Coder.{CoderStands}
use Rattle.shared_terms.specs.declared.role.Role.{Role}
use Rattle.shared_terms.specs.declared.role.Role.TheVariants.{Originator, Answerer}
use Rattle.shared_terms.specs.Role.{other}
use Rattle.shared_terms.specs.Both.{Both, of}
use Rattle.lapm_frames.specs.declared.sent.Sent.{Sent}
use Rattle.lapm_frames.specs.declared.heard.Heard.{Heard}
use Rattle.lapm_frames.specs.declared.heard.Heard.TheVariants.{Chance}
use Rattle.noise_script.specs.Script.{delay_of}
use Rattle.sample_line.specs.Signals.{IsCodable}
use Rattle.link_run.specs.Run.{Turn}
use Rattle.line_run.specs.Sampled.{Wire, IsHeardOf, EndsLineBy}
use Rattle.line_run.specs.Stream.{Carried, carried_signal, IsDue}
use Rattle.line_world.specs.Way.{WaitsFor, HasRoom}
use Rattle.line_world.specs.declared.direction.DelayedLine.{DelayedLine}
use Rattle.line_world.specs.declared.directions.Directions.{Directions}
use Rattle.line_world.specs.declared.end_coder.EndCoder.{EndCoder}
use Rattle.line_world.specs.declared.lines.Lines.{Lines}
use Rattle.line_world.specs.declared.directions.LineEnd.{LineEnd}
use Rattle.line_world.specs.Faults.{end_of}

-- the direction in which a role sends
abbrev pub from : Role → Directions → DelayedLine
from Originator d = d.from_orig
from Answerer d = d.from_answ

-- Both directions wait for the next slot behind what each role has sent of so many links,
abbrev pub AreWaiting : Directions → Wire → ℕ → Both (List Carried) → Type 0
AreWaiting d c links streams = (role : Role) → WaitsFor (from role d) c role links (of role streams)

-- or that has arrived, and both have room for one.
abbrev pub HaveRoom : Directions → Wire → ℕ → Both (List Carried) → Type 0
HaveRoom d c links streams = (role : Role) → HasRoom (from role d) c role links (of role streams)

-- The coder of a role has coded these slots, and its bits are those of the last.
pub record HasCoded (e : EndCoder) (c : Wire) (role : Role) (stream : List Carried) : Type 0 where
  pub stands : CoderStands e.coder (map (carried_signal role) stream)
  pub sends : e.coder.sender ≡ role
  pub symbols : e.coder.writer.symbols ≡ c.symbols
  pub newest : (front : List Carried) (x : Carried) → stream ≡ front ++ x ∷ []
      → line_bits e.newest ≡ bits_behind (4 * c.symbols) (map (carried_signal role) front) (carried_signal role x)

-- what codes what a role sends
abbrev pub coder_of : Role → Lines → EndCoder
coder_of Originator l = l.orig
coder_of Answerer l = l.answ

-- A line waits for the next slot, which its coders are to code behind what each role has sent,
pub record LinesWait (l : Lines) (c : Wire) (links : ℕ) (streams : Both (List Carried)) : Type 0 where
  pub directions : AreWaiting l.directions c links streams
  pub coders : (role : Role) → HasCoded (coder_of role l) c role (of role streams)

-- or that has arrived.
pub record HaveArrived (l : Lines) (c : Wire) (links : ℕ) (streams : Both (List Carried)) : Type 0 where
  pub directions : HaveRoom l.directions c links streams
  pub coders : (role : Role) → HasCoded (coder_of role l) c role (of role streams)

-- no slot was sent
abbrev pub none_sent : Both (List Carried)
none_sent = record { orig = []; answ = [] }

-- the slots of a link are due in both
abbrev pub AreDue : Wire → ℕ → List Turn → Both (List Carried) → Type 0
AreDue c links ts streams = (role : Role) → IsDue c role ts (of role streams) (links * delay_of c.script role)

-- fewer slots have passed than a line counts
abbrev pub PassedFew : Directions → Type 0
PassedFew d = (role : Role) → (from role d).line.passed < 2 ^ 40

-- Both ends hear these with these checks, and neither is a chance match. The line is left so.
pub record ArrivesBoth (left : Type 0) (c : Wire) (ts : List Turn) (checks : Both Check) (heard : Both Heard) : Type 0 where
  pub heard_of : (role : Role) → IsHeardOf c (other role) ts (of role checks) (of role heard)
  pub well : (role : Role) → of role heard ≢ Chance
  pub lines : left

-- what arriving answers
abbrev pub ArrivesSo : Type 0 → Wire → List Turn → Both Check → Result (Both Heard) LineEnd → Type 0
ArrivesSo left c ts checks (Ok heard) = ArrivesBoth left c ts checks heard
ArrivesSo left c ts checks (Err end) = EndsLineBy c ts (λ role. of role checks) (end_of end)

-- what is sent can be coded next by each coder
abbrev pub AreCodable : Lines → Both Sent → Both Check → ℕ → Type 0
AreCodable l sent checks dlci = (role : Role)
    → IsCodable (of role checks) role dlci (coder_of role l).coder.writer.symbols (coder_of role l).coder.writer.phase (of role sent)

-- a slot in which this was sent
pub record IsPut (x : Carried) (sent : Sent) (check : Check) (dlci : ℕ) : Type 0 where
  pub dlci_is : x.dlci ≡ dlci
  pub sent_is : x.spoken.sent ≡ sent
  pub check_is : x.spoken.check ≡ check

-- both are put on the line
abbrev pub ArePut : Both Carried → Both Sent → Both Check → ℕ → Type 0
ArePut more sent checks dlci = (role : Role) → IsPut (of role more) (of role sent) (of role checks) dlci

-- one more behind each
abbrev pub and_more : Both (List Carried) → Both Carried → Both (List Carried)
and_more streams more = record { orig = streams.orig ++ more.orig ∷ []; answ = streams.answ ++ more.answ ∷ [] }
