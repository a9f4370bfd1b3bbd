-- The link and the line that a script and two files make.
use Rattle.std.specs.Prelude.{◌≡◌, ℕ, ◌+◌, ◌*◌, ◌/◌, ◌<◌, ◌≤◌, max, List, map, filter, Option, Some, None, slice_get}
use Rattle.std.specs.Option.{option_map}
use Rattle.frame_check.specs.declared.sizes.TheConstants.{SLOT}
use Rattle.bit_stuffing.specs.declared.slot_writer.TheConstants.{HEAD, TAIL}
use Rattle.shared_terms.specs.declared.role.Role.{Role}
use Rattle.shared_terms.specs.declared.role.Role.TheVariants.{Originator, Answerer}
use Rattle.shared_terms.specs.Role.{same_role}
use Rattle.shared_terms.specs.Both.{Both, of}
use Rattle.noise_script.specs.declared.entry.Break.{Break}
use Rattle.noise_script.specs.declared.entry.Pause.{Pause}
use Rattle.noise_script.specs.Script.{ScriptValue, IsInLimits, delay_of, offer_of, break_of}
use Rattle.noise_script.specs.Script as script
use Rattle.xid_params.specs.declared.offer.Offer.{Offer}
use Rattle.detection.specs.Slots.{Signal}
use Rattle.link_account.specs.declared.setup.Setup.{Setup}
use Rattle.link_account.specs.Laws.{MayPlay}
use Rattle.link_run.specs.Carried.{HasDelays}
use Rattle.link_run.specs.End.{BreakLine, BusyLine, is_busy}
use Rattle.lapm_frames.specs.Sendable.{IsSendable}
use Rattle.sample_line.specs.Signals.{IsCodable}
use Rattle.link_run.specs.Run.{Party, Link, Accounts, Spoken, Turn, GoingTurn}
use Rattle.line_run.specs.Sampled.{Wire, HeardIn, LineRun}

-- a period: two ways there and back, and what an answer may wait
abbrev pub period_of : ScriptValue → ℕ
period_of script = 2 * (script.delay_orig + script.delay_answ) + 16

-- what an end of that role begins with
abbrev pub setup_of : ScriptValue → Role → Setup
setup_of script role = record { role = role; offer = offer_of script role; tries = script.tries; period = period_of script }

-- a line of a script as a user's break
abbrev pub break_line : Break → BreakLine
break_line b = record { turn = b.turn; length_octet = b.length }

-- the breaks of a role, in the order in which they are asked for
abbrev pub breaks_of : ScriptValue → Role → List BreakLine
breaks_of script role = map break_line (filter (λ (b : Break). same_role b.role role) script.breaks)

-- and as a user's pause
abbrev pub busy_line : Pause → BusyLine
busy_line p = record { turn = p.from; count = p.count }

-- when a role's user is busy
abbrev pub busy_of : ScriptValue → Role → List BusyLine
busy_of script role = map busy_line (filter (λ (p : Pause). same_role p.role role) script.pauses)

-- an end with its user
abbrev pub party_of : ScriptValue → Both (List ℕ) → Role → Party
party_of script files role = record {
  setup = setup_of script role;
  user = record { file = of role files; breaks = breaks_of script role; busy = busy_of script role };
}

-- the link: the two ends and their users
abbrev pub link_of : ScriptValue → Both (List ℕ) → Link
link_of script files = record { orig = party_of script files Originator; answ = party_of script files Answerer }

-- the symbols of a slot that has room for a frame with so many octets of information and 128 symbols behind it: ten symbols for the rest
-- of a flag and four more, then the longest stuffing of the frame with its seven other octets and of a closing flag
abbrev pub slot_symbols : ℕ → ℕ
slot_symbols octets = 10 + (8 * (octets + 7) + 8 * (octets + 7) / 5 + 8 + 3) / 4 + 128

-- the longest information field that an end offers, to send or to hear
abbrev pub offered_octets : Offer → ℕ
offered_octets offer = max offer.tx_len offer.rx_len

-- the longest information field that a slot has room for: the longest that an end offers, and 128 octets at least
abbrev pub longest_of : ScriptValue → ℕ
longest_of script = max 128 (max (offered_octets script.offer_orig) (offered_octets script.offer_answ))

-- a script's line on a channel, with these slots of another link beside
abbrev pub wire_at : ScriptValue → ℕ → (Role → ℕ → Option Signal) → Wire
wire_at script dlci beside =
    record { script = script; symbols = slot_symbols (longest_of script); dlci = dlci; beside = beside }

-- the line of a link alone, on channel 0
abbrev pub wire_of : ScriptValue → Wire
wire_of script = wire_at script 0 (λ role turn. None)

-- A script within its limits makes two ends that may play, over a line with delays.
abbrev pub ScriptsMayPlay : Type 0
ScriptsMayPlay = (script : ScriptValue) (files : Both (List ℕ)) → IsInLimits script
    → MayPlay (link_of script files).orig.setup (link_of script files).answ.setup

-- its delays
abbrev pub ScriptsHaveDelays : Type 0
ScriptsHaveDelays = (script : ScriptValue) → IsInLimits script → HasDelays (delay_of script)

-- A user's breaks are those that the script has for its role, index by index; and it is busy where the script says so.
abbrev pub BreaksAreTheScripts : Type 0
BreaksAreTheScripts = (script : ScriptValue) (role : Role) (index : ℕ)
    → slice_get (breaks_of script role) index
    ≡ option_map (λ (b : ℕ × ℕ). record { turn = b.0; length_octet = b.1 }) (break_of script role index)

-- its pauses
abbrev pub PausesAreTheScripts : Type 0
PausesAreTheScripts = (value : ScriptValue) (role : Role) (turn : ℕ) → is_busy turn (busy_of value role) ≡ script.is_busy value role turn

-- two sizes that are known: a slot has 464 symbols for frames of 128 octets, and 2615 for frames of 1024
abbrev pub SlotSizesAreKnown : Type 0
SlotSizesAreKnown = (slot_symbols 128 ≡ 464) × (slot_symbols 1024 ≡ 2615)

-- The slots of a script within its limits have a size that a line may have,
abbrev pub SlotsHaveRoom : Type 0
SlotsHaveRoom = (script : ScriptValue) → IsInLimits script
    → (HEAD + TAIL < slot_symbols (longest_of script)) × (slot_symbols (longest_of script) ≤ SLOT)

-- and whatever its ends send fits a slot of that size, on each channel and behind any unfinished flag, whatever goes beside it.
abbrev pub SlotsAreCodable : Type 0
SlotsAreCodable = (c : Wire) (files : Both (List ℕ)) (ts : List Turn) (ends : Accounts) (t : Turn) (after : Accounts)
    → IsInLimits c.script
    → LineRun c (link_of c.script files) ts ends → HeardIn c ts t
    → GoingTurn (link_of c.script files) ts ends t after
    → (role : Role) (slot : Spoken) (dlci phase : ℕ) → phase < 8 → (of role t).sent ≡ Some slot → IsSendable slot.sent
    → IsCodable slot.check role dlci (slot_symbols (longest_of c.script)) phase slot.sent
