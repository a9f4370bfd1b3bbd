-- What the calls of an end of the link answer at C's boundary.
use Rattle.std.specs.Prelude.{◌≡◌, ℕ, ◌<◌, ◌≤◌, ◌⊎◌, ℤ, pos, negsuc, Bool, true, false, if◌then◌else◌, List, length, Option, Some, None, Result, Ok, Err, IsSomeAnd}
use Rattle.frame_check.specs.declared.sizes.TheConstants.{INFO, WHOLE}
use Rattle.shared_terms.specs.declared.role.Role.{Role}
use Rattle.shared_terms.specs.declared.fault.LinkFault.{LinkFault}
use Rattle.shared_terms.specs.declared.fault.LinkFault.TheVariants as faults
use Rattle.lapm_frames.specs.declared.seen.Seen.TheVariants as seen
use Rattle.link_account.specs.declared.phase.Phase.{Phase}
use Rattle.link_account.specs.declared.phase.Phase.TheVariants as phases
use Rattle.link_account.specs.declared.setup.Setup.{Setup}
use Rattle.link_account.specs.Account.{Account, is_done}
use Rattle.lapm_link.specs.Fits.{IsSetUp}
use Rattle.gateway.specs.declared.link.Endpoint.{Endpoint}
use Rattle.gateway.specs.declared.link.LinkStop.{LinkStop}
use Rattle.gateway.specs.declared.link.LinkStop.TheVariants as stops
use Rattle.gateway.specs.declared.link.BreakAsked.{BreakAsked}
use Rattle.gateway.specs.declared.link.BreakAsked.TheVariants as asked
use Rattle.gateway.specs.declared.turns.Carried.{Carried}
use Rattle.gateway.specs.declared.turns.Carried.TheVariants as loads
use Rattle.gateway.specs.declared.turns.Told.{Told}
use Rattle.gateway.specs.declared.turns.Told.TheVariants as told
use Rattle.gateway.specs.Endpoints.{IsNew, HearsTurn, Delivers, Offers, IsToldBusy, AnswersBreak, SpeaksTurn}
use Rattle.modem_c.specs.CodeNumbers as codes
use Rattle.modem_c.specs.declared.link.SetupFields.{SetupFields}
use Rattle.modem_c.specs.declared.link.Broke.{Broke}
use Rattle.modem_c.specs.declared.link.Said.{Said}
use Rattle.modem_c.specs.declared.link.Standing.{Standing}
use Rattle.modem_c.specs.declared.machine.Machine.{Machine}
use Rattle.modem_c.specs.Answered.{room_with}
use Rattle.modem_c.specs.Answers.{flag_of}
use Rattle.modem_c.specs.Codes.{role_of}
use Rattle.modem_c.specs.Led.{link_in}

-- ---- an end is made

-- the setup that these numbers say: none where the role or a flag is neither 0 nor 1
abbrev pub setup_with : SetupFields → Option Role → Option Bool → Option Bool → Option Setup
setup_with o (Some role) (Some srej) (Some check32) = Some (record {
  role = role;
  offer = record {
    srej = srej;
    check32 = check32;
    tx_len = o.offer.tx_len;
    rx_len = o.offer.rx_len;
    tx_window = o.offer.tx_window;
    rx_window = o.offer.rx_window;
  };
  tries = o.tries;
  period = o.period;
})
setup_with o (Some role) (Some srej) None = None
setup_with o (Some role) None check32 = None
setup_with o None srej check32 = None

abbrev pub setup_of : SetupFields → Option Setup
setup_of o = setup_with o (role_of o.role) (flag_of o.offer.srej) (flag_of o.offer.check32)

-- what the call answers that makes an end of this setup: it is done, no memory is left, or the setup isn't allowed; only the first changes the handle
abbrev pub AnswersSetup : Option Setup → Option Machine → Option Machine → ℤ → Type 0
AnswersSetup None old new code = (code ≡ codes.bad_argument) × (new ≡ old)
AnswersSetup (Some setup) old new code =
    (IsSetUp setup × (((code ≡ codes.done) × IsSomeAnd (link_in new) (IsNew setup)) ⊎ ((code ≡ codes.no_memory) × (new ≡ old))))
    ⊎ ((IsSetUp setup → ⊥) × (code ≡ codes.bad_argument) × (new ≡ old))

-- ---- why a link broke

abbrev pub unbroken : Broke
unbroken = record { cause = 0; nr = 0; low = 0; high = 0; acknowledged = 0; taken = 0; since = 0 }

abbrev pub broke_by : LinkFault → Broke
broke_by faults.NotDetected = record unbroken { cause = 1 }
broke_by (faults.Spent segment since) = record unbroken { cause = 2; acknowledged = segment; since = since }
broke_by (faults.BadAck nr va high) = record unbroken { cause = 3; nr = nr; low = va; high = high }
broke_by (faults.PeerReset va vr) = record unbroken { cause = 4; acknowledged = va; taken = vr }
broke_by faults.PeerRefused = record unbroken { cause = 5 }

-- what hearing and speaking answer: the code, and why the link broke
abbrev pub code_of : LinkStop → ℤ
code_of stops.Order = codes.order
code_of stops.Late = codes.late
code_of (stops.Broken fault) = codes.broken

abbrev pub why_of : LinkStop → Broke
why_of stops.Order = unbroken
why_of stops.Late = unbroken
why_of (stops.Broken fault) = broke_by fault

-- ---- hearing

-- what this number and these octets say that a line carries
abbrev pub Carries : ℕ → List ℕ → Carried → Type 0
Carries kind octets loads.Nothing = (kind ≡ 0) ⊎ (kind ≡ 4)
Carries kind octets (loads.Pattern seen.Odp) = kind ≡ 1
Carries kind octets (loads.Pattern seen.Adp) = kind ≡ 2
Carries kind octets (loads.Octets lent) = (kind ≡ 3) × (lent.now ≡ octets)

-- a break's length, or -1 where none is given
abbrev pub length_given : Option ℕ → ℤ
length_given None = negsuc 0
length_given (Some units) = pos units

-- the code, the length of the break that is given and the reason for which the link broke are those of this answer
abbrev pub HeardNumbers : Result (Option ℕ) LinkStop → ℤ → ℤ → Broke → Type 0
HeardNumbers (Ok units) code given why = (code ≡ codes.done) × (given ≡ length_given units) × (why ≡ unbroken)
HeardNumbers (Err stop) code given why = (code ≡ code_of stop) × (given ≡ length_given None) × (why ≡ why_of stop)

-- An end hears what is carried, by the rules of its turns.
pub record HearsCarried (kind : ℕ) (octets : List ℕ) (old new : Endpoint) (code given : ℤ) (why : Broke) : Type 0 where
  pub carried : Carried
  pub carries : Carries kind octets carried
  pub answer : Result (Option ℕ) LinkStop
  pub hears : HearsTurn old carried new answer
  pub numbers : HeardNumbers answer code given why

-- what the call answers at an end: the kind of what is carried is at most 4
abbrev pub AnswersHearing : ℕ → List ℕ → Endpoint → Endpoint → ℤ → ℤ → Broke → Type 0
AnswersHearing kind octets old new code given why =
    HearsCarried kind octets old new code given why
    ⊎ ((4 < kind) × (code ≡ codes.bad_argument) × (new ≡ old) × (given ≡ length_given None) × (why ≡ unbroken))

-- ---- between hearing and speaking

-- what delivery answers and writes, where this is the next segment
abbrev pub DeliveredAs : Option (List ℕ) → List ℕ → List ℕ → ℕ → ℤ → Type 0
DeliveredAs None before after count code = (code ≡ codes.nothing) × (count ≡ 0) × (after ≡ before)
DeliveredAs (Some segment) before after count code =
    (code ≡ codes.done) × (count ≡ length segment) × (after ≡ room_with segment before)

-- An end delivers the next segment, where one is left.
pub record DeliversNext (old new : Endpoint) (before after : List ℕ) (count : ℕ) (code : ℤ) : Type 0 where
  pub room : INFO ≤ length before
  pub segment : Option (List ℕ)
  pub delivers : Delivers old new segment
  pub written : DeliveredAs segment before after count code

-- what the call answers at an end: there is room for the longest segment, or nothing is done
abbrev pub AnswersDelivery : Endpoint → Endpoint → List ℕ → List ℕ → ℕ → ℤ → Type 0
AnswersDelivery old new before after count code =
    DeliversNext old new before after count code
    ⊎ ((length before < INFO) × (code ≡ codes.full) × (new ≡ old) × (count ≡ 0) × (after ≡ before))

-- what the call answers that asks which length is wanted
abbrev pub WantedAs : Option ℕ → ℕ → ℤ → Type 0
WantedAs None count code = (code ≡ codes.nothing) × (count ≡ 0)
WantedAs (Some longest) count code = (code ≡ codes.done) × (count ≡ longest)

-- An end is offered a piece: it is done where it takes it.
pub record IsOffered (old new : Endpoint) (piece : List ℕ) (code : ℤ) : Type 0 where
  pub taken : Bool
  pub offers : Offers old new piece taken
  pub code_is : code ≡ (if taken then codes.done else codes.bad_argument)

-- the code of what an end answers that is asked for a break
abbrev pub asked_code : BreakAsked → ℤ
asked_code asked.Taken = codes.done
asked_code asked.Refused = codes.nothing
asked_code asked.Late = codes.late

-- An end is asked for a break of this length.
pub record IsAsked (old new : Endpoint) (units : ℕ) (code : ℤ) : Type 0 where
  pub answer : BreakAsked
  pub answers : AnswersBreak old units new answer
  pub code_is : code ≡ asked_code answer

-- what the call answers that tells an end whether its user asks for a pause; an octet that is neither 0 nor 1 says nothing
abbrev pub AnswersBusy : Option Bool → Endpoint → Endpoint → ℤ → Type 0
AnswersBusy None old new code = (code ≡ codes.bad_argument) × (new ≡ old)
AnswersBusy (Some busy) old new code = (code ≡ codes.done) × IsToldBusy old new busy

-- ---- how an end stands

abbrev pub phase_number : Phase → ℕ
phase_number phases.Detecting = 0
phase_number phases.Negotiating = 1
phase_number phases.Establishing = 2
phase_number phases.Connected = 3
phase_number phases.Releasing = 4
phase_number phases.Closed = 5

abbrev pub flag : Bool → ℕ
flag true = 1
flag false = 0

abbrev pub standing_of : Account → Standing
standing_of a = record { phase = phase_number a.phase; whole = flag (is_done a); check32 = flag a.terms.check32 }

-- ---- speaking

abbrev pub silence : Said
silence = record { kind = 0; octets = 0 }

-- the kind of what is said, and how many octets it has
abbrev pub said_of : Told → Said
said_of told.Mark = silence
said_of (told.Pattern seen.Odp) = record { kind = 1; octets = 0 }
said_of (told.Pattern seen.Adp) = record { kind = 2; octets = 0 }
said_of (told.Octets whole) = record { kind = 3; octets = length whole }
said_of told.Flags = record { kind = 4; octets = 0 }

-- the room once this is said
abbrev pub room_said : Told → List ℕ → List ℕ
room_said told.Mark room = room
room_said (told.Pattern pattern) room = room
room_said (told.Octets whole) room = room_with whole room
room_said told.Flags room = room

-- the code, what is said and the reason for which the link broke are those of this answer
abbrev pub SpokenNumbers : Result Told LinkStop → ℤ → List ℕ → List ℕ → Said → Broke → Type 0
SpokenNumbers (Ok told) code before after said why =
    (code ≡ codes.done) × (said ≡ said_of told) × (after ≡ room_said told before) × (why ≡ unbroken)
SpokenNumbers (Err stop) code before after said why =
    (code ≡ code_of stop) × (said ≡ silence) × (after ≡ before) × (why ≡ why_of stop)

-- An end speaks, by the rules of its turns.
pub record SpeaksInto (old new : Endpoint) (release : Bool) (code : ℤ) (before after : List ℕ) (said : Said) (why : Broke)
    : Type 0 where
  pub room : WHOLE ≤ length before
  pub answer : Result Told LinkStop
  pub speaks : SpeaksTurn old release new answer
  pub numbers : SpokenNumbers answer code before after said why

-- nothing is said, and the end stays as it is
pub record IsSilent (old new : Endpoint) (before after : List ℕ) (said : Said) (why : Broke) : Type 0 where
  pub end_is : new ≡ old
  pub room_is : after ≡ before
  pub said_is : said ≡ silence
  pub why_is : why ≡ unbroken

-- what the call answers at an end: `release` is 0 or 1, and there is room for the longest frame with its check
abbrev pub AnswersSpeaking : Option Bool → Endpoint → Endpoint → ℤ → List ℕ → List ℕ → Said → Broke → Type 0
AnswersSpeaking None old new code before after said why = (code ≡ codes.bad_argument) × IsSilent old new before after said why
AnswersSpeaking (Some release) old new code before after said why =
    SpeaksInto old new release code before after said why
    ⊎ ((length before < WHOLE) × (code ≡ codes.full) × IsSilent old new before after said why)
