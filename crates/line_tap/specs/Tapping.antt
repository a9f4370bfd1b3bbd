-- What two recordings of a line tell of the turns in which they were made, to one who has the script and no file: what each end sent, what became
-- of it, and which breaks were given. Turns are those of a run, the newest first; of a slot that was sent the meant number isn't known, and
-- stands as 0.
use Rattle.std.specs.Prelude.{◌≡◌, ℕ, ◌+◌, ◌*◌, ◌≤◌, Bool, List, [], ◌∷◌, ◌++◌, length, take, Some}
use Rattle.scramblers.specs.Mode.{tap_of}
use Rattle.frame_check.specs.declared.check.Check.{Check}
use Rattle.shared_terms.specs.declared.role.Role.{Role}
use Rattle.sample_line.specs.Mode.{mode_of}
use Rattle.shared_terms.specs.Both.{Both, of}
use Rattle.line_coding.specs.Modulates.{Modulates}
use Rattle.recordings.specs.Samples.{samples_in}
use Rattle.bit_stuffing.specs.Slots.{phase_after}
use Rattle.detection.specs.Slots.{slots_of}
use Rattle.lapm_frames.specs.declared.sent.Sent.{Sent}
use Rattle.xid_params.specs.declared.terms.Terms.{Terms}
use Rattle.xid_params.specs.Terms.{agree}
use Rattle.noise_script.specs.Script.{ScriptValue}
use Rattle.sample_line.specs.Signals.{signal_of, IsCodable}
use Rattle.sample_line.specs.Line.{bits_behind}
use Rattle.link_run.specs.Run.{Spoken, Turn}
use Rattle.link_run.specs.Listened.{check_by, judged_by, given_to}
use Rattle.line_run.specs.Sampled.{Wire, signals, bits_of, HeardIn}
use Rattle.line_run.specs.Scripted.{wire_of}

-- What is tapped: the line of a script, whose link is alone on it, and the octets behind the header of each end's recording.
pub record Tapping : Type 0 where
  pub script : ScriptValue
  pub bodies : Both (List ℕ)

abbrev pub tapping : ScriptValue → Both (List ℕ) → Tapping
tapping script bodies = record { script = script; bodies = bodies }

-- its line
abbrev pub line_of : Tapping → Wire
line_of x = wire_of x.script

-- what both ends' offers come to
abbrev pub terms_of : Tapping → Terms
terms_of x = agree x.script.offer_orig x.script.offer_answ

-- how many bits of an unfinished flag a role's slots of these turns leave
abbrev pub phase_behind : Wire → Role → List Turn → ℕ
phase_behind c role ts = phase_after (4 * c.symbols) (slots_of (4 * c.symbols) (signals c role ts))

-- the bits of one slot more
abbrev pub next_bits : Wire → Check → Role → List Turn → Sent → List Bool
next_bits c check role ts s = bits_behind (4 * c.symbols) (signals c role ts) (signal_of check role c.dlci s)

-- how many octets the slots of so many turns have in a recording
abbrev pub octets_of : Wire → ℕ → ℕ
octets_of c turns = 4 * (c.symbols * turns)

-- In these octets the slot that a role sent in the turn after these is all there, and it is this one: a slot that can be coded there, whose bits,
-- coded behind those of all its slots before, give its samples.
pub record HoldsNext (c : Wire) (check : Check) (role : Role) (ts : List Turn) (body : List ℕ) (s : Sent) : Type 0 where
  pub whole : octets_of c (length ts + 1) ≤ length body
  pub codable : IsCodable check role c.dlci c.symbols (phase_behind c role ts) s
  pub modulated : Modulates (tap_of (mode_of role)) (bits_of c role ts ++ next_bits c check role ts s)
      (take (c.symbols * (length ts + 1)) (samples_in body))

-- a slot as a recording tells it
abbrev pub told : Check → Sent → Spoken
told check s = record { sent = s; number = 0; check = check }

-- What both ends heard in the turn after these, by which checks, and the breaks that their users were given.
pub record Hears (x : Tapping) (ts : List Turn) (t : Turn) : Type 0 where
  pub heard : HeardIn (line_of x) ts t
  pub checks : (role : Role) → (of role t).check ≡ judged_by (terms_of x) role ts
  pub given : (role : Role) → (of role t).given ≡ given_to role ts (of role t).heard

-- What a role sent in it, by its recording.
pub record Sends (x : Tapping) (ts : List Turn) (t : Turn) (role : Role) : Type 0 where
  pub sent : Sent
  pub holds : HoldsNext (line_of x) (check_by (terms_of x)) role ts (of role x.bodies) sent
  pub sent_is : (of role t).sent ≡ Some (told (check_by (terms_of x)) sent)

-- Both slots of the turn after these are there.
pub record GoesOn (x : Tapping) (ts : List Turn) (t : Turn) : Type 0 where
  pub hears : Hears x ts t
  pub sends : (role : Role) → Sends x ts t role

-- turns that the recordings tell, one after another
abbrev pub Tells : Tapping → List Turn → Type 0
Tells x [] = Unit {0}
Tells x (t ∷ ts) = GoesOn x ts t × Tells x ts
