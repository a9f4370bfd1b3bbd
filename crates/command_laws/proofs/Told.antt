-- The slots of turns that recordings told: they fit, their frames are those that were sent, and their bits are those of the samples.
use Rattle.command_laws.proofs.Names.{◌≡◌, ◌∙◌, ℕ, ◌+◌, ◌*◌, ◌≤◌, List, [], ◌∷◌, ◌++◌, length, take, refl, sym, ap, subst, arith}
use Rattle.command_laws.proofs.Names.{length-append, Option, Some, None, append-nil, map-append, take_all, Plain, Flags, frames_sent}
use Rattle.command_laws.proofs.Names.{Signal, slot_of, slots_of, Sent, Modulates, signals, bits_of, Tapping, line_of, Tells, Spoken, Turn}
use Rattle.command_laws.proofs.Names.{samples_in, mode_of, tap_of, of, Role}
use Rattle.std.proofs.lemmas.List.{append_assoc}
use Rattle.frame_check.specs.declared.check.Check.{Check}
use Rattle.bit_stuffing.specs.Slots.{Slot}
use Rattle.bit_stuffing.specs.Slots as slots
use Rattle.lapm_frames.specs.declared.sent.Sent.TheVariants as sent
use Rattle.sample_line.specs.Signals.{signal_of}
use Rattle.link_run.specs.Listened.{check_by}
use Rattle.line_run.specs.Sampled.{signal_in}
use Rattle.line_run.proofs.Bits.{signals-more, bits-more}
use Rattle.line_tap.specs.Tapping.{terms_of, octets_of, told}
use Rattle.command_laws.specs.Pickups.{frame_in, frame_sent}
use Rattle.sample_line.proofs.Once.{none-modulated}

-- ---- their frames

slot-frames : (size : ℕ) (role : Role) (check : Check) (s : Sent)
    → slots.frames_of (slot_of size (signal_of check role 0 s) ∷ []) ≡ frame_in role check s
slot-frames size role check s = grind (arith)

frames-append : (a b : List Slot) → slots.frames_of (a ++ b) ≡ slots.frames_of a ++ slots.frames_of b
frames-append [] b = refl
frames-append (Plain bits ∷ a) b = frames-append a b
frames-append (Flags None ∷ a) b = frames-append a b
frames-append (Flags (Some octets) ∷ a) b = ap (λ t. octets ∷ t) (frames-append a b)

turn-frames : (x : Tapping) (size : ℕ) (role : Role) (s : Option Spoken)
    → slots.frames_of (slots_of size (signal_in (line_of x) role s)) ≡ frame_sent role s
turn-frames x size role s = grind (arith, slot-frames)

pub frames-are : (x : Tapping) (size : ℕ) (role : Role) (ts : List Turn)
    → slots.frames_of (slots_of size (signals (line_of x) role ts)) ≡ frames_sent role ts
frames-are x size role [] = refl
frames-are x size role (t ∷ ts) =
    let before : List Signal = signals (line_of x) role ts in
    let more : List Signal = signal_in (line_of x) role (of role t).sent in
    ap slots.frames_of (map-append (slot_of size) before more) ∙ frames-append (slots_of size before) (slots_of size more)
    ∙ ap (λ f. f ++ slots.frames_of (slots_of size more)) (frames-are x size role ts)
    ∙ ap (λ f. frames_sent role ts ++ f) (turn-frames x size role (of role t).sent)

-- ---- earlier turns

pub signals-split : (x : Tapping) (role : Role) (later earlier : List Turn)
    → (more : List Signal) × (signals (line_of x) role (later ++ earlier) ≡ signals (line_of x) role earlier ++ more)
signals-split x role [] earlier = ([], sym (append-nil (signals (line_of x) role earlier)))
signals-split x role (t ∷ later) earlier =
    let rest = signals-split x role later earlier in
    let more : List Signal = signal_in (line_of x) role (of role t).sent in
    (rest.0 ++ more, ap (λ l. l ++ more) rest.1 ∙ append_assoc (signals (line_of x) role earlier) rest.0 more)

pub tells-earlier : (x : Tapping) (later earlier : List Turn) → Tells x (later ++ earlier) → Tells x earlier
tells-earlier x [] earlier h = h
tells-earlier x (t ∷ later) earlier h = tells-earlier x later earlier h.1

-- ---- there is one for each turn

pub one-each : (x : Tapping) (ts : List Turn) → Tells x ts → (role : Role) → length (signals (line_of x) role ts) ≡ length ts
one-each x [] h role = refl
one-each x (t ∷ ts) h role =
    let s = h.0.sends role in
    let slot : Spoken = told (check_by (terms_of x)) s.sent in
    omega (
      arith,
      ap length (signals-more (line_of x) role ts slot t (λ r n. refl) s.sent_is),
      length-append (signals (line_of x) role ts) (signal_of slot.check role 0 slot.sent ∷ []),
      one-each x ts h.1 role,
    )

-- ---- they are the recording's

pub told-bits : (x : Tapping) (ts : List Turn) → Tells x ts → (role : Role)
    → Modulates (tap_of (mode_of role)) (bits_of (line_of x) role ts)
    (take ((line_of x).symbols * length ts) (samples_in (of role x.bodies)))
told-bits x [] h role = grind (arith, none-modulated)
told-bits x (t ∷ ts) h role =
    let s = h.0.sends role in
    let count : (line_of x).symbols * (length ts + 1) ≡ (line_of x).symbols * length (t ∷ ts) =
    (let n : length ts + 1 ≡ length (t ∷ ts) = omega arith in ap (λ m. (line_of x).symbols * m) n) in
    subst (λ n. Modulates (tap_of (mode_of role)) (bits_of (line_of x) role (t ∷ ts)) (take n (samples_in (of role x.bodies)))) count
    (subst (λ bits. Modulates (tap_of (mode_of role)) bits (take ((line_of x).symbols * (length ts + 1)) (samples_in (of role x.bodies))))
    (sym (bits-more (line_of x) role ts (told (check_by (terms_of x)) s.sent) t (λ r n. refl) s.sent_is)) s.holds.modulated)

pub few-samples : (octets : List ℕ) → 4 * length (samples_in octets) ≤ length octets
few-samples [] = omega arith
few-samples (a ∷ []) = omega arith
few-samples (a ∷ b ∷ []) = omega arith
few-samples (a ∷ b ∷ c ∷ []) = omega arith
few-samples (a ∷ b ∷ c ∷ d ∷ octets) = omega (arith, few-samples octets)

-- of a recording that ends with these turns
pub all-told : (x : Tapping) (ts : List Turn) → Tells x ts → (role : Role) → length (of role x.bodies) ≤ octets_of (line_of x) (length ts)
    → Modulates (tap_of (mode_of role)) (bits_of (line_of x) role ts) (samples_in (of role x.bodies))
all-told x ts h role ended =
    subst (Modulates (tap_of (mode_of role)) (bits_of (line_of x) role ts))
    (take_all ((line_of x).symbols * length ts) (samples_in (of role x.bodies)) (omega (arith, ended, few-samples (of role x.bodies))))
    (told-bits x ts h role)
