-- What a coder stands for once a slot was coded.
use Rattle.sample_line.proofs.Names.{◌≡◌, ◌∙◌, ◌*◌, ℕ, Bool, List, [], ◌∷◌, ◌++◌, map, sym, ap, subst, map-append, WriterStands, slot_bits}
use Rattle.sample_line.proofs.Names.{Signal, signal_bits, slot_of, slots_of, Modulates, ModulatorStands, Coding, CoderStands, IsCodedAs}
use Rattle.sample_line.proofs.Names.{bits_in, bits_behind, mode_of, tap_of, Mode, point_of, Sample}
use Rattle.line_coding.specs.declared.modulator.Modulator.{Modulator}
use Rattle.line_coding.proofs.Standing.{modulated}
use Rattle.bit_stuffing.specs.Slots.{Slot}
use Rattle.bit_stuffing.specs.SlotWriter.{Writer}
use Rattle.sample_line.proofs.Passing.{slot-added}

pub codes-bits : (coder : Coding) (signals : List Signal) (signal : Signal) (bits : List Bool) → CoderStands coder signals
    → bits ≡ slot_bits (bits_in coder) coder.writer.phase (slot_of (bits_in coder) signal)
    → bits ≡ bits_behind (bits_in coder) signals signal
codes-bits coder signals signal bits h e =
    e ∙ ap (λ p. slot_bits (bits_in coder) p (slot_of (bits_in coder) signal)) h.writer.phase_is

-- what a modulator has made of these bits too
abbrev pub ModulatesToo : Modulator → Modulator → List Bool → List ℕ → Type 0
ModulatesToo old new bits labels = (mode : Mode) (before : List Bool) (points : List Sample) → ModulatorStands mode old before points
    → ModulatorStands mode new (before ++ bits) (points ++ map point_of labels)

pub codes-labels : (coder : Coding) (modulator : Modulator) (signals : List Signal) (signal : Signal) (bits : List Bool) (labels : List ℕ)
    → CoderStands coder signals → bits ≡ bits_behind (bits_in coder) signals signal → ModulatesToo coder.modulator modulator bits labels
    → IsCodedAs coder.sender (bits_in coder) signals signal labels
codes-labels coder modulator signals signal bits labels h e more =
    let mode : Mode = mode_of coder.sender in
    let before : List Bool = signal_bits (bits_in coder) signals in
    record {
      points = h.points;
      earlier = modulated mode coder.modulator before h.points h.modulator;
      modulated = subst (λ (xs : List Bool). Modulates (tap_of mode) (before ++ xs) (h.points ++ map point_of labels)) e
          (modulated mode modulator (before ++ bits) (h.points ++ map point_of labels) (more mode before h.points h.modulator));
    }

pub codes-stand : (coder : Coding) (writer : Writer) (modulator : Modulator) (signals : List Signal) (signal : Signal) (bits : List Bool)
    (labels : List ℕ) → CoderStands coder signals → bits ≡ bits_behind (bits_in coder) signals signal
    → writer.symbols ≡ coder.writer.symbols
    → ((slots : List Slot) → WriterStands coder.writer slots → WriterStands writer (slots ++ slot_of (bits_in coder) signal ∷ []))
    → ModulatesToo coder.modulator modulator bits labels
    → CoderStands (record { sender = coder.sender; writer = writer; modulator = modulator }) (signals ++ signal ∷ [])
codes-stand coder writer modulator signals signal bits labels h e same on more =
    let mode : Mode = mode_of coder.sender in
    let size : ℕ = bits_in coder in
    let points : List Sample = h.points ++ map point_of labels in
    let joined : slots_of size signals ++ slot_of size signal ∷ [] ≡ slots_of size (signals ++ signal ∷ []) =
    sym (map-append (slot_of size) signals (signal ∷ [])) in
    let all : signal_bits size signals ++ bits ≡ signal_bits size (signals ++ signal ∷ []) =
    ap (λ xs. signal_bits size signals ++ xs) e ∙ sym (slot-added size signals signal) in
    record {
      writer = subst (λ (m : ℕ). WriterStands writer (slots_of (4 * m) (signals ++ signal ∷ []))) (sym same)
          (subst (λ (xs : List Slot). WriterStands writer xs) joined (on (slots_of size signals) h.writer));
      points = points;
      modulator = subst (λ (m : ℕ). ModulatorStands mode modulator (signal_bits (4 * m) (signals ++ signal ∷ [])) points) (sym same)
          (subst (λ (xs : List Bool). ModulatorStands mode modulator xs points) all
          (more mode (signal_bits size signals) h.points h.modulator));
    }
