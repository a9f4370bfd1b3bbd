-- A slot that is read: its bits, what is taken for what was sent in it, its samples, and what stands behind it.
use Rattle.line_tap.proofs.Cited.{◌≡◌, ◌∙◌, ℕ, ◌*◌, ◌<◌, Bool, List, [], ◌∷◌, ◌++◌, length, map, take, drop, All, Option, refl, sym, ap}
use Rattle.line_tap.proofs.Cited.{subst, arith, take-append_seam, drop-append_seam, map-append, take-map, drop-map, take-append-drop}
use Rattle.line_tap.proofs.Cited.{All-append, All-take, IfSome, line_bits, WriterStands, next_phase, slot_bits, Signal, slot_of, slots_of}
use Rattle.line_tap.proofs.Cited.{signal_bits, Check, checked, Frame, Sent, DemodulatorStands, Modulates, Demodulator, AreLabels}
use Rattle.line_tap.proofs.Cited.{ReadsLabels, ReaderStands, IsNext, carries, IsGuess, AreBitsOf, EndsAt, FindsSent, IsAt, SlotReader}
use Rattle.line_tap.proofs.Cited.{Seeker, IsCodedAs, bits_behind, mode_of, IsCodable, tap_of, Mode, Role, PointsDiffer, point_of, Sample}
use Rattle.line_tap.proofs.Cited.{Leads_once, Leads, next_state}
use Rattle.std.proofs.lemmas.List.Elements.{All-map, All-drop}
use Rattle.scramblers.proofs.Readings.{Scrambles_from_Descrambles}
use Rattle.trellis_tables.specs.LabelReader.{quad_at, quads_of}
use Rattle.trellis_tables.specs.Quads.{quad_of}
use Rattle.trellis_tables.proofs.Readings.{Encodes_quads_of}
use Rattle.trellis_tables.proofs.Sequences.{Leads-split}
use Rattle.line_coding.specs.Demodulates.{line_of}
use Rattle.trellis_tables.specs.Differential.Turned.{unturned_at}
use Rattle.symbol_map.specs.Labels.{y_of}
use Rattle.std.specs.List.{range_with_len}
use Rattle.bit_stuffing.specs.Slots.{Slot}
use Rattle.bit_stuffing.specs.SlotWriter.{Writer}
use Rattle.bit_stuffing.proofs.Fill.{phase-append}
use Rattle.line_coding.proofs.Standing.{demodulated}
use Rattle.lapm_frames.specs.declared.sent.Sent.TheVariants as sent
use Rattle.sample_line.proofs.Passing.{slot-added}
use Rattle.line_tap.specs.Seeking.{EndsBy, Lends}
use Rattle.line_tap.proofs.Coding.{points-tell, small as few-labels}
use Rattle.line_tap.proofs.Guessing.{GuessLaws, same-bits, guess-right, phase_of}

abbrev bits_before : SlotReader → List Signal → List Bool
bits_before r sigs = signal_bits (4 * r.symbols) sigs

abbrev bits_next : SlotReader → List Signal → Sent → List Bool
bits_next r sigs s = bits_behind (4 * r.symbols) sigs (carries r s)

-- the bits that were read are those of the slot that these samples are
pub bits-read : PointsDiffer → (r : SlotReader) (sigs : List Signal) (samples more : List Sample) (s : Sent) (d : Demodulator) (to : ℕ)
    (quads labels : List ℕ)
    → ReaderStands r sigs samples → ReadsLabels r.demodulator d r.state to more quads labels → IsNext r sigs samples more s
    → line_bits quads ≡ bits_behind (4 * r.symbols) sigs (carries r s)
bits-read differ r sigs samples more s d to quads labels k h x =
    let mode : Mode = mode_of r.framing.sender in
    let bits : List Bool = bits_before r sigs in
    same-bits differ (tap_of mode) bits (bits_next r sigs s) (line_bits quads) samples more k.labels labels k.are h.are
    (demodulated mode d (k.labels ++ labels) (bits ++ line_bits quads) (h.stands mode k.labels bits k.read)) x.modulated

-- and what is taken for what was sent is what was sent
pub guessed : GuessLaws → (r : SlotReader) (sigs : List Signal) (samples more : List Sample) (s guess : Sent) (d : Demodulator)
    (to : ℕ) (quads labels : List ℕ) (found : Option Frame) → r.phase ≡ phase_of r.symbols sigs → ReaderStands r sigs samples
    → ReadsLabels r.demodulator d r.state to more quads labels
    → FindsSent r.framing.check r.framing.sender r.framing.dlci r.symbols r.phase (line_bits quads) found
    → IsGuess (4 * r.symbols) (line_bits quads) found guess → IsNext r sigs samples more s → guess ≡ s
guessed laws r sigs samples more s guess d to quads labels found phase k h finds g x =
    guess-right laws r.framing.check r.framing.sender r.framing.dlci r.symbols sigs s guess found (line_bits quads) r.low r.channel
    (subst (λ p. IsCodable r.framing.check r.framing.sender r.framing.dlci r.symbols p s) phase x.codable)
    (bits-read laws.points r sigs samples more s d to quads labels k h x)
    (subst (λ p. FindsSent r.framing.check r.framing.sender r.framing.dlci r.symbols p (line_bits quads) found) phase finds) g

-- where a frame was found it ends, and its octets are lent
pub found-ends : (check : Check) (role : Role) (dlci symbols phase : ℕ) (bits : List Bool) (seeker : Seeker) (found : Option Frame)
    (guess : Sent) → IfSome found (IsAt check role dlci phase bits seeker) → IsGuess (4 * symbols) bits found guess
    → EndsBy check role dlci phase guess seeker.end
found-ends check role dlci symbols phase bits seeker found guess at g = grind (arith)

pub found-lent : (check : Check) (role : Role) (dlci symbols phase : ℕ) (bits : List Bool) (seeker : Seeker) (octets : List ℕ)
    (found : Option Frame) (guess : Sent) → IfSome found (IsAt check role dlci phase bits seeker) → IsGuess (4 * symbols) bits found guess
    → ((lent : List ℕ) → Lends seeker lent → octets ≡ lent)
    → (frame : Frame) → guess ≡ sent.Frame frame → octets ≡ checked check role dlci frame
found-lent check role dlci symbols phase bits seeker octets found guess at g lends = λ frame e. lends (checked check role dlci frame)
    (subst (λ q. IfSome q (IsAt check role dlci phase bits seeker)) (subst (IsGuess (4 * symbols) bits found) e g).0 at).lends

pub found-sent : (check : Check) (role : Role) (dlci symbols phase : ℕ) (bits : List Bool) (seeker : Seeker) (found : Option Frame)
    (guess : Sent) → IfSome found (IsAt check role dlci phase bits seeker) → IsGuess (4 * symbols) bits found guess
    → IsCodable check role dlci symbols phase guess → AreBitsOf check role dlci symbols phase guess bits
    → EndsAt check role dlci phase guess seeker.end
found-sent check role dlci symbols phase bits seeker found guess at g codable same = grind (arith)

-- ---- labels of a code sequence are the coding of their bits

small-quads : (labels : List ℕ) → All (λ quad. quad < 16) (quads_of labels)
small-quads labels = All-map (λ quad. quad < 16) (quad_at labels) (range_with_len 0 (length labels))
    (λ k d within. small (unturned_at (map y_of labels) _) _ (omega arith) (omega arith))
  where
    small : (turn q3q4 : ℕ) → turn < 4 → q3q4 < 4 → quad_of turn q3q4 < 16
    small turn q3q4 l m = omega (arith, l, m)

pub sequence-modulates : (mode : Mode) (d : Demodulator) (labels : List ℕ) (bits : List Bool) (samples : List Sample) (end : ℕ)
    → DemodulatorStands mode d labels bits → AreLabels labels samples → Leads next_state 0 labels end → Modulates (tap_of mode) bits samples
sequence-modulates mode d labels bits samples end h are leads = record {
  line = line_of labels;
  quads = quads_of labels;
  labels = labels;
  end = end;
  scrambled = Scrambles_from_Descrambles (tap_of mode) bits (line_of labels) (demodulated mode d labels bits h);
  in_fours = refl;
  are_quads = small-quads labels;
  encoded = Encodes_quads_of labels end leads;
  points = sym are.1;
}

-- and so the samples of the next slot have labels that go on from the state
pub labels-next : PointsDiffer → (r : SlotReader) (sigs : List Signal) (samples more : List Sample) (s : Sent) → ReaderStands r sigs samples
    → IsNext r sigs samples more s → (labels : List ℕ) × (to : ℕ) × AreLabels labels more × Leads next_state r.state labels to
labels-next differ r sigs samples more s k x =
    let m = x.modulated in
    let n : ℕ = length samples in
    let tap : ℕ = tap_of (mode_of r.framing.sender) in
    let bits : List Bool = bits_before r sigs ++ bits_next r sigs s in
    let low = few-labels tap bits (samples ++ more) m in
    let points : map point_of (take n m.labels) ≡ map point_of k.labels =
    sym (take-map point_of n m.labels) ∙ ap (take n) (sym m.points) ∙ take-append_seam samples more ∙ sym k.are.1 in
    let front : take n m.labels ≡ k.labels =
    points-tell differ (take n m.labels) k.labels (All-take (λ label. label < 32) n m.labels low) k.are.0 points in
    let all : m.labels ≡ k.labels ++ drop n m.labels = sym (take-append-drop n m.labels) ∙ ap (λ ls. ls ++ drop n m.labels) front in
    let parts = Leads-split next_state 0 k.labels (drop n m.labels) m.end (subst (λ ls. Leads next_state 0 ls m.end) all m.encoded.leads) in
    let mid : parts.0 ≡ r.state = Leads_once next_state 0 k.labels parts.0 r.state parts.1 k.leads in
    let behind : map point_of (drop n m.labels) ≡ more =
    sym (drop-map point_of n m.labels) ∙ ap (drop n) (sym m.points) ∙ drop-append_seam samples more in (
      drop n m.labels,
      m.end,
      (All-drop (λ label. label < 32) n m.labels low, behind),
      subst (λ q. Leads next_state q (drop n m.labels) m.end) mid parts.2,
    )

-- ---- what a writer wrote, in a reader's words

pub phase-is : (r : SlotReader) (sigs : List Signal) (samples : List Sample) → ReaderStands r sigs samples
    → r.phase ≡ phase_of r.symbols sigs
phase-is r sigs samples k = grind (arith)

pub written-as : (r : SlotReader) (sigs : List Signal) (samples : List Sample) (s : Sent) (bits : List Bool) → ReaderStands r sigs samples
    → bits ≡ slot_bits (4 * r.writer.symbols) r.writer.phase (slot_of (4 * r.writer.symbols) (carries r s))
    → bits ≡ bits_behind (4 * r.symbols) sigs (carries r s)
written-as r sigs samples s bits k e = grind (arith, phase-is)

pub writer-on : (r : SlotReader) (writer : Writer) (sigs : List Signal) (samples : List Sample) (s : Sent) → ReaderStands r sigs samples
    → ((slots : List Slot) → WriterStands r.writer slots → WriterStands writer (slots ++ slot_of (4 * r.writer.symbols) (carries r s) ∷ []))
    → WriterStands writer (slots_of (4 * r.symbols) (sigs ++ carries r s ∷ []))
writer-on r writer sigs samples s k on = grind (arith, map-append)

pub phase-next : (r : SlotReader) (writer : Writer) (sigs : List Signal) (s : Sent) (next : ℕ) → writer.symbols ≡ r.symbols
    → WriterStands writer (slots_of (4 * r.symbols) (sigs ++ carries r s ∷ [])) → r.phase ≡ phase_of r.symbols sigs
    → next ≡ next_phase (4 * r.symbols) r.phase (slot_of (4 * r.symbols) (carries r s)) → writer.phase ≡ next
phase-next r writer sigs s next e h p q = grind (arith, map-append, phase-append)

-- one slot more
pub bits-more : (r : SlotReader) (sigs : List Signal) (s : Sent) (quads : List ℕ)
    → line_bits quads ≡ bits_behind (4 * r.symbols) sigs (carries r s)
    → signal_bits (4 * r.symbols) sigs ++ line_bits quads ≡ signal_bits (4 * r.symbols) (sigs ++ carries r s ∷ [])
bits-more r sigs s quads e = grind (arith, slot-added)

pub labels-more : (labels more : List ℕ) (samples others : List Sample) → AreLabels labels samples → AreLabels more others
    → AreLabels (labels ++ more) (samples ++ others)
labels-more labels more samples others h k = (
  All-append (λ label. label < 32) labels more h.0 k.0,
  map-append point_of labels more ∙ ap (λ xs. xs ++ map point_of more) h.1 ∙ ap (λ xs. samples ++ xs) k.1,
)

-- the labels of the next slot code it
pub labels-code : (r : SlotReader) (sigs : List Signal) (samples more : List Sample) (s : Sent) (labels : List ℕ)
    → ReaderStands r sigs samples
    → AreLabels labels more → IsNext r sigs samples more s → IsCodedAs r.framing.sender (4 * r.symbols) sigs (carries r s) labels
labels-code r sigs samples more s labels k are next = grind (arith, sequence-modulates)
