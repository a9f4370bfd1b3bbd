use Rattle.line_tap.proofs.Cited.{◌≡◌, ◌∙◌, ◌*◌, ◌++◌, ◌∷◌, [], ℕ, Bool, List, refl, sym, ap, subst, arith, line_bits, slot_bits}
use Rattle.line_tap.proofs.Cited.{signal_bits, slot_of, Sent, DemodulatorStands, Modulates, AreLabels, IsNext, carries, EndsAt, samples_in}
use Rattle.line_tap.proofs.Cited.{bits_behind, mode_of, IsCodable, tap_of, Mode, Sample, Leads, next_state}
use Rattle.std.proofs.Common.{IfNone}
use Rattle.trellis_tables.proofs.Sequences.{Leads-append}
use Rattle.line_tap.specs.Seeking.{EndsBy}
use Rattle.line_tap.proofs.Guessing.{GuessLaws}
use Rattle.line_tap.proofs.PointLabels.{count-samples}
use Rattle.line_tap.proofs.SlotReading.{found-ends, found-lent, found-sent, bits-read, guessed, labels-next, sequence-modulates, phase-is}
use Rattle.line_tap.proofs.SlotReading.{written-as, writer-on, phase-next, bits-more, labels-more, labels-code}
use Rattle.line_tap.proofs.reader.SlotReader.read.Goals as goal

pub frame_in-found-requires-clause-long : goal.frame_in-found-requires-clause-long
frame_in-found-requires-clause-long c =
    let h = c.in_ok-state.ensures.some in
    let count = count-samples c.args.self.now.symbols c.args.octets.now c.requires.size in
    omega (arith, c.args.self.now.low, h.count, count)

pub write_again-requires-clause-codable : goal.write_again-requires-clause-codable
write_again-requires-clause-codable c =
    let r = c.args.self.now in
    subst (λ n. IsCodable r.framing.check r.framing.sender r.framing.dlci n r.writer.phase c.guess-sent.result)
    (sym c.requires.writer.symbols)
    (subst (λ p. IsCodable r.framing.check r.framing.sender r.framing.dlci r.symbols p c.guess-sent.result) (sym c.requires.writer.phase)
    c.in_ok-phase.ensures.codable)

pub phase_behind-requires-clause-by : goal.phase_behind-requires-clause-by
phase_behind-requires-clause-by c =
    let r = c.args.self.now in
    subst (EndsBy r.framing.check r.framing.sender r.framing.dlci r.phase c.guess-sent.result) (sym c.end.ensures)
    (found-ends r.framing.check r.framing.sender r.framing.dlci r.symbols r.phase (line_bits c.read_labels.new.bits)
    c.frame_in-found.new.self c.frame_in-found.result c.guess-sent.result c.frame_in-found.ensures.at c.guess-sent.ensures.guess)

pub write_again-requires-clause-octets : goal.write_again-requires-clause-octets
write_again-requires-clause-octets c =
    let r = c.args.self.now in
    found-lent r.framing.check r.framing.sender r.framing.dlci r.symbols r.phase (line_bits c.read_labels.new.bits)
    c.frame_in-found.new.self
    c.octets.result.now c.frame_in-found.result c.guess-sent.result c.frame_in-found.ensures.at c.guess-sent.ensures.guess c.octets.ensures

pub returns-in_err-state : goal.returns-in_err-state
returns-in_err-state c = record {
  some = λ sigs samples k. rw c.from_residual.ensures tt;
  none = λ sigs samples k fit.
      let r = c.args.self.now in
      let more : List Sample = samples_in c.args.octets.now in
      let refuted : (s : Sent) → IsNext r sigs samples more s → ⊥ =
      λ s x. let labels = labels-next c.points_differ.ensures r sigs samples more s k x in
      c.in_err-state.ensures.none labels.0 labels.1 labels.2 labels.3 in
      subst (λ q. IfNone q ((s : Sent) → IsNext r sigs samples more s → ⊥)) (sym c.from_residual.ensures) refuted;
  framing = refl;
  size = refl;
}

pub returns-in_err-phase : goal.returns-in_err-phase
returns-in_err-phase c = record {
  some = λ sigs samples k. rw c.from_residual-in_err-phase.ensures tt;
  none = λ sigs samples k fit.
      let r = c.args.self.now in
      let more : List Sample = samples_in c.args.octets.now in
      let h = c.in_ok-state.ensures.some in
      let laws : GuessLaws = assumption in
      let phase = phase-is r sigs samples k in
      let refuted : (s : Sent) → IsNext r sigs samples more s → ⊥ =
      λ s x.
      let is : c.guess-sent.result ≡ s =
      guessed laws r sigs samples more s c.guess-sent.result c.read_labels.new.demodulator c.in_ok-state.state c.read_labels.new.bits
      c.read_labels.new.labels c.frame_in-found.result phase k h
      (c.frame_in-found.ensures.found r.symbols r.low) c.guess-sent.ensures.guess x in
      let codable = subst (λ q. IsCodable r.framing.check r.framing.sender r.framing.dlci r.symbols r.phase q) (sym is) x.codable in
      let same : line_bits c.read_labels.new.bits
      ≡ slot_bits (4 * r.symbols) r.phase (slot_of (4 * r.symbols) (carries r c.guess-sent.result)) =
      bits-read c.points_differ.ensures r sigs samples more s c.read_labels.new.demodulator c.in_ok-state.state c.read_labels.new.bits
      c.read_labels.new.labels k h x
      ∙ ap (λ q. slot_bits (4 * r.symbols) q (slot_of (4 * r.symbols) (carries r s))) (sym phase)
      ∙ ap (λ q. slot_bits (4 * r.symbols) r.phase (slot_of (4 * r.symbols) (carries r q))) (sym is) in
      c.in_err-phase.ensures.none
      (subst (EndsAt r.framing.check r.framing.sender r.framing.dlci r.phase c.guess-sent.result) (sym c.end.ensures)
      (found-sent r.framing.check r.framing.sender r.framing.dlci r.symbols r.phase (line_bits c.read_labels.new.bits)
      c.frame_in-found.new.self
      c.frame_in-found.result c.guess-sent.result c.frame_in-found.ensures.at c.guess-sent.ensures.guess codable same)) codable in
      subst (λ q. IfNone q ((s : Sent) → IsNext r sigs samples more s → ⊥)) (sym c.from_residual-in_err-phase.ensures) refuted;
  framing = refl;
  size = refl;
}

pub returns-then-not-same_quads : goal.returns-then-not-same_quads
returns-then-not-same_quads c = record {
  some = λ sigs samples k. tt;
  none = λ sigs samples k fit s x.
      let r = c.args.self.now in
      let more : List Sample = samples_in c.args.octets.now in
      let h = c.in_ok-state.ensures.some in
      let laws : GuessLaws = assumption in
      let phase = phase-is r sigs samples k in
      let is : c.guess-sent.result ≡ s =
      guessed laws r sigs samples more s c.guess-sent.result c.read_labels.new.demodulator c.in_ok-state.state c.read_labels.new.bits
      c.read_labels.new.labels c.frame_in-found.result phase k h
      (c.frame_in-found.ensures.found r.symbols r.low) c.guess-sent.ensures.guess x in
      let coded = written-as r sigs samples c.guess-sent.result (line_bits c.write_again.new.out) k c.write_again.ensures.bits in
      c.same_quads.ensures.no c.if-not-same_quads.true
      (bits-read c.points_differ.ensures r sigs samples more s c.read_labels.new.demodulator c.in_ok-state.state c.read_labels.new.bits
      c.read_labels.new.labels k h x
      ∙ ap (λ q. bits_behind (4 * r.symbols) sigs (carries r q)) (sym is) ∙ sym coded);
  framing = refl;
  size = refl;
}

pub returns : goal.returns
returns c = record {
  some = λ sigs samples k.
      let r = c.args.self.now in
      let s : Sent = c.guess-sent.result in
      let mode : Mode = mode_of r.framing.sender in
      let more : List Sample = samples_in c.args.octets.now in
      let bits : List Bool = signal_bits (4 * r.symbols) sigs in
      let read : List ℕ = c.read_labels.new.bits in
      let h = c.in_ok-state.ensures.some in
      let coded : line_bits c.write_again.new.out ≡ bits_behind (4 * r.symbols) sigs (carries r s) =
      written-as r sigs samples s (line_bits c.write_again.new.out) k c.write_again.ensures.bits in
      let here : line_bits read ≡ bits_behind (4 * r.symbols) sigs (carries r s) =
      ap line_bits (c.same_quads.ensures.yes c.if-not-same_quads.false) ∙ coded in
      let all : bits ++ line_bits read ≡ signal_bits (4 * r.symbols) (sigs ++ carries r s ∷ []) = bits-more r sigs s read here in
      let labels : List ℕ = k.labels ++ c.read_labels.new.labels in
      let are : AreLabels labels (samples ++ more) = labels-more k.labels c.read_labels.new.labels samples more k.are h.are in
      let demodulated : DemodulatorStands mode c.read_labels.new.demodulator labels (bits ++ line_bits read) =
      h.stands mode k.labels bits k.read in
      let leads : Leads next_state 0 labels c.in_ok-state.state =
      Leads-append next_state 0 k.labels c.read_labels.new.labels r.state c.in_ok-state.state k.leads h.leads in
      let next : IsNext r sigs samples more s = record {
        codable = c.in_ok-phase.ensures.codable;
        modulated = subst (λ xs. Modulates (tap_of mode) (bits ++ xs) (samples ++ more)) here
            (sequence-modulates mode c.read_labels.new.demodulator labels (bits ++ line_bits read) (samples ++ more) c.in_ok-state.state
            demodulated are leads);
      } in
      let phase = phase-is r sigs samples k in
      let same : line_bits read ≡ slot_bits (4 * r.symbols) r.phase (slot_of (4 * r.symbols) (carries r s)) =
      here ∙ ap (λ q. slot_bits (4 * r.symbols) q (slot_of (4 * r.symbols) (carries r s))) (sym phase) in
      let ends : EndsAt r.framing.check r.framing.sender r.framing.dlci r.phase s c.end.result =
      subst (EndsAt r.framing.check r.framing.sender r.framing.dlci r.phase s) (sym c.end.ensures)
      (found-sent r.framing.check r.framing.sender r.framing.dlci r.symbols r.phase (line_bits read) c.frame_in-found.new.self
      c.frame_in-found.result s c.frame_in-found.ensures.at c.guess-sent.ensures.guess c.in_ok-phase.ensures.codable same) in
      let writer = writer-on r c.write_again.new.writer sigs samples s k c.write_again.ensures.stands in
      let symbols = c.write_again.ensures.symbols ∙ c.requires.writer.symbols in
      record {
        next = next;
        coded = labels-code r sigs samples more s c.read_labels.new.labels k h.are next;
        framing = refl;
        symbols = refl;
        stands = record {
          labels = labels;
          are = are;
          read = subst (λ (xs : List Bool). DemodulatorStands mode c.read_labels.new.demodulator labels xs) all demodulated;
          leads = leads;
          in_step = record {
            symbols = symbols;
            phase = phase-next r c.write_again.new.writer sigs s c.in_ok-phase.phase symbols writer phase (c.in_ok-phase.ensures.next ends);
          };
          writer = writer;
        };
      };
  none = λ sigs samples k fit. tt;
  framing = refl;
  size = refl;
}
