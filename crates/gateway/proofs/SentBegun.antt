-- What was sent at 9600 bit/s comes back.
use Rattle.gateway.proofs.Names.{append-nil, ◌≡◌, ◌∙◌, ℕ, ◌+◌, ◌≤◌, Bool, List, [], ◌++◌, length, map, take, drop, None, refl, sym, ap}
use Rattle.gateway.proofs.Names.{subst, arith, append_assoc, length-append, take-append-drop, take-map, DecoderStands, bits_of, decoding_of}
use Rattle.gateway.proofs.Names.{HasEncoded, ReadsAs, FollowsSent, AnyReader, SampleEncoder, four-each, Demodulates, line_of}
use Rattle.gateway.proofs.Names.{distances-cost, length-points, distances, IsNear, Descrambles_once, tap_of, Mode, IsPrefixOf, point_of}
use Rattle.gateway.proofs.Names.{Sample, far_from, Leads, cost, next_state}
use Rattle.trellis_tables.proofs.Sequences.{Leads-take}
use Rattle.exact_decoder.specs.Laws.{IsOnlyLeast}
use Rattle.line_coding.specs.Modulates.{Modulates}
use Rattle.line_coding.proofs.Readings.{comes-back}
use Rattle.line_coding.proofs.Standing.{modulated, demodulated}
use Rattle.noise_bound.specs.Near.{only, sure}
use Rattle.noise_bound.specs.NoiselessLaws.{OnlySentIsLeast, DecodesNoiseless}
use Rattle.noise_bound.specs.Laws.{SureIsNear}
use Rattle.noise_bound.specs.NoisyLaws.{DecodesNear}
use Rattle.gateway.specs.declared.any_reader.AnyReader.TheVariants as readers
use Rattle.gateway.specs.declared.any_reader.LineKind.TheVariants as lines
use Rattle.gateway.specs.declared.encoder.SampleEncoder.TheVariants as encoders
use Rattle.gateway.specs.SignalLaws.{SentBitsComeBack, SentBitsComeSoon, AllBitsComeBack, SureBitsAreGiven}
use Rattle.gateway.proofs.Sent.{some-tap, begins-more, take-front, carries-first}

-- the labels of an encoder's first samples, and what all of them carry
pub record FirstLabels (mode : Mode) (sent : List Bool) (first : List Sample) : Type 0 where
  pub labels : List ℕ
  pub later : List ℕ
  pub carried : Demodulates (tap_of mode) (labels ++ later) sent
  pub end : ℕ
  pub leads : Leads next_state 0 labels end
  pub points : first ≡ map point_of labels

pub first-labels : (mode : Mode) (e : SampleEncoder) (sent : List Bool) (samples first later : List Sample)
    → HasEncoded lines.Begun mode e sent samples → samples ≡ first ++ later → FirstLabels mode sent first
first-labels mode (encoders.Quarters m) sent samples first later h e = absurd h
first-labels mode (encoders.Begun m) sent samples first later h e =
    let s : Modulates (tap_of mode) sent samples = modulated mode m sent samples h in
    let n : ℕ = length first in
    let lead = Leads-take next_state n 0 s.labels s.end s.encoded.leads in
    record {
      labels = take n s.labels;
      later = drop n s.labels;
      carried = subst (λ (xs : List ℕ). Demodulates (tap_of mode) xs sent) (sym (take-append-drop n s.labels))
          (comes-back (tap_of mode) sent s.line s.quads s.labels s.end s.scrambled s.in_fours s.are_quads s.encoded);
      end = lead.0;
      leads = lead.1;
      points = sym (take-front first later) ∙ ap (take n) (sym e ∙ s.points) ∙ take-map point_of n s.labels;
    }

-- a decoder that released the first of the labels has given the first of the bits
follows : (most : ℕ) (mode : Mode) (reader : AnyReader) (sent given : List Bool) (heard : List Sample) (labels later : List ℕ)
    → Demodulates (tap_of mode) (labels ++ later) sent → length labels ≡ length heard
    → ReadsAs lines.Begun mode reader heard given
    → ((taken : List ℕ) → DecoderStands next_state point_of (only 0) 128 (decoding_of reader) heard taken
    → ((decoding_of reader).lost ≡ None) × IsPrefixOf (taken ++ (decoding_of reader).pending) labels
    × (length labels ≤ length (taken ++ (decoding_of reader).pending) + most))
    → FollowsSent 4 most (decoding_of reader) sent given heard
follows most mode (readers.Middle r) sent given heard labels later carried same reads decodes = absurd reads
follows most mode (readers.Quarters r) sent given heard labels later carried same reads decodes = absurd reads
follows most mode (readers.Begun r) sent given heard labels later carried same reads decodes =
    let taken : List ℕ = reads.labels in
    let f = decodes taken reads.decoder in
    let back : List ℕ = f.1.0 in
    let front : taken ++ (r.decoder.pending ++ back) ≡ labels = sym (append_assoc taken r.decoder.pending back) ∙ f.1.1 in
    let read : Demodulates (tap_of mode) taken given = demodulated mode r.demodulator taken given reads.demodulator in
    record {
      never_lost = f.0;
      were_sent = carries-first (tap_of mode) (labels ++ later) taken sent given (some-tap mode) carried read
          (begins-more taken (r.decoder.pending ++ back) labels later front);
      few_to_come = omega (arith, f.2, same, four-each (tap_of mode) taken given read, length-append {A = ℕ} taken r.decoder.pending);
    }

pub sent-bits-come-back : DecodesNear → SentBitsComeBack
sent-bits-come-back decodes mode e d sent given samples heard encoded heard_of decoded =
    let l = first-labels mode e sent samples heard_of.first heard_of.later encoded heard_of.parts in
    let same : length l.labels ≡ length heard = sym (ap length l.points ∙ length-points l.labels) ∙ heard_of.same_length in
    let price : distances heard_of.first heard ≡ cost far_from l.labels heard = ap (λ points. distances points heard) l.points
    ∙ distances-cost l.labels heard in
    let near : IsNear sure (only 0) l.labels heard = record {
      end = l.end;
      sequence = record { code_sequence = record { from = 0; starts_there = refl; leads = l.leads }; same_length = same };
      near = omega (arith, price, heard_of.near);
    } in
    follows 126 mode d.reader sent given heard l.labels l.later l.carried same decoded.reads (λ taken stands.
    let f = decodes 0 128 l.labels taken heard (decoding_of d.reader) (omega arith) near
    stands in (f.never_lost, f.was_sent, f.few_to_come))

pub sent-bits-come-soon : DecodesNoiseless → SentBitsComeSoon
sent-bits-come-soon decodes mode e d sent given heard later encoded decoded =
    let l = first-labels mode e sent (heard ++ later) heard later encoded refl in
    let same : length l.labels ≡ length heard = sym (ap length l.points ∙ length-points l.labels) in
    follows 24 mode d.reader sent given heard l.labels l.later l.carried same decoded.reads (λ taken stands.
    let f = decodes 0 128 l.labels taken heard (decoding_of d.reader) (omega arith)
    (record { start_there = omega arith; end = l.end; leads = l.leads; exact = l.points })
    stands in (f.never_lost, f.was_sent, f.few_to_come))

pub all-bits-come-back : OnlySentIsLeast → AllBitsComeBack
all-bits-come-back least mode (encoders.Quarters m) sent given last samples h ends = absurd h
all-bits-come-back least mode (encoders.Begun m) sent given last samples h ends =
    let s : Modulates (tap_of mode) sent samples = modulated mode m sent samples h in
    let only_one : IsOnlyLeast _ samples s.labels = least 0 s.labels samples
    (record { start_there = omega arith; end = s.end; leads = s.encoded.leads; exact = s.points }) in
    let same : ends.labels ≡ s.labels = only_one.only ends.labels ends.least.least in
    let read : Demodulates (tap_of mode) s.labels (given ++ last) =
    subst (λ (xs : List ℕ). Demodulates (tap_of mode) xs (given ++ last)) same
    (demodulated mode ends.carried.reader ends.labels (given ++ last) ends.carried.read) in
    Descrambles_once (tap_of mode) (line_of s.labels) (given ++ last) sent read
    (comes-back (tap_of mode) sent s.line s.quads s.labels s.end s.scrambled s.in_fours s.are_quads s.encoded)

pub sure-bits-are-given : DecodesNear → SureIsNear → SureBitsAreGiven
sure-bits-are-given decodes sure-near mode d bits given samples price c low decoded =
    let labels : List ℕ = c.cost.modulated.labels in
    let s = c.cost.modulated in
    let near : IsNear sure (only 0) labels samples = sure-near mode c.octets samples price c.cost low in
    let carried : Demodulates (tap_of mode) (labels ++ []) bits =
    subst (λ (xs : List ℕ). Demodulates (tap_of mode) xs bits) (sym (append-nil labels))
    (subst (λ (xs : List Bool). Demodulates (tap_of mode) labels xs) (sym c.bits_are)
    (comes-back (tap_of mode) (bits_of c.octets) s.line s.quads s.labels s.end s.scrambled s.in_fours s.are_quads s.encoded)) in
    follows 126 mode d.reader bits given samples labels [] carried c.cost.same_length decoded.reads (λ taken stands.
    let f = decodes 0 128 labels taken samples (decoding_of d.reader) (omega arith) near
    stands in (f.never_lost, f.was_sent, f.few_to_come))
