-- What was sent at 4800 bit/s comes back.
use Rattle.gateway.proofs.Names.{◌≡◌, ◌∙◌, ℕ, ◌*◌, ◌<◌, Bool, List, [], ◌∷◌, ◌++◌, length, map, take, drop, get_or, Option, None, refl, sym}
use Rattle.gateway.proofs.Names.{ap, subst, arith, append-nil, append_assoc, length-append, take-append-drop, take-map, length-take-le}
use Rattle.gateway.proofs.Names.{IsReleased, LostIs, decoding_of, HasEncoded, ReadsAs, FollowsSent, AnyReader, SampleEncoder}
use Rattle.gateway.proofs.Names.{Descrambles_once, tap_of, Mode, Sample}
use Rattle.std.proofs.Common.{All}
use Rattle.std.specs.List.{range_with_len}
use Rattle.std.proofs.lemmas.List.Elements.{All-nil, All-cons, All-head, All-tail}
use Rattle.trellis_tables.specs.Differential.Turned.{turned, turned_at}
use Rattle.trellis_tables.proofs.Turning.Places.{length-unturned}
use Rattle.exact_decoder.proofs.Surviving.Least.{some-released}
use Rattle.exact_decoder.specs.Decoder.{heard}
use Rattle.rate_4800.specs.Code.{point_of}
use Rattle.rate_4800.specs.Demodulates.{Demodulates, line_of}
use Rattle.rate_4800.specs.Modulates.{Modulates}
use Rattle.rate_4800.specs.Laws.{quarters, AllAreReleased, NearOnesAreRead}
use Rattle.rate_4800.proofs.Reading.{quarters_have_laws}
use Rattle.rate_4800.proofs.Standing.{modulated, demodulated}
use Rattle.rate_4800.proofs.Twos.{comes-back}
use Rattle.gateway.specs.declared.any_reader.AnyReader.TheVariants as readers
use Rattle.gateway.specs.declared.any_reader.LineKind.TheVariants as lines
use Rattle.gateway.specs.declared.encoder.SampleEncoder.TheVariants as encoders
use Rattle.gateway.specs.SignalLaws.{AreEachNear, half_way, QuarterBitsComeBack, AllQuarterBitsComeBack}
use Rattle.gateway.proofs.Sent.{some-tap, begins-more, take-front, quarters-carry-first, length-twos}

-- what stands at a place
at-place : (xs : List ℕ) (x : ℕ) (ys : List ℕ) (n : ℕ) → n ≡ length xs → get_or (xs ++ x ∷ ys) n 0 ≡ x
at-place [] x ys n e = ap (λ k. get_or (x ∷ ys) k 0) e
at-place (y ∷ xs) x ys n e = ap (λ k. get_or (y ∷ (xs ++ x ∷ ys)) k 0) e ∙ at-place xs x ys (length xs) refl

-- samples that are each near the points of labels are read as these labels, from a place on
read-on : NearOnesAreRead → (labels : List ℕ) (past rest front : List ℕ) (before samples : List Sample) → front ≡ past ++ rest
    → length past ≡ length before → length rest ≡ length samples → All (λ label. label < 4) labels
    → AreEachNear half_way (map point_of labels) samples → IsReleased quarters (before ++ samples) front → rest ≡ labels
read-on read [] past [] front before [] e same count few near released = refl
read-on read [] past (x ∷ rest) front before [] e same count few near released = absurd (omega arith)
read-on read [] past rest front before (s ∷ samples) e same count few near released = absurd near
read-on read (label ∷ labels) past rest front before [] e same count few near released = absurd near
read-on read (label ∷ labels) past [] front before (s ∷ samples) e same count few near released = absurd (omega arith)
read-on read (label ∷ labels) past (x ∷ rest) front before (s ∷ samples) e same count few near released =
    let r = read before samples s label front (All-head (λ l. l < 4) label labels few) near.0 released in
    let first : x ≡ label = sym (at-place past x rest (length before) (sym same)) ∙ ap (λ xs. get_or xs (length before) 0) (sym e ∙ r.2)
    ∙ at-place r.0 label r.1 (length before) (sym r.3) in
    let more : front ≡ (past ++ x ∷ []) ++ rest = e ∙ sym (append_assoc past (x ∷ []) rest) in
    let longer : length (past ++ x ∷ []) ≡ length (before ++ s ∷ []) =
    omega (arith, same, length-append {A = ℕ} past (x ∷ []), length-append {A = Sample} before (s ∷ [])) in
    let fewer : length rest ≡ length samples = omega arith in
    let whole : IsReleased quarters ((before ++ s ∷ []) ++ samples) front =
    subst (λ xs. IsReleased quarters xs front) (sym (append_assoc before (s ∷ []) samples)) released in
    let behind : rest ≡ labels = read-on read labels (past ++ x ∷ []) rest front (before ++ s ∷ []) samples more longer fewer
    (All-tail (λ l. l < 4) label labels few) near.1 whole in
    λ i. first i ∷ behind i

read-all : AllAreReleased → NearOnesAreRead → (labels front : List ℕ) (samples : List Sample) → All (λ label. label < 4) labels
    → AreEachNear half_way (map point_of labels) samples → IsReleased quarters samples front → front ≡ labels
read-all released read labels front samples few near r =
    read-on read labels [] front front [] samples refl refl (released samples front r) few near r

-- the line is never lost, whatever was heard
never-lost : AllAreReleased → (depth : ℕ) (samples : List Sample) (lost : Option ℕ) → LostIs quarters depth samples lost → lost ≡ None
never-lost released depth samples lost h = grind (arith, length-take-le)

turns-small : (q places : List ℕ) → All (λ label. label < 4) (map (turned_at q) places)
turns-small q [] = All-nil (λ label. label < 4)
turns-small q (place ∷ places) = grind (arith, All-cons, turns-small q places)

-- labels below 4 of which the first are below 4
few-first : (front back : List ℕ) → All (λ label. label < 4) (front ++ back) → All (λ label. label < 4) front
few-first [] back h = All-nil (λ label. label < 4)
few-first (x ∷ front) back h = All-cons (λ label. label < 4) x front (All-head (λ l. l < 4) x (front ++ back) h)
    (few-first front back (All-tail (λ l. l < 4) x (front ++ back) h))

-- the labels of an encoder's first samples, and what all of them carry
record FirstLabels (mode : Mode) (sent : List Bool) (first : List Sample) : Type 0 where
  pub labels : List ℕ
  pub later : List ℕ
  pub carried : Demodulates (tap_of mode) (labels ++ later) sent
  pub few : All (λ label. label < 4) labels
  pub points : first ≡ map point_of labels

first-labels : (mode : Mode) (e : SampleEncoder) (sent : List Bool) (samples first later : List Sample)
    → HasEncoded lines.Quarters mode e sent samples → samples ≡ first ++ later → FirstLabels mode sent first
first-labels mode (encoders.Begun m) sent samples first later h e = absurd h
first-labels mode (encoders.Quarters m) sent samples first later h e =
    let s : Modulates (tap_of mode) sent samples = modulated mode m sent samples h in
    let all : List ℕ = turned s.turns in
    let n : ℕ = length first in
    let small : All (λ label. label < 4) all = turns-small s.turns (range_with_len 0 (length s.turns)) in
    record {
      labels = take n all;
      later = drop n all;
      carried = subst (λ (xs : List ℕ). Demodulates (tap_of mode) xs sent) (sym (take-append-drop n all))
          (comes-back (tap_of mode) sent s.line s.turns s.scrambled s.in_twos s.are_turns);
      few = few-first (take n all) (drop n all) (subst (λ (xs : List ℕ). All (λ label. label < 4) xs) (sym (take-append-drop n all)) small);
      points = sym (take-front first later) ∙ ap (take n) (sym e ∙ s.points) ∙ take-map point_of n all;
    }

-- a decoder that released the labels has given the first of the bits
follows : AllAreReleased → NearOnesAreRead
    → (mode : Mode) (reader : AnyReader) (sent given : List Bool) (samples : List Sample) (labels later : List ℕ)
    → Demodulates (tap_of mode) (labels ++ later) sent → All (λ label. label < 4) labels
    → AreEachNear half_way (map point_of labels) samples
    → ReadsAs lines.Quarters mode reader samples given → FollowsSent 2 0 (decoding_of reader) sent given samples
follows released read mode (readers.Begun r) sent given samples labels later carried few near reads = absurd reads
follows released read mode (readers.Middle r) sent given samples labels later carried few near reads = absurd reads
follows released read mode (readers.Quarters r) sent given samples labels later carried few near reads =
    let taken : List ℕ = reads.labels in
    let kept : r.decoder.lost ≡ None = never-lost released 128 samples r.decoder.lost reads.decoder.lost in
    let front : IsReleased quarters samples (taken ++ r.decoder.pending) =
    subst (λ (lost : Option ℕ). IsReleased quarters (heard lost samples) (taken ++ r.decoder.pending)) kept reads.decoder.released in
    let all : taken ++ r.decoder.pending ≡ labels = read-all released read labels (taken ++ r.decoder.pending) samples few near front in
    let count : length (taken ++ r.decoder.pending) ≡ length samples = released samples (taken ++ r.decoder.pending) front in
    let bits : Demodulates (tap_of mode) taken given = demodulated mode r.demodulator taken given reads.demodulator in
    let each : length given ≡ 2 * length taken = bits.lengths ∙ length-twos _ ∙ ap (λ n. 2 * n) (length-unturned taken) in
    record {
      never_lost = kept;
      were_sent = quarters-carry-first (tap_of mode) (labels ++ later) taken sent given (some-tap mode) carried bits
          (begins-more taken r.decoder.pending labels later all);
      few_to_come = omega (arith, count, each, length-append {A = ℕ} taken r.decoder.pending);
    }

pub quarter-bits-come-back : AllAreReleased → NearOnesAreRead → QuarterBitsComeBack
quarter-bits-come-back released read mode e d sent given samples heard encoded heard_each decoded =
    let l = first-labels mode e sent samples heard_each.first heard_each.later encoded heard_each.parts in
    follows released read mode d.reader sent given heard l.labels l.later l.carried l.few
    (subst (λ (points : List Sample). AreEachNear half_way points heard) l.points heard_each.near) decoded.reads

-- a list that begins one of the same length is that one
whole : (front labels back : List ℕ) → front ++ back ≡ labels → length front ≡ length labels → front ≡ labels
whole front labels [] e same = sym (append-nil front) ∙ e
whole front labels (x ∷ back) e same = absurd (omega (arith, ap length e, length-append {A = ℕ} front (x ∷ back)))

pub all-quarter-bits-come-back : AllAreReleased → NearOnesAreRead → AllQuarterBitsComeBack
all-quarter-bits-come-back released read mode (encoders.Begun m) sent given last samples heard encoded near ends = absurd encoded
all-quarter-bits-come-back released read mode (encoders.Quarters m) sent given last samples heard encoded near ends =
    let s : Modulates (tap_of mode) sent samples = modulated mode m sent samples encoded in
    let labels : List ℕ = turned s.turns in
    let few : All (λ label. label < 4) labels = turns-small s.turns (range_with_len 0 (length s.turns)) in
    let r = some-released quarters 1 4 1 heard quarters_have_laws in
    let front : List ℕ = r.0 in
    let sent_ones : front ≡ labels = read-all released read labels front heard few
    (subst (λ (points : List Sample). AreEachNear half_way points heard) s.points near) r.1 in
    let begins = r.1.common ends.least.end ends.labels ends.least.survivor in
    let one : front ≡ ends.labels = whole front ends.labels begins.0 begins.1
    (released heard front r.1 ∙ sym ends.least.survivor.sequence.same_length) in
    let same : ends.labels ≡ labels = sym one ∙ sent_ones in
    let bits : Demodulates (tap_of mode) labels (given ++ last) =
    subst (λ (xs : List ℕ). Demodulates (tap_of mode) xs (given ++ last)) same
    (demodulated mode ends.carried.reader ends.labels (given ++ last) ends.carried.read) in
    Descrambles_once (tap_of mode) (line_of labels) (given ++ last) sent bits
    (comes-back (tap_of mode) sent s.line s.turns s.scrambled s.in_twos s.are_turns)
