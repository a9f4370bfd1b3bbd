-- A recording goes on, whatever is sent next.
use Rattle.signal_commands.proofs.Names.{◌≡◌, ◌∙◌, ℕ, ◌+◌, ◌*◌, ◌/◌, ◌%◌, ◌<◌, ◌≤◌, Bool, List, [], ◌∷◌, ◌++◌, length, map, sum, refl, sym}
use Rattle.signal_commands.proofs.Names.{ap, subst, arith, append-nil, append_assoc, nat_eq, flat_map-append, map-append, All-push}
use Rattle.signal_commands.proofs.Names.{flat_map, low_bits, octet_bits, bits_of, number, Modulates, header_at, sample_octets, Rate}
use Rattle.signal_commands.proofs.Names.{Trellis, Quarters, Scrambles-more, tap_of, Scrambles, Mode, IsPrefixOf, IsRecordingOf, point_of}
use Rattle.signal_commands.proofs.Names.{Sample, turned-snoc, Leads, next_state}
use Rattle.scramblers.proofs.Streams.{four-behind}
use Rattle.symbol_map.specs.Labels.{label_of}
use Rattle.trellis_tables.specs.Table.{next_by_y}
use Rattle.trellis_tables.specs.Quads.{turn_of, uncoded_of}
use Rattle.trellis_tables.proofs.Tables.{branch_of, next_by_y-lt, y_of-lt}
use Rattle.trellis_tables.proofs.Codings.{Encodes-more}
use Rattle.line_coding.proofs.Fours.{fours-more}
use Rattle.rate_4800.specs.Modulates.{Modulates as QuarterModulates}
use Rattle.recordings.specs.Recording.{recording_octets}
use Rattle.signal_commands.specs.Encoding.Recorder.{ModulatesAt}
use Rattle.signal_commands.proofs.Encoding.Quarters.{sent_for, bit-lt, two-more, twos-behind}
use Rattle.signal_commands.proofs.Decoding.Joined.{octet-behind as octet-bits-more}
use Rattle.signal_commands.proofs.PickingUp.Longer.{tap-low}

-- a code sequence stays among the states
end-lt : (from : ℕ) (labels : List ℕ) (end : ℕ) → from < 8 → Leads next_state from labels end → end < 8
end-lt from [] end h e = subst (λ s. s < 8) e h
end-lt from (label ∷ labels) end h (mid, step, rest) =
    end-lt mid labels end (subst (λ s. s < 8) (sym (branch_of from label mid step).to_is) (next_by_y-lt from _ h (y_of-lt label))) rest

-- the quad of four bits
abbrev quad_of : Bool → Bool → Bool → Bool → ℕ
quad_of a b c d = number a + 2 * number b + 4 * number c + 8 * number d

quad-bits_of : (a b c d : Bool) → low_bits 4 (quad_of a b c d) ≡ a ∷ b ∷ c ∷ d ∷ []
quad-bits_of a b c d = grind (arith)

quad-lt : (a b c d : Bool) → quad_of a b c d < 16
quad-lt a b c d = omega (arith, bit-lt a, bit-lt b, bit-lt c, bit-lt d)

-- one sample more
pub record Longer (tap : ℕ) (bits : List Bool) (samples : List Sample) : Type 0 where
  pub sample : Sample
  pub modulated : Modulates tap bits (samples ++ sample ∷ [])

Modulates-more : (tap : ℕ) (bits : List Bool) (samples : List Sample) (a b c d : Bool) → 1 ≤ tap → Modulates tap bits samples
    → Longer tap (bits ++ a ∷ b ∷ c ∷ d ∷ []) samples
Modulates-more tap bits samples a b c d low h =
    let a' = sent_for tap a h.line in
    let b' = sent_for tap b (h.line ++ a' ∷ []) in
    let c' = sent_for tap c ((h.line ++ a' ∷ []) ++ b' ∷ []) in
    let d' = sent_for tap d (((h.line ++ a' ∷ []) ++ b' ∷ []) ++ c' ∷ []) in
    let one : Scrambles tap (bits ++ a ∷ []) (h.line ++ a' ∷ []) = Scrambles-more tap bits h.line a a' low h.scrambled refl in
    let two : Scrambles tap ((bits ++ a ∷ []) ++ b ∷ []) ((h.line ++ a' ∷ []) ++ b' ∷ []) = Scrambles-more tap _ _ b b' low one refl in
    let three : Scrambles tap (((bits ++ a ∷ []) ++ b ∷ []) ++ c ∷ []) (((h.line ++ a' ∷ []) ++ b' ∷ []) ++ c' ∷ []) =
    Scrambles-more tap _ _ c c' low two refl in
    let four : Scrambles tap ((((bits ++ a ∷ []) ++ b ∷ []) ++ c ∷ []) ++ d ∷ [])
    ((((h.line ++ a' ∷ []) ++ b' ∷ []) ++ c' ∷ []) ++ d' ∷ []) = Scrambles-more tap _ _ d d' low three refl in
    let quad = quad_of a' b' c' d' in
    let y = (sum (map turn_of h.quads) + turn_of quad) % 4 in
    let label = label_of (h.end % 2) y (uncoded_of quad) in
    let below : y < 4 = omega arith in
    record {
      sample = point_of label;
      modulated = record {
        line = h.line ++ a' ∷ b' ∷ c' ∷ d' ∷ [];
        quads = h.quads ++ quad ∷ [];
        labels = h.labels ++ label ∷ [];
        end = next_by_y h.end y;
        scrambled = subst (λ (p : List Bool × List Bool). Scrambles tap p.0 p.1)
            (λ i. (four-behind bits a b c d i, four-behind h.line a' b' c' d' i)) four;
        in_fours = fours-more h.line h.quads quad (a' ∷ b' ∷ c' ∷ d' ∷ []) h.in_fours (quad-bits_of a' b' c' d');
        are_quads = All-push (λ q. q < 16) h.quads quad h.are_quads (quad-lt a' b' c' d');
        encoded = Encodes-more h.quads h.labels h.end y quad (end-lt 0 h.labels h.end (omega arith) h.encoded.leads) below
            (quad-lt a' b' c' d') h.encoded
            (ap (λ l. l ++ y ∷ []) h.encoded.turned_is ∙ sym (turned-snoc (map turn_of h.quads) (turn_of quad)));
        points = ap (λ xs. xs ++ point_of label ∷ []) h.points ∙ sym (map-append point_of h.labels (label ∷ []));
      };
    }

-- the samples of one octet more
record LongerAt (rate : Rate) (tap : ℕ) (bits : List Bool) (samples : List Sample) : Type 0 where
  pub more : List Sample
  pub modulated : ModulatesAt rate tap bits (samples ++ more)

octet-longer : (rate : Rate) (tap : ℕ) (bits : List Bool) (samples : List Sample) (n : ℕ) → 1 ≤ tap → ModulatesAt rate tap bits samples
    → LongerAt rate tap (bits ++ octet_bits n) samples
octet-longer Trellis tap bits samples n low h =
    let one = Modulates-more tap bits samples (nat_eq (n % 2) 1) (nat_eq (n / 2 % 2) 1) (nat_eq (n / 2 / 2 % 2) 1)
    (nat_eq (n / 2 / 2 / 2 % 2) 1) low h in
    let m : ℕ = n / 2 / 2 / 2 / 2 in
    let two = Modulates-more tap _ (samples ++ one.sample ∷ []) (nat_eq (m % 2) 1) (nat_eq (m / 2 % 2) 1) (nat_eq (m / 2 / 2 % 2) 1)
    (nat_eq (m / 2 / 2 / 2 % 2) 1) low one.modulated in
    record {
      more = one.sample ∷ two.sample ∷ [];
      modulated = subst (λ (p : List Bool × List Sample). Modulates tap p.0 p.1)
          (λ i. (append_assoc bits (low_bits 4 n) (low_bits 4 m) i, append_assoc samples (one.sample ∷ []) (two.sample ∷ []) i))
          two.modulated;
    }
octet-longer Quarters tap bits samples n low h =
    let bit : ℕ → Bool = λ m. nat_eq (m % 2) 1 in
    let p : ℕ = n / 2 / 2 in
    let q : ℕ = p / 2 / 2 in
    let r : ℕ = q / 2 / 2 in
    let one = two-more tap bits samples (bit n) (bit (n / 2)) low h in
    let two = two-more tap _ (samples ++ one.sample ∷ []) (bit p) (bit (p / 2)) low one.modulated in
    let three = two-more tap _ ((samples ++ one.sample ∷ []) ++ two.sample ∷ []) (bit q) (bit (q / 2)) low two.modulated in
    let four = two-more tap _ (((samples ++ one.sample ∷ []) ++ two.sample ∷ []) ++ three.sample ∷ []) (bit r)
    (bit (r / 2)) low three.modulated in
    record {
      more = one.sample ∷ two.sample ∷ three.sample ∷ four.sample ∷ [];
      modulated = subst (λ (p : List Bool × List Sample). QuarterModulates tap p.0 p.1) (λ i. (
        twos-behind bits (bit n) (bit (n / 2)) (bit p) (bit (p / 2)) (bit q) (bit (q / 2)) (bit r) (bit (r / 2)) i,
        four-behind samples one.sample two.sample three.sample four.sample i,
      )) four.modulated;
    }

-- the recording of more octets begins with this one
pub record GoesOn (rate : Rate) (mode : Mode) (octets recording : List ℕ) : Type 0 where
  pub whole : List ℕ
  pub samples : ℕ
  pub recorded : IsRecordingOf rate mode octets whole samples
  pub front : IsPrefixOf recording whole

samples-front : (rate : Rate) (mode : Mode) (samples more : List Sample)
    → IsPrefixOf (recording_octets rate mode samples) (recording_octets rate mode (samples ++ more))
samples-front rate mode samples more = (
  flat_map sample_octets more,
  append_assoc (header_at rate mode) (flat_map sample_octets samples) (flat_map sample_octets more)
      ∙ ap (λ xs. header_at rate mode ++ xs) (sym (flat_map-append sample_octets samples more)),
)

pub prefix-trans : (a b c : List ℕ) → IsPrefixOf a b → IsPrefixOf b c → IsPrefixOf a c
prefix-trans a b c (left, e) (more, f) = (left ++ more, sym (append_assoc a left more) ∙ ap (λ xs. xs ++ more) e ∙ f)

-- one octet more
octet-more : (rate : Rate) (mode : Mode) (octets recording : List ℕ) (samples octet : ℕ) → IsRecordingOf rate mode octets recording samples
    → GoesOn rate mode (octets ++ octet ∷ []) recording
octet-more rate mode octets recording samples octet h =
    let tap = tap_of mode in
    let longer = octet-longer rate tap (bits_of octets) h.samples octet (tap-low mode) h.modulated in
    let all : List Sample = h.samples ++ longer.more in
    record {
      whole = recording_octets rate mode all;
      samples = length all;
      recorded = record {
        samples = all;
        modulated = subst (λ (bits : List Bool). ModulatesAt rate tap bits all) (octet-bits-more octets octet) longer.modulated;
        count_is = refl;
        recording_is = refl;
      };
      front = subst (λ (r : List ℕ). IsPrefixOf r (recording_octets rate mode all)) (sym h.recording_is)
          (samples-front rate mode h.samples longer.more);
    }

-- any octets more
pub goes_on : (rate : Rate) (mode : Mode) (octets recording : List ℕ) (samples : ℕ) (more : List ℕ)
    → IsRecordingOf rate mode octets recording samples → GoesOn rate mode (octets ++ more) recording
goes_on rate mode octets recording samples [] h = record {
  whole = recording;
  samples = samples;
  recorded = subst (λ (xs : List ℕ). IsRecordingOf rate mode xs recording samples) (sym (append-nil octets)) h;
  front = ([], append-nil recording);
}
goes_on rate mode octets recording samples (octet ∷ more) h =
    let next = octet-more rate mode octets recording samples octet h in
    let rest = goes_on rate mode (octets ++ octet ∷ []) next.whole next.samples more next.recorded in
    record {
      whole = rest.whole;
      samples = rest.samples;
      recorded = subst (λ (xs : List ℕ). IsRecordingOf rate mode xs rest.whole rest.samples)
          (append_assoc octets (octet ∷ []) more) rest.recorded;
      front = prefix-trans recording next.whole rest.whole next.front rest.front;
    }
