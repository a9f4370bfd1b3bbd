-- What a line stands for once a slot has passed.
use Rattle.sample_line.proofs.Names.{◌≡◌, ◌∙◌, ◌+◌, ◌*◌, ℕ, suc, nat_eq, Bool, List, [], ◌∷◌, ◌++◌, length, map, take, drop, None, refl}
use Rattle.sample_line.proofs.Names.{sym, ap, subst, arith, length-append, take-append_seam, map-append, take-append-drop, Signal}
use Rattle.sample_line.proofs.Names.{signal_bits, slot_of, slots_of, DecoderStands, line_depth, Check, Heard, Seen, Sent, Modulates}
use Rattle.sample_line.proofs.Names.{ScriptValue, IsCodedAs, Kept, LineStands, bits_behind, size_of, sender_of, decoder_of, mode_of}
use Rattle.sample_line.proofs.Names.{IsOutcome, CarriesBetween, LosesAmong, LosesWithin, Gives, displaced_from, Records, Tallies, Path}
use Rattle.sample_line.proofs.Names.{Tally, tap_of, Role, point_of, Sample, next_state}
use Rattle.bit_stuffing.specs.Slots.{sent_bits}
use Rattle.bit_stuffing.proofs.Fill.{bits-append}
use Rattle.sample_line.specs.Line.{PassesSlot}
use Rattle.sample_line.proofs.Standing.{recorded, gives}
use Rattle.sample_line.proofs.Once.{tap-some, modulates-once, modulates-take, length-modulated}

abbrev pub kept : ℕ → ℕ → Path → Kept
kept symbols n path = record { symbols = symbols; passed = n; path = path }

pub slot-added : (size : ℕ) (before : List Signal) (signal : Signal)
    → signal_bits size (before ++ signal ∷ []) ≡ signal_bits size before ++ bits_behind size before signal
slot-added size before signal =
    ap (sent_bits size) (map-append (slot_of size) before (signal ∷ [])) ∙ bits-append size 0 (slots_of size before) (slot_of size signal)

-- the points of a slot follow those of all before
all-modulated : (sender : Role) (size : ℕ) (before : List Signal) (signal : Signal) (labels : List ℕ) (points : List Sample)
    → Modulates (tap_of (mode_of sender)) (signal_bits size before) points → IsCodedAs sender size before signal labels
    → Modulates (tap_of (mode_of sender)) (signal_bits size before ++ bits_behind size before signal) (points ++ map point_of labels)
all-modulated sender size before signal labels points m c =
    let tap : ℕ = tap_of (mode_of sender) in
    let same : c.points ≡ points = modulates-once tap (signal_bits size before) c.points points (tap-some sender) c.earlier m in
    subst (λ (xs : List Sample). Modulates tap (signal_bits size before ++ bits_behind size before signal) (xs ++ map point_of labels)) same
    c.modulated

take-behind : {X : Type 0} (front back : List X) (n : ℕ) → take (length front + n) (front ++ back) ≡ front ++ take n back
take-behind {X} [] back n =
    let e : length {A = X} [] + n ≡ n = omega arith in
    ap (λ k. take k back) e
take-behind (x ∷ front) back n =
    let e : length (x ∷ front) + n ≡ suc (length front + n) = omega arith in
    ap (λ k. take k (x ∷ (front ++ back))) e ∙ ap (λ xs. x ∷ xs) (take-behind front back n)

-- a line that is lost among the points of a slot is lost within its bits
pub lost-within : (script : ScriptValue) (sender : Role) (size : ℕ) (before : List Signal) (signal : Signal) (labels : List ℕ)
    (points : List Sample) (symbol : ℕ)
    → Modulates (tap_of (mode_of sender)) (signal_bits size before) points → IsCodedAs sender size before signal labels
    → LosesAmong sender script points (map point_of labels) symbol
    → LosesWithin sender script (signal_bits size before) (bits_behind size before signal) symbol
lost-within script sender size before signal labels points symbol m c l = record {
  first = take (4 * n) bits;
  rest = drop (4 * n) bits;
  bits_are = sym (take-append-drop (4 * n) bits);
  loses = record {
    samples = displaced_from script sender 0 (points ++ l.first);
    recorded = record { points = points ++ l.first; modulated = front; samples_are = refl };
    lost = l.loses;
  };
}
  where
    tap : ℕ
    tap = tap_of (mode_of sender)

    earlier : List Bool
    earlier = signal_bits size before

    bits : List Bool
    bits = bits_behind size before signal

    n : ℕ
    n = length l.first

    whole : Modulates tap (earlier ++ bits) (points ++ (l.first ++ l.rest))
    whole = subst (λ (xs : List Sample). Modulates tap (earlier ++ bits) (points ++ xs)) l.points_are
        (all-modulated sender size before signal labels points m c)

    long : 4 * (length points + n) ≡ length earlier + 4 * n
    long = let e = length-modulated tap earlier points m in omega (arith, e)

    bits-are : take (4 * (length points + n)) (earlier ++ bits) ≡ earlier ++ take (4 * n) bits
    bits-are = ap (λ k. take k (earlier ++ bits)) long ∙ take-behind earlier bits (4 * n)

    points-are : take (length points + n) (points ++ (l.first ++ l.rest)) ≡ points ++ l.first
    points-are = take-behind points (l.first ++ l.rest) n ∙ ap (λ xs. points ++ xs) (take-append_seam l.first l.rest)

    front : Modulates tap (earlier ++ take (4 * n) bits) (points ++ l.first)
    front = subst (λ (xs : List Sample). Modulates tap (earlier ++ take (4 * n) bits) xs) points-are
        (subst (λ (xs : List Bool). Modulates tap xs (take (length points + n) (points ++ (l.first ++ l.rest)))) bits-are
        (modulates-take tap (length points + n) (earlier ++ bits) (points ++ (l.first ++ l.rest)) (tap-some sender) whole))

pub slot-passes : (script : ScriptValue) (line : Kept) (path : Path) (passed : List Signal) (signal : Signal) (check : Check) (dlci : ℕ)
    (loses : Bool) (s : Sent) (labels : List ℕ) (tally : Tally) (heard : Heard)
    → (stands : LineStands line script passed)
    → IsCodedAs (sender_of line) (size_of line) passed signal labels
    → path.transmitter.sender ≡ line.path.transmitter.sender
    → CarriesBetween path script (stands.points ++ map point_of labels) check line.path.transmitter.sender dlci s stands.read tally
    → path.hearer.reader.decoder.lost ≡ None → path.hearer.reader.decoder.pending ≡ []
    → ((octets : List (List ℕ)) (patterns : List Seen) → Tallies line.path.transmitter.sender dlci s octets patterns tally
    → IsOutcome loses line.path.transmitter.sender dlci s octets patterns heard)
    → PassesSlot (kept line.symbols (line.passed + 1) path) script passed signal check dlci loses s heard
slot-passes script line path passed signal check dlci loses s labels tally heard stands coded sender_is found not_lost taken outcome =
    record {
      before = stands.carries.samples;
      upto = found.carries.samples;
      recorded_before = subst (λ (r : Role). Records script r (signal_bits size passed) stands.carries.samples) (sym sender_is)
          (recorded line.path.transmitter script (signal_bits size passed) stands.points stands.carries.samples stands.modulated
          stands.carries.transmits);
      recorded = recorded path.transmitter script (signal_bits size (passed ++ signal ∷ [])) points found.carries.samples modulated
          found.carries.transmits;
      octets = found.tallies.octets;
      patterns = found.tallies.patterns;
      received = record {
        earlier = stands.read;
        later = found.read;
        gave = subst (λ (r : Role). Gives r stands.carries.samples stands.read) (sym sender_is)
            (gives old line.path.hearer stands.carries.samples stands.read stands.carries.hears stands.not_lost stands.all_taken);
        gives = gives new path.hearer found.carries.samples found.read found.carries.hears not_lost taken;
        found = found.tallies.found;
      };
      outcome = subst (λ (r : Role). IsOutcome loses r dlci s found.tallies.octets found.tallies.patterns heard) (sym sender_is)
          (outcome found.tallies.octets found.tallies.patterns found.tallies.tallies);
      stands = record {
        slots = omega (arith, stands.slots, length-append passed (signal ∷ []));
        points = points;
        modulated = modulated;
        read = found.read;
        carries = found.carries;
        not_lost = not_lost;
        all_taken = taken;
      };
    }
  where
    size : ℕ
    size = 4 * line.symbols

    old : Role
    old = line.path.transmitter.sender

    new : Role
    new = path.transmitter.sender

    points : List Sample
    points = stands.points ++ map point_of labels

    modulated : Modulates (tap_of (mode_of new)) (signal_bits size (passed ++ signal ∷ [])) points
    modulated = subst (λ (r : Role). Modulates (tap_of (mode_of r)) (signal_bits size (passed ++ signal ∷ [])) points) (sym sender_is)
        (subst (λ (xs : List Bool). Modulates (tap_of (mode_of old)) xs points) (sym (slot-added size passed signal))
        (all-modulated old size passed signal labels stands.points stands.modulated coded))

-- the decoder has heard the samples of the slots that passed, and nothing is pending
pub line-heard : (script : ScriptValue) (line : Kept) (passed : List Signal) → LineStands line script passed
    → (samples : List Sample) × (taken : List ℕ) × Records script (sender_of line) (signal_bits (size_of line) passed) samples
    × DecoderStands next_state point_of (λ state. nat_eq state 0) line_depth (decoder_of line) samples taken
    × ((decoder_of line).pending ≡ [])
line-heard script line passed h = (
  h.carries.samples,
  h.carries.hears.reader.labels,
  recorded line.path.transmitter script (signal_bits (size_of line) passed) h.points h.carries.samples h.modulated h.carries.transmits,
  h.carries.hears.reader.decoder,
  h.all_taken,
)
