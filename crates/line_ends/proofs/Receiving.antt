-- Whatever is recorded of a slot, the line is lost by then, or something is received of it.
use Rattle.std.proofs.Common.{◌≡◌, ◌⊎◌, inl, inr, ℕ, zero, suc, ◌+◌, ◌<◌, ◌≤◌, Bool, List, [], ◌∷◌, ◌++◌, length, take, map, arith, refl}
use Rattle.std.proofs.Common.{sym, ap, subst, Some, None, append-nil, append_assoc}
use Rattle.std.proofs.lemmas.Bool.{cases_lt}
use Rattle.line_ends.proofs.Names.{Check, Records, Role, ScriptValue, Seen, line_depth, line_trellis}
use Rattle.bit_stuffing.proofs.Sent.{pieces-stay}
use Rattle.bit_stuffing.specs.Sent.{wholes}
use Rattle.scramblers.specs.Mode.{tap_of}
use Rattle.scramblers.specs.Scrambles.{Descrambles}
use Rattle.scramblers.proofs.Streams.{Descrambles-more}
use Rattle.symbol_map.specs.declared.sample.Sample.{Sample}
use Rattle.exact_decoder.specs.Surviving.Survivors.{IsReleased, IsOver, LostIs}
use Rattle.exact_decoder.proofs.Surviving.Fronts.{released-once}
use Rattle.exact_decoder.proofs.Surviving.Least.{some-released}
use Rattle.exact_decoder.proofs.Surviving.V32.{line-has-laws}
use Rattle.line_coding.specs.Demodulates.{line_of}
use Rattle.sample_line.specs.Mode.{mode_of}
use Rattle.detection.specs.Sights.{Sight, SightsAdded}
use Rattle.sample_line.specs.Received.{Gives, FoundBetween, Receives}
use Rattle.sample_line.specs.Laws.{RecordingsGrow, GivenStays}
use Rattle.line_ends.proofs.Deciding.{Decided, some-pass}
use Rattle.sample_line.proofs.Once.{tap-some}

-- labels carry bits
some-read : (tap : ℕ) → 1 ≤ tap → (done output more : List Bool) → Descrambles tap done output → (bits : List Bool)
    × Descrambles tap (done ++ more) bits
some-read tap low done output [] h = (output, subst (λ l. Descrambles tap l output) (sym (append-nil done)) h)
some-read tap low done output (bit ∷ more) h =
    let next = some-read tap low (done ++ bit ∷ []) _ more (Descrambles-more tap done output bit _ low h refl) in
    (next.0, subst (λ l. Descrambles tap l next.0) (append_assoc done (bit ∷ []) more) next.1)

none-read : (tap : ℕ) → Descrambles tap [] []
none-read tap = record { lengths = refl; each = λ i l. absurd (omega (arith, l)) }

pub some-given : (sender : Role) (samples : List Sample) → (bits : List Bool) × Gives sender samples bits
some-given sender samples =
    let front = some-released line_trellis 8 32 2 samples line-has-laws in
    let read = some-read (tap_of (mode_of sender)) (tap-some sender) [] [] (line_of front.0) (none-read (tap_of (mode_of sender))) in
    (read.0, record { labels = front.0; released = front.1; read = read.1 })

-- whether the line is lost by then
over-decided : (samples : List Sample) (n : ℕ) → Decided (IsOver line_trellis line_depth samples n)
over-decided samples n =
    let front = some-released line_trellis 8 32 2 (take n samples) line-has-laws in
    elim (cases_lt (length front.0 + line_depth) n) [
      | inl l ↦ inl (record { front = front.0; released = front.1; over = l })
      | inr l ↦ inr (λ o. not-over front.0 front.1 l o)
    ]
  where
    not-over : (front : List ℕ) → IsReleased line_trellis (take n samples) front → n ≤ length front + line_depth
        → IsOver line_trellis line_depth samples n → ⊥
    not-over front r l o =
        let same : length o.front ≡ length front =
        ap (λ (xs : List ℕ). length xs) (released-once line_trellis (take n samples) o.front front o.released r) in
        omega (arith, same, l, o.over)

-- the first place at which the line is over, below some place
record FirstOver (samples : List Sample) (below place : ℕ) : Type 0 where
  within : place < below
  over : IsOver line_trellis line_depth samples place
  first : (n : ℕ) → n < place → IsOver line_trellis line_depth samples n → ⊥

first-over : (samples : List Sample) (below : ℕ) → ((place : ℕ) × FirstOver samples below place)
    ⊎ ((n : ℕ) → n < below → IsOver line_trellis line_depth samples n → ⊥)
first-over samples zero = inr (λ n l o. omega (arith, l))
first-over samples (suc m) = go (first-over samples m) (over-decided samples m)
  where
    up-to : ((n : ℕ) → n < m → IsOver line_trellis line_depth samples n → ⊥) → (IsOver line_trellis line_depth samples m → ⊥) → (n : ℕ)
        → n < suc m → IsOver line_trellis line_depth samples n → ⊥
    up-to f g n l o = elim (cases_lt n m) [ inl k ↦ f n k o | inr k ↦ g (subst (IsOver line_trellis line_depth samples) (same n k l) o) ]
      where
        same : (n : ℕ) → m ≤ n → n < suc m → n ≡ m
        same n k l = omega (arith, k, l)

    go : ((place : ℕ) × FirstOver samples m place) ⊎ ((n : ℕ) → n < m → IsOver line_trellis line_depth samples n → ⊥)
        → Decided (IsOver line_trellis line_depth samples m)
        → ((place : ℕ) × FirstOver samples (suc m) place) ⊎ ((n : ℕ) → n < suc m → IsOver line_trellis line_depth samples n → ⊥)
    go (inl f) d = inl (f.0, record { within = omega (arith, f.1.within); over = f.1.over; first = f.1.first })
    go (inr f) (inl o) = inl (m, record { within = omega arith; over = o; first = f })
    go (inr f) (inr n) = inr (up-to f n)

pub lost-or-not : (samples : List Sample) → ((symbol : ℕ) × LostIs line_trellis line_depth samples (Some symbol))
    ⊎ LostIs line_trellis line_depth samples None
lost-or-not samples = go (first-over samples (length samples + 1))
  where
    at : (place : ℕ) → FirstOver samples (length samples + 1) place → (symbol : ℕ) × LostIs line_trellis line_depth samples (Some symbol)
    at zero f = absurd (omega (arith, f.over.over))
    at (suc symbol) f =
        let next : suc symbol ≡ symbol + 1 = omega arith in (
          symbol,
          record {
            within = omega (arith, f.within);
            over = subst (IsOver line_trellis line_depth samples) next f.over;
            first = λ n l o. f.first n (omega (arith, l)) o;
          },
        )

    go : ((place : ℕ) × FirstOver samples (length samples + 1) place)
        ⊎ ((n : ℕ) → n < length samples + 1 → IsOver line_trellis line_depth samples n → ⊥)
        → ((symbol : ℕ) × LostIs line_trellis line_depth samples (Some symbol)) ⊎ LostIs line_trellis line_depth samples None
    go (inl f) = inl (at f.0 f.1)
    go (inr f) = inr (λ n l o. f n (omega (arith, l)) o)

-- what is received

pub record ReceiveLaws : Type 0 where
  pub grow : RecordingsGrow
  pub stays : GivenStays
  pub sights : (bits more : List Bool) → (added : List Sight) × SightsAdded bits more added

-- what is received in a slot
pub record IsReceived (check : Check) (sender : Role) (before upto : List Sample) : Type 0 where
  pub octets : List (List ℕ)
  pub patterns : List Seen
  pub received : Receives check sender before upto octets patterns

pub some-received : ReceiveLaws
    → (script : ScriptValue) (check : Check) (sender : Role) (bits more : List Bool) (before upto : List Sample)
    → Records script sender bits before → Records script sender (bits ++ more) upto → IsReceived check sender before upto
some-received laws script check sender bits more before upto old new =
    let grown = laws.grow script sender bits more before upto old new in
    let earlier = some-given sender before in
    let later = some-given sender upto in
    let stays = laws.stays sender before grown.0 earlier.0 later.0 earlier.1
    (subst (λ (xs : List Sample). Gives sender xs later.0) grown.1 later.1) in
    let pieces = pieces-stay earlier.0 stays.0 in
    let sights = laws.sights earlier.0 stays.0 in
    let octets = some-pass check (wholes pieces.0) in
    let found : FoundBetween check earlier.0 (earlier.0 ++ stays.0) octets.0 (map (λ (sight : Sight). sight.seen) sights.0) =
    record {
      pieces = pieces.0;
      pieces_are = pieces.1.all;
      octets_are = octets.1;
      sights = sights.0;
      sights_are = sights.1.all;
      patterns_are = refl;
    } in
    record {
      octets = octets.0;
      patterns = map (λ (sight : Sight). sight.seen) sights.0;
      received = record {
        earlier = earlier.0;
        later = later.0;
        gave = earlier.1;
        gives = later.1;
        found = subst (λ (xs : List Bool).
            FoundBetween check earlier.0 xs octets.0 (map (λ (sight : Sight). sight.seen) sights.0)) (sym stays.1) found;
      };
    }
