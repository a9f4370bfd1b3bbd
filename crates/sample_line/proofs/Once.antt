-- What is recorded, given and received is one, and goes on.
use Rattle.sample_line.proofs.Names.{◌≡◌, inl, inr, ◌∙◌, ◌+◌, ◌*◌, ◌/◌, ◌%◌, ◌<◌, ◌≤◌, ℕ, zero, suc, Bool, true, false, nat_eq, List, []}
use Rattle.sample_line.proofs.Names.{◌∷◌, ◌++◌, length, take, drop, map, refl, sym, ap, subst, arith, take-append_seam, false≢true}
use Rattle.sample_line.proofs.Names.{cases_eq, eqb-true, length-map, take-append-drop, Found, pieces_of, wholes, Sight, line_trellis}
use Rattle.sample_line.proofs.Names.{low_bits, Check, Heard, Seen, Sent, Modulates, ScriptValue, offset_of, mode_of, IsSilent}
use Rattle.sample_line.proofs.Names.{IsWhatWasSent, IsOutcome, PassTheCheck, FoundBetween, Gives, displaced, displaced_from, Records}
use Rattle.sample_line.proofs.Names.{tap_of, Role, point_of, Sample}
use Rattle.std.proofs.Common.{All}
use Rattle.std.specs.List.{flat_map}
use Rattle.std.proofs.lemmas.List.{take-map}
use Rattle.std.proofs.lemmas.List.Elements.{All-nil, All-take}
use Rattle.frame_check.proofs.Checks.{fronts-one}
use Rattle.scramblers.proofs.Readings.{Scrambles_once, Scrambles-take, Descrambles_once}
use Rattle.trellis_tables.specs.Encoder.{Encodes}
use Rattle.trellis_tables.proofs.Codings.{Encodes_once, Encodes-take}
use Rattle.exact_decoder.proofs.Surviving.Fronts.{released-once, stays-prefix}
use Rattle.line_coding.specs.Demodulates.{line_of, Demodulates}
use Rattle.line_coding.proofs.Readings.{comes-back, first-stay, four-each, take-fours}
use Rattle.detection.specs.Sights.{sights_of}
use Rattle.shared_terms.specs.declared.role.Role.TheVariants.{Originator, Answerer}
use Rattle.lapm_frames.specs.declared.sent.Sent.TheVariants as sent
use Rattle.lapm_frames.specs.declared.heard.Heard.TheVariants as heard
use Rattle.lapm_frames.specs.Checked.{check_heard}
use Rattle.sample_line.specs.Received.{Receives}

pub tap-some : (sender : Role) → 1 ≤ tap_of (mode_of sender)
tap-some Originator = omega arith
tap-some Answerer = omega arith

-- recordings

odd-same : (a b : ℕ) → nat_eq (a % 2) 1 ≡ nat_eq (b % 2) 1 → a % 2 ≡ b % 2
odd-same a b e = elim (cases_eq (a % 2) 1) [
  | inl one ↦ elim (cases_eq (b % 2) 1) [ inl also ↦ one ∙ sym also | inr other ↦ absurd (differ a b one other e) ]
  | inr even ↦ elim (cases_eq (b % 2) 1) [ inl one ↦ absurd (differ b a one even (sym e)) | inr also ↦ omega arith ]
]
  where
    differ : (m n : ℕ) → m % 2 ≡ 1 → (n % 2 ≡ 1 → ⊥) → nat_eq (m % 2) 1 ≡ nat_eq (n % 2) 1 → ⊥
    differ m n one other q = other (eqb-true (n % 2) 1 (sym q ∙ ap (λ k. nat_eq k 1) one))

quad-same : (q r : ℕ) → q < 16 → r < 16 → q % 2 ≡ r % 2 → q / 2 % 2 ≡ r / 2 % 2 → q / 2 / 2 % 2 ≡ r / 2 / 2 % 2
    → q / 2 / 2 / 2 % 2 ≡ r / 2 / 2 / 2 % 2 → q ≡ r
quad-same q r low high a b c d = omega arith

head-tail : {X : Type 0} (x y : X) (a b : List X) → x ∷ a ≡ y ∷ b → (x ≡ y) × (a ≡ b)
head-tail x y a b e = (cc, cc)

All-head : (quad : ℕ) (quads : List ℕ) → All (λ q. q < 16) (quad ∷ quads) → quad < 16
All-head quad quads h = h 0 0 (omega arith)

All-tail : (quad : ℕ) (quads : List ℕ) → All (λ q. q < 16) (quad ∷ quads) → All (λ q. q < 16) quads
All-tail quad quads h k d low = h (suc k) d (omega (arith, low))

quads-once : (quads others : List ℕ) → All (λ q. q < 16) quads → All (λ q. q < 16) others
    → flat_map (low_bits 4) quads ≡ flat_map (low_bits 4) others → quads ≡ others
quads-once [] [] h k e = refl
quads-once [] (r ∷ others) h k e = absurd cc
quads-once (q ∷ quads) [] h k e = absurd cc
quads-once (q ∷ quads) (r ∷ others) h k e =
    let first = head-tail _ _ _ _ e in
    let second = head-tail _ _ _ _ first.1 in
    let third = head-tail _ _ _ _ second.1 in
    let fourth = head-tail _ _ _ _ third.1 in
    let same : q ≡ r = quad-same q r (All-head q quads h) (All-head r others k) (odd-same q r first.0) (odd-same (q / 2) (r / 2) second.0)
    (odd-same (q / 2 / 2) (r / 2 / 2) third.0) (odd-same (q / 2 / 2 / 2) (r / 2 / 2 / 2) fourth.0) in
    let others-same : quads ≡ others = quads-once quads others (All-tail q quads h) (All-tail r others k) fourth.1 in
    rw (same, others-same) refl

pub modulates-once : (tap : ℕ) (bits : List Bool) (samples other : List Sample) → 1 ≤ tap → Modulates tap bits samples
    → Modulates tap bits other → samples ≡ other
modulates-once tap bits samples other low h k =
    let line : h.line ≡ k.line = Scrambles_once tap bits h.line k.line low h.scrambled k.scrambled in
    let quads : h.quads ≡ k.quads = quads-once h.quads k.quads h.are_quads k.are_quads (sym h.in_fours ∙ line ∙ k.in_fours) in
    let labels : h.labels ≡ k.labels =
    Encodes_once k.quads h.labels k.labels h.end k.end (subst (λ (xs : List ℕ). Encodes xs h.labels h.end) quads h.encoded) k.encoded in
    h.points ∙ ap (map point_of) labels ∙ sym k.points

pub recorded-once : (script : ScriptValue) (sender : Role) (bits : List Bool) (samples other : List Sample)
    → Records script sender bits samples → Records script sender bits other → samples ≡ other
recorded-once script sender bits samples other h k =
    h.samples_are ∙ ap (displaced_from script sender 0)
    (modulates-once (tap_of (mode_of sender)) bits h.points k.points (tap-some sender) h.modulated k.modulated) ∙ sym k.samples_are

pub modulates-take : (tap n : ℕ) (bits : List Bool) (samples : List Sample) → 1 ≤ tap → Modulates tap bits samples
    → Modulates tap (take (4 * n) bits) (take n samples)
modulates-take tap n bits samples low h =
    let coded = Encodes-take h.quads h.labels h.end n h.encoded in
    record {
      line = take (4 * n) h.line;
      quads = take n h.quads;
      labels = take n h.labels;
      end = coded.0;
      scrambled = Scrambles-take tap (4 * n) bits h.line low h.scrambled;
      in_fours = ap (take (4 * n)) h.in_fours ∙ take-fours n h.quads;
      are_quads = All-take (λ q. q < 16) n h.quads h.are_quads;
      encoded = coded.1;
      points = ap (take n) h.points ∙ take-map point_of n h.labels;
    }

-- no bits have no samples
pub none-modulated : (tap : ℕ) → Modulates tap [] []
none-modulated tap = record {
  line = [];
  quads = [];
  labels = [];
  end = 0;
  scrambled = record { lengths = refl; each = λ i within. absurd (omega (arith, within)) };
  in_fours = refl;
  are_quads = All-nil (λ quad. quad < 16);
  encoded = record { leads = refl; turned_is = refl; uncoded_is = refl };
  points = refl;
}

displaced-take : (script : ScriptValue) (sender : Role) (symbol n : ℕ) (points : List Sample)
    → take n (displaced_from script sender symbol points) ≡ displaced_from script sender symbol (take n points)
displaced-take script sender symbol zero points = refl
displaced-take script sender symbol (suc n) [] = refl
displaced-take script sender symbol (suc n) (point ∷ points) =
    ap (λ xs. displaced (offset_of script sender symbol) point ∷ xs) (displaced-take script sender (symbol + 1) n points)

recorded-take : (script : ScriptValue) (sender : Role) (n : ℕ) (bits : List Bool) (samples : List Sample)
    → Records script sender bits samples → Records script sender (take (4 * n) bits) (take n samples)
recorded-take script sender n bits samples h = record {
  points = take n h.points;
  modulated = modulates-take (tap_of (mode_of sender)) n bits h.points (tap-some sender) h.modulated;
  samples_are = ap (take n) h.samples_are ∙ displaced-take script sender 0 n h.points;
}

pub carried : (tap : ℕ) (bits : List Bool) (samples : List Sample) → (h : Modulates tap bits samples) → Demodulates tap h.labels bits
carried tap bits samples h = comes-back tap bits h.line h.quads h.labels h.end h.scrambled h.in_fours h.are_quads h.encoded

-- four bits each
pub length-modulated : (tap : ℕ) (bits : List Bool) (samples : List Sample) → Modulates tap bits samples → length bits ≡ 4 * length samples
length-modulated tap bits samples h =
    four-each tap h.labels bits (carried tap bits samples h) ∙ ap (λ n. 4 * n) (sym (ap length h.points ∙ length-map h.labels point_of))

pub recordings-grow : (script : ScriptValue) (sender : Role) (bits more : List Bool) (before samples : List Sample)
    → Records script sender bits before → Records script sender (bits ++ more) samples → (rest : List Sample) × (samples ≡ before ++ rest)
recordings-grow script sender bits more before samples h k =
    let n : ℕ = length h.points in
    let first : take (4 * n) (bits ++ more) ≡ bits =
    ap (λ m. take m (bits ++ more)) (sym (length-modulated (tap_of (mode_of sender)) bits h.points h.modulated))
    ∙ take-append_seam bits more in
    let same : take n samples ≡ before =
    recorded-once script sender bits (take n samples) before
    (subst (λ (xs : List Bool). Records script sender xs (take n samples)) first
    (recorded-take script sender n (bits ++ more) samples k)) h in
    (drop n samples, sym (take-append-drop n samples) ∙ ap (λ xs. xs ++ drop n samples) same)

-- what samples give

pub given-once : (sender : Role) (samples : List Sample) (bits other : List Bool) → Gives sender samples bits → Gives sender samples other
    → bits ≡ other
given-once sender samples bits other h k =
    let labels : h.labels ≡ k.labels = released-once line_trellis samples h.labels k.labels h.released k.released in
    Descrambles_once (tap_of (mode_of sender)) (line_of k.labels) bits other
    (subst (λ (xs : List ℕ). Demodulates (tap_of (mode_of sender)) xs bits) labels h.read) k.read

pub given-stays : (sender : Role) (samples more : List Sample) (bits later : List Bool)
    → Gives sender samples bits → Gives sender (samples ++ more) later → (rest : List Bool) × (later ≡ bits ++ rest)
given-stays sender samples more bits later h k =
    let tap : ℕ = tap_of (mode_of sender) in
    let n : ℕ = length h.labels in
    let grown = stays-prefix line_trellis samples more h.labels k.labels h.released k.released in
    let first : take n k.labels ≡ h.labels = ap (take n) (sym grown.1) ∙ take-append_seam h.labels grown.0 in
    let same : take (4 * n) later ≡ bits = Descrambles_once tap (line_of h.labels) (take (4 * n) later) bits
    (subst (λ (xs : List ℕ). Demodulates tap xs (take (4 * n) later)) first (first-stay tap n k.labels later (tap-some sender) k.read))
    h.read in
    (drop (4 * n) later, sym (take-append-drop (4 * n) later) ∙ ap (λ xs. xs ++ drop (4 * n) later) same)

-- what is received in a slot

passing-once : (check : Check) (wholes octets others : List (List ℕ)) → PassTheCheck check wholes octets → PassTheCheck check wholes others
    → octets ≡ others
passing-once check [] octets others h k = h ∙ sym k
passing-once check (whole ∷ wholes) octets others (inl h) (inl k) = passing-once check wholes octets others h.1 k.1
passing-once check (whole ∷ wholes) octets others (inl h) (inr k) = absurd (h.0 (record { octets = k.0; checked = k.2 }))
passing-once check (whole ∷ wholes) octets others (inr h) (inl k) = absurd (k.0 (record { octets = h.0; checked = h.2 }))
passing-once check (whole ∷ wholes) octets others (inr h) (inr k) =
    let same : h.0 ≡ k.0 = fronts-one (check_heard check whole) h.0 k.0 whole h.2 k.2 in
    let rest : h.1 ≡ k.1 = passing-once check wholes h.1 k.1 h.4 k.4 in
    h.3 ∙ ap (λ (front : List ℕ). front ∷ h.1) same ∙ ap (λ (xs : List (List ℕ)). k.0 ∷ xs) rest ∙ sym k.3

pub same-behind : {X : Type 0} (front a b : List X) → front ++ a ≡ front ++ b → a ≡ b
same-behind [] a b e = e
same-behind (x ∷ front) a b e = same-behind front a b (head-tail _ _ _ _ e).1

found-once : (check : Check) (earlier later : List Bool) (octets others : List (List ℕ)) (patterns other_patterns : List Seen)
    → FoundBetween check earlier later octets patterns → FoundBetween check earlier later others other_patterns
    → (octets ≡ others) × (patterns ≡ other_patterns)
found-once check earlier later octets others patterns other_patterns h k =
    let pieces : h.pieces ≡ k.pieces = same-behind (pieces_of earlier) h.pieces k.pieces (sym h.pieces_are ∙ k.pieces_are) in
    let sights : h.sights ≡ k.sights = same-behind (sights_of earlier) h.sights k.sights (sym h.sights_are ∙ k.sights_are) in (
      passing-once check (wholes k.pieces) octets others
          (subst (λ (xs : List Found). PassTheCheck check (wholes xs) octets) pieces h.octets_are) k.octets_are,
      h.patterns_are ∙ ap (map (λ (sight : Sight). sight.seen)) sights ∙ sym k.patterns_are,
    )

pub received-once : (check : Check) (sender : Role) (before upto : List Sample) (octets others : List (List ℕ))
    (patterns other_patterns : List Seen)
    → Receives check sender before upto octets patterns → Receives check sender before upto others other_patterns
    → (octets ≡ others) × (patterns ≡ other_patterns)
received-once check sender before upto octets others patterns other_patterns h k =
    let earlier : h.earlier ≡ k.earlier = given-once sender before h.earlier k.earlier h.gave k.gave in
    let later : h.later ≡ k.later = given-once sender upto h.later k.later h.gives k.gives in
    found-once check k.earlier k.later octets others patterns other_patterns
    (subst (λ (xs : List Bool). FoundBetween check xs k.later octets patterns) earlier
    (subst (λ (xs : List Bool). FoundBetween check h.earlier xs octets patterns) later h.found)) k.found

-- outcomes

silent-sent : (sender : Role) (dlci : ℕ) (s : Sent) (octets : List (List ℕ)) (patterns : List Seen) → IsSilent octets patterns
    → IsWhatWasSent sender dlci s octets patterns → ⊥
silent-sent sender dlci sent.Mark octets patterns q w = w
silent-sent sender dlci sent.Flags octets patterns q w = w
silent-sent sender dlci sent.Odp octets patterns q w = w.1 q.1
silent-sent sender dlci sent.Adp octets patterns q w = w.1 q.1
silent-sent sender dlci (sent.Frame frame) octets patterns q w = none (sym q.0 ∙ w.2)
  where
    none : [] ≡ w.0 ∷ [] → ⊥
    none e = absurd cc

pub outcome-once : (loses : Bool) (sender : Role) (dlci : ℕ) (s : Sent) (octets : List (List ℕ)) (patterns : List Seen)
    (h other : Heard) → IsOutcome loses sender dlci s octets patterns h → IsOutcome loses sender dlci s octets patterns other → h ≡ other
outcome-once true sender dlci s octets patterns heard.Nothing heard.Nothing a b = refl
outcome-once true sender dlci s octets patterns heard.Nothing (heard.Lost t) a b = absurd (false≢true (sym a ∙ b.1))
outcome-once true sender dlci s octets patterns heard.Nothing (heard.Passed t) a b = absurd b
outcome-once true sender dlci s octets patterns heard.Nothing heard.Chance a b = absurd b
outcome-once true sender dlci s octets patterns (heard.Lost t) heard.Nothing a b = absurd (false≢true (sym b ∙ a.1))
outcome-once true sender dlci s octets patterns (heard.Lost t) (heard.Lost u) a b = ap heard.Lost (a.0 ∙ sym b.0)
outcome-once true sender dlci s octets patterns (heard.Lost t) (heard.Passed u) a b = absurd b
outcome-once true sender dlci s octets patterns (heard.Lost t) heard.Chance a b = absurd b
outcome-once true sender dlci s octets patterns (heard.Passed t) other a b = absurd a
outcome-once true sender dlci s octets patterns heard.Chance other a b = absurd a
outcome-once false sender dlci s octets patterns heard.Nothing heard.Nothing a b = refl
outcome-once false sender dlci s octets patterns heard.Nothing (heard.Lost t) a b = absurd (false≢true (sym a.0 ∙ b.1))
outcome-once false sender dlci s octets patterns heard.Nothing (heard.Passed t) a b = absurd
    (silent-sent sender dlci s octets patterns a.1 b.1)
outcome-once false sender dlci s octets patterns heard.Nothing heard.Chance a b = absurd (b.0 a.1)
outcome-once false sender dlci s octets patterns (heard.Lost t) heard.Nothing a b = absurd (false≢true (sym b.0 ∙ a.1))
outcome-once false sender dlci s octets patterns (heard.Lost t) (heard.Lost u) a b = ap heard.Lost (a.0 ∙ sym b.0)
outcome-once false sender dlci s octets patterns (heard.Lost t) (heard.Passed u) a b = absurd
    (silent-sent sender dlci s octets patterns a.2 b.1)
outcome-once false sender dlci s octets patterns (heard.Lost t) heard.Chance a b = absurd (b.0 a.2)
outcome-once false sender dlci s octets patterns (heard.Passed t) heard.Nothing a b = absurd
    (silent-sent sender dlci s octets patterns b.1 a.1)
outcome-once false sender dlci s octets patterns (heard.Passed t) (heard.Lost u) a b = absurd
    (silent-sent sender dlci s octets patterns b.2 a.1)
outcome-once false sender dlci s octets patterns (heard.Passed t) (heard.Passed u) a b = ap heard.Passed (a.0 ∙ sym b.0)
outcome-once false sender dlci s octets patterns (heard.Passed t) heard.Chance a b = absurd (b.1 a.1)
outcome-once false sender dlci s octets patterns heard.Chance heard.Nothing a b = absurd (a.0 b.1)
outcome-once false sender dlci s octets patterns heard.Chance (heard.Lost t) a b = absurd (a.0 b.2)
outcome-once false sender dlci s octets patterns heard.Chance (heard.Passed t) a b = absurd (a.1 b.1)
outcome-once false sender dlci s octets patterns heard.Chance heard.Chance a b = refl
