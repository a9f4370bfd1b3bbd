-- Bits in fours have a recording, and a line that is lost stays lost in what goes on from there.
use Rattle.line_run.proofs.Cited.{◌≡◌, ◌∙◌, ℕ, zero, suc, ◌+◌, ◌*◌, ◌/◌, ◌<◌, ◌≤◌, Bool, true, false, List, [], ◌∷◌, ◌++◌, length, map}
use Rattle.line_run.proofs.Cited.{Some, refl, sym, ap, subst, arith, All, append-nil, append_assoc, mul_assoc, All-nil, All-cons, All-head}
use Rattle.line_run.proofs.Cited.{All-tail, Signal, signal_bits, lost-stays, LostIs, line_depth, line_trellis, AreFit, ScriptValue}
use Rattle.line_run.proofs.Cited.{recordings-grow, tap-some, mode_of, LosesAt, LosesWithin, Records, displaced_from, tap_of, Role, point_of}
use Rattle.line_run.proofs.Cited.{Sample}
use Rattle.std.proofs.Common.{◌%◌}
use Rattle.std.proofs.Common.{sum}
use Rattle.std.specs.List.{flat_map}
use Rattle.frame_check.specs.Bits.{low_bits, number}
use Rattle.trellis_tables.specs.Differential.Turned.{turned}
use Rattle.trellis_tables.proofs.Turning.Places.{turned-snoc}
use Rattle.scramblers.specs.Scrambles.{Scrambles}
use Rattle.scramblers.specs.Stream.{earlier}
use Rattle.frame_check.specs.Xor.{xor}
use Rattle.scramblers.proofs.Streams.{Scrambles-more}
use Rattle.symbol_map.specs.Labels.{y_of}
use Rattle.trellis_tables.specs.Quads.{turn_of}
use Rattle.trellis_tables.specs.Encoder.{Encodes}
use Rattle.trellis_tables.specs.Table.{next_by_y}
use Rattle.trellis_tables.proofs.Tables.{next_by_y-lt}
use Rattle.trellis_tables.proofs.Codings.{Encodes-more}
use Rattle.line_run.proofs.Patterns.{ArePlain}
use Rattle.line_run.proofs.Fits.{length-fit}

-- bits are scrambled

scrambled-from : (tap : ℕ) (done bits line : List Bool) → 1 ≤ tap → Scrambles tap done line → (whole : List Bool)
    × Scrambles tap (done ++ bits) whole
scrambled-from tap done [] line low h = (line, subst (λ (xs : List Bool). Scrambles tap xs line) (sym (append-nil done)) h)
scrambled-from tap done (bit ∷ bits) line low h =
    let sent : Bool = xor (xor bit (earlier line (length line) tap)) (earlier line (length line) 23) in
    let all = scrambled-from tap (done ++ bit ∷ []) bits (line ++ sent ∷ []) low (Scrambles-more tap done line bit sent low h refl) in
    (all.0, subst (λ (xs : List Bool). Scrambles tap xs all.0) (append_assoc done (bit ∷ []) bits) all.1)

scrambled-none : (tap : ℕ) → Scrambles tap [] []
scrambled-none tap = record { lengths = refl; each = λ i l. absurd (omega (arith, l)) }

some-line : (tap : ℕ) (bits : List Bool) → 1 ≤ tap → (line : List Bool) × Scrambles tap bits line
some-line tap bits low = scrambled-from tap [] bits [] low (scrambled-none tap)

-- taken in fours

abbrev four : Bool → Bool → Bool → Bool → ℕ
four a b c d = number a + 2 * number b + 4 * number c + 8 * number d

pub record AreFours (line : List Bool) : Type 0 where
  pub quads : List ℕ
  pub in_fours : line ≡ flat_map (low_bits 4) quads
  pub are_quads : All (λ quad. quad < 16) quads

four-bits : (a b c d : Bool) → low_bits 4 (four a b c d) ≡ a ∷ b ∷ c ∷ d ∷ []
four-bits false false false false = refl
four-bits false false false true = refl
four-bits false false true false = refl
four-bits false false true true = refl
four-bits false true false false = refl
four-bits false true false true = refl
four-bits false true true false = refl
four-bits false true true true = refl
four-bits true false false false = refl
four-bits true false false true = refl
four-bits true false true false = refl
four-bits true false true true = refl
four-bits true true false false = refl
four-bits true true false true = refl
four-bits true true true false = refl
four-bits true true true true = refl

number-small : (a : Bool) → number a ≤ 1
number-small a = grind (arith)

four-small : (a b c d : Bool) → four a b c d < 16
four-small a b c d = omega (arith, number-small a, number-small b, number-small c, number-small d)

are-fours : (count : ℕ) (line : List Bool) → length line ≡ 4 * count → AreFours line
are-fours zero [] e = record { quads = []; in_fours = refl; are_quads = All-nil (λ quad. quad < 16) }
are-fours zero (a ∷ line) e = absurd (omega (arith, e))
are-fours (suc count) [] e = absurd (omega (arith, e))
are-fours (suc count) (a ∷ []) e = absurd (omega (arith, e))
are-fours (suc count) (a ∷ b ∷ []) e = absurd (omega (arith, e))
are-fours (suc count) (a ∷ b ∷ c ∷ []) e = absurd (omega (arith, e))
are-fours (suc count) (a ∷ b ∷ c ∷ d ∷ line) e =
    let rest = are-fours count line (omega (arith, e)) in
    record {
      quads = four a b c d ∷ rest.quads;
      in_fours = ap (λ xs. xs ++ line) (sym (four-bits a b c d)) ∙ ap (λ xs. low_bits 4 (four a b c d) ++ xs) rest.in_fours;
      are_quads = All-cons (λ quad. quad < 16) (four a b c d) rest.quads (four-small a b c d) rest.are_quads;
    }

-- and coded

pub record AreCoded (quads : List ℕ) : Type 0 where
  pub labels : List ℕ
  pub end : ℕ
  pub encoded : Encodes quads labels end

coded-from : (done quads labels : List ℕ) (state : ℕ) → state < 8 → All (λ quad. quad < 16) quads → Encodes done labels state
    → AreCoded (done ++ quads)
coded-from done [] labels state low are h = grind (arith, append-nil)
coded-from done (quad ∷ quads) labels state low are h =
    let y : ℕ = (sum (map turn_of done) + turn_of quad) % 4 in
    let small : y < 4 = omega arith in
    let here : map y_of labels ++ y ∷ [] ≡ turned (map turn_of done ++ turn_of quad ∷ []) = grind (arith, turned-snoc) in
    let next = Encodes-more done labels state y quad low small (All-head (λ q. q < 16) quad quads are) h here in
    subst AreCoded (append_assoc done (quad ∷ []) quads)
    (coded-from (done ++ quad ∷ []) quads _ (next_by_y state y) (next_by_y-lt state y low small)
    (All-tail (λ q. q < 16) quad quads are) next)

coded-none : Encodes [] [] 0
coded-none = record { leads = refl; turned_is = refl; uncoded_is = refl }

are-coded : (quads : List ℕ) → All (λ quad. quad < 16) quads → AreCoded quads
are-coded quads are = coded-from [] quads [] 0 (omega arith) are coded-none

recorded-of : (script : ScriptValue) (sender : Role) (bits line : List Bool) → Scrambles (tap_of (mode_of sender)) bits line
    → (fours : AreFours line) → (coded : AreCoded fours.quads)
    → Records script sender bits (displaced_from script sender 0 (map point_of coded.labels))
recorded-of script sender bits line scrambled fours coded = grind (arith)

pub recorded-some : (script : ScriptValue) (sender : Role) (bits : List Bool) → length bits % 4 ≡ 0 → (samples : List Sample)
    × Records script sender bits samples
recorded-some script sender bits whole =
    let line = some-line (tap_of (mode_of sender)) bits (tap-some sender) in
    let fours = are-fours (length bits / 4) line.0 (omega (arith, whole, line.1.lengths)) in
    let coded = are-coded fours.quads fours.are_quads in
    (displaced_from script sender 0 (map point_of coded.labels), recorded-of script sender bits line.0 line.1 fours coded)

-- slots of so many symbols have bits in fours

slots-fours : (plain : ArePlain) (symbols : ℕ) (signals : List Signal) → 138 < symbols → AreFit (4 * symbols) 0 signals
    → length (signal_bits (4 * symbols) signals) % 4 ≡ 0
slots-fours plain symbols signals long h = grind (arith, length-fit, mul_assoc)

pub slots-recorded : (plain : ArePlain) (script : ScriptValue) (sender : Role) (symbols : ℕ) (signals : List Signal) → 138 < symbols
    → AreFit (4 * symbols) 0 signals
    → (samples : List Sample) × Records script sender (signal_bits (4 * symbols) signals) samples
slots-recorded plain script sender symbols signals long h = grind (arith, recorded-some, slots-fours)

-- losses stay

loss-goes_on : (sender : Role) (script : ScriptValue) (first rest : List Bool) (symbol : ℕ) (samples : List Sample)
    → LosesAt sender script first symbol → Records script sender (first ++ rest) samples
    → LostIs line_trellis line_depth samples (Some symbol)
loss-goes_on sender script first rest symbol samples l r =
    let grown = recordings-grow script sender first rest l.samples samples l.recorded r in
    subst (λ (xs : List Sample). LostIs line_trellis line_depth xs (Some symbol)) (sym grown.1)
    (lost-stays line_trellis line_depth l.samples grown.0 symbol l.lost)

pub loss-in_each : (sender : Role) (script : ScriptValue) (before bits more : List Bool) (symbol : ℕ) (samples : List Sample)
    → LosesWithin sender script before bits symbol → Records script sender ((before ++ bits) ++ more) samples
    → LostIs line_trellis line_depth samples (Some symbol)
loss-in_each sender script before bits more symbol samples l r =
    let split : (before ++ bits) ++ more ≡ (before ++ l.first) ++ (l.rest ++ more) = grind (arith, append_assoc) in
    loss-goes_on sender script (before ++ l.first) (l.rest ++ more) symbol samples l.loses
    (subst (λ (xs : List Bool). Records script sender xs samples) split r)

pub loss-stays : (sender : Role) (script : ScriptValue) (before bits : List Bool) (symbol : ℕ) → length (before ++ bits) % 4 ≡ 0
    → LosesWithin sender script before bits symbol → LosesAt sender script (before ++ bits) symbol
loss-stays sender script before bits symbol whole l =
    let some = recorded-some script sender (before ++ bits) whole in
    record {
      samples = some.0;
      recorded = some.1;
      lost = loss-in_each sender script before bits [] symbol some.0 l
          (subst (λ (xs : List Bool). Records script sender xs some.0) (sym (append-nil (before ++ bits))) some.1);
    }
