-- What the relations of the parts say of samples and bits.
use Rattle.sample_line.proofs.Names.{◌≡◌, ◌∙◌, ◌+◌, ◌<◌, ℕ, ℤ, Bool, List, [], ◌∷◌, ◌++◌, length, map, take, None, sym, ap, subst}
use Rattle.sample_line.proofs.Names.{arith, get_or, append_assoc, map-append, line_bits, line_trellis, low_bits, Modulates, ScriptValue}
use Rattle.sample_line.proofs.Names.{offset_of, Hears, mode_of, Gives, saturated, displaced, displaced_from, Records, Transmits, Hearer}
use Rattle.sample_line.proofs.Names.{Transmitter, tap_of, Role, point_of, Sample}
use Rattle.std.proofs.lemmas.List.{append-nil, take_more}
use Rattle.std.proofs.lemmas.Grind.{flat_map-append}
use Rattle.exact_decoder.specs.Surviving.Survivors.{IsReleased}
use Rattle.exact_decoder.specs.Decoder.{heard}
use Rattle.line_coding.proofs.Standing.{demodulated}

pub displaced-snoc : (script : ScriptValue) (sender : Role) (symbol : ℕ) (points : List Sample) (point : Sample)
    → displaced_from script sender symbol (points ++ point ∷ []) ≡ displaced_from script sender symbol points
    ++ displaced (offset_of script sender (symbol + length points)) point ∷ []
displaced-snoc script sender symbol [] point =
    let e : symbol ≡ symbol + 0 = omega arith in
    ap (λ n. displaced (offset_of script sender n) point ∷ []) e
displaced-snoc script sender symbol (first ∷ points) point =
    let e : symbol + 1 + length points ≡ symbol + length (first ∷ points) = omega arith in
    ap (λ xs. displaced (offset_of script sender symbol) first ∷ xs)
    (displaced-snoc script sender (symbol + 1) points point
    ∙ ap (λ n. displaced_from script sender (symbol + 1) points ++ displaced (offset_of script sender n) point ∷ []) e)

pub same-saturated : (result a b : ℤ) → result ≡ saturated a → a ≡ b → result ≡ saturated b
same-saturated result a b e same = e ∙ ap saturated same

-- a transmitter's samples are what is recorded of the bits whose points they were
pub recorded : (transmitter : Transmitter) (script : ScriptValue) (bits : List Bool) (points samples : List Sample)
    → Modulates (tap_of (mode_of transmitter.sender)) bits points → Transmits transmitter script points samples
    → Records script transmitter.sender bits samples
recorded transmitter script bits points samples m h = record { points = points; modulated = m; samples_are = h.samples_are }

-- where each released label was taken, what was read is what the samples give
pub gives : (sender : Role) (hearer : Hearer) (samples : List Sample) (read : List Bool) → Hears (mode_of sender) hearer samples read
    → hearer.reader.decoder.lost ≡ None → hearer.reader.decoder.pending ≡ [] → Gives sender samples read
gives sender hearer samples read h not_lost taken = record {
  labels = h.reader.labels;
  released = subst (λ (xs : List Sample). IsReleased line_trellis xs h.reader.labels) (ap (λ l. heard l samples) not_lost)
      (subst (λ (xs : List ℕ). IsReleased line_trellis (heard hearer.reader.decoder.lost samples) xs)
      (ap (λ p. h.reader.labels ++ p) taken ∙ append-nil h.reader.labels) h.reader.decoder.released);
  read = demodulated (mode_of sender) hearer.reader.demodulator h.reader.labels read h.reader.demodulator;
}

-- one more quad of a slot
pub slot-part : (quads : List ℕ) (i : ℕ) → i < length quads
    → line_bits (take i quads) ++ low_bits 4 (get_or quads i 0) ≡ line_bits (take (i + 1) quads)
slot-part quads i h =
    ap (λ l. line_bits (take i quads) ++ l) (sym (append-nil (low_bits 4 (get_or quads i 0))))
    ∙ sym (flat_map-append (low_bits 4) (take i quads) (get_or quads i 0 ∷ []))
    ∙ ap line_bits (sym (take_more quads i 0 h))

-- and of all that was sent
pub sent-part : (before : List Bool) (quads : List ℕ) (i quad : ℕ) → i < length quads → quad ≡ get_or quads i 0
    → (before ++ line_bits (take i quads)) ++ low_bits 4 quad ≡ before ++ line_bits (take (i + 1) quads)
sent-part before quads i quad h e =
    append_assoc before (line_bits (take i quads)) (low_bits 4 quad) ∙ ap (λ q. before ++ (line_bits (take i quads) ++ low_bits 4 q)) e
    ∙ ap (λ xs. before ++ xs) (slot-part quads i h)

-- one more label of a slot
pub points-part : (before : List Sample) (labels : List ℕ) (i label : ℕ) → i < length labels → label ≡ get_or labels i 0
    → (before ++ map point_of (take i labels)) ++ point_of label ∷ [] ≡ before ++ map point_of (take (i + 1) labels)
points-part before labels i label h e =
    append_assoc before (map point_of (take i labels)) (point_of label ∷ [])
    ∙ ap (λ l. before ++ (map point_of (take i labels) ++ point_of l ∷ [])) e
    ∙ ap (λ xs. before ++ xs) (sym (map-append point_of (take i labels) (get_or labels i 0 ∷ [])))
    ∙ ap (λ xs. before ++ map point_of xs) (sym (take_more labels i 0 h))
