-- The decoder after a label is taken, and at its end.
use Rattle.exact_decoder.proofs.Names.{◌≡◌, ℕ, ◌<◌, Bool, List, [], ◌∷◌, ◌++◌, length, drop, reverse, All, Option, Some, None, append_assoc}
use Rattle.exact_decoder.proofs.Names.{refl, sym, ◌∙◌, ap, subst, arith, append-nil, reverse-append, length-reverse, All-head, All-tail}
use Rattle.exact_decoder.proofs.Names.{All-same, tail_at, Decoding, decoding_of, IsSound, DecoderStands, heard, Kept}
use Rattle.exact_decoder.proofs.Names.{IsLeastSum, IsFirstLeast, trellis_of, Sample}
use Rattle.std.proofs.Common.{IfSome, MatchOption}
use Rattle.std.proofs.Common.{option_to_list}
use Rattle.exact_decoder.specs.Memory.{opened}
use Rattle.exact_decoder.specs.Decoder.{two_in}
use Rattle.exact_decoder.proofs.Least.{final-of}

pub stands-taken : (table : ℕ → ℕ → Option ℕ) (points : ℕ → Sample) (depth : ℕ) (starts : ℕ → Bool) (d new : Decoding)
    (samples : List Sample) (taken : List ℕ) (label : ℕ) → d.pending ≡ label ∷ new.pending → new ≡ record d { pending = new.pending }
    → DecoderStands table points starts depth d samples taken → DecoderStands table points starts depth new samples (taken ++ label ∷ [])
stands-taken table points depth starts d new samples taken label e f h = grind (arith, heard, opened, append_assoc)

pub sound-taken : (table : ℕ → ℕ → Option ℕ) (states labels reach depth : ℕ) (d : Decoding) (label : ℕ) (rest : List ℕ)
    → d.pending ≡ label ∷ rest → IsSound table states labels reach depth d → (label < labels)
    × IsSound table states labels reach depth (record d { pending = rest })
sound-taken table states labels reach depth d label rest e h =
    let below : All (λ x. x < labels) (label ∷ rest) = All-same (λ x. x < labels) (label ∷ rest) d.pending (sym e) h.pending_below in (
      All-head (λ x. x < labels) label rest below,
      record {
        low = h.low;
        high = h.high;
        few = h.few;
        spread = h.spread;
        room = h.room;
        few_unreleased = h.few_unreleased;
        few_pending = omega (arith, h.few_pending, ap length e);
        pending_below = All-tail (λ x. x < labels) label rest below;
      },
    )

pub stands-final : (table : ℕ → ℕ → Option ℕ) (points : ℕ → Sample) (depth : ℕ) (starts : ℕ → Bool) (d : Decoding) (samples : List Sample)
    (taken : List ℕ) (state : ℕ) → d.lost ≡ None → d.pending ≡ [] → IsLeastSum (opened d.memory).sums state
    → DecoderStands table points starts depth d samples taken
    → IsFirstLeast (trellis_of table points starts) samples (taken ++ tail_at (opened d.memory).tails state)
stands-final table points depth starts d samples taken state e none l h =
    let front : taken ++ d.pending ≡ taken = ap (λ t. taken ++ t) none ∙ append-nil taken in
    subst (λ t. IsFirstLeast (trellis_of table points starts) samples (t ++ tail_at (opened d.memory).tails state)) front
    (final-of (trellis_of table points starts) (opened d.memory) samples (taken ++ d.pending) state (h.keeps e) l)

-- what taking the last label of a list gives
abbrev pub IsPopped : List ℕ → List ℕ → Option ℕ → Type 0
IsPopped old new r = MatchOption r ((old ≡ []) × (new ≡ [])) (λ label. old ≡ new ++ label ∷ [])

turned : (old new : List ℕ) (label : ℕ) → old ≡ new ++ label ∷ [] → reverse old ≡ label ∷ reverse new
turned old new label e = ap reverse e ∙ reverse-append new (label ∷ [])

pub sound-popped : (table : ℕ → ℕ → Option ℕ) (states labels reach depth : ℕ) (k : Kept) (count : ℕ) (old new : List ℕ) (lost : Option ℕ)
    (r : Option ℕ) → IsPopped old new r → IsSound table states labels reach depth (decoding_of k count old lost)
    → IsSound table states labels reach depth (decoding_of k count new lost) × IfSome r (λ label. label < labels)
sound-popped table states labels reach depth k count old new lost None p h = grind (arith)
sound-popped table states labels reach depth k count old new lost (Some label) p h =
    let t = sound-taken table states labels reach depth (decoding_of k count old lost) label (reverse new) (turned old new label p) h in
    (t.1, t.0)

-- the label that is taken, and those that are left
pub popped-first : (old new : List ℕ) (r : Option ℕ) (seen : List ℕ) → reverse old ≡ seen → IsPopped old new r
    → MatchOption r (seen ≡ []) (λ label. seen ≡ label ∷ reverse new)
popped-first old new r seen e p = grind (arith, turned)

pub popped-rest : (old new : List ℕ) (r : Option ℕ) → IsPopped old new r → reverse new ≡ drop 1 (reverse old)
popped-rest old new r p = grind (arith, turned)

pub stands-popped : (table : ℕ → ℕ → Option ℕ) (points : ℕ → Sample) (depth : ℕ) (starts : ℕ → Bool) (k : Kept) (count : ℕ)
    (old new : List ℕ) (lost : Option ℕ) (samples : List Sample) (taken : List ℕ) (r : Option ℕ) → IsPopped old new r
    → DecoderStands table points starts depth (decoding_of k count old lost) samples taken
    → DecoderStands table points starts depth (decoding_of k count new lost) samples (taken ++ option_to_list r)
stands-popped table points depth starts k count old new lost samples taken None p h = grind (arith, append-nil)
stands-popped table points depth starts k count old new lost samples taken (Some label) p h =
    stands-taken _ _ _ _ _ _ _ _ _ (turned _ _ _ p) refl h

-- what taking the last two labels of a list gives
abbrev pub IsPoppedTwo : List ℕ → List ℕ → Option (ℕ × ℕ) → Type 0
IsPoppedTwo old new r = MatchOption r ((length old < 2) × (new ≡ old)) (λ two. old ≡ new ++ two.1 ∷ two.0 ∷ [])

turned-two : (old new : List ℕ) (two : ℕ × ℕ) → old ≡ new ++ two.1 ∷ two.0 ∷ [] → reverse old ≡ two.0 ∷ two.1 ∷ reverse new
turned-two old new two e = ap reverse e ∙ reverse-append new (two.1 ∷ two.0 ∷ [])

pub sound-popped-two : (table : ℕ → ℕ → Option ℕ) (states labels reach depth : ℕ) (k : Kept) (count : ℕ)
    (old new : List ℕ) (lost : Option ℕ)
    (r : Option (ℕ × ℕ)) → IsPoppedTwo old new r → IsSound table states labels reach depth (decoding_of k count old lost)
    → IsSound table states labels reach depth (decoding_of k count new lost) × IfSome r (λ two. (two.0 < labels) × (two.1 < labels))
sound-popped-two table states labels reach depth k count old new lost None p h = grind (arith)
sound-popped-two table states labels reach depth k count old new lost (Some two) p h =
    let first = sound-taken _ _ _ _ _ _ _ _ (turned-two _ _ _ p) h in
    let second = sound-taken _ _ _ _ _ _ _ _ refl first.1 in grind (arith)

-- the labels that are taken, and those that are left
pub popped-two-first : (k : Kept) (count : ℕ) (old new : List ℕ) (lost : Option ℕ) (r : Option (ℕ × ℕ)) (d : Decoding)
    → decoding_of k count old lost ≡ d → IsPoppedTwo old new r
    → MatchOption r ((length d.pending < 2) × (decoding_of k count new lost ≡ d)) (λ two. d.pending ≡ two.0 ∷ two.1 ∷ reverse new)
popped-two-first k count old new lost r d e p = grind (arith, length-reverse, turned-two)

pub stands-popped-two : (table : ℕ → ℕ → Option ℕ) (points : ℕ → Sample) (depth : ℕ) (starts : ℕ → Bool) (k : Kept) (count : ℕ)
    (old new : List ℕ) (lost : Option ℕ) (samples : List Sample) (taken : List ℕ) (r : Option (ℕ × ℕ)) → IsPoppedTwo old new r
    → DecoderStands table points starts depth (decoding_of k count old lost) samples taken
    → DecoderStands table points starts depth (decoding_of k count new lost) samples (taken ++ two_in r)
stands-popped-two table points depth starts k count old new lost samples taken None p h = grind (arith, append-nil)
stands-popped-two table points depth starts k count old new lost samples taken (Some two) p h =
    let middle : Decoding = record (decoding_of k count old lost) { pending = two.1 ∷ reverse new } in
    grind (arith, append_assoc, stands-taken, turned-two)
