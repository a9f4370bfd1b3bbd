-- Samples of labels of which a batch is sent at once.
use Rattle.sample_line.proofs.Names.{◌≡◌, ◌∙◌, ℕ, ◌+◌, ◌<◌, ◌≤◌, ℤ, nat_eq, Bool, true, false, List, [], ◌∷◌, ◌++◌, length, map, take, drop}
use Rattle.sample_line.proofs.Names.{get_or, arith, refl, sym, ap, subst, length-append, suc, take-add, eqb-true, false≢true}
use Rattle.sample_line.proofs.Names.{length-take-le, length-map, map-append, ScriptValue, offset_of, displaced, displaced_from, Transmits}
use Rattle.sample_line.proofs.Names.{Transmitter, Role, point_of, Sample}
use Rattle.std.proofs.Common.{◌&&◌, pos, negsuc}
use Rattle.std.proofs.Common.{append_assoc, length-drop}
use Rattle.std.proofs.lemmas.Bool.{and_parts}
use Rattle.std.proofs.lemmas.List.{get_or-take, get_or-drop, get_or_default, same_lists}
use Rattle.symbol_map.specs.Finite.{each_below, at_each}
use Rattle.noise_script.specs.declared.offset.Offset.{Offset}
use Rattle.noise_script.specs.Offsets.{nothing}
use Rattle.sample_line.proofs.Standing.{displaced-snoc, points-part}
use Rattle.symbol_map.proofs.Distances.{same_sample}

-- the labels that were unpacked are those of the slot
pub unpacked : (slot labels : List ℕ) (at count : ℕ) → at + count ≤ length slot → count ≤ length labels
    → ((k : ℕ) → k < count → get_or labels k 0 ≡ get_or slot (at + k) 0) → (before : List Sample)
    → (before ++ map point_of (take at slot)) ++ map point_of (take count labels) ≡ before ++ map point_of (take (at + count) slot)
unpacked slot labels at count within room each before =
    append_assoc before (map point_of (take at slot)) (map point_of (take count labels))
    ∙ ap (λ xs. before ++ (map point_of (take at slot) ++ map point_of xs)) same
    ∙ ap (λ xs. before ++ xs) (sym (map-append point_of (take at slot) (take count (drop at slot))))
    ∙ ap (λ xs. before ++ map point_of xs) (sym (take-add at count slot))
  where
    long : length (take count labels) ≡ count
    long = length-take-le count labels room

    other : length (take count (drop at slot)) ≡ count
    other = length-take-le count (drop at slot) (omega (arith, within, length-drop at slot))

    same : take count labels ≡ take count (drop at slot)
    same = same_lists (take count labels) (take count (drop at slot)) (long ∙ sym other) (λ k d low.
        let few : k < count = omega (arith, low, long) in
        get_or-take count labels k d few ∙ get_or_default labels k d 0 (omega (arith, few, room)) ∙ each k few
        ∙ get_or_default slot (at + k) 0 d (omega (arith, few, within)) ∙ sym (get_or-drop at slot k d)
        ∙ sym (get_or-take count (drop at slot) k d few))

-- a point to which nothing is added is held as it is

abbrev same_number : ℤ → ℤ → Bool
same_number (pos a) (pos b) = nat_eq a b
same_number (negsuc a) (negsuc b) = nat_eq a b
same_number (pos a) (negsuc b) = false
same_number (negsuc a) (pos b) = false

same-number : (a b : ℤ) → same_number a b ≡ true → a ≡ b
same-number (pos a) (pos b) e = ap pos (eqb-true a b e)
same-number (negsuc a) (negsuc b) e = ap negsuc (eqb-true a b e)
same-number (pos a) (negsuc b) e = absurd (false≢true e)
same-number (negsuc a) (pos b) e = absurd (false≢true e)

abbrev stays : ℕ → Bool
stays label =
    same_number (displaced nothing (point_of label)).re (point_of label).re
    && same_number (displaced nothing (point_of label)).im (point_of label).im

all_stay : each_below 32 stays ≡ true
all_stay = refl

point-stays : (label : ℕ) → label < 32 → displaced nothing (point_of label) ≡ point_of label
point-stays label small =
    let parts = and_parts (same_number (displaced nothing (point_of label)).re (point_of label).re)
    (same_number (displaced nothing (point_of label)).im (point_of label).im) (at_each 32 stays all_stay label small) in
    same_sample (displaced nothing (point_of label)) (point_of label) (same-number _ _ parts.0) (same-number _ _ parts.1)

displaced-append : (script : ScriptValue) (sender : Role) (symbol : ℕ) (points more : List Sample)
    → displaced_from script sender symbol (points ++ more)
    ≡ displaced_from script sender symbol points ++ displaced_from script sender (symbol + length points) more
displaced-append script sender symbol [] more =
    let e : symbol ≡ symbol + length {A = Sample} [] = omega arith in
    ap (λ n. displaced_from script sender n more) e
displaced-append script sender symbol (point ∷ points) more =
    let e : symbol + 1 + length points ≡ symbol + length (point ∷ points) = omega arith in
    ap (λ xs. displaced (offset_of script sender symbol) point ∷ xs)
    (displaced-append script sender (symbol + 1) points more
    ∙ ap (λ n. displaced_from script sender (symbol + 1) points ++ displaced_from script sender n more) e)

-- as are those of labels that no line of the script reaches
displaced-still : (script : ScriptValue) (sender : Role) (symbol : ℕ) (labels : List ℕ)
    → ((k : ℕ) → k < length labels → get_or labels k 0 < 32)
    → ((n : ℕ) → symbol ≤ n → n < symbol + length labels → offset_of script sender n ≡ nothing)
    → displaced_from script sender symbol (map point_of labels) ≡ map point_of labels
displaced-still script sender symbol [] small still = refl
displaced-still script sender symbol (label ∷ labels) small still =
    let here = still symbol (omega arith) (omega arith) in
    let rest = displaced-still script sender (symbol + 1) labels (λ k low. small (suc k) (omega (arith, low)))
    (λ n low high. still n (omega (arith, low)) (omega (arith, high))) in
    let after = displaced_from script sender (symbol + 1) (map point_of labels) in
    ap (λ o. displaced o (point_of label) ∷ after) here
    ∙ ap (λ point. point ∷ after) (point-stays label (small 0 (omega arith)))
    ∙ ap (λ points. point_of label ∷ points) rest

-- samples that are displaced points are what a transmitter sends
pub sent : (old new : Transmitter) (script : ScriptValue) (points past samples : List Sample) (labels : List ℕ) (count : ℕ)
    → count ≤ length labels → new.sender ≡ old.sender → new.symbol ≡ old.symbol + count
    → samples ≡ displaced_from script old.sender old.symbol (map point_of (take count labels))
    → Transmits old script points past → Transmits new script (points ++ map point_of (take count labels)) (past ++ samples)
sent old new script points past samples labels count room same next are h = record {
  counted = omega (
    arith,
    next,
    h.counted,
    length-take-le count labels room,
    length-append points (map point_of (take count labels)),
    length-map (take count labels) point_of,
  );
  samples_are = ap (λ xs. past ++ xs) are ∙ ap (λ xs. xs ++ displaced_from script old.sender old.symbol more) h.samples_are
      ∙ ap (λ n. displaced_from script old.sender 0 points ++ displaced_from script old.sender n more) place
      ∙ sym (displaced-append script old.sender 0 points more) ∙ ap (λ r. displaced_from script r 0 (points ++ more)) (sym same);
}
  where
    more : List Sample
    more = map point_of (take count labels)

    place : old.symbol ≡ 0 + length points
    place = omega (arith, h.counted)

pub still-sent : (old new : Transmitter) (script : ScriptValue) (points past samples : List Sample) (labels : List ℕ) (count : ℕ)
    → count ≤ length labels → ((k : ℕ) → k < count → get_or labels k 0 < 32)
    → ((n : ℕ) → old.symbol ≤ n → n < old.symbol + count → offset_of script old.sender n ≡ nothing)
    → new.sender ≡ old.sender → new.symbol ≡ old.symbol + count → samples ≡ map point_of (take count labels)
    → Transmits old script points past → Transmits new script (points ++ map point_of (take count labels)) (past ++ samples)
still-sent old new script points past samples labels count room small still same next are =
    sent old new script points past samples labels count room same next (are ∙ sym unmoved)
  where
    long : length (take count labels) ≡ count
    long = length-take-le count labels room

    unmoved : displaced_from script old.sender old.symbol (map point_of (take count labels)) ≡ map point_of (take count labels)
    unmoved = displaced-still script old.sender old.symbol (take count labels)
        (λ k low. let few : k < count = omega (arith, low, long) in
        subst (λ x. x < 32) (sym (get_or-take count labels k 0 few)) (small k few))
        (λ n low high. still n low (omega (arith, high, long)))

-- one symbol more is displaced
pub displaced-more : (script : ScriptValue) (sender : Role) (symbol : ℕ) (labels : List ℕ) (k label : ℕ) (offset : Offset)
    (sample : Sample) → k < length labels → label ≡ get_or labels k 0 → offset ≡ offset_of script sender (symbol + k)
    → sample ≡ displaced offset (point_of label)
    → displaced_from script sender symbol (map point_of (take k labels)) ++ sample ∷ []
    ≡ displaced_from script sender symbol (map point_of (take (k + 1) labels))
displaced-more script sender symbol labels k label offset sample low l o s =
    ap (λ x. displaced_from script sender symbol points ++ x ∷ [])
    (s ∙ ap (λ x. displaced x (point_of label)) (o ∙ ap (λ n. offset_of script sender (symbol + n)) (sym long)))
    ∙ sym (displaced-snoc script sender symbol points (point_of label))
    ∙ ap (displaced_from script sender symbol) (points-part [] labels k label low l)
  where
    points : List Sample
    points = map point_of (take k labels)

    long : length (map point_of (take k labels)) ≡ k
    long = length-map (take k labels) point_of ∙ length-take-le k labels (omega (arith, low))
