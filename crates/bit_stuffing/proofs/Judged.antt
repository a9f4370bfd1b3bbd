-- What a content is, as a relation and as a function.
use Rattle.std.proofs.lemmas.Bool.{and_parts}
use Rattle.bit_stuffing.proofs.Names.{◌≡◌, ◌≢◌, ◌⊎◌, ℕ, ◌*◌, ◌/◌, ◌%◌, ◌≤◌, Bool, true, false, not, if◌then◌else◌, List}
use Rattle.bit_stuffing.proofs.Names.{length, nat_eq, nat_lt, arith, refl, sym, ◌∙◌, ap, subst, ltb-true, ltb-false, eqb-true}
use Rattle.bit_stuffing.proofs.Names.{eq-eqb, beq, pointwise, judged, octets_in, Carries, IsWhole, Judged, Stuffs, stuffed, removed}
use Rattle.bit_stuffing.proofs.Names.{room_after, Fits, Piece, Whole, Ragged, TooLong, TooShort, same_octets, WHOLE}
use Rattle.frame_check.specs.Bits.{octets_of}
use Rattle.frame_check.proofs.BitLists.{bits_of-octets_of, octets_of-are_octets, length-octets_of}
use Rattle.bit_stuffing.specs.declared.piece.TheConstants.{SHORTEST}
use Rattle.bit_stuffing.specs.Found.{are_octets}
use Rattle.bit_stuffing.proofs.Stuffed.{is_stuffed, is_removed, stuffs-stuffed, stuffs-room, fits-stuffs}
use Rattle.bit_stuffing.proofs.Gather.{carried-length}
use Rattle.bit_stuffing.proofs.EndsWith.{same_bits, bits-same}

-- a content is one thing
pub judged-once : (line : List Bool) (a b : Piece) → Judged line a → Judged line b → a ≡ b
judged-once line a b j k = grind (arith, carried-length)

-- a line carries one list of octets
pub carries_once : (line : List Bool) (octets others : List ℕ) → Carries line octets → Carries line others → octets ≡ others
carries_once line octets others h k = same_octets octets others h.small k.small (is_removed h.stuffs ∙ sym (is_removed k.stuffs))

-- the test whether it carries any

pub carries-octets : (line : List Bool) → are_octets line ≡ true → Carries line (octets_of (length (removed 5 line) / 8) (removed 5 line))
carries-octets line e =
    let both = and_parts (nat_eq (length (removed 5 line) % 8) 0) (pointwise beq (stuffed 5 (removed 5 line)) line) e in
    let whole : length (removed 5 line) % 8 ≡ 0 = eqb-true (length (removed 5 line) % 8) 0 both.0 in
    let wide : length (removed 5 line) ≡ 8 * (length (removed 5 line) / 8) = omega arith in
    let content_is = bits_of-octets_of (length (removed 5 line) / 8) (removed 5 line) wide in
    let same : stuffed 5 (removed 5 line) ≡ line = same_bits (stuffed 5 (removed 5 line)) line both.1 in
    assumption (
      octets_of-are_octets (length (removed 5 line) / 8) (removed 5 line),
      subst (λ content. Stuffs content line) (sym content_is)
          (subst (Stuffs (removed 5 line)) same (stuffs-stuffed 0 5 (removed 5 line) refl)),
    )

pub carried-test : (line : List Bool) (octets : List ℕ) → Carries line octets → are_octets line ≡ true
carried-test line octets h =
    let whole : length (removed 5 line) % 8 ≡ 0 = omega (arith, carried-length line octets h) in
    let same : stuffed 5 (removed 5 line) ≡ line = ap (stuffed 5) (sym (is_removed h.stuffs)) ∙ sym (is_stuffed 5 h.stuffs refl) in
    let first : nat_eq (length (removed 5 line) % 8) 0 ≡ true = eq-eqb (length (removed 5 line) % 8) 0 whole in
    let second : pointwise beq (stuffed 5 (removed 5 line)) line ≡ true = ap (λ t. pointwise beq t line) same ∙ bits-same line in
    rw (first, second) refl

octets-count : (line : List Bool) → length (octets_of (length (removed 5 line) / 8) (removed 5 line)) ≡ length (removed 5 line) / 8
octets-count line = length-octets_of (length (removed 5 line) / 8) (removed 5 line)

-- the function gives what the content is
pub judged-is : (line : List Bool) → Judged line (judged line)
judged-is line = long (nat_lt (8 * WHOLE) (length (removed 5 line))) refl
  where
    short : are_octets line ≡ true → length (removed 5 line) ≤ 8 * WHOLE → (s : Bool) → nat_lt (length (removed 5 line)) (8 * SHORTEST) ≡ s
        → Judged line (if s then TooShort else Whole)
    short o fits true e =
        let few = ltb-true (length (removed 5 line)) (8 * SHORTEST) e in
        (octets_of (length (removed 5 line) / 8) (removed 5 line), carries-octets line o, omega (arith, octets-count line))
    short o fits false e =
        let many = ltb-false (length (removed 5 line)) (8 * SHORTEST) e in (
          octets_of (length (removed 5 line) / 8) (removed 5 line),
          record { carries = carries-octets line o; low = omega (arith, octets-count line); high = omega (arith, octets-count line) },
        )

    octets : length (removed 5 line) ≤ 8 * WHOLE → (o : Bool) → are_octets line ≡ o
        → Judged line (if not o then Ragged else (if nat_lt (length (removed 5 line)) (8 * SHORTEST) then TooShort else Whole))
    octets fits o e = grind (arith, short, carried-test)

    long : (l : Bool) → nat_lt (8 * WHOLE) (length (removed 5 line)) ≡ l
        → Judged line (if l then TooLong else
        (if not (are_octets line) then Ragged else (if nat_lt (length (removed 5 line)) (8 * SHORTEST) then TooShort else Whole)))
    long l e = grind (arith, ltb-true, octets, ltb-false)

-- the octets of a whole piece
pub octets-whole : (line : List Bool) (octets : List ℕ) → IsWhole line octets → octets_in Whole line ≡ octets
octets-whole line octets h =
    carries_once line (octets_in Whole line) octets (carries-octets line (carried-test line octets h.carries)) h.carries

-- a line whose zeros stand where they have to carries octets, unless it has no whole ones or ends with five ones

pub not-carried : (line : List Bool) (octets : List ℕ) → (length (removed 5 line) % 8 ≢ 0) ⊎ (room_after 5 line ≡ 0) → Carries line octets
    → ⊥
not-carried line octets given h = grind (arith, carried-length, stuffs-room)

pub fits-carries : (line : List Bool) → Fits 5 line → length (removed 5 line) % 8 ≡ 0 → room_after 5 line ≢ 0
    → (octets : List ℕ) × Carries line octets
fits-carries line f whole room =
    let wide : length (removed 5 line) ≡ 8 * (length (removed 5 line) / 8) = omega arith in (
      octets_of (length (removed 5 line) / 8) (removed 5 line),
      record {
        small = octets_of-are_octets (length (removed 5 line) / 8) (removed 5 line);
        stuffs = grind (arith, bits_of-octets_of, fits-stuffs);
      },
    )
