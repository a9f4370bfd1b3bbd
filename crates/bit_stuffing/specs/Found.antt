-- The pieces of a stream as a function of its bits. That they are those of the definition by places is a law.
use Rattle.std.specs.Prelude.{ℕ, zero, suc, ◌+◌, ◌-◌, ◌*◌, ◌/◌, ◌%◌, Bool, true, ◌&&◌, not, if◌then◌else◌, nat_eq, nat_lt, List, [], ◌∷◌, ◌++◌, length, take, replicate, Option, Some, None}
use Rattle.std.specs.Bool.{beq}
use Rattle.std.specs.List.{ends_with}
use Rattle.std.specs.Cmp.Lexicographic.{pointwise}
use Rattle.std.specs.Option.{option_map, option_map_or}
use Rattle.frame_check.specs.declared.sizes.TheConstants.{WHOLE}
use Rattle.frame_check.specs.Bits.{octets_of}
use Rattle.bit_stuffing.specs.declared.piece.Piece.{Piece}
use Rattle.bit_stuffing.specs.declared.piece.Piece.TheVariants.{Whole, Ragged, Aborted, TooLong, TooShort}
use Rattle.bit_stuffing.specs.declared.piece.TheConstants.{SHORTEST}
use Rattle.bit_stuffing.specs.Flags.{flag}
use Rattle.bit_stuffing.specs.Stuffing.{stuffed, removed}
use Rattle.bit_stuffing.specs.Pieces.{content}

-- a piece: the number of bits up to its end, what it is, and its octets where it is whole
pub record Found : Type 0 where
  pub place : ℕ
  pub piece : Piece
  pub octets : List ℕ

-- what aborts
abbrev pub seven_ones : List Bool
seven_ones = replicate 7 true

-- Where the flag ends that is open behind the first n bits: looking back, at the first flag, unless seven ones in a row come before it.
abbrev pub opened_before : List Bool → ℕ → Option ℕ
opened_before bits zero = None
opened_before bits (suc n) =
    if ends_with beq (take (suc n) bits) flag then Some (suc n)
    else (if ends_with beq (take (suc n) bits) seven_ones then None else opened_before bits n)

-- whether the bits are a stuffing of whole octets
abbrev pub are_octets : List Bool → Bool
are_octets bits = nat_eq (length (removed 5 bits) % 8) 0 && pointwise beq (stuffed 5 (removed 5 bits)) bits

-- what the bits between two flags are
abbrev pub judged : List Bool → Piece
judged bits =
    if nat_lt (8 * WHOLE) (length (removed 5 bits)) then TooLong
    else (if not (are_octets bits) then Ragged
    else (if nat_lt (length (removed 5 bits)) (8 * SHORTEST) then TooShort else Whole))

-- the octets of a whole piece
abbrev pub octets_in : Piece → List Bool → List ℕ
octets_in Whole bits = octets_of (length (removed 5 bits) / 8) (removed 5 bits)
octets_in _ bits = []

-- a piece that ends with these bits, where this stands between the flags
abbrev pub closed : List Bool → List Bool → Found
closed bits between = record { place = length bits; piece = judged between; octets = octets_in (judged between) between }

-- an abort that these bits end with
abbrev pub aborted : List Bool → Found
aborted bits = record { place = length bits; piece = Aborted; octets = [] }

-- what is found at the last of the bits, where such a flag is open before it
abbrev pub found_from : List Bool → Option ℕ → Option Found
found_from bits None = None
found_from bits (Some opened) =
    if ends_with beq bits flag then (if nat_lt (opened + 8) (length bits) then Some (closed bits (content bits opened)) else None)
    else (if ends_with beq bits seven_ones then Some (aborted bits) else None)

-- what is found at the last of the bits
unfoldable pub found_at : List Bool → Option Found
found_at bits = found_from bits (opened_before bits (length bits - 1))

-- the answer at the last of the bits
abbrev pub answer_of : List Bool → Option Piece
answer_of bits = option_map (λ found. found.piece) (found_at bits)

-- the octets that are lent behind the last of the bits
abbrev pub lent_of : List Bool → List ℕ
lent_of bits = option_map_or (λ found. found.octets) (found_at bits) []

-- what is found at one bit, as a list
abbrev pub listed : Option Found → List Found
listed None = []
listed (Some found) = found ∷ []

-- what is found in the first n bits, in order
abbrev pub found_before : List Bool → ℕ → List Found
found_before bits zero = []
found_before bits (suc n) = found_before bits n ++ listed (found_at (take (suc n) bits))

-- the pieces of the bits, in order
unfoldable pub pieces_of : List Bool → List Found
pieces_of bits = found_before bits (length bits)
