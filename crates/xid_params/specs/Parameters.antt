-- The table of parameters, and the offer that the parameters of group 80 spell.
use Rattle.std.specs.Prelude.{◌≡◌, ℕ, ◌-◌, ◌/◌, ◌%◌, ◌^◌, min, Bool, true, false, ◌&&◌, not, IsTrue, nat_eq, nat_le, nat_lt, List, [], ◌∷◌, length, Option, Some, None, unwrap_or, slice_index_or}
use Rattle.std.specs.List.{flat_map}
use Rattle.frame_check.specs.declared.sizes.TheConstants.{INFO}
use Rattle.xid_params.specs.declared.offer.Offer.{Offer}
use Rattle.xid_params.specs.declared.parameter.Parameter.{Parameter}
use Rattle.xid_params.specs.declared.parameter.Parameter.TheVariants.{Functions, TxLength, RxLength, TxWindow, RxWindow}
use Rattle.xid_params.specs.Parts.{Part, parameter_octets, named, number_of}
use Rattle.xid_params.specs.Terms.{default_offer}

-- the parameters that are read; all others are passed over
abbrev pub identifier_of : Parameter → ℕ
identifier_of Functions = 3
identifier_of TxLength = 5
identifier_of RxLength = 6
identifier_of TxWindow = 7
identifier_of RxWindow = 8

-- the lengths in octets that a value may have
abbrev pub accepts : Parameter → ℕ → Bool
accepts Functions count = nat_le 3 count && nat_le count 4
accepts TxLength count = nat_le 1 count && nat_le count 4
accepts RxLength count = nat_le 1 count && nat_le count 4
accepts TxWindow count = nat_eq count 1
accepts RxWindow count = nat_eq count 1

-- a length, said in bits, below one octet, or a window without a segment
abbrev pub is_low : Parameter → List ℕ → Bool
is_low Functions value = false
is_low TxLength value = nat_lt (number_of value / 8) 1
is_low RxLength value = nat_lt (number_of value / 8) 1
is_low TxWindow value = nat_lt (number_of value) 1
is_low RxWindow value = nat_lt (number_of value) 1

-- the octets of a length that is said in bits, and the segments of a window, up to the most that an end takes
abbrev pub octets_of_bits : List ℕ → ℕ
octets_of_bits value = min (number_of value / 8) INFO

abbrev pub segments_of : List ℕ → ℕ
segments_of value = min (number_of value) 127

-- a function's bit: bits are numbered from 1 at the low bit of the first octet
abbrev pub has_bit : ℕ → List ℕ → Bool
has_bit number value = nat_eq (slice_index_or value ((number - 1) / 8) 0 / 2 ^ ((number - 1) % 8) % 2) 1

-- The parameter isn't there, or stands once with a length that it may have and a value that isn't low.
abbrev pub stands_well : Parameter → List Part → Bool
stands_well parameter [] = true
stands_well parameter (part ∷ []) = accepts parameter (length part.value) && not (is_low parameter part.value)
stands_well parameter (part ∷ again ∷ parts) = false

-- what the part says, if it is there
abbrev pub said : {A : Type 0} → (List ℕ → A) → List Part → Option A
said read [] = None
said read (part ∷ parts) = Some (read part.value)

-- an offer has the values that stand there, and else the defaults. Bit 3 is SREJ, and bit 17 the 32-bit check
abbrev pub offer_of : List Part → Offer
offer_of parts = record {
  srej = unwrap_or (said (has_bit 3) (named (identifier_of Functions) parts)) default_offer.srej;
  check32 = unwrap_or (said (has_bit 17) (named (identifier_of Functions) parts)) default_offer.check32;
  tx_len = unwrap_or (said octets_of_bits (named (identifier_of TxLength) parts)) default_offer.tx_len;
  rx_len = unwrap_or (said octets_of_bits (named (identifier_of RxLength) parts)) default_offer.rx_len;
  tx_window = unwrap_or (said segments_of (named (identifier_of TxWindow) parts)) default_offer.tx_window;
  rx_window = unwrap_or (said segments_of (named (identifier_of RxWindow) parts)) default_offer.rx_window;
}

pub record AreWell (parts : List Part) : Type 0 where
  pub each : (parameter : Parameter) → IsTrue (stands_well parameter (named (identifier_of parameter) parts))

-- What group 80 contains is a list of parameters, each that is read stands well, and the offer is theirs.
pub record ParametersSpell (content : List ℕ) (offer : Offer) : Type 0 where
  pub parts : List Part
  pub whole : content ≡ flat_map parameter_octets parts
  pub well : AreWell parts
  pub offer_is : offer ≡ offer_of parts
