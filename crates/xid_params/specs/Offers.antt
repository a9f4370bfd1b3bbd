-- The offer that an information field spells, as a relation and as a function, and the spelling that is sent.
use Rattle.std.specs.Prelude.{◌≡◌, ℕ, zero, suc, ◌+◌, ◌*◌, ◌/◌, ◌%◌, ◌≤◌, ◌↔◌, Bool, if◌then◌else◌, ◌&&◌, nat_eq, nat_le, List, [], ◌∷◌, ◌++◌, length, take, drop, Option, Some, None}
use Rattle.std.specs.List.{flat_map}
use Rattle.std.specs.Option.{option_map, option_and_then}
use Rattle.frame_check.specs.declared.sizes.TheConstants.{INFO}
use Rattle.xid_params.specs.declared.offer.Offer.{Offer}
use Rattle.xid_params.specs.declared.parameter.Parameter.TheVariants.{Functions, TxLength, RxLength, TxWindow, RxWindow}
use Rattle.xid_params.specs.Parts.{Part, group_octets, named}
use Rattle.xid_params.specs.Parameters.{identifier_of, stands_well, offer_of, ParametersSpell}
use Rattle.xid_params.specs.Terms.{default_offer}
use Rattle.frame_check.specs.Octets.{AreOctets}

-- The field begins with 82 and these groups, none of which is FF, and goes on so.
pub record Passes (octets : List ℕ) (groups : List Part) (rest : List ℕ) : Type 0 where
  pub whole : octets ≡ 130 ∷ (flat_map group_octets groups ++ rest)
  pub none_ends : named 255 groups ≡ []

-- nothing, or FF and anything behind it
abbrev pub IsEnd : List ℕ → Type 0
IsEnd [] = Unit {0}
IsEnd (identifier ∷ unread) = identifier ≡ 255

-- Group 80 isn't there, or stands once.
abbrev pub GroupsSpell : List Part → Offer → Type 0
GroupsSpell [] offer = offer ≡ default_offer
GroupsSpell (group ∷ []) offer = ParametersSpell group.value offer
GroupsSpell (group ∷ again ∷ groups) offer = ⊥

-- The octets are 82 and a list of groups, which ends with the field or with FF, and group 80 spells the offer.
pub record OfferSpelling (octets : List ℕ) (offer : Offer) : Type 0 where
  pub groups : List Part
  pub rest : List ℕ
  pub passes : Passes octets groups rest
  pub ends : IsEnd rest
  pub offers : GroupsSpell (named 128 groups) offer

-- The same as a function. The groups of a field, up to FF; none where one is longer than the field. The first number is at least the
-- field's length.
abbrev pub before : ℕ → List ℕ → Option (List Part) → Option (List Part)
before identifier value parts = option_map (λ ps. record { identifier = identifier; value = value } ∷ ps) parts

abbrev pub groups_in : ℕ → List ℕ → Option (List Part)
groups_in zero octets = Some []
groups_in (suc room) [] = Some []
groups_in (suc room) (g ∷ []) = if nat_eq g 255 then Some [] else None
groups_in (suc room) (g ∷ high ∷ []) = if nat_eq g 255 then Some [] else None
groups_in (suc room) (g ∷ high ∷ low ∷ rest) =
    if nat_eq g 255 then Some [] else if nat_le (256 * high + low) (length rest) then before g (take (256 * high + low) rest)
    (groups_in room (drop (256 * high + low) rest)) else None

-- the parameters of a group
abbrev pub parameters_in : ℕ → List ℕ → Option (List Part)
parameters_in zero octets = Some []
parameters_in (suc room) [] = Some []
parameters_in (suc room) (p ∷ []) = None
parameters_in (suc room) (p ∷ count ∷ rest) =
    if nat_le count (length rest) then before p (take count rest) (parameters_in room (drop count rest)) else None

abbrev pub all_well : List Part → Bool
all_well parts =
    stands_well Functions (named (identifier_of Functions) parts)
    && (stands_well TxLength (named (identifier_of TxLength) parts)
    && (stands_well RxLength (named (identifier_of RxLength) parts)
    && (stands_well TxWindow (named (identifier_of TxWindow) parts)
    && stands_well RxWindow (named (identifier_of RxWindow) parts))))

abbrev pub offer_with : List Part → Option Offer
offer_with parts = if all_well parts then Some (offer_of parts) else None

abbrev pub offer_of_groups : List Part → Option Offer
offer_of_groups [] = Some default_offer
offer_of_groups (group ∷ []) = option_and_then offer_with (parameters_in (length group.value) group.value)
offer_of_groups (group ∷ again ∷ groups) = None

-- the offer that an information field spells; none where the field is refused
abbrev pub offer_in : List ℕ → Option Offer
offer_in [] = None
offer_in (first ∷ rest) =
    if nat_eq first 130 then option_and_then (λ groups. offer_of_groups (named 128 groups)) (groups_in (length rest) rest) else None

-- its one spelling that is sent
abbrev pub written : Offer → List ℕ
written o =
    130 ∷ 128 ∷ 0 ∷ 19 ∷
    3 ∷ 3 ∷ (if o.srej then 142 else 138) ∷ 137 ∷ (if o.check32 then 1 else 0) ∷
    5 ∷ 2 ∷ (8 * o.tx_len / 256) ∷ (8 * o.tx_len % 256) ∷
    6 ∷ 2 ∷ (8 * o.rx_len / 256) ∷ (8 * o.rx_len % 256) ∷
    7 ∷ 1 ∷ o.tx_window ∷ 8 ∷ 1 ∷ o.rx_window ∷ []

abbrev pub DefaultIsRead : Type 0
DefaultIsRead = offer_in (written default_offer) ≡ Some default_offer

-- an offer that may be sent
pub record IsAllowed (o : Offer) : Type 0 where
  pub tx_len_low : 1 ≤ o.tx_len
  pub tx_len_high : o.tx_len ≤ INFO
  pub rx_len_low : 1 ≤ o.rx_len
  pub rx_len_high : o.rx_len ≤ INFO
  pub tx_window_low : 1 ≤ o.tx_window
  pub tx_window_high : o.tx_window ≤ 127
  pub rx_window_low : 1 ≤ o.rx_window
  pub rx_window_high : o.rx_window ≤ 127

-- What is written is read back.
abbrev pub ReadsWritten : Type 0
ReadsWritten = (o : Offer) → IsAllowed o → offer_in (written o) ≡ Some o

-- What is written spells the offer.
abbrev pub WrittenSpells : Type 0
WrittenSpells = (o : Offer) → IsAllowed o → OfferSpelling (written o) o

-- The function and the relation are one.
abbrev pub SpellingIsFound : Type 0
SpellingIsFound = (octets : List ℕ) (offer : Offer) → AreOctets octets → (offer_in octets ≡ Some offer) ↔ OfferSpelling octets offer

-- An offer that is read is one that may be sent.
abbrev pub ReadsAllowed : Type 0
ReadsAllowed = (octets : List ℕ) (offer : Offer) → offer_in octets ≡ Some offer → IsAllowed offer
