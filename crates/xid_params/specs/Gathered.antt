-- What is gathered on the way through a field, for the parts that were passed.
use Rattle.std.specs.Prelude.{◌≡◌, List, [], ◌∷◌, Option, Some, None}
use Rattle.xid_params.specs.declared.given.Given.{Given}
use Rattle.xid_params.specs.declared.offer.Offer.{Offer}
use Rattle.xid_params.specs.declared.parameter.Parameter.TheVariants.{Functions, TxLength, RxLength, TxWindow, RxWindow}
use Rattle.xid_params.specs.Parts.{Part, named}
use Rattle.xid_params.specs.Parameters.{identifier_of, has_bit, octets_of_bits, segments_of, said, ParametersSpell}

-- each parameter said so
pub record Stands (given : Given) (parts : List Part) : Type 0 where
  pub srej : given.srej ≡ said (has_bit 3) (named (identifier_of Functions) parts)
  pub check32 : given.check32 ≡ said (has_bit 17) (named (identifier_of Functions) parts)
  pub tx_len : given.tx_len ≡ said octets_of_bits (named (identifier_of TxLength) parts)
  pub rx_len : given.rx_len ≡ said octets_of_bits (named (identifier_of RxLength) parts)
  pub tx_window : given.tx_window ≡ said segments_of (named (identifier_of TxWindow) parts)
  pub rx_window : given.rx_window ≡ said segments_of (named (identifier_of RxWindow) parts)

-- group 80 is this one, and spells the offer
pub record IsOffered (groups : List Part) (offer : Offer) : Type 0 where
  pub group : Part
  pub alone : named 128 groups ≡ group ∷ []
  pub spells : ParametersSpell group.value offer

-- the offer of group 80, where it stood
abbrev pub Offers : Option Offer → List Part → Type 0
Offers None groups = named 128 groups ≡ []
Offers (Some offer) groups = IsOffered groups offer
