-- When nothing but want of memory keeps the command from being done.
use Rattle.std.specs.Prelude.{◌≡◌, ℕ, ◌≤◌, List, [], length, Ok}
use Rattle.hex.specs.Hex.{decode_of}
use Rattle.outside_calls.specs.Folder.{FolderState}
use Rattle.xid_params.specs.declared.offer.Offer.{Offer}
use Rattle.xid_params.specs.Offers.{OfferSpelling}
use Rattle.command_base.specs.declared.status.Status.{Status}
use Rattle.command_base.specs.Sound.{IsSound, DoneUnlessMemory}

-- At most 512 digits, and the octets that they are spell an offer.
pub record SpellAnOffer (digits : List ℕ) : Type 0 where
  pub within : length digits ≤ 512
  pub octets : List ℕ
  pub decoded : decode_of digits ≡ Ok octets
  pub offer : Offer
  pub spelled : OfferSpelling octets offer

-- the digits spell an offer, and saying doesn't fail
abbrev pub Completes : FolderState → FolderState → List ℕ → Status → Type 0
Completes old new digits s = IsSound old new [] [] → SpellAnOffer digits → DoneUnlessMemory s
