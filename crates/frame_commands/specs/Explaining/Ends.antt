-- How the command ends, before its line is said.
use Rattle.std.specs.Prelude.{◌≡◌, ℕ, ◌≤◌, List, [], length, Result, Ok, Err}
use Rattle.hex.specs.Hex.{decode_of}
use Rattle.xid_params.specs.declared.offer.Offer.{Offer}
use Rattle.xid_params.specs.declared.fault.XidFault.{XidFault}
use Rattle.xid_params.specs.Offers.{OfferSpelling}
use Rattle.xid_params.specs.Faults.{FirstFault}
use Rattle.command_base.specs.declared.limits.TheConstants.{HEX_LIMIT}
use Rattle.command_base.specs.declared.status.Status.{Status}
use Rattle.command_base.specs.declared.status.Status.TheVariants.{BadXid}
use Rattle.command_base.specs.declared.stop.Stop.{Stop}
use Rattle.command_base.specs.declared.stop.Stop.TheVariants.{Own}
use Rattle.command_base.specs.Job.{Job}
use Rattle.frame_commands.specs.Explaining.Digits.{RefusesDigits}
use Rattle.frame_commands.specs.Explaining.OfferLine.{offer_line}

-- The digits are within the limit, and spell this offer.
pub record Explains (digits : List ℕ) (offer : Offer) : Type 0 where
  pub within : length digits ≤ HEX_LIMIT
  pub octets : List ℕ
  pub decoded : decode_of digits ≡ Ok octets
  pub spelled : OfferSpelling octets offer

-- The digits are within the limit, and spell no offer, for this fault first.
pub record SpellsNone (digits : List ℕ) (fault : XidFault) : Type 0 where
  pub within : length digits ≤ HEX_LIMIT
  pub octets : List ℕ
  pub decoded : decode_of digits ≡ Ok octets
  pub first : FirstFault octets fault

-- why the digits give no offer, by the answer
abbrev pub Refuses : List ℕ → Status → Type 0
Refuses digits (BadXid fault) = SpellsNone digits fault
Refuses digits status = RefusesDigits digits status

-- how it ends: with the offer that the digits spell, or for what they are; no folder is used
abbrev pub Ends : List ℕ → Result Offer Stop → Type 0
Ends digits (Ok offer) = Explains digits offer
Ends digits (Err (Own answer)) = Refuses digits answer
Ends digits (Err stop) = ⊥

-- The job of the command: it reads and writes no name, and its line is that of the offer.
abbrev pub xid_job : List ℕ → Job Offer
xid_job digits = record { inputs = []; outputs = []; Ends = λ old new end. Ends digits end × (new ≡ old); line_of = offer_line }
