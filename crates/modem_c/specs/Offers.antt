-- The numbers of an offer and of terms, as C has them, and what the calls of XID answer.
use Rattle.std.specs.Prelude.{◌≡◌, ℕ, ℤ, ◌<◌, ◌≤◌, List, [], length}
use Rattle.frame_check.specs.Bits.{number}
use Rattle.xid_params.specs.declared.offer.Offer.{Offer}
use Rattle.xid_params.specs.declared.terms.Terms.{Terms}
use Rattle.xid_params.specs.declared.fault.XidFault.{XidFault}
use Rattle.xid_params.specs.declared.fault.XidFault.TheVariants as faults
use Rattle.xid_params.specs.Faults.{FirstFault, place_of}
use Rattle.xid_params.specs.Offers.{IsAllowed, OfferSpelling, written}
use Rattle.xid_params.specs.Terms.{agree}
use Rattle.modem_c.specs.declared.codes.TheConstants.{DONE, FULL, BAD_ARGUMENT}
use Rattle.modem_c.specs.declared.xid.OfferFields.{OfferFields}
use Rattle.modem_c.specs.declared.xid.OfferFault.{OfferFault}
use Rattle.modem_c.specs.declared.xid.TermsFields.{TermsFields}
use Rattle.modem_c.specs.Answered.{Puts}

abbrev pub fields_of : Offer → OfferFields
fields_of o = record {
  tx_len = o.tx_len;
  rx_len = o.rx_len;
  tx_window = o.tx_window;
  rx_window = o.rx_window;
  srej = number o.srej;
  check32 = number o.check32;
}

abbrev pub terms_of : Terms → TermsFields
terms_of t = record {
  len_o = t.len_o;
  len_a = t.len_a;
  window_o = t.window_o;
  window_a = t.window_a;
  srej = number t.srej;
  check32 = number t.check32;
}

-- the number of a fault's kind, and its place
abbrev pub kind_of : XidFault → ℕ
kind_of faults.Format = 1
kind_of (faults.Group at) = 2
kind_of (faults.Length at) = 3
kind_of (faults.Value at) = 4
kind_of (faults.Repeated at) = 5

abbrev pub no_fault : OfferFault
no_fault = record { at = 0; kind = 0 }

-- what reading an information field answers: the offer that it spells, or its first fault
pub data OfferRead (info : List ℕ) (before after : OfferFields) (fault : OfferFault) (code : ℤ) : Type 0 where
  Spelled : (offer : Offer) → OfferSpelling info offer → after ≡ fields_of offer → fault ≡ no_fault → code ≡ DONE → OfferRead info before after fault code
  Faulty : (first : XidFault) → FirstFault info first → fault.kind ≡ kind_of first → fault.at ≡ place_of first → code ≡ BAD_ARGUMENT → after ≡ before
      → OfferRead info before after fault code

-- what writing one answers: no offer that may be sent has these fields, or there is too little room, or its one spelling is written
pub data OfferWritten (fields : OfferFields) (before room : List ℕ) (count : ℕ) (code : ℤ) : Type 0 where
  NotAllowed : ((offer : Offer) → IsAllowed offer → fields ≡ fields_of offer → ⊥) → code ≡ BAD_ARGUMENT → Puts [] before room count
      → OfferWritten fields before room count code
  NoRoom : (offer : Offer) → IsAllowed offer → fields ≡ fields_of offer → length before < length (written offer) → code ≡ FULL → Puts [] before room count
      → OfferWritten fields before room count code
  Done : (offer : Offer) → IsAllowed offer → fields ≡ fields_of offer → length (written offer) ≤ length before → code ≡ DONE
      → Puts (written offer) before room count → OfferWritten fields before room count code

-- what two offers come to; one of them may be none, where a function is neither 0 nor 1
pub data Agreed (originator answerer : OfferFields) (before after : TermsFields) (code : ℤ) : Type 0 where
  NoOffer : ((o a : Offer) → originator ≡ fields_of o → answerer ≡ fields_of a → ⊥) → code ≡ BAD_ARGUMENT → after ≡ before
      → Agreed originator answerer before after code
  AsTerms : (o a : Offer) → originator ≡ fields_of o → answerer ≡ fields_of a → after ≡ terms_of (agree o a) → code ≡ DONE
      → Agreed originator answerer before after code
