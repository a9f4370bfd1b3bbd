-- Every answer of the command, and when it is done.
use Rattle.frame_commands.proofs.Names.{◌≡◌, ◌∙◌, inl, inr, ℕ, ◌≤◌, ◌<◌, List, [], length, Ok, Err, refl, sym, subst, arith}
use Rattle.frame_commands.proofs.Names.{done-unless-memory, Answers, Tells, Status, Done, Own, IsBadHex, xid_job, OnlyOutputs-refl}
use Rattle.frame_commands.proofs.Names.{CountsStand-refl, FolderState}
use Rattle.hex.specs.Hex.{decode_of}
use Rattle.hex.proofs.HexLemmas.{decode_of-ok, decode_of-same}
use Rattle.xid_params.specs.declared.offer.Offer.{Offer}
use Rattle.xid_params.specs.Offers.{OfferSpelling}
use Rattle.xid_params.proofs.Exact.{never-both}
use Rattle.command_base.specs.declared.limits.TheConstants.{HEX_LIMIT}
use Rattle.command_base.specs.declared.status.Status.TheVariants.{Usage, BadScript, BadRecording, BadHex, BadXid, TooLong, ReadFault}
use Rattle.command_base.specs.declared.status.Status.TheVariants.{WriteFault}
use Rattle.command_base.specs.declared.status.Status.TheVariants.{LineLost, NotDetected, LinkLost, ChanceMatch, NoMemory, PeerFault}
use Rattle.command_base.specs.declared.status.Status.TheVariants.{AuditNo, BadTap, PairLinkLost, PairNotDetected}
use Rattle.command_base.specs.Stops.{IsOwn}
use Rattle.command_base.specs.Job.{SaysStop}
use Rattle.frame_commands.specs.Explaining.Ends.{Explains, Refuses}
use Rattle.frame_commands.specs.Explaining.OfferLine.{offer_line}
use Rattle.frame_commands.specs.Explaining.Completes.{SpellAnOffer, Completes}

never-longer : (count : ℕ) → count ≤ 512 → HEX_LIMIT < count → ⊥
never-longer count within longer = omega (arith, within, longer)

-- digits that decode are not bad ones
never-bad : (digits octets : List ℕ) (at : ℕ) → decode_of digits ≡ Ok octets → IsBadHex digits at → ⊥
never-bad digits octets at e (inl odd) = omega (arith, odd.0, (decode_of-ok digits octets e).0)
never-bad digits octets at e (inr first) = cc (sym ((decode_of-ok digits octets e).1 at 0 first.1.within) ∙ first.1.other)

never-refused : (digits : List ℕ) (status : Status) → SpellAnOffer digits → Refuses digits status → ⊥
never-refused digits (BadXid fault) r why =
    let same = decode_of-same digits r.octets why.octets r.decoded why.decoded in
    never-both why.octets r.offer why.first.at fault (subst (λ (xs : List ℕ). OfferSpelling xs r.offer) same r.spelled) why.first.here
never-refused digits (TooLong word) r why = never-longer (length digits) r.within why.1
never-refused digits (BadHex at) r why = never-bad digits r.octets at r.decoded why.1
never-refused digits Done r why = why
never-refused digits Usage r why = why
never-refused digits (BadScript line cause) r why = why
never-refused digits (BadRecording at) r why = why
never-refused digits ReadFault r why = why
never-refused digits WriteFault r why = why
never-refused digits (LineLost role symbol) r why = why
never-refused digits (NotDetected turn) r why = why
never-refused digits (LinkLost role segment turn) r why = why
never-refused digits (ChanceMatch role turn) r why = why
never-refused digits NoMemory r why = why
never-refused digits (PeerFault fault turn) r why = why
never-refused digits (AuditNo line cause) r why = why
never-refused digits (BadTap role turn) r why = why
never-refused digits (PairLinkLost link role segment turn) r why = why
never-refused digits (PairNotDetected link turn) r why = why

-- what digits are refused for is the command's own answer
refuses-own : (digits : List ℕ) (answer : Status) → Refuses digits answer → IsOwn answer
refuses-own digits (BadXid fault) why = tt
refuses-own digits (TooLong word) why = tt
refuses-own digits (BadHex at) why = tt
refuses-own digits Done why = why
refuses-own digits Usage why = why
refuses-own digits (BadScript line cause) why = tt
refuses-own digits (BadRecording at) why = tt
refuses-own digits ReadFault why = why
refuses-own digits WriteFault why = why
refuses-own digits (LineLost role symbol) why = tt
refuses-own digits (NotDetected turn) why = tt
refuses-own digits (LinkLost role segment turn) why = tt
refuses-own digits (ChanceMatch role turn) why = tt
refuses-own digits NoMemory why = why
refuses-own digits (PeerFault fault turn) why = tt
refuses-own digits (AuditNo line cause) why = tt
refuses-own digits (BadTap role turn) why = tt
refuses-own digits (PairLinkLost link role segment turn) why = tt
refuses-own digits (PairNotDetected link turn) why = tt

-- the offer was explained
pub explained : (words : List (List ℕ)) (old new : FolderState) (digits : List ℕ) (offer : Offer) (s : Status) → Explains digits offer
    → Tells old new (offer_line offer) Done s → Answers (xid_job digits) words old new s
explained words old new digits offer s explains tells = record {
  end = Ok offer;
  before = old;
  ends = (explains, refl);
  only = OnlyOutputs-refl old [];
  refused = λ never. absurd never;
  counts = CountsStand-refl old;
  says = tells;
}

-- the digits were refused
pub not-explained : (words : List (List ℕ)) (old new : FolderState) (digits : List ℕ) (answer s : Status) → Refuses digits answer
    → SaysStop words old new (Own answer) s → Answers (xid_job digits) words old new s
not-explained words old new digits answer s refuses says = record {
  end = Err (Own answer);
  before = old;
  ends = (refuses, refl);
  only = OnlyOutputs-refl old [];
  refused = λ r name told. refl;
  counts = (refuses-own digits answer refuses, CountsStand-refl old);
  says = says;
}

pub completes-of : (words : List (List ℕ)) (old new : FolderState) (digits : List ℕ) (s : Status) → Answers (xid_job digits) words old new s
    → Completes old new digits s
completes-of words old new digits s a sound r =
    done-unless-memory (xid_job digits) words old new s a sound (λ answer ends. never-refused digits answer r ends.0)
