-- What the calls of an end of the link answer.
use Rattle.std.proofs.Common.{◌≡◌, ℕ, ◌<◌, ◌≤◌, ◌⊎◌, inl, inr, ℤ, to_z, of_z, w32, Bool, List, length, drop, Option, Some, None, Result}
use Rattle.std.proofs.Common.{Ok, Err, sym, ap, subst, arith, length-append}
use Rattle.std.specs.Prelude.{IsSomeAnd, MatchOption}
use lib.Signed.{mag}
use Rattle.link_account.specs.declared.setup.Setup.{Setup}
use Rattle.lapm_frames.specs.declared.seen.Seen.TheVariants as seen
use Rattle.lapm_link.specs.Fits.{IsSetUp}
use Rattle.gateway.specs.declared.link.Endpoint.{Endpoint}
use Rattle.gateway.specs.declared.link.LinkStop.{LinkStop}
use Rattle.gateway.specs.declared.turns.Told.{Told}
use Rattle.gateway.specs.declared.turns.Told.TheVariants as told
use Rattle.gateway.specs.Endpoints.{IsNew}
use Rattle.modem_c.specs.declared.codes.TheConstants.{DONE, NO_MEMORY}
use Rattle.modem_c.specs.declared.link.Said.{Said}
use Rattle.modem_c.specs.declared.link.Broke.{Broke}
use Rattle.modem_c.specs.declared.machine.Machine.{Machine}
use Rattle.modem_c.specs.declared.machine.Machine.TheVariants as machines
use Rattle.modem_c.specs.Answered.{room_with}
use Rattle.modem_c.specs.Answers.{AnswersOf, astray}
use Rattle.modem_c.proofs.CodesBack.{code_back}
use Rattle.modem_c.specs.Led.{link_in}
use Rattle.modem_c.specs.Links.{AnswersSetup, AnswersDelivery, AnswersSpeaking, DeliveredAs, SpokenNumbers, room_said, said_of}

-- an end is made, as far as there is memory for it
pub made : (setup : Setup) (end : Endpoint) (old new : Option Machine) (code : ℤ) → IsSetUp setup → IsNew setup end
    → (((code ≡ DONE) × (new ≡ Some (machines.Link end))) ⊎ ((code ≡ NO_MEMORY) × (new ≡ old)))
    → AnswersSetup (Some setup) old new (to_z w32 (of_z w32 code))
made setup end old new code allowed is (inl done) =
    inl (
      allowed,
      inl (
        ap (λ (v : ℤ). to_z w32 (of_z w32 v)) done.0,
        subst (λ (v : Option Machine). IsSomeAnd (link_in v) (IsNew setup)) (sym done.1) is,
      ),
    )
made setup end old new code allowed is (inr none) = inl (allowed, inr (ap (λ (v : ℤ). to_z w32 (of_z w32 v)) none.0, none.1))

within-room : (octets room : List ℕ) → length octets ≤ length (room_with octets room)
within-room octets room = omega (arith, length-append octets (drop (length octets) room))

-- what is written is within the room
pub delivered-within : (old new : Endpoint) (before after : List ℕ) (count : ℕ) (code : ℤ) → AnswersDelivery old new before after count code
    → count ≤ length after
delivered-within old new before after count code (inl next) = go next.segment next.written
  where
    go : (segment : Option (List ℕ)) → DeliveredAs segment before after count code → count ≤ length after
    go (Some segment) h = subst (λ (v : List ℕ). count ≤ length v) (sym h.2)
        (subst (λ (n : ℕ). n ≤ length (room_with segment before)) (sym h.1) (within-room segment before))
    go None h = let none : count ≡ 0 = h.1 in omega (arith, none)
delivered-within old new before after count code (inr full) = let none : count ≡ 0 = full.3 in omega (arith, none)

silent-within : (said : Said) (after : List ℕ) → said ≡ record { kind = 0; octets = 0 } → said.octets ≤ length after
silent-within said after e = let none : said.octets ≡ 0 = ap (λ (s : Said). s.octets) e in omega (arith, none)

said-within : (it : Told) (before : List ℕ) → (said_of it).octets ≤ length (room_said it before)
said-within told.Mark before = omega arith
said-within (told.Pattern seen.Odp) before = omega arith
said-within (told.Pattern seen.Adp) before = omega arith
said-within (told.Octets whole) before = within-room whole before
said-within told.Flags before = omega arith

pub spoken-within : (release : Option Bool) (old new : Endpoint) (code : ℤ) (before after : List ℕ) (said : Said) (why : Broke)
    → AnswersSpeaking release old new code before after said why → said.octets ≤ length after
spoken-within None old new code before after said why h = silent-within said after h.1.said_is
spoken-within (Some release) old new code before after said why (inl spoke) = go spoke.answer spoke.numbers
  where
    go : (answer : Result Told LinkStop) → SpokenNumbers answer code before after said why → said.octets ≤ length after
    go (Ok it) h = subst (λ (v : List ℕ). said.octets ≤ length v) (sym h.2)
        (subst (λ (s : Said). s.octets ≤ length (room_said it before)) (sym h.1) (said-within it before))
    go (Err stop) h = silent-within said after h.1
spoken-within (Some release) old new code before after said why (inr full) = silent-within said after full.2.said_is

-- What is said of an end is said of the handle that it was taken from and put back to.
pub linked : (own : ℤ → Endpoint → Endpoint → Type 0) (besides : Type 0) (old new : Option Machine) {end after : Endpoint} (code : ℤ)
    → mag code < 2147483648 → link_in old ≡ Some end → link_in new ≡ Some after → own code end after
    → AnswersOf link_in old new (to_z w32 (of_z w32 code)) besides (own (to_z w32 (of_z w32 code)))
linked own besides old new {end} {after} code small was is h =
    subst (λ (z : ℤ). AnswersOf link_in old new z besides (own z)) (sym (code_back code small))
    (subst (λ (found : Option Endpoint). MatchOption found ((code ≡ astray old) × (new ≡ old) × besides)
    (λ it. IsSomeAnd (link_in new) (own code it))) (sym was)
    (subst (λ (found : Option Endpoint). IsSomeAnd found (own code end)) (sym is) h))
