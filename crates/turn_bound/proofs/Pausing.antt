-- Where no user is busy no end tells that it is, and none counts the other as busy.
use Rattle.turn_bound.proofs.Names.{◌≡◌, ℕ, Bool, true, false, arith, refl, sym, ◌∙◌, ap, Option, Ok, acked, numbered_with}
use Rattle.turn_bound.proofs.Names.{resumed-unpaused, Outgoing, Arrived, is_connected, hear, on_nothing, trying, Said, speak}
use Rattle.turn_bound.proofs.Names.{speak_releasing, Incoming, Steps, by-tries, linked-alike, tries-alike, Phase, Connected, Releasing}
use Rattle.turn_bound.proofs.Names.{is_released}
use Rattle.link_account.proofs.Names.{Account}
use Rattle.turn_bound.proofs.Value.{arrived_rnrs}
use Rattle.turn_bound.proofs.MeetHear.{is_begun, of_frame}
use Rattle.turn_bound.proofs.Taking.{frame_poll}
use Rattle.link_account.proofs.HearWays as HearWays
use Rattle.link_account.proofs.SpeakWays as SpeakWays

-- phases don't go back, and nothing is told of pauses
pub record Goes (a b : Account) : Type 0 where
  pub begun : is_begun a.phase ≡ true → is_begun b.phase ≡ true
  pub released : is_released a.phase ≡ true → is_released b.phase ≡ true
  pub early : is_begun a.phase ≡ false → is_released b.phase ≡ false
  pub late : is_released a.phase ≡ true → b.outgoing ≡ a.outgoing
  pub paused : a.outgoing.paused ≡ false → b.outgoing.paused ≡ false
  pub told : b.owes.busy_told ≡ a.owes.busy_told

unbegun : (p : Phase) → is_begun p ≡ false → is_released p ≡ false
unbegun p e = grind (arith)

-- from Connected
linked-begun : (a : Account) → a.phase ≡ Connected → is_begun a.phase ≡ false → ⊥
linked-begun a e h = let wrong : true ≡ false = sym (ap is_begun e) ∙ h in cc

linked-open : (a : Account) → a.phase ≡ Connected → is_released a.phase ≡ true → ⊥
linked-open a e h = let wrong : false ≡ true = sym (ap is_released e) ∙ h in cc

same-goes : (a b : Account) → b.phase ≡ a.phase → b.owes.busy_told ≡ a.owes.busy_told → b.outgoing ≡ a.outgoing → Goes a b
same-goes a b p t o = grind (arith)

-- what only goes on from a phase before Connected
early-goes : (a b : Account) → is_begun a.phase ≡ false → is_released b.phase ≡ false
    → (a.outgoing.paused ≡ false → b.outgoing.paused ≡ false) → b.owes.busy_told ≡ a.owes.busy_told → Goes a b
early-goes a b e r p t = grind (arith)

pub goes-on : (turn : ℕ) (arrived : Arrived) (a mid : Account) → arrived_rnrs arrived ≡ 0 → hear turn arrived a ≡ Ok mid → Goes a mid
goes-on turn arrived a mid n e = HearWays.by-ways (λ x b. arrived_rnrs x ≡ 0 → Goes a b) turn a (record {
  nothing = λ h. same-goes a (on_nothing a) refl refl refl;
  linked = grind (arith, same, resumed-unpaused, acked, same-goes, linked-begun, linked-open);
  early = grind (arith, same, early-goes, same-goes);
}) arrived mid e n
  where
    same : Goes a a
    same = same-goes a a refl refl refl

    number : a.phase ≡ Connected → (new : Outgoing) (incoming : Incoming) (timer : Option ℕ) (reply urgent : Bool)
        → (a.outgoing.paused ≡ false → new.paused ≡ false) → Goes a (numbered_with a new incoming timer reply urgent)
    number p new incoming timer reply urgent k = grind (arith)

-- Speaking: an end that isn't busy tells that it isn't. Its front stays.
abbrev pub mark : Outgoing → Bool × ℕ
mark o = (o.paused, o.front)

abbrev pub Calm : Account → Said → Type 0
Calm a said = (mark said.account.outgoing ≡ mark a.outgoing) × (a.owes.busy_told ≡ false → said.account.owes.busy_told ≡ false)

steps-calm : (turn : ℕ) (special : Bool) (a : Account) → a.owes.busy ≡ false → Steps (Calm a) turn special a
steps-calm turn special a calm = grind (arith)

pub says-calm : (turn : ℕ) (release : Bool) (a : Account) (said : Said) → (is_connected a.phase ≡ true → a.owes.busy ≡ false)
    → speak turn release a ≡ Ok said → Calm a said
says-calm turn release a said calm e = SpeakWays.by-ways (Calm a) turn release a (record {
  answers = λ alone d f. (refl, λ h. h);
  flags = λ alone f. (refl, λ h. h);
  mark = λ p r f. (refl, λ h. h);
  odp = λ p r l. (refl, λ h. h);
  xid = λ p r. tries-alike _ turn _ a (λ w. (refl, λ h. h)) (refl, λ h. h);
  sabme = λ p. tries-alike _ turn _ a (λ w. (refl, λ h. h)) (refl, λ h. h);
  linked = grind (arith, linked-alike, steps-calm);
  releases = λ p r. tries-alike _ turn _ (trying Releasing turn a) (λ w. (refl, λ h. h)) (refl, λ h. h);
  disc = λ p. tries-alike _ turn _ a (λ w. (refl, λ h. h)) (refl, λ h. h);
}) said e

pub says-unpolled : (turn : ℕ) (release : Bool) (a : Account) (said : Said) → is_connected a.phase ≡ false → speak turn release a ≡ Ok said
    → of_frame frame_poll said.sent ≡ false
says-unpolled turn release a said c e = grind (arith)

pub releases-unpolled : (turn : ℕ) (a : Account) (said : Said) → speak_releasing turn a ≡ Ok said → of_frame frame_poll said.sent ≡ false
releases-unpolled turn a said e = grind (arith, by-tries, tries-alike)
