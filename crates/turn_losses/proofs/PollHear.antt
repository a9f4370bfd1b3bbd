use Rattle.turn_losses.proofs.Names.{arith, ◌⊎◌, inr, ◌≡◌, ℕ, ◌||◌, Bool, true, false, refl, Option, Some, None, Ok, ConnectedWays, by-ways}
use Rattle.turn_losses.proofs.Names.{Role, Originator, Answerer, Arrived, Account, is_connected, hear, on_nothing, Phase, Connected}
use Rattle.turn_losses.proofs.Names.{of_arrived, or-false, SetFrom, is_linked, is_poll}
use Rattle.link_account.proofs.HearWays.{EarlyWays}
use Rattle.turn_losses.proofs.HeardNumber.{number-rows, plain-frame}

-- what hearing makes of an end's polls and replies
pub record PollHeard (role : Role) (turn : ℕ) (polled : Bool) (a b : Account) : Type 0 where
  pub linked : is_linked a.phase ≡ true → is_linked b.phase ≡ true
  pub early : is_linked b.phase ≡ false → (b.wait.poll ≡ a.wait.poll) × (b.numbered ≡ a.numbered)
  pub from : is_connected b.phase ≡ true → (is_connected a.phase ≡ true) ⊎ (is_linked a.phase ≡ false)
  -- Connected before
  pub poll : is_connected a.phase ≡ true → b.wait.poll ≡ a.wait.poll
  pub timer : is_connected a.phase ≡ true → SetFrom turn a.wait.timer b.wait.timer
  pub asked : is_connected a.phase ≡ true → is_connected b.phase ≡ true → b.owes.reply ≡ a.owes.reply || polled
  pub heard : is_connected a.phase ≡ true → a.numbered ≡ true → b.numbered ≡ true
  pub answer : is_connected a.phase ≡ true → is_connected b.phase ≡ true → b.numbered ≡ true → b.owes.answer ≡ a.owes.answer
  -- Connected now
  pub begun : is_linked a.phase ≡ false → is_connected b.phase ≡ true
      → (b.owes.reply ≡ a.owes.reply) × (b.numbered ≡ a.numbered) × ((s : ℕ) → b.wait.timer ≡ Some s → (s ≡ turn) ⊎ (a.wait.timer ≡ Some s))
  pub answers : role ≡ Answerer → is_linked a.phase ≡ false → is_connected b.phase ≡ true
      → (b.wait.poll ≡ a.wait.poll) × (b.wait.timer ≡ a.wait.timer)
  pub awaits : role ≡ Originator → is_linked a.phase ≡ false → is_connected b.phase ≡ true → b.outgoing.awaited ≡ true

pub linked-connected : (p : Phase) → is_connected p ≡ true → is_linked p ≡ true
linked-connected p e = grind (arith)

-- before it is Connected, and after
ended-heard : (role : Role) (turn : ℕ) (polled : Bool) (a b : Account) → is_linked b.phase ≡ true → is_connected b.phase ≡ false
    → b.wait ≡ a.wait → b.numbered ≡ a.numbered → PollHeard role turn polled a b
ended-heard role turn polled a b e f p n = grind (arith)

connected-heard : (role : Role) (turn : ℕ) (polled : Bool) (a b : Account) → a.phase ≡ Connected → b.phase ≡ Connected
    → b.wait.poll ≡ a.wait.poll → SetFrom turn a.wait.timer b.wait.timer → b.owes.reply ≡ a.owes.reply || polled
    → (a.numbered ≡ true → b.numbered ≡ true) → (b.numbered ≡ true → b.owes.answer ≡ a.owes.answer) → PollHeard role turn polled a b
connected-heard role turn polled a b e f p t r n w = grind (arith)

pub set-same : (turn : ℕ) (m : Option ℕ) → SetFrom turn m m
set-same turn m s k = inr k

-- an end that stays where it was, other than Connected
stays-heard : (role : Role) (turn : ℕ) (polled : Bool) (p : Phase) (a b : Account) → a.phase ≡ p → b.phase ≡ p → is_connected p ≡ false
    → b.wait ≡ a.wait → b.numbered ≡ a.numbered → PollHeard role turn polled a b
stays-heard role turn polled p a b e f c w n = grind (arith)

linked-ways : (role : Role) (turn : ℕ) (a : Account) → a.phase ≡ Connected
    → ConnectedWays (λ x b. PollHeard role turn (of_arrived is_poll x) a b) turn a
linked-ways role turn a e = grind (arith, plain-frame, number-rows, connected-heard, ended-heard, or-false)

early-ways : (role : Role) (turn : ℕ) (a : Account) → a.setup.role ≡ role → is_connected a.phase ≡ false
    → EarlyWays (λ x b. PollHeard role turn (of_arrived is_poll x) a b) turn a
early-ways role turn a er c = grind (arith)

-- every end hears so
pub poll-hears : (role : Role) (arrived : Arrived) (turn : ℕ) (a : Account) → a.setup.role ≡ role → a.owes.answer ≡ None
    → (mid : Account) → hear turn arrived a ≡ Ok mid → PollHeard role turn (of_arrived is_poll arrived) a mid
poll-hears role arrived turn a er none mid h = by-ways (λ x b. PollHeard role turn (of_arrived is_poll x) a b) turn a (assumption (
  nothing a.phase refl,
  linked-ways role turn a,
  early-ways role turn a er,
)) arrived mid h
  where
    nothing : (p : Phase) → a.phase ≡ p → PollHeard role turn false a (on_nothing a)
    nothing p e = grind (arith, connected-heard, set-same, or-false, stays-heard)
