use Rattle.turn_bound.proofs.Names.{◌≡◌, ℕ, ◌≤◌, Bool, true, arith, refl, Result, Ok, Err, LinkFault, is_connected, Said, speak, Ways}
use Rattle.turn_bound.proofs.Names.{by-ways}
use Rattle.link_account.proofs.Names.{Account}
use Rattle.turn_bound.proofs.Value.{one_if, two_if, weight, rnrs}

-- what a slot may weigh
abbrev pub Light : Bool → Said → Type 0
Light busy said = (weight said.sent ≤ 2) × (rnrs said.sent ≤ one_if busy)

abbrev pub LightSaid : Bool → Result Said LinkFault → Type 0
LightSaid busy (Err fault) = Unit {0}
LightSaid busy (Ok said) = Light busy said

two-most : (b : Bool) → two_if b ≤ 2
two-most b = grind (arith)

ways-light : (busy : Bool) (turn : ℕ) (release : Bool) (a : Account) → (is_connected a.phase ≡ true → a.owes.busy ≡ busy)
    → Ways (Light busy) turn release a
ways-light busy turn release a h = grind (arith)

-- Each slot weighs two at most, and is an RNR only where its sender is busy.
pub speaks-light : (busy : Bool) (turn : ℕ) (release : Bool) (a : Account) → (is_connected a.phase ≡ true → a.owes.busy ≡ busy)
    → LightSaid busy (speak turn release a)
speaks-light busy turn release a h = go (speak turn release a) refl
  where
    go : (r : Result Said LinkFault) → speak turn release a ≡ r → LightSaid busy r
    go (Err fault) e = tt
    go (Ok said) e = by-ways (Light busy) turn release a (ways-light busy turn release a h) said e
