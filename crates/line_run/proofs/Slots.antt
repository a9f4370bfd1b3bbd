-- The slot that arrives in a turn, and the turns in which those before it were sent.
use Rattle.line_run.proofs.Cited.{◌≡◌, ℕ, zero, suc, ◌+◌, ◌-◌, ◌≤◌, List, [], ◌∷◌, length, drop, arith, refl, subst, Some, slice_get}
use Rattle.line_run.proofs.Cited.{IsSendable, sent_ago, sent_in, Spoken, Turn, of, Role}
use Rattle.line_run.specs.Stream.{AllSendable}

-- it was sent in this turn, behind those
pub record SentIn (role : Role) (n : ℕ) (ts : List Turn) (slot : Spoken) : Type 0 where
  pub turn : Turn
  pub rest : drop n ts ≡ turn ∷ drop (suc n) ts
  pub sent : (of role turn).sent ≡ Some slot
  pub count : length (drop (suc n) ts) + suc n ≡ length ts
  pub sendable : AllSendable ts → IsSendable slot.sent

pub sent-in : (role : Role) (n : ℕ) (ts : List Turn) (slot : Spoken) → sent_in role (slice_get ts n) ≡ Some slot → SentIn role n ts slot
sent-in role n [] slot e = absurd cc
sent-in role zero (t ∷ ts) slot e = record { turn = t; rest = refl; sent = e; count = omega arith; sendable = λ s. s.0 role slot e }
sent-in role (suc n) (t ∷ ts) slot e =
    let s = sent-in role n ts slot e in
    record { turn = s.turn; rest = s.rest; sent = s.sent; count = omega (arith, s.count); sendable = λ a. s.sendable a.1 }

-- the same by the turns that a slot is on its way
pub record SentAgo (role : Role) (delay : ℕ) (ts : List Turn) (slot : Spoken) : Type 0 where
  pub turn : Turn
  pub rest : drop (delay - 1) ts ≡ turn ∷ drop delay ts
  pub sent : (of role turn).sent ≡ Some slot
  pub count : length (drop delay ts) ≡ length ts - delay
  pub enough : delay ≤ length ts
  pub sendable : AllSendable ts → IsSendable slot.sent

pub sent-ago : (role : Role) (delay : ℕ) (ts : List Turn) (slot : Spoken) → 1 ≤ delay → sent_ago delay role ts ≡ Some slot
    → SentAgo role delay ts slot
sent-ago role delay ts slot low e =
    let s = sent-in role (delay - 1) ts slot e in
    let d : suc (delay - 1) ≡ delay = omega (arith, low) in
    let c : length (drop delay ts) + delay ≡ length ts = subst (λ k. length (drop k ts) + k ≡ length ts) d s.count in
    record {
      turn = s.turn;
      rest = subst (λ k. drop (delay - 1) ts ≡ s.turn ∷ drop k ts) d s.rest;
      sent = s.sent;
      count = omega (arith, c);
      enough = omega (arith, c);
      sendable = s.sendable;
    }
