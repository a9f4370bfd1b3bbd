-- Pieces are offered until none is wanted.
use Rattle.std.proofs.Common.{◌≡◌, ℕ, zero, suc, ◌≤◌, List, [], ◌∷◌, arith, length-append, refl, sym, ◌∙◌, Option, None}
use Rattle.link_account.proofs.Names.{Account, wants, after_offer}
use Rattle.link_run.proofs.Names.{OffersUntilNoneIsWanted, offered, offered_at, offered_times, room_for}
use Rattle.link_run.proofs.Finishing.{offers-none, ended-wants}

-- no room: none is wanted
full-wants : (a : Account) → room_for a ≡ 0 → wants a ≡ None
full-wants a e = grind (arith)

-- a piece that is offered takes room, or ends the file
enough-after : (n : ℕ) (file : List ℕ) (a : Account) (piece : List ℕ)
    → ((b : Account) → room_for b ≤ n → wants (offered_times n file b) ≡ None) → room_for a ≤ suc n
    → wants (offered_times n file (after_offer piece a)) ≡ None
enough-after n file a [] ih h = grind (arith, ended-wants, offers-none)
enough-after n file a (x ∷ xs) ih h = ih (after_offer (x ∷ xs) a) (omega (arith, h, length-append a.outgoing.pieces ((x ∷ xs) ∷ [])))

enough : (n : ℕ) (file : List ℕ) (a : Account) → room_for a ≤ n → wants (offered_times n file a) ≡ None
enough zero file a h = full-wants a (omega (arith, h))
enough (suc n) file a h = go (wants a) refl (λ b. enough n file b)
  where
    go : (w : Option ℕ) → wants a ≡ w → ((b : Account) → room_for b ≤ n → wants (offered_times n file b) ≡ None)
        → wants (offered_times n file (offered_at file a w)) ≡ None
    go w e ih = grind (arith, offers-none, enough-after)

-- more offers than there is room for change nothing
surplus : (n m : ℕ) (file : List ℕ) (a : Account) → room_for a ≤ n → room_for a ≤ m → offered_times n file a ≡ offered_times m file a
surplus zero m file a h k = sym (offers-none m file a (full-wants a (omega (arith, h))))
surplus (suc n) zero file a h k = offers-none (suc n) file a (full-wants a (omega (arith, k)))
surplus (suc n) (suc m) file a h k = go (wants a) refl (λ b. surplus n m file b)
  where
    after : (piece : List ℕ) → ((b : Account) → room_for b ≤ n → room_for b ≤ m → offered_times n file b ≡ offered_times m file b)
        → offered_times n file (after_offer piece a) ≡ offered_times m file (after_offer piece a)
    after [] ih = grind (arith, ended-wants, offers-none)
    after (x ∷ xs) ih = grind (arith, length-append)

    go : (w : Option ℕ) → wants a ≡ w → ((b : Account) → room_for b ≤ n → room_for b ≤ m → offered_times n file b ≡ offered_times m file b)
        → offered_times n file (offered_at file a w) ≡ offered_times m file (offered_at file a w)
    go w e ih = grind (arith, offers-none, after)

-- an offer makes no room
offer-room : (piece : List ℕ) (a : Account) → room_for (after_offer piece a) ≤ room_for a
offer-room piece a = grind (arith, length-append)

at-room : (file : List ℕ) (a : Account) (w : Option ℕ) → room_for (offered_at file a w) ≤ room_for a
at-room file a w = grind (arith, offer-room)

next-offered : (file : List ℕ) (a : Account) → offered file (offered_at file a (wants a)) ≡ offered file a
next-offered file a =
    let b = offered_at file a (wants a) in
    let more = at-room file a (wants a) in
    surplus (room_for b) (room_for a) file b (omega arith) more ∙ surplus (suc (room_for a)) (room_for a) file a (omega arith) (omega arith)

pub offers_until_none : OffersUntilNoneIsWanted
offers_until_none file a =
    record { enough = enough (room_for a) file a (omega arith); none = λ e. offers-none (room_for a) file a e; next = next-offered file a }
