-- What a receiver keeps, and the part of an account for which it stands.
use Rattle.std.specs.Prelude.{◌≡◌, ℕ, ◌<◌, ◌≤◌, ◌⊎◌, Bool, true, if◌then◌else◌, nat_le, List, length, drop, find, Option, Some, None}
use Rattle.lapm_receiver.specs.Held.{Held, missing_from, is_held, is_among}
use Rattle.lapm_receiver.specs.Incoming.{Incoming, next_expected}

-- what a receiver keeps: of the segments taken only those that aren't delivered
pub record Taking : Type 0 where
  pub room : ℕ  -- how many segments it can keep
  pub window : ℕ  -- 0 before it is begun
  pub srej : Bool
  pub taken : ℕ  -- how many segments were taken in order so far
  pub ready : List (List ℕ)  -- those of them that aren't delivered
  pub held : List Held
  pub asked_below : ℕ  -- of the missing numbers those below this one were asked for
  pub rej : Bool
  pub gapped : Bool
  pub owed : Bool

-- The numbers asked for by SREJ are told by one number: all that were asked for lie below it, and each number below it that is still
-- missing was asked for.
pub record AskedBelow (low : ℕ) (i : Incoming) : Type 0 where
  pub lie_below : (n : ℕ) → is_among n i.asked ≡ true → n < low
  pub were_asked : (n : ℕ) → next_expected i ≤ n → n < low → (is_held n i.held ≡ true) ⊎ (is_among n i.asked ≡ true)

-- a receiver stands for a part with these segments taken
pub record StandsIn (receiver : Taking) (i : Incoming) : Type 0 where
  pub window_is : receiver.window ≡ i.window
  pub srej_is : receiver.srej ≡ i.srej
  pub taken_is : receiver.taken ≡ length i.taken
  pub given_within : i.given ≤ length i.taken
  pub ready_is : receiver.ready ≡ drop i.given i.taken
  pub held_is : receiver.held ≡ i.held
  pub asked_are : AskedBelow receiver.asked_below i
  pub rej_is : receiver.rej ≡ i.rej
  pub gapped_is : receiver.gapped ≡ i.gapped
  pub owed_is : receiver.owed ≡ i.owed

-- what a receiver began with
pub record SameTerms (old new : Taking) : Type 0 where
  pub room_is : new.room ≡ old.room
  pub window_is : new.window ≡ old.window
  pub srej_is : new.srej ≡ old.srej

-- the same segments
pub record SameSegments (old new : Taking) : Type 0 where
  pub taken_is : new.taken ≡ old.taken
  pub ready_is : new.ready ≡ old.ready
  pub held_is : new.held ≡ old.held

-- the number to ask for, of what a receiver keeps
abbrev pub asked_by : Taking → Option ℕ
asked_by receiver =
    if receiver.srej then find (λ n. nat_le receiver.asked_below n) (missing_from receiver.taken receiver.held)
    else (if receiver.rej then Some receiver.taken else None)
