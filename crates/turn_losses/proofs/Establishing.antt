-- What only an originator that establishes the link sends, and what only a Connected end does.
use Rattle.turn_losses.proofs.Names.{◌⊎◌, ◌≡◌, ℕ, ◌+◌, Bool, true, false, arith, refl, None, Ok, Frame, Account, is_connected, Said, says}
use Rattle.turn_losses.proofs.Names.{frame_for, ready_frame, speak, Sabme, Tries, Ways, Establishing, Connected, Answer, of_frame}
use Rattle.link_account.proofs.SpeakWays.{by-ways, tries-alike}
use Rattle.turn_losses.proofs.Words.{any_brk, of_word}

abbrev pub is_sabme : Frame → Bool
is_sabme (Sabme pf) = true
is_sabme frame = false

-- what an end that sends a SABME, or is Establishing after it spoke, was
pub record SaidSabme (turn : ℕ) (b : Account) (said : Said) : Type 0 where
  pub phase : said.account.phase ≡ Establishing
  pub before : b.phase ≡ Establishing
  pub over : said.account.wait.try ≡ false
  pub sent : of_frame is_sabme said.sent ≡ true → (turn ≡ b.wait.try_set + b.setup.period) ⊎ (b.wait.try ≡ true)

record Sends (turn : ℕ) (b : Account) (said : Said) : Type 0 where
  pub word : of_frame (of_word any_brk) said.sent ≡ true → is_connected said.account.phase ≡ true
  pub sabme : of_frame is_sabme said.sent ≡ true → SaidSabme turn b said
  pub over : b.phase ≡ Establishing → said.account.wait.try ≡ false
  pub from : said.account.phase ≡ Establishing → b.phase ≡ Establishing

module _ (turn : ℕ) (b : Account) where
  -- neither a word of breaks nor a SABME goes, of an end that isn't Establishing
  plain : {said : Said} → of_frame (of_word any_brk) said.sent ≡ false → of_frame is_sabme said.sent ≡ false
      → (b.phase ≡ Establishing → ⊥) → (said.account.phase ≡ Establishing → ⊥) → Sends turn b said
  plain w s m n = grind (arith)

  answer : (d : Answer) → (b.phase ≡ Establishing → ⊥)
      → Sends turn b (says (frame_for d b) (record b { owes = record b.owes { answer = None } }))
  answer d m = grind (arith)

  tries : (frame : Frame) (c : Account) → of_word any_brk frame ≡ false → is_sabme frame ≡ false → (b.phase ≡ Establishing → ⊥)
      → (c.phase ≡ Establishing → ⊥) → Tries (Sends turn b) turn frame c
  tries frame c w s m n = tries-alike (Sends turn b) turn frame c (λ x. plain w s m n) (plain refl refl m n)

  -- a Connected end
  linked : b.phase ≡ Connected → {said : Said} → said.account.phase ≡ b.phase → of_frame is_sabme said.sent ≡ false → Sends turn b said
  linked p q s = grind (arith)

  ready : (busy command pf : Bool) (nr : ℕ) → is_sabme (ready_frame busy command nr pf) ≡ false
  ready b command pf nr = grind (arith)

  ways : (release : Bool) → Ways (Sends turn b) turn release b
  ways release = grind (arith)

  sends : (release : Bool) (said : Said) → speak turn release b ≡ Ok said → Sends turn b said
  sends release said h = by-ways (Sends turn b) turn release b (ways release) said h

-- an end that says a word of breaks is Connected
pub word-connected : (turn : ℕ) (release : Bool) (b : Account) (said : Said) → speak turn release b ≡ Ok said
    → of_frame (of_word any_brk) said.sent ≡ true → is_connected said.account.phase ≡ true
word-connected turn release b said h = (sends turn b release said h).word

pub says-sabme : (turn : ℕ) (release : Bool) (b : Account) (said : Said) → speak turn release b ≡ Ok said
    → of_frame is_sabme said.sent ≡ true → SaidSabme turn b said
says-sabme turn release b said h = (sends turn b release said h).sabme

-- an end that is Establishing after it spoke, as it was before, has its frame sent
pub try-over : (turn : ℕ) (release : Bool) (b : Account) (said : Said) → b.phase ≡ Establishing → speak turn release b ≡ Ok said
    → said.account.wait.try ≡ false
try-over turn release b said q h = (sends turn b release said h).over q

-- an end that is Establishing after it spoke was so before
pub establishing-from : (turn : ℕ) (release : Bool) (b : Account) (said : Said) → speak turn release b ≡ Ok said
    → said.account.phase ≡ Establishing → b.phase ≡ Establishing
establishing-from turn release b said h = (sends turn b release said h).from
