-- An end's polls become due once in a whole period, and so once in nineteen turns.
use Rattle.turn_bound.proofs.Names.{◌≡◌, ℕ, ◌+◌, ◌-◌, ◌≤◌, Bool, true, false, cond, inl, inr, arith, refl, ap, Option, Ok, ◌&&◌, ◌∙◌, subst}
use Rattle.turn_bound.proofs.Names.{Role, Outgoing, Sent, Said, speak_linked, is_originator, Frame, Disc, Arrived, is_connected, trying}
use Rattle.turn_bound.proofs.Names.{speak, speak_in, speak_releasing, Steps, by-linked, by-tries, steps-so, tries-alike, timer_after, u_try}
use Rattle.turn_bound.proofs.Names.{Connected, Phase, Detecting, Negotiating, Establishing, Releasing, Closed, User, is_released}
use Rattle.link_account.proofs.Names.{Account}
use Rattle.turn_bound.proofs.Value.{Rates, AreRates, IsOf, Stands, arrived_weight, arrived_rnrs}
use Rattle.turn_bound.proofs.MeetHear.{of_frame, is_begun, of_arrived}
use Rattle.turn_bound.proofs.Taking.{frame_poll, timer_value, poll_value, Takes, poll-most, takes}
use Rattle.turn_bound.proofs.OneTurn.{Hearing}
use Rattle.turn_bound.proofs.Meeting.{SaysSo, speaks-so}
use Rattle.turn_bound.proofs.Pausing.{Goes, goes-on, says-unpolled, releases-unpolled}

abbrev pub nineteen_if : Bool → ℕ
nineteen_if b = cond b 19 0

abbrev pub polls : Sent → ℕ
polls sent = nineteen_if (of_frame frame_poll sent)

-- hearing sets a timer now, stops it or leaves it
heard-timer : (turn : ℕ) (o new : Outgoing) (timer : Option ℕ) → timer_value turn (timer_after turn o new timer) ≤ timer_value turn timer
heard-timer turn o new timer = grind (arith)

pub heard-polls : (turn : ℕ) (p : Bool) (a b : Account) → Takes turn p a b → poll_value turn Connected b ≤ poll_value turn Connected a
heard-polls turn p a b t = grind (arith, heard-timer)

-- what is said of a Connected account whose timers are done
abbrev pub Rated : ℕ → Account → Said → Type 0
Rated turn a said = poll_value (turn + 1) Connected said.account + polls said.sent ≤ poll_value (turn + 1) Connected a

steps-rated : (turn : ℕ) (special : Bool) (a : Account) → Steps (Rated turn a) turn special a
steps-rated turn special a = grind (arith)

-- the timers come first: an expiry makes a poll due
abbrev pub SaysRated : ℕ → Account → Said → Type 0
SaysRated turn a said = poll_value (turn + 1) Connected said.account + polls said.sent ≤ poll_value turn Connected a + 1

pub linked-rated : (z : Rates) (turn : ℕ) (role : Role) (a : Account) (said : Said) → AreRates z → IsOf z a.setup
    → speak_linked turn a ≡ Ok said → SaysRated turn a said
linked-rated z turn role a said y k e = by-linked (SaysRated turn a) turn a (record {
  stands = λ x own t. steps-so _ _ turn a.special _ (λ s r. omega (arith, r, later a.wait.timer)) (steps-rated turn a.special _);
  expires = grind (arith, steps-so, steps-rated);
}) said e
  where
    later : (timer : Option ℕ) → timer_value (turn + 1) timer ≤ timer_value turn timer + 1
    later b = grind (arith)

-- How many polls an end sends: in a turn, and in the last turns of a run where no user is busy.
late-none : (turn : ℕ) (p : Phase) (a : Account) → is_released p ≡ true → poll_value turn p a ≡ 0
late-none turn p a e = grind (arith)

begun-most : (turn : ℕ) (p : Phase) (a : Account) → is_begun p ≡ true → poll_value turn p a ≤ poll_value turn Connected a
begun-most turn p a e = grind (arith)

same-polls : (turn : ℕ) (p : Phase) (b m : Account) → b.wait ≡ m.wait → poll_value turn p b ≡ poll_value turn p m
same-polls turn p b m w = grind (arith)

try-phase : (turn : ℕ) (frame : Frame) (a : Account) (said : Said) → u_try turn frame a ≡ Ok said → said.account.phase ≡ a.phase
try-phase turn frame a said e = grind (arith, by-tries, tries-alike)

-- One turn of one end.
pub poll-turn : {z : Rates} {user : User} {turn : ℕ} {role : Role} {a : Account} {arrived : Arrived} {mid b : Account}
    → Hearing z user turn role a arrived mid b → (release : Bool) (said : Said) → arrived_weight arrived ≤ 2 → arrived_rnrs arrived ≡ 0
    → speak turn release b ≡ Ok said
    → poll_value (turn + 1) said.account.phase said.account + polls said.sent ≤ poll_value turn a.phase a + 1
poll-turn {z} {user} {turn} {role} {a} {arrived} {mid} {b} i release said light quiet speaks =
    omega (arith, hearing a.phase refl, serving, speaking b.phase refl)
  where
    g : Goes a mid
    g = goes-on turn arrived a mid quiet i.hears

    hearing : (p : Phase) → a.phase ≡ p → poll_value turn mid.phase mid ≤ poll_value turn p a
    hearing Detecting e = poll-most turn mid.phase mid
    hearing Negotiating e = poll-most turn mid.phase mid
    hearing Establishing e = poll-most turn mid.phase mid
    hearing Connected e = elim
        (takes z turn role a (subst (λ q. Stands z turn turn role q a) e i.stands) e arrived mid light quiet i.hears) [
          | inl c ↦ omega (arith, late-none turn mid.phase mid (ap is_released c.phase))
          | inr t ↦ omega (arith, heard-polls turn (of_arrived frame_poll arrived) a mid t.1, ap (λ q. poll_value turn q mid) t.0)
        ]
    hearing Releasing e = omega (arith, late-none turn mid.phase mid (g.released (ap is_released e)))
    hearing Closed e = omega (arith, late-none turn mid.phase mid (g.released (ap is_released e)))

    serving : poll_value turn b.phase b ≡ poll_value turn mid.phase mid
    serving = ap (λ q. poll_value turn q b) i.serves.phase ∙ same-polls turn mid.phase b mid i.serves.wait

    so : SaysSo b said
    so = speaks-so turn release b said speaks

    nothing : is_connected b.phase ≡ false → polls said.sent ≡ 0
    nothing e = ap nineteen_if (says-unpolled turn release b said e speaks)

    speaking : (p : Phase) → b.phase ≡ p → poll_value (turn + 1) said.account.phase said.account + polls said.sent ≤ poll_value turn p b + 1
    speaking Detecting e = omega (arith, nothing (ap is_connected e), poll-most (turn + 1) said.account.phase said.account)
    speaking Negotiating e = omega (arith, nothing (ap is_connected e), poll-most (turn + 1) said.account.phase said.account)
    speaking Establishing e = omega (arith, nothing (ap is_connected e), poll-most (turn + 1) said.account.phase said.account)
    speaking Releasing e =
        omega (arith, nothing (ap is_connected e), late-none (turn + 1) said.account.phase said.account (so.released (ap is_released e)))
    speaking Closed e = grind (arith, late-none)
    speaking Connected e = by (release && is_originator b.setup.role) (subst (λ q. speak_in q turn release b ≡ Ok said) e speaks)
      where
        by : (r : Bool) → cond r (speak_releasing turn (trying Releasing turn b)) (speak_linked turn b) ≡ Ok said
            → poll_value (turn + 1) said.account.phase said.account + polls said.sent ≤ poll_value turn Connected b + 1
        by true f =
            omega (
              arith,
              ap nineteen_if (releases-unpolled turn (trying Releasing turn b) said f),
              late-none (turn + 1) said.account.phase said.account
                  (ap is_released (try-phase turn (Disc true) (trying Releasing turn b) said f)),
            )
        by false f = omega (
          arith,
          linked-rated z turn role b said i.rates i.b_is_of f,
          begun-most (turn + 1) said.account.phase said.account (so.begun ∙ ap is_begun e),
        )
