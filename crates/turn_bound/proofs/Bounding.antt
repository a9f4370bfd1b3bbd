use Rattle.std.proofs.lemmas.Nat.{mul-le}
use Rattle.turn_bound.proofs.Names.{◌≡◌, ℕ, ◌+◌, ◌-◌, ◌*◌, Bool, false, arith, sym, ◌∙◌, ap, subst, Err, ◌⊎◌, ◌<◌, ◌≤◌, List, [], ◌∷◌}
use Rattle.turn_bound.proofs.Names.{length, map, mul-le-mul_right, mul-le-mul_left, Role, Originator, Answerer, LinkFault, is_connected}
use Rattle.turn_bound.proofs.Names.{speak, Arrived, AllByRecursion, Outgoing, of, Breaks, why-broken, Phase, Negotiating, Establishing}
use Rattle.turn_bound.proofs.Names.{Releasing, User, releases, BusyLine, busy_turns, IsBroken, AnswersAtOnce, IsWithin}
use Rattle.link_account.proofs.Names.{Account}
use Rattle.link_run.proofs.Names.{served_at}
use Rattle.turn_bound.proofs.Value.{Rates, AreRates, IsOf, Tries, Stands}
use Rattle.turn_bound.specs.Spent.{IsTimely, SpendsOnTime}
use Rattle.turn_bound.proofs.OneTurn.{Hearing}
use Rattle.turn_bound.specs.Offered.{HoldsFile, OffersWithin}
use Rattle.turn_bound.specs.Limits.{IsShort, NoRunIsLong}
use Rattle.turn_bound.specs.Bound.{of_both, weight, most_turns, offered_to, EndsSoon, EndsSoonByFiles, EndsSoonByOctets}
use Rattle.turn_bound.specs.Together.{StandTogether}
use Rattle.turn_bound.proofs.Tied.{tied, keeps, link_of, turn_of, state_of, turns-length}
use Rattle.turn_bound.proofs.Soon.{ends-soon, stands-together}
use Rattle.turn_bound.proofs.CalmRuns.{hears-in}
use Rattle.turn_bound.proofs.AtMostOne.{none-due-run}
use Rattle.turn_bound.proofs.Sizes.{within-run}

-- Speaking: whatever the role and the phase.
pub speaks-spend : (z : Rates) (turn : ℕ) (role : Role) (p : Phase) (release : Bool) (a : Account) (fault : LinkFault) → AreRates z
    → IsOf z a.setup
    → Stands z (turn + 1) turn role p a → a.phase ≡ p → a.setup.role ≡ role → speak turn release a ≡ Err fault
    → IsTimely z.period z.whole turn a fault
speaks-spend z turn role p release a fault y k s e er h = go (why-broken turn release a fault h)
  where
    -- the try of its phase
    tries : ((a.phase ≡ Negotiating) × (a.setup.role ≡ Originator)) ⊎ ((a.phase ≡ Establishing) ⊎ (a.phase ≡ Releasing))
        → Tries z (turn + 1) turn a × (is_connected a.phase ≡ false)
    tries x = grind (arith)

    whole-is : (a.setup.tries + 1) * a.setup.period ≡ z.whole
    whole-is = ap (λ n. (n + 1) * a.setup.period) k.tries ∙ ap (λ p. (z.tries + 1) * p) k.period ∙ sym y.whole

    go : Breaks turn release a fault → IsTimely z.period z.whole turn a fault
    go x = grind (arith, whole-is)

-- an end that has heard and is served
pub end-spends : {z : Rates} {user : User} {turn : ℕ} {role : Role} {a : Account} {arrived : Arrived} {mid b : Account}
    → Hearing z user turn role a arrived mid b → (release : Bool) (fault : LinkFault) → speak turn release b ≡ Err fault
    → IsTimely z.period z.whole turn b fault
end-spends {z} {turn = turn} {role = role} {b = b} i release fault breaks = grind (arith, speaks-spend)

-- How many segments hold a file, and what the limits make of the bound.

-- no more are offered than hold the file
pub offered-few : (file : List ℕ) (o : Outgoing) (segments : ℕ) → IsWithin file o → HoldsFile file o segments → length o.pieces ≤ segments
offered-few file o segments w h = grind (arith, mul-le-mul_left {m = segments})

-- a segment has one octet at least
pub octets-hold : (file : List ℕ) (o : Outgoing) → IsWithin file o → HoldsFile file o (length file)
octets-hold file o w some = grind (arith, mul-le-mul_right {m = 1})

pub busy-few : (lines : List BusyLine) → AllByRecursion IsShort lines → busy_turns lines ≤ 10000 * length lines
busy-few [] all = omega arith
busy-few (l ∷ ls) (short, all) = omega (arith, short, busy-few ls all)

-- the product of what is at most that

-- The laws of runs over lines that carry what is sent, by what holds of runs with queues.
pub ends-soon-always : EndsSoon
ends-soon-always tries period delay link ts ends k run c =
    let t = tied delay link ts ends k.delays run c in
    subst (λ n. n < most_turns tries period link (offered_to ends)) (turns-length ts)
    (ends-soon tries period (link_of delay link) (map turn_of ts) (state_of ends t.forward t.back)
    (keeps tries period delay link k) t.run)

pub stand-together-always : StandTogether
stand-together-always tries period delay link ts ends k run c =
    let t = tied delay link ts ends k.delays run c in
    let h = stands-together tries period (link_of delay link) (map turn_of ts) (state_of ends t.forward t.back)
    (keeps tries period delay link k) t.run in
    record { answ = h.answ; polls = h.polls }

pub at-once-always : AnswersAtOnce
at-once-always = none-due-run

pub within-always : OffersWithin
within-always tries period delay link ts ends k run c role = within-run link ts ends role run

pub spends-always : SpendsOnTime
spends-always tries period delay link ts before t mid role fault k run c broken =
    let e = by role broken.broken in
    end-spends (hears-in tries period delay link ts before role k run c t mid broken.hearing) e.0 fault e.1
  where
    by : (r : Role) → IsBroken link (length ts) mid r fault
        → (release : Bool) × (speak (length ts) release (served_at link (length ts) mid r).account ≡ Err fault)
    by Originator e = (releases link (length ts) mid, e)
    by Answerer e = (false, e.1)

pub by-files-always : EndsSoonByFiles
by-files-always tries period delay link ts ends segments k run c holds =
    let w = within-always tries period delay link ts ends k run c in
    let few : of_both (offered_to ends) ≤ of_both segments
    = omega (
      arith,
      offered-few link.orig.user.file ends.orig.outgoing (segments Originator) (w Originator) (holds Originator),
      offered-few link.answ.user.file ends.answ.outgoing (segments Answerer) (w Answerer) (holds Answerer),
    ) in
    let lighter : weight link (offered_to ends) ≤ weight link segments = omega (arith, few) in
    let most : most_turns tries period link (offered_to ends) ≤ most_turns tries period link segments =
    mul-le (2 * (tries + 2) * period) (weight link (offered_to ends)) (2 * (tries + 2) * period) (weight link segments)
    (omega arith) lighter in
    omega (arith, ends-soon-always tries period delay link ts ends k run c, most)

pub by-octets-always : EndsSoonByOctets
by-octets-always tries period delay link ts ends k run c =
    by-files-always tries period delay link ts ends (λ role. length (of role link).user.file) k run c
    (holds (within-always tries period delay link ts ends k run c))
  where
    holds : ((role : Role) → IsWithin (of role link).user.file (of role ends).outgoing) → (role : Role)
        → HoldsFile (of role link).user.file (of role ends).outgoing (length (of role link).user.file)
    holds w role = octets-hold (of role link).user.file (of role ends).outgoing (w role)

pub no-run-is-long-always : NoRunIsLong
no-run-is-long-always tries period delay link ts ends k l run c =
    let octets : Role → ℕ = λ role. length (of role link).user.file in
    let soon = by-octets-always tries period delay link ts ends k run c in
    let short : period ≤ 256 = omega (arith, k.period_is, l.delays_few Originator, l.delays_few Answerer) in
    let often : 2 * (tries + 2) * period ≤ 44 * 256 = mul-le (2 * (tries + 2)) period 44 256 (omega (arith, l.tries_few)) short in
    let heavy : weight link octets ≤ 34834502
    = omega (
      arith,
      l.files_short Originator,
      l.files_short Answerer,
      l.breaks_few,
      l.busy_few,
      busy-few link.orig.user.busy (l.busy_short Originator),
      busy-few link.answ.user.busy (l.busy_short Answerer),
    ) in
    let most : most_turns tries period link octets ≤ 44 * 256 * 34834502 =
    mul-le (2 * (tries + 2) * period) (weight link octets) (44 * 256) 34834502 often heavy in
    omega (arith, soon, most)
