-- What an end delivers, and which breaks it takes: none where it isn't Connected.
use Rattle.lapm_link.proofs.Names.{◌≡◌, ◌≤◌, ℕ, Bool, false, if◌then◌else◌, None, sym, ap, subst, arith, StandsFor, Links, Negotiates}
use Rattle.lapm_link.proofs.Names.{undelivered_of, AnyEnd, Connected, Talk, Account}
use Rattle.lapm_receiver.specs.Incoming.{next_delivered, after_delivered}
use Rattle.break_signals.specs.Breaks.{takes_break, after_ask}
use Rattle.link_account.specs.declared.phase.Phase.TheVariants as phases
use Rattle.lapm_link.specs.declared.any_end.AnyEnd.TheVariants as ends
use Rattle.link_account.specs.Account.{is_connected, delivers, after_delivery, takes_own, after_break_asked}
use Rattle.lapm_link.specs.Stands.{TakesNothing}

-- an end of another variant
abbrev pub IsUnconnected : AnyEnd → Type 0
IsUnconnected end = (up : Connected) → end ≡ ends.Connected up → ⊥

negotiates : (talk : Talk) (a : Account) → Negotiates talk a → is_connected a.phase ≡ false
negotiates q0 a h = grind (arith)

-- its account's phase
unconnected : (end : AnyEnd) (a : Account) → IsUnconnected end → StandsFor end a → is_connected a.phase ≡ false
unconnected q0 a not h = grind (arith)

pub undelivered-none : (end : AnyEnd) → IsUnconnected end → undelivered_of end ≡ 0
undelivered-none q0 not = grind (arith)

pub same-number : (n : ℕ) → n ≤ n
same-number n = omega arith

pub takes-none : (end : AnyEnd) → TakesNothing end end
takes-none end = record { taken_of = same-number _; undelivered_of = same-number _; waiting_of = λ e. e }

-- what is delivered,
pub delivers-none : (end : AnyEnd) (a : Account) → IsUnconnected end → StandsFor end a → delivers a ≡ None
delivers-none end a not h = ap (λ (up : Bool). if up then next_delivered a.incoming else None) (unconnected end a not h)

pub nothing-delivered : (end : AnyEnd) (a : Account) → IsUnconnected end → StandsFor end a → StandsFor end (after_delivery a)
nothing-delivered end a not h =
    subst (λ (up : Bool). StandsFor end (if up then record a { incoming = after_delivered a.incoming } else a))
    (sym (unconnected end a not h)) h

pub delivers-next : (a : Account) → a.phase ≡ phases.Connected → delivers a ≡ next_delivered a.incoming
delivers-next a up = ap (λ phase. if is_connected phase then next_delivered a.incoming else None) up

pub links-delivered : (end : Connected) (a : Account) → a.phase ≡ phases.Connected
    → Links end (record a { incoming = after_delivered a.incoming }) → Links end (after_delivery a)
links-delivered end a up h =
    subst (λ phase. Links end (if is_connected phase then record a { incoming = after_delivered a.incoming } else a)) (sym up) h

-- and whether a break is taken
pub takes-no-break : (end : AnyEnd) (turn : ℕ) (a : Account) → IsUnconnected end → StandsFor end a → takes_own turn a ≡ false
takes-no-break end turn a not h = ap (λ (up : Bool). if up then takes_break turn a.own_breaks else false) (unconnected end a not h)

pub no-break-asked : (end : AnyEnd) (turn units : ℕ) (a : Account) → IsUnconnected end → StandsFor end a
    → StandsFor end (after_break_asked turn units a)
no-break-asked end turn units a not h =
    subst (λ (up : Bool). StandsFor end (if up then record a { own_breaks = after_ask turn units a.own_breaks } else a))
    (sym (unconnected end a not h)) h

pub takes-break : (turn : ℕ) (a : Account) → a.phase ≡ phases.Connected → takes_own turn a ≡ takes_break turn a.own_breaks
takes-break turn a up = ap (λ phase. if is_connected phase then takes_break turn a.own_breaks else false) up

pub links-asked : (end : Connected) (turn units : ℕ) (a : Account) → a.phase ≡ phases.Connected
    → Links end (record a { own_breaks = after_ask turn units a.own_breaks }) → Links end (after_break_asked turn units a)
links-asked end turn units a up h =
    subst (λ phase. Links end (if is_connected phase then record a { own_breaks = after_ask turn units a.own_breaks } else a)) (sym up) h
