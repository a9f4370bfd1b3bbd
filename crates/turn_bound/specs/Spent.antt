-- When the tries of a clock are spent.
use Rattle.std.specs.Prelude.{◌≡◌, ℕ, ◌+◌, ◌-◌, ◌*◌, ◌≤◌, ◌⊎◌, true, false, List, length, Some}
use Rattle.shared_terms.specs.declared.role.Role.{Role}
use Rattle.break_signals.specs.Breaks.{waits}
use Rattle.shared_terms.specs.declared.fault.LinkFault.{LinkFault}
use Rattle.shared_terms.specs.declared.fault.LinkFault.TheVariants.{NotDetected, Spent, BadAck, PeerReset, PeerRefused}
use Rattle.link_account.specs.Account.{Account, is_connected}
use Rattle.link_run.specs.Run.{Link, Accounts, Turn, RunOf, BrokenTurn, served_at}
use Rattle.link_run.specs.Carried.{IsCarried}
use Rattle.turn_bound.specs.Time.{KeepsTime}

-- the turn in which a clock began: it was set then, and at each expiry since
abbrev pub since : ℕ → ℕ → ℕ → ℕ
since period count set = set - count * period

-- A clock of the end began in that turn: of a Connected end that of the segments or that of the break that waits, of any other that of its
-- U try.
abbrev pub BeganIn : ℕ → Account → ℕ → Type 0
BeganIn period a start =
    ((set : ℕ) × (a.wait.timer ≡ Some set) × (since period a.outgoing.count set ≡ start))
    ⊎ ((waits a.own_breaks ≡ true) × (since period a.own_breaks.count a.own_breaks.set ≡ start))
    ⊎ ((is_connected a.phase ≡ false) × (since period a.wait.try_count a.wait.try_set ≡ start))

-- The tries of a clock are spent a whole set of tries after it began, and in no other turn. The segment that is named is the oldest one that
-- isn't acknowledged.
pub record SpentOnTime (period whole turn : ℕ) (a : Account) (segment start : ℕ) : Type 0 where
  pub segment_is : segment ≡ a.outgoing.front
  pub on_time : start + whole ≡ turn
  pub began : BeganIn period a start

-- an end breaks for want of answers alone, once a whole set of tries is over
abbrev pub IsTimely : ℕ → ℕ → ℕ → Account → LinkFault → Type 0
IsTimely period whole turn a (Spent segment start) = SpentOnTime period whole turn a segment start
IsTimely period whole turn a NotDetected = whole ≤ turn
IsTimely period whole turn a (BadAck nr va high) = ⊥
IsTimely period whole turn a (PeerReset va vr) = ⊥
IsTimely period whole turn a PeerRefused = ⊥

abbrev pub SpendsOnTime : Type 0
SpendsOnTime = (tries period : ℕ) (delay : Role → ℕ) (link : Link) (ts : List Turn) (before : Accounts) (t : Turn) (mid : Accounts) (role : Role)
    (fault : LinkFault)
    → KeepsTime tries period delay link → RunOf link ts before → IsCarried delay ts
    → BrokenTurn link ts before t mid role fault
    → IsTimely period ((tries + 1) * period) (length ts) (served_at link (length ts) mid role).account fault
