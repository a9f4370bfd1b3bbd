-- How the phases of both ends stand together.
use Rattle.std.specs.Prelude.{◌≡◌, ℕ, true, false, List}
use Rattle.shared_terms.specs.declared.role.Role.{Role}
use Rattle.link_account.specs.declared.phase.Phase.TheVariants.{Connected}
use Rattle.link_run.specs.Run.{Link, Accounts, Turn, RunOf}
use Rattle.link_run.specs.Carried.{IsCarried}
use Rattle.turn_bound.specs.Time.{KeepsTime}

-- An originator is Connected only with an answerer that is, and awaits a poll until that one heard an I frame or a supervisory frame.
pub record Together (ends : Accounts) : Type 0 where
  pub answ : ends.orig.phase ≡ Connected → ends.answ.phase ≡ Connected
  pub polls : ends.orig.phase ≡ Connected → ends.answ.numbered ≡ false → ends.orig.outgoing.awaited ≡ true

abbrev pub StandTogether : Type 0
StandTogether = (tries period : ℕ) (delay : Role → ℕ) (link : Link) (ts : List Turn) (ends : Accounts)
    → KeepsTime tries period delay link → RunOf link ts ends → IsCarried delay ts → Together ends
