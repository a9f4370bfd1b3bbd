-- How soon the front of an end advances.
use Rattle.std.specs.Prelude.{◌≡◌, ℕ, ◌<◌, true, false, List, [], ◌∷◌, ◌++◌, length}
use Rattle.shared_terms.specs.declared.role.Role.{Role}
use Rattle.shared_terms.specs.declared.role.Role.TheVariants.{Answerer}
use Rattle.shared_terms.specs.Both.{of}
use Rattle.lapm_sender.specs.Outgoing.{is_whole}
use Rattle.link_account.specs.declared.phase.Phase.TheVariants.{Connected}
use Rattle.link_account.specs.Account.{Account}
use Rattle.link_run.specs.Run.{Link, Accounts, Turn, GoingTurn, RunOf}
use Rattle.link_run.specs.Carried.{IsCarried}
use Rattle.turn_bound.specs.Time.{KeepsTime}
use Rattle.turn_bound.specs.Bound.{quota}

-- no user asks for a pause
abbrev pub NeverBusy : Link → Type 0
NeverBusy link = (role : Role) → (of role link).user.busy ≡ []

-- An end is Connected and may send segments: an answerer once it heard an I frame or a supervisory frame.
pub record MaySend (a : Account) : Type 0 where
  pub connected : a.phase ≡ Connected
  pub numbered : a.setup.role ≡ Answerer → a.numbered ≡ true

-- later turns after which a run goes on, the newest first, from these ends to those
abbrev pub GoesOn : Link → List Turn → Accounts → List Turn → Accounts → Type 0
GoesOn link ts before [] after = after ≡ before
GoesOn link ts before (t ∷ us) after = (ends : Accounts) × GoesOn link ts before us ends × GoingTurn link (us ++ ts) ends t after

-- From where an end may send or from its last advance, its front advances within the turns of one segment, or it is whole, or the run ends:
-- while the front stands where it stood fewer turns pass.
abbrev pub AdvancesSoon : Type 0
AdvancesSoon = (tries period : ℕ) (delay : Role → ℕ) (link : Link) (ts us : List Turn) (before after : Accounts) (role : Role)
    → KeepsTime tries period delay link → NeverBusy link → RunOf link ts before → MaySend (of role before)
    → GoesOn link ts before us after → IsCarried delay (us ++ ts)
    → is_whole (of role after).outgoing ≡ false → (of role after).outgoing.front ≡ (of role before).outgoing.front
    → length us < quota tries period
