-- For what a listener stands.
use Rattle.std.specs.Prelude.{◌≡◌, ℕ, ◌*◌, ◌%◌, ◌≤◌, Bool, ◌||◌, if◌then◌else◌, List, ◌∷◌, ◌++◌, length}
use Rattle.frame_check.specs.declared.check.Check.TheVariants.{Sixteen}
use Rattle.shared_terms.specs.declared.role.Role.{Role}
use Rattle.lapm_frames.specs.declared.heard.Heard.{Heard}
use Rattle.xid_params.specs.declared.terms.Terms.{Terms}
use Rattle.lapm_receiver.specs.Incoming.{Incoming}
use Rattle.lapm_receiver.specs.Taking.{StandsIn}
use Rattle.link_run.specs.Run.{Turn}
use Rattle.link_run.specs.Laws.{given_in, given_breaks}
use Rattle.link_run.specs.Listened.{check_by, received, taking_in, given_by}
use Rattle.link_run.specs.Overheard.{has_passed, passes_in, is_xid, opens}
use Rattle.line_tap.specs.declared.listener.EndListener.{EndListener}

-- The listener of this role, by these terms: whether an XID frame has passed to it, and the frame by which it becomes Connected, what it has
-- taken, and the lengths of the breaks that its user was given.
pub record Listens (l : EndListener) (terms : Terms) (role : Role) (agreed connected : Bool) (i : Incoming) (lengths : List ℕ) : Type 0 where
  pub role_is : l.role ≡ role
  pub check_is : l.check ≡ (if agreed then check_by terms else Sixteen)
  pub agreed_is : l.agreed ≡ check_by terms
  pub takes : StandsIn l.receiver i
  pub breaks : l.breaks.expected ≡ length lengths % 2
  pub connected_is : l.connected ≡ connected

-- it has heard this besides
abbrev pub Overhears : EndListener → Terms → Role → Bool → Bool → Incoming → List ℕ → Heard → Type 0
Overhears l terms role agreed connected i lengths heard =
    Listens l terms role (passes_in is_xid heard || agreed) (passes_in (opens role) heard || connected) (taking_in heard i)
    (lengths ++ given_in (given_by connected heard lengths))

-- all that was taken is delivered
abbrev pub delivered : Incoming → Incoming
delivered i = record i { given = length i.taken }

-- It has heard what passed in so many turns, and began with a window.
pub record HasTaken (l : EndListener) (turns : ℕ) : Type 0 where
  pub begun : 1 ≤ l.receiver.window
  pub few : l.receiver.taken ≤ 127 * turns

-- and all its segments are delivered
pub record IsIdle (l : EndListener) (turns : ℕ) : Type 0 where
  pub taken : HasTaken l turns
  pub none : length l.receiver.ready ≡ 0

-- It has heard these turns, and what it took in them is delivered.
abbrev pub ListensFor : EndListener → Terms → Role → List Turn → Type 0
ListensFor l terms role ts =
    Listens l terms role (has_passed is_xid role ts) (has_passed (opens role) role ts) (delivered (received terms role ts)) (given_breaks role ts)

-- It has heard this turn too, and what it took in that isn't delivered.
abbrev pub ListensToo : EndListener → Terms → Role → List Turn → Turn → Type 0
ListensToo l terms role ts t =
    Listens l terms role (has_passed is_xid role (t ∷ ts)) (has_passed (opens role) role (t ∷ ts))
    (record (received terms role (t ∷ ts)) { given = length (received terms role ts).taken }) (given_breaks role (t ∷ ts))
