-- What a tally counts.
use Rattle.std.specs.Prelude.{◌≡◌, ℕ, ◌*◌, ◌≤◌, List}
use Rattle.link_run.specs.Run.{Accounts, Turn}
use Rattle.link_run.specs.Counts.{lost_slots, sent_again}
use Rattle.line_world.specs.declared.tally.Counts.{Counts}

-- It counts what these turns show, which came to these ends.
pub record Tallies (t : Counts) (ts : List Turn) (ends : Accounts) : Type 0 where
  pub lost : t.lost ≡ lost_slots ts
  pub again : t.again ≡ sent_again ts
  pub orig : t.orig ≡ ends.orig.outgoing.high
  pub answ : t.answ ≡ ends.answ.outgoing.high

-- At most two slots are heard in a turn, and two are sent.
pub record IsFew (t : Counts) (heard sent : ℕ) : Type 0 where
  pub lost : t.lost ≤ 2 * heard
  pub again : t.again ≤ 2 * sent
  pub orig : t.orig ≤ sent
  pub answ : t.answ ≤ sent
