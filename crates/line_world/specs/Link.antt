-- The two ends of a run, each with its user.
use Rattle.std.specs.Prelude.{◌≡◌, ℕ, ◌≤◌, true, is_ok, List, [], ◌∷◌, length, Result, Ok, Err}
use Rattle.std.specs.List.{concat}
use Rattle.outside_calls.specs.Folder.{FolderState}
use Rattle.shared_terms.specs.declared.role.Role.TheVariants.{Originator, Answerer}
use Rattle.shared_terms.specs.Both.{Both}
use Rattle.noise_script.specs.Script.{ScriptValue}
use Rattle.lapm_frames.specs.declared.arrived.Arrived.{Arrived}
use Rattle.lapm_frames.specs.declared.sent.Sent.{Sent}
use Rattle.lapm_link.specs.Stands.{undelivered_of}
use Rattle.link_account.specs.Account.{Account, after_busy}
use Rattle.link_account.specs.Hear.{hear}
use Rattle.link_account.specs.Speak.{Said}
use Rattle.link_run.specs.End.{deliveries, offered, asked, is_busy, is_released}
use Rattle.link_run.specs.Run.{Link as RunLink, Accounts, says_at, BreaksAt}
use Rattle.line_run.specs.Scripted.{breaks_of, busy_of}
use Rattle.turn_bound.specs.Limits.{file_limit}
use Rattle.stations.specs.declared.station.Station.{Station}
use Rattle.stations.specs.Station.{Stands, ReadsOn, IsIdle, IsCounted}
use Rattle.line_world.specs.declared.link.Link.{Link}
use Rattle.line_world.specs.declared.link.Breaking.{Breaking}
use Rattle.line_run.specs.Names.{Written}

-- Both stations stand for these ends, whose users send these files.
pub record LinkStands (l : Link) (files : Both (List ℕ)) (ends : Accounts) : Type 0 where
  pub orig : Stands l.orig files.orig ends.orig
  pub answ : Stands l.answ files.answ ends.answ

-- both may hear
pub record AreIdle (l : Link) : Type 0 where
  pub orig : IsIdle l.orig
  pub answ : IsIdle l.answ

-- what both took in so many turns is bounded by them
pub record AreCounted (l : Link) (heard asked : ℕ) : Type 0 where
  pub orig : IsCounted l.orig heard asked
  pub answ : IsCounted l.answ heard asked

-- Both ends hear these, and neither breaks.
pub record HearsBoth (l : Link) (files : Both (List ℕ)) (ends : Accounts) (turn : ℕ) (to_orig to_answ : Arrived) : Type 0 where
  pub mid : Accounts
  pub orig : hear turn to_orig ends.orig ≡ Ok mid.orig
  pub answ : hear turn to_answ ends.answ ≡ Ok mid.answ
  pub stands : LinkStands l files mid

-- hearing these breaks no end
pub record HearsWell (ends : Accounts) (turn : ℕ) (to_orig to_answ : Arrived) : Type 0 where
  pub orig : is_ok (hear turn to_orig ends.orig) ≡ true
  pub answ : is_ok (hear turn to_answ ends.answ) ≡ true

-- An end hears this, and doesn't break.
pub record HearsOn (s : Station) (file : List ℕ) (a : Account) (turn : ℕ) (arrived : Arrived) : Type 0 where
  pub mid : Account
  pub hears : hear turn arrived a ≡ Ok mid
  pub stands : Stands s file mid

-- what both took is handed over
pub record HaveDelivered (l : Link) : Type 0 where
  pub orig : undelivered_of l.orig.end ≡ 0
  pub answ : undelivered_of l.answ.end ≡ 0

-- both files are within the limit, at which they end for who reads them
pub record AreWithin (files : Both (List ℕ)) : Type 0 where
  pub orig : length files.orig ≤ file_limit
  pub answ : length files.answ ≤ file_limit

-- the octets that both users are given
abbrev pub octets_of : Accounts → List (List ℕ)
octets_of ends = concat (deliveries ends.orig) ∷ concat (deliveries ends.answ) ∷ []

-- each end, as a function of its account
abbrev pub both_ends : (Account → Account) → Accounts → Accounts
both_ends f ends = record { orig = f ends.orig; answ = f ends.answ }

-- what happens to both ends behind their offers
abbrev pub served_on : ScriptValue → ℕ → Accounts → Accounts
served_on script turn ends =
    let released = is_released ends.orig.phase in
    record {
      orig = asked turn released (breaks_of script Originator) (after_busy (is_busy turn (busy_of script Originator)) ends.orig);
      answ = asked turn released (breaks_of script Answerer) (after_busy (is_busy turn (busy_of script Answerer)) ends.answ);
    }

-- Both were offered all that they want of their users' files, which are known as far as they were read.
pub record SuppliesBoth (f : FolderState) (n : Written) (l : Link) (files : Both (List ℕ)) (ends : Accounts) : Type 0 where
  pub others : Both (List ℕ)
  pub orig : ReadsOn f n.orig file_limit files.orig ends.orig others.orig
  pub answ : ReadsOn f n.answ file_limit files.answ ends.answ others.answ
  pub stands : LinkStands l others (record { orig = offered others.orig ends.orig; answ = offered others.answ ends.answ })

-- Both ends speak, and neither breaks.
pub record SaysBoth (l : Link) (files : Both (List ℕ)) (link : RunLink) (turn : ℕ) (ends : Accounts) (from_orig from_answ : Sent) : Type 0 where
  pub orig : Said
  pub answ : Said
  pub orig_says : says_at link turn ends Originator ≡ Ok orig
  pub answ_says : says_at link turn ends Answerer ≡ Ok answ
  pub orig_sent : from_orig ≡ orig.sent
  pub answ_sent : from_answ ≡ answ.sent
  pub stands : LinkStands l files (record { orig = orig.account; answ = answ.account })

-- what speaking answers
abbrev pub SpeaksBoth : Link → Both (List ℕ) → RunLink → ℕ → Accounts → Result (Both Sent) Breaking → Type 0
SpeaksBoth l files link turn ends (Ok sent) = SaysBoth l files link turn ends sent.orig sent.answ
SpeaksBoth l files link turn ends (Err breaking) = BreaksAt link turn ends breaking.role breaking.fault
