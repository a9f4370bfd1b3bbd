-- For which run a world stands: its turns so far, over two files that are known as far as they were read.
use Rattle.std.specs.Prelude.{◌≡◌, ℕ, ◌-◌, ◌*◌, IsTrue, Bool, List, Option, Some, None}
use Rattle.outside_calls.specs.Folder.{FolderState}
use Rattle.bit_stuffing.specs.BitSlot.{line_bits}
use Rattle.bit_stuffing.specs.declared.bit_slot.BitSlot.{BitSlot}
use Rattle.shared_terms.specs.declared.role.Role.{Role}
use Rattle.shared_terms.specs.Both.{Both, of}
use Rattle.noise_script.specs.Script.{ScriptValue, IsInLimits, delay_of}
use Rattle.sample_line.specs.Line.{Kept, bits_behind}
use Rattle.sample_line.specs.Signals.{signal_of}
use Rattle.link_run.specs.Run.{Accounts, Spoken, Turn}
use Rattle.line_run.specs.Sampled.{signals}
use Rattle.line_run.specs.Scripted.{wire_of}
use Rattle.line_run.specs.Stream.{sent_by, both_sent_by}
use Rattle.turn_bound.specs.Limits.{file_limit}
use Rattle.stations.specs.Station.{file_at}
use Rattle.line_world.specs.Way.{Carries}
use Rattle.line_world.specs.Lines.{LinesWait}
use Rattle.line_world.specs.declared.lines.Lines.{Lines}
use Rattle.line_run.specs.Names.{Written}
use Rattle.line_world.specs.Link.{AreWithin}
use Rattle.line_world.specs.Modems.{AreKept, ModemsAfter}
use Rattle.line_world.specs.declared.modems.Modems.{Modems}
use Rattle.line_world.specs.declared.world.World.{World}

-- the script of a world, its ends with their users, its two directions of the line, and how many turns it made
abbrev pub script_of : World → ScriptValue
script_of w = w.script

abbrev pub modems_of : World → Modems
modems_of w = w.modems

abbrev pub lines_of : World → Lines
lines_of w = w.lines

abbrev pub turn_of : World → ℕ
turn_of w = w.modems.turn

-- how many slots were lost in them, and how many segments went again
abbrev pub lost_of : World → ℕ
lost_of w = w.modems.tally.lost

abbrev pub again_of : World → ℕ
again_of w = w.modems.tally.again

-- both ends sent in the last turn
abbrev pub spoke_of : World → Bool
spoke_of w = w.modems.spoke

-- The files are within the limit at which they end for who reads them. One that the folder tells is what it tells, up to there.
pub record KnowsFiles (f : FolderState) (n : Written) (files : Both (List ℕ)) : Type 0 where
  pub within : AreWithin files
  pub orig : IsTrue (f.tells n.orig) → files.orig ≡ file_at f n.orig file_limit
  pub answ : IsTrue (f.tells n.answ) → files.answ ≡ file_at f n.answ file_limit

-- Files that were known so before are others now, the same where the folder tells them: more of them was read.
pub record StayKnown (old new : FolderState) (n : Written) (files others : Both (List ℕ)) : Type 0 where
  pub within : AreWithin others
  pub known : KnowsFiles old n files → KnowsFiles new n others

-- The world made these turns of the run of its script and these files, which has come to these ends, and counted what they show. Its link is
-- alone on its line.
pub record WorldAfter (w : World) (files : Both (List ℕ)) (ts : List Turn) (ends : Accounts) : Type 0 where
  pub modems : ModemsAfter w.modems (wire_of w.script) files ts ends
  pub lines : LinesWait w.lines (wire_of w.script) 1 (both_sent_by 0 ts)

-- the line of this role stands for its slots of these turns that have passed: those sent as many turns ago as its delay
abbrev pub HasPassed : Kept → ScriptValue → Role → List Turn → Type 0
HasPassed line script role ts = Carries line script role (sent_by 0 role ts) (delay_of script role)

-- so it does for one slot more, once that of the turn after these has arrived
abbrev pub HasPassedToo : Kept → ScriptValue → Role → List Turn → Type 0
HasPassedToo line script role ts = Carries line script role (sent_by 0 role ts) (delay_of script role - 1)

-- These are the bits of the slot that a role sent in a turn behind these.
abbrev pub HasSent : Option BitSlot → ScriptValue → Role → List Turn → Turn → Type 0
HasSent None script role ts t = ⊥
HasSent (Some bits) script role ts t = (slot : Spoken) × ((of role t).sent ≡ Some slot)
    × (line_bits bits ≡ bits_behind (4 * (wire_of script).symbols) (signals (wire_of script) role ts) (signal_of slot.check role 0 slot.sent))

-- A turn may be made: the world stands for a run of some files, and what its ends took is handed over.
pub record IsReady (w : World) : Type 0 where
  pub limits : IsInLimits w.script
  pub channel : w.modems.dlci ≡ 0
  pub kept : AreKept w.modems
  pub files : Both (List ℕ)
  pub within : AreWithin files
  pub turns : List Turn
  pub ends : Accounts
  pub after : WorldAfter w files turns ends
