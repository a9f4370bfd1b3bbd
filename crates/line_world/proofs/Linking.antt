-- Parts of a turn of both ends.
use Rattle.line_world.proofs.Cited.{◌≡◌, ℕ, Bool, true, false, is_ok, List, length, arith, Option, Result, Ok, option_map, Arrived, Sent}
use Rattle.line_world.proofs.Cited.{breaks_of, busy_of, HearsOn, Account, after_busy, hear, Said, asked, asked_at, is_busy, ScriptValue}
use Rattle.line_world.proofs.Cited.{octets-kept, FolderState, OnlyReads, LinkFault, Role, Stands, HearsAs, SpeaksAs, ReadsOn, Station}
use Rattle.std.proofs.Common.{slice_get}
use Rattle.noise_script.specs.Script.{break_of}
use Rattle.noise_script.specs.Script as script
use Rattle.line_run.specs.Scripted.{BreaksAreTheScripts, PausesAreTheScripts}
use Rattle.stations.specs.Station.{break_line_of}

pub heard-well : (s : Station) (file : List ℕ) (a : Account) (turn : ℕ) (arrived : Arrived) → is_ok (hear turn arrived a) ≡ true
    → HearsAs (hear turn arrived a) file s (Ok tt) → HearsOn s file a turn arrived
heard-well s file a turn arrived well h = grind (arith)

-- The next break of the script is the next one of the user's.
pub next-is : BreaksAreTheScripts → (value : ScriptValue) (role : Role) (index taken : ℕ) (next : Option (ℕ × ℕ))
    → next ≡ break_of value role index → index ≡ taken → option_map break_line_of next ≡ slice_get (breaks_of value role) taken
next-is law value role index taken next e i = grind (arith)

-- Whoever isn't told to release asks for its next break,
pub asks-so : BreaksAreTheScripts → PausesAreTheScripts
    → (value : ScriptValue) (role : Role) (turn : ℕ) (released busy : Bool) (a : Account)
    → (index : ℕ) (next : Option (ℕ × ℕ)) → next ≡ break_of value role index → index ≡ length (after_busy busy a).own_breaks.lengths
    → busy ≡ script.is_busy value role turn → released ≡ false
    → asked_at turn (option_map break_line_of next) (after_busy busy a) ≡ asked turn released (breaks_of value role)
    (after_busy (is_busy turn (busy_of value role)) a)
asks-so breaks pauses value role turn released busy a index next e i b r = grind (arith, next-is)

-- and whoever is does not.
pub asks-none : PausesAreTheScripts → (value : ScriptValue) (role : Role) (turn : ℕ) (released busy : Bool) (a : Account)
    → busy ≡ script.is_busy value role turn → released ≡ true
    → after_busy busy a ≡ asked turn released (breaks_of value role) (after_busy (is_busy turn (busy_of value role)) a)
asks-none pauses value role turn released busy a b r = grind (arith)

-- What an end says by its rules, as the station sends it.
pub record Says (r : Result Said LinkFault) (file : List ℕ) (sent : Sent) (s : Station) : Type 0 where
  pub said : Said
  pub is : r ≡ Ok said
  pub sent_is : sent ≡ said.sent
  pub stands : Stands s file said.account

-- one that doesn't says it.
pub said-so : (r : Result Said LinkFault) (file : List ℕ) (sent : Sent) (s : Station) → SpeaksAs r file sent s (Ok tt) → Says r file sent s
said-so q0 file sent s h = grind (arith)

-- What was read of a file after another was read is what the folder had of it before.
pub reads-later : (start mid : FolderState) (name : List ℕ) (limit : ℕ) (file : List ℕ) (a : Account) (others : List ℕ)
    → OnlyReads start mid → ReadsOn mid name limit file a others → ReadsOn start name limit file a others
reads-later start mid name limit file a others only r = grind (arith, octets-kept)
