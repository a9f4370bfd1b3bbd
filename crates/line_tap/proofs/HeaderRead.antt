-- What is read of a recording to look at its header.
use Rattle.line_tap.proofs.Cited.{◌≡◌, ℕ, ◌+◌, ◌≤◌, ◌<◌, List, [], ◌∷◌, IsTrue, take, sym, arith, ReadTo, Stop, TapNames, recordings_of}
use Rattle.line_tap.proofs.Cited.{IsRefused, AreReadTo, no_octets, ScriptValue, FolderState, octets_at, header_of, Limits, Mode, Call}
use Rattle.line_tap.proofs.Cited.{Answer}
use Rattle.command_base.specs.Stops.{StopCounts}
use Rattle.run_inputs.specs.Inputs.{Opens, Refuses}
use Rattle.line_tap.specs.declared.limits.TheConstants.{TAP_LIMIT}
use Rattle.line_tap.specs.Headers.{HasHeader, NoHeader}

-- the octets that a header is looked for in
pub header-octets : (start new : FolderState) (name : List ℕ) (count : ℕ) (piece : List ℕ) → count ≤ 8
    → ReadTo start new name TAP_LIMIT (0 + count) piece → (count < 8 → IsTrue (start.tells name) → piece ≡ octets_at start name)
    → IsTrue (start.tells name) → piece ≡ take 8 (octets_at start name)
header-octets start new name count piece few r all told = grind (arith)

-- both recordings were read up to the octets behind their headers
pub both-read : (start now : FolderState) (n : TapNames) → ReadTo start now n.rec_o TAP_LIMIT 8 (header_of Call)
    → ReadTo start now n.rec_a TAP_LIMIT 8 (header_of Answer) → AreReadTo start now n no_octets
both-read start now n orig answ b = grind (arith)

-- the script or a length is refused
pub inputs-refused : (l : Limits) (old new : FolderState) (n : TapNames) (stop : Stop)
    → Refuses l old new n.script 3 (recordings_of n) 1 stop → IsRefused l old new n stop
inputs-refused l old new n stop refused = grind (arith)

-- a recording has no header: the originator's,
pub orig-refused : (l : Limits) (old new : FolderState) (n : TapNames) (script : ScriptValue) (stop : Stop)
    → Opens l old n.script (recordings_of n) script → NoHeader old n.rec_o Call stop → StopCounts old new (n.rec_o ∷ []) [] stop
    → IsRefused l old new n stop
orig-refused l old new n script stop opens bad counts = grind (arith)

-- what was read of a recording is its header
pub header-read : (start now : FolderState) (name : List ℕ) (mode : Mode) → ReadTo start now name TAP_LIMIT 8 (header_of mode)
    → HasHeader start name mode
header-read start now name mode r told = sym (r.front told)

-- or the answerer's alone
pub answ-refused : (l : Limits) (old new : FolderState) (n : TapNames) (script : ScriptValue) (stop : Stop)
    → Opens l old n.script (recordings_of n) script → HasHeader old n.rec_o Call → NoHeader old n.rec_a Answer stop
    → StopCounts old new (n.rec_a ∷ []) [] stop → IsRefused l old new n stop
answ-refused l old new n script stop opens good bad counts = grind (arith)
