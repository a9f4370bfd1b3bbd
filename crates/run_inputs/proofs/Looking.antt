-- Lengths that are looked at one after the other.
use Rattle.run_inputs.proofs.Names.{inl, inr, ℕ, ◌+◌, List, [], ◌∷◌, ◌++◌, Result, Ok, Err, OnOk, refl, sym, subst, stop-earlier, IsWithin}
use Rattle.run_inputs.proofs.Names.{EndCounts, Stop, CountsStand-trans, FolderState, FolderFault, AreWithin, TellOctets, RefusesLengths}
use Rattle.outside_calls.specs.Folder.{TellsOctets, OnlyReads, CountsStand}
use Rattle.outside_calls.specs.declared.folder.FolderFault.TheVariants as folder
use Rattle.outside_calls.specs.Outputs.{SomeRose}
use Rattle.command_base.specs.declared.status.Status.TheVariants.{BadScript, TooLong}
use Rattle.command_base.specs.declared.stop.Stop.TheVariants.{Own, Read, Write, Say, NoMemory}
use Rattle.command_base.specs.Inputs.{IsNotWithin, FailsToHold}
use Rattle.command_base.specs.Stops.{IsOwn, StopCounts}
use Rattle.command_base.proofs.Reading.{within-earlier, longer-earlier, octets-earlier}
use Rattle.noise_script.specs.Script.{ScriptValue}
use Rattle.run_inputs.specs.declared.limits.Limits.{Limits}
use Rattle.run_inputs.specs.Lengths.{IsFirstLong, FailsInOrder}
use Rattle.run_inputs.specs.Scripts.{ReadsScript, RefusesScript, RefusesScriptOwn}
use Rattle.run_inputs.specs.Inputs.{Opens, RefusesOwn, Refuses}

-- ---- a look changes nothing

all-kept : (old mid : FolderState) (names : List (List ℕ)) (limit : ℕ) → OnlyReads old mid
    → AreWithin limit mid names → AreWithin limit old names
all-kept old mid [] limit r w = tt
all-kept old mid (name ∷ names) limit r w = (within-earlier old mid name limit r w.0, all-kept old mid names limit r w.1)

octets-kept : (old mid : FolderState) (names : List (List ℕ)) → OnlyReads old mid → TellOctets mid names → TellOctets old names
octets-kept old mid [] r o = tt
octets-kept old mid (name ∷ names) r o = (octets-earlier old mid name r o.0, octets-kept old mid names r o.1)

first-kept : (old mid : FolderState) (names : List (List ℕ)) (limit place word : ℕ) → OnlyReads old mid
    → IsFirstLong limit mid place names word → IsFirstLong limit old place names word
first-kept old mid [] limit place word r long = long
first-kept old mid (name ∷ names) limit place word r (inl long) = inl (long.0, longer-earlier old mid name limit r long.1)
first-kept old mid (name ∷ names) limit place word r (inr long) =
    inr (within-earlier old mid name limit r long.0, first-kept old mid names limit (place + 1) word r long.1)

-- ---- the first is within its limit, and one behind it is not

fails-kept : (old mid new : FolderState) (names : List (List ℕ)) (limit : ℕ) (fault : FolderFault) → OnlyReads old mid → CountsStand old mid
    → FailsInOrder limit mid new names fault → FailsInOrder limit old new names fault
fails-kept old mid new [] limit fault r stand never = never
fails-kept old mid new (name ∷ names) limit fault r stand (inl fails) =
    inl (stop-earlier old mid new (name ∷ []) [] (Read fault) stand fails)
fails-kept old mid new (name ∷ names) limit fault r stand (inr fails) =
    inr (within-earlier old mid name limit r fails.0, fails-kept old mid new names limit fault r stand fails.1)

pub refused-later : (old mid new : FolderState) (name : List ℕ) (names : List (List ℕ)) (limit place : ℕ) (stop : Stop) → OnlyReads old mid
    → CountsStand old mid → IsWithin old name limit → RefusesLengths limit mid new (place + 1) names stop
    → RefusesLengths limit old new place (name ∷ names) stop
refused-later old mid new name names limit place (Own answer) r stand w long =
    record {
      word = long.word;
      answer_is = long.answer_is;
      first = inr (w, first-kept old mid names limit (place + 1) long.word r long.first);
    }
refused-later old mid new name names limit place (Read fault) r stand w why = inr (w, fails-kept old mid new names limit fault r stand why)
refused-later old mid new name names limit place (Write fault) r stand w why = why
refused-later old mid new name names limit place (Say fault) r stand w why = why
refused-later old mid new name names limit place NoMemory r stand w why = why

-- what was counted of some inputs was counted of all that have them among them
pub of-more : (old new : FolderState) (names more outputs : List (List ℕ)) (stop : Stop)
    → (SomeRose old.read_faults new.read_faults names → SomeRose old.read_faults new.read_faults more)
    → StopCounts old new names outputs stop → StopCounts old new more outputs stop
of-more old new names more outputs (Own answer) among counts = counts
of-more old new names more outputs (Read folder.Failed) among rose = among rose
of-more old new names more outputs (Read folder.NoMemory) among refused = refused
of-more old new names more outputs (Write fault) among counts = counts
of-more old new names more outputs (Say fault) among counts = counts
of-more old new names more outputs NoMemory among counts = counts

-- what is counted in all, of those behind the first
pub counts-later : {D : Type 0} (old mid new : FolderState) (name : List ℕ) (names outputs : List (List ℕ)) (end : Result D Stop)
    → CountsStand old mid → EndCounts mid new names outputs end → EndCounts old new (name ∷ names) outputs end
counts-later old mid new name names outputs (Ok done) stand counts = CountsStand-trans stand counts
counts-later old mid new name names outputs (Err stop) stand counts =
    of-more old new names (name ∷ names) outputs stop (λ rose. inr rose) (stop-earlier old mid new names outputs stop stand counts)

-- all of them are within
pub within-all : {D : Type 0} (old mid : FolderState) (name : List ℕ) (names : List (List ℕ)) (limit : ℕ) (end : Result D Stop)
    → OnlyReads old mid → IsWithin old name limit → OnOk end (AreWithin limit mid names) → OnOk end (AreWithin limit old (name ∷ names))
within-all old mid name names limit (Ok done) r w within = (w, all-kept old mid names limit r within)
within-all old mid name names limit (Err stop) r w within = tt

pub octets-all : {D : Type 0} (old mid : FolderState) (name : List ℕ) (names : List (List ℕ)) (end : Result D Stop) → OnlyReads old mid
    → TellsOctets old name → OnOk end (TellOctets mid names) → OnOk end (TellOctets old (name ∷ names))
octets-all old mid name names (Ok done) r o octets = (o, octets-kept old mid names r octets)
octets-all old mid name names (Err stop) r o octets = tt

-- ---- the first is not within its limit

pub refused-first : (old new : FolderState) (name : List ℕ) (names : List (List ℕ)) (limit place : ℕ) (stop : Stop)
    → IsNotWithin old new name limit place stop → RefusesLengths limit old new place (name ∷ names) stop
refused-first old new name names limit place (Own answer) (is, longer, stand) =
    record { word = place; answer_is = is; first = inl (refl, longer) }
refused-first old new name names limit place (Read fault) why = inl why
refused-first old new name names limit place (Write fault) why = absurd why
refused-first old new name names limit place (Say fault) why = absurd why
refused-first old new name names limit place NoMemory why = absurd why

pub counts-first : (old new : FolderState) (name : List ℕ) (names outputs : List (List ℕ)) (limit place : ℕ) (stop : Stop)
    → IsNotWithin old new name limit place stop → StopCounts old new (name ∷ names) outputs stop
counts-first old new name names outputs limit place (Own answer) (is, longer, stand) =
    (subst IsOwn (sym is) tt, stand)
counts-first old new name names outputs limit place (Read folder.Failed) (inl rose) = inl rose
counts-first old new name names outputs limit place (Read folder.Failed) (inr never) = absurd never
counts-first old new name names outputs limit place (Read folder.NoMemory) refused = refused
counts-first old new name names outputs limit place (Write fault) why = absurd why
counts-first old new name names outputs limit place (Say fault) why = absurd why
counts-first old new name names outputs limit place NoMemory why = absurd why

-- ---- a script that is not read

-- it is not within its limit,
pub script-longer : (old new : FolderState) (name : List ℕ) (limit place : ℕ) (stop : Stop) → IsNotWithin old new name limit place stop
    → RefusesScript limit old name place stop
script-longer old new name limit place (Own answer) (is, longer, stand) =
    subst (RefusesScriptOwn limit old name place) (sym is) (record { word_is = refl; longer = longer })
script-longer old new name limit place (Read fault) why = tt
script-longer old new name limit place (Write fault) why = absurd why
script-longer old new name limit place (Say fault) why = absurd why
script-longer old new name limit place NoMemory why = absurd why

-- or its octets are not held
pub script-not-held : (old mid new : FolderState) (name : List ℕ) (limit place : ℕ) (stop : Stop) → IsWithin old name limit
    → FailsToHold mid new name stop → RefusesScript limit old name place stop
script-not-held old mid new name limit place (Own answer) within why = absurd why
script-not-held old mid new name limit place (Read fault) within why = tt
script-not-held old mid new name limit place (Write fault) within why = absurd why
script-not-held old mid new name limit place (Say fault) within why = absurd why
script-not-held old mid new name limit place NoMemory within why = within

pub counts-held : (old new : FolderState) (name : List ℕ) (outputs : List (List ℕ)) (stop : Stop) → FailsToHold old new name stop
    → StopCounts old new (name ∷ []) outputs stop
counts-held old new name outputs (Own answer) why = absurd why
counts-held old new name outputs (Read fault) why = why
counts-held old new name outputs (Write fault) why = absurd why
counts-held old new name outputs (Say fault) why = absurd why
counts-held old new name outputs NoMemory why = why

-- ---- the inputs of a run

-- the script stands behind the files
script-among : (before now : List ℕ → ℕ) (script : List ℕ) (files : List (List ℕ)) → SomeRose before now (script ∷ [])
    → SomeRose before now (files ++ script ∷ [])
script-among before now script [] rose = rose
script-among before now script (file ∷ files) rose = inr (script-among before now script files rose)

files-among : (before now : List ℕ → ℕ) (script : List ℕ) (files : List (List ℕ)) → SomeRose before now files
    → SomeRose before now (files ++ script ∷ [])
files-among before now script [] rose = absurd rose
files-among before now script (file ∷ files) (inl rose) = inl rose
files-among before now script (file ∷ files) (inr rose) = inr (files-among before now script files rose)

pub counts-script : (old new : FolderState) (script : List ℕ) (files outputs : List (List ℕ)) (stop : Stop)
    → StopCounts old new (script ∷ []) outputs stop → StopCounts old new (files ++ script ∷ []) outputs stop
counts-script old new script files outputs stop counts =
    of-more old new (script ∷ []) (files ++ script ∷ []) outputs stop (script-among old.read_faults new.read_faults script files) counts

-- of which nothing was counted before the files were looked at
pub counts-files : (old mid new : FolderState) (script : List ℕ) (files outputs : List (List ℕ)) (stop : Stop) → CountsStand old mid
    → StopCounts mid new files outputs stop → StopCounts old new (files ++ script ∷ []) outputs stop
counts-files old mid new script files outputs stop stand counts =
    of-more old new files (files ++ script ∷ []) outputs stop (files-among old.read_faults new.read_faults script files)
    (stop-earlier old mid new files outputs stop stand counts)

-- all of them are taken
pub opens : (l : Limits) (old mid : FolderState) (name : List ℕ) (names : List (List ℕ)) (script : ScriptValue) → OnlyReads old mid
    → ReadsScript l.script old name script → AreWithin l.file mid names → TellOctets mid names → Opens l old name names script
opens l old mid name names script r reads within octets =
    record { reads = reads; files = all-kept old mid names l.file r within; octets = octets-kept old mid names r octets }

-- the script was not taken
pub refused-script : (l : Limits) (old new : FolderState) (name : List ℕ) (at : ℕ) (names : List (List ℕ)) (place : ℕ) (stop : Stop)
    → RefusesScript l.script old name at stop → StopCounts old new (name ∷ []) [] stop → Refuses l old new name at names place stop
refused-script l old new name at names place (Own (TooLong word)) why counts = inl why
refused-script l old new name at names place (Own (BadScript line cause)) why counts = why
refused-script l old new name at names place (Own answer) why counts = absurd why
refused-script l old new name at names place (Read fault) why counts = inl counts
refused-script l old new name at names place (Write fault) why counts = absurd why
refused-script l old new name at names place (Say fault) why counts = absurd why
refused-script l old new name at names place NoMemory why counts = why

-- it was, and a file was not
pub refused-files : (l : Limits) (old mid new : FolderState) (name : List ℕ) (at : ℕ) (names : List (List ℕ)) (place : ℕ)
    (script : ScriptValue) (stop : Stop) → OnlyReads old mid → CountsStand old mid → ReadsScript l.script old name script
    → RefusesLengths l.file mid new place names stop → Refuses l old new name at names place stop
refused-files l old mid new name at names place script (Own answer) r stand reads long =
    subst (RefusesOwn l old name at names place) (sym long.answer_is)
    (inr (record { script = script; reads = reads; first = first-kept old mid names l.file place long.word r long.first }))
refused-files l old mid new name at names place script (Read fault) r stand reads why =
    inr (record { script = script; reads = reads; fails = fails-kept old mid new names l.file fault r stand why })
refused-files l old mid new name at names place script (Write fault) r stand reads why = absurd why
refused-files l old mid new name at names place script (Say fault) r stand reads why = absurd why
refused-files l old mid new name at names place script NoMemory r stand reads why = absurd why
