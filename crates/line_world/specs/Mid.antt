-- A turn of a link in its middle: both ends have heard, and the rest of the turn is to come.
use Rattle.std.specs.Prelude.{◌≡◌, ◌≢◌, ℕ, ◌+◌, false, ◌∷◌, List, length, Option, Result, Ok, Err}
use Rattle.std.specs.Option.{MatchOption}
use Rattle.outside_calls.specs.Folder.{FolderState, Appended, PartlyAppended}
use Rattle.outside_calls.specs.Outputs.{AddEach}
use Rattle.shared_terms.specs.declared.role.Role.{Role}
use Rattle.shared_terms.specs.Role.{other}
use Rattle.shared_terms.specs.Both.{Both, of}
use Rattle.noise_script.specs.Script.{ScriptValue}
use Rattle.lapm_frames.specs.declared.heard.Heard.{Heard}
use Rattle.lapm_frames.specs.declared.heard.Heard.TheVariants.{Chance}
use Rattle.link_account.specs.Account.{Account, after_given, given_break, check_of}
use Rattle.link_account.specs.Hear.{hear}
use Rattle.link_run.specs.End.{delivered, offered, is_closed}
use Rattle.link_run.specs.Run.{Accounts, Side, Spoken, Turn, GoingTurn, arrival}
use Rattle.link_run.specs.Outcomes.{Outcome}
use Rattle.link_run.specs.Trace.{turn_text}
use Rattle.link_run.specs.Counts.{lost_in, lost_slots, sent_again}
use Rattle.line_run.specs.Sampled.{Wire, IsHeardOf, HeardIn, LineRun, EndsLine}
use Rattle.line_run.specs.Ends.{ByEnd}
use Rattle.line_run.specs.Scripted.{link_of}
use Rattle.line_world.specs.declared.directions.LineEnd.{LineEnd}
use Rattle.turn_bound.specs.Limits.{file_limit}
use Rattle.stations.specs.Station.{ReadsOn}
use Rattle.line_run.specs.Names.{Written, outputs_of}
use Rattle.line_world.specs.Link.{LinkStands, both_ends, octets_of, served_on}
use Rattle.line_run.specs.Stream.{Carried, and_sent}
use Rattle.line_world.specs.Faults.{end_of}
use Rattle.line_run.specs.Faults.{fault_end}
use Rattle.line_world.specs.Lines.{LinesWait, HaveArrived}
use Rattle.line_world.specs.declared.lines.Lines.{Lines}
use Rattle.line_world.specs.declared.modems.Modems.{Modems}
use Rattle.line_world.specs.declared.tally.Counts.{Counts}
use Rattle.line_run.specs.declared.fault.RunFault.{RunFault}
use Rattle.line_run.specs.declared.fault.RunFault.TheVariants as run_faults
use Rattle.line_world.specs.Modems.{ModemsAfter}
use Rattle.line_world.specs.Turn.{MakesTurn, HearsNone}

-- What both ends hear in the turn after these, and are once they have heard.
pub record Overhears (c : Wire) (files : Both (List ℕ)) (ts : List Turn) (ends : Accounts) (heard : Both Heard)
    (mid : Accounts) : Type 0 where
  pub run : LineRun c (link_of c.script files) ts ends
  pub heard_of : (role : Role) → IsHeardOf c (other role) ts (check_of (of role ends)) (of role heard)
  pub well : (role : Role) → of role heard ≢ Chance
  pub hears : (role : Role) → hear (length ts) (arrival (of role heard)) (of role ends) ≡ Ok (of role mid)

-- an end's side of that turn
abbrev pub side_of : Heard → Account → Account → Option Spoken → Side
side_of heard before mid sent = record { heard = heard; check = check_of before; sent = sent; given = given_break mid }

-- the turn, where this is sent in it
abbrev pub turn_in : Both Heard → Accounts → Accounts → Both (Option Spoken) → Turn
turn_in heard ends mid sent = record {
  orig = side_of heard.orig ends.orig mid.orig sent.orig;
  answ = side_of heard.answ ends.answ mid.answ sent.answ;
}

-- what both took is handed over
abbrev pub handed : Accounts → Accounts
handed mid = both_ends after_given (both_ends delivered mid)

-- and both are offered what they want of their users' files
abbrev pub supplied : Both (List ℕ) → Accounts → Accounts
supplied files ends = record { orig = offered files.orig ends.orig; answ = offered files.answ ends.answ }

-- as both are when they are to speak
abbrev pub served : ScriptValue → Both (List ℕ) → ℕ → Accounts → Accounts
served script files turn mid = served_on script turn (supplied files (handed mid))

-- A tally of these turns, and of what is heard in the next one.
pub record TalliesHeard (t : Counts) (ts : List Turn) (ends : Accounts) (heard : Both Heard) : Type 0 where
  pub lost : t.lost ≡ lost_slots ts + lost_in heard.orig + lost_in heard.answ
  pub again : t.again ≡ sent_again ts
  pub orig : t.orig ≡ ends.orig.outgoing.high
  pub answ : t.answ ≡ ends.answ.outgoing.high

-- Ends in the turn after these, which by now are these.
pub record InTurn (m : Modems) (c : Wire) (files : Both (List ℕ)) (ts : List Turn) (ends : Accounts) (heard : Both Heard) (mid now : Accounts) : Type 0 where
  pub overhears : Overhears c files ts ends heard mid
  pub link : LinkStands m.link files now
  pub turn : m.turn ≡ length ts
  pub tally : TalliesHeard m.tally ts ends heard
  pub checks : (role : Role) → of role m.heard_by ≡ check_of (of role mid)

-- the call left all but the ends as it was
pub record SameBeside (old new : Modems) : Type 0 where
  pub dlci : new.dlci ≡ old.dlci
  pub turn : new.turn ≡ old.turn
  pub tally : new.tally ≡ old.tally
  pub heard_by : new.heard_by ≡ old.heard_by
  pub spoke : new.spoke ≡ old.spoke

-- both ends have heard
pub record HasHeard (m : Modems) (l : Lines) (c : Wire) (links : ℕ) (streams : Both (List Carried)) (files : Both (List ℕ)) (ts : List Turn)
    (ends : Accounts) (heard : Both Heard) : Type 0 where
  pub mid : Accounts
  pub stands : InTurn m c files ts ends heard mid mid
  pub lines : HaveArrived l c links streams

-- what hearing answers
abbrev pub HearsTurn : Modems → Lines → Wire → ℕ → Both (List Carried) → Both (List ℕ) → List Turn → Accounts → Result (Both Heard) LineEnd → Type 0
HearsTurn m l c links streams files ts ends (Ok heard) = HasHeard m l c links streams files ts ends heard
HearsTurn m l c links streams files ts ends (Err end) = EndsLine c ts ends (end_of end) × HearsNone m ts

-- What both ends took is handed over, segments and the lengths of breaks.
pub record HandsOver (m : Modems) (c : Wire) (old new : FolderState) (n : Written) (files : Both (List ℕ)) (ts : List Turn) (ends : Accounts)
    (heard : Both Heard) (mid : Accounts)
    (given : Both (Option ℕ)) : Type 0 where
  pub stands : InTurn m c files ts ends heard mid (handed mid)
  pub orig_given : given.orig ≡ given_break mid.orig
  pub answ_given : given.answ ≡ given_break mid.answ
  pub delivered : AddEach old new (outputs_of n) (octets_of mid)

-- Both files were read on, as far as the ends want them.
pub record ReadsBoth (f : FolderState) (n : Written) (files : Both (List ℕ)) (ends : Accounts) (others : Both (List ℕ)) : Type 0 where
  pub orig : ReadsOn f n.orig file_limit files.orig ends.orig others.orig
  pub answ : ReadsOn f n.answ file_limit files.answ ends.answ others.answ

-- Both ends are served, and are to speak.
pub record Serves (m : Modems) (c : Wire) (f : FolderState) (n : Written) (files : Both (List ℕ)) (ts : List Turn) (ends : Accounts)
    (heard : Both Heard) (mid : Accounts) : Type 0 where
  pub others : Both (List ℕ)
  pub reads : ReadsBoth f n files (handed mid) others
  pub stands : InTurn m c others ts ends heard mid (served c.script others (length ts) mid)

-- In this turn both ends hear these.
abbrev pub HearsThese : Both Heard → Turn → Type 0
HearsThese heard t = (role : Role) → (of role t).heard ≡ of role heard

-- The turn after these is made, with that outcome, and its lines stand behind the trace.
pub record AddsLines (c : Wire) (old new : FolderState) (n : Written) (files : Both (List ℕ)) (ts : List Turn) (ends : Accounts)
    (heard : Both Heard) (mid : Accounts) (outcome : Outcome) : Type 0 where
  pub turn : Turn
  pub hears : HearsThese heard turn
  pub makes : MakesTurn c files ts ends turn mid outcome
  pub trace : Appended old new n.trace (turn_text (length ts) turn)

-- A part of its lines does, whatever it comes to.
pub record AddsPart (c : Wire) (old new : FolderState) (n : Written) (files : Both (List ℕ)) (ts : List Turn)
    (ends : Accounts) (heard : Both Heard) (mid : Accounts) : Type 0 where
  pub outcome : Outcome
  pub turn : Turn
  pub hears : HearsThese heard turn
  pub makes : MakesTurn c files ts ends turn mid outcome
  pub trace : PartlyAppended old new n.trace (turn_text (length ts) turn)

-- The run goes on.
pub record HasGone (m : Modems) (l : Lines) (c : Wire) (links : ℕ) (streams : Both (List Carried)) (old new : FolderState) (n : Written) (files : Both (List ℕ)) (ts : List Turn)
    (ends mid : Accounts) : Type 0 where
  pub turn : Turn
  pub after : Accounts
  pub run : LineRun c (link_of c.script files) ts ends
  pub going : GoingTurn (link_of c.script files) ts ends turn after
  pub mid_is : going.mid ≡ mid
  pub heard : HeardIn c ts turn
  pub modems : ModemsAfter m c files (turn ∷ ts) after
  pub lines : LinesWait l c links (and_sent streams c.dlci turn)
  pub trace : Appended old new n.trace (turn_text (length ts) turn)

-- why the run ends as the ends speak
abbrev pub SpeaksLast : Wire → FolderState → FolderState → Written → Both (List ℕ) → List Turn → Accounts → Both Heard → Accounts → RunFault → Type 0
SpeaksLast c old new n files ts ends heard mid run_faults.WriteFault = AddsPart c old new n files ts ends heard mid
SpeaksLast c old new n files ts ends heard mid run_faults.NoMemory = AddsPart c old new n files ts ends heard mid
SpeaksLast c old new n files ts ends heard mid fault = MatchOption (fault_end fault) ⊥
    (ByEnd (λ outcome turn. (turn ≡ length ts) × AddsLines c old new n files ts ends heard mid outcome) (λ role symbol. ⊥) (λ role turn. ⊥))

-- what speaking answers
abbrev pub SpeaksTurn : Modems → Lines → Wire → ℕ → Both (List Carried) → FolderState → FolderState → Written → Both (List ℕ) → List Turn → Accounts → Both Heard → Accounts → Result (Unit {0}) RunFault
    → Type 0
SpeaksTurn m l c links streams old new n files ts ends heard mid (Ok done) = HasGone m l c links streams old new n files ts ends mid
SpeaksTurn m l c links streams old new n files ts ends heard mid (Err fault) = SpeaksLast c old new n files ts ends heard mid fault

-- Both ends are to speak, in a turn in which the originator isn't closed.
pub record IsToSpeak (m : Modems) (c : Wire) (files : Both (List ℕ)) (ts : List Turn) (ends : Accounts) (heard : Both Heard) (mid : Accounts) : Type 0 where
  pub stands : InTurn m c files ts ends heard mid (served c.script files (length ts) mid)
  pub going : is_closed mid.orig.phase ≡ false
