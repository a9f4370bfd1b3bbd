-- What is heard of a line that a decoder follows.
use Rattle.line_run.proofs.Cited.{ℕ, ◌+◌, ◌*◌, ◌<◌, length, arith, IsFaintBefore, HeardIsSentWhere, NeverLostWhere, PassesUnhinderedWhere}
use Rattle.line_run.proofs.Cited.{ReceivedIsSentWhere, SentIsReceivedWhere, DisplacesNoneBefore, ScriptValue, sender_of, Role}
use Rattle.line_run.proofs.Patterns.{AreSeen}
use Rattle.line_run.proofs.Settled.{LeavesTime}
use Rattle.line_run.proofs.Following.{Follows, none-within}
use Rattle.line_run.proofs.Undisplaced.{undisplaced-followed}
use Rattle.line_run.proofs.Faint.{faint-followed}
use Rattle.line_run.proofs.Received.{received-sent, sent-received, heard-sent, passes-sent}

-- Where this holds a decoder follows with the lag, and slots of more symbols than so many leave the time for it.
pub record IsFollowed (Holds : ScriptValue → Role → ℕ → Type 0) (most lag : ℕ) : Type 0 where
  pub follows : (script : ScriptValue) (sender : Role) (count : ℕ) → Holds script sender count → Follows lag script sender count
  pub time : (symbols : ℕ) → most < symbols → LeavesTime lag (4 * symbols)

pub never-lost-where : (Holds : ScriptValue → Role → ℕ → Type 0) (lag : ℕ)
    → ((script : ScriptValue) (sender : Role) (count : ℕ) → Holds script sender count → Follows lag script sender count)
    → NeverLostWhere Holds
never-lost-where Holds lag follows sender script count before bits symbol h few l =
    none-within lag sender script count before bits symbol (follows script sender count h) few l

pub received-where : (Holds : ScriptValue → Role → ℕ → Type 0) (most lag : ℕ) → IsFollowed Holds most lag → AreSeen
    → ReceivedIsSentWhere Holds most
received-where Holds most lag f laws script check hearing sender dlci symbols passed s before upto octets patterns h long fit is agree old
    new r =
    received-sent laws lag script check hearing sender dlci symbols passed s before upto octets patterns
    (f.follows script sender (symbols * (length passed + 1)) h) (f.time symbols long) fit is agree old new r

pub sent-where : (Holds : ScriptValue → Role → ℕ → Type 0) (most lag : ℕ) → IsFollowed Holds most lag → AreSeen
    → SentIsReceivedWhere Holds most
sent-where Holds most lag f laws script check hearing sender dlci symbols passed s before upto h long fit is agree old new =
    sent-received laws lag script check hearing sender dlci symbols passed s before upto
    (f.follows script sender (symbols * (length passed + 1)) h) (f.time symbols long) fit is agree old new

pub heard-where : (Holds : ScriptValue → Role → ℕ → Type 0) (most lag : ℕ) → IsFollowed Holds most lag → AreSeen
    → HeardIsSentWhere Holds most
heard-where Holds most lag f laws line script passed signal check hearing dlci loses s heard h long fit e is agree p =
    heard-sent laws lag line script passed signal check hearing dlci loses s heard
    (f.follows script (sender_of line) (line.symbols * (length passed + 1)) h) (f.time line.symbols long) fit e is agree p

pub passes-where : (Holds : ScriptValue → Role → ℕ → Type 0) (most lag : ℕ) → IsFollowed Holds most lag → AreSeen
    → PassesUnhinderedWhere Holds most
passes-where Holds most lag f laws line script passed signal check hearing dlci loses s result h long fit e is agree p =
    passes-sent laws lag line script passed signal check hearing dlci loses s result
    (f.follows script (sender_of line) (line.symbols * (length passed + 1)) h) (f.time line.symbols long) fit e is agree p

-- where no symbol is displaced, and where noise is faint

pub undisplaced : IsFollowed DisplacesNoneBefore 138 96
undisplaced = grind (arith, undisplaced-followed)

pub faint : IsFollowed IsFaintBefore 215 504
faint = grind (arith, faint-followed)
