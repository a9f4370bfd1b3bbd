-- Both ends speak, and a turn is made.
use Rattle.line_world.proofs.Cited.{◌≡◌, ◌≢◌, ℕ, ◌+◌, true, List, ◌∷◌, length, arith, refl, sym, ◌∙◌, subst, Option, Some, None, Ok}
use Rattle.line_world.proofs.Cited.{option_map, Check, IsSendable, Heard, Chance, Sent, SamplesAreCarried, OneIsCarried, Written, Wire}
use Rattle.line_world.proofs.Cited.{HeardIn, link_of, longest_of, slot_symbols, ScriptsMayPlay, ScriptsHaveDelays, Carried, RunFault}
use Rattle.line_world.proofs.Cited.{LinesWait, HaveArrived, ArePut, and_more, LinkStands, HearsThese, Overhears, TalliesHeard, HasGone}
use Rattle.line_world.proofs.Cited.{AddsPart, SpeaksLast, served, turn_in, Tallies, IsWriting, FaultCounts, Lines, Modems, Counts}
use Rattle.line_world.proofs.Cited.{given_break, check_of, Said, is_closed, Outcome, TurnIs, Accounts, Spoken, Turn, LastTurn, spoken}
use Rattle.line_world.proofs.Cited.{turn_text, IsInLimits, ScriptValue, delay_of, FolderState, Appended, PartlyAppended, CountsStand, Both}
use Rattle.line_world.proofs.Cited.{of, LinkFault, Role, Originator, Answerer}
use Rattle.sample_line.specs.Signals.{IsCodable}
use Rattle.shared_terms.specs.declared.fault.LinkFault.TheVariants as faults
use Rattle.link_run.specs.Run.{GoingTurn, BrokenTurn, IsBroken, BreaksAt, SpeaksAt, says_at}
use Rattle.link_run.specs.Run.{said_at}
use Rattle.link_run.specs.Counts.{CountsByNumber, CountsOn, next_count, again_in, sequence_in}
use Rattle.link_run.specs.Laws.{IsNamed}
use Rattle.line_run.specs.Scripted.{SlotsAreCodable}
use Rattle.line_world.specs.declared.link.Link.{Link}
use Rattle.line_world.specs.Link.{SaysBoth}
use Rattle.line_world.specs.Lines.{AreCodable}
use Rattle.stations.specs.Texts.{lines_of}
use Rattle.line_world.specs.Modems.{IsWireOf}
use Rattle.line_world.specs.Mid.{IsToSpeak}
use Rattle.line_world.proofs.Hearing.{heard-in, none-sent, runs-over}
use Rattle.line_world.proofs.Serving.{hears-in, served-is}
use Rattle.line_world.specs.Faults.{fault_named}

-- ---- what is made of what both say

abbrev pub spoken_by : Said → Said → Both (Option Spoken)
spoken_by orig answ = record { orig = Some (spoken orig); answ = Some (spoken answ) }

abbrev pub ends_of : Said → Said → Accounts
ends_of orig answ = record { orig = orig.account; answ = answ.account }

pub record SpokenTurn (c : Wire) (files : Both (List ℕ)) (ts : List Turn) (ends : Accounts) (heard : Both Heard) (mid : Accounts)
    (from_orig from_answ : Sent) (l : Link) : Type 0 where
  pub orig : Said
  pub answ : Said
  pub orig_sent : from_orig ≡ orig.sent
  pub answ_sent : from_answ ≡ answ.sent
  pub going : GoingTurn (link_of c.script files) ts ends (turn_in heard ends mid (spoken_by orig answ)) (ends_of orig answ)
  pub mid_is : going.mid ≡ mid
  pub heard_in : HeardIn c ts (turn_in heard ends mid (spoken_by orig answ))
  pub stands : LinkStands l files (ends_of orig answ)

pub spoken-turn : {script : ScriptValue} {dlci : ℕ} {m : Modems} {c : Wire} {files : Both (List ℕ)} {ts : List Turn} {ends : Accounts}
    {heard : Both Heard} {mid : Accounts} (from_orig from_answ : Sent) (l : Link)
    → IsWireOf c script dlci → IsToSpeak m c files ts ends heard mid
    → SaysBoth l files (link_of script files) m.turn (served c.script files (length ts) mid) from_orig from_answ
    → SpokenTurn c files ts ends heard mid from_orig from_answ l
spoken-turn {script} {dlci} {m} {c} {files} {ts} {ends} {heard} {mid} from_orig from_answ l is h s = record {
  orig = s.orig;
  answ = s.answ;
  orig_sent = s.orig_sent;
  answ_sent = s.answ_sent;
  going = record {
    mid = mid;
    hearing = hears-in c files ts ends mid heard (spoken_by s.orig s.answ) h.stands.overhears;
    going = h.going;
    speaking = says;
  };
  mid_is = refl;
  heard_in = heard-in c files ts ends heard mid (spoken_by s.orig s.answ) h.stands.overhears;
  stands = s.stands;
}
  where
    on-says : (role : Role) (said : Said) → says_at (link_of script files) m.turn (served c.script files (length ts) mid) role ≡ Ok said
        → said_at (link_of c.script files) (length ts) mid role ≡ Ok said
    on-says role said e = grind (arith, served-is)

    says : (role : Role) → SpeaksAt (said_at (link_of c.script files) (length ts) mid role)
        (of role (turn_in heard ends mid (spoken_by s.orig s.answ))) (of role (ends_of s.orig s.answ))
    says Originator = record { said = s.orig; says = on-says Originator s.orig s.orig_says; sent_is = refl; after_is = refl }
    says Answerer = record { said = s.answ; says = on-says Answerer s.answ s.answ_says; sent_is = refl; after_is = refl }

-- an end that breaks does so by a run's definition
broken-so : (c : Wire) (files : Both (List ℕ)) (number turn : ℕ) (mid : Accounts) (role : Role) (fault : LinkFault) → turn ≡ number
    → BreaksAt (link_of c.script files) turn (served c.script files number mid) role fault
    → IsBroken (link_of c.script files) number mid role fault
broken-so c files number turn mid role fault e h = grind (arith, served-is)

silent : (heard : Both Heard) (ends mid : Accounts) (role : Role) → (of role (turn_in heard ends mid none-sent)).sent ≡ None
silent heard ends mid role = grind (arith)

pub broken-turn : {script : ScriptValue} {dlci : ℕ} {m : Modems} {c : Wire} {files : Both (List ℕ)} {ts : List Turn} {ends : Accounts}
    {heard : Both Heard} {mid : Accounts} (role : Role) (fault : LinkFault) → IsWireOf c script dlci → IsToSpeak m c files ts ends heard mid
    → BreaksAt (link_of script files) m.turn (served c.script files (length ts) mid) role fault
    → BrokenTurn (link_of c.script files) ts ends (turn_in heard ends mid none-sent) mid role fault
broken-turn {m = m} {c = c} {files = files} {ts = ts} {ends = ends} {heard = heard} {mid = mid} role fault is h b = record {
  hearing = hears-in c files ts ends mid heard none-sent h.stands.overhears;
  going = h.going;
  broken = broken-so c files (length ts) m.turn mid role fault h.stands.turn
      (subst (λ x. BreaksAt (link_of x files) m.turn (served c.script files (length ts) mid) role fault) (sym is.script_is) b);
  silent = silent heard ends mid;
}

-- both ends hear in it what was heard
pub hears-these : (heard : Both Heard) (ends mid : Accounts) (sent : Both (Option Spoken)) → HearsThese heard (turn_in heard ends mid sent)
hears-these heard ends mid sent role = grind (arith)

-- ---- its text

pub text-is : (number : ℕ) (ts : List Turn) (ends mid : Accounts) (heard : Both Heard) (given : Both (Option ℕ))
    (sent : Option (Both Sent)) (sents : Both (Option Spoken))
    → heard.orig ≢ Chance → heard.answ ≢ Chance → number ≡ length ts → given.orig ≡ given_break mid.orig → given.answ ≡ given_break mid.answ
    → option_map (of Originator) sent ≡ option_map (λ (slot : Spoken). slot.sent) sents.orig
    → option_map (of Answerer) sent ≡ option_map (λ (slot : Spoken). slot.sent) sents.answ
    → lines_of number heard given sent ≡ turn_text (length ts) (turn_in heard ends mid sents)
text-is number ts ends mid heard given sent sents wo wa n go ga so sa = grind (arith)

-- ---- what is sent can be coded

pub all-codable : SlotsAreCodable
    → (c : Wire) (files : Both (List ℕ)) (ts : List Turn) (ends : Accounts) (heard : Both Heard) (mid : Accounts)
    (from_orig from_answ : Sent) (sent : Both Sent)
    (k : Link) (l : Lines) (links : ℕ) (streams : Both (List Carried)) (dlci : ℕ) (checks : Both Check)
    → c.symbols ≡ slot_symbols (longest_of c.script) → IsInLimits c.script → Overhears c files ts ends heard mid
    → (t : SpokenTurn c files ts ends heard mid from_orig from_answ k) → HaveArrived l c links streams
    → IsSendable from_orig → IsSendable from_answ → sent.orig ≡ from_orig → sent.answ ≡ from_answ
    → checks.orig ≡ check_of t.orig.account → checks.answ ≡ check_of t.answ.account → AreCodable l sent checks dlci
all-codable law c files ts ends heard mid from_orig from_answ sent k l links streams dlci checks size limits o t h sendo senda eo ea co ca
    Originator =
    let d = h.coders Originator in
    let is : IsCodable (check_of t.orig.account) Originator dlci (slot_symbols (longest_of c.script)) l.orig.coder.writer.phase
    t.orig.sent =
    law c files ts ends (turn_in heard ends mid (spoken_by t.orig t.answ))
    (ends_of t.orig t.answ) limits o.run t.heard_in t.going Originator (spoken t.orig) dlci
    l.orig.coder.writer.phase d.stands.writer.low refl (subst IsSendable t.orig_sent sendo) in
    rw (co, d.symbols, size, eo, t.orig_sent) is
all-codable law c files ts ends heard mid from_orig from_answ sent k l links streams dlci checks size limits o t h sendo senda eo ea co ca
    Answerer =
    let d = h.coders Answerer in
    let is : IsCodable (check_of t.answ.account) Answerer dlci (slot_symbols (longest_of c.script)) l.answ.coder.writer.phase t.answ.sent =
    law c files ts ends (turn_in heard ends mid (spoken_by t.orig t.answ))
    (ends_of t.orig t.answ) limits o.run t.heard_in t.going Answerer (spoken t.answ) dlci
    l.answ.coder.writer.phase d.stands.writer.low refl (subst IsSendable t.answ_sent senda) in
    rw (ca, d.symbols, size, ea, t.answ_sent) is

-- as one slot more behind each
abbrev pub put_by : ℕ → Said → Said → Both Carried
put_by dlci orig answ = record { orig = record { dlci = dlci; spoken = spoken orig }; answ = record { dlci = dlci; spoken = spoken answ } }

pub are-put : (dlci : ℕ) (orig answ : Said) (sent : Both Sent) (checks : Both Check) → orig.sent ≡ sent.orig → answ.sent ≡ sent.answ
    → check_of orig.account ≡ checks.orig → check_of answ.account ≡ checks.answ → ArePut (put_by dlci orig answ) sent checks dlci
are-put dlci orig answ sent checks so sa co ca role = grind (arith)

-- ---- the run goes on

pub record GoingLaws : Type 0 where
  pub play : ScriptsMayPlay
  pub delays : ScriptsHaveDelays
  pub carried : SamplesAreCarried
  pub one : OneIsCarried
  pub counted : CountsByNumber

-- a tally counted what both sent
pub record CountsSent (old new : Counts) (from_orig from_answ : Sent) : Type 0 where
  pub lost : new.lost ≡ old.lost
  pub again : new.again ≡ old.again + again_in (sequence_in from_orig) old.orig + again_in (sequence_in from_answ) old.answ
  pub orig : new.orig ≡ next_count (sequence_in from_orig) old.orig
  pub answ : new.answ ≡ next_count (sequence_in from_answ) old.answ

pub tallies-on : GoingLaws → (c : Wire) (files : Both (List ℕ)) (ts : List Turn) (ends : Accounts) (heard : Both Heard) (mid : Accounts)
    (from_orig from_answ : Sent) (k : Link) (old new : Counts) → IsInLimits c.script → Overhears c files ts ends heard mid
    → (t : SpokenTurn c files ts ends heard mid from_orig from_answ k)
    → TalliesHeard old ts ends heard → CountsSent old new from_orig from_answ
    → Tallies new (turn_in heard ends mid (spoken_by t.orig t.answ) ∷ ts) (ends_of t.orig t.answ)
tallies-on laws c files ts ends heard mid from_orig from_answ k old new limits o t h n =
    let turn : Turn = turn_in heard ends mid (spoken_by t.orig t.answ) in
    let carries = laws.one c ts turn t.heard_in in
    let over = runs-over laws.play laws.delays laws.carried c files ts ends limits o.run in
    let counts = laws.counted (link_of c.script files) (delay_of c.script) ts ends turn (ends_of t.orig t.answ) over carries t.going in
    let co : CountsOn Originator ts ends turn (ends_of t.orig t.answ) = counts Originator in
    let ca : CountsOn Answerer ts ends turn (ends_of t.orig t.answ) = counts Answerer in
    let ao : again_in (sequence_in from_orig) old.orig ≡ again_in (sequence_in t.orig.sent) ends.orig.outgoing.high =
    λ i. again_in (sequence_in (t.orig_sent i)) (h.orig i) in
    let aa : again_in (sequence_in from_answ) old.answ ≡ again_in (sequence_in t.answ.sent) ends.answ.outgoing.high =
    λ i. again_in (sequence_in (t.answ_sent i)) (h.answ i) in
    record {
      lost = n.lost ∙ h.lost;
      again = omega (arith, n.again, h.again, ao, aa, co.again, ca.again);
      orig = n.orig ∙ (λ i. next_count (sequence_in (t.orig_sent i)) (h.orig i)) ∙ sym co.high;
      answ = n.answ ∙ (λ i. next_count (sequence_in (t.answ_sent i)) (h.answ i)) ∙ sym ca.high;
    }

pub goes-on : GoingLaws → (c : Wire) (old : Counts) (m : Modems) (l : Lines) (links : ℕ) (streams : Both (List Carried))
    (f new : FolderState) (n : Written) (files : Both (List ℕ)) (ts : List Turn) (ends : Accounts) (heard : Both Heard) (mid : Accounts)
    (from_orig from_answ : Sent) → IsInLimits c.script → m.turn ≡ length ts + 1 → m.spoke ≡ true
    → Overhears c files ts ends heard mid → (t : SpokenTurn c files ts ends heard mid from_orig from_answ m.link)
    → TalliesHeard old ts ends heard → CountsSent old m.tally from_orig from_answ
    → LinesWait l c links (and_more streams (put_by c.dlci t.orig t.answ))
    → Appended f new n.trace (turn_text (length ts) (turn_in heard ends mid (spoken_by t.orig t.answ)))
    → HasGone m l c links streams f new n files ts ends mid
goes-on laws c old m l links streams f new n files ts ends heard mid from_orig from_answ limits number spoke o t tally counts lines trace =
    let turn : Turn = turn_in heard ends mid (spoken_by t.orig t.answ) in
    let after : Accounts = ends_of t.orig t.answ in
    record {
      turn = turn;
      after = after;
      run = o.run;
      going = t.going;
      mid_is = t.mid_is;
      heard = t.heard_in;
      modems = record {
        run = record { run = (ends, o.run.run, t.going); heard = (t.heard_in, o.run.heard) };
        link = t.stands;
        turn = omega (arith, number);
        tally = tallies-on laws c files ts ends heard mid from_orig from_answ m.link old m.tally limits o t tally counts;
        spoke = spoke;
      };
      lines = lines;
      trace = trace;
    }

-- ---- the run ends as an end breaks

pub ends-so : (c : Wire) (f new : FolderState) (n : Written) (files : Both (List ℕ)) (ts : List Turn) (ends : Accounts)
    (heard : Both Heard) (mid : Accounts) (turn : ℕ) (role : Role)
    (fault : LinkFault) → turn ≡ length ts → IsNamed role fault → Overhears c files ts ends heard mid
    → BrokenTurn (link_of c.script files) ts ends (turn_in heard ends mid none-sent) mid role fault
    → Appended f new n.trace (turn_text (length ts) (turn_in heard ends mid none-sent))
    → SpeaksLast c f new n files ts ends heard mid (fault_named turn role fault)
ends-so c f new n files ts ends heard mid turn role other number named o b trace = grind (arith, none-sent, hears-these, heard-in)

-- such an end is no fault of the folder
pub counts-so : (f new : FolderState) (n : Written) (turn : ℕ) (role : Role) (fault : LinkFault) → IsNamed role fault → CountsStand f new
    → FaultCounts f new n (fault_named turn role fault)
counts-so f new n turn role other named stand = grind (arith)

-- ---- the folder doesn't take the lines

pub stops-so : (c : Wire) (f new : FolderState) (n : Written) (files : Both (List ℕ)) (ts : List Turn) (ends : Accounts)
    (heard : Both Heard) (mid : Accounts) (fault : RunFault) → IsWriting fault
    → AddsPart c f new n files ts ends heard mid → SpeaksLast c f new n files ts ends heard mid fault
stops-so c f new n files ts ends heard mid fault w h = grind (arith)

pub adds-part : (c : Wire) (f new : FolderState) (n : Written) (files : Both (List ℕ)) (ts : List Turn) (ends : Accounts)
    (heard : Both Heard) (mid : Accounts) (sents : Both (Option Spoken)) (outcome : Outcome) → Overhears c files ts ends heard mid
    → TurnIs (link_of c.script files) ts ends (turn_in heard ends mid sents) mid outcome
    → PartlyAppended f new n.trace (turn_text (length ts) (turn_in heard ends mid sents)) → AddsPart c f new n files ts ends heard mid
adds-part c f new n files ts ends heard mid sents outcome o is trace = grind (arith, hears-these, heard-in)

-- ---- the run is done

pub last-turn : (c : Wire) (files : Both (List ℕ)) (ts : List Turn) (ends : Accounts) (heard : Both Heard) (mid : Accounts)
    → Overhears c files ts ends heard mid → is_closed mid.orig.phase ≡ true → LastTurn ts ends (turn_in heard ends mid none-sent) mid
last-turn c files ts ends heard mid o closed = assumption (hears-in c files ts ends mid heard none-sent o, silent heard ends mid)
