-- The steps of a turn.
use Rattle.stations.proofs.Names.{◌≡◌, inl, inr, ◌∙◌, ℕ, ◌+◌, ◌≤◌, Bool, true, false, not, ◌&&◌, ◌||◌, List, [], ◌∷◌, length, refl, sym, ap}
use Rattle.stations.proofs.Names.{subst, arith, Option, Some, None, Result, Ok, Err, false≢true, concat, option_map, HasHeard, Arrived}
use Rattle.stations.proofs.Names.{Sent, trace_line, Account, is_done, break_waits, given_break, hear, Said, speak, Setup, LoneTurn}
use Rattle.stations.proofs.Names.{hangs_up, lone_served, deliveries, is_closed, is_ready, speaks_alone, spoken, AddEach-next, AddPart-next}
use Rattle.stations.proofs.Names.{AddPart-none, GoesOn-refl, FolderState, GoesOn, OnlyWrites, Adds, Appended, PartlyAppended, OnlyPuts}
use Rattle.stations.proofs.Names.{AddEach, is_originator, other, LinkFault, Role, Originator, Answerer, IsHeard, stream, slot_bits}
use Rattle.stations.proofs.Names.{IsReading, handed, served_with, IsWriting, Past, Going, Closed, Broken, party_of, over, Outcome}
use Rattle.stations.proofs.Names.{PeerNames, StaysKnown, file_limit, outputs_of, EndsBy, Stands, HearsAs, SpeaksAs, Supplies, SingleFault}
use Rattle.stations.proofs.Names.{Station, IsAllowed}
use Rattle.std.specs.Prelude.{is_ok}
use Rattle.xid_params.specs.Terms.{default_offer}
use Rattle.link_run.specs.Alone.{LoneGoing, LoneNext, Goes_on, Is_last, Is_faulty, Is_broken}
use Rattle.link_run.specs.Alone.{LoneRunsByWhatIsReadOn, LoneRunsKeepTheirSetup, EachLoneTurnIsMade}
use Rattle.stations.specs.OneEnd.Peer.{PeerRun, PeerTurn, heard_as, turn_line}
use Rattle.stations.specs.OneEnd.Turn.{Makes, Stops, StopsInReading, GoesOnBy}
use Rattle.stations.specs.OneEnd.Mid.{InTurn, BreaksOff, Serves, AddsLine, AddsPart, HasGone, EndsLine}
use Rattle.stations.proofs.OneEnd.Folders.{IsApart, got-only, trace-only, stays-known}
use Rattle.stations.specs.declared.one_end.single.Single.{Single}
use Rattle.stations.specs.declared.one_end.step.SingleFault.TheVariants as faults
use Rattle.stations.specs.declared.one_end.step.SingleStep.{SingleStep}
use Rattle.stations.specs.declared.one_end.step.SingleStep.TheVariants as steps
use Rattle.link_run.proofs.Overhearing.{same-ok}

-- ---- the end

pub allowed : IsAllowed default_offer
allowed = grind (arith)

phase-handed : (mid : Account) → (handed mid).phase ≡ mid.phase
phase-handed mid = grind (arith)

role-kept : LoneRunsKeepTheirSetup → (s : Single) (p : Past) (slot : List ℕ) (arrived : Arrived) (mid now : Account)
    → InTurn s p slot arrived mid now → is_originator mid.setup.role ≡ is_originator s.role
role-kept law s p slot arrived mid now h =
    ap (λ (x : Setup). is_originator x.role) (law (party_of s.role p.file) p.turns p.account arrived mid h.run.run h.hears)

pub hangs-originator : LoneRunsKeepTheirSetup → (s : Single) (p : Past) (slot : List ℕ) (arrived : Arrived) (mid : Account) (closed : Bool)
    → InTurn s p slot arrived mid (handed mid) → s.role ≡ Originator → closed ≡ is_closed (handed mid).phase → closed ≡ hangs_up mid
hangs-originator law s p slot arrived mid closed h role e =
    let is : is_originator mid.setup.role ≡ true = role-kept law s p slot arrived mid (handed mid) h ∙ ap is_originator role in
    e ∙ ap is_closed (phase-handed mid) ∙ sym (ap (λ (b : Bool). b && is_closed mid.phase) is)

pub hangs-answerer : LoneRunsKeepTheirSetup → (s : Single) (p : Past) (slot : List ℕ) (arrived : Arrived) (mid : Account)
    → InTurn s p slot arrived mid (handed mid) → s.role ≡ Answerer → false ≡ hangs_up mid
hangs-answerer law s p slot arrived mid h role =
    let is : is_originator mid.setup.role ≡ false = role-kept law s p slot arrived mid (handed mid) h ∙ ap is_originator role in
    sym (ap (λ (b : Bool). b && is_closed mid.phase) is)

-- ---- the file is read on

-- the run is one of the file as it is known then
pub reads-on : LoneRunsByWhatIsReadOn
    → (s t : Single) (f : FolderState) (name : List ℕ) (p : Past) (slot : List ℕ) (arrived : Arrived) (mid : Account) (now : Station)
    → InTurn s p slot arrived mid (handed mid) → (e : Supplies f name file_limit p.file (handed mid) now) → t.role ≡ s.role → t.ear ≡ s.ear
    → t.turn ≡ s.turn → Stands t.station e.others (served_with e.others mid) → Serves t f name p slot arrived mid
reads-on law s t f name p slot arrived mid now h e role ear turn stands = record {
  others = e.others;
  reads = e.reads_on;
  stands = record {
    run = subst (λ (r : Role). PeerRun r (over e.others p)) (sym role) (record {
      run = law (party_of s.role p.file) p.file e.others p.turns p.account arrived mid allowed h.run.run h.hears e.reads_on.same;
      hears = h.run.hears;
    });
    heard = subst (λ (r : Role). InHeard r) (sym role) h.heard;
    hears = h.hears;
    station = stands;
    ear = subst (λ x. HasHeard x (stream (slot ∷ p.slots))) (sym ear) h.ear;
    turn = turn ∙ h.turn;
  };
}
  where
    InHeard : Role → Type 0
    InHeard r = IsHeard (other r) (stream p.slots) (slot_bits slot) arrived

-- ---- the end as it is to speak

-- whether it needs the link no more
abbrev pub finishes : ℕ → Account → Bool
finishes turn a = is_done a && not (break_waits a || is_ready turn None)

says-so : (role : Role) (file : List ℕ) (turn : ℕ) (mid : Account)
    → speaks_alone (party_of role file).user turn (lone_served (party_of role file) turn mid) ≡ speak turn
    (finishes turn (served_with file mid)) (served_with file mid)
says-so role file turn mid = grind (arith)

-- ---- what becomes of the turn

pub record SaidWell (r : Result Said LinkFault) (file : List ℕ) (sent : Sent) (s : Station) : Type 0 where
  pub said : Said
  pub says : r ≡ Ok said
  pub sent_is : sent ≡ said.sent
  pub stands : Stands s file said.account

pub said-well : (r : Result Said LinkFault) (file : List ℕ) (sent : Sent) (s : Station) (done : Unit {0}) → SpeaksAs r file sent s (Ok done)
    → SaidWell r file sent s
said-well q0 file sent s done h = grind (arith)

-- a turn with these in it
abbrev pub going-turn : Arrived → Said → Option ℕ → LoneTurn
going-turn arrived said given = record { arrived = arrived; sent = Some (spoken said); given = given }

abbrev pub silent-turn : Arrived → Option ℕ → LoneTurn
silent-turn arrived given = record { arrived = arrived; sent = None; given = given }

pub broken : (s : Single) (p : Past) (slot : List ℕ) (arrived : Arrived) (mid : Account) (given : Option ℕ) (fault : LinkFault)
    → InTurn s p slot arrived mid (served_with p.file mid) → hangs_up mid ≡ false → given ≡ given_break mid
    → speak s.turn (finishes s.turn (served_with p.file mid)) (served_with p.file mid) ≡ Err fault
    → PeerTurn s.role p slot (silent-turn arrived given) (concat (deliveries mid)) (Broken fault)
broken s p slot arrived mid given fault h up g e = grind (arith)

pub closing : (s : Single) (p : Past) (slot : List ℕ) (arrived : Arrived) (mid now : Account) (given : Option ℕ)
    → InTurn s p slot arrived mid now → hangs_up mid ≡ true → given ≡ given_break mid
    → PeerTurn s.role p slot (silent-turn arrived given) (concat (deliveries mid)) Closed
closing s p slot arrived mid now given h up g = grind (arith)

pub breaking-off : (s : Single) (p : Past) (slot : List ℕ) (arrived : Arrived) (fault : LinkFault) → BreaksOff s p slot arrived fault
    → PeerTurn s.role p slot (silent-turn arrived None) [] (Broken fault)
breaking-off s p slot arrived fault b = grind (arith)

-- whatever it comes to, there is such a turn
pub record Comes (party-role : Role) (p : Past) (slot : List ℕ) (arrived : Arrived) (octets : List ℕ) : Type 0 where
  pub turn : LoneTurn
  pub outcome : Outcome
  pub is : PeerTurn party-role p slot turn octets outcome

never-both : (r : Result Account LinkFault) (mid : Account) (fault : LinkFault) → r ≡ Ok mid → r ≡ Err fault → ⊥
never-both r mid fault e f = false≢true (sym (ap is_ok f) ∙ ap is_ok e)

pub comes : EachLoneTurnIsMade → (s : Single) (p : Past) (slot : List ℕ) (arrived : Arrived) (mid now : Account)
    → InTurn s p slot arrived mid now → Comes s.role p slot arrived (concat (deliveries mid))
comes law s p slot arrived mid now h = by (law (party_of s.role p.file) p.turns p.account arrived)
  where
    same : (once : Account) → hear (length p.turns) arrived p.account ≡ Ok once → concat (deliveries mid) ≡ concat (deliveries once)
    same once e = ap (λ (a : Account). concat (deliveries a)) (same-ok (hear (length p.turns) arrived p.account) mid once h.hears e)

    by : LoneNext (party_of s.role p.file) p.turns p.account arrived → Comes s.role p slot arrived (concat (deliveries mid))
    by (Goes_on sent given next g) =
        record {
          turn = record { arrived = arrived; sent = sent; given = given };
          outcome = Going;
          is = record { run = h.run; hears = h.heard; is = (next, g, same g.mid g.hears) };
        }
    by (Is_last given once l) =
        record {
          turn = silent-turn arrived given;
          outcome = Closed;
          is = record { run = h.run; hears = h.heard; is = (once, l, same once l.hears) };
        }
    by (Is_faulty fault f) = absurd (never-both (hear (length p.turns) arrived p.account) mid fault h.hears f.hears)
    by (Is_broken given once fault b) =
        record {
          turn = silent-turn arrived given;
          outcome = Broken fault;
          is = record { run = h.run; hears = h.heard; is = inr (once, b, same once b.hears) };
        }

-- ---- the line of the turn

pub line-is : (s : Single) (p : Past) (t : LoneTurn) (sent : Option Sent) → s.turn ≡ length p.turns
    → sent ≡ option_map (λ slot. slot.sent) t.sent
    → trace_line s.turn s.role (heard_as t.arrived) sent t.given ≡ turn_line s.role (length p.turns) t
line-is s p t sent e f = grind (arith)

pub ends-part : (s : Single) (old new : FolderState) (trace : List ℕ) (p : Past) (slot octets : List ℕ) (fault : SingleFault)
    → IsWriting fault → AddsPart s old new trace p slot octets → EndsLine s old new trace p slot octets fault
ends-part s old new trace p slot octets other w a = grind (arith)

pub adds-line : (s : Single) (old new : FolderState) (trace : List ℕ) (p : Past) (slot octets : List ℕ) (outcome : Outcome) (t : LoneTurn)
    (sent : Option Sent) → s.turn ≡ length p.turns → sent ≡ option_map (λ slot. slot.sent) t.sent → PeerTurn s.role p slot t octets outcome
    → Appended old new trace (trace_line s.turn s.role (heard_as t.arrived) sent t.given) → AddsLine s old new trace p slot octets outcome
adds-line s old new trace p slot octets outcome t sent e f is a = grind (arith)

pub adds-part : (s : Single) (old new : FolderState) (trace : List ℕ) (p : Past) (slot octets : List ℕ) (outcome : Outcome) (t : LoneTurn)
    (sent : Option Sent) → s.turn ≡ length p.turns → sent ≡ option_map (λ slot. slot.sent) t.sent → PeerTurn s.role p slot t octets outcome
    → PartlyAppended old new trace (trace_line s.turn s.role (heard_as t.arrived) sent t.given) → AddsPart s old new trace p slot octets
adds-part s old new trace p slot octets outcome t sent e f is a = grind (arith)

-- the single end once it has spoken, and once the turn is made
abbrev pub spoke : Station → Single → Single
spoke now s = record { role = s.role; station = now; ear = s.ear; turn = s.turn }

abbrev pub moved : Station → Single → Single
moved now s = record { role = s.role; station = now; ear = s.ear; turn = s.turn + 1 }

module _ (s : Single) (now : Station) (old new : FolderState) (trace : List ℕ) (p : Past) (slot : List ℕ) (arrived : Arrived)
    (mid : Account) (given : Option ℕ) (sent : Sent) (h : InTurn s p slot arrived mid (served_with p.file mid)) (up : hangs_up mid ≡ false)
    (g : given ≡ given_break mid) (w : SaidWell (speak s.turn (finishes s.turn (served_with p.file mid))
    (served_with p.file mid)) p.file sent now) where
  abbrev going : LoneGoing (party_of s.role p.file) p.turns p.account (going-turn arrived w.said given) w.said.account
  going = record {
    mid = mid;
    hears = h.hears;
    going = up;
    said = w.said;
    says = says-so s.role p.file (length p.turns) mid
        ∙ subst (λ n. speak n (finishes n (served_with p.file mid)) (served_with p.file mid) ≡ Ok w.said) h.turn w.says;
    sent = refl;
    given = g;
    after_is = refl;
  }

  pub gone : Appended old new trace (trace_line s.turn s.role (heard_as arrived) (Some sent) given)
      → HasGone (moved now s) old new trace p slot (concat (deliveries mid))
  gone text =
      let t = going-turn arrived w.said given in
      record {
        adds = record {
          turn = t;
          is = record { run = h.run; hears = h.heard; is = (w.said.account, going, refl) };
          line = subst (λ (l : List ℕ). Appended old new trace l) (line-is s p t (Some sent) h.turn (ap Some w.sent_is)) text;
        };
        single = record {
          run = record { run = (p.account, h.run.run, going); hears = (h.heard, h.run.hears) };
          station = w.stands;
          ear = h.ear;
          turn = omega (arith, h.turn);
        };
      }

  -- it has spoken, but the line isn't written whole
  pub gone-part : (fault : SingleFault) → IsWriting fault
      → PartlyAppended old new trace (trace_line s.turn s.role (heard_as arrived) (Some sent) given)
      → EndsLine (spoke now s) old new trace p slot (concat (deliveries mid)) fault
  gone-part fault i text =
      ends-part (spoke now s) old new trace p slot (concat (deliveries mid)) fault i
      (adds-part (spoke now s) old new trace p slot (concat (deliveries mid)) Going (going-turn arrived w.said given) (Some sent) h.turn
      (ap Some w.sent_is) (record { run = h.run; hears = h.heard; is = (w.said.account, going, refl) }) text)

-- ---- hearing

pub record HeardWell (r : Result Account LinkFault) (file : List ℕ) (s : Station) : Type 0 where
  pub mid : Account
  pub hears : r ≡ Ok mid
  pub stands : Stands s file mid

pub heard-well : (r : Result Account LinkFault) (file : List ℕ) (s : Station) (done : Unit {0}) → HearsAs r file s (Ok done)
    → HeardWell r file s
heard-well q0 file s done h = grind (arith)

pub heard-badly : (r : Result Account LinkFault) (file : List ℕ) (s : Station) (fault : LinkFault) → HearsAs r file s (Err fault)
    → r ≡ Err fault
heard-badly (Ok after) file s fault h = absurd h
heard-badly (Err broken) file s fault h = ap Err (sym h)

-- ---- the whole turn

pub writing-ends : (role : Role) (a b : FolderState) (n : PeerNames) (p : Past) (slot : List ℕ) (fault : SingleFault) → IsWriting fault
    → Stops role a b n p slot → EndsBy role a b n p slot fault
writing-ends role a b n p slot other w s = grind (arith)

module _ (s : Single) (a b z : FolderState) (n : PeerNames) (p : Past) (slot octets others : List ℕ) (apart : IsApart n) (g : GoesOn a b)
    (d : AddEach a b (outputs_of n) (octets ∷ [])) (w : OnlyWrites b z n.trace) (known : StaysKnown a z n.file p.file others) where
  -- the line stands behind what was handed over
  pub made : (outcome : Outcome) → AddsLine s b z n.trace (over others p) slot octets outcome → Makes s.role a z n p slot outcome
  made outcome l =
      record {
        others = others;
        known = known;
        turn = l.turn;
        octets = octets;
        is = l.is;
        writes = AddEach-next a b z (n.got ∷ []) n.trace [] (octets ∷ []) _ tt apart.0 g d w (inr l.line);
      }

  -- or a part of it
  stopped : AddsPart s b z n.trace (over others p) slot octets → Stops s.role a z n p slot
  stopped l = record {
    others = others;
    known = known;
    turn = l.turn;
    octets = octets;
    outcome = l.outcome;
    is = l.is;
    writes = AddPart-next a b z (n.got ∷ []) n.trace [] (octets ∷ []) _ tt apart.0 g d w l.line;
  }

  pub stopped-so : (fault : SingleFault) → IsWriting fault → AddsPart s b z n.trace (over others p) slot octets
      → EndsBy s.role a z n p slot fault
  stopped-so fault i l = writing-ends s.role a z n p slot fault i (stopped l)

  pub ended : (fault : SingleFault) → EndsLine s b z n.trace (over others p) slot octets fault → EndsBy s.role a z n p slot fault
  ended fault l = grind (arith, made, stopped)

  -- the run goes on
  pub gone-on : HasGone s b z n.trace (over others p) slot octets → GoesOnBy s a z n p slot
  gone-on h = record {
    makes = record {
      others = others;
      known = known;
      turn = h.adds.turn;
      octets = octets;
      is = h.adds.is;
      writes = AddEach-next a b z (n.got ∷ []) n.trace [] (octets ∷ []) _ tt apart.0 g d w (inr h.adds.line);
    };
    single = h.single;
  }

-- nothing is handed over where the end breaks as it hears
pub broke-off : (s : Single) (a z : FolderState) (n : PeerNames) (p : Past) (slot : List ℕ) (fault : SingleFault) → IsApart n
    → length p.file ≤ file_limit → OnlyWrites a z n.trace → EndsLine s a z n.trace p slot [] fault → EndsBy s.role a z n p slot fault
broke-off s a z n p slot fault apart within w l =
    ended s a a z n p slot [] p.file apart (GoesOn-refl a) (inl (refl, λ told. refl), (λ told. refl, tt)) w
    (stays-known a z n p.file apart (trace-only a z n w) within) fault l

-- the folder doesn't take what is handed over
pub not-handed : EachLoneTurnIsMade
    → (s : Single) (a b : FolderState) (n : PeerNames) (p : Past) (slot : List ℕ) (arrived : Arrived) (mid : Account) → IsApart n
    → length p.file ≤ file_limit
    → InTurn s p slot arrived mid mid → OnlyWrites a b n.got → PartlyAppended a b n.got (concat (deliveries mid))
    → Stops s.role a b n p slot
not-handed law s a b n p slot arrived mid apart within h w part =
    let m = comes law s p slot arrived mid mid h in
    record {
      others = p.file;
      known = stays-known a b n p.file apart (got-only a b n w) within;
      turn = m.turn;
      octets = concat (deliveries mid);
      outcome = m.outcome;
      is = m.is;
      writes = inl (part, (w.names n.trace (λ e. apart.0.0.0 (sym e)), tt));
    }

-- the octets are handed over
pub hands-over : (a b : FolderState) (n : PeerNames) (octets : List ℕ) → IsApart n → OnlyWrites a b n.got → Adds a b n.got octets
    → AddEach a b (outputs_of n) (octets ∷ [])
hands-over a b n octets apart w adds = grind (arith)

-- or the file isn't read
pub not-read : EachLoneTurnIsMade
    → (s : Single) (a d : FolderState) (n : PeerNames) (p : Past) (slot : List ℕ) (arrived : Arrived) (mid now : Account) → IsApart n
    → length p.file ≤ file_limit
    → InTurn s p slot arrived mid now → OnlyPuts a d (outputs_of n) → AddEach a d (outputs_of n) (concat (deliveries mid) ∷ [])
    → StopsInReading s.role a d n p slot
not-read law s a d n p slot arrived mid now apart within h only adds =
    let m = comes law s p slot arrived mid now h in (
      record {
        others = p.file;
        known = stays-known a d n p.file apart only within;
        turn = m.turn;
        octets = concat (deliveries mid);
        outcome = m.outcome;
        is = m.is;
        writes = AddPart-none a d (n.got ∷ []) n.trace [] (concat (deliveries mid) ∷ []) _ [] tt adds;
      },
      adds,
    )

pub reading-ends : (role : Role) (a d : FolderState) (n : PeerNames) (p : Past) (slot : List ℕ) (fault : SingleFault) → IsReading fault
    → StopsInReading role a d n p slot → EndsBy role a d n p slot fault
reading-ends role a d n p slot other w s = grind (arith)

-- what a fault ends doesn't go on
pub no-step : {A : Type 0} {fault : SingleFault} {step : SingleStep} → Err fault ≡ Ok step → A
no-step e = absurd cc

-- nor does a link that is taken down
abbrev pub closed-step : Result SingleStep SingleFault
closed-step = Ok steps.Closed

pub closed-no-step : {A : Type 0} → closed-step ≡ Ok steps.Going → A
closed-no-step e = absurd cc
