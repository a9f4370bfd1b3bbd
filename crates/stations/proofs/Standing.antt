-- What a station stands for once its end has heard or spoken, or was asked for a break.
use Rattle.stations.proofs.Names.{◌≡◌, ℕ, ◌+◌, Bool, List, length, arith, refl, sym, ◌∙◌, ap, Ok, Err, Result, IfOk, OnOk, OnErr, ◌≤◌}
use Rattle.stations.proofs.Names.{Arrived, Sent, StandsFor, TakesNothing, taken_of, AnyEnd, given_break, Account, hear, Said, speak}
use Rattle.stations.proofs.Names.{delivered, IsOffered, LinkFault, Stands, HearsAs, SpeaksAs, IsCounted, Station}
use Rattle.lapm_link.specs.declared.any_end.AnyEnd.TheVariants as ends
use Rattle.lapm_link.specs.declared.closed.Broken.{Broken}
use Rattle.lapm_link.specs.Stands.{Hears, Speaks, given_up}
use Rattle.link_run.specs.Reading.{HearingStaysOffered, SpeakingStaysOffered}
use Rattle.stations.specs.Station.{IsKept, IsIdle}

-- what was offered depends on these parts alone
pub as-offered : (file : List ℕ) (a b : Account) → b.setup ≡ a.setup → b.terms ≡ a.terms → b.phase ≡ a.phase → b.outgoing ≡ a.outgoing
    → IsOffered file a → IsOffered file b
as-offered file a b setup terms phase outgoing h = grind (arith)

pub heard-stands : (stays : HearingStaysOffered) (turn : ℕ) (arrived : Arrived) (file : List ℕ) (a : Account) (old new : Station)
    → Stands old file a → new.breaks ≡ old.breaks
    → Hears (hear turn arrived a) a (Ok new.end) → HearsAs (hear turn arrived a) file new (Ok tt)
heard-stands stays turn arrived file a old new h breaks k = go (hear turn arrived a) refl k
  where
    go : (r : Result Account LinkFault) → hear turn arrived a ≡ r → Hears r a (Ok new.end) → HearsAs r file new (Ok tt)
    go (Ok b) e s =
        let o = stays file turn arrived a b h.offered e in
        record { end = s; breaks = breaks ∙ h.breaks ∙ sym (ap length o.breaks); offered = o.offered }
    go (Err fault) e s = s

pub heard-breaks : (turn : ℕ) (arrived : Arrived) (file : List ℕ) (a : Account) (new : Station) (broken : Broken)
    → Hears (hear turn arrived a) a (Err broken) → HearsAs (hear turn arrived a) file new (Err broken.fault)
heard-breaks turn arrived file a new broken k = grind (arith)

pub spoken-stands : (stays : SpeakingStaysOffered) (turn : ℕ) (release : Bool) (file : List ℕ) (a : Account) (before sent : Sent)
    (old new : Station) → Stands old file a → new.breaks ≡ old.breaks
    → Speaks (speak turn release a) a before sent (Ok new.end) → SpeaksAs (speak turn release a) file sent new (Ok tt)
spoken-stands stays turn release file a before sent old new h breaks k = go (speak turn release a) refl k
  where
    go : (r : Result Said LinkFault) → speak turn release a ≡ r → Speaks r a before sent (Ok new.end) → SpeaksAs r file sent new (Ok tt)
    go (Ok said) e s =
        let o = stays file turn release a said h.offered e in
        (s.0, record { end = s.1; breaks = breaks ∙ h.breaks ∙ sym (ap length o.breaks); offered = o.offered })
    go (Err fault) e s = s

pub spoken-breaks : (turn : ℕ) (release : Bool) (file : List ℕ) (a : Account) (before sent : Sent) (new : Station) (broken : Broken)
    → Speaks (speak turn release a) a before sent (Err broken) → SpeaksAs (speak turn release a) file sent new (Err broken.fault)
spoken-breaks turn release file a before sent new broken k = grind (arith)

-- ---- a station whose end takes nothing

pub idle-on : (old new : Station) → TakesNothing old.end new.end → IsIdle old → IsIdle new
idle-on old new t h = record { delivered = omega (arith, t.undelivered_of, h.delivered); given = t.waiting_of h.given }

pub takes-on : (first mid last : AnyEnd) → TakesNothing first mid → TakesNothing mid last → TakesNothing first last
takes-on first mid last h k = grind (arith)

pub counted-on : (old new : Station) → TakesNothing old.end new.end → new.breaks ≡ old.breaks → (heard asked : ℕ)
    → IsCounted old heard asked → IsCounted new heard asked
counted-on old new t e heard asked h = record { segments = omega (arith, t.taken_of, h.segments); breaks = omega (arith, e, h.breaks) }

-- ---- a station that keeps what its end became

pub kept-heard : (stays : HearingStaysOffered) (turn : ℕ) (arrived : Arrived) (file : List ℕ) (a : Account) (old new : Station)
    (became : Result AnyEnd Broken) (result : Result (Unit {0}) LinkFault) → Stands old file a → new.breaks ≡ old.breaks
    → IsKept became new result → Hears (hear turn arrived a) a became → HearsAs (hear turn arrived a) file new result
kept-heard stays turn arrived file a old new became result h breaks given k = grind (arith, heard-stands, heard-breaks)

pub kept-spoken : (stays : SpeakingStaysOffered) (turn : ℕ) (release : Bool) (file : List ℕ) (a : Account) (before sent : Sent)
    (old new : Station) (became : Result AnyEnd Broken) (result : Result (Unit {0}) LinkFault) → Stands old file a
    → new.breaks ≡ old.breaks → IsKept became new result → Speaks (speak turn release a) a before sent became
    → SpeaksAs (speak turn release a) file sent new result
kept-spoken stays turn release file a before sent old new became result h breaks given k = grind (arith, spoken-stands, spoken-breaks)

-- what holds where the end broke holds where the station answers a fault
pub kept-fault : (P : Type 0) (new : Station) (became : Result AnyEnd Broken) (result : Result (Unit {0}) LinkFault)
    → IsKept became new result → OnErr became P → OnErr result P
kept-fault P new became result given p = grind (arith)

-- its end is over, and of its user's file and breaks nothing has changed
abbrev pub GivesUp : Station → Station → Type 0
GivesUp old new = (file : List ℕ) (a : Account) → Stands old file a → Stands new file (given_up a)

pub heard-gives-up : (turn : ℕ) (arrived : Arrived) (old new : Station) (became : Result AnyEnd Broken)
    (result : Result (Unit {0}) LinkFault) → new.breaks ≡ old.breaks → IsKept became new result
    → ((a : Account) → StandsFor old.end a → Hears (hear turn arrived a) a became) → OnErr result (GivesUp old new)
heard-gives-up turn arrived old new became result breaks kept k = grind (arith)

pub spoken-gives-up : (turn : ℕ) (release : Bool) (before sent : Sent) (old new : Station) (became : Result AnyEnd Broken)
    (result : Result (Unit {0}) LinkFault) → new.breaks ≡ old.breaks → IsKept became new result
    → ((a : Account) → StandsFor old.end a → Speaks (speak turn release a) a before sent became) → OnErr result (GivesUp old new)
spoken-gives-up turn release before sent old new became result breaks kept k = grind (arith)

-- what holds of it, where it answers no fault
pub kept-so : (P : Type 0) (became : Result AnyEnd Broken) (new : Station) (result : Result (Unit {0}) LinkFault)
    → IsKept became new result → IfOk became (λ end. new.end ≡ end → P) → OnOk result P
kept-so P became new result given p = grind (arith)

if-ok : {P Q : AnyEnd → Type 0} (became : Result AnyEnd Broken) → ((end : AnyEnd) → P end → Q end) → IfOk became P → IfOk became Q
if-ok became f p = grind (arith)

pub kept-counted : (old new : Station) (turn : ℕ) (became : Result AnyEnd Broken) (result : Result (Unit {0}) LinkFault)
    → new.breaks ≡ old.breaks → IsKept became new result → IfOk became (λ end. taken_of end ≤ taken_of old.end + 128)
    → IsCounted old turn turn → OnOk result (IsCounted new (turn + 1) turn)
kept-counted old new turn became result breaks kept few h = grind (arith)

pub kept-idle : (old new : Station) (became : Result AnyEnd Broken) (result : Result (Unit {0}) LinkFault) → IsKept became new result
    → IfOk became (TakesNothing old.end) → OnOk result (IsIdle old → IsIdle new)
kept-idle old new became result kept takes = grind (arith)

pub kept-counts : (old new : Station) (became : Result AnyEnd Broken) (result : Result (Unit {0}) LinkFault)
    → new.breaks ≡ old.breaks → IsKept became new result → IfOk became (TakesNothing old.end)
    → OnOk result ((heard asked : ℕ) → IsCounted old heard asked → IsCounted new heard asked)
kept-counts old new became result breaks kept takes = grind (arith)

pub kept-sendable : (P : Type 0) (new : Station) (became : Result AnyEnd Broken) (result : Result (Unit {0}) LinkFault)
    → IsKept became new result → IfOk became (λ end. P) → OnOk result P
kept-sendable P new became result kept p = kept-so P became new result kept (if-ok {Q = λ end. new.end ≡ end → P} became (λ end p is. p) p)

-- ---- breaks

pub counted-later : (s : Station) (heard asked : ℕ) → IsCounted s heard asked → IsCounted s heard (asked + 1)
counted-later s heard asked h = record { segments = omega (arith, h.segments); breaks = omega (arith, h.breaks) }

-- An end that breaks as it is to speak does so by its rules;
pub broken-so : (r : Result Said LinkFault) (file : List ℕ) (sent : Sent) (s : Station) (fault : LinkFault)
    → SpeaksAs r file sent s (Err fault) → r ≡ Err fault
broken-so q0 file sent s fault h = grind (arith)

-- handing segments over hands no break over
pub given-delivered : (a : Account) → given_break (delivered a) ≡ given_break a
given-delivered a = grind (arith)
