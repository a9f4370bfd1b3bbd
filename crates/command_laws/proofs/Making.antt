-- What is computed is a run by the definitions.
use Rattle.command_laws.proofs.Names.{◌≡◌, ℕ, zero, suc, ◌-◌, Bool, cond, true, false, List, [], ◌∷◌, length, refl, ap, Option, Some, None}
use Rattle.command_laws.proofs.Names.{Result, Ok, Err, Way, Next, Goes, Ends_run, Stops, turn_with, both_said, crossing, speaking, hearing}
use Rattle.command_laws.proofs.Names.{next, heard_by, made, runs, IsMade, Nothing, Passed, Lost, Account, hear, Said, sent_ago, has_message}
use Rattle.command_laws.proofs.Names.{is_closed, TurnIs, Link, Accounts, Turn, Spoken, arrival, said_at, RunOf, start, of, LinkFault, Role}
use Rattle.command_laws.proofs.Names.{Originator, Answerer, Hears}
use Rattle.std.specs.Prelude.{is_ok}
use Rattle.lapm_frames.specs.declared.heard.Heard.{Heard}
use Rattle.link_run.specs.Run.{Speaks, IsSilent, GoingTurn}
use Rattle.link_run.specs.Carried.{Crosses, Carries, IsCarried}

abbrev IsNext : Link → List Turn → Accounts → Next → Type 0
IsNext link ts ends (Goes t later) = GoingTurn link ts ends t later
IsNext link ts ends (Ends_run t mid outcome) = TurnIs link ts ends t mid outcome
IsNext link ts ends Stops = Unit {0}

abbrev Hear : ℕ → Accounts → (Role → Heard) → Accounts → Type 0
Hear turn before heard mid = (role : Role) → hear turn (arrival (heard role)) (of role before) ≡ Ok (of role mid)

turn-hears : (turn : ℕ) (before mid : Accounts) (heard : Role → Heard) (sent : Role → Option Spoken) → Hear turn before heard mid
    → Hears turn before (turn_with before mid heard sent) mid
turn-hears turn before mid heard sent h Originator = record { hears = h Originator; check_is = refl; given_is = refl }
turn-hears turn before mid heard sent h Answerer = record { hears = h Answerer; check_is = refl; given_is = refl }

silent : (before mid : Accounts) (heard : Role → Heard) → IsSilent (turn_with before mid heard (λ role. None))
silent before mid heard Originator = refl
silent before mid heard Answerer = refl

spoken-next : (link : Link) (ts : List Turn) (ends mid : Accounts) (heard : Role → Heard) → Hear (length ts) ends heard mid
    → (b : Bool) → is_closed mid.orig.phase ≡ b → (o a : Result Said LinkFault) → said_at link (length ts) mid Originator ≡ o
    → said_at link (length ts) mid Answerer ≡ a → IsNext link ts ends (speaking ends mid heard b o a)
spoken-next link ts ends mid heard h true e o a p q =
    record { hearing = turn-hears (length ts) ends mid heard (λ role. None) h; done = e; silent = silent ends mid heard }
spoken-next link ts ends mid heard h false e (Err fault) a p q =
    record { hearing = turn-hears (length ts) ends mid heard (λ role. None) h; going = e; broken = p; silent = silent ends mid heard }
spoken-next link ts ends mid heard h false e (Ok o) (Err fault) p q =
    record {
      hearing = turn-hears (length ts) ends mid heard (λ role. None) h;
      going = e;
      broken = (ap is_ok p, q);
      silent = silent ends mid heard;
    }
spoken-next link ts ends mid heard h false e (Ok o) (Ok a) p q =
    record { mid = mid; hearing = turn-hears (length ts) ends mid heard (both_said o a) h; going = e; speaking = both }
  where
    both : Speaks link (length ts) mid (turn_with ends mid heard (both_said o a)) (record { orig = o.account; answ = a.account })
    both Originator = record { said = o; says = p; sent_is = refl; after_is = refl }
    both Answerer = record { said = a; says = q; sent_is = refl; after_is = refl }

heard-next : (link : Link) (ts : List Turn) (ends : Accounts) (heard : Role → Heard) (o a : Result Account LinkFault)
    → hear (length ts) (arrival (heard Originator)) ends.orig ≡ o → hear (length ts) (arrival (heard Answerer)) ends.answ ≡ a
    → IsNext link ts ends (hearing link (length ts) ends heard o a)
heard-next link ts ends heard (Ok o) (Ok a) h k =
    spoken-next link ts ends mid heard both (is_closed o.phase) refl (said_at link (length ts) mid Originator)
    (said_at link (length ts) mid Answerer) refl refl
  where
    mid : Accounts
    mid = record { orig = o; answ = a }

    both : Hear (length ts) ends heard mid
    both Originator = h
    both Answerer = k
heard-next link ts ends heard (Ok o) (Err fault) h k = tt
heard-next link ts ends heard (Err fault) a h k = tt

-- what is heard of a slot crosses the line
crosses : (lost : Bool) (slot : Option Spoken) → Crosses slot (crossing lost slot)
crosses lost None = tt
crosses lost (Some slot) = go (has_message slot.sent) refl lost
  where
    go : (b : Bool) → has_message slot.sent ≡ b → (c : Bool)
        → Crosses (Some slot) (cond b (cond c (Lost slot.sent) (Passed slot.sent)) Nothing)
    go true e true = (refl, e)
    go true e false = (refl, e)
    go false e c = e

carries : (way : Way) (ts : List Turn) (before mid : Accounts) (sent : Role → Option Spoken)
    → Carries way.delay ts (turn_with before mid (heard_by way ts) sent)
carries way ts before mid sent Originator =
    crosses (way.loses Answerer (length ts - way.delay Answerer)) (sent_ago (way.delay Answerer) Answerer ts)
carries way ts before mid sent Answerer =
    crosses (way.loses Originator (length ts - way.delay Originator)) (sent_ago (way.delay Originator) Originator ts)

-- whatever comes next, its turn is carried
abbrev NextCarries : Way → List Turn → Next → Type 0
NextCarries way ts (Goes t later) = Carries way.delay ts t
NextCarries way ts (Ends_run t mid outcome) = Carries way.delay ts t
NextCarries way ts Stops = Unit {0}

spoken-carries : (way : Way) (ts : List Turn) (ends mid : Accounts) (b : Bool) (o a : Result Said LinkFault)
    → NextCarries way ts (speaking ends mid (heard_by way ts) b o a)
spoken-carries way ts ends mid true o a = carries way ts ends mid (λ role. None)
spoken-carries way ts ends mid false (Err fault) a = carries way ts ends mid (λ role. None)
spoken-carries way ts ends mid false (Ok o) (Err fault) = carries way ts ends mid (λ role. None)
spoken-carries way ts ends mid false (Ok o) (Ok a) = carries way ts ends mid (both_said o a)

heard-carries : (link : Link) (way : Way) (ts : List Turn) (ends : Accounts) (o a : Result Account LinkFault)
    → NextCarries way ts (hearing link (length ts) ends (heard_by way ts) o a)
heard-carries link way ts ends (Ok o) (Ok a) =
    let mid : Accounts = record { orig = o; answ = a } in
    spoken-carries way ts ends mid (is_closed o.phase) (said_at link (length ts) mid Originator) (said_at link (length ts) mid Answerer)
heard-carries link way ts ends (Ok o) (Err fault) = tt
heard-carries link way ts ends (Err fault) a = tt

next-carries : (link : Link) (way : Way) (ts : List Turn) (ends : Accounts) → NextCarries way ts (next link way ts ends)
next-carries link way ts ends =
    heard-carries link way ts ends (hear (length ts) (arrival (heard_by way ts Originator)) ends.orig)
    (hear (length ts) (arrival (heard_by way ts Answerer)) ends.answ)

next-is : (link : Link) (way : Way) (ts : List Turn) (ends : Accounts) → IsNext link ts ends (next link way ts ends)
next-is link way ts ends =
    let heard = heard_by way ts in
    heard-next link ts ends heard (hear (length ts) (arrival (heard Originator)) ends.orig)
    (hear (length ts) (arrival (heard Answerer)) ends.answ) refl refl

made-is : (count : ℕ) (link : Link) (way : Way) (ts : List Turn) (ends : Accounts) (n : Next) → RunOf link ts ends → IsCarried way.delay ts
    → IsNext link ts ends n → NextCarries way ts n → IsMade link way (made count link way ts ends n)
made-is zero link way ts ends n h c k d = record { run = h; carried = c; last = tt }
made-is (suc count) link way ts ends (Goes t later) h c k d =
    made-is count link way (t ∷ ts) later (next link way (t ∷ ts) later) (ends, h, k) (
      d,
      c,
    ) (next-is link way (t ∷ ts) later) (next-carries link way (t ∷ ts) later)
made-is (suc count) link way ts ends (Ends_run t mid outcome) h c k d =
    record { run = h; carried = c; last = record { is = k; carries = d } }
made-is (suc count) link way ts ends Stops h c k d = record { run = h; carried = c; last = tt }

pub computed : (count : ℕ) (link : Link) (way : Way) → IsMade link way (runs count link way)
computed count link way =
    made-is count link way [] (start link) (next link way [] (start link)) refl tt (next-is link way [] (start link))
    (next-carries link way [] (start link))
