-- Which end breaks with which fault, and that each turn is made.
use Rattle.link_run.proofs.Names.{arith, ◌≡◌, ℕ, Bool, true, false, List, length, refl, sym, ◌∙◌, ap, subst, Option, Some, None, Result, Ok}
use Rattle.link_run.proofs.Names.{Err, is_ok, false≢true, Role, Originator, Answerer, ReadsAllowed, KeepsTaken, LinkFault, Account}
use Rattle.link_run.proofs.Names.{check_of, hear, Said, speak, Heard, is_originator, other, of, why-broken, given_break, Setup, Crosses}
use Rattle.link_run.proofs.Names.{sent_ago, is_closed, is_released, BrokenForWant, EachEndIsNamed, EachTurnIsMade, HearingsAreWell}
use Rattle.link_run.proofs.Names.{MakesTurn, Broken, Done, Going, Accounts, Hears, Link, Speaks, Spoken, Turn, arrival, said_at, served_at}
use Rattle.link_run.proofs.Names.{spoken}
use Rattle.link_account.proofs.Names.{NotDetected, Spent}
use Rattle.shared_terms.specs.declared.fault.LinkFault.TheVariants.{BadAck, PeerReset, PeerRefused}
use Rattle.link_run.proofs.Ending.{HasSetup, setups-kept, kept-run, kept-heard}
use Rattle.link_run.proofs.Joining.{serving}

-- whoever breaks because it detected nothing is an originator
undetected : (turn : ℕ) (release : Bool) (a : Account) → speak turn release a ≡ Err NotDetected → a.setup.role ≡ Originator
undetected turn release a e = grind (arith, why-broken)

pub each_end_is_named : ReadsAllowed → KeepsTaken → BrokenForWant → EachEndIsNamed
each_end_is_named reads keeps want link ts before t mid role (Spent segment since) m h b = tt
each_end_is_named reads keeps want link ts before t mid Originator NotDetected m h b = refl
each_end_is_named reads keeps want link ts before t mid Answerer NotDetected m h b =
    let turn = length ts in
    let kept = kept-heard reads keeps (HasSetup link) link (setups-kept link) turn before t mid
    (kept-run reads keeps (HasSetup link) link (setups-kept link) ts before h) b.hearing in
    let role = ap (λ (x : Setup). x.role) ((serving link.answ.user turn (is_released mid.orig.phase) mid.answ).setup ∙ kept Answerer)
    ∙ m.answers in
    absurd (false≢true (ap is_originator (sym role ∙ undetected turn false (served_at link turn mid Answerer).account b.broken.1)))
each_end_is_named reads keeps want link ts before t mid role (BadAck nr va high) m h b =
    absurd (want link ts before t mid role (BadAck nr va high) b)
each_end_is_named reads keeps want link ts before t mid role (PeerReset va vr) m h b =
    absurd (want link ts before t mid role (PeerReset va vr) b)
each_end_is_named reads keeps want link ts before t mid role PeerRefused m h b = absurd (want link ts before t mid role PeerRefused b)

-- a turn by what is heard and sent
abbrev turn_with : Accounts → Accounts → (Role → Heard) → (Role → Option Spoken) → Turn
turn_with before mid heard sent = record {
  orig = record { heard = heard Originator; check = check_of before.orig; sent = sent Originator; given = given_break mid.orig };
  answ = record { heard = heard Answerer; check = check_of before.answ; sent = sent Answerer; given = given_break mid.answ };
}

abbrev Hear : ℕ → Accounts → (Role → Heard) → Accounts → Type 0
Hear turn before heard mid = (role : Role) → hear turn (arrival (heard role)) (of role before) ≡ Ok (of role mid)

turn-hears : (turn : ℕ) (before mid : Accounts) (heard : Role → Heard) (sent : Role → Option Spoken) → Hear turn before heard mid
    → Hears turn before (turn_with before mid heard sent) mid
turn-hears turn before mid heard sent h x = grind (arith)

turn-heard : (before mid : Accounts) (heard : Role → Heard) (sent : Role → Option Spoken) (role : Role)
    → (of role (turn_with before mid heard sent)).heard ≡ heard role
turn-heard before mid heard sent x = grind (arith)

turn-sent : (before mid : Accounts) (heard : Role → Heard) (sent : Role → Option Spoken) (role : Role)
    → (of role (turn_with before mid heard sent)).sent ≡ sent role
turn-sent before mid heard sent x = grind (arith)

-- a turn in which nothing is sent
abbrev none : Role → Option Spoken
none role = None

speaking : (link : Link) (ts : List Turn) (ends mid : Accounts) (heard : Role → Heard) → Hear (length ts) ends heard mid
    → (b : Bool) → is_closed mid.orig.phase ≡ b → (o a : Result Said LinkFault) → said_at link (length ts) mid Originator ≡ o
    → said_at link (length ts) mid Answerer ≡ a
    → MakesTurn link ts ends heard
speaking link ts ends mid heard h true e o a p q = record {
  turn = turn_with ends mid heard none;
  mid = mid;
  outcome = Done;
  is = record { hearing = turn-hears (length ts) ends mid heard none h; done = e; silent = turn-sent ends mid heard none };
  heard_is = turn-heard ends mid heard none;
}
speaking link ts ends mid heard h false e (Err fault) a p q = record {
  turn = turn_with ends mid heard none;
  mid = mid;
  outcome = Broken Originator fault;
  is = record { hearing = turn-hears (length ts) ends mid heard none h; going = e; broken = p; silent = turn-sent ends mid heard none };
  heard_is = turn-heard ends mid heard none;
}
speaking link ts ends mid heard h false e (Ok o) (Err fault) p q = record {
  turn = turn_with ends mid heard none;
  mid = mid;
  outcome = Broken Answerer fault;
  is = assumption (turn-hears (length ts) ends mid heard none h, ap is_ok p, turn-sent ends mid heard none);
  heard_is = turn-heard ends mid heard none;
}
speaking link ts ends mid heard h false e (Ok o) (Ok a) p q = record {
  turn = turn_with ends mid heard said;
  mid = mid;
  outcome = Going;
  is = (after, record { mid = mid; hearing = turn-hears (length ts) ends mid heard said h; going = e; speaking = both }, refl);
  heard_is = turn-heard ends mid heard said;
}
  where
    said : Role → Option Spoken
    said Originator = Some (spoken o)
    said Answerer = Some (spoken a)

    after : Accounts
    after = record { orig = o.account; answ = a.account }

    both : Speaks link (length ts) mid (turn_with ends mid heard said) after
    both Originator = record { said = o; says = p; sent_is = refl; after_is = refl }
    both Answerer = record { said = a; says = q; sent_is = refl; after_is = refl }

hearing : (link : Link) (ts : List Turn) (ends : Accounts) (heard : Role → Heard) (o a : Result Account LinkFault)
    → hear (length ts) (arrival (heard Originator)) ends.orig ≡ o
    → hear (length ts) (arrival (heard Answerer)) ends.answ ≡ a → is_ok o ≡ true → is_ok a ≡ true → MakesTurn link ts ends heard
hearing link ts ends heard (Ok o) (Ok a) h k x y =
    speaking link ts ends mid heard both (is_closed o.phase) refl (said_at link (length ts) mid Originator)
    (said_at link (length ts) mid Answerer) refl refl
  where
    mid : Accounts
    mid = record { orig = o; answ = a }

    both : Hear (length ts) ends heard mid
    both given = grind (arith)
hearing link ts ends heard o a h k x y = grind (arith)

pub each_turn_is_made : HearingsAreWell → EachTurnIsMade
each_turn_is_made well link delay ts ends heard v c =
    let t = turn_with ends ends heard none in
    let w = well link delay ts ends t v
    (λ role. subst (Crosses (sent_ago (delay (other role)) (other role) ts)) (sym (turn-heard ends ends heard none role)) (c role)) in
    hearing link ts ends heard (hear (length ts) (arrival (heard Originator)) ends.orig)
    (hear (length ts) (arrival (heard Answerer)) ends.answ) refl refl (w Originator) (w Answerer)
