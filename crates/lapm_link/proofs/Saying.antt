-- What a step gives whose condition holds, and the end once it has been said.
use Rattle.lapm_link.proofs.Names.{arith, ◌≡◌, ℕ, Bool, true, false, Option, Some, None, Result, Ok, Err, ap, Sent, Gives, SaysLinked}
use Rattle.lapm_link.proofs.Names.{Links, Becomes, Speaks, AnyEnd, Connected, Taking, Account, trying, Said, where_says, steps, Owes, Setup}
use Rattle.lapm_link.proofs.Names.{is_originator, LinkFault, Terms}
use Rattle.lapm_link.specs.declared.connected.Breaks.{Breaks}
use Rattle.lapm_link.specs.declared.connected.Wait.{Wait}
use Rattle.lapm_link.specs.declared.closed.Broken.{Broken}
use Rattle.link_account.specs.declared.phase.Phase.TheVariants as phases
use Rattle.link_account.specs.Speak.{else_says, on_break_timer, then_tries, after_timers, speak_connected}
use Rattle.link_account.specs.Speak.{speak_releasing}
use Rattle.lapm_link.specs.Stands.{LinksBeside, SpeaksLinked}

pub gives_where : {end : Connected} {sent : Sent} (b : Bool) (said : Said) (a : Account) → b ≡ true → SaysLinked said end sent
    → Gives (where_says b said) a end (Some sent)
gives_where b said a e h = rw e h

-- the poll is no longer due
pub polled : {setup : Setup} {terms : Terms} {receiver : Taking} {breaks : Breaks} {owes : Owes} {wait : Wait} {numbered
    special : Bool} {a : Account}
    → LinksBeside setup terms receiver breaks owes wait numbered special a
    → LinksBeside setup terms receiver breaks owes (record wait { poll = false }) numbered special
    (record a { wait = record a.wait { poll = false } })
polled h = assumption

-- the reply is no longer due
pub replied : {setup : Setup} {terms : Terms} {receiver : Taking} {breaks : Breaks} {owes : Owes} {wait : Wait} {numbered
    special : Bool} {a : Account}
    → LinksBeside setup terms receiver breaks owes wait numbered special a
    → LinksBeside setup terms receiver breaks (record owes { reply = false }) wait numbered special
    (record a { owes = record a.owes { reply = false } })
replied h = assumption (ap (λ (owes : Owes). record owes { reply = false }) h.owes_is)

-- the last speaking is forgotten
pub forgotten : {setup : Setup} {terms : Terms} {receiver : Taking} {breaks : Breaks} {owes : Owes} {wait : Wait} {numbered
    special : Bool} {a : Account}
    → LinksBeside setup terms receiver breaks owes wait numbered special a
    → LinksBeside setup terms receiver breaks owes wait numbered false (record a { special = false })
forgotten h = assumption

-- The first step that gives something is what is said.
pub first : (end : Connected) (sent : Sent) (o : Option Said) (rest : Said) (a : Account) → Gives o a end (Some sent)
    → SaysLinked (else_says o rest) end sent
first end sent q2 rest a h = grind (arith)

pub next : (end end' : Connected) (sent : Sent) (o : Option Said) (rest : Said) (a : Account) → Gives o a end None
    → (Links end a → SaysLinked rest end' sent)
    → SaysLinked (else_says o rest) end' sent
next end end' sent q3 rest a h k = grind (arith)

pub second_breaks : (end1 end2 : Connected) (broken : LinkFault) (turn : ℕ) (special : Bool) (r : Result Account LinkFault)
    → Becomes r end1 (Ok tt)
    → ((b : Account) → Links end1 b → Becomes (on_break_timer turn b) end2 (Err broken))
    → SpeaksLinked (after_timers turn special (then_tries turn r)) end2 (Err broken)
second_breaks end1 end2 broken turn special q5 h k = grind (arith)

goes_on : (end end' : Connected) (sent : Sent) (turn : ℕ) (special : Bool) (r : Result Account LinkFault) → Becomes r end (Ok tt)
    → ((b : Account) → Links end b → SaysLinked (steps turn special (record b { special = false })) end' sent)
    → SpeaksLinked (after_timers turn special r) end' (Ok sent)
goes_on end end' sent turn special q5 h k = grind (arith)

pub timers_pass : (end1 end2 end3 : Connected) (sent : Sent) (turn : ℕ) (special : Bool) (r : Result Account LinkFault)
    → Becomes r end1 (Ok tt)
    → ((b : Account) → Links end1 b → Becomes (on_break_timer turn b) end2 (Ok tt))
    → ((b : Account) → Links end2 b → SaysLinked (steps turn special (record b { special = false })) end3 sent)
    → SpeaksLinked (after_timers turn special (then_tries turn r)) end3 (Ok sent)
timers_pass end1 end2 end3 sent turn special q6 h k l = grind (arith)

-- An originator that is told to release speaks as one that releases.
as_before : (before sent : Sent) (r : Result Said LinkFault) (result : Result AnyEnd Broken) (turn : ℕ) (a : Account)
    → Speaks r (trying phases.Releasing turn a) before sent result
    → Speaks r a before sent result
as_before before sent (Ok said) (Ok end) turn a h = h
as_before before sent (Err fault) (Err broken) turn a h = (
  h.0,
  assumption,
)
as_before before sent (Ok said) (Err broken) turn a h = absurd h
as_before before sent (Err fault) (Ok end) turn a h = absurd h

pub releases : (before sent : Sent) (result : Result AnyEnd Broken) (turn : ℕ) (release : Bool) (a : Account) → release ≡ true
    → is_originator a.setup.role ≡ true
    → Speaks (speak_releasing turn (trying phases.Releasing turn a)) (trying phases.Releasing turn a) before sent result
    → Speaks (speak_connected turn release a) a before sent result
releases before sent result turn release a e f h =
    rw (e, f) (as_before before sent (speak_releasing turn (trying phases.Releasing turn a)) result turn a h)
