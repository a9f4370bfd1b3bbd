-- As an end hears it gives its link up for its peer's faults alone, and as it is to speak for none of these.
use Rattle.stations.proofs.Names.{arith, ◌≡◌, ℕ, Bool, Result, Ok, Err, subst, Arrived, Account, hear, speak, LinkFault, IsPeers}
use Rattle.lapm_frames.specs.declared.arrived.Arrived.TheVariants as arrivals
use Rattle.link_account.specs.declared.phase.Phase.{Phase}
use Rattle.link_account.specs.declared.answer.Answer.TheVariants as answers
use Rattle.link_account.specs.Speak.{speak_in}
use Rattle.lapm_frames.specs.declared.sent.Sent.TheVariants as slots

-- ---- hearing

abbrev IfPeers : Result Account LinkFault → Type 0
IfPeers (Ok a) = Unit {0}
IfPeers (Err fault) = IsPeers fault

hearing : (turn : ℕ) (arrived : Arrived) (a : Account) → IfPeers (hear turn arrived a)
hearing turn other a = grind (arith)

pub hears-peers : (turn : ℕ) (arrived : Arrived) (a : Account) (fault : LinkFault) → hear turn arrived a ≡ Err fault → IsPeers fault
hears-peers turn arrived a fault e = subst IfPeers e (hearing turn arrived a)

-- ---- speaking

abbrev IfWants : {A : Type 0} → Result A LinkFault → Type 0
IfWants (Ok a) = Unit {0}
IfWants (Err fault) = IsPeers fault → ⊥

in-phase : (p : Phase) (turn : ℕ) (release : Bool) (a : Account) → IfWants (speak_in p turn release a)
in-phase p turn release a = grind (arith)

pub speaks-wants : (turn : ℕ) (release : Bool) (a : Account) (fault : LinkFault) → speak turn release a ≡ Err fault → IsPeers fault → ⊥
speaks-wants turn release a fault e = subst IfWants e (in-phase a.phase turn release a)
