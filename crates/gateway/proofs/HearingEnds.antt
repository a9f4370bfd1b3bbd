-- What an endpoint hears and says, by what its end of the link does.
use Rattle.gateway.proofs.Names.{arith, ◌≡◌, ℕ, Option, Result, Ok, Err, HeardAs, SaysAs, Arrives, told_as, Carried, Told, IsSendable}
use Rattle.gateway.proofs.Names.{StandsFor, AnyEnd}
use Rattle.frame_check.specs.declared.check.Check.{Check}
use Rattle.shared_terms.specs.declared.role.Role.{Role}
use Rattle.shared_terms.specs.Role.{other}
use Rattle.shared_terms.specs.declared.fault.LinkFault.{LinkFault}
use Rattle.lapm_frames.specs.declared.arrived.Arrived.{Arrived}
use Rattle.lapm_frames.specs.declared.sent.Sent.{Sent}
use Rattle.link_account.specs.Account.{Account, check_of, given_break, after_given}
use Rattle.link_account.specs.Speak.{Said}
use Rattle.lapm_link.specs.declared.any_end.AnyEnd.TheVariants.{Closed}
use Rattle.lapm_link.specs.declared.closed.Broken.{Broken}
use Rattle.lapm_link.specs.Stands.{Speaks}
use Rattle.lapm_link.specs.Stands as stands

-- what arrives, by the check and the sender that the code uses
pub arrives-as : (check : Check) (sender role : Role) (carried : Carried) (arrived : Arrived) (a : Account) → check ≡ check_of a
    → sender ≡ other role → Arrives check sender carried arrived → Arrives (check_of a) (other role) carried arrived
arrives-as check sender role carried arrived a c s h = grind (arith, other)

pub heard-ok : (a : Account) (mid link : AnyEnd) (given : Option ℕ) (becomes : Result Account LinkFault)
    → ((b : Account) → StandsFor mid b → given ≡ given_break b) → ((b : Account) → StandsFor mid b → StandsFor link (after_given b))
    → stands.Hears becomes a (Ok mid) → HeardAs becomes a link (Ok given)
heard-ok a mid link given q4 answer account h = grind (arith)

pub heard-err : (a : Account) (broken : Broken) (becomes : Result Account LinkFault)
    → stands.Hears becomes a (Err broken) → HeardAs becomes a (Closed broken.end) (Err broken.fault)
heard-err a broken q2 h = grind (arith)

pub says-ok : (role : Role) (a : Account) (link : AnyEnd) (before sent : Sent) (check : Check) (told : Told) (said : Result Said LinkFault)
    → ((b : Account) → StandsFor link b → check ≡ check_of b) → told ≡ told_as check role sent
    → IsSendable sent → Speaks said a before sent (Ok link) → SaysAs said role a link (Ok told)
says-ok role a link before sent check told said checks is can h = grind (arith)
