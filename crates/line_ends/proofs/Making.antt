-- What is heard makes a next turn.
use Rattle.std.proofs.Common.{arith, ◌≡◌, length, sym, ◌∙◌, subst, None}
use Rattle.line_ends.proofs.Names.{Answerer, EachTurnIsMade, HeardIn, HeardTurnsAreMade, Hears, IsHeardOf, MakesTurn}
use Rattle.line_ends.proofs.Names.{OneIsCarried, Originator, Role, SamplesAreCarried, ScriptsHaveDelays, ScriptsMayPlay, Side}
use Rattle.line_ends.proofs.Names.{Turn, check_of, link_of, of, other}
use Rattle.link_run.proofs.Only.{hearing-of}

pub record Makes : Type 0 where
  pub play : ScriptsMayPlay
  pub delays : ScriptsHaveDelays
  pub carried : SamplesAreCarried
  pub one : OneIsCarried
  pub made : EachTurnIsMade

pub heard-turns-are-made : Makes → HeardTurnsAreMade
heard-turns-are-made laws c files ts ends h run well = record { turn = m.turn; mid = m.mid; outcome = m.outcome; heard = heard; is = m.is }
  where
    side : Role → Side
    side role = record { heard = (well role).heard; check = check_of (of role ends); sent = None; given = None }

    first : Turn
    first = record { orig = side Originator; answ = side Answerer }

    heard-first : HeardIn c ts first
    heard-first y = grind (arith)

    same-first : (role : Role) → (of role first).heard ≡ (well role).heard
    same-first role = grind (arith)

    m : MakesTurn (link_of c.script files) ts ends (λ role. (of role first).heard)
    m = grind (arith, heard-first)

    hears : Hears (length ts) ends m.turn m.mid
    hears = hearing-of (link_of c.script files) ts ends m.turn m.mid m.outcome m.is

    heard : HeardIn c ts m.turn
    heard role =
        let e : (of role m.turn).heard ≡ (well role).heard = m.heard_is role ∙ same-first role in
        record {
          heard_of = subst (λ x. IsHeardOf c (other role) ts (of role m.turn).check x) (sym e)
              (subst (λ x. IsHeardOf c (other role) ts x (well role).heard) (sym (hears role).check_is) (well role).is);
          well = λ f. (well role).well (sym e ∙ f);
        }
