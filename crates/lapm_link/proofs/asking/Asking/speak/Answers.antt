use Rattle.lapm_link.proofs.Names.{◌≡◌, List, ℕ, true, false, Result, Ok, Err, sym, ◌∙◌, ap, subst, Sent, TriesSo, IsUnlinked, Speaks}
use Rattle.lapm_link.proofs.Names.{StandsFor, AnyEnd, Attempt, Account, Said, u_try, LinkFault}
use Rattle.lapm_frames.specs.declared.frame.Frame.TheVariants.{Xid}
use Rattle.xid_params.specs.Offers.{written}
use Rattle.lapm_link.specs.declared.asking.Asking.{Asking}
use Rattle.lapm_link.specs.Attempt.{Tries, retried}
use Rattle.lapm_link.specs.Stands.{IsAsking}
use Rattle.lapm_link.proofs.asking.Asking.speak.Goals as goal

-- an end that tries its offer again still asks
asks : (asking : Asking) (attempt : Attempt) (a b : Account) → IsAsking asking a → Tries attempt b → b ≡ retried b a
    → IsAsking (record asking { attempt = attempt }) b
asks asking attempt a b h tries e = subst (λ (x : Account). IsAsking (record asking { attempt = attempt }) x) (sym e) (assumption (
  unlinked,
  tries.left_is ∙ ap (λ (x : Account). x.setup.tries) e,
))
  where
    unlinked : IsUnlinked asking.memory.setup asking.memory.answer (retried b a)
    unlinked = let u = h.unlinked in assumption

spoken : (r : Result Said LinkFault) (asking : Asking) (attempt : Attempt) (a : Account) (before sent : Sent) (end : AnyEnd)
    → IsAsking asking a
    → ((b : Account) → IsAsking (record asking { attempt = attempt }) b → StandsFor end b) → TriesSo r a attempt (Ok sent)
    → Speaks r a before sent (Ok end)
spoken (Ok said) asking attempt a before sent end h stands s =
    (s.sent_is, stands said.account (asks asking attempt a said.account h s.tries s.rest_is))
spoken (Err fault) asking attempt a before sent end h stands s = absurd s

pub returns-in-Ok-clause-speaks : goal.returns-in-Ok-clause-speaks
returns-in-Ok-clause-speaks c = λ a h.
    let front : 0 ≡ a.outgoing.front = ap (λ o. o.front) (sym h.unlinked.outgoing_is) in
    let offer : c.spelled.result ≡ written a.setup.offer = c.spelled.ensures.value ∙ ap (λ s. written s.offer) h.unlinked.setup_is in
    let tries = subst (λ (info : List ℕ). TriesSo (u_try c.args.turn (Xid true false info) a) a c.speak.new.self (Ok c.in-Ok.said)) offer
    (c.in-Ok.ensures.tries a h.tries h.unlinked.setup_is front) in
    spoken (u_try c.args.turn (Xid true false (written a.setup.offer)) a) c.args.self c.speak.new.self a c.args.sent.now c.in-Ok.said
    c.end.result h c.end.ensures.stands tries
