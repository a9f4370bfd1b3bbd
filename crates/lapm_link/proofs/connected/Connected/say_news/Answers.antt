use Rattle.lapm_link.proofs.Names.{◌∙◌, Bool, if◌then◌else◌, None, sym, ap, subst, Gives, Owes}
use Rattle.lapm_receiver.specs.Incoming.{asks}
use Rattle.link_account.specs.Speak.{says_asking}
use Rattle.lapm_link.proofs.connected.Connected.say_news.Goals as goal

pub returns-clause-gives : goal.returns-clause-gives
returns-clause-gives c = λ a h.
    let asking = says_asking a.incoming.srej c.args.special (asks a.incoming) a in
    let idle = sym (ap (λ (owes : Owes). owes.busy) h.beside.owes_is) ∙ c.if-self.false in
    rw (sym (c.if-has_news.ensures a h))
    (subst (λ (busy : Bool). Gives (if busy then None else asking) a c.say_asking.new.self c.say_asking.result) (sym idle)
    (c.say_asking.ensures.gives a h))

pub returns-then-self-clause-gives : goal.returns-then-self-clause-gives
returns-then-self-clause-gives c = λ a h.
    let asking = says_asking a.incoming.srej c.args.special (asks a.incoming) a in
    let busy = sym (ap (λ (owes : Owes). owes.busy) h.beside.owes_is) ∙ c.if-self.true in
    rw (sym (c.if-has_news.ensures a h))
    (subst (λ (busy : Bool). Gives (if busy then None else asking) a c.args.self.now None) (sym busy) h)
