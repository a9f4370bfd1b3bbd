use Rattle.lapm_link.proofs.Names.{◌≡◌, ◌∙◌, Bool, false, None, arith, sym, ap, Links, Gives, Connected, Account, Said, where_says, Owes}
use Rattle.lapm_link.proofs.Saying.{gives_where, replied}
use Rattle.lapm_link.proofs.connected.Connected.say_reply.Goals as goal

pub returns-clause-gives : goal.returns-clause-gives
returns-clause-gives c = λ a h.
    gives_where a.owes.reply _ a (sym (ap (λ (owes : Owes). owes.reply) h.beside.owes_is) ∙ c.if-not-self.false)
    (c.say_ready.ensures.says (record a { owes = record a.owes { reply = false } })
    (record { sender_stands = h.sender_stands; beside = replied h.beside }))

-- it gives nothing where its condition doesn't hold
gives_nothing : {end : Connected} (b : Bool) (said : Said) (a : Account) → b ≡ false → Links end a → Gives (where_says b said) a end None
gives_nothing b said a e h = rw e h

pub returns-then-not-self-clause-gives : goal.returns-then-not-self-clause-gives
returns-then-not-self-clause-gives c = λ a h.
    let none : c.args.self.now.owes.reply ≡ false = grind arith in
    gives_nothing a.owes.reply _ a (sym (ap (λ (owes : Owes). owes.reply) h.beside.owes_is) ∙ none) h
