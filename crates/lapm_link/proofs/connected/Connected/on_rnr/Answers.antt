use Rattle.lapm_link.proofs.Names.{arith, ◌≡◌, ◌∙◌, ◌&&◌, ◌||◌, Bool, Result, Ok, Err, if◌then◌else◌, sym, ap, err_from_is_err_and, Becomes}
use Rattle.lapm_link.proofs.Names.{Links, Connected, Account, Owes, LinkFault}
use Rattle.lapm_sender.specs.Outgoing.{replied, acknowledged}
use Rattle.link_account.specs.Hear.{ends_wait, then_in}
use Rattle.lapm_link.specs.Taking.{taken_as}
use Rattle.lapm_link.proofs.connected.Connected.on_rnr.Goals as goal

-- a refused number stays refused
refused : (f : Account → Account) (r : Result Account LinkFault) (end : Connected) (fault : LinkFault) → Becomes r end (Err fault)
    → Becomes (then_in f r) end (Err fault)
refused f q1 end fault h = grind (arith)

pub returns-in_err-on_number-clause-becomes : goal.returns-in_err-on_number-clause-becomes
returns-in_err-on_number-clause-becomes c = λ a h.
    let p = err_from_is_err_and c.from_residual.result c.from_residual.ensures.1 in
    let nr = c.args.nr in
    let o = a.outgoing in
    let by : taken_as c.if-ends.meaning nr o ≡ (if ends_wait c.args.command c.args.pf a then replied nr o else acknowledged nr o) =
    grind (arith, c.ends_wait-ends.ensures a h) in
    rw (p.1, p.2, sym by) (refused _ _ _ _ (c.in_err-on_number.ensures.becomes a h))

-- what follows a number that is taken
goes_on : (f : Account → Account) (r : Result Account LinkFault) (end end' : Connected) → Becomes r end (Ok tt)
    → ((b : Account) → Links end b → Links end' (f b))
    → Becomes (then_in f r) end' (Ok tt)
goes_on f q1 end end' h k = grind (arith)

pub returns-clause-becomes : goal.returns-clause-becomes
returns-clause-becomes c = λ a h.
    let nr = c.args.nr in
    let o = a.outgoing in
    let polls = c.args.command && c.args.pf in
    let by : taken_as c.if-ends.meaning nr o ≡ (if ends_wait c.args.command c.args.pf a then replied nr o else acknowledged nr o) =
    grind (arith, c.ends_wait-ends.ensures a h) in
    let owes : Owes = c.on_number.new.self.owes in
    let reply : c.if-self.self ≡ (owes.reply || polls) = grind arith in
    rw (sym by)
    (goes_on _ _ c.on_number.new.self _ (c.in_ok-on_number.ensures.becomes a h) (λ b k. assumption (ap (λ
    (r : Bool). record owes { reply = r }) reply ∙ ap (λ (owes : Owes). record owes { reply = owes.reply || polls }) k.beside.owes_is)))
