use Rattle.lapm_link.proofs.Names.{◌≡◌, ◌∙◌, ◌||◌, Bool, false, if◌then◌else◌, Some, Ok, Err, sym, ap, subst, Links, Becomes, Connected}
use Rattle.lapm_link.proofs.Names.{Account, owing, Owes, Setup, is_originator}
use Rattle.link_account.specs.declared.answer.Answer.TheVariants as answers
use Rattle.link_account.specs.Hear.{on_sabme, peer_reset}
use Rattle.lapm_link.proofs.connected.Connected.on_sabme.Goals as goal
use Rattle.lapm_link.proofs.connected.Connected.on_sabme.Goals.{then-self-via-then-self, then-self-via-else-self+then-is_originator}

pub returns-then-self-clause-becomes : goal.returns-then-self-clause-becomes
returns-then-self-clause-becomes c = λ a h. elim c.then-self.branch [
  | then-self-via-then-self w ↦ rw (sym h.beside.numbered_is ∙ w.if-self.true) (c.peer_reset.ensures a h)
  | then-self-via-else-self+then-is_originator w ↦
      let role = ap (λ (setup : Setup). is_originator setup.role) h.beside.setup_is in
      rw (sym h.beside.numbered_is ∙ w.if-self.false, sym role ∙ sym w.if-is_originator.ensures) (c.peer_reset.ensures a h)
]

-- an answerer that has heard no number
owes_ua : (end : Connected) (pf : Bool) (a : Account) → (a.numbered || is_originator a.setup.role) ≡ false
    → Links end (owing (answers.Ua pf) a)
    → Becomes (on_sabme pf a) end (Ok tt)
owes_ua end pf a e h =
    subst (λ (b : Bool). Becomes (if b then Err (peer_reset a) else Ok (owing (answers.Ua pf) a)) end (Ok tt)) (sym e) h

pub returns-clause-becomes : goal.returns-clause-becomes
returns-clause-becomes c = λ a h.
    let numbered = sym h.beside.numbered_is ∙ c.if-self.false in
    let role = ap (λ (setup : Setup). is_originator setup.role) h.beside.setup_is in
    owes_ua _ c.args.pf a (ap (λ b. b || is_originator a.setup.role) numbered ∙ sym role ∙ sym c.if-is_originator.ensures)
    (assumption (ap (λ (owes : Owes). record owes { answer = Some (answers.Ua c.args.pf) }) h.beside.owes_is))
