use Rattle.lapm_link.proofs.Names.{◌≡◌, sym, ap, ◌∙◌, StandsFor, AnyEnd, Account, Setup, Role, Originator, Answerer}
use Rattle.lapm_frames.specs.declared.seen.Seen.{Seen}
use Rattle.lapm_link.specs.declared.any_end.AnyEnd.TheVariants as ends
use Rattle.link_account.specs.Hear.{on_pattern}
use Rattle.lapm_link.proofs.detecting.Detecting.on_pattern.Goals as goal

-- the rule at this role and pattern
by_role : (end : AnyEnd) (turn : _) (a : Account) (r r' : Role) (s s' : Seen) → r ≡ r' → s ≡ s' → StandsFor end (on_pattern r' s' turn a)
    → StandsFor end (on_pattern r s turn a)
by_role end turn a r r' s s' e f h = rw (e, f) h

pub returns-in-Originator-Adp-clause-becomes : goal.returns-in-Originator-Adp-clause-becomes
returns-in-Originator-Adp-clause-becomes c = λ a h.
    let role : a.setup.role ≡ Originator = ap (λ (s : Setup). s.role) (sym h.unlinked.setup_is) ∙ c.in-Originator-Adp.is-0 in
    by_role _ c.args.turn a _ _ _ _ role c.in-Originator-Adp.is-1 (c.end.ensures.stands _ (c.new.ensures a role h.unlinked h.terms_are))

pub returns-in-Answerer-Odp-clause-becomes : goal.returns-in-Answerer-Odp-clause-becomes
returns-in-Answerer-Odp-clause-becomes c = λ a h.
    let role : a.setup.role ≡ Answerer = ap (λ (s : Setup). s.role) (sym h.unlinked.setup_is) ∙ c.in-Answerer-Odp.is-0 in
    by_role (ends.Detecting (record { memory = c.owe.new.self })) c.args.turn a _ _ _ _ role c.in-Answerer-Odp.is-1
    (record { phase_is = h.phase_is; unlinked = c.owe.ensures.account a h.unlinked; terms_are = h.terms_are })
