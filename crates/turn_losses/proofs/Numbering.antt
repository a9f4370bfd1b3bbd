-- The numbers of both ends of a run.
use Rattle.turn_losses.proofs.Names.{inl, inr, ◌≡◌, ℕ, zero, suc, ◌+◌, ◌%◌, ◌<◌, ◌≤◌, Bool, true, false, cond, List, length, length-append}
use Rattle.turn_losses.proofs.Names.{arith, refl, sym, ◌∙◌, ap, subst, Option, Some, Role, Originator, Answerer, other, of, IsAllowed}
use Rattle.turn_losses.proofs.Names.{Account, is_connected, MayPlay, Link, Accounts, Spoken, Turn, unlinked-of, rates, is_linked, past}
use Rattle.turn_losses.proofs.Names.{sent_or, TimedRun, end_of}
use Rattle.link_account.proofs.Names.{IsPrefixOf}
use Rattle.link_run.proofs.Names.{RunsOver}
use Rattle.link_account.specs.Account.{first_terms}
use Rattle.link_account.specs.Laws.{TakesInOrder, AcknowledgesTaken}
use Rattle.link_run.specs.Laws.{RunsArePlays, HearingsArePlays, IsPlayed}
use Rattle.link_run.specs.Overheard.{AgreesByXid, has_passed, is_xid, agreed_terms}
use Rattle.turn_losses.proofs.Tracing.{release_of, end-turn, starts-fresh}
use Rattle.turn_losses.proofs.NumberHear.{ns_sent, Room, Fits, fits-second}
use Rattle.turn_losses.proofs.NumberTurn.{NumberTurn, number-turn, Begins, begins-turn}
use Rattle.turn_losses.proofs.Acknowledged.{Counts}
use Rattle.turn_losses.proofs.Expiries.{SendsFirst, end-answered}
use Rattle.link_run.proofs.Ending.{allowed-both}

-- what the laws of plays and of frames say
pub record Plays : Type 0 where
  pub runs : RunsArePlays
  pub hearings : HearingsArePlays
  pub in_order : TakesInOrder
  pub acked : AcknowledgesTaken
  pub agrees : AgreesByXid

prefix-length : (xs ys : List (List ℕ)) → IsPrefixOf xs ys → length xs ≤ length ys
prefix-length xs ys (rest, e) = let q = ap length e in omega (arith, q, length-append {A = List ℕ})

fronts-taken : Plays → (link : Link) → MayPlay link.orig.setup link.answ.setup → (ends : Accounts) (line : Role → List (Option Spoken))
    → IsPlayed link ends line → (role : Role)
    → (of role ends).outgoing.front ≤ length (of (other role) ends).incoming.taken
fronts-taken laws link m ends line p role = grind (arith)

taken-offered : Plays → (link : Link) → MayPlay link.orig.setup link.answ.setup → (ends : Accounts) (line : Role → List (Option Spoken))
    → IsPlayed link ends line → (role : Role)
    → length (of (other role) ends).incoming.taken ≤ length (of role ends).outgoing.pieces
taken-offered laws link m ends line p Originator =
    let h = prefix-length _ _ (laws.in_order link.orig.setup link.answ.setup p.events m).0 in
    let x = ap (λ (a : Account). length a.outgoing.pieces) (p.is_at Originator).account_is in
    let y = ap (λ (a : Account). length a.incoming.taken) (p.is_at Answerer).account_is in grind (arith)
taken-offered laws link m ends line p Answerer =
    let h = prefix-length _ _ (laws.in_order link.orig.setup link.answ.setup p.events m).1 in
    let x = ap (λ (a : Account). length a.outgoing.pieces) (p.is_at Answerer).account_is in
    let y = ap (λ (a : Account). length a.incoming.taken) (p.is_at Originator).account_is in grind (arith)

pub fits-at : Plays → (link : Link) (delay : Role → ℕ) (ts : List Turn) (ends : Accounts) → RunsOver link delay ts ends → (role : Role)
    → Fits (of role ends).terms
fits-at laws link delay ts ends run role = subst Fits (sym (laws.agrees link delay ts ends run role)) (by (has_passed is_xid role ts))
  where
    by : (b : Bool) → Fits (cond b (agreed_terms link) first_terms)
    by b = grind (arith, fits-second)

pub counts-of : Plays → (w : TimedRun) → MayPlay w.link.orig.setup w.link.answ.setup → (role : Role)
    → Counts (length w.ts) (end_of w role) (end_of w (other role))
counts-of laws w m role = record {
  own = numbers role;
  other = numbers (other role);
  acked = λ t l. let h = w.trace.happens t l in
      fronts-taken laws w.link m (w.deed t).mid _
      (laws.hearings w.link w.delay (past w.ts t) (w.state t) t (w.deed t).turn (w.deed t).mid w.keeps.delays h.carried h.run h.carries
      h.hearing) role;
  offered = λ t l. let h = w.trace.happens t l in
      taken-offered laws w.link m (w.state t) _ (laws.runs w.link w.delay (past w.ts t) (w.state t) w.keeps.delays h.carried h.run) role;
  room = λ t l c. rooms role t (omega (arith, l)) c;
  not_first = none role;
  begins = λ t l u c. (begun role t l u c).count;
  count_is = λ t. refl;
  answered = λ t l c c' h. elim (end-answered w role t l c c' h) [ inl x ↦ inl x | inr y ↦ inr (segment t y) ];
}
  where
    none : (r : Role) → is_connected (of r (w.state 0)).phase ≡ false
    none r = ap (λ (a : Account). is_connected a.phase) (starts-fresh w r)

    segment : (t : ℕ) → SendsFirst w role t
        → ns_sent (sent_or (of role (w.deed t).turn).sent) ≡ Some ((of role (w.deed t).mid).outgoing.front % 128)
    segment t (l, s) = ap (λ x. ns_sent (sent_or x)) ((w.trace.happens t l).speaking role).sent_is ∙ ap ns_sent s.sent

    numbers : (r : Role) (t : ℕ) → t < length w.ts → is_connected (of r (w.state t)).phase ≡ true
        → is_connected (of r (w.state (t + 1))).phase ≡ true
        → NumberTurn ((end_of w r).heard t) ((end_of w r).slot t) (of r (w.state t)) (of r (w.deed t).mid) (of r (w.state (t + 1)))
    numbers r t l ca cc' =
        let g = end-turn w r t l in
        subst (λ x. NumberTurn ((end_of w r).heard t) x (of r (w.state t)) (of r (w.deed t).mid) (of r (w.state (t + 1)))) (sym g.slot)
        (subst (NumberTurn ((end_of w r).heard t) g.said.sent (of r (w.state t)) (of r (w.deed t).mid)) (sym g.after)
        (number-turn g.in_turn (release_of w.link t (w.deed t).mid r) g.says
        (ap (λ (x : Account). is_connected x.phase) (sym g.after) ∙ cc') ca))

    fits-terms : (r : Role) (t : ℕ) → t < length w.ts → Fits (of r (w.state t)).terms
    fits-terms r t l = grind (arith, fits-at)

    begun : (r : Role) (t : ℕ) → t < length w.ts → is_linked (of r (w.state t)).phase ≡ false
        → is_connected (of r (w.state (t + 1))).phase ≡ true → Begins (of r (w.state (t + 1)))
    begun r t l ua cc' =
        let g = end-turn w r t l in
        let i = g.in_turn in
        subst Begins (sym g.after)
        (begins-turn i (release_of w.link t (w.deed t).mid r) g.says (ap (λ (x : Account). is_connected x.phase) (sym g.after) ∙ cc')
        (unlinked-of (rates w.tries w.period) t t r (of r (w.state t)).phase (of r (w.state t)) i.stands ua).timer
        (fits-terms r t l) (subst IsAllowed (ap (λ x. x.offer) (sym i.setup)) (allowed-both w.link m r)) ua)

    rooms : (r : Role) (t : ℕ) → t ≤ length w.ts → is_connected (of r (w.state t)).phase ≡ true → Room (of r (w.state t))
    rooms r zero l c = let wrong : true ≡ false = sym c ∙ none r in cc
    rooms r (suc t) l c = subst (λ n. Room (of r (w.state n))) (omega arith) (go (is_linked (of r (w.state t)).phase) refl
        (λ b. rooms r t (omega (arith, l)) b))
      where
        now : is_connected (of r (w.state (t + 1))).phase ≡ true
        now = subst (λ n. is_connected (of r (w.state n)).phase ≡ true) (omega arith) c

        go : (b : Bool) → is_linked (of r (w.state t)).phase ≡ b → (is_connected (of r (w.state t)).phase ≡ true → Room (of r (w.state t)))
            → Room (of r (w.state (t + 1)))
        go false q again = (begun r t (omega (arith, l)) q now).room
        go true q again =
            let before = (((w.trace.happens t (omega (arith, l))).polls r).timer now q).0 in
            (numbers r t (omega (arith, l)) before now).room (again before)
