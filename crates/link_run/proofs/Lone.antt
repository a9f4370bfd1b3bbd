-- What arrives determines the run of one end.
use Rattle.std.proofs.Common.{◌≡◌, Bool, true, false, Result, Ok, Err, List, [], ◌∷◌, length, map, arith, refl, sym, ◌∙◌, ap, subst, Some}
use Rattle.link_account.proofs.Names.{Account, hear, Said, ReadsAllowed, KeepsTaken, LinkFault}
use Rattle.link_run.proofs.Names.{Party, given_break, has_finished, speaks_alone, spoken}
use Rattle.link_run.specs.Alone.{LoneTurn, lone_served, LoneGoing, OneLoneRun, LoneRun, LoneNext, Goes_on, Is_last, Is_faulty, Is_broken}
use Rattle.link_run.specs.Alone.{hangs_up, LoneHearingsDeliver, LoneSpeakingTakesNothing, EachLoneTurnIsMade}
use Rattle.link_run.proofs.Only.{one-ok}
use Rattle.link_run.proofs.Playing.{head-of}
use Rattle.link_run.proofs.Keeping.{stage, hears}
use Rattle.link_run.proofs.Speaking.{speaks}
use Rattle.link_run.proofs.Serving.{Handed, heard-waits, served-handed, spoken-handed}
use Rattle.link_run.proofs.Delivering.{Blank, heard-blank, spoken-blank, spoken-taken, serving-leaves, delivers-came}

one-going : (party : Party) (ts : List LoneTurn) (before : Account) (t u : LoneTurn) (a b : Account) → LoneGoing party ts before t a
    → LoneGoing party ts before u b → t.arrived ≡ u.arrived → (t ≡ u) × (a ≡ b)
one-going party ts before t u a b g k e =
    let turn = length ts in
    let m = one-ok g.hears (ap (λ x. hear turn x before) e ∙ k.hears) in
    let s = one-ok g.says (ap (λ x. speaks_alone party.user turn (lone_served party turn x)) m ∙ k.says) in (
      ap (λ z. record { arrived = z; sent = t.sent; given = t.given }) e
          ∙ ap (λ z. record { arrived = u.arrived; sent = z; given = t.given }) (g.sent ∙ ap (λ x. Some (spoken x)) s ∙ sym k.sent)
          ∙ ap (λ z. record { arrived = u.arrived; sent = u.sent; given = z }) (g.given ∙ ap given_break m ∙ sym k.given),
      g.after_is ∙ ap (λ (x : Said). x.account) s ∙ sym k.after_is,
    )

pub one_lone_run : OneLoneRun
one_lone_run party [] [] a b h k e = (refl, h ∙ sym k)
one_lone_run party [] (u ∷ us) a b h k e = absurd (omega (arith, ap length e))
one_lone_run party (t ∷ ts) [] a b h k e = absurd (omega (arith, ap length e))
one_lone_run party (t ∷ ts) (u ∷ us) a b h k e =
    let parts = head-of t.arrived u.arrived (map (λ (x : LoneTurn). x.arrived) ts) (map (λ (x : LoneTurn). x.arrived) us) e in
    let ih = one_lone_run party ts us h.0 k.0 h.1 k.1 parts.1 in
    let g : LoneGoing party ts h.0 u b =
    subst (λ x. LoneGoing party ts x u b) (sym ih.1) (subst (λ l. LoneGoing party l k.0 u b) (sym ih.0) k.2) in
    let s = one-going party ts h.0 t u a b h.2 g parts.0 in
    (ap (λ z. z ∷ ts) s.0 ∙ ap (λ l. u ∷ l) ih.0, s.1)

-- what the end has handed over, and that it took nothing before it was Connected
lone-kept : (reads : ReadsAllowed) (keeps : KeepsTaken) (party : Party) (ts : List LoneTurn) (a : Account) → LoneRun party ts a
    → Handed a × Blank a
lone-kept reads keeps party [] a h =
    subst (λ x. Handed x × Blank x) (sym h) (record { given = refl; told = refl }, record { taken = λ z. refl })
lone-kept reads keeps party (t ∷ ts) a h =
    let g = h.2 in
    let turn = length ts in
    let k = lone-kept reads keeps party ts h.0 h.1 in
    let heard = hears reads keeps turn t.arrived h.0 g.mid g.hears in
    let s = lone_served party turn g.mid in
    let left = serving-leaves party.user turn false g.mid in
    let spoken = speaks turn (has_finished party.user turn s.account) s.account g.said g.says in
    let blank : Blank g.mid = heard-blank h.0 g.mid k.1 heard in (
      subst Handed (sym g.after_is)
          (spoken-handed (has_finished party.user turn s.account) s.account g.said.account
          (served-handed party.user turn false g.mid (heard-waits h.0 g.mid k.0 heard)) spoken),
      subst Blank (sym g.after_is)
          (spoken-blank (has_finished party.user turn s.account) s.account g.said.account
          (record { taken = λ z. left.taken ∙ blank.taken (sym (ap stage left.phase) ∙ z) }) spoken),
    )

pub lone_hearings_deliver : ReadsAllowed → KeepsTaken → LoneHearingsDeliver
lone_hearings_deliver reads keeps party ts before t mid h e =
    let k = lone-kept reads keeps party ts before h in
    delivers-came before mid k.0 k.1 (hears reads keeps (length ts) t.arrived before mid e)

pub lone_speaking_takes_nothing : LoneSpeakingTakesNothing
lone_speaking_takes_nothing party ts before t after g =
    let turn = length ts in
    let s = lone_served party turn g.mid in
    ap (λ (a : Account). a.incoming.taken) g.after_is
    ∙ spoken-taken (has_finished party.user turn s.account) s.account g.said.account
    (speaks turn (has_finished party.user turn s.account) s.account g.said g.says)
    ∙ (serving-leaves party.user turn false g.mid).taken

pub each_lone_turn_is_made : EachLoneTurnIsMade
each_lone_turn_is_made party ts a arrived = heard (hear (length ts) arrived a) refl
  where
    said : (mid : Account) → hear (length ts) arrived a ≡ Ok mid → hangs_up mid ≡ false → (r : Result Said LinkFault)
        → speaks_alone party.user (length ts) (lone_served party (length ts) mid) ≡ r → LoneNext party ts a arrived
    said mid e n (Ok s) q =
        Goes_on (Some (spoken s)) (given_break mid) s.account
        (record { mid = mid; hears = e; going = n; said = s; says = q; sent = refl; given = refl; after_is = refl })
    said mid e n (Err fault) q =
        Is_broken (given_break mid) mid fault (record { hears = e; going = n; says = q; sent = refl; given = refl })

    closed : (mid : Account) → hear (length ts) arrived a ≡ Ok mid → (b : Bool) → hangs_up mid ≡ b → LoneNext party ts a arrived
    closed mid e true q = Is_last (given_break mid) mid (record { hears = e; closed = q; sent = refl; given = refl })
    closed mid e false q = said mid e q (speaks_alone party.user (length ts) (lone_served party (length ts) mid)) refl

    heard : (r : Result Account LinkFault) → hear (length ts) arrived a ≡ r → LoneNext party ts a arrived
    heard (Ok mid) e = closed mid e (hangs_up mid) refl
    heard (Err fault) e = Is_faulty fault (record { hears = e; sent = refl; given = refl })
