-- What holds once the originator was told to release, and in the end.
use Rattle.std.proofs.Common.{arith, ◌≡◌, ℕ, ◌≤◌, Bool, List, [], ◌∷◌, length, refl, sym, ◌∙◌, ap, subst, Option}
use Rattle.link_account.proofs.Names.{Role, Originator, Answerer, of, IsPrefixOf, IsAllowed, ReadsAllowed, KeepsTaken, Account, fresh, Play}
use Rattle.link_account.proofs.Names.{MayPlay}
use Rattle.link_run.proofs.Names.{Accounts, AcknowledgesTaken, AnswersGiven, GivesBreaksInOrder, Hears, HearsPrefixes, HoldPrefixes}
use Rattle.link_run.proofs.Names.{IsOffered, Link, RunOf, TakesInOrder, TakesPrefixes, Turn, arrival, delivered, is_released, served}
use Rattle.link_run.proofs.Names.{served_at}
use Rattle.link_run.proofs.Keeping.{GoesOn, hears}
use Rattle.link_run.proofs.Speaking.{Speaks}
use Rattle.link_run.proofs.Serving.{served-alone}
use Rattle.link_run.proofs.Running.{Reaches, told, speaks-at, hearing-reaches, run-reaches}
use Rattle.link_run.proofs.Cutting.{fresh-cuts, heard-cuts, served-cuts, spoken-cuts, begins-file}
use Rattle.link_run.specs.Run as run

-- what holds of each end by itself, all through a run
pub record IsKept (P : Role → Account → Type 0) (link : Link) : Type 0 where
  pub begins : (r : Role) → P r (fresh (of r link).setup)
  pub hears : (r : Role) (a b : Account) → P r a → GoesOn a b → P r b
  pub serves : (r : Role) (turn : ℕ) (released : Bool) (a : Account) → P r a → P r (served (of r link).user turn released a).account
  pub speaks : (r : Role) (release : Bool) (a b : Account) → P r a → Speaks release a b → P r b

abbrev pub AtBoth : (Role → Account → Type 0) → Accounts → Type 0
AtBoth P ends = (r : Role) → P r (of r ends)

pub kept-heard : (reads : ReadsAllowed) (keeps : KeepsTaken) (P : Role → Account → Type 0) (link : Link) → IsKept P link
    → (turn : ℕ) (before : Accounts) (t : Turn) (mid : Accounts) → AtBoth P before → Hears turn before t mid → AtBoth P mid
kept-heard reads keeps P link k turn before t mid h e r =
    k.hears r (of r before) (of r mid) (h r) (hears reads keeps turn (arrival (of r t).heard) (of r before) (of r mid) (e r).hears)

pub kept-run : (reads : ReadsAllowed) (keeps : KeepsTaken) (P : Role → Account → Type 0) (link : Link) → IsKept P link
    → (ts : List Turn) (ends : Accounts) → RunOf link ts ends → AtBoth P ends
kept-run reads keeps P link k [] ends h = subst (AtBoth P) (sym h) starts
  where
    starts : (r : Role) → P r (of r (run.start link))
    starts Originator = k.begins Originator
    starts Answerer = k.begins Answerer
kept-run reads keeps P link k (t ∷ ts) ends h =
    let g = h.2 in
    let turn = length ts in
    let m = kept-heard reads keeps P link k turn h.0 t g.mid (kept-run reads keeps P link k ts h.0 h.1) g.hearing in
    λ r.
    let s = g.speaking r in
    subst (P r) (sym s.after_is)
    (k.speaks r (told link turn g.mid r) (served_at link turn g.mid r).account s.said.account
    (k.serves r turn (is_released g.mid.orig.phase) (of r g.mid) (m r)) (speaks-at link turn g.mid r s.said s.says))

-- an end keeps its setup
abbrev pub HasSetup : Link → Role → Account → Type 0
HasSetup link r a = a.setup ≡ (of r link).setup

heard-setup : (a b : Account) → GoesOn a b → b.setup ≡ a.setup
heard-setup a b x = grind (arith)

spoken-setup : (release : Bool) (a b : Account) → Speaks release a b → b.setup ≡ a.setup
spoken-setup release a b x = grind (arith)

delivered-setup : (a : Account) → (delivered a).setup ≡ a.setup
delivered-setup a = grind (arith)

pub setups-kept : (link : Link) → IsKept (HasSetup link) link
setups-kept link = record {
  begins = λ r. refl;
  hears = λ r a b h g. heard-setup a b g ∙ h;
  serves = λ r turn released a h. ap (λ (b : Account). b.setup) (served-alone (of r link).user turn released a) ∙ delivered-setup a ∙ h;
  speaks = λ r release a b h g. spoken-setup release a b g ∙ h;
}

-- an end's segments are cut from its file
abbrev pub HasCut : Link → Role → Account → Type 0
HasCut link r a = IsOffered (of r link).user.file a

pub cuts-kept : (link : Link) → ((r : Role) → IsAllowed (of r link).setup.offer) → IsKept (HasCut link) link
cuts-kept link allowed = record {
  begins = λ r. fresh-cuts (of r link).user.file (of r link).setup (allowed r);
  hears = λ r a b h g. heard-cuts (of r link).user.file a b h g;
  serves = λ r turn released a h. served-cuts (of r link).user turn released a h;
  speaks = λ r release a b h g. spoken-cuts (of r link).user.file release a b h g;
}

-- what the laws of plays say of two accounts
pub record Facts (o a : Account) : Type 0 where
  pub taken_a : IsPrefixOf a.incoming.taken o.outgoing.pieces
  pub taken_o : IsPrefixOf o.incoming.taken a.outgoing.pieces
  pub acked_o : o.outgoing.front ≤ length a.incoming.taken
  pub acked_a : a.outgoing.front ≤ length o.incoming.taken
  pub given_a : IsPrefixOf a.their_breaks.lengths o.own_breaks.lengths
  pub given_o : IsPrefixOf o.their_breaks.lengths a.own_breaks.lengths
  pub answered_o : o.own_breaks.answered ≤ length a.their_breaks.lengths
  pub answered_a : a.own_breaks.answered ≤ length o.their_breaks.lengths

pub record PlayLaws : Type 0 where
  pub in_order : TakesInOrder
  pub taken : AcknowledgesTaken
  pub breaks : GivesBreaksInOrder
  pub answers : AnswersGiven

pub facts : (laws : PlayLaws) (link : Link) → MayPlay link.orig.setup link.answ.setup
    → (ends : Accounts) (line : Role → List (Option run.Spoken)) → Reaches link ends line → Facts ends.orig ends.answ
facts laws link m ends line p =
    let so = link.orig.setup in
    let sa = link.answ.setup in
    let es = p.leads.events in
    subst (λ (q : Play). Facts q.originator.account q.answerer.account) p.leads.led (record {
      taken_a = (laws.in_order so sa es m).0;
      taken_o = (laws.in_order so sa es m).1;
      acked_o = (laws.taken so sa es m).0;
      acked_a = (laws.taken so sa es m).1;
      given_a = (laws.breaks so sa es).0;
      given_o = (laws.breaks so sa es).1;
      answered_o = (laws.answers so sa es).0;
      answered_a = (laws.answers so sa es).1;
    })

abbrev pub allowed-both : (link : Link) → MayPlay link.orig.setup link.answ.setup → (r : Role) → IsAllowed (of r link).setup.offer
allowed-both link m Originator = m.offer_o
allowed-both link m Answerer = m.offer_a

-- what was taken begins the files
prefixes : (link : Link) (ends : Accounts) → Facts ends.orig ends.answ → AtBoth (HasCut link) ends → HoldPrefixes link ends
prefixes link ends f c Originator = begins-file link.answ.user.file ends.answ ends.orig.incoming.taken (c Answerer) f.taken_o
prefixes link ends f c Answerer = begins-file link.orig.user.file ends.orig ends.answ.incoming.taken (c Originator) f.taken_a

pub takes_prefixes : ReadsAllowed → KeepsTaken → PlayLaws → TakesPrefixes
takes_prefixes reads keeps laws link delay ts ends v =
    prefixes link ends (facts laws link v.may_play ends _ (run-reaches reads keeps link delay ts ends v.delays v.carried v.run))
    (kept-run reads keeps (HasCut link) link (cuts-kept link (allowed-both link v.may_play)) ts ends v.run)

pub hears_prefixes : ReadsAllowed → KeepsTaken → PlayLaws → HearsPrefixes
hears_prefixes reads keeps laws link delay ts ends t mid v n k =
    let kept = cuts-kept link (allowed-both link v.may_play) in
    prefixes link mid (facts laws link v.may_play mid _
    (hearing-reaches link delay ts ends (length ts) t mid v.delays
    (run-reaches reads keeps link delay ts ends v.delays v.carried v.run) n k))
    (kept-heard reads keeps (HasCut link) link kept (length ts) ends t mid (kept-run reads keeps (HasCut link) link kept ts ends v.run) k)
