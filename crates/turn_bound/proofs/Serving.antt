use Rattle.std.proofs.lemmas.Option.{slice_get_within}
use Rattle.turn_bound.proofs.Names.{◌≡◌, ℕ, zero, suc, ◌+◌, ◌<◌, ◌≤◌, ◌&&◌, ◌⊎◌, not, Bool, true, false, cond, nat_lt, nat_le, List, []}
use Rattle.turn_bound.proofs.Names.{◌∷◌, length, length-append, inl, inr, arith, refl, sym, ◌∙◌, ap, subst, Option, Some, None, Outgoing}
use Rattle.turn_bound.proofs.Names.{wanted, is_connected, wants, Role, User, offered_at, offered_times, is_busy, next_break, Phase}
use Rattle.turn_bound.proofs.Names.{Connected, asked, asked_at}
use Rattle.link_account.proofs.Names.{with_piece, after_ask, Account}
use Rattle.link_account.proofs.Names.{after_offer, after_given, after_busy, OwnBreaks}
use Rattle.link_run.proofs.Names.{BreakLine, delivered, room_for, offered}
use Rattle.turn_bound.proofs.Run.{served_account}
use Rattle.turn_bound.proofs.Value.{Rates, AreRates, Sends, ends, sender_value, is_breaking, time_left, try_left, value, linked_lives}
use Rattle.turn_bound.proofs.Value.{lives, Unlinked, IsAck, IsSilent, Linked, Tries, Stands}
use Rattle.turn_bound.proofs.Sending.{offered-sends, ChangedWell, asked-well, same-breaks, ends-same}
use Rattle.turn_bound.proofs.Sender.{ends-is}
use Rattle.turn_bound.proofs.Hearing.{ends-both, same-unlinked}
use Rattle.link_run.proofs.Finishing.{offers-none}

-- what a user's file may change in a sender's part
pub record Longer (connected : Bool) (o new : Outgoing) : Type 0 where
  pub outgoing : new ≡ record o { pieces = new.pieces; ended = new.ended }
  pub longer : length o.pieces ≤ length new.pieces
  pub ended : o.ended ≡ true → (new.pieces ≡ o.pieces) × (new.ended ≡ true)
  pub unlinked : connected ≡ false → new ≡ o

same-longer : (connected : Bool) (o : Outgoing) → Longer connected o o
same-longer connected o = record { outgoing = refl; longer = omega arith; ended = λ e. (refl, e); unlinked = λ e. refl }

piece-longer : (o : Outgoing) (piece : List ℕ) → o.ended ≡ false → Longer true o (with_piece piece o)
piece-longer o piece e = grind (arith, length-append {A = List ℕ})

more-longer : (connected : Bool) (o n m : Outgoing) → Longer connected o n → Longer connected n m → Longer connected o m
more-longer connected o n m h k = grind (arith)

-- offers: the account with another sender's part
abbrev pub with_outgoing : Outgoing → Account → Account
with_outgoing o a = record a { outgoing = o }

pub record Offers (a b : Account) : Type 0 where
  pub only : b ≡ record a { outgoing = b.outgoing }
  pub longer : Longer (is_connected a.phase) a.outgoing b.outgoing

-- one offer, where a piece is wanted: there is less room, or the file has ended
offer-one : (file : List ℕ) (a : Account) → Offers a (offered_at file a (wants a))
offer-one file a = grind (arith, same-longer, piece-longer)

offer-times : (n : ℕ) (file : List ℕ) (a : Account) → Offers a (offered_times n file a)
offer-times zero file a = record { only = refl; longer = same-longer (is_connected a.phase) a.outgoing }
offer-times (suc n) file a =
    let b : Account = offered_at file a (wants a) in
    let h = offer-one file a in
    let k = offer-times n file b in
    let c : Account = offered_times n file b in grind (arith, more-longer)

none-more : (n : ℕ) (file : List ℕ) (a : Account)
    → ((b : Account) → b.outgoing.front + b.outgoing.window ≤ length b.outgoing.pieces + n → wants (offered_times n file b) ≡ None)
    → a.outgoing.front + a.outgoing.window ≤ length a.outgoing.pieces + suc n → wants (offered_times (suc n) file a) ≡ None
none-more n file a again h =
    go (is_connected a.phase) refl a.outgoing.ended refl (nat_lt (length a.outgoing.pieces) (a.outgoing.front + a.outgoing.window)) refl
  where
    stays : wants a ≡ None → wants (offered_times n file a) ≡ None
    stays e = ap wants (offers-none n file a e) ∙ e

    takes : (piece : List ℕ) → wants (offered_times n file (after_offer piece a)) ≡ None
    takes [] = grind (arith, offers-none)
    takes (octet ∷ octets) = again (after_offer (octet ∷ octets) a) (omega (arith, h, length-append {A = List ℕ}))

    go : (c : Bool) → is_connected a.phase ≡ c → (e : Bool) → a.outgoing.ended ≡ e → (l : Bool)
        → nat_lt (length a.outgoing.pieces) (a.outgoing.front + a.outgoing.window) ≡ l
        → wants (offered_times n file (offered_at file a (cond c (cond (not e && l) (Some (length a.outgoing.pieces)) None) None))) ≡ None
    go c f e g l t = grind (arith, stays, takes)

none-wanted : (n : ℕ) (file : List ℕ) (a : Account) → a.outgoing.front + a.outgoing.window ≤ length a.outgoing.pieces + n
    → wants (offered_times n file a) ≡ None
none-wanted zero file a h = grind (arith)
none-wanted (suc n) file a h = none-more n file a (λ b k. none-wanted n file b k) h

pub offers-well : (file : List ℕ) (a : Account) → Offers a (offered file a) × (wants (offered file a) ≡ None)
offers-well file a = (offer-times (room_for a) file a, none-wanted (room_for a) file a (omega arith))

-- What happens to an end between hearing and speaking.
pub record Served (turn breaks : ℕ) (busy : Bool) (a b : Account) : Type 0 where
  pub setup : b.setup ≡ a.setup
  pub phase : b.phase ≡ a.phase
  pub terms : b.terms ≡ a.terms
  pub numbered : b.numbered ≡ a.numbered
  pub wait : b.wait ≡ a.wait
  pub ack : b.their_breaks ≡ a.their_breaks
  pub special : b.special ≡ a.special
  pub answer : b.owes.answer ≡ a.owes.answer
  pub reply : b.owes.reply ≡ a.owes.reply
  pub busy_told : b.owes.busy_told ≡ a.owes.busy_told
  pub busy_now : is_connected a.phase ≡ true → b.owes.busy ≡ busy
  pub rej : b.incoming.rej ≡ a.incoming.rej
  pub gapped : b.incoming.gapped ≡ a.incoming.gapped
  pub srej : b.incoming.srej ≡ a.incoming.srej
  pub longer : Longer (is_connected a.phase) a.outgoing b.outgoing
  pub wants_none : wants b ≡ None
  pub own : (b.own_breaks ≡ a.own_breaks)
      ⊎ ((l : ℕ) × (b.own_breaks ≡ after_ask turn l a.own_breaks) × (length a.own_breaks.lengths < breaks) × (is_connected a.phase ≡ true))

-- everything but the breaks
abbrev pub before_asking : User → ℕ → Account → Account
before_asking user turn a = after_busy (is_busy turn user.busy) (offered user.file (after_given (delivered a)))

-- no break is taken, or the next one is
abbrev pub AskedOwn : ℕ → ℕ → Account → OwnBreaks → Type 0
AskedOwn turn breaks a own = (own ≡ a.own_breaks)
    ⊎ ((l : ℕ) × (own ≡ after_ask turn l a.own_breaks) × (length a.own_breaks.lengths < breaks) × (is_connected a.phase ≡ true))

-- the account with what changes in serving it
abbrev served_as : Account → ℕ → ℕ → Outgoing → Bool → OwnBreaks → Account
served_as a given told outgoing busy own = record a {
  incoming = record a.incoming { given = given };
  breaks_told = told;
  outgoing = outgoing;
  owes = record a.owes { busy = busy };
  own_breaks = own;
}

-- What changes: what was delivered and told, pieces that are offered, whether the user is busy, and a break.
pub record ServedBy (user : User) (turn : ℕ) (a b : Account) : Type 0 where
  pub from : Account  -- once its user has what was delivered
  pub from_is : from.outgoing ≡ a.outgoing
  pub given : ℕ
  pub told : ℕ
  pub busy : Bool
  pub own : OwnBreaks
  pub is : b ≡ served_as a given told (offered user.file from).outgoing busy own
  pub busy_now : is_connected a.phase ≡ true → busy ≡ is_busy turn user.busy
  pub longer : Longer (is_connected a.phase) a.outgoing (offered user.file from).outgoing
  pub none : cond (is_connected a.phase) (wanted (offered user.file from).outgoing) None ≡ None
  pub own_is : AskedOwn turn (length user.breaks) a own

abbrev with_busy : Bool → Account → Account
with_busy busy b = record b { owes = record b.owes { busy = busy } }

abbrev with_own : OwnBreaks → Account → Account
with_own own b = record b { own_breaks = own }

busy-is : (busy : Bool) (b : Account) → (y : Bool) × (after_busy busy b ≡ with_busy y b) × (is_connected b.phase ≡ true → y ≡ busy)
busy-is busy b = go (is_connected b.phase) refl
  where
    go : (c : Bool) → is_connected b.phase ≡ c → (y : Bool)
        × (cond c (with_busy busy b) b ≡ with_busy y b)
        × (is_connected b.phase ≡ true → y ≡ busy)
    go true e = (busy, refl, λ f. refl)
    go false e = (b.owes.busy, refl, λ f. let wrong : true ≡ false = sym f ∙ e in cc)

before-by : (user : User) (turn : ℕ) (a : Account)
    → (s : ServedBy user turn a (before_asking user turn a)) × (s.own ≡ a.own_breaks)
before-by user turn a = go (is_connected a.phase)
  where
    by : (given : ℕ) → (g : Account) → g ≡ record a {
      incoming = record a.incoming { given = given };
      breaks_told = length
          a.their_breaks.lengths;
    }
        → (s : ServedBy user turn a (after_busy (is_busy turn user.busy) (offered user.file g))) × (s.own ≡ a.own_breaks)
    by given g e =
        let k = offers-well user.file g in
        let f : Account = offered user.file g in
        let x = busy-is (is_busy turn user.busy) f in
        let phase : f.phase ≡ a.phase = ap (λ b. b.phase) (k.0.only ∙ ap (with_outgoing f.outgoing) e) in (
          record {
            from = g;
            from_is = ap (λ b. b.outgoing) e;
            given = given;
            told = length a.their_breaks.lengths;
            busy = x.0;
            own = a.own_breaks;
            is = x.1 ∙ ap (with_busy x.0) (k.0.only ∙ ap (with_outgoing f.outgoing) e);
            busy_now = λ c. x.2 (ap is_connected phase ∙ c);
            longer = subst (λ b. Longer (is_connected b.phase) b.outgoing f.outgoing) e k.0.longer;
            none = ap (λ p. cond (is_connected p) (wanted f.outgoing) None) (sym phase) ∙ k.1;
            own_is = inl refl;
          },
          refl,
        )

    go : (c : Bool) → (s : ServedBy user turn a (after_busy (is_busy turn user.busy)
        (offered user.file (after_given (cond c (record a { incoming = record a.incoming { given = length a.incoming.taken } }) a)))))
        × (s.own ≡ a.own_breaks)
    go true = by (length a.incoming.taken) _ refl
    go false = by a.incoming.given _ refl

pub serves-own : (user : User) (turn : ℕ) (a : Account) → (before_asking user turn a).own_breaks ≡ a.own_breaks
serves-own user turn a = let s = before-by user turn a in ap (λ b. b.own_breaks) s.0.is ∙ s.1

pub serves-phase : (user : User) (turn : ℕ) (a : Account) → (before_asking user turn a).phase ≡ a.phase
serves-phase user turn a = ap (λ b. b.phase) (before-by user turn a).0.is

asked-own : (turn : ℕ) (released : Bool) (breaks : List BreakLine) (m : Account)
    → (own : OwnBreaks) × (asked turn released breaks m ≡ with_own own m) × AskedOwn turn (length breaks) m own
asked-own turn true breaks m = (m.own_breaks, refl, inl refl)
asked-own turn false breaks m = by (next_break breaks m) refl
  where
    by : (n : Option BreakLine) → next_break breaks m ≡ n
        → (own : OwnBreaks) × (asked_at turn n m ≡ with_own own m) × AskedOwn turn (length breaks) m own
    by None e = (m.own_breaks, refl, inl refl)
    by (Some b) e = on (nat_le b.turn turn) (is_connected m.phase) refl
      where
        on : (x c : Bool) → is_connected m.phase ≡ c → (own : OwnBreaks)
            × (cond x (cond c (record m { own_breaks = after_ask turn b.length_octet m.own_breaks }) m) m ≡ with_own own m)
            × AskedOwn turn (length breaks) m own
        on false c f = (m.own_breaks, refl, inl refl)
        on true false f = (m.own_breaks, refl, inl refl)
        on true true f = (
          after_ask turn b.length_octet m.own_breaks,
          refl,
          inr (b.length_octet, refl, slice_get_within breaks (length m.own_breaks.lengths) b e, f),
        )

pub served-by : (user : User) (turn : ℕ) (released : Bool) (a : Account) → ServedBy user turn a (served_account user turn released a)
served-by user turn released a =
    let s = (before-by user turn a).0 in
    let own = serves-own user turn a in
    let phase = serves-phase user turn a in
    let x = asked-own turn released user.breaks (before_asking user turn a) in
    record {
      from = s.from;
      from_is = s.from_is;
      given = s.given;
      told = s.told;
      busy = s.busy;
      own = x.0;
      is = x.1 ∙ ap (with_own x.0) s.is;
      busy_now = s.busy_now;
      longer = s.longer;
      none = s.none;
      own_is = elim x.2 [
        | inl q ↦ inl (q ∙ own)
        | inr z ↦ inr (
          z.0,
          z.1 ∙ ap (after_ask turn z.0) own,
          subst (λ o. length o.lengths < length user.breaks) own z.2,
          ap is_connected (sym phase) ∙ z.3,
        )
      ];
    }

pub serves-all : (user : User) (turn : ℕ) (released : Bool) (a : Account)
    → Served turn (length user.breaks) (is_busy turn user.busy) a (served_account user turn released a)
serves-all user turn released a =
    let s = served-by user turn released a in
    subst (Served turn (length user.breaks) (is_busy turn user.busy) a) (sym s.is) (record {
      setup = refl;
      phase = refl;
      terms = refl;
      numbered = refl;
      wait = refl;
      ack = refl;
      special = refl;
      answer = refl;
      reply = refl;
      busy_told = refl;
      busy_now = s.busy_now;
      rej = refl;
      gapped = refl;
      srej = refl;
      longer = s.longer;
      wants_none = s.none;
      own = s.own_is;
    })

pub record ServesAs (z : Rates) (total breaks turn : ℕ) (role : Role) (p : Phase) (a b : Account) : Type 0 where
  pub stands : Stands z (turn + 1) turn role p b
  pub falls : value z total breaks turn role p b + ends z.room (lives turn role p a)
      (lives turn role p b) ≤ value z total breaks turn role p a

-- where the end isn't Connected
pub record Unserved (a b : Account) : Type 0 where
  pub terms : b.terms ≡ a.terms
  pub wait : b.wait ≡ a.wait
  pub ack : b.their_breaks ≡ a.their_breaks
  pub outgoing : b.outgoing ≡ a.outgoing
  pub own : b.own_breaks ≡ a.own_breaks

unserved-unlinked : (a b : Account) → Unserved a b → Unlinked a → Unlinked b
unserved-unlinked a b h u = same-unlinked a b u h.outgoing (ap (λ w. w.timer) h.wait) h.own (ap (λ t. t.ack) h.ack) h.terms

unserved-tries : (z : Rates) (before turn : ℕ) (a b : Account) → Unserved a b → Tries z before turn a → Tries z before turn b
unserved-tries z before turn a b h t = grind (arith)

unserved-try : (z : Rates) (turn : ℕ) (a b : Account) → Unserved a b → try_left z turn b ≡ try_left z turn a
unserved-try z turn a b h = ap (λ w. try_left z turn (record a { wait = w })) h.wait

unserved : (z : Rates) (turn : ℕ) (role : Role) (p : Phase) (a b : Account) → is_connected p ≡ false → Unserved a b
    → Stands z (turn + 1) turn role p a
    → Stands z (turn + 1) turn role p b × (lives turn role p b ≡ lives turn role p a)
    × (time_left z turn role p b ≡ time_left z turn role p a)
unserved z turn role p a b c h s = grind (arith, unserved-unlinked, unserved-tries, unserved-try)

asked-length : (turn l breaks : ℕ) (b : OwnBreaks) → length b.lengths < breaks → length (after_ask turn l b).lengths ≤ breaks
asked-length turn l breaks b h = grind (arith, length-append {A = ℕ})

-- where it is
served-connected : (z : Rates) (total breaks turn : ℕ) (busy : Bool) (role : Role) (a b : Account) → AreRates z
    → Linked z (turn + 1) turn role a → a.phase ≡ Connected → Served turn breaks busy a b
    → ServesAs z total breaks turn role Connected a b
served-connected z total breaks turn busy role a b y h e s = record {
  stands = record { sends = sends; breaks = own.sound; ack = subst (λ t. IsAck t.ack) (sym s.ack) h.ack; silent = silent role h.silent };
  falls = omega (arith, sender, own.falls, both);
}
  where
    timer : b.wait.timer ≡ a.wait.timer
    timer = ap (λ w. w.timer) s.wait

    sends : Sends z (turn + 1) turn b.outgoing b.wait.timer
    sends = grind (arith, offered-sends)

    sender : sender_value z total turn b.outgoing b.wait.timer ≡ sender_value z total turn a.outgoing a.wait.timer
    sender = ap (λ r. sender_value z total turn b.outgoing r) timer ∙ ap (λ o. sender_value z total turn o a.wait.timer) s.longer.outgoing

    changed : (b.own_breaks ≡ a.own_breaks)
        ⊎ ((l : ℕ) × (b.own_breaks ≡ after_ask turn l a.own_breaks) × (length a.own_breaks.lengths < breaks)
        × (is_connected a.phase ≡ true)) → ChangedWell z breaks turn a.own_breaks b.own_breaks
    changed (inl same) = subst (ChangedWell z breaks turn a.own_breaks) (sym same) (same-breaks z breaks turn a.own_breaks h.breaks)
    changed (inr (l, same, less, linked)) =
        subst (ChangedWell z breaks turn a.own_breaks) (sym same)
        (asked-well z breaks turn l a.own_breaks y h.breaks (asked-length turn l breaks a.own_breaks less))

    own : ChangedWell z breaks turn a.own_breaks b.own_breaks
    own = changed s.own

    both : ends z.room (linked_lives turn a) (linked_lives turn b) ≤ 0 + ends z.room (is_breaking turn a.own_breaks)
        (is_breaking turn b.own_breaks)
    both = grind (arith, ends-both, ends-is, ends-same)

    silent : (r : Role) → IsSilent r a.numbered a.outgoing.high a.wait.timer → IsSilent r b.numbered b.outgoing.high b.wait.timer
    silent r i = grind (arith)

pub serves-well : (z : Rates) (total breaks turn : ℕ) (busy : Bool) (role : Role) (p : Phase) (a b : Account) → AreRates z
    → Stands z (turn + 1) turn role p a → a.phase ≡ p → Served turn breaks busy a b
    → ServesAs z total breaks turn role p a b
serves-well z total breaks turn busy role p a b y h e s = go (is_connected p) refl
  where
    dead : is_connected p ≡ false
        → (b.own_breaks ≡ a.own_breaks)
        ⊎ ((l : ℕ) × (b.own_breaks ≡ after_ask turn l a.own_breaks) × (length a.own_breaks.lengths < breaks)
        × (is_connected a.phase ≡ true)) → b.own_breaks ≡ a.own_breaks
    dead c x = grind (arith)

    go : (c : Bool) → is_connected p ≡ c → ServesAs z total breaks turn role p a b
    go false c = grind (arith, dead, unserved)
    go true c = connected p c h e
      where
        connected : (q : Phase) → is_connected q ≡ true → Stands z (turn + 1) turn role q a → a.phase ≡ q
            → ServesAs z total breaks turn role q a b
        connected Connected c k f = served-connected z total breaks turn busy role a b y k f s
        connected q c k f = cc
