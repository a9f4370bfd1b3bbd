-- Speaking keeps a play good.
use Rattle.link_account.proofs.Names.{◌≡◌, ℕ, ◌≤◌, ◌&&◌, Bool, true, false, List, [], ◌∷◌, ◌++◌, length, arith, refl, sym, ◌∙◌, ap, subst}
use Rattle.link_account.proofs.Names.{Option, Some, None, Result, Ok, Err, ◌⊎◌, inr, false≢true, OwnBreaks, Frame, Disc, Dm, Sabme, Ua, Xid}
use Rattle.link_account.proofs.Names.{Sent, Incoming, next_expected, Outgoing, Account, Wait, trying, Slot, Said, frame_for, says, speak}
use Rattle.link_account.proofs.Names.{Answer, Phase, Closed, Connected, Detecting, Establishing, Negotiating, Releasing, Setup}
use Rattle.link_account.proofs.Names.{is_originator, LinkFault, BadAck, NotDetected, PeerRefused, PeerReset, Spent, Role, Answerer}
use Rattle.link_account.proofs.Names.{Originator, written}
use Rattle.std.proofs.Common.{inl}
use Rattle.link_account.proofs.Flow.{IsAskable, all_snoc}
use Rattle.link_account.proofs.Ends.{segment_of, asked_of, Goes, line-quiet, back-told}
use Rattle.link_account.proofs.Linked.{Linked, Same, IsNumbered, IsLinked, SaysWell, steps-well}
use Rattle.link_account.proofs.SpeakWays.{Answers, Tries, ConnectedWays, Ways, by-ways, linked-alike, tries-alike, retimed, Breaks}
use Rattle.link_account.proofs.SpeakWays.{Undetected, Spends, why-broken}
use Rattle.link_account.proofs.Good.{rank, FromO, FromA, DueA, NotSabme, SabmeFirst, PlaceO, PlaceA, NoneNumbered, LineO, LineA, terms_of}
use Rattle.link_account.proofs.Good.{Good, linked-o, linked-a, changed-o, changed-a}
use Rattle.lapm_frames.specs.declared.sent.Sent.TheVariants as slots
use Rattle.link_account.specs.declared.answer.Answer.TheVariants as answers

-- two ends of ours break for want of answers alone
abbrev pub IsHarmless : LinkFault → Type 0
IsHarmless NotDetected = Unit {0}
IsHarmless (Spent segment since) = Unit {0}
IsHarmless (BadAck nr va high) = ⊥
IsHarmless (PeerReset va vr) = ⊥
IsHarmless PeerRefused = ⊥

abbrev pub OnSaid : (Said → Type 0) → Result Said LinkFault → Type 0
OnSaid P (Ok said) = P said
OnSaid P (Err fault) = IsHarmless fault

by-result : (P : Said → Type 0) (turn : ℕ) (release : Bool) (a : Account) → Ways P turn release a → OnSaid P (speak turn release a)
by-result P turn release a h = go (speak turn release a) refl
  where
    harmless : (fault : LinkFault) → Breaks turn release a fault → IsHarmless fault
    harmless fault (Undetected p r l e) = subst IsHarmless (sym e) tt
    harmless fault (Spends x e) = subst IsHarmless (sym e) tt

    go : (r : Result Said LinkFault) → speak turn release a ≡ r → OnSaid P r
    go (Ok said) e = by-ways P turn release a h said e
    go (Err fault) e = harmless fault (why-broken turn release a fault e)

abbrev pub slot_of : Said → ℕ → Slot
slot_of said told = record { sent = said.sent; number = said.number; told = told }

-- The timers come first.

pub record Timed (wo wi : ℕ) (srej : Bool) (a : Account) (po : Outgoing) (pi : Incoming) (line back : List Slot)
    (b : Account) : Type 0 where
  pub linked : Linked wo wi srej b po pi line back
  pub same : Same a b
  pub numbered : b.numbered ≡ a.numbered
  pub incoming : b.incoming ≡ a.incoming

timed : (wo wi : ℕ) (srej : Bool) (a : Account) (po : Outgoing) (pi : Incoming) (line back : List Slot)
    → Linked wo wi srej a po pi line back
    → (count : ℕ) (awaited : Bool) (w : Wait) (own : OwnBreaks) → Timed wo wi srej a po pi line back (retimed a count awaited w own)
timed wo wi srej a po pi line back h count awaited w own = record {
  linked = record { own = h.own; theirs = h.theirs; own_window = h.own_window; their_window = h.their_window; srej_is = h.srej_is };
  same = record { setup = refl; phase = refl; answer = refl };
  numbered = refl;
  incoming = refl;
}

linked-speaks : (wo wi : ℕ) (srej : Bool) (a : Account) (po : Outgoing) (pi : Incoming) (line back : List Slot) (turn : ℕ)
    (P : Said → Type 0) → Linked wo wi srej a po pi line back
    → ((b : Account) → Timed wo wi srej a po pi line back b → Answers P b)
    → ((b : Account) (said : Said) → Timed wo wi srej a po pi line back b
    → SaysWell wo wi srej b po pi line back (next_expected b.incoming) said → P said) → ConnectedWays P turn a
linked-speaks wo wi srej a po pi line back turn P h first f = linked-alike P turn a
    (λ count awaited w own. let b = retimed a count awaited w own in let t = timed wo wi srej a po pi line back h count awaited w own in
    steps-well wo wi srej b po pi line back t.linked turn a.special P (first b t) (λ said s. f b said t s))

-- An originator speaks.

first-snoc : (line : List Slot) (slot : Slot) → SabmeFirst line → NotSabme slot.sent ⊎ NoneNumbered line → SabmeFirst (line ++ slot ∷ [])
first-snoc [] slot h e = (λ n. tt, tt)
first-snoc (s ∷ line) slot h (inl no_sabme) =
    (λ n. all_snoc (λ t. NotSabme t.sent) line slot (h.0 n) no_sabme, first-snoc line slot h.1 (inl no_sabme))
first-snoc (s ∷ line) slot h (inr none) = (λ n. absurd (none.0 n), first-snoc line slot h.1 (inr none.1))

said-o : (so sa : Setup) (o a : Account) (lo la : List Slot) → Good so sa o a lo la → (b : Account) (sent : Sent) (n told : ℕ)
    → b.setup ≡ o.setup → b.owes.answer ≡ o.owes.answer → b.phase ≡ o.phase → PlaceO (terms_of so sa) b.phase b
    → FromO so (rank o.phase) sent n told → NotSabme sent ⊎ (rank o.phase ≤ 2) → (rank o.phase ≤ 2 → IsNumbered sent → ⊥)
    → Goes (terms_of so sa).window_o (terms_of so sa).srej b.outgoing a.incoming
    (lo ++ (record { sent = sent; number = n; told = told }) ∷ []) la
    → Goes (terms_of so sa).window_a (terms_of so sa).srej a.outgoing b.incoming la
    (lo ++ (record { sent = sent; number = n; told = told }) ∷ [])
    → Good so sa b a (lo ++ (record { sent = sent; number = n; told = told }) ∷ []) la
said-o so sa o a lo la h b sent n told setup answer phase place from sabme unnumbered oa ao = record {
  deal = h.deal;
  setup_o = setup ∙ h.setup_o;
  setup_a = h.setup_a;
  place_o = place;
  place_a = h.place_a;
  answer_o = answer ∙ h.answer_o;
  answer_a = subst (λ k. DueA k (rank a.phase) a.owes.answer) ranks h.answer_a;
  line_o = subst (λ k. LineO so k (lo ++ slot ∷ [])) ranks
      (all_snoc (λ s. FromO so (rank o.phase) s.sent s.number s.told) lo slot h.line_o from);
  line_a = subst (λ k. LineA sa k (rank a.phase) la) ranks h.line_a;
  sabme_first = first-snoc lo slot h.sabme_first (elim sabme [ inl no_sabme ↦ inl no_sabme | inr low ↦ inr (h.early low).0 ]);
  early = λ e. let low : rank o.phase ≤ 2 = omega (arith, e, ranks) in
      (all_snoc (λ s. IsNumbered s.sent → ⊥) lo slot (h.early low).0 (unnumbered low), (h.early low).1);
  numbered = λ e. all_snoc (λ s. NotSabme s.sent) lo slot (h.numbered e)
      (elim sabme [ inl no_sabme ↦ no_sabme | inr low ↦ absurd (false≢true (sym (h.early low).1 ∙ e)) ]);
  met = λ z. omega (arith, h.met z, ranks);
  flow_oa = oa;
  flow_ao = ao;
}
  where
    slot : Slot
    slot = record { sent = sent; number = n; told = told }

    ranks : rank o.phase ≡ rank b.phase
    ranks = ap rank (sym phase)

abbrev pub SaidO : Setup → Setup → ℕ → Account → List Slot → List Slot → Said → Type 0
SaidO so sa told a lo la said = Good so sa said.account a (lo ++ slot_of said told ∷ []) la

-- what is no segment, from an account that is already as it is to be
quiet-o : (so sa : Setup) (o a : Account) (lo la : List Slot) → Good so sa o a lo la → (sent : Sent) → segment_of sent 0 ≡ []
    → asked_of sent 0 ≡ None
    → FromO so (rank o.phase) sent 0 (next_expected o.incoming) → NotSabme sent ⊎ (rank o.phase ≤ 2)
    → (rank o.phase ≤ 2 → IsNumbered sent → ⊥) → SaidO so sa (next_expected o.incoming) a lo la (says sent o)
quiet-o so sa o a lo la h sent none unasked from sabme unnumbered =
    said-o so sa o a lo la h o sent 0 (next_expected o.incoming) refl refl refl h.place_o from sabme unnumbered
    (line-quiet (terms_of so sa).window_o (terms_of so sa).srej o.outgoing a.incoming lo la
    (record { sent = sent; number = 0; told = next_expected o.incoming }) none h.flow_oa)
    (back-told (terms_of so sa).window_a (terms_of so sa).srej a.outgoing o.incoming la lo sent 0 h.flow_ao
    (askable (asked_of sent 0) unasked))
  where
    askable : (m : Option ℕ) → m ≡ None → IsAskable (length o.incoming.taken) a.outgoing.high m
    askable x e = grind (arith)

o-waits : (so sa : Setup) (o a : Account) (lo la : List Slot) → Good so sa o a lo la → (w : Wait)
    → Good so sa (record o { wait = w }) a lo la
o-waits so sa o a lo la g w =
    changed-o so sa o a lo la g (record o { wait = w }) refl refl (omega arith) (place o.phase g.place_o) g.met g.flow_oa g.flow_ao
  where
    place : (p : Phase) → PlaceO (terms_of so sa) p o → PlaceO (terms_of so sa) p (record o { wait = w })
    place Detecting k = k
    place Negotiating k = k
    place Establishing k = k
    place Connected k = k
    place Releasing k = k
    place Closed k = k

o-tries : (so sa : Setup) (o a : Account) (lo la : List Slot) → Good so sa o a lo la → (turn : ℕ) (frame : Frame)
    → segment_of (slots.Frame frame) 0 ≡ [] → asked_of (slots.Frame frame) 0 ≡ None
    → FromO so (rank o.phase) (slots.Frame frame) 0 (next_expected o.incoming) → NotSabme (slots.Frame frame) ⊎ (rank o.phase ≤ 2)
    → (rank o.phase ≤ 2 → IsNumbered (slots.Frame frame) → ⊥)
    → Tries (SaidO so sa (next_expected o.incoming) a lo la) turn frame o
o-tries so sa o a lo la g turn frame none unasked from sabme unnumbered = tries-alike
    (SaidO so sa (next_expected o.incoming) a lo la) turn frame o
    (λ w. quiet-o so sa (record o { wait = w }) a lo la (o-waits so sa o a lo la g w)
    (slots.Frame frame) none unasked from sabme unnumbered)
    (quiet-o so sa o a lo la g slots.Flags refl refl tt (inl tt) (λ low n. n))

linked-from-o : (so : Setup) (k : ℕ) (sent : Sent) (n told : ℕ) → IsLinked sent n told → FromO so k sent n told
linked-from-o so k (slots.Frame (Xid true pf info)) n told h = absurd h
linked-from-o so k (slots.Frame (Sabme pf)) n told h = absurd h
linked-from-o so k (slots.Frame (Disc pf)) n told h = absurd h
linked-from-o so k (slots.Frame frame) n told h = h
linked-from-o so k slots.Flags n told h = h
linked-from-o so k slots.Mark n told h = h
linked-from-o so k slots.Odp n told h = tt
linked-from-o so k slots.Adp n told h = h

linked-no-sabme : (sent : Sent) (n told : ℕ) → IsLinked sent n told → NotSabme sent
linked-no-sabme (slots.Frame (Sabme pf)) n told h = h
linked-no-sabme sent n told h = tt

o-linked-speaks : (so sa : Setup) (o a : Account) (lo la : List Slot) → Good so sa o a lo la → o.phase ≡ Connected → (turn : ℕ)
    → ConnectedWays (SaidO so sa (next_expected o.incoming) a lo la) turn o
o-linked-speaks so sa o a lo la g e turn =
    linked-speaks wo wi srej o a.outgoing a.incoming lo la turn (SaidO so sa (next_expected o.incoming) a lo la)
    (linked-o so sa o a lo la g (subst (λ p. PlaceO (terms_of so sa) p o) e g.place_o))
    (λ b w d q. let wrong : None ≡ Some d = sym g.answer_o ∙ (w.same.answer ∙ q) in cc)
    (λ b said w s. subst (λ i. SaidO so sa (next_expected i) a lo la said) w.incoming (well b said w s))
  where
    wo : ℕ
    wo = (terms_of so sa).window_o

    wi : ℕ
    wi = (terms_of so sa).window_a

    srej : Bool
    srej = (terms_of so sa).srej

    well : (b : Account) (said : Said) → Timed wo wi srej o a.outgoing a.incoming lo la b
        → SaysWell wo wi srej b a.outgoing a.incoming lo la (next_expected b.incoming) said
        → SaidO so sa (next_expected b.incoming) a lo la said
    well b said w s =
        let at : b.phase ≡ Connected = sym w.same.phase ∙ e in
        let then : said.account.phase ≡ Connected = sym s.same.phase ∙ at in
        let now : Good so sa b a lo la =
        changed-o so sa o a lo la g b (sym w.same.setup) (sym w.same.answer) (omega (arith, ap rank w.same.phase))
        (subst (λ p. PlaceO (terms_of so sa) p b) (sym at) (w.linked.own_window, w.linked.their_window, w.linked.srej_is))
        (λ z. omega (arith, g.met z, ap rank w.same.phase)) w.linked.own w.linked.theirs in
        said-o so sa b a lo la now said.account said.sent said.number (next_expected b.incoming) (sym s.same.setup) (sym s.same.answer)
        (sym s.same.phase)
        (subst (λ p. PlaceO (terms_of so sa) p said.account) (sym then) (s.linked.own_window, s.linked.their_window, s.linked.srej_is))
        (linked-from-o so (rank b.phase) said.sent said.number (next_expected b.incoming) s.spelled)
        (inl (linked-no-sabme said.sent said.number (next_expected b.incoming) s.spelled))
        (λ low n. omega (arith, low, ap rank at)) s.linked.own s.linked.theirs

o-ways : (so sa : Setup) (o a : Account) (lo la : List Slot) → Good so sa o a lo la → (turn : ℕ) (release : Bool)
    → Ways (SaidO so sa (next_expected o.incoming) a lo la) turn release o
o-ways so sa o a lo la g turn release = record {
  answers = λ alone d e. let wrong : None ≡ Some d = sym g.answer_o ∙ e in cc;
  flags = λ alone e. quiet-o so sa o a lo la g slots.Flags refl refl tt (inl tt) (λ low n. n);
  mark = λ p r e. let wrong : Originator ≡ Answerer = sym (ap (λ s. s.role) g.setup_o ∙ g.deal.role_o) ∙ r in cc;
  odp = λ p r l. quiet-o so sa o a lo la g slots.Odp refl refl tt (inl tt) (λ low n. n);
  xid = λ p r. o-tries so sa o a lo la g turn _ refl refl (ap (λ s. written s.offer) g.setup_o) (inl tt) (λ low n. n);
  sabme = λ p. o-tries so sa o a lo la g turn _ refl refl (omega (arith, ap rank p)) (inr (omega (arith, ap rank p))) (λ low n. n);
  linked = λ p r. o-linked-speaks so sa o a lo la g p turn;
  releases = λ p r. o-tries so sa (trying Releasing turn o) a lo la
      (changed-o so sa o a lo la g (trying Releasing turn o) refl refl (omega (arith, ap rank p))
      (subst (λ q. PlaceO (terms_of so sa) q o) p g.place_o) (λ z. absurd (omega (arith, g.met z, ap rank p))) g.flow_oa g.flow_ao)
      turn _ refl refl (omega arith) (inl tt) (λ low n. n);
  disc = λ p. o-tries so sa o a lo la g turn _ refl refl (omega (arith, ap rank p)) (inl tt) (λ low n. n);
}

pub o-speaks : (so sa : Setup) (o a : Account) (lo la : List Slot) → Good so sa o a lo la → (turn : ℕ) (release : Bool)
    → OnSaid (SaidO so sa (next_expected o.incoming) a lo la) (speak turn release o)
o-speaks so sa o a lo la g turn release =
    by-result (SaidO so sa (next_expected o.incoming) a lo la) turn release o (o-ways so sa o a lo la g turn release)

-- An answerer speaks.

said-a : (so sa : Setup) (o a : Account) (lo la : List Slot) → Good so sa o a lo la → (b : Account) (sent : Sent) (n told : ℕ)
    → b.setup ≡ a.setup → DueA (rank o.phase) (rank a.phase) b.owes.answer → b.phase ≡ a.phase → b.numbered ≡ a.numbered
    → PlaceA (terms_of so sa) b.phase b → FromA sa (rank o.phase) (rank a.phase) sent n told
    → Goes (terms_of so sa).window_o (terms_of so sa).srej o.outgoing b.incoming lo
    (la ++ (record { sent = sent; number = n; told = told }) ∷ [])
    → Goes (terms_of so sa).window_a (terms_of so sa).srej b.outgoing o.incoming
    (la ++ (record { sent = sent; number = n; told = told }) ∷ []) lo
    → Good so sa o b lo (la ++ (record { sent = sent; number = n; told = told }) ∷ [])
said-a so sa o a lo la h b sent n told setup answer phase numbered place from oa ao = record {
  deal = h.deal;
  setup_o = h.setup_o;
  setup_a = setup ∙ h.setup_a;
  place_o = h.place_o;
  place_a = place;
  answer_o = h.answer_o;
  answer_a = subst (λ k. DueA (rank o.phase) k b.owes.answer) ranks answer;
  line_o = h.line_o;
  line_a = subst (λ k. LineA sa (rank o.phase) k (la ++ slot ∷ [])) ranks
      (all_snoc (λ s. FromA sa (rank o.phase) (rank a.phase) s.sent s.number s.told) la slot h.line_a from);
  sabme_first = h.sabme_first;
  early = λ e. ((h.early e).0, numbered ∙ (h.early e).1);
  numbered = λ e. h.numbered (sym numbered ∙ e);
  met = λ z. h.met (ranks ∙ z);
  flow_oa = oa;
  flow_ao = ao;
}
  where
    slot : Slot
    slot = record { sent = sent; number = n; told = told }

    ranks : rank a.phase ≡ rank b.phase
    ranks = ap rank (sym phase)

abbrev pub SaidA : Setup → Setup → ℕ → Account → List Slot → List Slot → Said → Type 0
SaidA so sa told o lo la said = Good so sa o said.account lo (la ++ slot_of said told ∷ [])

quiet-a : (so sa : Setup) (o a : Account) (lo la : List Slot) → Good so sa o a lo la → (sent : Sent) → segment_of sent 0 ≡ []
    → asked_of sent 0 ≡ None
    → FromA sa (rank o.phase) (rank a.phase) sent 0 (next_expected a.incoming)
    → SaidA so sa (next_expected a.incoming) o lo la (says sent a)
quiet-a so sa o a lo la h sent none unasked from =
    said-a so sa o a lo la h a sent 0 (next_expected a.incoming) refl h.answer_a refl refl h.place_a from
    (back-told (terms_of so sa).window_o (terms_of so sa).srej o.outgoing a.incoming lo la sent 0 h.flow_oa
    (askable (asked_of sent 0) unasked))
    (line-quiet (terms_of so sa).window_a (terms_of so sa).srej a.outgoing o.incoming la lo
    (record { sent = sent; number = 0; told = next_expected a.incoming }) none h.flow_ao)
  where
    askable : (m : Option ℕ) → m ≡ None → IsAskable (length a.incoming.taken) o.outgoing.high m
    askable x e = grind (arith)

-- nothing is due any more
a-answered : (so sa : Setup) (o a : Account) (lo la : List Slot) → Good so sa o a lo la
    → Good so sa o (record a { owes = record a.owes { answer = None } }) lo la
a-answered so sa o a lo la g =
    changed-a so sa o a lo la g (record a { owes = record a.owes { answer = None } }) refl tt (omega arith) (place a.phase g.place_a)
    (λ e. (g.early e).1) g.numbered g.flow_oa g.flow_ao
  where
    place : (p : Phase) → PlaceA (terms_of so sa) p a → PlaceA (terms_of so sa) p (record a { owes = record a.owes { answer = None } })
    place Detecting k = k
    place Negotiating k = k
    place Establishing k = k
    place Connected k = k
    place Releasing k = k
    place Closed k = k

a-answers : (so sa : Setup) (o a : Account) (lo la : List Slot) → Good so sa o a lo la → Answers
    (SaidA so sa (next_expected a.incoming) o lo la) a
a-answers so sa o a lo la g d e = go d (subst (DueA (rank o.phase) (rank a.phase)) e g.answer_a)
  where
    none : Good so sa o (record a { owes = record a.owes { answer = None } }) lo la
    none = a-answered so sa o a lo la g

    go : (d : Answer) → DueA (rank o.phase) (rank a.phase) (Some d)
        → SaidA so sa (next_expected a.incoming) o lo la (says (frame_for d a) (record a { owes = record a.owes { answer = None } }))
    go answers.Adp due = quiet-a so sa o _ lo la none slots.Adp refl refl tt
    go answers.Xid due = quiet-a so sa o _ lo la none _ refl refl (ap (λ s. written s.offer) g.setup_a, due)
    go (answers.Ua pf) due = quiet-a so sa o _ lo la none (slots.Frame (Ua pf)) refl refl tt
    go (answers.Dm pf) due = quiet-a so sa o _ lo la none (slots.Frame (Dm pf)) refl refl due

linked-from-a : (sa : Setup) (k m : ℕ) (sent : Sent) (n told : ℕ) → IsLinked sent n told → FromA sa k m sent n told
linked-from-a sa k m (slots.Frame (Xid false pf info)) n told h = absurd h
linked-from-a sa k m (slots.Frame (Ua pf)) n told h = absurd h
linked-from-a sa k m (slots.Frame (Dm pf)) n told h = absurd h
linked-from-a sa k m (slots.Frame frame) n told h = h
linked-from-a sa k m slots.Flags n told h = h
linked-from-a sa k m slots.Mark n told h = tt
linked-from-a sa k m slots.Odp n told h = h
linked-from-a sa k m slots.Adp n told h = tt

a-linked-speaks : (so sa : Setup) (o a : Account) (lo la : List Slot) → Good so sa o a lo la → a.phase ≡ Connected → (turn : ℕ)
    → ConnectedWays (SaidA so sa (next_expected a.incoming) o lo la) turn a
a-linked-speaks so sa o a lo la g e turn =
    linked-speaks wo wi srej a o.outgoing o.incoming la lo turn (SaidA so sa (next_expected a.incoming) o lo la)
    (linked-a so sa o a lo la g (subst (λ p. PlaceA (terms_of so sa) p a) e g.place_a))
    (λ b w. subst (λ i. Answers (SaidA so sa (next_expected i) o lo la) b) w.incoming (a-answers so sa o b lo la (now b w)))
    (λ b said w s. subst (λ i. SaidA so sa (next_expected i) o lo la said) w.incoming (well b said w s))
  where
    wo : ℕ
    wo = (terms_of so sa).window_a

    wi : ℕ
    wi = (terms_of so sa).window_o

    srej : Bool
    srej = (terms_of so sa).srej

    now : (b : Account) → Timed wo wi srej a o.outgoing o.incoming la lo b → Good so sa o b lo la
    now b w =
        let at : b.phase ≡ Connected = sym w.same.phase ∙ e in
        changed-a so sa o a lo la g b (sym w.same.setup)
        (subst (λ d. DueA (rank o.phase) (rank b.phase) d) w.same.answer
        (subst (λ p. DueA (rank o.phase) (rank p) a.owes.answer) w.same.phase g.answer_a)) (omega (arith, ap rank w.same.phase))
        (subst (λ p. PlaceA (terms_of so sa) p b) (sym at) (w.linked.own_window, w.linked.their_window, w.linked.srej_is))
        (λ low. w.numbered ∙ (g.early low).1) (λ t. g.numbered (sym w.numbered ∙ t)) w.linked.theirs w.linked.own

    well : (b : Account) (said : Said) → Timed wo wi srej a o.outgoing o.incoming la lo b
        → SaysWell wo wi srej b o.outgoing o.incoming la lo (next_expected b.incoming) said
        → SaidA so sa (next_expected b.incoming) o lo la said
    well b said w s =
        let then : said.account.phase ≡ Connected = sym s.same.phase ∙ (sym w.same.phase ∙ e) in
        said-a so sa o b lo la (now b w) said.account said.sent said.number (next_expected b.incoming) (sym s.same.setup)
        (subst (λ d. DueA (rank o.phase) (rank b.phase) d) s.same.answer (now b w).answer_a) (sym s.same.phase) s.numbered
        (subst (λ p. PlaceA (terms_of so sa) p said.account) (sym then) (s.linked.own_window, s.linked.their_window, s.linked.srej_is))
        (linked-from-a sa (rank o.phase) (rank b.phase) said.sent said.number (next_expected b.incoming) s.spelled) s.linked.theirs
        s.linked.own

a-ways : (so sa : Setup) (o a : Account) (lo la : List Slot) → Good so sa o a lo la → (turn : ℕ) (release : Bool)
    → Ways (SaidA so sa (next_expected a.incoming) o lo la) turn release a
a-ways so sa o a lo la g turn release = record {
  answers = λ alone. a-answers so sa o a lo la g;
  flags = λ alone e. quiet-a so sa o a lo la g slots.Flags refl refl tt;
  mark = λ p r e. quiet-a so sa o a lo la g slots.Mark refl refl tt;
  odp = λ p r l. never r;
  xid = λ p r. never r;
  sabme = λ p. absurd (subst (λ q. PlaceA (terms_of so sa) q a) p g.place_a);
  linked = λ p r. a-linked-speaks so sa o a lo la g p turn;
  releases = λ p r. never (originator a.setup.role release r);
  disc = λ p. absurd (subst (λ q. PlaceA (terms_of so sa) q a) p g.place_a);
}
  where
    never : {A : Type 0} → a.setup.role ≡ Originator → A
    never r = let wrong : Answerer ≡ Originator = sym (ap (λ s. s.role) g.setup_a ∙ g.deal.role_a) ∙ r in cc

    originator : (r : Role) (b : Bool) → (b && is_originator r) ≡ true → r ≡ Originator
    originator x b e = grind (arith)

pub a-speaks : (so sa : Setup) (o a : Account) (lo la : List Slot) → Good so sa o a lo la → (turn : ℕ) (release : Bool)
    → OnSaid (SaidA so sa (next_expected a.incoming) o lo la) (speak turn release a)
a-speaks so sa o a lo la g turn release =
    by-result (SaidA so sa (next_expected a.incoming) o lo la) turn release a (a-ways so sa o a lo la g turn release)
