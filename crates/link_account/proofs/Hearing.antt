-- Hearing keeps a play good.
use Rattle.link_account.proofs.Names.{◌≡◌, ℕ, ◌≤◌, ◌||◌, Bool, true, false, cond, List, ◌∷◌, arith, refl, sym, ◌∙◌, ap, subst, Option, Some}
use Rattle.link_account.proofs.Names.{None, Result, Ok, Err, Frame, Disc, Dm, I, Rej, Rnr, Rr, Sabme, Srej, Ua, Xid, Frmr, Test, Sent}
use Rattle.link_account.proofs.Names.{Account, window_for, connected, hear, on_closed, on_connected, on_detecting, on_disc, on_establishing}
use Rattle.link_account.proofs.Names.{on_frame, on_negotiating, on_nothing, on_pattern, on_releasing, on_sabme, on_seen, on_xid_command}
use Rattle.link_account.proofs.Names.{on_xid_response, owing, peer_reset, trying, without_adp, Slot, arrives, Answer, Phase, Closed}
use Rattle.link_account.proofs.Names.{Connected, Detecting, Establishing, Negotiating, Releasing, Setup, is_originator, other, LinkFault}
use Rattle.link_account.proofs.Names.{Role, Answerer, Originator, offer_in, written, agree}
use Rattle.link_account.proofs.Ends.{Goes}
use Rattle.link_account.proofs.Linked.{IsNumbered, IsLinked, HearsWell, hears-linked, counts_as_numbered}
use Rattle.link_account.proofs.Good.{rank, DueA, IsFresh, PlaceO, PlaceA, NoSabme, terms_of, Good, linked-o, linked-a, lost-o, lost-a}
use Rattle.link_account.proofs.Good.{changed-o, changed-a}
use Rattle.lapm_frames.specs.declared.sent.Sent.TheVariants as slots
use Rattle.lapm_frames.specs.declared.seen.Seen.TheVariants as seen
use Rattle.link_account.specs.declared.answer.Answer.TheVariants as answers

-- what an answerer hears leaves all well
abbrev pub WellA : Setup → Setup → Account → List Slot → List Slot → Result Account LinkFault → Type 0
WellA so sa o lo la (Ok b) = Good so sa o b lo la
WellA so sa o lo la (Err fault) = ⊥

abbrev pub WellO : Setup → Setup → Account → List Slot → List Slot → Result Account LinkFault → Type 0
WellO so sa a lo la (Ok b) = Good so sa b a lo la
WellO so sa a lo la (Err fault) = ⊥

abbrev pub framed : Frame → ℕ → ℕ → Slot
framed frame n told = record { sent = slots.Frame frame; number = n; told = told }

role-a : (so sa : Setup) (o a : Account) (lo la : List Slot) → Good so sa o a lo la → a.setup.role ≡ Answerer
role-a so sa o a lo la g = ap (λ s. s.role) g.setup_a ∙ g.deal.role_a

role-o : (so sa : Setup) (o a : Account) (lo la : List Slot) → Good so sa o a lo la → o.setup.role ≡ Originator
role-o so sa o a lo la g = ap (λ s. s.role) g.setup_o ∙ g.deal.role_o

counts-not : (frame : Frame) (b : Bool) → (IsNumbered (slots.Frame frame) → ⊥) → b ≡ false → counts_as_numbered frame b ≡ false
counts-not frame b no_more e = grind (arith)

counts-so : (P : Type 0) (frame : Frame) (b : Bool) → (IsNumbered (slots.Frame frame) → P) → (b ≡ true → P)
    → counts_as_numbered frame b ≡ true → P
counts-so P (I ns nr pf info) b f g e = f tt
counts-so P (Rr command nr pf) b f g e = f tt
counts-so P (Rnr command nr pf) b f g e = f tt
counts-so P (Rej command nr pf) b f g e = f tt
counts-so P (Srej command nr pf) b f g e = f tt
counts-so P frame b f g e = g e

module _ (so sa : Setup) (o a : Account) (lo la : List Slot) where
  abbrev BeforeA : Slot → Type 0
  BeforeA slot = Good so sa o a (slot ∷ lo) la

  abbrev BeforeO : Slot → Type 0
  BeforeO slot = Good so sa o a lo (slot ∷ la)

  abbrev IsWellA : Result Account LinkFault → Type 0
  IsWellA = WellA so sa o lo la

  abbrev IsWellO : Result Account LinkFault → Type 0
  IsWellO = WellO so sa a lo la

  left-o : (slot : Slot) → BeforeA slot → Good so sa o a lo la
  left-o slot h = lost-o so sa o a slot lo la h

  left-a : (slot : Slot) → BeforeO slot → Good so sa o a lo la
  left-a slot h = lost-a so sa o a slot lo la h

  a-xid : Good so sa o a lo la → rank a.phase ≤ 1 → IsFresh a → (info : List ℕ)
      → info ≡ written so.offer → IsWellA (Ok (on_xid_command (offer_in info) a))
  a-xid g low fresh info e =
      subst (λ m. IsWellA (Ok (on_xid_command m a))) (sym (ap offer_in e ∙ g.deal.read_o))
      (changed-a so sa o a lo la g (owing answers.Xid (record a { phase = Negotiating; terms = agree so.offer a.setup.offer })) refl
      (omega arith) low
      (fresh, ap (λ s. agree so.offer s.offer) g.setup_a) (λ e. (g.early e).1) g.numbered g.flow_oa g.flow_ao)

  a-connects : Good so sa o a lo la → rank a.phase ≤ 3 → IsFresh a
      → a.terms ≡ terms_of so sa → (pf : Bool) (turn : ℕ) → Good so sa o (owing (answers.Ua pf) (connected turn a)) lo la
  a-connects g low fresh terms pf turn =
      changed-a so sa o a lo la g (owing (answers.Ua pf) (connected turn a)) refl tt low (
        own (role-a so sa o a lo la g) ∙ ap (λ t. t.window_a) terms,
        theirs (role-a so sa o a lo la g) ∙ ap (λ t. t.window_o) terms,
        ap (λ t. t.srej) terms,
      ) (λ e. (g.early e).1) g.numbered
      (subst (λ i. Goes (terms_of so sa).window_o (terms_of so sa).srej o.outgoing i lo la) fresh.1 g.flow_oa)
      (subst (λ p. Goes (terms_of so sa).window_a (terms_of so sa).srej p o.incoming la lo) fresh.0 g.flow_ao)
    where
      own : a.setup.role ≡ Answerer → window_for a.setup.role a.terms ≡ a.terms.window_a
      own e = subst (λ r. window_for r a.terms ≡ a.terms.window_a) (sym e) refl

      theirs : a.setup.role ≡ Answerer → window_for (other a.setup.role) a.terms ≡ a.terms.window_o
      theirs e = subst (λ r. window_for (other r) a.terms ≡ a.terms.window_o) (sym e) refl

  a-linked : (turn n told : ℕ) (frame : Frame) → BeforeA (framed frame n told) → a.phase ≡ Connected → IsLinked (slots.Frame frame) n told
      → IsWellA (on_connected frame turn a)
  a-linked turn n told frame h e spelled =
      go (on_connected frame turn a)
      (hears-linked (terms_of so sa).window_a (terms_of so sa).window_o
      (terms_of so sa).srej a o.outgoing o.incoming la lo turn n told frame
      (linked-a so sa o a (framed frame n told ∷ lo) la h (subst (λ p. PlaceA (terms_of so sa) p a) e h.place_a)) spelled)
    where
      go : (r : Result Account LinkFault)
          → HearsWell (terms_of so sa).window_a (terms_of so sa).window_o (terms_of so sa).srej a o.outgoing o.incoming la lo
          (counts_as_numbered frame a.numbered) r → IsWellA r
      go (Err fault) w = absurd w
      go (Ok b) w =
          let phase : b.phase ≡ Connected = sym w.1.phase ∙ e in
          let ranks : rank a.phase ≡ rank b.phase = ap rank w.1.phase in
          changed-a so sa o a lo la (left-o _ h) b (sym w.1.setup)
          (subst (λ d. DueA (rank o.phase) (rank b.phase) d) w.1.answer (subst (λ k. DueA (rank o.phase) k a.owes.answer) ranks h.answer_a))
          (omega (arith, ranks))
          (subst (λ p. PlaceA (terms_of so sa) p b) (sym phase) (w.0.own_window, w.0.their_window, w.0.srej_is))
          (λ low. w.2 ∙ counts-not frame a.numbered (h.early low).0.0 (h.early low).1)
          (λ t. counts-so (NoSabme lo) frame a.numbered h.sabme_first.0 (λ t. (h.numbered t).1) (sym w.2 ∙ t))
          w.0.theirs w.0.own

  a-detecting : (turn n told : ℕ) (frame : Frame)
      → BeforeA (framed frame n told) → a.phase ≡ Detecting → IsWellA (on_detecting Answerer frame turn a)
  a-detecting turn n told (Xid true pf info) h e =
      a-xid (left-o _ h) (omega (arith, ap rank e))
      (subst (λ p. PlaceA (terms_of so sa) p a) e h.place_a) info h.line_o.0
  a-detecting turn n told frame h e = grind (arith)

  a-negotiating : (turn n told : ℕ) (frame : Frame)
      → BeforeA (framed frame n told) → a.phase ≡ Negotiating → IsWellA (on_negotiating Answerer frame turn a)
  a-negotiating turn n told (Xid true pf info) h e =
      a-xid (left-o _ h) (omega (arith, ap rank e))
      (subst (λ p. PlaceA (terms_of so sa) p a) e h.place_a).0 info h.line_o.0
  a-negotiating turn n told (Sabme pf) h e =
      let place : PlaceA (terms_of so sa) Negotiating a = subst (λ p. PlaceA (terms_of so sa) p a) e h.place_a in
      a-connects (left-o _ h) (omega (arith, ap rank e)) place.0 place.1 pf turn
  a-negotiating turn n told (Disc pf) h e =
      let g = left-o _ h in
      changed-a so sa o a lo la g (owing (answers.Dm pf) a) refl h.line_o.0 (omega arith) (place (g.place_a))
      (λ e. (g.early e).1) g.numbered g.flow_oa g.flow_ao
    where
      place : PlaceA (terms_of so sa) a.phase a → PlaceA (terms_of so sa) a.phase (owing (answers.Dm pf) a)
      place k = subst (λ p. PlaceA (terms_of so sa) p (owing (answers.Dm pf) a)) (sym e) (subst (λ p. PlaceA (terms_of so sa) p a) e k)
  a-negotiating turn n told frame h e = left-o _ h

  a-closed : (n told : ℕ) (frame : Frame) → BeforeA (framed frame n told) → a.phase ≡ Closed → IsWellA (on_closed frame a)
  a-closed n told (Disc pf) h e =
      let g = left-o _ h in
      changed-a so sa o a lo la g (owing (answers.Dm pf) a) refl h.line_o.0 (omega arith) (place (g.place_a))
      (λ e. (g.early e).1) g.numbered g.flow_oa g.flow_ao
    where
      place : PlaceA (terms_of so sa) a.phase a → PlaceA (terms_of so sa) a.phase (owing (answers.Dm pf) a)
      place k = subst (λ p. PlaceA (terms_of so sa) p (owing (answers.Dm pf) a)) (sym e) (subst (λ p. PlaceA (terms_of so sa) p a) e k)
  a-closed n told frame h e = left-o _ h

  -- SABME and DISC at a Connected answerer
  a-sabme : (n told : ℕ) (pf : Bool) → BeforeA (framed (Sabme pf) n told) → a.phase ≡ Connected → IsWellA (on_sabme pf a)
  a-sabme n told pf h e = go a.numbered refl a.setup.role (role-a so sa o a (framed (Sabme pf) n told ∷ lo) la h)
    where
      go : (b : Bool) → a.numbered ≡ b → (r : Role) → r ≡ Answerer
          → IsWellA (cond (b || is_originator r) (Err (peer_reset a)) (Ok (owing (answers.Ua pf) a)))
      go x t r q = grind (arith)

  a-disc : (n told : ℕ) (pf : Bool) → BeforeA (framed (Disc pf) n told) → a.phase ≡ Connected → IsWellA (on_disc Answerer pf a)
  a-disc n told pf h e =
      let g = left-o _ h in
      changed-a so sa o a lo la g (owing (answers.Ua pf) (record a { phase = Closed })) refl tt (omega (arith, ap rank e))
      (subst (λ p. PlaceA (terms_of so sa) p a) e g.place_a) (λ e. (g.early e).1) g.numbered g.flow_oa g.flow_ao

  a-connected : (turn n told : ℕ) (frame : Frame)
      → BeforeA (framed frame n told) → a.phase ≡ Connected → IsWellA (on_connected frame turn a)
  a-connected turn n told (Sabme pf) h e = a-sabme n told pf h e
  a-connected turn n told (Disc pf) h e =
      subst (λ r. IsWellA (on_disc r pf a)) (sym (role-a so sa o a (framed (Disc pf) n told ∷ lo) la h))
      (a-disc n told pf h e)
  a-connected turn n told (Xid command pf info) h e = left-o _ h
  a-connected turn n told (Ua pf) h e = absurd h.line_o.0
  a-connected turn n told (Dm pf) h e = absurd h.line_o.0
  a-connected turn n told (Frmr pf info) h e = absurd h.line_o.0
  a-connected turn n told (Test command pf info) h e = absurd h.line_o.0
  a-connected turn n told frame h e = a-linked turn n told frame h e h.line_o.0

  a-frame : (turn n told : ℕ) (frame : Frame)
      → BeforeA (framed frame n told) → (p : Phase) → a.phase ≡ p → IsWellA (on_frame p frame turn a)
  a-frame turn n told frame h Detecting e =
      subst (λ r. IsWellA (on_detecting r frame turn a)) (sym (role-a so sa o a (framed frame n told ∷ lo) la h))
      (a-detecting turn n told frame h e)
  a-frame turn n told frame h Negotiating e =
      subst (λ r. IsWellA (on_negotiating r frame turn a)) (sym (role-a so sa o a (framed frame n told ∷ lo) la h))
      (a-negotiating turn n told frame h e)
  a-frame turn n told frame h Connected e = a-connected turn n told frame h e
  a-frame turn n told frame h Closed e = a-closed n told frame h e
  a-frame turn n told frame h q e = absurd (subst (λ p. PlaceA (terms_of so sa) p a) e h.place_a)

  -- an answerer hears nothing
  pub a-nothing : Good so sa o a lo la → Good so sa o (on_nothing a) lo la
  a-nothing g =
      changed-a so sa o a lo la g (on_nothing a) refl (due a.owes.answer g.answer_a) (omega arith) (place a.phase g.place_a)
      (λ e. (g.early e).1) g.numbered g.flow_oa g.flow_ao
    where
      due : (d : Option Answer) → DueA (rank o.phase) (rank a.phase) d → DueA (rank o.phase) (rank a.phase) (without_adp d)
      due None k = tt
      due (Some answers.Adp) k = tt
      due (Some answers.Xid) k = k
      due (Some (answers.Ua pf)) k = tt
      due (Some (answers.Dm pf)) k = k

      place : (p : Phase) → PlaceA (terms_of so sa) p a → PlaceA (terms_of so sa) p (on_nothing a)
      place Detecting k = k
      place p k = k

  -- or a pattern
  a-odp : Good so sa o a lo la → (turn : ℕ) (p : Phase) → a.phase ≡ p → Good so sa o (on_seen p seen.Odp turn a) lo la
  a-odp g turn Detecting e =
      subst (λ r. Good so sa o (on_pattern r seen.Odp turn a) lo la) (sym (role-a so sa o a lo la g))
      (changed-a so sa o a lo la g (owing answers.Adp a) refl tt (omega arith)
      (subst (λ p. PlaceA (terms_of so sa) p (owing answers.Adp a)) (sym e) (subst (λ p. PlaceA (terms_of so sa) p a) e g.place_a))
      (λ e. (g.early e).1) g.numbered g.flow_oa g.flow_ao)
  a-odp g turn p e = grind (arith)

  pub a-hears : (turn : ℕ) (sent : Sent) (n told : ℕ)
      → BeforeA (record { sent = sent; number = n; told = told }) → IsWellA (hear turn (arrives sent) a)
  a-hears turn slots.Mark n told h = absurd h.line_o.0
  a-hears turn slots.Adp n told h = absurd h.line_o.0
  a-hears turn slots.Flags n told h = a-nothing (left-o _ h)
  a-hears turn slots.Odp n told h = a-odp (left-o _ h) turn a.phase refl
  a-hears turn (slots.Frame frame) n told h = a-frame turn n told frame h a.phase refl

  -- An originator hears.

  o-linked : (turn n told : ℕ) (frame : Frame) → BeforeO (framed frame n told) → o.phase ≡ Connected → IsLinked (slots.Frame frame) n told
      → IsWellO (on_connected frame turn o)
  o-linked turn n told frame h e spelled =
      go (on_connected frame turn o)
      (hears-linked (terms_of so sa).window_o (terms_of so sa).window_a
      (terms_of so sa).srej o a.outgoing a.incoming lo la turn n told frame
      (linked-o so sa o a lo (framed frame n told ∷ la) h (subst (λ p. PlaceO (terms_of so sa) p o) e h.place_o)) spelled)
    where
      go : (r : Result Account LinkFault)
          → HearsWell (terms_of so sa).window_o (terms_of so sa).window_a (terms_of so sa).srej o a.outgoing a.incoming lo la
          (counts_as_numbered frame o.numbered) r → IsWellO r
      go (Err fault) w = absurd w
      go (Ok b) w =
          let phase : b.phase ≡ Connected = sym w.1.phase ∙ e in
          let ranks : rank o.phase ≡ rank b.phase = ap rank w.1.phase in
          changed-o so sa o a lo la (left-a _ h) b (sym w.1.setup) (sym w.1.answer) (omega (arith, ranks))
          (subst (λ p. PlaceO (terms_of so sa) p b) (sym phase) (w.0.own_window, w.0.their_window, w.0.srej_is))
          (λ z. omega (arith, h.met z, ranks))
          w.0.own w.0.theirs

  o-xid : Good so sa o a lo la → o.phase ≡ Negotiating → 1 ≤ rank a.phase
      → (turn : ℕ) (info : List ℕ) → info ≡ written sa.offer → Good so sa (on_xid_response (offer_in info) turn o) a lo la
  o-xid g e met turn info i =
      subst (λ m. Good so sa (on_xid_response m turn o) a lo la) (sym (ap offer_in i ∙ g.deal.read_a))
      (changed-o so sa o a lo la g (trying Establishing turn (record o { terms = agree o.setup.offer sa.offer })) refl refl
      (omega (arith, ap rank e))
      (subst (λ p. PlaceO (terms_of so sa) p o) e g.place_o, ap (λ s. agree s.offer sa.offer) g.setup_o)
      (λ z. absurd (omega (arith, z, met))) g.flow_oa g.flow_ao)

  o-connects : Good so sa o a lo la → o.phase ≡ Establishing → (turn : ℕ) → Good so sa (connected turn o) a lo la
  o-connects g e turn =
      changed-o so sa o a lo la g (connected turn o) refl refl (omega (arith, ap rank e)) (
        own (role-o so sa o a lo la g) ∙ ap (λ t. t.window_o) place.1,
        theirs (role-o so sa o a lo la g) ∙ ap (λ t. t.window_a) place.1,
        ap (λ t. t.srej) place.1,
      )
      (λ z. absurd (omega (arith, g.met z, ap rank e)))
      (subst (λ p. Goes (terms_of so sa).window_o (terms_of so sa).srej p a.incoming lo la) place.0.0 g.flow_oa)
      (subst (λ i. Goes (terms_of so sa).window_a (terms_of so sa).srej a.outgoing i la lo) place.0.1 g.flow_ao)
    where
      place : PlaceO (terms_of so sa) Establishing o
      place = subst (λ p. PlaceO (terms_of so sa) p o) e g.place_o

      own : o.setup.role ≡ Originator → window_for o.setup.role o.terms ≡ o.terms.window_o
      own e = subst (λ r. window_for r o.terms ≡ o.terms.window_o) (sym e) refl

      theirs : o.setup.role ≡ Originator → window_for (other o.setup.role) o.terms ≡ o.terms.window_a
      theirs e = subst (λ r. window_for (other r) o.terms ≡ o.terms.window_a) (sym e) refl

  o-negotiating : (turn n told : ℕ) (frame : Frame)
      → BeforeO (framed frame n told) → o.phase ≡ Negotiating → IsWellO (on_negotiating Originator frame turn o)
  o-negotiating turn n told (Xid false pf info) h e = o-xid (left-a _ h) e h.line_a.0.1 turn info h.line_a.0.0
  o-negotiating turn n told (Dm pf) h e = absurd (omega (arith, h.line_a.0, ap rank e))
  o-negotiating turn n told frame h e = left-a _ h

  o-establishing : (turn n told : ℕ) (frame : Frame)
      → BeforeO (framed frame n told) → o.phase ≡ Establishing → IsWellO (on_establishing frame turn o)
  o-establishing turn n told (Ua true) h e = o-connects (left-a _ h) e turn
  o-establishing turn n told (Dm true) h e = absurd (omega (arith, h.line_a.0, ap rank e))
  o-establishing turn n told frame h e = left-a _ h

  o-connected : (turn n told : ℕ) (frame : Frame)
      → BeforeO (framed frame n told) → o.phase ≡ Connected → IsWellO (on_connected frame turn o)
  o-connected turn n told (Sabme pf) h e = absurd h.line_a.0
  o-connected turn n told (Disc pf) h e = absurd h.line_a.0
  o-connected turn n told (Xid command pf info) h e = left-a _ h
  o-connected turn n told (Ua pf) h e = left-a _ h
  o-connected turn n told (Dm pf) h e = absurd (omega (arith, h.line_a.0, ap rank e))
  o-connected turn n told (Frmr pf info) h e = absurd h.line_a.0
  o-connected turn n told (Test command pf info) h e = absurd h.line_a.0
  o-connected turn n told frame h e = o-linked turn n told frame h e h.line_a.0

  o-closes : Good so sa o a lo la → o.phase ≡ Releasing → Good so sa (record o { phase = Closed }) a lo la
  o-closes g e =
      changed-o so sa o a lo la g (record o { phase = Closed }) refl refl (omega (arith, ap rank e))
      (subst (λ p. PlaceO (terms_of so sa) p o) e g.place_o) (λ z. absurd (omega (arith, g.met z, ap rank e))) g.flow_oa g.flow_ao

  o-releasing : (n told : ℕ) (frame : Frame) → BeforeO (framed frame n told) → o.phase ≡ Releasing → IsWellO (on_releasing frame o)
  o-releasing n told (Ua true) h e = o-closes (left-a _ h) e
  o-releasing n told (Dm true) h e = o-closes (left-a _ h) e
  o-releasing n told frame h e = left-a _ h

  o-closed : (n told : ℕ) (frame : Frame) → BeforeO (framed frame n told) → IsWellO (on_closed frame o)
  o-closed n told (Disc pf) h = absurd h.line_a.0
  o-closed n told frame h = left-a _ h

  o-frame : (turn n told : ℕ) (frame : Frame)
      → BeforeO (framed frame n told) → (p : Phase) → o.phase ≡ p → IsWellO (on_frame p frame turn o)
  o-frame turn n told frame h Detecting e =
      subst (λ r. IsWellO (on_detecting r frame turn o)) (sym (role-o so sa o a lo (framed frame n told ∷ la) h))
      (left-a _ h)
  o-frame turn n told frame h Negotiating e =
      subst (λ r. IsWellO (on_negotiating r frame turn o)) (sym (role-o so sa o a lo (framed frame n told ∷ la) h))
      (o-negotiating turn n told frame h e)
  o-frame turn n told frame h Establishing e = o-establishing turn n told frame h e
  o-frame turn n told frame h Connected e = o-connected turn n told frame h e
  o-frame turn n told frame h Releasing e = o-releasing n told frame h e
  o-frame turn n told frame h Closed e = o-closed n told frame h

  pub o-nothing : Good so sa o a lo la → Good so sa (on_nothing o) a lo la
  o-nothing g =
      changed-o so sa o a lo la g (on_nothing o) refl (ap without_adp g.answer_o ∙ sym g.answer_o) (omega arith)
      (place o.phase g.place_o) g.met g.flow_oa g.flow_ao
    where
      place : (p : Phase) → PlaceO (terms_of so sa) p o → PlaceO (terms_of so sa) p (on_nothing o)
      place Detecting k = k
      place p k = k

  o-adp : Good so sa o a lo la → (turn : ℕ) (p : Phase) → o.phase ≡ p → Good so sa (on_seen p seen.Adp turn o) a lo la
  o-adp g turn Detecting e =
      subst (λ r. Good so sa (on_pattern r seen.Adp turn o) a lo la) (sym (role-o so sa o a lo la g))
      (changed-o so sa o a lo la g (trying Negotiating turn o) refl refl (omega (arith, ap rank e))
      (subst (λ p. PlaceO (terms_of so sa) p o) e g.place_o) (λ z. omega arith) g.flow_oa g.flow_ao)
  o-adp g turn p e = grind (arith)

  pub o-hears : (turn : ℕ) (sent : Sent) (n told : ℕ)
      → BeforeO (record { sent = sent; number = n; told = told }) → IsWellO (hear turn (arrives sent) o)
  o-hears turn slots.Odp n told h = absurd h.line_a.0
  o-hears turn slots.Mark n told h = o-nothing (left-a _ h)
  o-hears turn slots.Flags n told h = o-nothing (left-a _ h)
  o-hears turn slots.Adp n told h = o-adp (left-a _ h) turn o.phase refl
  o-hears turn (slots.Frame frame) n told h = o-frame turn n told frame h o.phase refl
