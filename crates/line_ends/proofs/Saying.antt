-- What an end says has numbers below 128, and its words of breaks are octets; all of it are octets where its user's file is.
use Rattle.std.proofs.Common.{◌≡◌, ℕ, zero, suc, ◌+◌, ◌*◌, ◌/◌, ◌%◌, ◌<◌, ◌&&◌, Bool, true, false, cond, nat_le, List, [], ◌∷◌}
use Rattle.std.proofs.Common.{slice_index_or, arith, subst, Option, Some, None, Result, Ok, Err}
use Rattle.std.proofs.lemmas.List.Elements.{All-from_recursion, All-nil, All-cons, All-head, All-tail}
use Rattle.line_ends.proofs.Names.{Account, Answerer, AreOctets, Frame, IsAllowed, IsPlain, IsPlainSent, LinkFault, Originator, OwnBreaks}
use Rattle.line_ends.proofs.Names.{Role, Sent, information_of, is_originator, own_due, written}
use Rattle.lapm_frames.specs.declared.frame.Frame.TheVariants.{Sabme, Disc, Xid}
use Rattle.xid_params.specs.declared.offer.Offer.{Offer}
use Rattle.lapm_receiver.specs.Incoming.{asks}
use Rattle.break_signals.specs.declared.word.BreakWord.{BreakWord}
use Rattle.lapm_frames.specs.declared.sent.Sent.TheVariants as slots
use Rattle.link_account.specs.declared.phase.Phase.{Phase}
use Rattle.link_account.specs.declared.phase.Phase.TheVariants.{Detecting, Negotiating, Establishing, Connected, Releasing, Closed}
use Rattle.shared_terms.specs.declared.fault.LinkFault.TheVariants.{NotDetected}
use Rattle.link_account.specs.declared.answer.Answer.{Answer}
use Rattle.link_account.specs.declared.answer.Answer.TheVariants as answers
use Rattle.link_account.specs.Hear.{trying}
use Rattle.link_account.specs.Speak.{Said, says, says_segment, says_own, says_break, says_asking, where_says, else_says, answering}
use Rattle.link_account.specs.Speak.{may_send, step1, step2, step3, step4, step5, step6, step7, step8, steps, speak, speak_in}
use Rattle.link_account.specs.Speak.{speak_detecting, speak_negotiating, speak_releasing, speak_linked, speak_answer, u_try, on_timer}
use Rattle.link_account.specs.Speak.{on_break_timer, then_tries, after_timers, tells, has_news}
use Rattle.line_ends.proofs.Words.{Octet, OfOctets, Owes}

-- the information in a slot
abbrev pub information_in : Sent → List ℕ
information_in slots.Mark = []
information_in slots.Odp = []
information_in slots.Adp = []
information_in slots.Flags = []
information_in (slots.Frame frame) = information_of frame

-- lists of octets
abbrev pub AllOctets : List (List ℕ) → Type 0
AllOctets [] = Unit {0}
AllOctets (p ∷ ps) = AreOctets p × AllOctets ps

piece-at : (ps : List (List ℕ)) (i : ℕ) → AllOctets ps → AreOctets (slice_index_or ps i [])
piece-at [] i h = All-nil Octet
piece-at (p ∷ ps) zero h = h.0
piece-at (p ∷ ps) (suc i) h = piece-at ps i h.1

pub octet-at : (xs : List ℕ) (i : ℕ) → AreOctets xs → slice_index_or xs i 0 < 256
octet-at [] i h = omega arith
octet-at (x ∷ xs) zero h = All-head Octet x xs h
octet-at (x ∷ xs) (suc i) h = octet-at xs i (All-tail Octet x xs h)

pub with-octet : (x : ℕ) (xs : List ℕ) → x < 256 → AreOctets xs → AreOctets (x ∷ xs)
with-octet x xs l h = All-cons Octet x xs l h

-- an offer that may be sent is written in octets
functions-octet : (srej : Bool) → cond srej 142 138 < 256
functions-octet srej = grind (arith)

check-octet : (check32 : Bool) → cond check32 1 0 < 256
check-octet check32 = grind (arith)

written-with : (f c t u r v tw rw' : ℕ) → f < 256 → c < 256 → t < 256 → u < 256 → r < 256 → v < 256 → tw < 256 → rw' < 256
    → AreOctets (130 ∷ 128 ∷ 0 ∷ 19 ∷ 3 ∷ 3 ∷ f ∷ 137 ∷ c ∷ 5 ∷ 2 ∷ t ∷ u ∷ 6 ∷ 2 ∷ r ∷ v ∷ 7 ∷ 1 ∷ tw ∷ 8 ∷ 1 ∷ rw' ∷ [])
written-with f c t u r v tw rw' lf lc lt lu lr lv ltw lrw =
    All-from_recursion Octet (130 ∷ 128 ∷ 0 ∷ 19 ∷ 3 ∷ 3 ∷ f ∷ 137 ∷ c ∷ 5 ∷ 2 ∷ t ∷ u ∷ 6 ∷ 2 ∷ r ∷ v ∷ 7 ∷ 1 ∷ tw ∷ 8 ∷ 1 ∷ rw' ∷ []) (
      omega arith,
      (
        omega arith,
        (
          omega arith,
          (
            omega arith,
            (
              omega arith,
              (
                omega arith,
                (
                  lf,
                  (
                    omega arith,
                    (
                      lc,
                      (
                        omega arith,
                        (
                          omega arith,
                          (
                            lt,
                            (
                              lu,
                              (
                                omega arith,
                                (
                                  omega arith,
                                  (
                                    lr,
                                    (lv, (omega arith, (omega arith, (ltw, (omega arith, (omega arith, (lrw, tt))))))),
                                  ),
                                ),
                              ),
                            ),
                          ),
                        ),
                      ),
                    ),
                  ),
                ),
              ),
            ),
          ),
        ),
      ),
    )

pub written-octets : (o : Offer) → IsAllowed o → AreOctets (written o)
written-octets o h =
    let t : 8 * o.tx_len / 256 < 256 = omega (arith, h.tx_len_high) in
    let u : 8 * o.tx_len % 256 < 256 = omega arith in
    let r : 8 * o.rx_len / 256 < 256 = omega (arith, h.rx_len_high) in
    let v : 8 * o.rx_len % 256 < 256 = omega arith in
    written-with (cond o.srej 142 138) (cond o.check32 1 0) (8 * o.tx_len / 256) (8 * o.tx_len % 256) (8 * o.rx_len / 256)
    (8 * o.rx_len % 256) o.tx_window o.rx_window
    (functions-octet o.srej) (check-octet o.check32) t u r v (omega (arith, h.tx_window_high)) (omega (arith, h.rx_window_high))

-- the break that is due is a word of octets
own-octets : (b : OwnBreaks) → AreOctets b.lengths → OfOctets (own_due b)
own-octets b h = grind (arith, with-octet, octet-at)

-- what an end holds, whose user has a file
pub record IsReady (file : List ℕ) (a : Account) : Type 0 where
  pub offer : IsAllowed a.setup.offer
  pub pieces : AreOctets file → AllOctets a.outgoing.pieces
  pub own : AreOctets a.own_breaks.lengths
  pub owes : Owes a

-- what it says, and then owes
pub record IsGood (file : List ℕ) (said : Said) : Type 0 where
  pub sent : IsPlainSent said.sent
  pub octets : AreOctets file → AreOctets (information_in said.sent)
  pub owes : Owes said.account

abbrev AllGood : List ℕ → Option Said → Type 0
AllGood file None = Unit {0}
AllGood file (Some said) = IsGood file said

abbrev IfReady : List ℕ → Result Account LinkFault → Type 0
IfReady file (Ok b) = IsReady file b
IfReady file (Err fault) = Unit {0}

abbrev IfGood : List ℕ → Result Said LinkFault → Type 0
IfGood file (Ok said) = IsGood file said
IfGood file (Err fault) = Unit {0}

module _ (file : List ℕ) where
  bare : AreOctets file → AreOctets []
  bare f = All-nil Octet

  else-says : (o : Option Said) (said : Said) → AllGood file o → IsGood file said → IsGood file (else_says o said)
  else-says o said h k = grind (arith)

  where-says : (b : Bool) (said : Said) → IsGood file said → AllGood file (where_says b said)
  where-says b said h = grind (arith)

  -- the answer that is due
  due : (o : Option Answer) (a : Account) → IsReady file a → AllGood file (answering o a)
  due None a h = tt
  due (Some answers.Adp) a h = record { sent = tt; octets = bare; owes = h.owes }
  due (Some answers.Xid) a h = record {
    sent = record { ns = tt; nr = tt; octets = tt };
    octets = λ f. written-octets a.setup.offer h.offer;
    owes = h.owes;
  }
  due (Some (answers.Ua pf)) a h = record { sent = record { ns = tt; nr = tt; octets = tt }; octets = bare; owes = h.owes }
  due (Some (answers.Dm pf)) a h = record { sent = record { ns = tt; nr = tt; octets = tt }; octets = bare; owes = h.owes }

  segment : (turn : ℕ) (o : Option ℕ) (a : Account) → IsReady file a → AllGood file (says_segment turn o a)
  segment turn o a h = grind (arith, piece-at)

  own-break : (o : Option BreakWord) (a : Account) → OfOctets o → Owes a → AllGood file (says_own o a)
  own-break o a w h = grind (arith)

  words : (o : Option BreakWord) (a : Account) → OfOctets o → IsReady file a → AllGood file (says_break o a)
  words o a w h = grind (arith, own-break, own-octets)

  -- RR or RNR
  told : (command pf : Bool) (a : Account) → Owes a → IsGood file (tells command pf a)
  told command pf a h = grind (arith, bare)

  asking : (srej special : Bool) (o : Option ℕ) (a : Account) → Owes a → AllGood file (says_asking srej special o a)
  asking srej special o a h = grind (arith, bare)

  sixth : (special news busy : Bool) (a : Account) → Owes a
      → AllGood file (cond news (Some (tells false false a)) (cond busy None (says_asking a.incoming.srej special (asks a.incoming) a)))
  sixth special news busy a h = grind (arith, asking)

  fifth : (special : Bool) (a : Account) → IsReady file a → AllGood file (step5 special a)
  fifth special a h = grind (arith, words)

  fourth : (turn : ℕ) (urgent : Bool) (a : Account) → IsReady file a → AllGood file (cond urgent (says_segment turn (may_send a) a) None)
  fourth turn urgent a h = grind (arith, segment)

  all : (turn : ℕ) (special : Bool) (a : Account) → IsReady file a → IsGood file (steps turn special a)
  all turn special a h =
      else-says (step1 a) _ (due a.owes.answer a h)
      (else-says (step2 a) _ (where-says a.owes.reply _ (told false true (record a { owes = record a.owes { reply = false } }) h.owes))
      (else-says (step3 a) _ (where-says a.wait.poll _ (told true true (record a { wait = record a.wait { poll = false } }) h.owes))
      (else-says (step4 turn a) _ (fourth turn a.wait.urgent a h)
      (else-says (step5 special a) _ (fifth special a h)
      (else-says (step6 special a) _ (sixth special (has_news a) a.owes.busy a h.owes)
      (else-says (step7 turn a) _ (segment turn (may_send a) a h)
      (else-says (step8 a) _ (where-says a.incoming.owed _ (told false false a h.owes))
      (record { sent = tt; octets = bare; owes = h.owes }))))))))

  -- timers change nothing of that
  timed : (turn : ℕ) (a : Account) → IsReady file a → IfReady file (on_timer turn a)
  timed turn a h = grind (arith)

  broken : (turn : ℕ) (a : Account) → IsReady file a → IfReady file (on_break_timer turn a)
  broken turn a h = grind (arith)

  both-timed : (turn : ℕ) (r : Result Account LinkFault) → IfReady file r → IfReady file (then_tries turn r)
  both-timed turn r h = grind (arith)

  links : (turn : ℕ) (a : Account) → IsReady file a → IfGood file (speak_linked turn a)
  links turn a h = go (then_tries turn (on_timer turn a)) (both-timed turn (on_timer turn a) (timed turn a h))
    where
      go : (r : Result Account LinkFault) → IfReady file r → IfGood file (after_timers turn a.special r)
      go (Ok b) k = all turn a.special (record b { special = false })
          (record { offer = k.offer; pieces = k.pieces; own = k.own; owes = k.owes })
      go (Err fault) k = tt

  -- a U try
  u : (turn : ℕ) (frame : Frame) (a : Account) → IsPlain frame → (AreOctets file → AreOctets (information_of frame)) → Owes a
      → IfGood file (u_try turn frame a)
  u turn frame a h o k = grind (arith, else-says, where-says)

  detects : (role : Role) (turn : ℕ) (a : Account) → IsReady file a → IfGood file (speak_detecting role turn a)
  detects Originator turn a h = go (nat_le ((a.setup.tries + 1) * a.setup.period) turn)
    where
      go : (b : Bool) → IfGood file (cond b (Err NotDetected) (Ok (says slots.Odp a)))
      go true = tt
      go false = record { sent = tt; octets = bare; owes = h.owes }
  detects Answerer turn a h = else-says (answering a.owes.answer a) (says slots.Mark a) (due a.owes.answer a h)
      (record { sent = tt; octets = bare; owes = h.owes })

  answers-due : (a : Account) → IsReady file a → IfGood file (speak_answer a)
  answers-due a h = grind (arith, else-says, says, due, bare)

  negotiates : (role : Role) (turn : ℕ) (a : Account) → IsReady file a → IfGood file (speak_negotiating role turn a)
  negotiates Originator turn a h =
      u turn (Xid true false (written a.setup.offer)) a (record { ns = tt; nr = tt; octets = tt })
      (λ f. written-octets a.setup.offer h.offer) h.owes
  negotiates Answerer turn a h = answers-due a h

  connects : (turn : ℕ) (b : Bool) (a : Account) → IsReady file a
      → IfGood file (cond b (speak_releasing turn (trying Releasing turn a)) (speak_linked turn a))
  connects turn true a h = u turn (Disc true) (trying Releasing turn a) (record { ns = tt; nr = tt; octets = tt }) bare h.owes
  connects turn false a h = links turn a h

  in-phase : (p : Phase) (turn : ℕ) (release : Bool) (a : Account) → IsReady file a → IfGood file (speak_in p turn release a)
  in-phase Detecting turn release a h = detects a.setup.role turn a h
  in-phase Negotiating turn release a h = negotiates a.setup.role turn a h
  in-phase Establishing turn release a h = u turn (Sabme true) a (record { ns = tt; nr = tt; octets = tt }) bare h.owes
  in-phase Connected turn release a h = connects turn (release && is_originator a.setup.role) a h
  in-phase Releasing turn release a h = u turn (Disc true) a (record { ns = tt; nr = tt; octets = tt }) bare h.owes
  in-phase Closed turn release a h = answers-due a h

  pub said-good : (turn : ℕ) (release : Bool) (a : Account) (said : Said) → IsReady file a → speak turn release a ≡ Ok said
      → IsGood file said
  said-good turn release a said h e = subst (IfGood file) e (in-phase a.phase turn release a h)
