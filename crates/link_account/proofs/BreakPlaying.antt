-- The breaks in a play of two ends of ours, whatever is lost.
use Rattle.link_account.proofs.Names.{◌≡◌, ℕ, ◌-◌, ◌%◌, ◌<◌, ◌&&◌, Bool, true, false, cond, nat_le, List, [], ◌∷◌, ◌++◌, length, drop}
use Rattle.link_account.proofs.Names.{slice_index_or, arith, refl, sym, ◌∙◌, ap, subst, Option, Some, None, Result, Ok, Err, append-nil}
use Rattle.link_account.proofs.Names.{append_assoc, take-append-drop, is_some, OwnBreaks, TheirBreaks, after_ack, after_ask, after_brk}
use Rattle.link_account.proofs.Names.{own_due, ticked, word_in, spelled, BreakFault, BreakWord, Ack, Brk, Arrived, Frame, Ui, Sent}
use Rattle.link_account.proofs.Names.{after_delivered, next_expected, Account, after_break_asked, after_busy, after_delivery, after_offer}
use Rattle.link_account.proofs.Names.{fresh, is_connected, piece_size, wants, hear, trying, AnswersGiven, GivesBreaksInOrder, IsBreakOf}
use Rattle.link_account.proofs.Names.{SendsBreaksTaken, played, Delivers, Event, Gives_break, Hears_nothing, Is_asked, Is_busy, Is_lost}
use Rattle.link_account.proofs.Names.{Is_offered, Pair, Passes, Play, Side, Slot, Speaks, arrives, goes_on, happens, happens_at, heard}
use Rattle.link_account.proofs.Names.{is_lost, is_offered, passes, play, play_of, seen_from, spoken, start, Said, frame_for, nr_of}
use Rattle.link_account.proofs.Names.{ready_frame, says, says_word, speak, Answer, Releasing, IsPrefixOf, LinkFault, Role}
use Rattle.break_signals.specs.Words.{number_of}
use Rattle.break_signals.proofs.Spelling.{is_read_back_always}
use Rattle.link_account.proofs.SpeakWays.{OnSaid, Steps, Tries, tries-alike}
use Rattle.link_account.proofs.Breaking.{BrkOn, AckOn, BreaksGo, Go, OnTicked, go-asked, go-ticked, go-brk, go-ack}
use Rattle.link_account.proofs.Breaking.{go-brk-heard, go-ack-heard, IsPending}
use Rattle.lapm_frames.specs.declared.arrived.Arrived.TheVariants as arrivals
use Rattle.lapm_frames.specs.declared.sent.Sent.TheVariants as slots
use Rattle.link_account.specs.declared.answer.Answer.TheVariants as answers
use Rattle.link_account.proofs.SpeakWays as SpeakWays
use Rattle.link_account.proofs.HearWays as HearWays

-- the break words of a slot
abbrev pub brk_of_word : Result BreakWord BreakFault → ℕ → List BrkOn
brk_of_word (Ok (Brk number length_octet)) n = record { place = n; number = number; length_octet = length_octet } ∷ []
brk_of_word (Ok (Ack number length_octet)) n = []
brk_of_word (Err fault) n = []

abbrev pub ack_of_word : Result BreakWord BreakFault → ℕ → List AckOn
ack_of_word (Ok (Ack number length_octet)) n = record { place = n; number = number } ∷ []
ack_of_word (Ok (Brk number length_octet)) n = []
ack_of_word (Err fault) n = []

abbrev pub brk_of : Sent → ℕ → List BrkOn
brk_of (slots.Frame (Ui command pf info)) n = brk_of_word (word_in info) n
brk_of sent n = []

abbrev pub ack_of : Sent → ℕ → List AckOn
ack_of (slots.Frame (Ui command pf info)) n = ack_of_word (word_in info) n
ack_of sent n = []

abbrev pub brks_in : List Slot → List BrkOn
brks_in [] = []
brks_in (slot ∷ rest) = brk_of slot.sent slot.number ++ brks_in rest

abbrev pub acks_in : List Slot → List AckOn
acks_in [] = []
acks_in (slot ∷ rest) = ack_of slot.sent slot.number ++ acks_in rest

brks_in-snoc : (line : List Slot) (slot : Slot) → brks_in (line ++ slot ∷ []) ≡ brks_in line ++ brk_of slot.sent slot.number
brks_in-snoc [] slot = append-nil (brk_of slot.sent slot.number)
brks_in-snoc (s ∷ line) slot =
    ap (λ l. brk_of s.sent s.number ++ l) (brks_in-snoc line slot)
    ∙ sym (append_assoc (brk_of s.sent s.number) (brks_in line) (brk_of slot.sent slot.number))

acks_in-snoc : (line : List Slot) (slot : Slot) → acks_in (line ++ slot ∷ []) ≡ acks_in line ++ ack_of slot.sent slot.number
acks_in-snoc [] slot = append-nil (ack_of slot.sent slot.number)
acks_in-snoc (s ∷ line) slot =
    ap (λ l. ack_of s.sent s.number ++ l) (acks_in-snoc line slot)
    ∙ sym (append_assoc (ack_of s.sent s.number) (acks_in line) (ack_of slot.sent slot.number))

-- the breaks of both ends, whichever they are
pub record Both (xo yo : OwnBreaks) (xt yt : TheirBreaks) (xb yb : List BrkOn) (xa ya : List AckOn) : Type 0 where
  pub out : Go xo yt xb ya
  pub back : Go yo xt yb xa

abbrev pub BothGo : Account → Account → List Slot → List Slot → Type 0
BothGo x y lx ly = Both x.own_breaks y.own_breaks x.their_breaks y.their_breaks (brks_in lx) (brks_in ly) (acks_in lx) (acks_in ly)

-- a word of the other end is lost
word-lost : (xo yo : OwnBreaks) (xt yt : TheirBreaks) (xb yb : List BrkOn) (xa ya : List AckOn) (w : Result BreakWord BreakFault) (n : ℕ)
    → Both xo yo xt yt xb (brk_of_word w n ++ yb) xa (ack_of_word w n ++ ya) → Both xo yo xt yt xb yb xa ya
word-lost xo yo xt yt xb yb xa ya w n h = grind (arith)

frame-lost : (x y : Account) (lx ly : List Slot) (frame : Frame) (n : ℕ)
    → Both x.own_breaks y.own_breaks x.their_breaks y.their_breaks (brks_in lx) (brk_of (slots.Frame frame) n ++ brks_in ly) (acks_in lx)
    (ack_of (slots.Frame frame) n ++ acks_in ly) → BothGo x y lx ly
frame-lost x y lx ly frame n h = grind (arith, word-lost)

slot-lost : (x y : Account) (lx ly : List Slot) (sent : Sent) (n : ℕ)
    → Both x.own_breaks y.own_breaks x.their_breaks y.their_breaks (brks_in lx) (brk_of sent n ++ brks_in ly) (acks_in lx)
    (ack_of sent n ++ acks_in ly) → BothGo x y lx ly
slot-lost x y lx ly sent n h = grind (arith, frame-lost)

-- Hearing

abbrev pub OnHeard : (Account → Type 0) → Result Account LinkFault → Type 0
OnHeard P (Ok a) = P a
OnHeard P (Err fault) = Unit {0}

-- what arrives, as it was sent
abbrev pub carried : Arrived → Sent
carried (arrivals.Frame frame) = slots.Frame frame
carried arrived = slots.Flags

module _ (x y : Account) (lx ly : List Slot) (n : ℕ) where
  -- with what arrives first on the other end's line
  abbrev pub Hears : Sent → Type 0
  Hears sent = Both x.own_breaks y.own_breaks x.their_breaks y.their_breaks (brks_in lx) (brk_of sent n ++ brks_in ly) (acks_in lx)
      (ack_of sent n ++ acks_in ly)

  read : (w : Result BreakWord BreakFault) (m : Result BreakWord BreakFault) → m ≡ w
      → Both x.own_breaks y.own_breaks x.their_breaks y.their_breaks (brks_in lx) (brk_of_word m n ++ brks_in ly) (acks_in lx)
      (ack_of_word m n ++ acks_in ly)
      → Both x.own_breaks y.own_breaks x.their_breaks y.their_breaks (brks_in lx) (brk_of_word w n ++ brks_in ly) (acks_in lx)
      (ack_of_word w n ++ acks_in ly)
  read w m e h = grind (arith)

  hear-ways : (turn : ℕ) → HearWays.Ways (λ arrived b. Hears (carried arrived) → BothGo b y lx ly) turn x
  hear-ways turn = record {
    nothing = λ h. h;
    linked = λ e. record {
      pattern = λ seen h. h;
      plain = λ frame p h. frame-lost x y lx ly frame n h;
      numbers = HearWays.numbers-alike _ turn x (λ frame new incoming timer reply urgent k h. frame-lost x y lx ly frame n h);
      sabme = λ pf m r h. h;
      disc = λ pf r h. h;
      brk = λ command pf info number length_octet q h. let k = read _ (word_in info) q h in
          record { out = k.out; back = go-brk-heard y.own_breaks x.their_breaks n number length_octet (brks_in ly) (acks_in lx) k.back };
      brkack = λ command pf info number length_octet q h. let k = read _ (word_in info) q h in
          record { out = go-ack-heard x.own_breaks y.their_breaks turn n number (brks_in lx) (acks_in ly) k.out; back = k.back };
    };
    early = λ e. record {
      ignores = λ arrived f h. slot-lost x y lx ly (carried arrived) n h;
      detects = λ p r h. h;
      detected = λ p r h. h;
      xid = λ p r pf info offer f h. h;
      agrees = λ p r pf info offer f h. h;
      sabme_first = λ p r pf h. h;
      sabme = λ p r pf h. h;
      ua = λ p h. h;
      disc = λ p pf h. h;
      closes = λ p frame f h. frame-lost x y lx ly frame n h;
    };
  }

pub hear-both : (x y : Account) (lx ly : List Slot) (turn : ℕ) (sent : Sent) (n : ℕ) → Hears x y lx ly n sent
    → OnHeard (λ b. BothGo b y lx ly) (hear turn (arrives sent) x)
hear-both x y lx ly turn sent n h = go (hear turn (arrives sent) x) refl
  where
    as-sent : (s : Sent) → Hears x y lx ly n s → Hears x y lx ly n (carried (arrives s))
    as-sent s k = grind (arith)

    go : (r : Result Account LinkFault) → hear turn (arrives sent) x ≡ r → OnHeard (λ b. BothGo b y lx ly) r
    go (Ok b) e = HearWays.by-ways _ turn x (hear-ways x y lx ly n turn) (arrives sent) b e (as-sent sent h)
    go (Err fault) e = tt

-- Speaking

abbrev pub SaysBoth : Account → List Slot → List Slot → ℕ → Said → Type 0
SaysBoth y lx ly told said = BothGo said.account y (lx ++ (record { sent = said.sent; number = said.number; told = told }) ∷ []) ly

-- what is said, by the words in it
worded : (b y : Account) (lx ly : List Slot) (told : ℕ) (sent : Sent) (n : ℕ)
    → Both b.own_breaks y.own_breaks b.their_breaks y.their_breaks (brks_in lx ++ brk_of sent n) (brks_in ly) (acks_in lx ++ ack_of sent n)
    (acks_in ly)
    → SaysBoth y lx ly told (record { sent = sent; number = n; account = b })
worded b y lx ly told sent n h = grind (arith, brks_in-snoc, acks_in-snoc)

plain : (b y : Account) (lx ly : List Slot) (told : ℕ) (sent : Sent) (n : ℕ) → BothGo b y lx ly → brk_of sent n ≡ [] → ack_of sent n ≡ []
    → SaysBoth y lx ly told (record { sent = sent; number = n; account = b })
plain b y lx ly told sent n h e f =
    worded b y lx ly told sent n
    (subst (λ k. Both b.own_breaks y.own_breaks b.their_breaks y.their_breaks k (brks_in ly) (acks_in lx ++ ack_of sent n) (acks_in ly))
    (sym (ap (λ l. brks_in lx ++ l) e ∙ append-nil (brks_in lx)))
    (subst (λ k. Both b.own_breaks y.own_breaks b.their_breaks y.their_breaks (brks_in lx) (brks_in ly) k (acks_in ly))
    (sym (ap (λ l. acks_in lx ++ l) f ∙ append-nil (acks_in lx))) h))

-- a word is said as it is read
says-read : (word : BreakWord) (n : ℕ) → number_of word < 2
    → (brk_of (slots.Frame (Ui true false (spelled word))) n ≡ brk_of_word (Ok word) n)
    × (ack_of (slots.Frame (Ui true false (spelled word))) n ≡ ack_of_word (Ok word) n)
says-read word n few = (ap (λ w. brk_of_word w n) (is_read_back_always word few), ap (λ w. ack_of_word w n) (is_read_back_always word few))

module _ (y : Account) (lx ly : List Slot) (told : ℕ) where
  abbrev Says : Said → Type 0
  Says = SaysBoth y lx ly told

  answer : (d : Answer) (x b : Account) → BothGo b y lx ly → Says (says (frame_for d x) b)
  answer d x b h = grind (arith, plain)

  ready : (b : Account) (busy command pf : Bool) (nr : ℕ) → BothGo b y lx ly → Says (says (slots.Frame (ready_frame busy command nr pf)) b)
  ready b busy command pf nr h = grind (arith, plain)

  own : (x : Account) → BothGo x y lx ly → (word : BreakWord) → own_due x.own_breaks ≡ Some word
      → Says (says_word x.own_breaks.answered word (record x { own_breaks = after_brk x.own_breaks }))
  own x h word e = go x.own_breaks.brk refl e
    where
      due : BreakWord
      due = Brk (x.own_breaks.answered % 2) (slice_index_or x.own_breaks.lengths x.own_breaks.answered 0)

      go : (b : Bool) → x.own_breaks.brk ≡ b → cond b (Some due) None ≡ Some word
          → Says (says_word x.own_breaks.answered word (record x { own_breaks = after_brk x.own_breaks }))
      go false f e = cc
      go true f e = let same : due ≡ word = cc in let read = says-read due x.own_breaks.answered (omega arith) in
          subst (λ w. Says (says_word x.own_breaks.answered w (record x { own_breaks = after_brk x.own_breaks }))) same
          (worded (record x { own_breaks = after_brk x.own_breaks; special = true }) y lx ly told
          (slots.Frame (Ui true false (spelled due))) x.own_breaks.answered
          (record {
            out = subst (λ k. Go (after_brk x.own_breaks) y.their_breaks (brks_in lx ++ k) (acks_in ly)) (sym read.0)
                (go-brk x.own_breaks y.their_breaks (brks_in lx) (acks_in ly) f h.out);
            back = subst (λ k. Go y.own_breaks x.their_breaks (brks_in ly) k)
                (sym (ap (λ l. acks_in lx ++ l) read.1 ∙ append-nil (acks_in lx))) h.back;
          }))

  theirs : (x : Account) → BothGo x y lx ly → (word : BreakWord) → x.their_breaks.ack ≡ Some word
      → Says (says_word (length x.their_breaks.lengths - 1) word (record x { their_breaks = after_ack x.their_breaks }))
  theirs x h (Brk number length_octet) e = absurd (subst (IsPending (length x.their_breaks.lengths)) e h.back.pending)
  theirs x h (Ack number length_octet) e =
      let pending : IsPending (length x.their_breaks.lengths) (Some (Ack number length_octet)) =
      subst (IsPending (length x.their_breaks.lengths)) e h.back.pending in
      let read = says-read (Ack number length_octet) (length x.their_breaks.lengths - 1) (omega (arith, pending.1)) in
      worded (record x { their_breaks = after_ack x.their_breaks; special = true }) y lx ly told
      (slots.Frame (Ui true false (spelled (Ack number length_octet)))) (length x.their_breaks.lengths - 1)
      (record {
        out = subst (λ k. Go x.own_breaks y.their_breaks k (acks_in ly))
            (sym (ap (λ l. brks_in lx ++ l) read.0 ∙ append-nil (brks_in lx))) h.out;
        back = subst (λ k. Go y.own_breaks (after_ack x.their_breaks) (brks_in ly) (acks_in lx ++ k)) (sym read.1)
            (go-ack y.own_breaks x.their_breaks (brks_in ly) (acks_in lx) number length_octet e h.back);
      })

  step-ways : (turn : ℕ) (special : Bool) (x : Account) → BothGo x y lx ly → Steps Says turn special x
  step-ways turn special x h = grind (arith, answer, ready, nr_of, plain, theirs, own)

  ticked-both : (turn : ℕ) (x : Account) → BothGo x y lx ly → (own : OwnBreaks) → ticked turn x.setup.period x.setup.tries x.own_breaks
      ≡ Some own
      → BothGo (record x { own_breaks = own }) y lx ly
  ticked-both turn x h own e = record {
    out = subst (OnTicked y.their_breaks (brks_in lx) (acks_in ly)) e
        (go-ticked x.own_breaks y.their_breaks (brks_in lx) (acks_in ly) turn x.setup.period x.setup.tries h.out);
    back = h.back;
  }

  tried : (turn : ℕ) (frame : Frame) (x : Account) → BothGo x y lx ly → brk_of (slots.Frame frame) 0 ≡ [] → ack_of (slots.Frame frame) 0 ≡
      []
      → Tries Says turn frame x
  tried turn frame x h e f = grind (arith, tries-alike, plain)

  speak-ways : (turn : ℕ) (release : Bool) (x : Account) → BothGo x y lx ly → SpeakWays.Ways Says turn release x
  speak-ways turn release x h = record {
    answers = λ alone d e. answer d x x h;
    flags = λ alone e. plain x y lx ly told slots.Flags 0 h refl refl;
    mark = λ p r e. plain x y lx ly told slots.Mark 0 h refl refl;
    odp = λ p r l. plain x y lx ly told slots.Odp 0 h refl refl;
    xid = λ p r. tried turn _ x h refl refl;
    sabme = λ p. tried turn _ x h refl refl;
    linked = λ p r. record {
      stands = λ t own o. step-ways turn x.special _ (ticked-both turn x h own o);
      expires = λ set t own o. step-ways turn x.special _ (ticked-both turn x h own o);
    };
    releases = λ p r. tried turn _ (trying Releasing turn x) h refl refl;
    disc = λ p. tried turn _ x h refl refl;
  }

pub speak-both : (x y : Account) (lx ly : List Slot) (told turn : ℕ) (release : Bool) → BothGo x y lx ly
    → OnSaid (SaysBoth y lx ly told) (speak turn release x)
speak-both x y lx ly told turn release h = go (speak turn release x) refl
  where
    go : (r : Result Said LinkFault) → speak turn release x ≡ r → OnSaid (SaysBoth y lx ly told) r
    go (Ok said) e = SpeakWays.by-ways (SaysBoth y lx ly told) turn release x (speak-ways y lx ly told turn release x h) said e
    go (Err fault) e = tt

-- Plays

abbrev pub PairGo : Pair → Type 0
PairGo q = BothGo q.own.account q.peer.account q.own.line q.peer.line

turned : (x y : Account) (lx ly : List Slot) → BothGo x y lx ly → BothGo y x ly lx
turned x y lx ly h = record { out = h.back; back = h.out }

heard-pair : (x y : Side) (lx ly : List Slot) (r : Result Account LinkFault) → BothGo x.account y.account lx ly
    → OnHeard (λ b. BothGo b y.account lx ly) r → BothGo (heard r x).account y.account lx ly
heard-pair x y lx ly r h w = grind (arith)

spoken-pair : (q : Pair) (r : Result Said LinkFault) → PairGo q
    → OnSaid (SaysBoth q.peer.account q.own.line q.peer.line (next_expected q.own.account.incoming)) r
    → PairGo (record { own = spoken r q.own; peer = q.peer })
spoken-pair q r h w = grind (arith)

heard_line : (r : Result Account LinkFault) (s : Side) → (heard r s).line ≡ s.line
heard_line x s = grind (arith)

passes-pair : (q : Pair) (turn : ℕ) (line : List Slot) → q.own.line ≡ line → PairGo q → PairGo (passes turn line q)
passes-pair q turn [] e h = h
passes-pair q turn (slot ∷ rest) e h =
    let before : BothGo q.peer.account q.own.account q.peer.line (slot ∷ rest) =
    turned q.own.account q.peer.account (slot ∷ rest) q.peer.line
    (subst (λ l. BothGo q.own.account q.peer.account l q.peer.line) e h) in
    subst (λ l. BothGo q.own.account (heard (hear turn (arrives slot.sent) q.peer.account) q.peer).account rest l)
    (sym (heard_line (hear turn (arrives slot.sent) q.peer.account) q.peer))
    (turned (heard (hear turn (arrives slot.sent) q.peer.account) q.peer).account q.own.account q.peer.line rest
    (heard-pair q.peer (record q.own { line = rest }) q.peer.line rest (hear turn (arrives slot.sent) q.peer.account)
    (slot-lost q.peer.account q.own.account q.peer.line rest slot.sent slot.number before)
    (hear-both q.peer.account q.own.account q.peer.line rest turn slot.sent slot.number before)))

lost-pair : (q : Pair) (line : List Slot) → q.own.line ≡ line → PairGo q → PairGo (is_lost line q)
lost-pair q [] e h = h
lost-pair q (slot ∷ rest) e h =
    turned q.peer.account q.own.account q.peer.line rest (slot-lost q.peer.account q.own.account q.peer.line rest slot.sent slot.number
    (turned q.own.account q.peer.account (slot ∷ rest) q.peer.line (subst (λ l. BothGo q.own.account q.peer.account l q.peer.line) e h)))

offered-pair : (q : Pair) (piece : List ℕ) → PairGo q → PairGo (record { own = is_offered piece q.own; peer = q.peer })
offered-pair q [] h = go (is_some (wants q.own.account) && nat_le 0 (piece_size q.own.account))
  where
    go : (b : Bool) → PairGo (record { own = cond b (record q.own { account = after_offer [] q.own.account }) q.own; peer = q.peer })
    go b = grind (arith)
offered-pair q (x ∷ xs) h = go (is_some (wants q.own.account) && nat_le (length (x ∷ xs)) (piece_size q.own.account))
  where
    go : (b : Bool) → PairGo (record { own = cond b (record q.own { account = after_offer (x ∷ xs) q.own.account }) q.own; peer = q.peer })
    go b = grind (arith)

asked-pair : (q : Pair) (turn length_octet : ℕ) → PairGo q
    → PairGo (record { own = record q.own { account = after_break_asked turn length_octet q.own.account }; peer = q.peer })
asked-pair q turn length_octet h = go (is_connected q.own.account.phase)
  where
    go : (b : Bool) → PairGo
        (record {
          own = record
              q.own {
                account = cond b
                    (record q.own.account { own_breaks = after_ask turn length_octet q.own.account.own_breaks }) q.own.account;
              };
          peer = q.peer;
        })
    go true = assumption (
        go-asked q.own.account.own_breaks q.peer.account.their_breaks (brks_in q.own.line) (acks_in q.peer.line) turn length_octet h.out)
    go false = h

delivered-pair : (q : Pair) → PairGo q → PairGo (record { own = record q.own { account = after_delivery q.own.account }; peer = q.peer })
delivered-pair q h = go (is_connected q.own.account.phase)
  where
    go : (b : Bool) → PairGo
        (record {
          own = record
              q.own { account = cond b (record q.own.account { incoming = after_delivered q.own.account.incoming }) q.own.account };
          peer = q.peer;
        })
    go b = grind (arith)

busy-pair : (q : Pair) (busy : Bool) → PairGo q
    → PairGo (record { own = record q.own { account = after_busy busy q.own.account }; peer = q.peer })
busy-pair q busy h = go (is_connected q.own.account.phase)
  where
    go : (b : Bool) → PairGo
        (record {
          own = record
              q.own { account = cond b (record q.own.account { owes = record q.own.account.owes { busy = busy } }) q.own.account };
          peer = q.peer;
        })
    go b = grind (arith)

happens-pair : (q : Pair) (e : Event) → PairGo q → PairGo (happens_at e q)
happens-pair q (Speaks role turn release) h =
    spoken-pair q (speak turn release q.own.account) h
    (speak-both q.own.account q.peer.account q.own.line q.peer.line (next_expected q.own.account.incoming) turn release h)
happens-pair q (Passes role turn) h = passes-pair q turn q.own.line refl h
happens-pair q (Is_lost role) h = lost-pair q q.own.line refl h
happens-pair q (Hears_nothing role turn) h = h
happens-pair q (Is_offered role piece) h = offered-pair q piece h
happens-pair q (Is_asked role turn length_octet) h = asked-pair q turn length_octet h
happens-pair q (Delivers role) h = delivered-pair q h
happens-pair q (Is_busy role busy) h = busy-pair q busy h
happens-pair q (Gives_break role) h = h

abbrev pub PlayGo : Play → Type 0
PlayGo p = BothGo p.originator.account p.answerer.account p.originator.line p.answerer.line

seen-go : (role : Role) (p : Play) → PlayGo p → PairGo (seen_from role p)
seen-go role p h = grind (arith)

play-go : (role : Role) (q : Pair) → PairGo q → PlayGo (play_of role q)
play-go role q h = grind (arith)

event-go : (p : Play) (e : Event) (m n : Option LinkFault) → PlayGo p → PlayGo (goes_on m n e p)
event-go p e m n h = grind (arith, play-go, happens-pair, seen-go)

plays-go : (events : List Event) (p : Play) → PlayGo p → PlayGo (play events p)
plays-go [] p h = h
plays-go (e ∷ es) p h = plays-go es (happens e p) (event-go p e p.originator.fault p.answerer.fault h)

no-breaks : BreaksGo [] 0 false [] None [] []
no-breaks = grind (arith)

prefix : (b : OwnBreaks) (t : TheirBreaks) (brks : List BrkOn) (acks : List AckOn) → Go b t brks acks → IsPrefixOf t.lengths b.lengths
prefix b t brks acks h = (
  drop (length t.lengths) b.lengths,
  ap (λ l. l ++ drop (length t.lengths) b.lengths) h.given_are.is
      ∙ take-append-drop (length t.lengths) b.lengths,
)

pub gives_breaks_always : GivesBreaksInOrder
gives_breaks_always so sa events =
    let p = played so sa events in
    let h = plays-go events (start (fresh so) (fresh sa)) (record { out = no-breaks; back = no-breaks }) in (
      prefix p.originator.account.own_breaks p.answerer.account.their_breaks (brks_in p.originator.line) (acks_in p.answerer.line) h.out,
      prefix p.answerer.account.own_breaks p.originator.account.their_breaks (brks_in p.answerer.line) (acks_in p.originator.line) h.back,
    )

pub answers_given_always : AnswersGiven
answers_given_always so sa events =
    let h = plays-go events (start (fresh so) (fresh sa)) (record { out = no-breaks; back = no-breaks }) in
    (h.out.given_are.low, h.back.given_are.low)

-- the BRK that stands first on a line
first-break : (b : OwnBreaks) (t : TheirBreaks) (command pf : Bool) (info : List ℕ) (number length_octet n told : ℕ) (rest line : List Slot)
    (acks : List AckOn) → line ≡ (record { sent = slots.Frame (Ui command pf info); number = n; told = told }) ∷ rest
    → word_in info ≡ Ok (Brk number length_octet) → Go b t (brks_in line) acks → IsBreakOf b t number length_octet n
first-break b t command pf info number length_octet n told rest line acks e w h = grind (arith)

pub sends_breaks_taken_always : SendsBreaksTaken
sends_breaks_taken_always so sa events = grind (arith, played, plays-go, start, no-breaks, first-break)
