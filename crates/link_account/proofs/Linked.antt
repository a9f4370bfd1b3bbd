-- A linked end hears: both flows go on.
use Rattle.link_account.proofs.Names.{arith, ◌≡◌, ℕ, ◌%◌, ◌≤◌, ◌||◌, ◌&&◌, Bool, true, false, cond, List, [], ◌∷◌, ◌++◌, length}
use Rattle.link_account.proofs.Names.{slice_index_or, refl, sym, ◌∙◌, ap, subst, Option, Some, None, Result, Ok, Err, option_map, after_ack}
use Rattle.link_account.proofs.Names.{after_brk, word_in, spelled, BreakFault, BreakWord, Frame, I, Rej, Rnr, Rr, Srej, Ui, Sent, Incoming}
use Rattle.link_account.proofs.Names.{after_asked, after_kind, after_told, asks, kind_of, next_expected, offset, Took, meant, Outgoing}
use Rattle.link_account.proofs.Names.{acknowledged, advanced, gone_back, next_number, paused_at, rejected, replied, resumed, wait_ended}
use Rattle.link_account.proofs.Names.{Account, ends_wait, hurrying, on_connected, on_i, on_number, on_ready, on_rej, on_rnr, on_srej}
use Rattle.link_account.proofs.Names.{on_word, pausing, replying, taking, then_in, Slot, Said, may_send, nr_of, ready_frame, says}
use Rattle.link_account.proofs.Names.{says_frame, says_segment, says_word, telling, tells, Answer, Phase, Setup, is_originator, LinkFault}
use Rattle.link_account.proofs.Flow.{IsAskable}
use Rattle.link_account.proofs.SpeakWays.{AllSaid, Answers, Steps, next-keeps}
use Rattle.link_account.proofs.Ends.{segment_of, asked_of, Goes, back-forgotten, ack-found, back-advanced, back-rejected, back-replied}
use Rattle.link_account.proofs.Ends.{back-selected, line-passed, line-lost, line-taken, line-quiet, line-sent, back-told, asked-lies}
use Rattle.lapm_frames.specs.declared.sent.Sent.TheVariants as slots

-- Parts of an account that are begun, the other end's parts, and both lines: both flows go.
pub record Flows (wo wi : ℕ) (srej : Bool) (o po : Outgoing) (i pi : Incoming) (line back : List Slot) : Type 0 where
  pub own : Goes wo srej o pi line back
  pub theirs : Goes wi srej po i back line
  pub own_window : o.window ≡ wo
  pub their_window : i.window ≡ wi
  pub srej_is : i.srej ≡ srej

abbrev pub Linked : ℕ → ℕ → Bool → Account → Outgoing → Incoming → List Slot → List Slot → Type 0
Linked wo wi srej a po pi line back = Flows wo wi srej a.outgoing po a.incoming pi line back

-- what hearing and speaking while Connected leave
pub record SameParts (s s' : Setup) (p p' : Phase) (d d' : Option Answer) : Type 0 where
  pub setup : s ≡ s'
  pub phase : p ≡ p'
  pub answer : d ≡ d'

abbrev pub Same : Account → Account → Type 0
Same a b = SameParts a.setup b.setup a.phase b.phase a.owes.answer b.owes.answer

pub same : (a : Account) → Same a a
same a = record { setup = refl; phase = refl; answer = refl }

abbrev pub IsNumbered : Sent → Type 0
IsNumbered (slots.Frame (I ns nr pf info)) = Unit {0}
IsNumbered (slots.Frame (Rr command nr pf)) = Unit {0}
IsNumbered (slots.Frame (Rnr command nr pf)) = Unit {0}
IsNumbered (slots.Frame (Rej command nr pf)) = Unit {0}
IsNumbered (slots.Frame (Srej command nr pf)) = Unit {0}
IsNumbered sent = ⊥

-- what a linked end sends, and its numbers
abbrev pub IsLinked : Sent → ℕ → ℕ → Type 0
IsLinked slots.Flags n told = Unit {0}
IsLinked (slots.Frame (I ns nr pf info)) n told = (ns ≡ n % 128) × (nr ≡ told % 128)
IsLinked (slots.Frame (Rr command nr pf)) n told = nr ≡ told % 128
IsLinked (slots.Frame (Rnr command nr pf)) n told = nr ≡ told % 128
IsLinked (slots.Frame (Rej command nr pf)) n told = nr ≡ told % 128
IsLinked (slots.Frame (Srej command nr pf)) n told = nr ≡ n % 128
IsLinked (slots.Frame (Ui command pf info)) n told = Unit {0}
IsLinked sent n told = ⊥

-- whether a linked frame is a numbered one
abbrev pub counts_as_numbered : Frame → Bool → Bool
counts_as_numbered (I ns nr pf info) b = true
counts_as_numbered (Rr command nr pf) b = true
counts_as_numbered (Rnr command nr pf) b = true
counts_as_numbered (Rej command nr pf) b = true
counts_as_numbered (Srej command nr pf) b = true
counts_as_numbered frame b = b

-- Hearing

abbrev pub HearsWell : ℕ → ℕ → Bool → Account → Outgoing → Incoming → List Slot → List Slot → Bool → Result Account LinkFault → Type 0
HearsWell wo wi srej a po pi line rest numbered (Err fault) = ⊥
HearsWell wo wi srej a po pi line rest numbered (Ok b) = Linked wo wi srej b po pi line rest × Same a b × (b.numbered ≡ numbered)

take-window : (k : Took) (o : ℕ) (info : List ℕ) (i : Incoming)
    → ((after_kind k o info i).window ≡ i.window) × ((after_kind k o info i).srej ≡ i.srej)
take-window p o info i = grind (arith)

resumed-goes : (w : ℕ) (srej : Bool) (o : Outgoing) (i : Incoming) (line back : List Slot) (b : Bool) (count : ℕ)
    → Goes w srej o i line back → Goes w srej (cond b (record o { paused = false; count = count }) o) i line back
resumed-goes w srej o i line back b count h = grind (arith)

resumed-window : (o : Outgoing) (b : Bool) (count : ℕ) → (cond b (record o { paused = false; count = count }) o).window ≡ o.window
resumed-window o b count = grind (arith)

-- nothing that the flows see
abbrev LeavesParts : (Account → Account) → Type 0
LeavesParts f = (b : Account) → ((f b).outgoing ≡ b.outgoing) × ((f b).incoming ≡ b.incoming) × ((f b).setup ≡ b.setup)
    × ((f b).phase ≡ b.phase) × ((f b).owes.answer ≡ b.owes.answer) × ((f b).numbered ≡ b.numbered)

module _ (wo wi : ℕ) (srej : Bool) (a : Account) (po : Outgoing) (pi : Incoming) (line rest : List Slot) where
  abbrev Before : Slot → Type 0
  Before slot = Linked wo wi srej a po pi line (slot ∷ rest)

  abbrev Well : Bool → Result Account LinkFault → Type 0
  Well = HearsWell wo wi srej a po pi line rest

  ack-is : (slot : Slot) (nr : ℕ) → Before slot → nr ≡ slot.told % 128 → meant a.outgoing.front a.outgoing.high nr ≡ Some slot.told
  ack-is slot nr h e = grind (arith, ack-found)

  hears-i : (turn ns nr n told : ℕ) (pf : Bool) (info : List ℕ)
      → Before (record { sent = slots.Frame (I ns nr pf info); number = n; told = told }) → ns ≡ n % 128 → nr ≡ told % 128
      → Well true (on_i turn ns nr pf info a)
  hears-i turn ns nr n told pf info h en et =
      let slot : Slot = record { sent = slots.Frame (I ns nr pf info); number = n; told = told } in
      let windows = take-window (kind_of ns a.incoming) (offset a.incoming ns) info a.incoming in
      subst (λ m. Well true (then_in (λ b. replying pf (taking ns info b)) (on_number turn nr (option_map (advanced a.outgoing) m) a)))
      (sym (ack-is slot nr h et)) (
        assumption (
          back-advanced wo srej a.outgoing pi line slot rest h.own,
          line-taken wi srej po a.incoming ns nr pf info n told rest line h.theirs en h.their_window h.srej_is,
          windows.0 ∙ h.their_window,
          windows.1 ∙ h.srej_is,
        ),
        same a,
        refl,
      )

  -- a frame with N(R) and no segment: whichever way it is used
  hears-number : (turn nr : ℕ) (slot : Slot) (f : Account → Account) (g : Outgoing → Outgoing) (made : ℕ → Outgoing)
      → Before slot → segment_of slot.sent slot.number ≡ [] → nr ≡ slot.told % 128
      → Goes wo srej (g (made slot.told)) pi line rest → (g (made slot.told)).window ≡ a.outgoing.window → LeavesParts f
      → Well true (then_in f (on_number turn nr (option_map g (option_map made (meant a.outgoing.front a.outgoing.high nr))) a))
  hears-number turn nr slot f g made h none et goes window leaves = grind (arith, ack-is, line-passed)

  -- RR or REJ, by what its number makes of the sender
  hears-resumed : (turn nr : ℕ) (slot : Slot) (command pf e : Bool) (made : ℕ → Outgoing)
      → Before slot → segment_of slot.sent slot.number ≡ [] → nr ≡ slot.told % 128
      → Goes wo srej (made slot.told) pi line rest → (made slot.told).window ≡ a.outgoing.window
      → Well true (then_in (λ b. hurrying e (replying (command && pf) b))
      (on_number turn nr (option_map resumed (option_map made (meant a.outgoing.front a.outgoing.high nr))) a))
  hears-resumed turn nr slot command pf e made h none et goes window = grind (arith, hears-number, resumed-goes, resumed-window)

  hears-ready : (turn nr : ℕ) (slot : Slot) (command pf : Bool) → Before slot → segment_of slot.sent slot.number ≡ []
      → nr ≡ slot.told % 128 → Well true (on_ready turn command nr pf a)
  hears-ready turn nr slot command pf h none et = go (ends_wait command pf a)
    where
      go : (e : Bool) → Well true (then_in (λ b. hurrying e (replying (command && pf) b))
          (on_number turn nr (option_map resumed (cond e (replied nr a.outgoing) (acknowledged nr a.outgoing))) a))
      go true = hears-resumed turn nr slot command pf true (λ n. wait_ended (advanced a.outgoing n)) h none et
          (back-replied wo srej a.outgoing pi line slot rest h.own) refl
      go false = hears-resumed turn nr slot command pf false (advanced a.outgoing) h none et
          (back-advanced wo srej a.outgoing pi line slot rest h.own) refl

  hears-rej : (turn nr : ℕ) (slot : Slot) (command pf : Bool) → Before slot → segment_of slot.sent slot.number ≡ []
      → nr ≡ slot.told % 128 → Well true (on_rej turn command nr pf a)
  hears-rej turn nr slot command pf h none et = go (ends_wait command pf a)
    where
      go : (e : Bool) → Well true (then_in (λ b. hurrying e (replying (command && pf) b))
          (on_number turn nr (option_map resumed (cond e (replied nr a.outgoing) (rejected nr a.outgoing))) a))
      go true = hears-resumed turn nr slot command pf true (λ n. wait_ended (advanced a.outgoing n)) h none et
          (back-replied wo srej a.outgoing pi line slot rest h.own) refl
      go false = hears-resumed turn nr slot command pf false (λ n. gone_back (advanced a.outgoing n)) h none et
          (back-rejected wo srej a.outgoing pi line slot rest h.own) refl

  hears-rnr : (turn nr : ℕ) (slot : Slot) (command pf : Bool) → Before slot → segment_of slot.sent slot.number ≡ []
      → nr ≡ slot.told % 128 → Well true (on_rnr turn command nr pf a)
  hears-rnr turn nr slot command pf h none et = go (ends_wait command pf a)
    where
      by : (made : ℕ → Outgoing) → Goes wo srej (paused_at (made slot.told)) pi line rest
          → (paused_at (made slot.told)).window ≡ a.outgoing.window
          → Well true (then_in (λ b. pausing turn (replying (command && pf) b))
          (on_number turn nr (option_map paused_at (option_map made (meant a.outgoing.front a.outgoing.high nr))) a))
      by made goes window = grind (arith, hears-number)

      go : (e : Bool) → Well true (then_in (λ b. pausing turn (replying (command && pf) b))
          (on_number turn nr (option_map paused_at (cond e (replied nr a.outgoing) (acknowledged nr a.outgoing))) a))
      go true = by (λ n. wait_ended (advanced a.outgoing n)) (back-replied wo srej a.outgoing pi line slot rest h.own) refl
      go false = by (advanced a.outgoing) (back-advanced wo srej a.outgoing pi line slot rest h.own) refl

  hears-srej : (turn nr n told : ℕ) (command pf : Bool)
      → Before (record { sent = slots.Frame (Srej command nr pf); number = n; told = told }) → nr ≡ n % 128
      → Well true (on_srej turn nr a)
  hears-srej turn nr n told command pf h en =
      let slot : Slot = record { sent = slots.Frame (Srej command nr pf); number = n; told = told } in
      let got = back-selected wo srej a.outgoing pi line command pf nr n told rest h.own en in
      subst (λ m. Well true (on_number turn nr m a)) (sym got.0) (
        assumption (line-passed wi srej po a.incoming slot rest line refl h.theirs),
        same a,
        refl,
      )

  -- what changes neither part
  pub passed : (slot : Slot) → Before slot → Linked wo wi srej a po pi line rest
  passed slot h = assumption (
    back-forgotten wo srej a.outgoing pi line slot rest h.own,
    line-lost wi srej po a.incoming slot rest line h.theirs,
  )

  hears-word : (turn : ℕ) (word : Result BreakWord BreakFault) → Linked wo wi srej a po pi line rest
      → Well a.numbered (Ok (on_word turn word a))
  hears-word turn word h = grind (arith, same)

  pub hears-linked : (turn n told : ℕ) (frame : Frame) → Before (record { sent = slots.Frame frame; number = n; told = told })
      → IsLinked (slots.Frame frame) n told → Well (counts_as_numbered frame a.numbered) (on_connected frame turn a)
  hears-linked turn n told (I ns nr pf info) h e = hears-i turn ns nr n told pf info h e.0 e.1
  hears-linked turn n told (Rr command nr pf) h e = hears-ready turn nr _ command pf h refl e
  hears-linked turn n told (Rnr command nr pf) h e = hears-rnr turn nr _ command pf h refl e
  hears-linked turn n told (Rej command nr pf) h e = hears-rej turn nr _ command pf h refl e
  hears-linked turn n told (Srej command nr pf) h e = hears-srej turn nr n told command pf h e
  hears-linked turn n told (Ui command pf info) h e = hears-word turn (word_in info) (passed _ h)
  hears-linked turn n told frame h e = absurd e

-- Speaking

pub record SaysWell (wo wi : ℕ) (srej : Bool) (a : Account) (po : Outgoing) (pi : Incoming) (line back : List Slot) (told : ℕ)
    (said : Said) : Type 0 where
  pub linked : Linked wo wi srej said.account po pi (line ++ (record { sent = said.sent; number = said.number; told = told }) ∷ []) back
  pub spelled : IsLinked said.sent said.number told
  pub same : Same a said.account
  pub numbered : said.account.numbered ≡ a.numbered

-- asking changes neither what is taken nor what is held
asked-taken : (i : Incoming) (n : ℕ) (b : Bool)
    → (cond b (record i { asked = i.asked ++ n ∷ [] }) (record i { rej = false })).taken ≡ i.taken
asked-taken i n x = grind (arith)

module _ (wo wi : ℕ) (srej : Bool) (a : Account) (po : Outgoing) (pi : Incoming) (line back : List Slot)
    (h : Linked wo wi srej a po pi line back) where
  abbrev Says : Said → Type 0
  Says = SaysWell wo wi srej a po pi line back (next_expected a.incoming)

  quiet : (b : Account) (sent : Sent) (n : ℕ) → Linked wo wi srej b po pi line back
      → segment_of sent n ≡ [] → IsAskable (length b.incoming.taken) po.high (asked_of sent n)
      → Linked wo wi srej b po pi (line ++ (record { sent = sent; number = n; told = next_expected b.incoming }) ∷ []) back
  quiet b sent n k none askable = assumption (
    line-quiet wo srej b.outgoing pi line back (record { sent = sent; number = n; told = next_expected b.incoming }) none k.own,
    back-told wi srej po b.incoming back line sent n k.theirs askable,
  )

  -- nothing of an account that the flows see changes
  relinked : (sent : Sent) (b : Account) → Linked wo wi srej b po pi line back
      → segment_of sent 0 ≡ [] → asked_of sent 0 ≡ None → IsLinked sent 0 (next_expected b.incoming)
      → Same a b → b.numbered ≡ a.numbered → SaysWell wo wi srej a po pi line back (next_expected b.incoming) (says sent b)
  relinked sent b k none unasked spelled alike numbered = assumption (
      quiet b sent 0 k none (subst (IsAskable (length b.incoming.taken) po.high) (sym unasked) tt))

  told-ready : (b : Account) (command pf : Bool) → Linked wo wi srej b po pi line back → Same a b → b.numbered ≡ a.numbered
      → SaysWell wo wi srej a po pi line back (next_expected b.incoming) (tells command pf b)
  told-ready b command pf k alike numbered = go b.owes.busy
    where
      told : Flows wo wi srej b.outgoing po (after_told b.incoming) pi line back
      told = record { own = k.own; theirs = k.theirs; own_window = k.own_window; their_window = k.their_window; srej_is = k.srej_is }

      go : (busy : Bool) → SaysWell wo wi srej a po pi line back (next_expected b.incoming)
          (says_frame (ready_frame busy command (nr_of b) pf) (telling (record b { owes = record b.owes { busy_told = busy } })))
      go false = relinked (slots.Frame (Rr command (nr_of b) pf)) (telling (record b { owes = record b.owes { busy_told = false } })) told
          refl refl refl alike numbered
      go true = relinked (slots.Frame (Rnr command (nr_of b) pf)) (telling (record b { owes = record b.owes { busy_told = true } })) told
          refl refl refl alike numbered

  segment : (turn n : ℕ) → may_send a ≡ Some n → AllSaid Says (says_segment turn (Some n) a)
  segment turn n e = record {
    linked = record {
      own = line-sent wo srej a.outgoing pi line back n (n % 128) (nr_of a) (next_expected a.incoming) false h.own h.own_window
          (allowed (is_originator a.setup.role || a.numbered) e);
      theirs = back-told wi srej po a.incoming back line
          (slots.Frame (I (n % 128) (nr_of a) false (slice_index_or a.outgoing.pieces n []))) n h.theirs tt;
      own_window = (next-keeps a.outgoing).window ∙ h.own_window;
      their_window = h.their_window;
      srej_is = h.srej_is;
    };
    spelled = (refl, refl);
    same = same a;
    numbered = refl;
  }
    where
      allowed : (b : Bool) → cond b (next_number a.outgoing) None ≡ Some n → next_number a.outgoing ≡ Some n
      allowed x e = grind (arith)

  word : (n : ℕ) (word : BreakWord) (b : Account) → Linked wo wi srej b po pi line back → b.incoming ≡ a.incoming → Same a b
      → b.numbered ≡ a.numbered → Says (says_word n word b)
  word n w b k e alike numbered = subst (λ i. SaysWell wo wi srej a po pi line back (next_expected i) (says_word n w b)) e (assumption (
      quiet (record b { special = true }) (slots.Frame (Ui true false (spelled w))) n k refl tt))

  asked-linked : (n : ℕ) (b : Bool)
      → Flows wo wi srej a.outgoing po (cond b (record a.incoming { asked = a.incoming.asked ++ n ∷ [] })
      (record a.incoming { rej = false })) pi
      line back
  asked-linked n true =
      record { own = h.own; theirs = h.theirs; own_window = h.own_window; their_window = h.their_window; srej_is = h.srej_is }
  asked-linked n false =
      record { own = h.own; theirs = h.theirs; own_window = h.own_window; their_window = h.their_window; srej_is = h.srej_is }

  same-length : (n : ℕ) → next_expected (after_asked n a.incoming) ≡ next_expected a.incoming
  same-length n = ap (λ l. length l) (asked-taken a.incoming n a.incoming.srej)

  rej : (n : ℕ) → Says (says_frame (Rej false (nr_of a) false)
      (telling (record a { incoming = after_asked n a.incoming; owes = record a.owes { busy_told = false } })))
  rej n = let b : Account = telling (record a { incoming = after_asked n a.incoming; owes = record a.owes { busy_told = false } }) in
      subst (λ m. SaysWell wo wi srej a po pi line back m (says_frame (Rej false (nr_of a) false) b)) (same-length n)
      (relinked (slots.Frame (Rej false (nr_of a) false)) b
      (let k = asked-linked n a.incoming.srej in
      record { own = k.own; theirs = k.theirs; own_window = k.own_window; their_window = k.their_window; srej_is = k.srej_is })
      refl refl (ap (λ m. m % 128) (sym (same-length n))) (same a) refl)

  srej-said : (n : ℕ) → a.incoming.srej ≡ true → asks a.incoming ≡ Some n → Says (record {
    sent = slots.Frame (Srej false (n % 128) false);
    number = n;
    account = record a { incoming = after_asked n a.incoming; special = true };
  })
  srej-said n t e =
      let b : Account = record a { incoming = after_asked n a.incoming; special = true } in
      let lies = asked-lies wi srej po a.incoming back line n h.theirs t e in
      record {
        linked = subst (λ m. Linked wo wi srej b po pi
            (line ++ (record { sent = slots.Frame (Srej false (n % 128) false); number = n; told = m }) ∷ []) back) (same-length n)
            (quiet b (slots.Frame (Srej false (n % 128) false)) n (asked-linked n a.incoming.srej) refl
            (subst (λ m. m ≤ n) (sym (same-length n)) lies.0, lies.1));
        spelled = refl;
        same = same a;
        numbered = refl;
      }

  -- the nine steps, the first of them apart
  pub steps-well : (turn : ℕ) (special : Bool) (P : Said → Type 0) → Answers P a → ((said : Said) → Says said → P said)
      → Steps P turn special a
  steps-well turn special P first f = record {
    answers = first;
    final = λ n e. f _ (told-ready (record a { owes = record a.owes { reply = false } }) false true h (same a) refl);
    poll = λ n r e. f _ (told-ready (record a { wait = record a.wait { poll = false } }) true true h (same a) refl);
    segment = λ b u n e. f _ (segment turn n e);
    brkack = λ b s w e. f _ (word _ w (record a { their_breaks = after_ack a.their_breaks }) h refl (same a) refl);
    brk = λ b s k w e. f _ (word _ w (record a { own_breaks = after_brk a.own_breaks }) h refl (same a) refl);
    tell = λ b w e. f _ (told-ready a false false h (same a) refl);
    rej = λ b w n e. f _ (rej n);
    srej = λ b w s n e. f _ (srej-said n e.kind e.number);
    flags = λ i. f _ (relinked slots.Flags a h refl refl tt (same a) refl);
  }
