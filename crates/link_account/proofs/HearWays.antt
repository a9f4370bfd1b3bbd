-- The ways in which an end hears: what holds of each way holds of all that it becomes. So a fact about what it becomes has one line for
-- each way, and no case distinction over phases, frames and acknowledgements of its own.
use Rattle.link_account.proofs.Names.{arith, ◌⊎◌, ◌≡◌, ℕ, ◌-◌, ◌&&◌, ◌||◌, Bool, true, false, cond, refl, ap, subst, List, Option, Some}
use Rattle.link_account.proofs.Names.{None, Result, Ok, Err, option_map, after_answer, after_break, word_in, BreakFault, BreakWord, Ack}
use Rattle.link_account.proofs.Names.{Brk, Arrived, Frame, Disc, Dm, I, Rej, Rnr, Rr, Sabme, Srej, Ua, Ui, Xid, Frmr, Test, Incoming}
use Rattle.link_account.proofs.Names.{after_take, meant, with_number, Outgoing, advanced, gone_back, is_outstanding, paused_at, resumed}
use Rattle.link_account.proofs.Names.{wait_ended, Account, is_connected, connected, ends_wait, hear, hurrying, on_connected, on_nothing}
use Rattle.link_account.proofs.Names.{on_number, on_word, on_xid_command, owing, pausing, replying, then_in, timer_after, trying}
use Rattle.link_account.proofs.Names.{WantsAnswers, Phase, Closed, Connected, Detecting, Establishing, Negotiating, Releasing, LinkFault}
use Rattle.link_account.proofs.Names.{BadAck, NotDetected, PeerRefused, PeerReset, Spent, Answerer, Originator, offer_in, agree, Offer}
use Rattle.lapm_frames.specs.declared.seen.Seen.{Seen}
use Rattle.lapm_frames.specs.declared.seen.Seen.TheVariants.{Odp, Adp}
use Rattle.xid_params.specs.Terms.{default_offer}
use Rattle.lapm_frames.specs.declared.arrived.Arrived.TheVariants as arrivals
use Rattle.link_account.specs.declared.answer.Answer.TheVariants as answers

-- an end that breaks as it hears doesn't break for want of answers
abbrev pub IsRefusal : LinkFault → Type 0
IsRefusal NotDetected = ⊥
IsRefusal (Spent segment since) = ⊥
IsRefusal fault = Unit {0}

abbrev pub OnHeard : (Account → Type 0) → Result Account LinkFault → Type 0
OnHeard P (Ok b) = P b
OnHeard P (Err fault) = IsRefusal fault

abbrev pub OnFrame : (Arrived → Account → Type 0) → Frame → Result Account LinkFault → Type 0
OnFrame P frame r = OnHeard (P (arrivals.Frame frame)) r

-- a frame that changes nothing of a Connected end
pub data Plain (frame : Frame) : Type 0 where
  IsUa : (pf : Bool) → frame ≡ Ua pf → Plain frame
  IsXid : (command pf : Bool) (info : List ℕ) → frame ≡ Xid command pf info → Plain frame
  IsTest : (command pf : Bool) (info : List ℕ) → frame ≡ Test command pf info → Plain frame
  IsNoWord : (command pf : Bool) (info : List ℕ) (fault : BreakFault) → word_in info ≡ Err fault → frame ≡ Ui command pf info → Plain frame

-- a Connected end that heard a number
abbrev pub numbered_with : Account → Outgoing → Incoming → Option ℕ → Bool → Bool → Account
numbered_with a new incoming timer reply urgent = record a {
  numbered = true;
  outgoing = new;
  incoming = incoming;
  owes = record a.owes { reply = reply };
  wait = record a.wait { timer = timer; urgent = urgent };
}

-- the front advances, and where the awaited answer came the wait for it ends
abbrev pub acked : Bool → Outgoing → ℕ → Outgoing
acked final o n = cond final (wait_ended (advanced o n)) (advanced o n)

abbrev pub acked_back : Bool → Outgoing → ℕ → Outgoing
acked_back final o n = cond final (wait_ended (advanced o n)) (gone_back (advanced o n))

-- the five frames with a number, where it is one that was sent
pub record Numbers (P : Arrived → Account → Type 0) (turn : ℕ) (a : Account) : Type 0 where
  pub i : (ns nr : ℕ) (pf : Bool) (info : List ℕ) (n : ℕ) → meant a.outgoing.front a.outgoing.high nr ≡ Some n → P
      (arrivals.Frame (I ns nr pf info))
      (numbered_with a (advanced a.outgoing n) (after_take ns info a.incoming)
      (timer_after turn a.outgoing (advanced a.outgoing n) a.wait.timer)
      (a.owes.reply || pf) a.wait.urgent)
  pub rr : (command pf : Bool) (nr n : ℕ) (final : Bool) → ends_wait command pf a ≡ final → meant a.outgoing.front a.outgoing.high nr
      ≡ Some n
      → P (arrivals.Frame (Rr command nr pf)) (numbered_with a (resumed (acked final a.outgoing n)) a.incoming
      (timer_after turn a.outgoing (resumed (acked final a.outgoing n)) a.wait.timer) (a.owes.reply || (command && pf))
      (a.wait.urgent || final))
  pub rej : (command pf : Bool) (nr n : ℕ) (final : Bool) → ends_wait command pf a ≡ final → meant a.outgoing.front a.outgoing.high nr
      ≡ Some n
      → P (arrivals.Frame (Rej command nr pf)) (numbered_with a (resumed (acked_back final a.outgoing n)) a.incoming
      (timer_after turn a.outgoing (resumed (acked_back final a.outgoing n)) a.wait.timer) (a.owes.reply || (command && pf))
      (a.wait.urgent || final))
  pub rnr : (command pf : Bool) (nr n : ℕ) (final : Bool) → ends_wait command pf a ≡ final → meant a.outgoing.front a.outgoing.high nr
      ≡ Some n
      → P (arrivals.Frame (Rnr command nr pf)) (numbered_with a (paused_at (acked final a.outgoing n)) a.incoming (Some turn)
      (a.owes.reply || (command && pf)) a.wait.urgent)
  pub srej : (command pf : Bool) (nr n : ℕ) → is_outstanding a.outgoing ≡ true → meant a.outgoing.front (a.outgoing.high - 1) nr ≡ Some n
      → P (arrivals.Frame (Srej command nr pf)) (numbered_with a (record a.outgoing { chosen = with_number n a.outgoing.chosen }) a.incoming
      (timer_after turn a.outgoing (record a.outgoing
      { chosen = with_number n a.outgoing.chosen }) a.wait.timer) a.owes.reply a.wait.urgent)

-- All that a Connected end hears, but for nothing.
pub record ConnectedWays (P : Arrived → Account → Type 0) (turn : ℕ) (a : Account) : Type 0 where
  pub pattern : (seen : Seen) → P (arrivals.Pattern seen) a
  pub plain : (frame : Frame) → Plain frame → P (arrivals.Frame frame) a
  pub numbers : Numbers P turn a
  pub sabme : (pf : Bool) → a.numbered ≡ false → a.setup.role ≡ Answerer → P (arrivals.Frame (Sabme pf)) (owing (answers.Ua pf) a)
  pub disc : (pf : Bool) → a.setup.role ≡ Answerer → P (arrivals.Frame (Disc pf)) (owing (answers.Ua pf) (record a { phase = Closed }))
  pub brk : (command pf : Bool) (info : List ℕ) (number length_octet : ℕ) → word_in info ≡ Ok (Brk number length_octet)
      → P (arrivals.Frame (Ui command pf info)) (record a { their_breaks = after_break number length_octet a.their_breaks })
  pub brkack : (command pf : Bool) (info : List ℕ) (number length_octet : ℕ) → word_in info ≡ Ok (Ack number length_octet)
      → P (arrivals.Frame (Ui command pf info)) (record a { own_breaks = after_answer turn number a.own_breaks })

-- All that an end in another phase hears, but for nothing.
pub record EarlyWays (P : Arrived → Account → Type 0) (turn : ℕ) (a : Account) : Type 0 where
  pub ignores : (x : Arrived) → hear turn x a ≡ Ok a → P x a
  pub detects : a.phase ≡ Detecting → a.setup.role ≡ Originator → P (arrivals.Pattern Adp) (trying Negotiating turn a)
  pub detected : a.phase ≡ Detecting → a.setup.role ≡ Answerer → P (arrivals.Pattern Odp) (owing answers.Adp a)
  pub xid : (a.phase ≡ Detecting) ⊎ (a.phase ≡ Negotiating) → a.setup.role ≡ Answerer → (pf : Bool) (info : List ℕ) (offer : Offer)
      → offer_in info ≡ Some offer
      → P (arrivals.Frame (Xid true pf info)) (owing answers.Xid (record a { phase = Negotiating; terms = agree offer a.setup.offer }))
  pub agrees : a.phase ≡ Negotiating → a.setup.role ≡ Originator → (pf : Bool) (info : List ℕ) (offer : Offer) → offer_in info ≡ Some offer
      → P (arrivals.Frame (Xid false pf info)) (trying Establishing turn (record a { terms = agree a.setup.offer offer }))
  pub sabme_first : a.phase ≡ Detecting → a.setup.role ≡ Answerer → (pf : Bool)
      → P (arrivals.Frame (Sabme pf)) (owing (answers.Ua pf) (connected turn (record a { terms = agree default_offer a.setup.offer })))
  pub sabme : a.phase ≡ Negotiating → a.setup.role ≡ Answerer → (pf : Bool)
      → P (arrivals.Frame (Sabme pf)) (owing (answers.Ua pf) (connected turn a))
  pub ua : a.phase ≡ Establishing → P (arrivals.Frame (Ua true)) (connected turn a)
  pub disc : ((a.phase ≡ Negotiating) × (a.setup.role ≡ Answerer)) ⊎ (a.phase ≡ Closed) → (pf : Bool)
      → P (arrivals.Frame (Disc pf)) (owing (answers.Dm pf) a)
  pub closes : a.phase ≡ Releasing → (frame : Frame) → (frame ≡ Ua true) ⊎ (frame ≡ Dm true)
      → P (arrivals.Frame frame) (record a { phase = Closed })

module _ (P : Arrived → Account → Type 0) (turn : ℕ) (a : Account) (h : ConnectedWays P turn a) where
  on-linked : (frame : Frame) → OnFrame P frame (on_connected frame turn a)
  on-linked (I ns nr pf info) = grind (arith, advanced)
  on-linked (Rr command nr pf) = go (ends_wait command pf a) refl (meant a.outgoing.front a.outgoing.high nr) refl
    where
      go : (b : Bool) → ends_wait command pf a ≡ b → (m : Option ℕ) → meant a.outgoing.front a.outgoing.high nr ≡ m
          → OnFrame P (Rr command nr pf) (then_in (λ c. hurrying b (replying (command && pf) c)) (on_number turn nr
          (option_map resumed (cond b (option_map (λ n. wait_ended (advanced a.outgoing n)) m) (option_map (advanced a.outgoing) m))) a))
      go true f None e = tt
      go false f None e = tt
      go true f (Some n) e = h.numbers.rr command pf nr n true f e
      go false f (Some n) e = h.numbers.rr command pf nr n false f e
  on-linked (Rej command nr pf) = go (ends_wait command pf a) refl (meant a.outgoing.front a.outgoing.high nr) refl
    where
      go : (b : Bool) → ends_wait command pf a ≡ b → (m : Option ℕ) → meant a.outgoing.front a.outgoing.high nr ≡ m
          → OnFrame P (Rej command nr pf) (then_in (λ c. hurrying b (replying (command && pf) c)) (on_number turn nr
          (option_map resumed (cond b (option_map (λ n. wait_ended (advanced a.outgoing n)) m)
          (option_map (λ n. gone_back (advanced a.outgoing n)) m))) a))
      go true f None e = tt
      go false f None e = tt
      go true f (Some n) e = h.numbers.rej command pf nr n true f e
      go false f (Some n) e = h.numbers.rej command pf nr n false f e
  on-linked (Rnr command nr pf) = go (ends_wait command pf a) refl (meant a.outgoing.front a.outgoing.high nr) refl
    where
      go : (b : Bool) → ends_wait command pf a ≡ b → (m : Option ℕ) → meant a.outgoing.front a.outgoing.high nr ≡ m
          → OnFrame P (Rnr command nr pf) (then_in (λ c. pausing turn (replying (command && pf) c)) (on_number turn nr
          (option_map paused_at (cond b (option_map (λ n. wait_ended (advanced a.outgoing n)) m) (option_map (advanced a.outgoing) m))) a))
      go true f None e = tt
      go false f None e = tt
      go true f (Some n) e = h.numbers.rnr command pf nr n true f e
      go false f (Some n) e = h.numbers.rnr command pf nr n false f e
  on-linked (Srej command nr pf) = go (is_outstanding a.outgoing) refl (meant a.outgoing.front (a.outgoing.high - 1) nr) refl
    where
      go : (b : Bool) → is_outstanding a.outgoing ≡ b → (m : Option ℕ) → meant a.outgoing.front (a.outgoing.high - 1) nr ≡ m
          → OnFrame P (Srej command nr pf)
          (on_number turn nr (cond b (option_map (λ n. record a.outgoing { chosen = with_number n a.outgoing.chosen }) m) None) a)
      go false f m e = tt
      go true f None e = tt
      go true f (Some n) e = h.numbers.srej command pf nr n f e
  on-linked (Sabme pf) = grind (arith)
  on-linked (Disc pf) = grind (arith)
  on-linked (Ui command pf info) = go (word_in info) refl
    where
      go : (w : Result BreakWord BreakFault) → word_in info ≡ w → OnFrame P (Ui command pf info) (Ok (on_word turn w a))
      go (Ok (Brk number length_octet)) e = h.brk command pf info number length_octet e
      go (Ok (Ack number length_octet)) e = h.brkack command pf info number length_octet e
      go (Err fault) e = h.plain (Ui command pf info) (IsNoWord command pf info fault e refl)
  on-linked (Dm pf) = tt
  on-linked (Frmr pf info) = tt
  on-linked (Ua pf) = h.plain (Ua pf) (IsUa pf refl)
  on-linked (Xid command pf info) = h.plain (Xid command pf info) (IsXid command pf info refl)
  on-linked (Test command pf info) = h.plain (Test command pf info) (IsTest command pf info refl)

  linked : P arrivals.Nothing (on_nothing a) → (x : Arrived) → a.phase ≡ Connected → OnHeard (P x) (hear turn x a)
  linked nothing x e = grind (arith, on-linked)

  -- what holds of each way holds of all that a Connected end becomes
  pub by-linked : P arrivals.Nothing (on_nothing a) → (x : Arrived) (mid : Account) → a.phase ≡ Connected → hear turn x a ≡ Ok mid → P x mid
  by-linked nothing x mid e f = subst (OnHeard (P x)) f (linked nothing x e)

module _ (P : Arrived → Account → Type 0) (turn : ℕ) (a : Account) (h : EarlyWays P turn a) where
  commanded : (a.phase ≡ Detecting) ⊎ (a.phase ≡ Negotiating) → a.setup.role ≡ Answerer → (pf : Bool) (info : List ℕ)
      → hear turn (arrivals.Frame (Xid true pf info)) a ≡ Ok (on_xid_command (offer_in info) a)
      → P (arrivals.Frame (Xid true pf info)) (on_xid_command (offer_in info) a)
  commanded p r pf info = grind (arith)

  early : P arrivals.Nothing (on_nothing a) → (x : Arrived) → is_connected a.phase ≡ false → OnHeard (P x) (hear turn x a)
  early nothing x c = grind (arith)

  -- and an end in another phase
  pub by-early : P arrivals.Nothing (on_nothing a) → (x : Arrived) (mid : Account) → is_connected a.phase ≡ false → hear turn x a ≡ Ok mid
      → P x mid
  by-early nothing x mid c f = subst (OnHeard (P x)) f (early nothing x c)

-- All ways of an end.
pub record Ways (P : Arrived → Account → Type 0) (turn : ℕ) (a : Account) : Type 0 where
  pub nothing : P arrivals.Nothing (on_nothing a)
  pub linked : a.phase ≡ Connected → ConnectedWays P turn a
  pub early : is_connected a.phase ≡ false → EarlyWays P turn a

pub by-ways : (P : Arrived → Account → Type 0) (turn : ℕ) (a : Account) → Ways P turn a → (x : Arrived) (mid : Account) → hear turn x a
    ≡ Ok mid
    → P x mid
by-ways P turn a h x mid f = go a.phase refl
  where
    go : (p : Phase) → a.phase ≡ p → P x mid
    go Connected e = by-linked P turn a (h.linked e) h.nothing x mid e f
    go Detecting e = by-early P turn a (h.early (ap is_connected e)) h.nothing x mid (ap is_connected e) f
    go Negotiating e = by-early P turn a (h.early (ap is_connected e)) h.nothing x mid (ap is_connected e) f
    go Establishing e = by-early P turn a (h.early (ap is_connected e)) h.nothing x mid (ap is_connected e) f
    go Releasing e = by-early P turn a (h.early (ap is_connected e)) h.nothing x mid (ap is_connected e) f
    go Closed e = by-early P turn a (h.early (ap is_connected e)) h.nothing x mid (ap is_connected e) f

-- why an end breaks as it hears
pub refused : (turn : ℕ) (x : Arrived) (a : Account) (fault : LinkFault) → hear turn x a ≡ Err fault → IsRefusal fault
refused turn x a fault f = subst (OnHeard (λ b. Unit {0})) f (go a.phase refl)
  where
    go : (p : Phase) → a.phase ≡ p → OnHeard (λ b. Unit {0}) (hear turn x a)
    go x e = grind (arith)

-- so it doesn't break for want of answers
pub breaks-not : (turn : ℕ) (arrived : Arrived) (a : Account) (fault : LinkFault) → hear turn arrived a ≡ Err fault
    → WantsAnswers (Some fault) → ⊥
breaks-not turn arrived a fault e w = go fault (refused turn arrived a fault e) w
  where
    go : (f : LinkFault) → IsRefusal f → WantsAnswers (Some f) → ⊥
    go NotDetected r w = r
    go (Spent segment since) r w = r
    go (BadAck nr va high) r w = w
    go (PeerReset va vr) r w = w
    go PeerRefused r w = w

-- what hearing a number leaves of the sender's part
pub record NumberKeeps (o new : Outgoing) : Type 0 where
  pub window : new.window ≡ o.window
  pub size : new.size ≡ o.size
  pub tries : new.tries ≡ o.tries
  pub pieces : new.pieces ≡ o.pieces
  pub ended : new.ended ≡ o.ended
  pub high : new.high ≡ o.high

pub resumed-keeps : (o new : Outgoing) → NumberKeeps o new → NumberKeeps o (resumed new)
resumed-keeps o new k = grind (arith)

pub resumed-unpaused : (o : Outgoing) → (resumed o).paused ≡ false
resumed-unpaused o = grind (arith)

pub acked-keeps : (final : Bool) (o : Outgoing) (n : ℕ) → NumberKeeps o (acked final o n)
acked-keeps final o n = grind (arith)

pub acked_back-keeps : (final : Bool) (o : Outgoing) (n : ℕ) → NumberKeeps o (acked_back final o n)
acked_back-keeps final o n = grind (arith)

pub paused-keeps : (final : Bool) (o : Outgoing) (n : ℕ) → NumberKeeps o (paused_at (acked final o n))
paused-keeps final o n = grind (arith)

-- rows for a number, whichever frame it comes in
pub numbers-alike : (P : Arrived → Account → Type 0) (turn : ℕ) (a : Account)
    → ((frame : Frame) (new : Outgoing) (incoming : Incoming) (timer : Option ℕ) (reply urgent : Bool) → NumberKeeps a.outgoing new
    → P (arrivals.Frame frame) (numbered_with a new incoming timer reply urgent)) → Numbers P turn a
numbers-alike P turn a h = grind (arith)
