-- What a Connected end makes of the numbers that it hears.
use Rattle.turn_losses.proofs.Names.{◌⊎◌, ◌≡◌, ℕ, ◌%◌, ◌<◌, ◌≤◌, Bool, true, false, List, length, length-append, arith, refl, sym, ◌∙◌, ap}
use Rattle.turn_losses.proofs.Names.{subst, Option, Some, None, Ok, zero, suc, ◌+◌, by-linked, acked, acked_back, Plain, Frame, I, Rr, Rnr}
use Rattle.turn_losses.proofs.Names.{Rej, meant, Outgoing, resumed, Incoming, Sent, Arrived, Account, is_connected, hear, Offer, IsAllowed}
use Rattle.turn_losses.proofs.Names.{Phase, User, served_account, heard-advanced, heard-resumed, acked-heard, meant-range, is-linked}
use Rattle.turn_losses.proofs.Names.{unlinked-connected, Rates, Sends, is_linked}
use Rattle.std.proofs.Common.{min}
use Rattle.turn_bound.proofs.Sender.{Heard}
use Rattle.link_account.proofs.Names.{after_take, after_kind, kind_of, offset}
use Rattle.link_account.proofs.Names.{Took, InOrder, Terms, agree, with_piece}
use Rattle.link_account.proofs.Names.{wants}
use Rattle.lapm_receiver.specs.Incoming.{kind_at}
use Rattle.link_account.proofs.HearWays.{by-early}
use Rattle.lapm_frames.specs.declared.sent.Sent.TheVariants as slots
use Rattle.lapm_frames.specs.declared.arrived.Arrived.TheVariants as arrivals
use Rattle.link_run.proofs.Names.{offered_at, offered_times}
use Rattle.xid_params.specs.Terms.{lowered}
use Rattle.turn_bound.proofs.Serving.{served-by}

-- the N(R) of a frame that acknowledges, and the N(S) of an I frame
abbrev pub frame_nr : Frame → Option ℕ
frame_nr (I ns nr pf info) = Some nr
frame_nr (Rr command nr pf) = Some nr
frame_nr (Rnr command nr pf) = Some nr
frame_nr (Rej command nr pf) = Some nr
frame_nr frame = None

abbrev pub frame_ns : Frame → Option ℕ
frame_ns (I ns nr pf info) = Some ns
frame_ns frame = None

abbrev pub nr_heard : Arrived → Option ℕ
nr_heard (arrivals.Frame frame) = frame_nr frame
nr_heard arrived = None

abbrev pub ns_heard : Arrived → Option ℕ
ns_heard (arrivals.Frame frame) = frame_ns frame
ns_heard arrived = None

abbrev pub nr_sent : Sent → Option ℕ
nr_sent (slots.Frame frame) = frame_nr frame
nr_sent sent = None

abbrev pub ns_sent : Sent → Option ℕ
ns_sent (slots.Frame frame) = frame_ns frame
ns_sent sent = None

pub record TakenOf (ns : Option ℕ) (i j : Incoming) : Type 0 where
  pub same : ns ≡ None → j ≡ i
  pub low : length i.taken ≤ length j.taken
  pub in_order : (n : ℕ) → ns ≡ Some n → n ≡ length i.taken % 128 → (length i.taken < length j.taken) × (j.owed ≡ true)
  pub owed : i.owed ≡ true → j.owed ≡ true

pub record NumbersHeard (arrived : Arrived) (a b : Account) : Type 0 where
  pub window : b.outgoing.window ≡ a.outgoing.window
  pub pieces : b.outgoing.pieces ≡ a.outgoing.pieces
  pub front_low : a.outgoing.front ≤ b.outgoing.front
  pub advance : (b.outgoing.front ≡ a.outgoing.front) ⊎ (b.outgoing.count ≡ 0)
  pub acked : (nr : ℕ) → nr_heard arrived ≡ Some nr → meant a.outgoing.front a.outgoing.high nr ≡ Some b.outgoing.front
  pub incoming : TakenOf (ns_heard arrived) a.incoming b.incoming
  pub numbered : (n : ℕ) → ns_heard arrived ≡ Some n → b.numbered ≡ true
  pub special : b.special ≡ a.special

same-taken : (i : Incoming) → TakenOf None i i
same-taken i = record { same = λ e. refl; low = omega arith; in_order = λ n e. cc; owed = λ e. e }

kind-low : (k : Took) (o ns : ℕ) (info : List ℕ) (i : Incoming) → length i.taken ≤ length (after_kind k o info i).taken
kind-low p o ns info i = grind (arith, length-append {A = List ℕ})

kind-owed : (k : Took) (o ns : ℕ) (info : List ℕ) (i : Incoming) → i.owed ≡ true → (after_kind k o info i).owed ≡ true
kind-owed p o ns info i e = grind (arith)

in-order : (o ns : ℕ) (info : List ℕ) (i : Incoming) → length i.taken < length (after_kind InOrder o info i).taken
in-order o ns info i = omega (arith, length-append {A = List ℕ})

next-kind : (ns : ℕ) (i : Incoming) → ns ≡ length i.taken % 128 → kind_of ns i ≡ InOrder
next-kind ns i e = let none : offset i ns ≡ 0 = omega (arith, e) in ap (λ o. kind_at i o) none

takes-of : (ns : ℕ) (info : List ℕ) (i : Incoming) → TakenOf (Some ns) i (after_take ns info i)
takes-of ns info i = record {
  same = λ e. cc;
  low = kind-low (kind_of ns i) (offset i ns) ns info i;
  in_order = λ n e f. next n e f;
  owed = kind-owed (kind_of ns i) (offset i ns) ns info i;
}
  where
    next : (n : ℕ) → Some ns ≡ Some n → n ≡ length i.taken % 128
        → (length i.taken < length (after_take ns info i).taken) × ((after_take ns info i).owed ≡ true)
    next n e f =
        let same : ns ≡ n = cc in
        subst (λ k. (length i.taken < length (after_kind k (offset i ns) info i).taken) × ((after_kind k (offset i ns) info i).owed ≡ true))
        (sym (next-kind ns i (same ∙ f))) (in-order (offset i ns) ns info i, refl)

-- what an N(R) makes of the sender's part
record Fronted (n : ℕ) (o new : Outgoing) : Type 0 where
  pub window : new.window ≡ o.window
  pub pieces : new.pieces ≡ o.pieces
  pub front : new.front ≡ n
  pub advance : (n ≡ o.front) ⊎ (new.count ≡ 0)

fronted : (n : ℕ) (o new : Outgoing) → Heard o new → new.front ≡ n → Fronted n o new
fronted n o new h e = grind (arith)

acked-front : (final : Bool) (o : Outgoing) (n : ℕ) → ((acked final o n).front ≡ n) × ((acked_back final o n).front ≡ n)
acked-front b o n = grind (arith)

resumed-front : (o : Outgoing) → (resumed o).front ≡ o.front
resumed-front o = grind (arith)

-- nothing of it changes
heard-same : (arrived : Arrived) (a b : Account) → nr_heard arrived ≡ None → ns_heard arrived ≡ None → b.outgoing ≡ a.outgoing
    → b.incoming ≡ a.incoming → b.special ≡ a.special → NumbersHeard arrived a b
heard-same arrived a b x y o i s = grind (arith)

-- a number is heard
heard-number : (frame : Frame) (nr n : ℕ) (a b : Account) → frame_nr frame ≡ Some nr → meant a.outgoing.front a.outgoing.high nr ≡ Some n
    → Fronted n a.outgoing b.outgoing → TakenOf (frame_ns frame) a.incoming b.incoming → b.numbered ≡ true
    → b.special ≡ a.special → NumbersHeard (arrivals.Frame frame) a b
heard-number frame nr n a b e m w taken numbered special = grind (arith, meant-range)

plain-none : (frame : Frame) → Plain frame → (frame_nr frame ≡ None) × (frame_ns frame ≡ None)
plain-none frame b = grind (arith)

pub numbers-heard : (z : Rates) (arrived : Arrived) (turn : ℕ) (a mid : Account) → is_connected a.phase ≡ true
    → Sends z turn turn a.outgoing a.wait.timer → hear turn arrived a ≡ Ok mid → NumbersHeard arrived a mid
numbers-heard z arrived turn a mid c s e = by-linked (λ x b. NumbersHeard x a b) turn a (record {
  pattern = λ seen. heard-same _ a a refl refl refl refl refl;
  plain = λ frame p. let k = plain-none frame p in heard-same _ a a k.0 k.1 refl refl refl;
  numbers = record {
    i = grind (arith, meant-range, heard-number, fronted, heard-advanced, takes-of);
    rr = λ command pf nr n final f m. heard-number (Rr command nr pf) nr n a _ refl m (fronted n a.outgoing _
        (heard-resumed a.outgoing _ (acked-heard z turn turn a final command pf nr n s f m).0)
        (resumed-front _ ∙ (acked-front final a.outgoing n).0)) (same-taken a.incoming) refl refl;
    rej = λ command pf nr n final f m. heard-number (Rej command nr pf) nr n a _ refl m (fronted n a.outgoing _
        (heard-resumed a.outgoing _ (acked-heard z turn turn a final command pf nr n s f m).1)
        (resumed-front _ ∙ (acked-front final a.outgoing n).1)) (same-taken a.incoming) refl refl;
    rnr = grind (arith, acked-heard, heard-number, acked-front, same-taken);
    srej = grind (arith, same-taken);
  };
  sabme = λ pf n r. heard-same _ a _ refl refl refl refl refl;
  disc = λ pf r. heard-same _ a _ refl refl refl refl refl;
  brk = λ command pf info number length_octet q. heard-same _ a _ refl refl refl refl refl;
  brkack = λ command pf info number length_octet q. heard-same _ a _ refl refl refl refl refl;
}) (heard-same _ a _ refl refl refl refl refl) arrived mid (is-linked a.phase c) e

-- What a Connected end was offered fits into its window, which is one of seven bits.
pub record Room (a : Account) : Type 0 where
  pub window : a.outgoing.window ≤ 127
  pub pieces : length a.outgoing.pieces ≤ a.outgoing.front + a.outgoing.window

abbrev pub Fits : Terms → Type 0
Fits terms = (terms.window_o ≤ 127) × (terms.window_a ≤ 127)

first-less : (srej : Bool) (m n : ℕ) → m ≤ 127 → lowered srej (min m n) ≤ 127
first-less b m n l = grind (arith)

second-less : (srej : Bool) (m n : ℕ) → n ≤ 127 → lowered srej (min m n) ≤ 127
second-less b m n l = grind (arith)

pub fits-second : (o a : Offer) → IsAllowed a → Fits (agree o a)
fits-second o a h = grind (arith, second-less, first-less)

-- becoming Connected
pub record BeginsWith (b : Account) : Type 0 where
  pub so : is_connected b.phase ≡ true → (b.outgoing.window ≤ 127) × (length b.outgoing.pieces ≡ 0) × (b.outgoing.count ≡ 0)

not-connected : (b : Account) (p : Phase) → b.phase ≡ p → is_connected p ≡ false → BeginsWith b
not-connected b p e f = record { so = λ h. let wrong : true ≡ false = sym h ∙ (ap is_connected e ∙ f) in cc }

pub begins-roomy : (arrived : Arrived) (turn : ℕ) (a mid : Account) → is_linked a.phase ≡ false → Fits a.terms → IsAllowed a.setup.offer
    → hear turn arrived a ≡ Ok mid → BeginsWith mid
begins-roomy arrived turn a mid l h own e = grind (arith, by-early, not-connected, unlinked-connected)

-- offers go on while there is room
abbrev HasRoom : Outgoing → Type 0
HasRoom o = length o.pieces ≤ o.front + o.window

piece-room : (piece : List ℕ) (o : Outgoing) → length o.pieces < o.front + o.window → HasRoom o → HasRoom (with_piece piece o)
piece-room piece o l h = grind (arith, length-append {A = List ℕ})

offer-room : (file : List ℕ) (a : Account) → HasRoom a.outgoing → HasRoom (offered_at file a (wants a)).outgoing
offer-room file a h = grind (arith, piece-room)

offers-room : (n : ℕ) (file : List ℕ) (a : Account) → HasRoom a.outgoing → HasRoom (offered_times n file a).outgoing
offers-room zero file a h = h
offers-room (suc n) file a h = offers-room n file (offered_at file a (wants a)) (offer-room file a h)

-- what serving an end leaves
pub record ServedLeft (a b : Account) : Type 0 where
  pub taken : b.incoming.taken ≡ a.incoming.taken
  pub owed : b.incoming.owed ≡ a.incoming.owed
  pub room : HasRoom a.outgoing → HasRoom b.outgoing

pub served-left : (user : User) (turn : ℕ) (released : Bool) (a : Account) → ServedLeft a (served_account user turn released a)
served-left user turn released a = let s = served-by user turn released a in grind (arith, offers-room)
