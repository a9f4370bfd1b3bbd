-- How many segments an end has sent, and which of them go again, is counted by the numbers modulo 128 as by the meant ones.
use Rattle.std.proofs.Common.{◌≡◌, ◌≢◌, ℕ, zero, suc, ◌+◌, ◌%◌, ◌≤◌, ◌||◌, max, Bool, true, false, cond, nat_eq, nat_lt, List, [], ◌∷◌}
use Rattle.std.proofs.Common.{◌++◌, length, arith, refl, sym, ◌∙◌, ap, subst, Option, Some, None, Ok}
use Rattle.link_account.proofs.Names.{false≢true, nat_tests, Role, of, ReadsAllowed, Frame, Outgoing, with_piece, KeepsTaken, Sent, Account}
use Rattle.link_account.proofs.Names.{wants, MayPlay, Said}
use Rattle.link_run.proofs.Names.{Accounts, Carries, GoingTurn, IsInRange, IsPlayed, Link, RunsOver, SendsInOrder, SendsInRange, Spoken}
use Rattle.link_run.proofs.Names.{Turn, User, arrival, offered_at, offered_times, said_at, served, start}
use Rattle.link_run.specs.Counts.{number_in, segment_number, is_number, numbers_sent, repeated, sequence_number, sequence_in, sequence_of}
use Rattle.link_run.specs.Counts.{next_count, again_in, CountsByNumber, SentBelowHigh}
use Rattle.link_run.proofs.Keeping.{GoesOn, hears}
use Rattle.link_run.proofs.Serving.{served-alone}
use Rattle.link_run.proofs.Running.{runs_are_plays, hearings_are_plays}
use Rattle.link_run.proofs.Numbering.{SentAs, Alike, sends-as}
use Rattle.link_run.proofs.Taking.{delivered-out}
use Rattle.lapm_frames.specs.declared.sent.Sent.TheVariants as slots

-- the number that counts, where there is an N(S)
abbrev listed : ℕ → Option ℕ → List ℕ
listed n None = []
listed n (Some ns) = n ∷ []

framed : (n : ℕ) (frame : Frame) → number_in n (slots.Frame frame) ≡ listed n (sequence_number frame)
framed n frame = grind (arith)

numbers-are : (n : ℕ) (sent : Sent) → number_in n sent ≡ listed n (sequence_in sent)
numbers-are n sent = grind (arith)

-- serving sends nothing
piece-alike : (p : List ℕ) (o : Outgoing) → (IsInRange o → IsInRange (with_piece p o)) × ((with_piece p o).high ≡ o.high)
piece-alike [] o = (λ r. record { front_from = r.front_from; from_high = r.from_high; few = r.few; chosen = r.chosen }, refl)
piece-alike (x ∷ xs) o = (λ r. record { front_from = r.front_from; from_high = r.from_high; few = r.few; chosen = r.chosen }, refl)

offered-alike : (n : ℕ) (file : List ℕ) (a : Account) → Alike a (offered_times n file a)
offered-alike zero file a = record { range = λ r. r; high = refl }
offered-alike (suc n) file a = go (wants a) (offered-alike n file (offered_at file a (wants a)))
  where
    go : (w : Option ℕ) → Alike (offered_at file a w) (offered_times n file (offered_at file a w))
        → Alike a (offered_times n file (offered_at file a w))
    go w h = grind (arith, piece-alike)

served-alike : (u : User) (turn : ℕ) (released : Bool) (a : Account) → Alike a (served u turn released a).account
served-alike u turn released a = grind (arith, offered-alike, served-alone, delivered-out)

-- hearing sends nothing
heard-high : (a b : Account) → SendsInOrder a → GoesOn a b → b.outgoing.high ≡ a.outgoing.high
heard-high a b s x = grind (arith)

-- both ends of a play
both-in-order : SendsInRange → (link : Link) → MayPlay link.orig.setup link.answ.setup → (ends : Accounts)
    (line : Role → List (Option Spoken))
    → IsPlayed link ends line → (r : Role) → SendsInOrder (of r ends)
both-in-order sends link m ends line p r = grind (arith)

-- what an end sends in a turn
said-sends : (link : Link) (turn : ℕ) (mid : Accounts) (r : Role) (said : Said) → IsInRange (of r mid).outgoing
    → said_at link turn mid r ≡ Ok said → SentAs (sequence_in said.sent) said.number (of r mid).outgoing.high said.account.outgoing.high
said-sends link turn mid r said h e = grind (arith, served-alike, sends-as)

-- what is sent after these numbers
pub record Goes (numbers : List ℕ) (old : ℕ) (slot : Option Spoken) (new : ℕ) : Type 0 where
  pub high : new ≡ next_count (sequence_of slot) old
  pub again : repeated (segment_number slot ++ numbers) ≡ repeated numbers + again_in (sequence_of slot) old
  pub below : (n : ℕ) → is_number n (segment_number slot ++ numbers) ≡ nat_lt n new

goes-on : (numbers : List ℕ) (old new number ns : ℕ) → ((n : ℕ) → is_number n numbers ≡ nat_lt n old) → ns ≡ number % 128 → number ≤ old
    → old ≤ number + 127 → new ≡ max old (number + 1)
    → (new ≡ cond (nat_eq ns (old % 128)) (old + 1) old)
    × (cond (is_number number numbers) (repeated numbers + 1) (repeated numbers) ≡ repeated numbers + cond (nat_eq ns (old % 128)) 0 1)
    × ((n : ℕ) → (nat_eq number n || is_number n numbers) ≡ nat_lt n new)
goes-on numbers old new number ns below is low high max-is = go (nat_eq ns (old % 128)) refl
  where
    go : (b : Bool) → nat_eq ns (old % 128) ≡ b
        → (new ≡ cond b (old + 1) old)
        × (cond (is_number number numbers) (repeated numbers + 1) (repeated numbers) ≡ repeated numbers + cond b 0 1)
        × ((n : ℕ) → (nat_eq number n || is_number n numbers) ≡ nat_lt n new)
    go true e =
        let same : ns ≡ old % 128 = grind (arith, nat_tests) in
        let at : number ≡ old = omega (arith, same, is, low, high) in
        let out : nat_lt number old ≡ false = grind (arith, nat_tests) in
        let up : new ≡ old + 1 = omega (arith, at, max-is) in (
          up,
          ap (λ b. cond b (repeated numbers + 1) (repeated numbers)) (below number ∙ out) ∙ plus (repeated numbers),
          λ n. ap (λ b. nat_eq number n || b) (below n) ∙ next n at up,
        )
      where
        plus : (n : ℕ) → n ≡ n + 0
        plus n = omega arith

        next : (n : ℕ) → number ≡ old → new ≡ old + 1 → (nat_eq number n || nat_lt n old) ≡ nat_lt n new
        next n at up = grind (arith, nat_tests)
    go false e =
        let apart : number ≢ old =
        λ z. false≢true (sym e ∙ ap (λ m. nat_eq ns (m % 128)) (sym z) ∙ ap (λ m. nat_eq m (number % 128)) is ∙ same (number % 128)) in
        let less : nat_lt number old ≡ true = grind (arith, nat_tests) in
        let stays : new ≡ old = omega (arith, apart, low, max-is) in (
          stays,
          ap (λ b. cond b (repeated numbers + 1) (repeated numbers)) (below number ∙ less),
          λ n. ap (λ b. nat_eq number n || b) (below n) ∙ among n less stays,
        )
      where
        same : (m : ℕ) → nat_eq m m ≡ true
        same m = grind (arith, nat_tests)

        among : (n : ℕ) → nat_lt number old ≡ true → new ≡ old → (nat_eq number n || nat_lt n old) ≡ nat_lt n new
        among n less stays = grind (arith, nat_tests)

slot-goes : (numbers : List ℕ) (old new : ℕ) (slot : Spoken) → ((n : ℕ) → is_number n numbers ≡ nat_lt n old)
    → SentAs (sequence_in slot.sent) slot.number old new → Goes numbers old (Some slot) new
slot-goes numbers old new slot below s = go (sequence_in slot.sent) refl s
  where
    go : (o : Option ℕ) → sequence_in slot.sent ≡ o → SentAs o slot.number old new → Goes numbers old (Some slot) new
    go None e k =
        let none : number_in slot.number slot.sent ≡ [] = numbers-are slot.number slot.sent ∙ ap (listed slot.number) e in
        record {
          high = k ∙ ap (λ q. next_count q old) (sym e);
          again = ap (λ l. repeated (l ++ numbers)) none ∙ plus (repeated numbers) ∙ ap (λ q. repeated numbers + again_in q old) (sym e);
          below = λ n. ap (λ l. is_number n (l ++ numbers)) none ∙ below n ∙ ap (nat_lt n) (sym k);
        }
      where
        plus : (n : ℕ) → n ≡ n + 0
        plus n = omega arith
    go (Some ns) e k =
        let one : number_in slot.number slot.sent ≡ slot.number ∷ [] = numbers-are slot.number slot.sent ∙ ap (listed slot.number) e in
        let g = goes-on numbers old new slot.number ns below k.0 k.1 k.2 k.3 in
        record {
          high = g.0 ∙ ap (λ q. next_count q old) (sym e);
          again = ap (λ l. repeated (l ++ numbers)) one ∙ g.1 ∙ ap (λ q. repeated numbers + again_in q old) (sym e);
          below = λ n. ap (λ l. is_number n (l ++ numbers)) one ∙ g.2 n;
        }

-- a turn of a run
turn-goes : ReadsAllowed → KeepsTaken → SendsInRange
    → (link : Link) (delay : Role → ℕ) (ts : List Turn) (ends : Accounts) (t : Turn) (after : Accounts) → RunsOver link delay ts ends
    → Carries delay ts t → GoingTurn link ts ends t after → (r : Role)
    → ((n : ℕ) → is_number n (numbers_sent r ts) ≡ nat_lt n (of r ends).outgoing.high)
    → Goes (numbers_sent r ts) (of r ends).outgoing.high (of r t).sent (of r after).outgoing.high
turn-goes reads keeps sends link delay ts ends t after v n g r below =
    let turn = length ts in
    let before = both-in-order sends link v.may_play ends _ (runs_are_plays reads keeps link delay ts ends v.delays v.carried v.run) r in
    let at = both-in-order sends link v.may_play g.mid _
    (hearings_are_plays reads keeps link delay ts ends turn t g.mid v.delays v.carried v.run n g.hearing) r in
    let high : (of r g.mid).outgoing.high ≡ (of r ends).outgoing.high =
    heard-high (of r ends) (of r g.mid) before
    (hears reads keeps turn (arrival (of r t).heard) (of r ends) (of r g.mid) (g.hearing r).hears) in
    let s = g.speaking r in
    let k = subst (λ m. SentAs (sequence_in s.said.sent) s.said.number m s.said.account.outgoing.high) high
    (said-sends link turn g.mid r s.said at.range s.says) in
    subst (λ (a : Account). Goes (numbers_sent r ts) (of r ends).outgoing.high (of r t).sent a.outgoing.high) (sym s.after_is)
    (subst (λ o. Goes (numbers_sent r ts) (of r ends).outgoing.high o s.said.account.outgoing.high) (sym s.sent_is)
    (slot-goes (numbers_sent r ts) (of r ends).outgoing.high s.said.account.outgoing.high _ below k))

pub sent_below_high : ReadsAllowed → KeepsTaken → SendsInRange → SentBelowHigh
sent_below_high reads keeps sends link delay [] ends v r n = none r ∙ ap (λ (e : Accounts). nat_lt n (of r e).outgoing.high) (sym v.run)
  where
    none : (r : Role) → false ≡ nat_lt n (of r (start link)).outgoing.high
    none x = grind (arith)
sent_below_high reads keeps sends link delay (t ∷ ts) ends v r n =
    let before : RunsOver link delay ts v.run.0 =
    record { may_play = v.may_play; delays = v.delays; carried = v.carried.1; run = v.run.1 } in
    (turn-goes reads keeps sends link delay ts v.run.0 t ends before v.carried.0 v.run.2 r
    (sent_below_high reads keeps sends link delay ts v.run.0 before r)).below n

pub counts_by_number : ReadsAllowed → KeepsTaken → SendsInRange → CountsByNumber
counts_by_number reads keeps sends link delay ts ends t after v n g r =
    let k = turn-goes reads keeps sends link delay ts ends t after v n g r (sent_below_high reads keeps sends link delay ts ends v r) in
    record { high = k.high; again = k.again }
