-- The slots of a pair in the order in which they are sent: as each link's turn begins, the slot that is due is that link's.
use Rattle.link_pair.proofs.Names.{◌≡◌, ℕ, zero, suc, ◌-◌, ◌*◌, ◌<◌, ◌≤◌, Bool, true, false, cond, nat_eq, List, [], ◌∷◌, length, arith}
use Rattle.link_pair.proofs.Names.{refl, sym, ◌∙◌, ap, Some, None, nat_tests, is_some, FlagSlot, link_of, wire_at, Carried, AreSent, IsDue}
use Rattle.link_pair.proofs.Names.{first_dlci, second_dlci, signal_or_flags, slot_in, after_second, after_first, second_wire, idle_turn}
use Rattle.link_pair.proofs.Names.{lasting, FirstSlotsAreDue, SecondSlotsAreDue, Progress, turns_in, turns_on_line, Lasts, both_sent}
use Rattle.link_pair.proofs.Names.{first_sent, Link, Turn, ScriptValue, delay_of, of, Role}
use Rattle.line_run.proofs.Streaming.{run-sent}
use Rattle.link_pair.proofs.Pairs.Clear.{Beside}
use Rattle.link_pair.proofs.Pairs.Pairing.{has-run}
use Rattle.link_pair.proofs.Pairs.Agreeing.{same-before, length-lasting}
use Rattle.link_pair.proofs.Pairs.Streaming.{first-due, second-due}

lasting-sent : (role : Role) (n : ℕ) (ts : List Turn) → AreSent role ts → AreSent role (lasting n ts)
lasting-sent role zero ts h = h
lasting-sent role (suc n) ts h = (idle role, lasting-sent role n ts h)
  where
    idle : (role : Role) → is_some (of role idle_turn).sent ≡ true
    idle role = grind (arith)

pub sent-on-line : (script : ScriptValue) (dlci : ℕ) (beside : Beside) (link : Link) (count rounds : ℕ) (p : Progress)
    → Lasts (wire_at script dlci beside) link count p → (role : Role) → AreSent role (turns_on_line rounds p)
sent-on-line script dlci beside link count rounds p h role = grind (arith, run-sent, has-run, lasting-sent)

pub length-on-line : (script : ScriptValue) (dlci : ℕ) (beside : Beside) (link : Link) (rounds : ℕ) (p : Progress)
    → Lasts (wire_at script dlci beside) link rounds p → length (turns_on_line rounds p) ≡ rounds
length-on-line script dlci beside link rounds p h = grind (arith, length-lasting)

-- behind its last turn a link sends flags
slot-behind : (dlci : ℕ) (role : Role) (ts : List Turn) (round : ℕ) → length ts ≤ round → slot_in dlci role ts round ≡ FlagSlot None
slot-behind dlci role [] round l = refl
slot-behind dlci role (t ∷ ts) round l =
    go (nat_eq round (length ts)) (differs round (length ts) l) (slot-behind dlci role ts round (omega (arith, l)))
  where
    differs : (m n : ℕ) → n < m → nat_eq m n ≡ false
    differs m n k = grind (arith, nat_tests)

    go : (b : Bool) → b ≡ false → slot_in dlci role ts round ≡ FlagSlot None
        → cond b (signal_or_flags dlci role (of role t).sent) (slot_in dlci role ts round) ≡ FlagSlot None
    go b e f = grind (arith)

slot-lasting : (dlci : ℕ) (role : Role) (n : ℕ) (ts : List Turn) (round : ℕ)
    → slot_in dlci role (lasting n ts) round ≡ slot_in dlci role ts round
slot-lasting dlci role zero ts round = refl
slot-lasting dlci role (suc n) ts round =
    go (nat_eq round (length (lasting n ts))) (is-at round (length (lasting n ts))) (slot-lasting dlci role n ts round)
  where
    is-at : (m k : ℕ) → nat_eq m k ≡ true → m ≡ k
    is-at m k e = grind (arith, nat_tests, e)

    idle : (role : Role) → signal_or_flags dlci role (of role idle_turn).sent ≡ FlagSlot None
    idle role = grind (arith)

    go : (b : Bool) → (b ≡ true → round ≡ length (lasting n ts)) → slot_in dlci role (lasting n ts) round ≡ slot_in dlci role ts round
        → cond b (signal_or_flags dlci role (of role idle_turn).sent) (slot_in dlci role (lasting n ts) round) ≡ slot_in dlci role ts round
    go b f h = grind (arith, idle, slot-behind, length-lasting)

slot-on-line : (dlci : ℕ) (role : Role) (rounds : ℕ) (p : Progress) (round : ℕ)
    → slot_in dlci role (turns_on_line rounds p) round ≡ slot_in dlci role (turns_in p) round
slot-on-line dlci role rounds p round = grind (arith, slot-lasting)

-- a slot that is due beside one thing is due beside another that is the same
due-beside : (script : ScriptValue) (dlci : ℕ) (b d : Beside) (role : Role) (ts : List Turn) (stream : List Carried) (lag : ℕ)
    → ((r : Role) (round : ℕ) → b r round ≡ d r round)
    → IsDue (wire_at script dlci b) role ts stream lag → IsDue (wire_at script dlci d) role ts stream lag
due-beside script dlci b d role ts stream lag same h = grind (arith, same-before)

second-same : (rounds : ℕ) (q : Progress) (role : Role) (round : ℕ)
    → after_second (turns_on_line rounds q) role round ≡ after_second (turns_in q) role round
second-same rounds q role round = grind (arith, slot-on-line)

first-same : (rounds : ℕ) (p : Progress) (role : Role) (round : ℕ)
    → after_first (turns_on_line rounds p) role round ≡ after_first (turns_in p) role round
first-same rounds p role round = ap Some (slot-on-line first_dlci role rounds p round)

-- As the first link's turn begins in a round, its slot is due,
pub first-slots-are-due : FirstSlotsAreDue
first-slots-are-due script files others round p q a role some =
    due-beside script first_dlci (after_second (turns_on_line round q)) (after_second (turns_in q)) role (turns_on_line round p)
    (both_sent role (turns_on_line round p) (turns_on_line round q)) (2 * delay_of script role) (second-same round q)
    (first-due script role (turns_on_line round p) (turns_on_line round q) some
    (sent-on-line script first_dlci (after_second (turns_in q)) (link_of script files) round round p a.first role)
    (sent-on-line script second_dlci (after_first (turns_in p)) (link_of script others) round round q a.second role)
    (length-on-line script first_dlci (after_second (turns_in q)) (link_of script files) round p a.first
    ∙ sym (length-on-line script second_dlci (after_first (turns_in p)) (link_of script others) round q a.second)))

-- and as the second's begins, that link's.
pub second-slots-are-due : SecondSlotsAreDue
second-slots-are-due script files others round p q a role some =
    due-beside script second_dlci (after_first (turns_on_line (suc round) p)) (after_first (turns_in p)) role (turns_on_line round q)
    (first_sent role (turns_on_line (suc round) p) (turns_on_line round q)) (2 * delay_of script role) (first-same (suc round) p)
    (go (turns_on_line (suc round) p)
    (length-on-line script first_dlci (after_second (turns_in q)) (link_of script files) (suc round) p a.first)
    (sent-on-line script first_dlci (after_second (turns_in q)) (link_of script files) (suc round) (suc round) p a.first role))
  where
    us : List Turn
    us = turns_on_line round q

    count : length us ≡ round
    count = length-on-line script second_dlci (after_first (turns_in p)) (link_of script others) round q a.second

    sent : AreSent role us
    sent = sent-on-line script second_dlci (after_first (turns_in p)) (link_of script others) round round q a.second role

    go : (ts : List Turn) → length ts ≡ suc round → AreSent role ts
        → IsDue (second_wire script ts) role us (first_sent role ts us) (2 * delay_of script role)
    go ts e h = grind (arith, second-due, us, sent, count)
