-- A run over lines that carry what is sent is a run with queues.
use Rattle.turn_bound.proofs.Names.{◌≡◌, ℕ, zero, suc, ◌-◌, ◌<◌, ◌≤◌, Bool, true, false, cond, nat_lt, List, [], ◌∷◌, ◌++◌, map, length}
use Rattle.turn_bound.proofs.Names.{length-append, arith, refl, sym, ◌∙◌, ap, subst, Option, Some, None, slice_get, nat_tests, Role}
use Rattle.turn_bound.proofs.Names.{Originator, Answerer, of, Sent, Heard, hear, Slot, arrives, is_released, Link, Accounts, Spoken, Turn}
use Rattle.turn_bound.proofs.Names.{GoingTurn, RunOf, Crosses, Carries, IsCarried, sent_in, KeepsTime}
use Rattle.link_account.proofs.Names.{Nothing, Passed, Lost, Chance}
use Rattle.link_run.proofs.Names.{sent_ago}
use Rattle.link_run.specs.Carried.{HasDelays, has_message}
use Rattle.turn_bound.proofs.Run.{arrival, left_on, slot_of, served_account, State, Keeps}
use Rattle.lapm_frames.specs.declared.arrived.Arrived.TheVariants as arrivals
use Rattle.link_run.specs.Run as runs
use Rattle.turn_bound.proofs.Run as queued

abbrev pub sent_of : Option Spoken → Option Sent
sent_of None = None
sent_of (Some slot) = Some slot.sent

-- what a role sent in the last so many of these turns, the oldest first
abbrev pub sents : ℕ → Role → List Turn → List (Option Sent)
sents zero role ts = []
sents (suc n) role [] = []
sents (suc n) role (t ∷ ts) = sents n role ts ++ sent_of (of role t).sent ∷ []

-- The slots of the last turns: one fewer where they are all there, and else the same.
pub data Part (n : ℕ) (role : Role) (ts : List Turn) : Type 0 where
  Short : length (sents (suc n) role ts) < suc n → sents n role ts ≡ sents (suc n) role ts → sent_ago (suc n) role ts ≡ None
      → Part n role ts
  Full : length (sents (suc n) role ts) ≡ suc n → sents (suc n) role ts ≡ sent_of (sent_ago (suc n) role ts) ∷ sents n role ts
      → Part n role ts

part : (n : ℕ) (role : Role) (ts : List Turn) → Part n role ts
part zero role [] = Short (omega arith) refl refl
part (suc n) role [] = Short (omega arith) refl refl
part zero role (t ∷ ts) = Full refl refl
part (suc n) role (t ∷ ts) = go (part n role ts)
  where
    less : (m : ℕ) → suc m - 1 ≡ m
    less m = omega arith

    ago : sent_ago (suc (suc n)) role (t ∷ ts) ≡ sent_ago (suc n) role ts
    ago = ap (λ k. sent_in role (slice_get (t ∷ ts) k)) (less (suc n)) ∙ ap (λ k. sent_in role (slice_get ts k)) (sym (less n))

    go : Part n role ts → Part (suc n) role (t ∷ ts)
    go x = grind (arith, length-append {A = Option Sent}, ago)

-- what is on a line is what was sent in the last turns
abbrev pub in_slot : Slot → Option Sent
in_slot slot = Some slot.sent

abbrev pub Lies : ℕ → Role → List Turn → List Slot → Type 0
Lies delay role ts line = map in_slot line ≡ sents delay role ts

abbrev pub is_lost : Heard → Bool
is_lost Nothing = false
is_lost (Passed s) = false
is_lost (Lost s) = true
is_lost Chance = false

same-length : (line : List Slot) → length (map in_slot line) ≡ length line
same-length [] = refl
same-length (slot ∷ rest) = ap suc (same-length rest)

silent : (sent : Sent) → has_message sent ≡ false → arrives sent ≡ arrivals.Nothing
silent p e = grind (arith)

pub none-heard : (m : Option Spoken) (heard : Heard) → m ≡ None → Crosses m heard → arrivals.Nothing ≡ runs.arrival heard
none-heard b heard e c = grind (arith)

pub one-heard : (m : Option Spoken) (sent : Sent) (heard : Heard) → sent_of m ≡ Some sent → Crosses m heard
    → cond (is_lost heard) arrivals.Nothing (arrives sent) ≡ runs.arrival heard
one-heard m sent heard e c = grind (arith)

map-snoc : (line : List Slot) (slot : Slot) → map in_slot (line ++ slot ∷ []) ≡ map in_slot line ++ Some slot.sent ∷ []
map-snoc [] slot = refl
map-snoc (s ∷ line) slot = ap (λ l. Some s.sent ∷ l) (map-snoc line slot)

-- What arrives of a line, and what is on it once its sender has spoken.
pub record Crossed (delay : ℕ) (role : Role) (ts : List Turn) (line : List Slot) (heard : Heard) : Type 0 where
  pub arrives_so : arrival delay (is_lost heard) line ≡ runs.arrival heard
  pub lies_next : (t : Turn) (slot : Slot) → sent_of (of role t).sent ≡ Some slot.sent
      → Lies delay role (t ∷ ts) (left_on delay line ++ slot ∷ [])

heads : (slot : Slot) (rest : List Slot) (m : Option Sent) (l : List (Option Sent)) → map in_slot (slot ∷ rest) ≡ m ∷ l
    → (m ≡ Some slot.sent) × (map in_slot rest ≡ l)
heads slot rest m l e = (cc, cc)

next-lies : (n : ℕ) (role : Role) (ts : List Turn) (left : List Slot) → map in_slot left ≡ sents n role ts → (t : Turn) (slot : Slot)
    → sent_of (of role t).sent ≡ Some slot.sent → Lies (suc n) role (t ∷ ts) (left ++ slot ∷ [])
next-lies n role ts left h t slot e = grind (arith, map-snoc)

crossed : (delay : ℕ) (role : Role) (ts : List Turn) (line : List Slot) (heard : Heard) → 1 ≤ delay → Lies delay role ts line
    → Crosses (sent_ago delay role ts) heard → Crossed delay role ts line heard
crossed zero role ts line heard some h c = absurd (omega (arith, some))
crossed (suc n) role ts line heard some h c = go line h (part n role ts)
  where
    long : (l : List Slot) → Lies (suc n) role ts l → length l ≡ length (sents (suc n) role ts)
    long l h = sym (same-length l) ∙ ap (λ m. length m) h

    go : (l : List Slot) → Lies (suc n) role ts l → Part n role ts → Crossed (suc n) role ts l heard
    go [] h (Short few same none) = grind (arith)
    go [] h (Full all first) = let wrong : [] ≡ sent_of (sent_ago (suc n) role ts) ∷ sents n role ts = h ∙ first in cc
    go (slot ∷ rest) h (Short few same none) =
        let short : nat_lt (length (slot ∷ rest)) (suc n) ≡ true = let e : length (slot ∷ rest) ≡ length (sents (suc n) role ts) =
        long (slot ∷ rest) h in grind (arith, nat_tests, few, e) in
        record {
          arrives_so = ap (λ b. cond b arrivals.Nothing (cond (is_lost heard) arrivals.Nothing (arrives slot.sent))) short
              ∙ none-heard (sent_ago (suc n) role ts) heard none c;
          lies_next = next-lies n role ts (left_on (suc n) (slot ∷ rest))
              (ap (λ b. map in_slot (cond b (slot ∷ rest) rest)) short ∙ (h ∙ sym same));
        }
    go (slot ∷ rest) h (Full all first) =
        let full : nat_lt (length (slot ∷ rest)) (suc n) ≡ false = let e : length (slot ∷ rest) ≡ length (sents (suc n) role ts) =
        long (slot ∷ rest) h in grind (arith, nat_tests, all, e) in
        let k = heads slot rest (sent_of (sent_ago (suc n) role ts)) (sents n role ts) (h ∙ first) in
        record {
          arrives_so = ap (λ b. cond b arrivals.Nothing (cond (is_lost heard) arrivals.Nothing (arrives slot.sent))) full
              ∙ one-heard (sent_ago (suc n) role ts) slot.sent heard k.0 c;
          lies_next = next-lies n role ts (left_on (suc n) (slot ∷ rest)) (ap (λ b. map in_slot (cond b (slot ∷ rest) rest)) full ∙ k.1);
        }

-- a link, a turn and the ends as a run with queues has them
abbrev pub link_of : (Role → ℕ) → Link → queued.Link
link_of delay link = record {
  orig = record { setup = link.orig.setup; user = link.orig.user; delay = delay Originator };
  answ = record { setup = link.answ.setup; user = link.answ.user; delay = delay Answerer };
}

abbrev pub turn_of : Turn → queued.Turn
turn_of t = record { orig_loses = is_lost t.orig.heard; answ_loses = is_lost t.answ.heard }

abbrev pub state_of : Accounts → List Slot → List Slot → State
state_of ends forward back = record { orig = ends.orig; answ = ends.answ; forward = forward; back = back }

pub record Tied (delay : Role → ℕ) (link : Link) (ts : List Turn) (ends : Accounts) : Type 0 where
  pub forward : List Slot
  pub back : List Slot
  pub lies_forward : Lies (delay Originator) Originator ts forward
  pub lies_back : Lies (delay Answerer) Answerer ts back
  pub run : queued.RunOf (link_of delay link) (map turn_of ts) (state_of ends forward back)

pub turns-length : (ts : List Turn) → length (map turn_of ts) ≡ length ts
turns-length [] = refl
turns-length (t ∷ ts) = ap suc (turns-length ts)

none-sent : (delay : ℕ) (role : Role) → sents delay role [] ≡ []
none-sent delay role = grind (arith)

forth : (delay : Role → ℕ) (link : Link) (t : Turn) (ts : List Turn) (ends : Accounts) → HasDelays delay → (h : Tied delay link ts ends)
    → Carries delay ts t → Crossed (delay Originator) Originator ts h.forward t.answ.heard
forth delay link t ts ends some h c =
    crossed (delay Originator) Originator ts h.forward t.answ.heard (some Originator) h.lies_forward (c Answerer)

back-again : (delay : Role → ℕ) (link : Link) (t : Turn) (ts : List Turn) (ends : Accounts) → HasDelays delay →
    (h : Tied delay link ts ends)
    → Carries delay ts t → Crossed (delay Answerer) Answerer ts h.back t.orig.heard
back-again delay link t ts ends some h c =
    crossed (delay Answerer) Answerer ts h.back t.orig.heard (some Answerer) h.lies_back (c Originator)

tied-turn : (delay : Role → ℕ) (link : Link) (t : Turn) (ts : List Turn) (before after : Accounts) → HasDelays delay
    → Tied delay link ts before
    → GoingTurn link ts before t after → Carries delay ts t → Tied delay link (t ∷ ts) after
tied-turn delay link t ts before after some h g c =
    let o = g.speaking Originator in
    let a = g.speaking Answerer in
    let released : Bool = is_released g.mid.orig.phase in
    let so : Slot = slot_of o.said (served_account link.orig.user (length ts) released g.mid.orig) in
    let sa : Slot = slot_of a.said (served_account link.answ.user (length ts) released g.mid.answ) in
    let xf = forth delay link t ts before some h c in
    let xb = back-again delay link t ts before some h c in
    let forward : List Slot = left_on (delay Originator) h.forward ++ so ∷ [] in
    let back : List Slot = left_on (delay Answerer) h.back ++ sa ∷ [] in
    record {
      forward = forward;
      back = back;
      lies_forward = xf.lies_next t so (ap sent_of o.sent_is);
      lies_back = xb.lies_next t sa (ap sent_of a.sent_is);
      run = (
        state_of before h.forward h.back,
        h.run,
        subst (λ n. queued.GoingTurn (link_of delay link) n (state_of before h.forward h.back) (turn_of t) (state_of after forward back))
            (sym (turns-length ts)) (record {
              orig_mid = g.mid.orig;
              answ_mid = g.mid.answ;
              orig_hears = ap (λ x. hear (length ts) x before.orig) xb.arrives_so ∙ (g.hearing Originator).hears;
              answ_hears = ap (λ x. hear (length ts) x before.answ) xf.arrives_so ∙ (g.hearing Answerer).hears;
              going = g.going;
              orig_said = o.said;
              answ_said = a.said;
              orig_says = o.says;
              answ_says = a.says;
              orig_after = o.after_is;
              answ_after = a.after_is;
              forward_after = refl;
              back_after = refl;
            }),
      );
    }

pub tied : (delay : Role → ℕ) (link : Link) (ts : List Turn) (ends : Accounts) → HasDelays delay → RunOf link ts ends → IsCarried delay ts
    → Tied delay link ts ends
tied delay link [] ends some run c = record {
  forward = [];
  back = [];
  lies_forward = sym (none-sent (delay Originator) Originator);
  lies_back = sym (none-sent (delay Answerer) Answerer);
  run = ap (λ e. state_of e [] []) run;
}
tied delay link (t ∷ ts) ends some (before, run, g) c = grind (arith, tied delay link ts before some run c.1, tied-turn)

pub keeps : (tries period : ℕ) (delay : Role → ℕ) (link : Link) → KeepsTime tries period delay link
    → Keeps tries period (link_of delay link)
keeps tries period delay link k =
    let o = k.timed Originator in
    let a = k.timed Answerer in
    assumption (k.roles Originator, k.roles Answerer, k.delays Originator, k.delays Answerer)
