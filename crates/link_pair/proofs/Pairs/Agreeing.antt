-- A link's turns depend on what went beside them by then, and on nothing that goes there later.
use Rattle.link_pair.proofs.Names.{◌≡◌, ℕ, zero, suc, ◌+◌, ◌-◌, ◌<◌, ◌≤◌, List, [], ◌∷◌, ◌++◌, length, drop, arith, refl, sym, ◌∙◌, ap}
use Rattle.link_pair.proofs.Names.{subst, Option, Some, None, length-drop, signal_bits, Check, Heard, SentAgo, sent-ago, RunEnd, IsDone}
use Rattle.link_pair.proofs.Names.{LinkLost, NotDetected, Left, EndsInTurn, and_then, signal_in, signals, signals_before, ArrivesAs}
use Rattle.link_pair.proofs.Names.{IsHeardOf, HeardIn, LineRun, wire_at, slot_in, lasting, last_ends, IsByLink, Progress, Goes, Ended}
use Rattle.link_pair.proofs.Names.{HearsIdly, IdlesFor, Lasts, sent_ago, Outcome, Link, Accounts, Spoken, Turn, ScriptValue, delay_of}
use Rattle.link_pair.proofs.Names.{Records, of, other, Role}
use Rattle.line_run.specs.Sampled.{IsHeardOver}
use Rattle.line_run.specs.Ends.{EndsBy}
use Rattle.link_pair.proofs.Pairs.Clear.{Beside, bits_in}

-- the same goes beside the first so many slots
abbrev pub SameBelow : ℕ → Beside → Beside → Type 0
SameBelow n b d = (role : Role) (round : ℕ) → round < n → b role round ≡ d role round

fewer : (m n : ℕ) (b d : Beside) → m ≤ n → SameBelow n b d → SameBelow m b d
fewer m n b d l h = λ role round k. h role round (omega (arith, l, k))

pub same-signals : (script : ScriptValue) (dlci : ℕ) (b d : Beside) (role : Role) (ts : List Turn) → SameBelow (length ts) b d
    → signals (wire_at script dlci b) role ts ≡ signals (wire_at script dlci d) role ts
same-signals script dlci b d role [] h = refl
same-signals script dlci b d role (t ∷ ts) h =
    let sent = signal_in (wire_at script dlci b) role (of role t).sent in
    ap (λ l. and_then l (b role (length ts)) ++ sent)
    (same-signals script dlci b d role ts (fewer (length ts) (suc (length ts)) b d (omega arith) h))
    ∙ ap (λ o. and_then (signals (wire_at script dlci d) role ts) o ++ sent) (h role (length ts) (omega arith))

pub same-before : (script : ScriptValue) (dlci : ℕ) (b d : Beside) (role : Role) (ts : List Turn) → SameBelow (suc (length ts)) b d
    → signals_before (wire_at script dlci b) role ts ≡ signals_before (wire_at script dlci d) role ts
same-before script dlci b d role ts h = grind (arith, same-signals, fewer)

-- what is heard
pub same-of : (script : ScriptValue) (dlci : ℕ) (b d : Beside) → ((role : Role) → 1 ≤ delay_of script role)
    → (sender : Role) (ts : List Turn) (hearing : Check) (heard : Heard) → SameBelow (length ts) b d
    → IsHeardOf (wire_at script dlci b) sender ts hearing heard → IsHeardOf (wire_at script dlci d) sender ts hearing heard
same-of script dlci b d delays sender ts hearing heard s = go (sent_ago delay sender ts) refl
  where
    delay : ℕ
    delay = delay_of script sender

    go : (o : Option Spoken) → sent_ago delay sender ts ≡ o
        → ArrivesAs (wire_at script dlci b) sender (drop delay ts) (drop (delay - 1) ts) hearing o heard
        → ArrivesAs (wire_at script dlci d) sender (drop delay ts) (drop (delay - 1) ts) hearing o heard
    go None e a = a
    go (Some slot) e a =
        let x : SentAgo sender delay ts slot = sent-ago sender delay ts slot (delays sender) e in
        let few : suc (length (drop delay ts)) ≤ length ts = omega (arith, x.count, x.enough, delays sender) in
        let up : length (drop (delay - 1) ts) ≤ length ts = omega (arith, length-drop (delay - 1) ts) in
        record {
          before = a.before;
          samples = a.samples;
          recorded_before = subst (λ l. Records script sender (signal_bits (bits_in script) l) a.before)
              (same-before script dlci b d sender (drop delay ts) (fewer _ (length ts) b d few s)) a.recorded_before;
          recorded = subst (λ l. Records script sender (signal_bits (bits_in script) l) a.samples)
              (same-signals script dlci b d sender (drop (delay - 1) ts) (fewer _ (length ts) b d up s)) a.recorded;
          not_lost = a.not_lost;
          octets = a.octets;
          patterns = a.patterns;
          received = a.received;
          outcome = a.outcome;
        }

same-in : (script : ScriptValue) (dlci : ℕ) (b d : Beside) → ((role : Role) → 1 ≤ delay_of script role) → (ts : List Turn) (t : Turn)
    → SameBelow (length ts) b d → HeardIn (wire_at script dlci b) ts t → HeardIn (wire_at script dlci d) ts t
same-in script dlci b d delays ts t s h role = grind (arith, same-of, other)

same-over : (script : ScriptValue) (dlci : ℕ) (b d : Beside) → ((role : Role) → 1 ≤ delay_of script role) → (ts : List Turn)
    → SameBelow (length ts) b d → IsHeardOver (wire_at script dlci b) ts → IsHeardOver (wire_at script dlci d) ts
same-over script dlci b d delays [] s h = tt
same-over script dlci b d delays (t ∷ ts) s h =
    let few : SameBelow (length ts) b d = fewer (length ts) (suc (length ts)) b d (omega arith) s in
    (same-in script dlci b d delays ts t few h.0, same-over script dlci b d delays ts few h.1)

same-run : (script : ScriptValue) (dlci : ℕ) (b d : Beside) → ((role : Role) → 1 ≤ delay_of script role) → (link : Link) (ts : List Turn)
    (ends : Accounts) → SameBelow (length ts) b d → LineRun (wire_at script dlci b) link ts ends
    → LineRun (wire_at script dlci d) link ts ends
same-run script dlci b d delays link ts ends s r = grind (arith, same-over)

abbrev same-last : (script : ScriptValue) (dlci : ℕ) (b d : Beside) → ((role : Role) → 1 ≤ delay_of script role) → (link : Link)
    (ts : List Turn) (ends : Accounts) (o : Outcome) (turn : ℕ) (left : Left) → SameBelow (length ts) b d
    → EndsInTurn (wire_at script dlci b) link ts ends o turn left → EndsInTurn (wire_at script dlci d) link ts ends o turn left
same-last script dlci b d delays link ts ends o turn left s e = record {
  number = e.number;
  last = e.last;
  mid = e.mid;
  heard = same-in script dlci b d delays ts e.last s e.heard;
  is = e.is;
  leaves = e.leaves;
}

-- a run that an end of the link ended, with the ends that it has then
record SameEnd (script : ScriptValue) (dlci : ℕ) (d : Beside) (link : Link) (ts : List Turn) (ends mid : Accounts) (end : RunEnd)
    (left : Left) : Type 0 where
  ended : EndsBy (wire_at script dlci d) link ts ends end left
  mid_is : last_ends (wire_at script dlci d) link ts ends end left ended ≡ mid

same-end : (script : ScriptValue) (dlci : ℕ) (b d : Beside) → ((role : Role) → 1 ≤ delay_of script role) → (link : Link) (ts : List Turn)
    (ends : Accounts) (end : RunEnd) (left : Left) → SameBelow (length ts) b d → IsByLink end
    → (e : EndsBy (wire_at script dlci b) link ts ends end left)
    → SameEnd script dlci d link ts ends (last_ends (wire_at script dlci b) link ts ends end left e) end left
same-end script dlci b d delays link ts ends (IsDone turn) left s by e =
    record { ended = same-last script dlci b d delays link ts ends _ turn left s e; mid_is = refl }
same-end script dlci b d delays link ts ends (LinkLost role segment turn) left s by e =
    record { ended = (e.0, same-last script dlci b d delays link ts ends _ turn left s e.1); mid_is = refl }
same-end script dlci b d delays link ts ends (NotDetected turn) left s by e =
    record { ended = same-last script dlci b d delays link ts ends _ turn left s e; mid_is = refl }
same-end script dlci b d delays link ts ends end left s by e = absurd by

-- rounds in which a link is idle
pub length-lasting : (n : ℕ) (ts : List Turn) → length (lasting n ts) ≡ n + length ts
length-lasting zero ts = omega arith
length-lasting (suc n) ts = omega (arith, length-lasting n ts)

same-idly : (script : ScriptValue) (dlci : ℕ) (b d : Beside) → ((role : Role) → 1 ≤ delay_of script role)
    → (ts : List Turn) (ends : Accounts)
    → SameBelow (length ts) b d → HearsIdly (wire_at script dlci b) ts ends → HearsIdly (wire_at script dlci d) ts ends
same-idly script dlci b d delays ts ends s h role = grind (arith, same-of, other)

same-idles : (script : ScriptValue) (dlci : ℕ) (b d : Beside) → ((role : Role) → 1 ≤ delay_of script role) → (ends : Accounts) (n : ℕ)
    (ts : List Turn) → SameBelow (n + length ts) b d → IdlesFor (wire_at script dlci b) ends n ts
    → IdlesFor (wire_at script dlci d) ends n ts
same-idles script dlci b d delays ends zero ts s h = tt
same-idles script dlci b d delays ends (suc n) ts s h = (
  same-idly script dlci b d delays (lasting (suc n) ts) ends (subst (λ k. SameBelow k b d) (sym (length-lasting (suc n) ts)) s) h.0,
  same-idles script dlci b d delays ends n ts (fewer (n + length ts) (suc n + length ts) b d (omega arith) s) h.1,
)

-- So a link came to the same in so many rounds.
pub same-lasts : (script : ScriptValue) (dlci : ℕ) (b d : Beside) → ((role : Role) → 1 ≤ delay_of script role) → (link : Link) (rounds : ℕ)
    (p : Progress) → SameBelow rounds b d → Lasts (wire_at script dlci b) link rounds p → Lasts (wire_at script dlci d) link rounds p
same-lasts script dlci b d delays link rounds (Goes ts ends) s h = grind (arith, same-run, fewer)
same-lasts script dlci b d delays link rounds (Ended ts ends end left) s h =
    let few : length h.ran.turns ≤ rounds = omega (arith, ap length h.turns_are, h.before) in
    let near : SameBelow (length h.ran.turns) b d = fewer (length h.ran.turns) rounds b d few s in
    let e = same-end script dlci b d delays link h.ran.turns h.ran.ends end left near h.by_link h.ran.ended in
    record {
      ran = record {
        turns = h.ran.turns;
        ends = h.ran.ends;
        run = same-run script dlci b d delays link h.ran.turns h.ran.ends near h.ran.run;
        ended = e.ended;
      };
      turns_are = h.turns_are;
      ends_are = e.mid_is ∙ h.ends_are;
      by_link = h.by_link;
      before = h.before;
      idles = same-idles script dlci b d delays ends (rounds - suc (length ts)) ts
          (fewer (rounds - suc (length ts) + length ts) rounds b d (omega (arith, h.before)) s) h.idles;
    }

-- slots of earlier rounds stay as they are
pub slot-stays : (dlci : ℕ) (role : Role) (t : Turn) (ts : List Turn) (round : ℕ) → round < length ts
    → slot_in dlci role (t ∷ ts) round ≡ slot_in dlci role ts round
slot-stays dlci role t ts round l = grind (arith)
