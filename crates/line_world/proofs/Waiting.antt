-- What arrives of a stream is what a link's channel has.
use Rattle.line_world.proofs.Cited.{◌≡◌, ◌≢◌, ℕ, zero, suc, ◌-◌, ◌*◌, ◌<◌, ◌≤◌, List, [], ◌∷◌, ◌++◌, length, map, take, drop, arith}
use Rattle.line_world.proofs.Cited.{length-append, sym, ◌∙◌, ap, subst, Some, Ok, Err, map-append, length-drop, length-take, take-append-le}
use Rattle.line_world.proofs.Cited.{is_some, Signal, signal_bits, Lost, Check, Heard, Chance, Wire, IsHeardOf, Carried, carried_signal}
use Rattle.line_world.proofs.Cited.{IsDue, ArrivesBoth, HaveRoom, and_more, none_sent, CodesNext, HeardBehind, PassesOldest, IsOver}
use Rattle.line_world.proofs.Cited.{DelayedLine, LineEnd, Spoken, Turn, ScriptValue, delay_of, loses, IsCodedAs, size_of, IsOutcome}
use Rattle.line_world.proofs.Cited.{LosesAt, Records, Both, Role, Originator, Answerer}
use Rattle.std.specs.Prelude.{Result}
use Rattle.std.proofs.lemmas.List.{length-map, take-append-drop}
use Rattle.std.proofs.Math.Nat.{one-le-mul}
use Rattle.std.proofs.lemmas.List.{drop-append-le}
use Rattle.lapm_frames.specs.declared.heard.Heard.TheVariants.{Nothing}
use Rattle.line_world.specs.Lines.{ArrivesSo, AreWaiting}
use Rattle.link_run.specs.Carried.{sent_ago}
use Rattle.line_run.specs.Sampled.{signal_in, signals, signals_before, Arrives, ArrivesAs as RunArrives, LosesLine}
use Rattle.line_run.proofs.Slots.{SentAgo, sent-ago}
use Rattle.line_world.proofs.Passing.{same-count}
use Rattle.line_world.specs.Way.{Stands, Arrival, StandsAt, WaitsFor, HasRoom}
use Rattle.line_world.specs.Way.{ArrivesAs}

-- one more of a list
take-one : (n : ℕ) (xs : List Carried) (x : Carried) → drop n xs ≡ x ∷ drop (suc n) xs → take (suc n) xs ≡ take n xs ++ x ∷ []
take-one zero [] x e = absurd cc
take-one (suc n) [] x e = absurd cc
take-one zero (y ∷ xs) x e = grind (arith)
take-one (suc n) (y ∷ xs) x e = ap (λ l. y ∷ l) (take-one n xs x e)

head-of : (x y : Carried) (xs ys : List Carried) → x ∷ xs ≡ y ∷ ys → x ≡ y
head-of x y xs ys e = grind (arith)

tail-of : (x y : Carried) (xs ys : List Carried) → x ∷ xs ≡ y ∷ ys → xs ≡ ys
tail-of x y xs ys e = ap (drop 1) e

-- the slot that arrives is heard as the channel has it
heard-as : (c : Wire) (role : Role) (ts : List Turn) (size : ℕ) (passed : List Signal) (slot : Spoken) (x : Carried) (number : ℕ)
    (hearing : Check) (heard : Heard) → 1 ≤ delay_of c.script role → size ≡ 4 * c.symbols → number ≡ length ts - delay_of c.script role
    → sent_ago (delay_of c.script role) role ts ≡ Some slot → x ≡ record { dlci = c.dlci; spoken = slot }
    → passed ≡ signals_before c role (drop (delay_of c.script role) ts)
    → HeardBehind c.script role size c.dlci passed number hearing x heard → IsHeardOf c role ts hearing heard
heard-as c role ts size passed slot x number hearing heard some same count ago is before h =
    subst (λ o. RunArrives c role (drop delay ts) (drop (delay - 1) ts) hearing o heard) (sym ago) there
  where
    delay : ℕ
    delay = delay_of c.script role

    s : SentAgo role delay ts slot
    s = sent-ago role delay ts slot some ago

    upto : passed ++ carried_signal role x ∷ [] ≡ signals c role (drop (delay - 1) ts)
    upto = grind (arith, delay, is, s)

    there : Arrives c role (drop delay ts) (drop (delay - 1) ts) hearing slot heard
    there = record {
      before = h.before;
      samples = h.samples;
      recorded_before = subst (λ l. Records c.script role (signal_bits (4 * c.symbols) l) h.before) before
          (subst (λ n. Records c.script role (signal_bits n passed) h.before) same h.recorded_before);
      recorded = subst (λ l. Records c.script role (signal_bits (4 * c.symbols) l) h.samples) upto
          (subst (λ n. Records c.script role (signal_bits n (passed ++ carried_signal role x ∷ [])) h.samples) same h.recorded);
      not_lost = h.not_lost;
      octets = h.octets;
      patterns = h.patterns;
      received = h.received;
      outcome = subst (λ n. IsOutcome (loses c.script role n) role c.dlci slot.sent h.octets h.patterns heard) (count ∙ sym s.count)
          (subst (λ (z : Carried). IsOutcome (loses c.script role number) role c.dlci z.spoken.sent h.octets h.patterns heard) is
          h.outcome);
    }

lost-as : (c : Wire) (role : Role) (ts : List Turn) (size : ℕ) (passed : List Signal) (slot : Spoken) (x : Carried) (symbol : ℕ)
    → 1 ≤ delay_of c.script role → size ≡ 4 * c.symbols
    → sent_ago (delay_of c.script role) role ts ≡ Some slot → x ≡ record { dlci = c.dlci; spoken = slot }
    → passed ≡ signals_before c role (drop (delay_of c.script role) ts)
    → LosesAt role c.script (signal_bits size (passed ++ carried_signal role x ∷ [])) symbol → LosesLine c role ts symbol
lost-as c role ts size passed slot x symbol some same ago is before h =
    let delay : ℕ = delay_of c.script role in
    let s : SentAgo role delay ts slot = sent-ago role delay ts slot some ago in
    let upto : passed ++ carried_signal role x ∷ [] ≡ signals c role (drop (delay - 1) ts) =
    ap (λ l. l ++ carried_signal role x ∷ []) before
    ∙ ap (λ z. signals_before c role (drop delay ts) ++ carried_signal role z ∷ []) is
    ∙ ap (λ o. signals_before c role (drop delay ts) ++ signal_in c role o) (sym s.sent) ∙ ap (signals c role) (sym s.rest) in
    record {
      arrives = ap is_some ago;
      loses = subst (λ l. LosesAt role c.script (signal_bits (4 * c.symbols) l) symbol) upto
          (subst (λ n. LosesAt role c.script (signal_bits n (passed ++ carried_signal role x ∷ [])) symbol) same h);
    }

-- a direction that a call has moved on
pub record Moved (d new : DelayedLine) : Type 0 where
  pub sender : new.sender ≡ d.sender
  pub delay : new.delay ≡ d.delay
  pub lag : new.lag ≡ d.lag
  pub symbols : new.line.symbols ≡ d.line.symbols

still-over : (d new : DelayedLine) (c : Wire) (role : Role) (links : ℕ) (stream others : List Carried) (waiting now : ℕ)
    → IsOver d c role links stream waiting → Moved d new → StandsAt new c.script others now → IsOver new c role links others now
still-over d new c role links stream others waiting now h m stands = grind (arith)

-- the slots of a direction stand for its sender, by whatever name
sent-as : (d new : DelayedLine) (script : ScriptValue) (passed way : List Carried) → new.sender ≡ d.sender
    → Stands new script (map (carried_signal d.sender) passed) way → Stands new script (map (carried_signal new.sender) passed) way
sent-as d new script passed way e h = subst (λ s. Stands new script (map (carried_signal s) passed) way) (sym e) h

due-lag : (d : DelayedLine) (c : Wire) (role : Role) (links : ℕ) (stream : List Carried) → WaitsFor d c role links stream
    → d.lag ≡ links * delay_of c.script role
due-lag d c role links stream h = h.lag ∙ ap (λ n. links * n) h.delay

-- So what arrives is what the link is to hear.
pub arrives-as : (d new : DelayedLine) (c : Wire) (role : Role) (links : ℕ) (ts : List Turn) (stream : List Carried) (turn : ℕ)
    (hearing : Check) (r : Result Heard Lost)
    → WaitsFor d c role links stream → IsDue c role ts stream (links * delay_of c.script role) → turn ≡ length ts → Moved d new
    → Arrival d new c.script (map (carried_signal d.sender) (take (length stream - d.lag) stream)) (drop (length stream - d.lag) stream)
    turn hearing c.dlci r → ArrivesAs new c role links ts stream hearing r
arrives-as d new c role links ts stream turn hearing r h due-links number m a = by a
  where
    k : ℕ
    k = length stream - d.lag

    due : IsDue c role ts stream d.lag
    due = subst (IsDue c role ts stream) (sym (due-lag d c role links stream h)) due-links

    room : (n : ℕ) → n ≡ length stream - (d.lag - 1) → Stands new c.script (map (carried_signal d.sender) (take n stream)) (drop n stream)
        → HasRoom new c role links stream
    room n e stands = grind (arith)

    early : length stream < d.lag → r ≡ Ok Nothing → Stands new c.script (map (carried_signal d.sender) (take k stream)) (drop k stream)
        → ArrivesAs new c role links ts stream hearing r
    early l result stands = grind (arith)

    late : (x : Carried) (rest : List Carried) → drop k stream ≡ x ∷ rest → d.lag ≤ length (drop k stream)
        → PassesOldest d new c.script (map (carried_signal d.sender) (take k stream)) x rest (turn - d.delay) hearing c.dlci r
        → ArrivesAs new c role links ts stream hearing r
    late x rest way-is full passes = go r passes
      where
        enough : d.lag ≤ length stream
        enough = omega (arith, full, length-drop k stream)

        found : (slot : Spoken) × (sent_ago (delay_of c.script role) role ts ≡ Some slot)
            × (drop k stream ≡ (record { dlci = c.dlci; spoken = slot }) ∷ drop (suc k) stream)
            × (map (carried_signal role) (take k stream) ≡ signals_before c role (drop (delay_of c.script role) ts))
        found = due.due enough

        is : x ≡ record { dlci = c.dlci; spoken = found.0 }
        is = head-of x (record { dlci = c.dlci; spoken = found.0 }) rest (drop (suc k) stream) (sym way-is ∙ found.2)

        rest-is : rest ≡ drop (suc k) stream
        rest-is = tail-of x (record { dlci = c.dlci; spoken = found.0 }) rest (drop (suc k) stream) (sym way-is ∙ found.2)

        size : size_of d.line ≡ 4 * c.symbols
        size = ap (λ n. 4 * n) h.symbols

        some : 1 ≤ delay_of c.script role
        some = subst (λ z. 1 ≤ z) h.delay h.some

        one-more : map (carried_signal d.sender) (take k stream) ++ carried_signal d.sender x ∷ []
            ≡ map (carried_signal d.sender) (take (suc k) stream)
        one-more =
            sym (map-append (carried_signal d.sender) (take k stream) (x ∷ []))
            ∙ ap (map (carried_signal d.sender)) (sym (take-one k stream x (way-is ∙ ap (λ l. x ∷ l) rest-is)))

        go : (r : Result Heard Lost)
            → PassesOldest d new c.script (map (carried_signal d.sender) (take k stream)) x rest (turn - d.delay) hearing c.dlci r
            → ArrivesAs new c role links ts stream hearing r
        go (Ok heard) p =
            let n : turn - d.delay ≡ length ts - delay_of c.script role = omega (arith, number, h.delay) in (
              heard-as c role ts (size_of d.line) (map (carried_signal role) (take k stream)) found.0 x (turn - d.delay) hearing heard some
                  size n found.1 is found.3
                  (subst (λ s. HeardBehind c.script s (size_of d.line) c.dlci (map (carried_signal s) (take k stream)) (turn - d.delay)
                  hearing x heard) h.sends p.0),
              room (suc k) (omega (arith, enough, h.lag_some)) (subst (λ l. Stands new c.script l (drop (suc k) stream)) one-more
                  (subst (Stands new c.script (map (carried_signal d.sender) (take k stream) ++ carried_signal d.sender x ∷ [])) rest-is
                  p.1)),
            )
        go (Err lost) p =
            lost-as c role ts (size_of d.line) (map (carried_signal role) (take k stream)) found.0 x lost.symbol some size found.1 is
            found.3 (subst (λ s. LosesAt s c.script
            (signal_bits (size_of d.line) (map (carried_signal s) (take k stream) ++ carried_signal s x ∷ [])) lost.symbol) h.sends p)

    by : Arrival d new c.script (map (carried_signal d.sender) (take k stream)) (drop k stream) turn hearing c.dlci r
        → ArrivesAs new c role links ts stream hearing r
    by given = grind (arith, early, length-drop, k, late)

-- and one more slot is put behind the stream
pub sends-behind : (d new : DelayedLine) (c : Wire) (role : Role) (links : ℕ) (stream : List Carried) (x : Carried)
    → HasRoom d c role links stream → Moved d new
    → Stands new c.script (map (carried_signal d.sender) (take (length stream - (d.lag - 1)) stream))
    (drop (length stream - (d.lag - 1)) stream ++ x ∷ []) → WaitsFor new c role links (stream ++ x ∷ [])
sends-behind d new c role links stream x h m stands =
    let k : ℕ = length stream - (d.lag - 1) in
    let few : k ≤ length stream = omega arith in
    let same : k ≡ length (stream ++ x ∷ []) - new.lag = omega (arith, h.lag_some, m.lag, length-append {A = Carried} stream (x ∷ [])) in
    let there : Stands new c.script (map (carried_signal d.sender) (take k (stream ++ x ∷ []))) (drop k (stream ++ x ∷ [])) =
    subst (λ l. Stands new c.script (map (carried_signal d.sender) (take k (stream ++ x ∷ []))) l) (sym (drop-append-le k stream
    (x ∷ []) few))
    (subst (λ l. Stands new c.script (map (carried_signal d.sender) l) (drop k stream ++ x ∷ [])) (sym (take-append-le k stream
    (x ∷ []) few)) stands) in
    let n : ℕ = length (stream ++ x ∷ []) - new.lag in
    still-over d new c role links stream (stream ++ x ∷ []) (d.lag - 1) new.lag h m
    (sent-as d new c.script (take n (stream ++ x ∷ [])) (drop n (stream ++ x ∷ [])) m.sender
    (subst (λ y. Stands new c.script (map (carried_signal d.sender) (take y (stream ++ x ∷ []))) (drop y (stream ++ x ∷ []))) same there))

-- ---- for the two directions

pub role-hears : (d new : DelayedLine) (c : Wire) (role : Role) (links : ℕ) (ts : List Turn) (stream : List Carried) (turn : ℕ)
    (hearing : Check) (script : ScriptValue) (dlci : ℕ) (r : Result Heard Lost)
    → WaitsFor d c role links stream → IsDue c role ts stream (links * delay_of c.script role) → c.script ≡ script → c.dlci ≡ dlci
    → turn ≡ length ts → Moved d new
    → ((passed : List Signal) (way : List Carried) → Stands d script passed way → Arrival d new script passed way turn hearing dlci r)
    → ArrivesAs new c role links ts stream hearing r
role-hears d new c role links ts stream turn hearing script dlci r h due script-is dlci-is number m a =
    arrives-as d new c role links ts stream turn hearing r h due number m
    (subst (λ n. Arrival d new c.script passed way turn hearing n r) (sym dlci-is)
    (subst (λ s. ((l : List Signal) (w : List Carried) → Stands d s l w → Arrival d new s l w turn hearing dlci r)) (sym script-is) a passed
    way h.stands))
  where
    passed : List Signal
    passed = map (carried_signal d.sender) (take (length stream - d.lag) stream)

    way : List Carried
    way = drop (length stream - d.lag) stream

-- where a slot arrives, it was sent as many turns ago
pub late-of : (d : DelayedLine) (c : Wire) (role : Role) (links : ℕ) (ts : List Turn) (stream : List Carried) (turn : ℕ)
    → WaitsFor d c role links stream → IsDue c role ts stream (links * delay_of c.script role) → turn ≡ length ts
    → d.lag ≤ length d.slots.items → d.delay ≤ turn
late-of d c role links ts stream turn h due number l = grind (arith, same-count, length-drop)

pub room-of : (d : DelayedLine) (c : Wire) (role : Role) (links : ℕ) (stream : List Carried) → HasRoom d c role links stream
    → length d.slots.items < d.lag
room-of d c role links stream h = grind (arith, same-count, length-drop)

pub stands-of : (d : DelayedLine) (c : Wire) (role : Role) (links : ℕ) (stream : List Carried) (script : ScriptValue)
    → WaitsFor d c role links stream → c.script ≡ script → (passed : List Signal) × (way : List Carried) × Stands d script passed way
stands-of d c role links stream script h e = grind (arith)

-- as many slots have passed as were put on the line, at most
pub passed-few : (d : DelayedLine) (c : Wire) (role : Role) (links : ℕ) (stream : List Carried) → WaitsFor d c role links stream
    → d.line.passed ≤ length stream
passed-few d c role links stream h = grind (arith, length-map, length-take)

-- before the first slot
pub waits-first : (d : DelayedLine) (c : Wire) (role : Role) (links : ℕ)
    → ((script : ScriptValue) → Stands d script [] []) → d.sender ≡ role → d.line.symbols ≡ c.symbols
    → d.delay ≡ delay_of c.script role → d.lag ≡ links * d.delay → 1 ≤ links → 1 ≤ delay_of c.script role → WaitsFor d c role links []
waits-first d c role links stands sends symbols delay lag many some = assumption (
  subst (λ n. Stands d c.script (map (carried_signal d.sender) (take n [])) (drop n [])) none (stands c.script),
  low,
  subst (λ n. 1 ≤ n) (sym lag) (one-le-mul many low),
)
  where
    low : 1 ≤ d.delay
    low = subst (λ n. 1 ≤ n) (sym delay) some

    none : 0 ≡ 0 - d.lag
    none = omega arith

-- labels that a slot is coded as behind all that was sent are one slot more behind those on their way
pub codes-next : (d : DelayedLine) (c : Wire) (role : Role) (links : ℕ) (stream : List Carried) (waiting : ℕ) (x : Carried)
    (labels : List ℕ) → IsOver d c role links stream waiting
    → IsCodedAs role (4 * c.symbols) (map (carried_signal role) stream) (carried_signal role x) labels
    → CodesNext d (map (carried_signal d.sender) (take (length stream - waiting) stream)) (drop (length stream - waiting) stream) x labels
codes-next d c role links stream waiting x labels h coded =
    let k : ℕ = length stream - waiting in
    let all : map (carried_signal d.sender) stream
    ≡ map (carried_signal d.sender) (take k stream) ++ map (carried_signal d.sender) (drop k stream) =
    ap (map (carried_signal d.sender)) (sym (take-append-drop k stream))
    ∙ map-append (carried_signal d.sender) (take k stream) (drop k stream) in
    subst (λ l. IsCodedAs d.sender (size_of d.line) l (carried_signal d.sender x) labels) all
    (subst (λ n. IsCodedAs d.sender (4 * n) (map (carried_signal d.sender) stream) (carried_signal d.sender x) labels) (sym h.symbols)
    (subst (λ r. IsCodedAs r (4 * c.symbols) (map (carried_signal r) stream) (carried_signal r x) labels) (sym h.sends) coded))

-- what is so of each role is so of both
pub hears-both : (left : Type 0) (c : Wire) (ts : List Turn) (checks : Both Check) (to_orig to_answ : Heard)
    → IsHeardOf c Answerer ts checks.orig to_orig → IsHeardOf c Originator ts checks.answ to_answ → to_orig ≢ Chance → to_answ ≢ Chance
    → left → ArrivesBoth left c ts checks (record { orig = to_orig; answ = to_answ })
hears-both left c ts checks to_orig to_answ ho ha wo wa lines = grind (arith)

pub room-both : (orig answ : DelayedLine) (c : Wire) (links : ℕ) (streams : Both (List Carried))
    → HasRoom orig c Originator links streams.orig
    → HasRoom answ c Answerer links streams.answ → HaveRoom (record { from_orig = orig; from_answ = answ }) c links streams
room-both orig answ c links streams ho ha role = grind (arith)

pub waits-both : (orig answ : DelayedLine) (c : Wire) (links : ℕ) (streams : Both (List Carried)) (more : Both Carried)
    → WaitsFor orig c Originator links (streams.orig ++ more.orig ∷ []) → WaitsFor answ c Answerer links (streams.answ ++ more.answ ∷ [])
    → AreWaiting (record { from_orig = orig; from_answ = answ }) c links (and_more streams more)
waits-both orig answ c links streams more ho ha role = grind (arith)

pub waits-none : (orig answ : DelayedLine) (c : Wire) (links : ℕ) → WaitsFor orig c Originator links [] → WaitsFor answ c Answerer links []
    → AreWaiting (record { from_orig = orig; from_answ = answ }) c links none_sent
waits-none orig answ c links ho ha role = grind (arith)

-- what arrives leaves the line so, and then otherwise
pub arrives-left : (old new : Type 0) (c : Wire) (ts : List Turn) (checks : Both Check) (r : Result (Both Heard) LineEnd) → (old → new)
    → ArrivesSo old c ts checks r → ArrivesSo new c ts checks r
arrives-left old new c ts checks r f h = grind (arith)
