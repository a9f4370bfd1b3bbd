-- The slots of a direction in order, and which one is due.
use Rattle.line_run.proofs.Cited.{◌≡◌, ℕ, zero, suc, ◌-◌, ◌<◌, ◌≤◌, true, List, [], ◌∷◌, ◌++◌, length, map, take, drop, arith}
use Rattle.line_run.proofs.Cited.{length-append, refl, sym, ◌∙◌, ap, Option, Some, None, append-nil, append_assoc, take-append_seam}
use Rattle.line_run.proofs.Cited.{drop-append_seam, map-append, length-drop, slice_get, is_some, LoneSlotsAreCounted, LoneSlotsAreDue}
use Rattle.line_run.proofs.Cited.{IsAlone, Wire, and_then, signal_in, signals, signals_before, sent_ago, sent_in, Accounts, Link, RunOf}
use Rattle.line_run.proofs.Cited.{Spoken, Turn, delay_of, of, Role}
use Rattle.line_run.specs.Stream.{Carried, carried_signal, carry, sent_by, AreSent}

-- one slot is carried
pub one-carried : (dlci : ℕ) (o : Option Spoken) → is_some o ≡ true → length (carry dlci o) ≡ 1
one-carried dlci o e = grind (arith)

pub carried-signal : (c : Wire) (role : Role) (o : Option Spoken) → map (carried_signal role) (carry c.dlci o) ≡ signal_in c role o
carried-signal c role o = grind (arith)

-- the turn that has so many turns behind it
pub record Back (n : ℕ) (role : Role) (ts : List Turn) : Type 0 where
  pub turn : Turn
  pub slot : Spoken
  pub behind : drop n ts ≡ turn ∷ drop (suc n) ts
  pub sent : (of role turn).sent ≡ Some slot
  pub ago : sent_in role (slice_get ts n) ≡ Some slot

some-slot : (o : Option Spoken) → is_some o ≡ true → (slot : Spoken) × (o ≡ Some slot)
some-slot o e = grind (arith)

pub back : (n : ℕ) (role : Role) (ts : List Turn) → AreSent role ts → n < length ts → Back n role ts
back n role [] h l = absurd (omega (arith, l))
back zero role (t ∷ ts) h l = grind (arith, some-slot)
back (suc n) role (t ∷ ts) h l =
    let b = back n role ts h.1 (omega (arith, l)) in grind (arith)

pub none-back : (n : ℕ) (role : Role) (ts : List Turn) → length ts ≤ n → sent_in role (slice_get ts n) ≡ None
none-back n role [] h = refl
none-back zero role (t ∷ ts) h = absurd (omega (arith, h))
none-back (suc n) role (t ∷ ts) h = none-back n role ts (omega (arith, h))

pub sent-dropped : (role : Role) (n : ℕ) (ts : List Turn) → AreSent role ts → AreSent role (drop n ts)
sent-dropped role zero ts h = h
sent-dropped role (suc n) [] h = h
sent-dropped role (suc n) (t ∷ ts) h = sent-dropped role n ts h.1

-- what a role sent in the turns of a run
pub run-sent : (link : Link) (role : Role) (ts : List Turn) (ends : Accounts) → RunOf link ts ends → AreSent role ts
run-sent link role [] ends h = tt
run-sent link role (t ∷ ts) ends h = (ap is_some (h.2.speaking role).sent_is, run-sent link role ts h.0 h.1)

-- a stream that is cut where a slot stands
pub record CutAt (stream front : List Carried) (x : Carried) (n : ℕ) : Type 0 where
  pub rest : drop n stream ≡ x ∷ drop (suc n) stream
  pub before : take n stream ≡ front

pub cut-at : (stream front : List Carried) (x : Carried) (rest : List Carried) (n : ℕ) → stream ≡ front ++ (x ∷ rest) → n ≡ length front
    → CutAt stream front x n
cut-at stream front x rest n e f = record {
  rest = at ∙ ap (λ l. x ∷ l) (sym more);
  before = ap (take n) e ∙ ap (λ m. take m (front ++ (x ∷ rest))) f ∙ take-append_seam front (x ∷ rest);
}
  where
    at : drop n stream ≡ x ∷ rest
    at = ap (drop n) e ∙ ap (λ m. drop m (front ++ (x ∷ rest))) f ∙ drop-append_seam front (x ∷ rest)

    place : suc n ≡ length (front ++ x ∷ [])
    place = omega (arith, f, length-append {A = Carried} front (x ∷ []))

    more : drop (suc n) stream ≡ rest
    more = ap (drop (suc n)) (e ∙ sym (append_assoc front (x ∷ []) rest)) ∙ ap (λ m. drop m (front ++ x ∷ [] ++ rest)) place
        ∙ drop-append_seam (front ++ x ∷ []) rest

-- ---- a link alone

lone-length : (dlci : ℕ) (role : Role) (ts : List Turn) → AreSent role ts → length (sent_by dlci role ts) ≡ length ts
lone-length dlci role [] h = refl
lone-length dlci role (t ∷ ts) h =
    let rest = lone-length dlci role ts h.1 in grind (arith, one-carried, length-append)

lone-front : (dlci : ℕ) (role : Role) (n : ℕ) (ts : List Turn)
    → (rest : List Carried) × (sent_by dlci role ts ≡ sent_by dlci role (drop n ts) ++ rest)
lone-front dlci role zero ts = ([], sym (append-nil (sent_by dlci role ts)))
lone-front dlci role (suc n) [] = ([], refl)
lone-front dlci role (suc n) (t ∷ ts) =
    let r = lone-front dlci role n ts in (
      r.0 ++ carry dlci (of role t).sent,
      ap (λ l. l ++ carry dlci (of role t).sent) r.1 ∙ append_assoc (sent_by dlci role (drop n ts)) r.0 (carry dlci (of role t).sent),
    )

-- where nothing goes beside, what was sent before a slot is what the link sent in the turns before
alone-before : (c : Wire) (role : Role) (ts : List Turn) → IsAlone c → signals_before c role ts ≡ signals c role ts
alone-before c role ts alone = ap (and_then (signals c role ts)) (alone role (length ts))

pub lone-signals : (c : Wire) (role : Role) (ts : List Turn) → IsAlone c
    → map (carried_signal role) (sent_by c.dlci role ts) ≡ signals_before c role ts
lone-signals c role [] alone = sym (alone-before c role [] alone)
lone-signals c role (t ∷ ts) alone =
    map-append (carried_signal role) (sent_by c.dlci role ts) (carry c.dlci (of role t).sent)
    ∙ ap (λ l. l ++ map (carried_signal role) (carry c.dlci (of role t).sent)) (lone-signals c role ts alone)
    ∙ ap (λ l. signals_before c role ts ++ l) (carried-signal c role (of role t).sent) ∙ sym (alone-before c role (t ∷ ts) alone)

pub lone-slots-are-due : LoneSlotsAreDue
lone-slots-are-due c role ts alone some h = record {
  early = λ l. none-back (d - 1) role ts (omega (arith, l, count, some));
  late = λ l. omega (arith, l, count);
  due = λ l. found (omega (arith, l, count, some));
}
  where
    d : ℕ
    d = delay_of c.script role

    stream : List Carried
    stream = sent_by c.dlci role ts

    count : length stream ≡ length ts
    count = lone-length c.dlci role ts h

    found : d - 1 < length ts → (slot : Spoken) × (sent_ago d role ts ≡ Some slot)
        × (drop (length stream - d) stream ≡ (record { dlci = c.dlci; spoken = slot }) ∷ drop (suc (length stream - d)) stream)
        × (map (carried_signal role) (take (length stream - d) stream) ≡ signals_before c role (drop d ts))
    found l =
        let b : Back (d - 1) role ts = back (d - 1) role ts h l in
        let up : suc (d - 1) ≡ d = omega (arith, some) in
        let f = lone-front c.dlci role (d - 1) ts in
        let front : List Carried = sent_by c.dlci role (drop d ts) in
        let x : Carried = record { dlci = c.dlci; spoken = b.slot } in
        let there : sent_by c.dlci role (drop (d - 1) ts) ≡ front ++ x ∷ [] = grind (arith) in
        let cut : stream ≡ front ++ (x ∷ f.0) = f.1 ∙ ap (λ l. l ++ f.0) there ∙ append_assoc front (x ∷ []) f.0 in
        let front-count = lone-length c.dlci role (drop d ts) (sent-dropped role d ts h) in
        let place : length stream - d ≡ length front = omega (arith, count, front-count, length-drop d ts, l, some) in
        let q = cut-at stream front x f.0 (length stream - d) cut place in
        (b.slot, b.ago, q.rest, ap (map (carried_signal role)) q.before ∙ lone-signals c role (drop d ts) alone)

pub lone-count : LoneSlotsAreCounted
lone-count dlci role ts h = lone-length dlci role ts h
