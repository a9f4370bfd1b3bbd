-- The slots of both links in one stream are those that each link's channel has.
use Rattle.link_pair.proofs.Names.{◌≡◌, ℕ, zero, suc, ◌+◌, ◌-◌, ◌*◌, ◌<◌, ◌≤◌, true, List, [], ◌∷◌, ◌++◌, length, map, take, drop, arith}
use Rattle.link_pair.proofs.Names.{refl, sym, ◌∙◌, ap, subst, Option, Some, append-nil, length-drop, is_some, Signal, Wire, signal_in}
use Rattle.link_pair.proofs.Names.{signals, signals_before, Carried, carry, AreSent, IsDue, first_dlci, second_dlci, signal_or_flags}
use Rattle.link_pair.proofs.Names.{slot_in, after_second, after_first, first_wire, second_wire, both_sent, first_sent, sent_ago, Spoken}
use Rattle.link_pair.proofs.Names.{Turn, ScriptValue, delay_of, of, Role}
use Rattle.std.proofs.Common.{length-append, append_assoc}
use Rattle.std.proofs.lemmas.List.{map-append}
use Rattle.line_run.specs.Stream.{carried_signal}
use Rattle.line_run.proofs.Streaming.{one-carried, carried-signal, Back, back, none-back, sent-dropped, cut-at}
use Rattle.link_pair.proofs.Pairs.Agreeing.{SameBelow, same-signals, same-before, slot-stays}

carried-one : (dlci : ℕ) (role : Role) (o : Option Spoken) → is_some o ≡ true
    → map (carried_signal role) (carry dlci o) ≡ signal_or_flags dlci role o ∷ []
carried-one dlci role o e = grind (arith)

pub both-length : (role : Role) (ts us : List Turn) → AreSent role ts → AreSent role us → length ts ≡ length us
    → length (both_sent role ts us) ≡ 2 * length ts
both-length role [] us h k e = refl
both-length role (t ∷ ts) [] h k e = absurd (omega (arith, e))
both-length role (t ∷ ts) (u ∷ us) h k e =
    let rest = both-length role ts us h.1 k.1 (omega (arith, e)) in
    let first = one-carried first_dlci (of role t).sent h.0 in
    let second = one-carried second_dlci (of role u).sent k.0 in
    let a = length-append {A = Carried} (both_sent role ts us ++ carry first_dlci (of role t).sent) (carry second_dlci (of role u).sent) in
    let b = length-append {A = Carried} (both_sent role ts us) (carry first_dlci (of role t).sent) in
    omega (arith, rest, first, second, a, b)

-- what was sent before some turns begins what was sent
pub both-front : (role : Role) (n : ℕ) (ts us : List Turn) → length ts ≡ length us
    → (rest : List Carried) × (both_sent role ts us ≡ both_sent role (drop n ts) (drop n us) ++ rest)
both-front role zero ts us e = ([], sym (append-nil (both_sent role ts us)))
both-front role (suc n) [] us e = ([], refl)
both-front role (suc n) (t ∷ ts) [] e = absurd (omega (arith, e))
both-front role (suc n) (t ∷ ts) (u ∷ us) e =
    let r = both-front role n ts us (omega (arith, e)) in
    let front = both_sent role (drop n ts) (drop n us) in
    let first = carry first_dlci (of role t).sent in
    let second = carry second_dlci (of role u).sent in (
      r.0 ++ first ++ second,
      ap (λ l. l ++ first ++ second) r.1 ∙ ap (λ l. l ++ second) (append_assoc front r.0 first)
          ∙ append_assoc front (r.0 ++ first) second,
    )

-- slots of later rounds don't matter
slot-dropped : (dlci : ℕ) (role : Role) (n : ℕ) (ts : List Turn) (round : ℕ) → round < length (drop n ts)
    → slot_in dlci role ts round ≡ slot_in dlci role (drop n ts) round
slot-dropped dlci role zero ts round l = refl
slot-dropped dlci role (suc n) [] round l = refl
slot-dropped dlci role (suc n) (t ∷ ts) round l =
    slot-stays dlci role t ts round (omega (arith, l, length-drop n ts)) ∙ slot-dropped dlci role n ts round l

second-dropped : (n : ℕ) (us : List Turn) → SameBelow (suc (length (drop n us))) (after_second (drop n us)) (after_second us)
second-dropped n us role given l = grind (arith, slot-dropped)

-- the slot of the newest turn
newest : (dlci : ℕ) (role : Role) (t : Turn) (ts : List Turn) (n : ℕ) → n ≡ length ts
    → slot_in dlci role (t ∷ ts) n ≡ signal_or_flags dlci role (of role t).sent
newest dlci role t ts n e = grind (arith)

-- what the first link's channel has before its next slot
pub first-signals : (script : ScriptValue) (role : Role) (ts us : List Turn) → AreSent role ts → AreSent role us → length ts ≡ length us
    → map (carried_signal role) (both_sent role ts us) ≡ signals_before (first_wire script us) role ts
first-signals script role [] us h k e = refl
first-signals script role (t ∷ ts) [] h k e = absurd (omega (arith, e))
first-signals script role (t ∷ ts) (u ∷ us) h k e = go (first-signals script role ts us h.1 k.1 (omega (arith, e)))
  where
    c : Wire
    c = first_wire script (u ∷ us)

    same : length ts ≡ length us
    same = omega (arith, e)

    first : List Carried
    first = carry first_dlci (of role t).sent

    second : List Carried
    second = carry second_dlci (of role u).sent

    before : List Signal
    before = signals_before c role ts

    below : SameBelow (suc (length ts)) (after_second us) (after_second (u ∷ us))
    below r given l = grind (arith, slot-stays, same)

    near : signals_before (first_wire script us) role ts ≡ before
    near = same-before script first_dlci (after_second us) (after_second (u ∷ us)) role ts below

    go : map (carried_signal role) (both_sent role ts us) ≡ signals_before (first_wire script us) role ts
        → map (carried_signal role) (both_sent role ts us ++ first ++ second) ≡ signals_before c role (t ∷ ts)
    go ih =
        map-append (carried_signal role) (both_sent role ts us ++ first) second
        ∙ ap (λ l. l ++ map (carried_signal role) second) (map-append (carried_signal role) (both_sent role ts us) first)
        ∙ ap (λ l. l ++ map (carried_signal role) first ++ map (carried_signal role) second) (ih ∙ near)
        ∙ ap (λ l. before ++ l ++ map (carried_signal role) second) (carried-signal c role (of role t).sent)
        ∙ ap (λ l. before ++ signal_in c role (of role t).sent ++ l) (carried-one second_dlci role (of role u).sent k.0)
        ∙ ap (λ z. before ++ signal_in c role (of role t).sent ++ z ∷ []) (sym (newest second_dlci role u us (length ts) same))

-- and what the second's has
pub second-signals : (script : ScriptValue) (role : Role) (ts us : List Turn) → AreSent role ts → AreSent role us → length ts ≡ length us
    → map (carried_signal role) (both_sent role ts us) ≡ signals (second_wire script ts) role us
second-signals script role [] [] h k e = refl
second-signals script role [] (u ∷ us) h k e = absurd (omega (arith, e))
second-signals script role (t ∷ ts) [] h k e = absurd (omega (arith, e))
second-signals script role (t ∷ ts) (u ∷ us) h k e = go (second-signals script role ts us h.1 k.1 (omega (arith, e)))
  where
    c : Wire
    c = second_wire script (t ∷ ts)

    same : length us ≡ length ts
    same = omega (arith, e)

    first : List Carried
    first = carry first_dlci (of role t).sent

    second : List Carried
    second = carry second_dlci (of role u).sent

    below : SameBelow (length us) (after_first ts) (after_first (t ∷ ts))
    below r round l = ap Some (sym (slot-stays first_dlci r t ts round (omega (arith, l, same))))

    near : signals (second_wire script ts) role us ≡ signals c role us
    near = same-signals script second_dlci (after_first ts) (after_first (t ∷ ts)) role us below

    go : map (carried_signal role) (both_sent role ts us) ≡ signals (second_wire script ts) role us
        → map (carried_signal role) (both_sent role ts us ++ first ++ second) ≡ signals c role (u ∷ us)
    go ih =
        map-append (carried_signal role) (both_sent role ts us ++ first) second
        ∙ ap (λ l. l ++ map (carried_signal role) second) (map-append (carried_signal role) (both_sent role ts us) first)
        ∙ ap (λ l. l ++ map (carried_signal role) first ++ map (carried_signal role) second) (ih ∙ near)
        ∙ ap (λ l. signals c role us ++ l ++ map (carried_signal role) second) (carried-one first_dlci role (of role t).sent h.0)
        ∙ ap (λ z. signals c role us ++ z ∷ [] ++ map (carried_signal role) second) (sym (newest first_dlci role t ts (length us) same))
        ∙ ap (λ l. signals c role us ++ slot_in first_dlci role (t ∷ ts) (length us) ∷ [] ++ l) (carried-signal c role (of role u).sent)

-- The first link's slot is due as a round begins,
pub first-due : (script : ScriptValue) (role : Role) (ts us : List Turn) → 1 ≤ delay_of script role → AreSent role ts → AreSent role us
    → length ts ≡ length us → IsDue (first_wire script us) role ts (both_sent role ts us) (2 * delay_of script role)
first-due script role ts us some h k e = record {
  early = λ l. none-back (d - 1) role ts (omega (arith, l, count, some));
  late = λ l. omega (arith, l, count);
  due = λ l. found (omega (arith, l, count, some));
}
  where
    d : ℕ
    d = delay_of script role

    count : length (both_sent role ts us) ≡ 2 * length ts
    count = both-length role ts us h k e

    found : d - 1 < length ts → (slot : Spoken) × (sent_ago d role ts ≡ Some slot)
        × (drop (length (both_sent role ts us) - 2 * d) (both_sent role ts us)
        ≡ (record { dlci = first_dlci; spoken = slot }) ∷ drop (suc (length (both_sent role ts us) - 2 * d)) (both_sent role ts us))
        × (map (carried_signal role) (take (length (both_sent role ts us) - 2 * d) (both_sent role ts us))
        ≡ signals_before (first_wire script us) role (drop d ts))
    found l =
        let b : Back (d - 1) role ts = back (d - 1) role ts h l in
        let w : Back (d - 1) role us = back (d - 1) role us k (omega (arith, l, e)) in
        let up : suc (d - 1) ≡ d = omega (arith, some) in
        let f = both-front role (d - 1) ts us e in
        let front : List Carried = both_sent role (drop d ts) (drop d us) in
        let x : Carried = record { dlci = first_dlci; spoken = b.slot } in
        let there : both_sent role (drop (d - 1) ts) (drop (d - 1) us)
        ≡ both_sent role (drop (suc (d - 1)) ts) (drop (suc (d - 1)) us) ++ carry first_dlci (of role b.turn).sent
        ++ carry second_dlci (of role w.turn).sent =
        ap (λ l. both_sent role l (drop (d - 1) us)) b.behind ∙ ap (λ l. both_sent role (b.turn ∷ drop (suc (d - 1)) ts) l) w.behind in
        let dropped : both_sent role (drop (suc (d - 1)) ts) (drop (suc (d - 1)) us) ≡ front =
        ap (λ n. both_sent role (drop n ts) (drop n us)) up in
        let last : carry first_dlci (of role b.turn).sent ≡ x ∷ [] = ap (carry first_dlci) b.sent in
        let tail : List Carried = carry second_dlci (of role w.turn).sent in
        let cut : both_sent role ts us ≡ front ++ (x ∷ (tail ++ f.0)) =
        f.1 ∙ ap (λ l. l ++ f.0) (there ∙ ap (λ l. l ++ carry first_dlci (of role b.turn).sent ++ tail) dropped
        ∙ ap (λ l. front ++ l ++ tail) last) ∙ append_assoc (front ++ x ∷ []) tail f.0 ∙ append_assoc front (x ∷ []) (tail ++ f.0) in
        let few : length (drop d ts) ≡ length (drop d us) = omega (arith, length-drop d ts, length-drop d us, e) in
        let front-count : length front ≡ 2 * length (drop d ts) =
        both-length role (drop d ts) (drop d us) (sent-dropped role d ts h) (sent-dropped role d us k) few in
        let place : length (both_sent role ts us) - 2 * d ≡ length front =
        omega (arith, count, front-count, length-drop d ts, l, some) in
        let q = cut-at (both_sent role ts us) front x (tail ++ f.0) (length (both_sent role ts us) - 2 * d) cut place in (
          b.slot,
          b.ago,
          q.rest,
          ap (map (carried_signal role)) q.before
              ∙ first-signals script role (drop d ts) (drop d us) (sent-dropped role d ts h) (sent-dropped role d us k) few
              ∙ same-before script first_dlci (after_second (drop d us)) (after_second us) role (drop d ts)
              (subst (λ n. SameBelow (suc n) (after_second (drop d us)) (after_second us)) (sym few) (second-dropped d us)),
        )

-- and the second's as its turn begins.
pub second-due : (script : ScriptValue) (role : Role) (t : Turn) (ts us : List Turn) → 1 ≤ delay_of script role → AreSent role (t ∷ ts)
    → AreSent role us → length ts ≡ length us
    → IsDue (second_wire script (t ∷ ts)) role us (first_sent role (t ∷ ts) us) (2 * delay_of script role)
second-due script role t ts us some h k e = record {
  early = λ l. none-back (d - 1) role us (omega (arith, l, count, some, e));
  late = λ l. omega (arith, l, count, e);
  due = λ l. found (omega (arith, l, count, some, e));
}
  where
    d : ℕ
    d = delay_of script role

    stream : List Carried
    stream = both_sent role ts us ++ carry first_dlci (of role t).sent

    count : length stream ≡ 2 * length ts + 1
    count = grind (arith, both-length, one-carried, length-append)

    c : Wire
    c = second_wire script (t ∷ ts)

    found : d - 1 < length us → (slot : Spoken) × (sent_ago d role us ≡ Some slot)
        × (drop (length stream - 2 * d) stream ≡ (record { dlci = second_dlci; spoken = slot }) ∷ drop (suc (length stream - 2 * d)) stream)
        × (map (carried_signal role) (take (length stream - 2 * d) stream) ≡ signals_before c role (drop d us))
    found l =
        let b : Back (d - 1) role ts = back (d - 1) role ts h.1 (omega (arith, l, e)) in
        let w : Back (d - 1) role us = back (d - 1) role us k l in
        let up : suc (d - 1) ≡ d = omega (arith, some) in
        let f = both-front role (d - 1) ts us e in
        let x : Carried = record { dlci = second_dlci; spoken = w.slot } in
        let front : List Carried = both_sent role (drop d ts) (drop d us) ++ carry first_dlci (of role b.turn).sent in
        let there : both_sent role (drop (d - 1) ts) (drop (d - 1) us)
        ≡ both_sent role (drop (suc (d - 1)) ts) (drop (suc (d - 1)) us) ++ carry first_dlci (of role b.turn).sent
        ++ carry second_dlci (of role w.turn).sent =
        ap (λ l. both_sent role l (drop (d - 1) us)) b.behind ∙ ap (λ l. both_sent role (b.turn ∷ drop (suc (d - 1)) ts) l) w.behind in
        let dropped : both_sent role (drop (suc (d - 1)) ts) (drop (suc (d - 1)) us) ≡ both_sent role (drop d ts) (drop d us) =
        ap (λ n. both_sent role (drop n ts) (drop n us)) up in
        let tail : List Carried = f.0 ++ carry first_dlci (of role t).sent in
        let cut : stream ≡ front ++ (x ∷ tail) =
        ap (λ l. l ++ carry first_dlci (of role t).sent) (f.1 ∙ ap (λ l. l ++ f.0) (there
        ∙ ap (λ l. l ++ carry first_dlci (of role b.turn).sent ++ carry second_dlci (of role w.turn).sent) dropped
        ∙ ap (λ l. front ++ l) (ap (carry second_dlci) w.sent)))
        ∙ append_assoc (front ++ x ∷ []) f.0 (carry first_dlci (of role t).sent) ∙ append_assoc front (x ∷ []) tail in
        let few : length (drop d ts) ≡ length (drop d us) = omega (arith, length-drop d ts, length-drop d us, e) in
        let hs : AreSent role (drop d ts) = sent-dropped role d ts h.1 in
        let ks : AreSent role (drop d us) = sent-dropped role d us k in
        let both-count : length (both_sent role (drop d ts) (drop d us)) ≡ 2 * length (drop d ts) =
        both-length role (drop d ts) (drop d us) hs ks few in
        let is-one : is_some (of role b.turn).sent ≡ true = ap is_some b.sent in
        let front-count : length front ≡ 2 * length (drop d ts) + 1 =
        omega (
          arith,
          both-count,
          one-carried first_dlci (of role b.turn).sent is-one,
          length-append {A = Carried} (both_sent role (drop d ts) (drop d us)) (carry first_dlci (of role b.turn).sent),
        ) in
        let place : length stream - 2 * d ≡ length front = omega (arith, count, front-count, length-drop d ts, l, some, e) in
        let q = cut-at stream front x tail (length stream - 2 * d) cut place in
        let behind : drop (d - 1) ts ≡ b.turn ∷ drop d ts = b.behind ∙ ap (λ n. b.turn ∷ drop n ts) up in
        let newer : slot_in first_dlci role (b.turn ∷ drop d ts) (length (drop d us)) ≡ signal_or_flags first_dlci role
        (of role b.turn).sent =
        newest first_dlci role b.turn (drop d ts) (length (drop d us)) (sym few) in
        let same-slots : (r : Role) (round : ℕ) → round < suc (length (drop d us))
        → after_first (b.turn ∷ drop d ts) r round ≡ after_first (t ∷ ts) r round =
        λ r round less. ap Some (ap (λ l. slot_in first_dlci r l round) (sym behind)
        ∙ sym (slot-dropped first_dlci r (d - 1) ts round (omega (arith, less, few, length-drop d ts, length-drop (d - 1) ts, l, e, some)))
        ∙ sym (slot-stays first_dlci r t ts round (omega (arith, less, length-drop d us, l, e)))) in (
          w.slot,
          w.ago,
          q.rest,
          ap (map (carried_signal role)) q.before
              ∙ map-append (carried_signal role) (both_sent role (drop d ts) (drop d us)) (carry first_dlci (of role b.turn).sent)
              ∙ ap (λ l. l ++ map (carried_signal role) (carry first_dlci (of role b.turn).sent))
              (second-signals script role (drop d ts) (drop d us) hs ks few
              ∙ same-signals script second_dlci (after_first (drop d ts)) (after_first (b.turn ∷ drop d ts)) role (drop d us)
              (λ r round less. ap Some (sym (slot-stays first_dlci r b.turn (drop d ts) round (omega (arith, less, few))))))
              ∙ ap (λ l. signals (second_wire script (b.turn ∷ drop d ts)) role (drop d us) ++ l)
              (carried-one first_dlci role (of role b.turn).sent is-one ∙ ap (λ z. z ∷ []) (sym newer))
              ∙ same-before script second_dlci (after_first (b.turn ∷ drop d ts)) (after_first (t ∷ ts)) role (drop d us) same-slots,
        )
