-- What was sent at 9600 bit/s comes back from the middle of the line, by however many quarters its points are turned.
use Rattle.gateway.proofs.Names.{◌≡◌, ◌∙◌, ℕ, zero, suc, ◌+◌, ◌*◌, ◌<◌, ◌≤◌, Bool, List, [], ◌∷◌, ◌++◌, length, map, take, drop, refl, sym}
use Rattle.gateway.proofs.Names.{ap, subst, arith, append_assoc, length-append, take-append-drop, length-take-le, decoding_of, ReadsAs}
use Rattle.gateway.proofs.Names.{AnyReader, four-each, first-stay, Demodulates, distances-cost, length-points, distances, IsNear, tap_of}
use Rattle.gateway.proofs.Names.{Mode, IsPrefixOf, point_of, Sample, far_from, Leads, cost, next_state}
use Rattle.std.proofs.Common.{length-drop, lt-ltb}
use Rattle.std.proofs.lemmas.List.{drop-map, drop-take}
use Rattle.trellis_tables.proofs.Sequences.{Leads-split}
use Rattle.exact_decoder.specs.Surviving.V32.{at_any}
use Rattle.line_coding.specs.Laws.{ReadersPickUp, MiddleIsSent}
use Rattle.line_coding.specs.PickedUp.{IsPickedUp}
use Rattle.noise_bound.specs.Near.{sure_of_any}
use Rattle.noise_bound.specs.NoisyLaws.{DecodesNearOfAny}
use Rattle.line_coding.proofs.TurnedLabels.{leads-within}
use Rattle.line_coding.proofs.TurnedLines.{labels_turned, length-turned, take-turned, unturned}
use Rattle.noise_bound.proofs.Turned.{turned-near}
use Rattle.gateway.specs.declared.any_reader.AnyReader.TheVariants as readers
use Rattle.gateway.specs.declared.any_reader.LineKind.TheVariants as lines
use Rattle.gateway.specs.SignalLaws.{FollowsMiddle, MiddleBitsComeBack}
use Rattle.gateway.proofs.Sent.{some-tap, take-front}
use Rattle.gateway.proofs.SentBegun.{first-labels}
use Rattle.line_coding.proofs.Readers.{tap-low}

-- ---- lists

drop-front : {X : Type 0} (front back : List X) → drop (length front) (front ++ back) ≡ back
drop-front [] back = refl
drop-front (x ∷ front) back = drop-front front back

drop-begins : {X : Type 0} (m : ℕ) (xs more : List X) → IsPrefixOf (drop m xs) (drop m (xs ++ more))
drop-begins zero xs more = (more, refl)
drop-begins (suc m) [] more = (drop (suc m) more, refl)
drop-begins (suc m) (x ∷ xs) more = drop-begins m xs more

drop-drop : {X : Type 0} (m n : ℕ) (xs : List X) → drop m (drop n xs) ≡ drop (n + m) xs
drop-drop {X} m zero xs = let e : m ≡ 0 + m = omega arith in ap (λ k. drop k xs) e
drop-drop {X} zero (suc n) [] = let e : suc n ≡ suc n + 0 = omega arith in ap (λ k. drop {A = X} k []) e
drop-drop {X} (suc m) (suc n) [] = let e : suc (n + suc m) ≡ suc n + suc m = omega arith in ap (λ k. drop {A = X} k []) e
drop-drop {X} m (suc n) (x ∷ xs) = let e : suc (n + m) ≡ suc n + m = omega arith in drop-drop m n xs ∙ ap (λ k. drop k (x ∷ xs)) e

-- the first of the first are the first of all
take-begins : (a b : ℕ) (xs : List Bool) → IsPrefixOf (take a (take b xs)) xs
take-begins a b xs = (
  drop a (take b xs) ++ drop b xs,
  sym (append_assoc (take a (take b xs)) (drop a (take b xs)) (drop b xs)) ∙ ap (λ ys. ys ++ drop b xs) (take-append-drop a (take b xs))
      ∙ take-append-drop b xs,
)

-- ---- what was sent, from a sample on

-- what is picked up of labels from a place on, of which the first so many were taken
record Given (count taken : ℕ) (sent given : List Bool) : Type 0 where
  pub were_sent : IsPrefixOf given (drop 27 (drop (4 * count) sent))
  pub long : 4 * taken ≤ length given + 27

given-behind : MiddleIsSent → (tap count taken : ℕ) (labels later : List ℕ) (sent given : List Bool) → 1 ≤ tap → tap ≤ 23
    → Demodulates tap (labels ++ later) sent → count + taken ≤ length labels → IsPickedUp tap (take taken (drop count labels)) given
    → Given count taken sent given
given-behind middle tap count taken labels later sent given some low carried within picked =
    let n : ℕ = length labels in
    let some_sent : List Bool = take (4 * n) sent in
    let own : Demodulates tap labels some_sent =
    subst (λ (xs : List ℕ). Demodulates tap xs some_sent) (take-front labels later) (first-stay tap n (labels ++ later) sent some carried)
    in
    let upto : List Bool = take (4 * (count + taken)) some_sent in
    let front : Demodulates tap (take (count + taken) labels) upto = first-stay tap (count + taken) labels some_sent some own in
    let are : given ≡ drop (4 * (count + 1) + 23) upto =
    middle tap count (take (count + taken) labels) upto given low front
    (subst (λ (xs : List ℕ). IsPickedUp tap xs given) (sym (drop-take count taken labels)) picked) in
    let place : 4 * (count + 1) + 23 ≡ 4 * count + 27 = omega arith in
    let here : given ≡ drop (4 * count + 27) upto = are ∙ ap (λ k. drop k upto) place in
    let begins = take-begins (4 * (count + taken)) (4 * n) sent in
    let part = drop-begins (4 * count + 27) upto begins.0 in
    let count_is : length (take (count + taken) labels) ≡ count + taken = length-take-le (count + taken) labels within in
    record {
      were_sent = (
        part.0,
        ap (λ xs. xs ++ part.0) here ∙ part.1 ∙ ap (drop (4 * count + 27)) begins.1
            ∙ sym (drop-drop 27 (4 * count) sent),
      );
      long = omega (
        arith,
        ap (λ (xs : List Bool). length xs) here,
        length-drop (4 * count + 27) upto,
        four-each tap (take (count + taken) labels) upto front,
        count_is,
      );
    }

follows : ReadersPickUp → MiddleIsSent → DecodesNearOfAny
    → (mode : Mode) (reader : AnyReader) (sent given : List Bool) (samples heard : List Sample) (count turns : ℕ)
    (labels later : List ℕ) → Demodulates (tap_of mode) (labels ++ later) sent → count ≤ length labels
    → IsNear sure_of_any at_any (labels_turned turns (drop count labels)) heard
    → ReadsAs lines.Middle mode reader heard given → FollowsMiddle 116 (decoding_of reader) (drop (4 * count) sent) given heard
follows pick middle decodes mode (readers.Begun r) sent given samples heard count turns labels later carried within near reads = absurd
    reads
follows pick middle decodes mode (readers.Quarters r) sent given samples heard count turns labels later carried within near reads = absurd
    reads
follows pick middle decodes mode (readers.Middle m) sent given samples heard count turns labels later carried within near reads =
    let p = pick mode 128 m heard given reads in
    let pending : List ℕ = m.reading.decoder.pending in
    let tail : List ℕ = drop count labels in
    let f = decodes at_any 128 (labels_turned turns tail) p.labels heard m.reading.decoder (omega arith) near p.decoder in
    let back : List ℕ = f.was_sent.0 in
    let whole : p.labels ++ (pending ++ back) ≡ labels_turned turns tail = sym (append_assoc p.labels pending back) ∙ f.was_sent.1 in
    let taken : ℕ = length p.labels in
    let are : p.labels ≡ labels_turned turns (take taken tail) =
    sym (take-front p.labels (pending ++ back)) ∙ ap (take taken) whole ∙ take-turned turns taken tail in
    let picked : IsPickedUp (tap_of mode) (take taken tail) given =
    unturned (tap_of mode) turns (take taken tail) given (subst (λ (xs : List ℕ). IsPickedUp (tap_of mode) xs given) are p.picked_up) in
    let long : length (labels_turned turns tail) ≡ length heard = near.sequence.same_length in
    let parts : length (p.labels ++ (pending ++ back)) ≡ length (labels_turned turns tail) = ap (λ (xs : List ℕ). length xs) whole in
    let room : count + taken ≤ length labels =
    omega (arith, within, parts, length-append {A = ℕ} p.labels (pending ++ back), length-turned turns tail, length-drop count labels) in
    let g = given-behind middle (tap_of mode) count taken labels later sent given (some-tap mode) (tap-low mode) carried room picked in
    record {
      never_lost = f.never_lost;
      were_sent = g.were_sent;
      few_to_come = omega (arith, g.long, f.few_to_come, long, length-append {A = ℕ} p.labels pending);
    }

pub middle-bits-come-back : ReadersPickUp → MiddleIsSent → DecodesNearOfAny → MiddleBitsComeBack
middle-bits-come-back pick middle decodes mode e d sent given samples heard count encoded h decoded =
    let l = first-labels mode e sent samples (h.before ++ h.middle) h.later encoded h.parts in
    let tail : List ℕ = drop count l.labels in
    let place : drop count (h.before ++ h.middle) ≡ h.middle = ap (λ n. drop n (h.before ++ h.middle)) (sym h.place)
    ∙ drop-front h.before h.middle in
    let exact : h.middle ≡ map point_of tail = sym place ∙ ap (drop count) l.points ∙ drop-map point_of count l.labels in
    let long : length tail ≡ length h.noisy = sym (ap (λ (xs : List Sample). length xs) exact ∙ length-points tail) ∙ h.same_length in
    let price : distances h.middle h.noisy ≡ cost far_from tail h.noisy = ap (λ points. distances points h.noisy) exact
    ∙ distances-cost tail h.noisy in
    let all : length l.labels ≡ length h.before + length h.middle =
    sym (ap (λ (xs : List Sample). length xs) l.points ∙ length-points l.labels) ∙ length-append h.before h.middle in
    let split = Leads-split next_state 0 (take count l.labels) tail l.end
    (subst (λ (labels : List ℕ). Leads next_state 0 labels l.end) (sym (take-append-drop count l.labels)) l.leads) in
    let low : split.0 < 8 = leads-within 0 split.0 (take count l.labels) (omega arith) split.1 in
    let near : IsNear sure_of_any at_any tail h.noisy = record {
      end = l.end;
      sequence = record {
        code_sequence = record { from = split.0; starts_there = lt-ltb split.0 8 low; leads = split.2 };
        same_length = long;
      };
      near = omega (arith, price, h.near);
    } in
    let turned : IsNear sure_of_any at_any (labels_turned h.turns tail) heard =
    subst (λ (xs : List Sample). IsNear sure_of_any at_any (labels_turned h.turns tail) xs) (sym h.turned)
    (turned-near sure_of_any h.turns tail h.noisy near) in
    follows pick middle decodes mode d.reader sent given samples heard count h.turns l.labels l.later l.carried
    (omega (arith, all, h.place)) turned decoded.reads
