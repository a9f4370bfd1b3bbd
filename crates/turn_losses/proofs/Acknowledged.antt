-- What an end sends at the answer to its poll is acknowledged, where no line is lost.
use Rattle.turn_losses.proofs.Names.{◌⊎◌, inl, inr, ◌≡◌, ℕ, ◌+◌, ◌-◌, ◌%◌, ◌<◌, ◌≤◌, Bool, true, false, length, arith, refl, sym, ◌∙◌, ap}
use Rattle.turn_losses.proofs.Names.{Option, Some, None, is_some, Frame, meant, Sent, Arrived, is_connected, arrives, of_arrived, clash}
use Rattle.turn_losses.proofs.Names.{is_linked, EndRun, ArrivesLate, TwoEnds, hears_final, is_final}
use Rattle.turn_losses.proofs.PeriodLaws.{Answers, reply-matches, awaits-on, NoneLost, StayConnected, connected-since}
use Rattle.turn_losses.proofs.NumberHear.{frame_nr, nr_heard, ns_heard, nr_sent, ns_sent, NumbersHeard, Room}
use Rattle.turn_losses.proofs.NumberTurn.{NumberTurn}
use Rattle.turn_losses.proofs.Kept.{kept-in}
use Rattle.lapm_frames.specs.declared.arrived.Arrived.TheVariants as arrivals

-- What is known of the numbers of two ends: of e's segments, which o takes.
pub record Counts (turns : ℕ) (e o : EndRun) : Type 0 where
  pub own : (t : ℕ) → t < turns → is_connected (e.account t).phase ≡ true → is_connected (e.account (t + 1)).phase ≡ true
      → NumberTurn (e.heard t) (e.slot t) (e.account t) (e.mid t) (e.account (t + 1))
  pub other : (t : ℕ) → t < turns → is_connected (o.account t).phase ≡ true → is_connected (o.account (t + 1)).phase ≡ true
      → NumberTurn (o.heard t) (o.slot t) (o.account t) (o.mid t) (o.account (t + 1))
  pub acked : (t : ℕ) → t < turns → (e.mid t).outgoing.front ≤ length (o.mid t).incoming.taken
  pub offered : (t : ℕ) → t < turns → length (o.account t).incoming.taken ≤ length (e.account t).outgoing.pieces
  pub room : (t : ℕ) → t < turns → is_connected (e.account t).phase ≡ true → Room (e.account t)
  pub not_first : is_connected (e.account 0).phase ≡ false
  pub begins : (t : ℕ) → t < turns → is_linked (e.account t).phase ≡ false → is_connected (e.account (t + 1)).phase ≡ true
      → (e.account (t + 1)).outgoing.count ≡ 0
  pub count_is : (t : ℕ) → e.count t ≡ (e.mid t).outgoing.count
  pub answered : (t : ℕ) → t < turns → is_connected (e.account t).phase ≡ true → is_connected (e.account (t + 1)).phase ≡ true
      → hears_final e t ≡ true
      → (e.count t ≡ 0) ⊎ (ns_sent (e.slot t) ≡ Some ((e.mid t).outgoing.front % 128))

-- what is told of a slot, and of what arrives of it
record Told (g : Arrived → Option ℕ) (k : Sent → Option ℕ) : Type 0 where
  pub nothing : g arrivals.Nothing ≡ None
  pub same : (s : Sent) → g (arrives s) ≡ k s

nr-told : Told nr_heard nr_sent
nr-told = grind (arith)

ns-told : Told ns_heard ns_sent
ns-told = grind (arith)

told-from : (g : Arrived → Option ℕ) (k : Sent → Option ℕ) → Told g k → (delay turn : ℕ) (loses : Bool) (f : ℕ → Sent) (arrived : Arrived)
    → ArrivesLate delay turn loses f arrived → (n : ℕ) → g arrived ≡ Some n
    → (delay ≤ turn) × (k (f (turn - delay)) ≡ Some n)
told-from g k w delay turn loses f arrived h n e = grind (arith)

told-to : (g : Arrived → Option ℕ) (k : Sent → Option ℕ) → Told g k → (delay turn : ℕ) (loses : Bool) (f : ℕ → Sent) (arrived : Arrived)
    → ArrivesLate delay (turn + delay) loses f arrived → loses ≡ false → g arrived ≡ k (f turn)
told-to g k w delay turn loses f arrived h none = grind (arith)

is-some : (m : Option ℕ) → is_some m ≡ true → (n : ℕ) × (m ≡ Some n)
is-some b e = grind (arith)

final-nr : (frame : Frame) → is_final frame ≡ true → is_some (frame_nr frame) ≡ true
final-nr p e = grind (arith)

final-told : (x : Arrived) → of_arrived is_final x ≡ true → (n : ℕ) × (nr_heard x ≡ Some n)
final-told x e = grind (arith, is-some, final-nr)

-- a number that is meant is the least from the low end that agrees
meant-is : (low high nr n : ℕ) → meant low high nr ≡ Some n → (low ≤ n) × (n < low + 128) × (n % 128 ≡ nr)
meant-is low high nr n e = grind (arith)

one-number : (low n r nr : ℕ) → low ≤ n → n ≤ r → r ≤ low + 127 → n % 128 ≡ nr → nr ≡ r % 128 → n ≡ r
one-number low n r nr h1 h2 h3 h4 h5 = omega (arith, h1, h2, h3, h4, h5)

beyond : (f r nr : ℕ) → f + 1 ≤ r → r ≤ f + 127 → f % 128 ≡ nr → nr ≡ r % 128 → ⊥
beyond f r nr h1 h2 h3 h4 = omega (arith, h1, h2, h3, h4)

-- the front stands, or the retry count is 0 in a turn
front-or-cleared : {turns : ℕ} {e o : EndRun} → Counts turns e o → (s t : ℕ) → s ≤ t → t ≤ turns → StayConnected e s t
    → ((e.account t).outgoing.front ≡ (e.account s).outgoing.front) ⊎ ((v : ℕ) × (s ≤ v) × (v < t) × ((e.mid v).outgoing.count ≡ 0))
front-or-cleared {turns} {e} {o} c s t less l h = kept-in
    (λ u. ((e.account u).outgoing.front ≡ (e.account s).outgoing.front) ⊎ ((v : ℕ) × (s ≤ v) × (v < u) × ((e.mid v).outgoing.count ≡ 0)))
    s t less next (inl refl)
  where
    next : (u : ℕ) → s ≤ u → u < t
        → ((e.account u).outgoing.front ≡ (e.account s).outgoing.front) ⊎ ((v : ℕ) × (s ≤ v) × (v < u) × ((e.mid v).outgoing.count ≡ 0))
        → ((e.account (u + 1)).outgoing.front ≡ (e.account s).outgoing.front)
        ⊎ ((v : ℕ) × (s ≤ v) × (v < u + 1) × ((e.mid v).outgoing.count ≡ 0))
    next u lo hi (inr (v, x, y, z)) = inr (v, x, omega (arith, y), z)
    next u lo hi (inl q) =
        let w = c.own u (omega (arith, hi, l)) (h u lo (omega (arith, hi))) (h (u + 1) (omega (arith, lo)) (omega (arith, hi))) in
        elim w.heard.advance [ inl p ↦ inl (w.front ∙ (p ∙ q)) | inr p ↦ inr (u, lo, omega arith, p) ]

-- what is taken stays taken
taken-rises : {turns : ℕ} {e o : EndRun} → Counts turns e o → (s t : ℕ) → s ≤ t → t ≤ turns → StayConnected o s t
    → length (o.account s).incoming.taken ≤ length (o.account t).incoming.taken
taken-rises {turns} {e} {o} c s t less l h =
    kept-in (λ u. length (o.account s).incoming.taken ≤ length (o.account u).incoming.taken) s t less (λ u lo hi before.
    let w = c.other u (omega (arith, hi, l)) (h u lo (omega (arith, hi))) (h (u + 1) (omega (arith, lo)) (omega (arith, hi))) in
    omega (arith, before, w.heard.incoming.low, ap length w.taken)) (omega arith)

-- the retry count is 0 within a round trip and a turn
abbrev pub ClearsSoon : EndRun → EndRun → ℕ → Type 0
ClearsSoon e o u = (v : ℕ) × (u < v) × (v ≤ u + (e.delay + o.delay) + 1) × ((e.mid v).outgoing.count ≡ 0)

-- The first segment that isn't acknowledged, sent in the turn in which the answer to a poll is heard: the retry count is 0 within a round
-- trip and a turn.
pub acknowledged : {period turns : ℕ} {e o : EndRun} → TwoEnds period turns e o → Counts turns e o → (u : ℕ)
    → u + (e.delay + o.delay) + 1 < turns → hears_final e u ≡ true
    → ns_sent (e.slot u) ≡ Some ((e.mid u).outgoing.front % 128)
    → StayConnected e u (u + (e.delay + o.delay) + 2) → StayConnected o (u - o.delay) (u + (e.delay + o.delay) + 2)
    → NoneLost e o (u + 1) (e.delay + o.delay + 1)
    → ClearsSoon e o u
acknowledged {period} {turns} {e} {o} k c u within final sends ce co lost = go-told (own-numbers.heard)
  where
    d' : 1 ≤ o.delay
    d' = k.other_delay

    m : Answers u e o
    m = reply-matches k u (omega (arith, within)) final

    w : ℕ
    w = u - o.delay

    x : ℕ
    x = u + e.delay

    f : ℕ
    f = (e.mid u).outgoing.front

    own-numbers : NumberTurn (e.heard u) (e.slot u) (e.account u) (e.mid u) (e.account (u + 1))
    own-numbers = c.own u (omega (arith, within)) (ce u (omega arith) (omega arith)) (ce (u + 1) (omega arith) (omega arith))

    o-turn : (t : ℕ) → w ≤ t → t ≤ u + (e.delay + o.delay) + 1
        → NumberTurn (o.heard t) (o.slot t) (o.account t) (o.mid t) (o.account (t + 1))
    o-turn t l g = c.other t (omega (arith, g, within)) (co t l (omega (arith, g))) (co (t + 1) (omega (arith, l)) (omega (arith, g)))

    r : ℕ
    r = length (o.account (w + 1)).incoming.taken

    -- o takes nothing from when it answered until that segment comes
    stands-at : (t : ℕ) → w + 1 ≤ t → t ≤ x → length (o.account t).incoming.taken ≡ r
    stands-at t l g = kept-in (λ y. length (o.account y).incoming.taken ≡ r) (w + 1) t l next refl
      where
        next : (y : ℕ) → w + 1 ≤ y → y < t → length (o.account y).incoming.taken ≡ r → length (o.account (y + 1)).incoming.taken ≡ r
        next y lo hi before = ap length q.taken ∙ (ap (λ (i : _). length i.taken) (none (ns_heard (o.heard y)) refl) ∙ before)
          where
            q : NumberTurn (o.heard y) (o.slot y) (o.account y) (o.mid y) (o.account (y + 1))
            q = o-turn y (omega (arith, lo)) (omega (arith, hi, g, k.own_delay))

            none : (h : Option ℕ) → ns_heard (o.heard y) ≡ h → (o.mid y).incoming ≡ (o.account y).incoming
            none None g' = q.heard.incoming.same g'
            none (Some ns) g' =
                let from = told-from ns_heard ns_sent ns-told e.delay y (o.loses y) e.slot (o.heard y)
                (k.is_heard y (omega (arith, hi, g, within, d'))) ns g' in
                let z : ℕ = y - e.delay in
                let fr = from.0 in
                let low : m.due < z + 1 = omega (arith, fr, lo, m.round_trip, m.due_before) in
                let high : z + 1 ≤ u = omega (arith, fr, hi, g) in
                let linked : is_linked (e.account (m.due + 1)).phase ≡ true =
                (k.own m.due (omega (arith, low, high, within))).made_linked m.made in
                let cu = ce u (omega arith) (omega arith) in
                let after-due : m.due + 1 ≤ z = omega (arith, fr, lo, m.round_trip, m.due_before, k.own_delay) in
                let on = connected-since k (m.due + 1) u (omega (arith, within)) linked cu in
                let sent = (c.own z (omega (arith, high, within)) (on z after-due (omega (arith, high)))
                (on (z + 1) (omega (arith, after-due)) high)).segment ns from.1 in
                clash (e.account (z + 1)).outgoing.awaited (awaits-on k u (omega (arith, within)) cu m (z + 1) low high) sent

    -- so that segment is the next one expected
    go-told : NumbersHeard (e.heard u) (e.account u) (e.mid u)
        → ClearsSoon e o u
    go-told h = from-answer (final-told (e.heard u) final)
      where
        from-answer : (nr : ℕ) × (nr_heard (e.heard u) ≡ Some nr)
            → ClearsSoon e o u
        from-answer (nr, heard) = arrived (next-taken)
          where
            sent-so : (o.delay ≤ u) × (nr_sent (o.slot w) ≡ Some nr)
            sent-so = told-from nr_heard nr_sent nr-told o.delay u (e.loses u) o.slot (e.heard u)
                (k.hears u (omega (arith, within))) nr heard

            number : nr ≡ r % 128
            number = (o-turn w (omega arith) (omega arith)).tells nr sent-so.1
                ∙ ap (λ (l : _). length l % 128) (sym (o-turn w (omega arith) (omega arith)).taken)

            means : ((e.account u).outgoing.front ≤ f) × (f < (e.account u).outgoing.front + 128) × (f % 128 ≡ nr)
            means = meant-is (e.account u).outgoing.front (e.account u).outgoing.high nr f (h.acked nr heard)

            before-u : w + 1 ≤ u
            before-u = let l = sent-so.0 in omega (arith, l, d')

            low : f ≤ r
            low = let a = c.acked u (omega (arith, within)) in let b = ap length (o-turn u (omega arith) (omega arith)).taken in let s =
                stands-at (u + 1) (omega (arith, before-u)) (omega (arith, k.own_delay)) in omega (arith, a, b, s)

            high : r ≤ (e.account u).outgoing.front + 127
            high = let a = c.offered u (omega (arith, within)) in let s = stands-at u before-u (omega arith) in let p =
                c.room u (omega (arith, within)) (ce u (omega arith) (omega arith)) in
                let pw = p.window in let pp = p.pieces in omega (arith, a, s, pw, pp)

            same : f ≡ r
            same = one-number (e.account u).outgoing.front f r nr means.0 low high means.2 number

            ox : NumberTurn (o.heard x) (o.slot x) (o.account x) (o.mid x) (o.account (x + 1))
            ox = o-turn x (omega arith) (omega (arith, d'))

            comes : ns_heard (o.heard x) ≡ Some (f % 128)
            comes = told-to ns_heard ns_sent ns-told e.delay u (o.loses x) e.slot (o.heard x) (k.is_heard x (omega (arith, within, d')))
                (lost x (omega (arith, k.own_delay)) (omega (arith, d'))).1 ∙ sends

            next-taken : (length (o.account x).incoming.taken < length (o.mid x).incoming.taken) × ((o.mid x).incoming.owed ≡ true)
            next-taken = ox.heard.incoming.in_order (f % 128) comes
                (ap (λ n. n % 128) (same ∙ sym (stands-at x (omega (arith, before-u)) (omega arith))))

            -- it is told in that turn or the next one
            arrived : (length (o.account x).incoming.taken < length (o.mid x).incoming.taken) × ((o.mid x).incoming.owed ≡ true)
                → ClearsSoon e o u
            arrived (more, owed) = told-now (ox.told owed (ox.heard.numbered (f % 128) comes))
              where
                numbered : (o.mid x).numbered ≡ true
                numbered = ox.heard.numbered (f % 128) comes

                more-than : f + 1 ≤ length (o.mid x).incoming.taken
                more-than = let s = stands-at x (omega (arith, before-u)) (omega arith) in omega (arith, more, s, same)

                -- what is told from then on clears the count
                clears : (y : ℕ) → x ≤ y → y ≤ x + 1 → f + 1 ≤ length (o.mid y).incoming.taken → is_some (nr_sent (o.slot y)) ≡ true
                    → ClearsSoon e o u
                clears y ly gy much some = hears (is-some (nr_sent (o.slot y)) some)
                  where
                    v : ℕ
                    v = y + o.delay

                    u-v : u < v
                    u-v = omega (arith, ly, d')

                    v-in : v ≤ u + (e.delay + o.delay) + 1
                    v-in = omega (arith, gy)

                    oy : NumberTurn (o.heard y) (o.slot y) (o.account y) (o.mid y) (o.account (y + 1))
                    oy = o-turn y (omega (arith, ly)) (omega (arith, gy, d'))

                    ev : NumberTurn (e.heard v) (e.slot v) (e.account v) (e.mid v) (e.account (v + 1))
                    ev = c.own v (omega (arith, v-in, within)) (ce v (omega (arith, u-v)) (omega (arith, v-in)))
                        (ce (v + 1) (omega (arith, u-v)) (omega (arith, v-in)))

                    hears : (nr' : ℕ) × (nr_sent (o.slot y) ≡ Some nr')
                        → ClearsSoon e o u
                    hears (nr', said) = moved (front-or-cleared c (u + 1) v (omega (arith, u-v)) (omega (arith, v-in, within))
                        (λ t a b. ce t (omega (arith, a)) (omega (arith, b, v-in)))) ev.heard.advance
                      where
                        comes-back : nr_heard (e.heard v) ≡ Some nr'
                        comes-back = told-to nr_heard nr_sent nr-told o.delay y (e.loses v) o.slot (e.heard v)
                            (k.hears v (omega (arith, v-in, within))) (lost v (omega (arith, u-v)) (omega (arith, v-in))).0 ∙ said

                        told : nr' ≡ length (o.mid y).incoming.taken % 128
                        told = oy.tells nr' said

                        moved : ((e.account v).outgoing.front ≡ (e.account (u + 1)).outgoing.front)
                            ⊎ ((t : ℕ) × (u + 1 ≤ t) × (t < v) × ((e.mid t).outgoing.count ≡ 0))
                            → ((e.mid v).outgoing.front ≡ (e.account v).outgoing.front) ⊎ ((e.mid v).outgoing.count ≡ 0) → ClearsSoon e o u
                        moved (inr (t, a, b, z)) y' = (t, omega (arith, a), omega (arith, b, v-in), z)
                        moved (inl q) (inr z) = (v, u-v, v-in, z)
                        moved (inl q) (inl p) =
                            let there : (e.account v).outgoing.front ≡ f = q ∙ own-numbers.front in
                            let means' = meant-is (e.account v).outgoing.front (e.account v).outgoing.high nr' (e.mid v).outgoing.front
                            (ev.heard.acked nr' comes-back) in
                            let agrees : f % 128 ≡ nr' = ap (λ n. n % 128) (sym (p ∙ there)) ∙ means'.2 in
                            let rises = taken-rises c (y + 1) v (omega (arith, d')) (omega (arith, v-in, within))
                            (λ t a b. co t (omega (arith, a, ly)) (omega (arith, b, v-in))) in
                            let after = ap length oy.taken in
                            let few = c.offered v (omega (arith, v-in, within)) in
                            let p' = c.room v (omega (arith, v-in, within)) (ce v (omega (arith, u-v)) (omega (arith, v-in))) in
                            let pw = p'.window in let pp = p'.pieces in
                            absurd (beyond f (length (o.mid y).incoming.taken) nr' much
                            (omega (arith, rises, after, few, pw, pp, there)) agrees told)

                told-now : (is_some (nr_sent (o.slot x)) ≡ true)
                    ⊎ (((o.account x).special ≡ false) × ((o.account (x + 1)).special ≡ true) × ((o.account (x + 1)).incoming.owed ≡ true))
                    → ClearsSoon e o u
                told-now (inl some) = clears x (omega arith) (omega arith) more-than some
                told-now (inr (a, special, still)) =
                    told-next (ox'.told (ox'.heard.incoming.owed still) (ox'.numbered (ox.numbered_on ∙ numbered)))
                  where
                    ox' : NumberTurn (o.heard (x + 1)) (o.slot (x + 1)) (o.account (x + 1)) (o.mid (x + 1)) (o.account (x + 1 + 1))
                    ox' = o-turn (x + 1) (omega arith) (omega (arith, d'))

                    told-next : (is_some (nr_sent (o.slot (x + 1))) ≡ true)
                        ⊎ (((o.account (x + 1)).special ≡ false) × ((o.account (x + 1 + 1)).special ≡ true)
                        × ((o.account (x + 1 + 1)).incoming.owed ≡ true))
                        → ClearsSoon e o u
                    told-next (inr (b, _, _)) = let wrong : true ≡ false = sym special ∙ b in cc
                    told-next (inl some) =
                        let on = ox'.heard.incoming.low in let after = ap length ox.taken in
                        clears (x + 1) (omega arith) (omega arith) (omega (arith, on, after, more-than)) some
