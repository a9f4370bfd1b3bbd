-- Polls and their answers, by the turn.
use Rattle.std.specs.Prelude.{◌≡◌, ℕ, ◌+◌, ◌-◌, ◌<◌, ◌≤◌, Bool, true, false}
use Rattle.turn_losses.proofs.Names.{◌⊎◌, inl, inr, zero, suc, arith, refl, sym, ◌∙◌, subst}
use Rattle.std.proofs.lemmas.Bool.{cases_lt}
use Rattle.turn_losses.proofs.Clocks.{last}

-- What an end does about its polls in so many turns. A poll is due between turns (before a turn), becomes due in a turn, is sent in one,
-- and one of the other end's is heard in one.
pub record Polls (period turns : ℕ) (due made sent heard : ℕ → Bool) : Type 0 where
  pub none_at_first : due 0 ≡ false
  pub due_from : (t : ℕ) → t < turns → due (t + 1) ≡ true → made t ≡ false → due t ≡ true
  pub held_up : (t : ℕ) → t < turns → due (t + 1) ≡ true → heard t ≡ true
  pub sent_from : (t : ℕ) → t < turns → sent t ≡ true → made t ≡ false → due t ≡ true
  pub sent_done : (t : ℕ) → t < turns → sent t ≡ true → due (t + 1) ≡ false
  pub apart : (s t : ℕ) → s < t → t < turns → made s ≡ true → made t ≡ true → s + period ≤ t

-- what is heard was sent, as long before as the line's delay
abbrev pub WasSent : ℕ → ℕ → (ℕ → Bool) → (ℕ → Bool) → Type 0
WasSent delay turns heard sent = (t : ℕ) → t < turns → heard t ≡ true → (delay ≤ t) × (sent (t - delay) ≡ true)

-- a poll that is due between turns became due in the last one
abbrev pub Fresh : ℕ → (ℕ → Bool) → (ℕ → Bool) → Type 0
Fresh turns due made = (t : ℕ) → t < turns → due (t + 1) ≡ true → made t ≡ true

-- One more turn, for one end: a poll that is due after it became due in it. Else it was held up twice, by two polls of the other end in
-- turns that follow one another.
fresh-turn : (period delay turns : ℕ) (due made sent heard due' made' sent' heard' : ℕ → Bool) → 3 ≤ period → 1 ≤ delay
    → Polls period turns due made sent heard → Polls period turns due' made' sent' heard' → WasSent delay turns heard sent'
    → (t : ℕ) → t < turns → Fresh t due made → Fresh t due' made' → due (t + 1) ≡ true → made t ≡ true
fresh-turn period delay turns due made sent heard due' made' sent' heard' long some e o line t within fresh fresh' is_due = go (made t) refl
  where
    -- the other end sent polls in these two turns
    twice : (x : ℕ) → x + 1 < turns → x < t → sent' x ≡ true → sent' (x + 1) ≡ true → ⊥
    twice x inside less first second = second-made (made' (x + 1)) refl
      where
        first-made : made' (x + 1) ≡ true → (b : Bool) → made' x ≡ b → ⊥
        first-made h true k = let far : x + period ≤ x + 1 = o.apart x (x + 1) (omega arith) inside k h in omega (arith, far, long)
        first-made h false k = before x refl (o.sent_from x (omega (arith, inside)) first k)
          where
            before : (y : ℕ) → x ≡ y → due' y ≡ true → ⊥
            before zero q d = let wrong : true ≡ false = sym d ∙ o.none_at_first in cc
            before (suc z) q d =
                let made-before : made' z ≡ true = fresh' z (omega (arith, q, less)) (subst (λ n. due' n ≡ true) (omega arith) d) in
                let far : z + period ≤ x + 1 = o.apart z (x + 1) (omega (arith, q)) inside made-before h in grind (arith)

        second-made : (b : Bool) → made' (x + 1) ≡ b → ⊥
        second-made true k = first-made k (made' x) refl
        second-made false k = grind (arith)

    go : (b : Bool) → made t ≡ b → made t ≡ true
    go true k = k
    go false k = before t refl (e.due_from t within is_due k)
      where
        before : (p : ℕ) → t ≡ p → due p ≡ true → made t ≡ true
        before zero q d = let wrong : true ≡ false = sym d ∙ e.none_at_first in cc
        before (suc p) q d =
            let now = line t within (e.held_up t within is_due) in
            let last = line p (omega (arith, q, within))
            (e.held_up p (omega (arith, q, within)) (subst (λ n. due n ≡ true) (omega arith) d)) in
            let next : t - delay ≡ p - delay + 1 = omega (arith, q, last.0) in
            absurd (twice (p - delay) (omega (arith, q, within, last.0, some)) (omega (arith, q, last.0, some)) last.1
            (subst (λ n. sent' n ≡ true) next now.1))

-- for both ends together
both-fresh : (period delay delay' turns : ℕ) (due made sent heard due' made' sent' heard' : ℕ → Bool) → 3 ≤ period → 1 ≤ delay → 1 ≤ delay'
    → Polls period turns due made sent heard → Polls period turns due' made' sent' heard' → WasSent delay' turns heard sent'
    → WasSent delay turns heard' sent
    → (n : ℕ) → n ≤ turns → Fresh n due made × Fresh n due' made'
both-fresh period delay delay' turns due made sent heard due' made' sent' heard' long some some' e o line line' zero within = grind (arith)
both-fresh period delay delay' turns due made sent heard due' made' sent' heard' long some some' e o line line' (suc n) within =
    let k = both-fresh period delay delay' turns due made sent heard due' made' sent' heard' long some some' e o line line' n
    (omega (arith, within)) in (
      more due made k.0 (fresh-turn period delay' turns due made sent heard due' made' sent' heard' long some' e o line n
          (omega (arith, within)) k.0 k.1),
      more due' made' k.1 (fresh-turn period delay turns due' made' sent' heard' due made sent heard long some o e line' n
          (omega (arith, within)) k.1 k.0),
    )
  where
    more : (d m : ℕ → Bool) → Fresh n d m → (d (n + 1) ≡ true → m n ≡ true) → Fresh (suc n) d m
    more d m f last t less is_due = grind (arith)

pub polls-fresh : (period delay delay' turns : ℕ) (due made sent heard due' made' sent' heard' : ℕ → Bool) → 3 ≤ period → 1 ≤ delay
    → 1 ≤ delay'
    → Polls period turns due made sent heard → Polls period turns due' made' sent' heard' → WasSent delay' turns heard sent'
    → WasSent delay turns heard' sent
    → Fresh turns due made × Fresh turns due' made'
polls-fresh period delay delay' turns due made sent heard due' made' sent' heard' long some some' e o line line' =
    both-fresh period delay delay' turns due made sent heard due' made' sent' heard' long some some' e o line line' turns (omega arith)

-- a poll is sent in the turn in which it became due, or in the next one
pub sent-soon : (period turns : ℕ) (due made sent heard : ℕ → Bool) → Polls period turns due made sent heard → Fresh turns due made
    → (t : ℕ) → t < turns → sent t ≡ true → (made t ≡ true) ⊎ ((s : ℕ) × (t ≡ s + 1) × (made s ≡ true) × (due t ≡ true))
sent-soon period turns due made sent heard e fresh t within is_sent = go (made t) refl
  where
    go : (b : Bool) → made t ≡ b → (made t ≡ true) ⊎ ((s : ℕ) × (t ≡ s + 1) × (made s ≡ true) × (due t ≡ true))
    go true k = inl k
    go false k = before t refl (e.sent_from t within is_sent k)
      where
        before : (p : ℕ) → t ≡ p → due t ≡ true → (made t ≡ true) ⊎ ((s : ℕ) × (t ≡ s + 1) × (made s ≡ true) × (due t ≡ true))
        before zero q d = let wrong : true ≡ false = sym (subst (λ n. due n ≡ true) q d) ∙ e.none_at_first in cc
        before (suc p) q d = inr
            (p, omega (arith, q), fresh p (omega (arith, q, within)) (subst (λ n. due n ≡ true) (omega (arith, q)) d), d)

-- polls are sent at least a period less one turn apart
pub sent-apart : (period turns : ℕ) (due made sent heard : ℕ → Bool) → Polls period turns due made sent heard → Fresh turns due made
    → (s t : ℕ) → s < t → t < turns → sent s ≡ true → sent t ≡ true → s + period ≤ t + 1
sent-apart period turns due made sent heard e fresh s t less within first second =
    go (sent-soon period turns due made sent heard e fresh s (omega (arith, less, within)) first)
    (sent-soon period turns due made sent heard e fresh t within second)
  where
    apart : (x y : ℕ) → x < y → y ≤ t → s ≤ x + 1 → made x ≡ true → made y ≡ true → s + period ≤ t + 1
    apart x y l h g k m = let far : x + period ≤ y = e.apart x y l (omega (arith, h, within)) k m in omega (arith, far, h, g)

    go : (made s ≡ true) ⊎ ((p : ℕ) × (s ≡ p + 1) × (made p ≡ true) × (due s ≡ true))
        → (made t ≡ true) ⊎ ((p : ℕ) × (t ≡ p + 1) × (made p ≡ true) × (due t ≡ true)) → s + period ≤ t + 1
    go (inl k) (inl m) = apart s t less (omega arith) (omega arith) k m
    go (inr (p, q, k, d)) (inl m) = apart p t (omega (arith, q, less)) (omega arith) (omega (arith, q)) k m
    go (inr (p, q, k, d)) (inr (r, w, m, i)) = apart p r (omega (arith, q, w, less)) (omega (arith, w)) (omega (arith, q)) k m
    go (inl k) (inr (r, w, m, i)) =
        elim (cases_lt s r) [ inl l ↦ apart s r l (omega (arith, w)) (omega arith) k m | inr g ↦ same (omega (arith, g, w, less)) ]
      where
        same : t ≡ s + 1 → s + period ≤ t + 1
        same q = let wrong : true ≡ false = sym (subst (λ n. due n ≡ true) q i) ∙ e.sent_done s (omega (arith, less, within)) first in cc
