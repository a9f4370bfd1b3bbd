-- Sums of a batch to which lines add their parts, one by one.
use Rattle.noise_script.proofs.Names.{◌≡◌, ◌∙◌, ℕ, ◌+◌, ◌-◌, ◌<◌, ◌≤◌, ◌&&◌, Bool, true, false, if◌then◌else◌, List, length, take}
use Rattle.noise_script.proofs.Names.{map, get_or, refl, sym, ap, subst, arith, length-set, nat_tests, ints, at_place, Grow}
use Rattle.noise_script.proofs.Names.{AreWithin, plus, sum_of, nothing, IsWithin, IsQuiet, covers, hit_offset, noise_offset, drawn_offset}
use Rattle.noise_script.proofs.Names.{word_at, stream_of, Hit, Noise, Offset, same_role, Role}
use Rattle.std.proofs.Common.{min}
use Rattle.std.proofs.Common.{set}
use Rattle.std.proofs.lemmas.Grind.{common_steps}
use Rattle.noise_script.proofs.Sums.{same-offset, sum_of-next, plus-assoc, within-far}

nothing-more : (a : Offset) → plus a nothing ≡ a
nothing-more a = same-offset (plus a nothing) a (omega (arith, ints)) (omega (arith, ints))

-- the sums below a place have grown
pub record GrowUpTo (by : ℕ → Offset) (end : ℕ) (old new : List Offset) : Type 0 where
  pub long : length new ≡ length old
  pub below : (place : ℕ) → place < length old → place < end → at_place new place ≡ plus (at_place old place) (by place)
  pub above : (place : ℕ) → end ≤ place → at_place new place ≡ at_place old place

at-set : (sums : List Offset) (n : ℕ) (value : Offset) → n < length sums → at_place (set sums n value) n ≡ value
at-set sums n value low = grind (arith, common_steps)

not-at-set : (sums : List Offset) (n place : ℕ) (value : Offset) → (place ≡ n → ⊥) → at_place (set sums n value) place ≡ at_place sums place
not-at-set sums n place value apart = grind (arith, common_steps)

pub nothing-at : (sums : List Offset) (end : ℕ) → end < length sums → ((place : ℕ) → place < end → at_place sums place ≡ nothing)
    → (place : ℕ) → place < end + 1 → at_place (set sums end nothing) place ≡ nothing
nothing-at sums end low below place under = grind (arith, not-at-set, nothing, set, at-set)

grown-more : (by : ℕ → Offset) (end : ℕ) (old new : List Offset) (value : Offset) → GrowUpTo by end old new → end < length old
    → value ≡ plus (at_place new end) (by end) → GrowUpTo by (end + 1) old (set new end value)
grown-more by end old new value g low sum = grind (arith, length-set, not-at-set, set, plus, at-set)

-- the places that a line covers
uncovered-before : (from count start len place : ℕ) → place < min (from - start) len → covers from count (start + place) ≡ false
uncovered-before from count start len place low = grind (arith, nat_tests)

uncovered-behind : (from count start len place : ℕ) → place < len → min (from + count - start) len ≤ place
    → covers from count (start + place) ≡ false
uncovered-behind from count start len place within high = grind (arith, nat_tests)

covered : (from count start len place : ℕ) → min (from - start) len ≤ place → place < min (from + count - start) len
    → covers from count (start + place) ≡ true
covered from count start len place low high = grind (arith, nat_tests)

neither : (own b : Bool) (x : Offset) → b ≡ false → (if own && b then x else nothing) ≡ nothing
neither q0 b x e = grind (arith)

other : (own b : Bool) (x : Offset) → own ≡ false → (if own && b then x else nothing) ≡ nothing
other q0 b x e = grind (arith)

both : (own b : Bool) (x : Offset) → own ≡ true → b ≡ true → (if own && b then x else nothing) ≡ x
both q0 b x o e = grind (arith)

-- what a line adds to the places of a batch
module _ (own : Bool) (from count start : ℕ) (x : ℕ → Offset) (old : List Offset) where
  abbrev pub part : ℕ → Offset
  part place = if own && covers from count (start + place) then x place else nothing

  -- nothing where it says of another role
  pub apart : own ≡ false → Grow part old old
  apart o = grind (arith, plus, other, nothing-more)

  -- nor before its first place
  pub begins : (begin : ℕ) → begin ≡ min (from - start) (length old) → GrowUpTo part begin old old
  begins begin is = grind (arith, plus, neither, uncovered-before, nothing-more)

  pub goes-on : (begin end place : ℕ) (new : List Offset) (value offset : Offset) → begin ≡ min (from - start) (length old)
      → end ≡ min (from + count - start) (length old) → own ≡ true → begin ≤ place → place < end → GrowUpTo part place old new
      → offset ≡ x place → value ≡ plus (at_place new place) offset → GrowUpTo part (place + 1) old (set new place value)
  goes-on begin end place new value offset b e o low high g is sum =
      let here = both _ _ _ o (covered _ _ _ _ _ (subst (λ n. n ≤ place) b low) (subst (λ n. place < n) e high)) in
      grown-more _ _ _ _ _ g (omega (arith, e, high)) (sum ∙ ap (plus (at_place new place)) (is ∙ sym here))

  -- nor behind its last
  pub ends : (end place : ℕ) (new : List Offset) → end ≡ min (from + count - start) (length old) → end ≤ place → GrowUpTo part place old new
      → Grow part old new
  ends end place new is past g = grind (arith, plus, neither, uncovered-behind, nothing-more)

-- one line more
pub no-line : {X : Type 0} (by : ℕ → X → Offset) (lines : List X) (sums : List Offset)
    → Grow (λ place. sum_of (map (by place) (take 0 lines))) sums sums
no-line by lines sums = record { long = refl; each = λ place within. sym (nothing-more (at_place sums place)) }

pub line-more : {X : Type 0} (by : ℕ → X → Offset) (lines : List X) (i : ℕ) (d : X) (first old new : List Offset) → i < length lines
    → Grow (λ place. sum_of (map (by place) (take i lines))) first old → Grow (λ place. by place (get_or lines i d)) old new
    → Grow (λ place. sum_of (map (by place) (take (i + 1) lines))) first new
line-more by lines i d first old new low g h = record {
  long = h.long ∙ g.long;
  each = λ place within. h.each place (subst (λ n. place < n) (sym g.long) within) ∙ ap (λ a. plus a (by place (get_or lines i d)))
      (g.each place within) ∙ sym (plus-assoc (at_place first place) (sum_of (map (by place) (take i lines)))
      (by place (get_or lines i d))) ∙ ap (plus (at_place first place)) (sym (sum_of-next (by place) lines _ d low));
}

within-both : (a b : ℕ) (x y : Offset) → IsWithin a x → IsWithin b y → IsWithin (a + b) (plus x y)
within-both a b x y p q = record {
  re_low = omega (arith, ints, p.re_low, q.re_low);
  re_high = omega (arith, ints, p.re_high, q.re_high);
  im_low = omega (arith, ints, p.im_low, q.im_low);
  im_high = omega (arith, ints, p.im_high, q.im_high);
}

pub farther : (m n : ℕ) (sums : List Offset) → m ≤ n → AreWithin m sums → AreWithin n sums
farther m n sums most w = record { each = λ place within. within-far m n (at_place sums place) most (w.each place within) }

pub far-more : (a b c : ℕ) (by : ℕ → Offset) (old new : List Offset) → AreWithin a old → Grow by old new
    → ((place : ℕ) → IsWithin b (by place)) → a + b ≤ c → AreWithin c new
far-more a b c by old new w g small most = record {
  each = λ place within.
      let low : place < length old = subst (λ n. place < n) g.long within in
      subst (IsWithin c) (sym (g.each place low)) (within-far _ _ _ most (within-both _ _ _ _ (w.each place low) (small place)));
}

within-if : (b : Bool) (m : ℕ) (x : Offset) → IsWithin m x → IsWithin m (if b then x else nothing)
within-if b m x h = grind (arith)

pub hit-small : (hit : Hit) (offset : Offset) (sender : Role) → IsWithin 32768 offset → offset.re ≡ hit.re → offset.im ≡ hit.im
    → (symbol : ℕ) → IsWithin 32768 (hit_offset sender symbol hit)
hit-small hit offset sender small re im symbol = within-if _ 32768 _ (subst (IsWithin 32768) (same-offset _ _ re im) small)

pub noise-small : (noise : Noise) (sender : Role) → IsQuiet noise → (symbol : ℕ) → IsWithin 32767 (noise_offset sender symbol noise)
noise-small noise sender quiet symbol =
    within-if _ 32767 _ (drawn-small noise.amplitude (word_at noise.seed (stream_of noise.role) (symbol - noise.from)) quiet)
  where
    drawn-small : (amplitude word : ℕ) → amplitude ≤ 32767 → IsWithin 32767 (drawn_offset amplitude word)
    drawn-small amplitude word few = grind (arith)

-- what was drawn is what the line says of the symbol
pub same-drawn : (noise : Noise) (sender role : Role) (seed place symbol word : ℕ) (offset : Offset) → same_role noise.role sender ≡ true
    → seed ≡ noise.seed → role ≡ sender → place ≡ symbol - noise.from → word ≡ word_at seed (stream_of role) place
    → offset ≡ drawn_offset noise.amplitude word
    → offset ≡ drawn_offset noise.amplitude (word_at noise.seed (stream_of noise.role) (symbol - noise.from))
same-drawn noise sender role seed place symbol word offset o s r p w is = grind (arith)

pub within-at : (most : ℕ) (by : ℕ → Offset) (place : ℕ) (old new : List Offset) → AreWithin most old → GrowUpTo by place old new
    → place < length old → IsWithin most (at_place new place)
within-at most by place old new w g low = subst (IsWithin most) (sym (g.above place (omega arith))) (w.each place low)
