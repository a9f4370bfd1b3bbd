use Rattle.exact_decoder.proofs.Names.{◌≡◌, ℕ, ◌+◌, ◌<◌, List, length, [], ◌∷◌, slice_index, refl, ◌∙◌, sym, ap, subst, arith}
use Rattle.std.specs.Simd.Lanes.{Each1}
use Rattle.exact_decoder.proofs.Vectors.{lanes-are, each_of_eight}
use Rattle.exact_decoder.proofs.v32.taken_at.Goals.{After-places_of}
use Rattle.exact_decoder.proofs.v32.taken_at.Goals as goal

abbrev eight_of : (ℕ → ℕ) → List ℕ → List ℕ
eight_of f rest = f 0 ∷ f 1 ∷ f 2 ∷ f 3 ∷ f 4 ∷ f 5 ∷ f 6 ∷ f 7 ∷ rest

-- the places of a list's states
abbrev places : List ℕ → List ℕ
places live = eight_of (slice_index live) (eight_of (λ s. slice_index live s + 8) [])

eight-more : (f : ℕ → ℕ) (rest : List ℕ) → ((s : ℕ) → s < 8 → f s < 16) → Each1 (λ place. place < 16) rest
    → Each1 (λ place. place < 16) (eight_of f rest)
eight-more f rest h r = grind (arith)

each-within : (live : List ℕ) → ((s : ℕ) → s < 8 → slice_index live s < 8) → Each1 (λ place. place < 16) (places live)
each-within live within = grind (arith, eight-more)

place-before : (live : List ℕ) (s : ℕ) → s < 8 → slice_index (places live) s ≡ slice_index live s
place-before live = each_of_eight (λ s. slice_index (places live) s ≡ slice_index live s) refl refl refl refl refl refl refl refl

place-label : (live : List ℕ) (s : ℕ) → s < 8 → slice_index (places live) (s + 8) ≡ slice_index live s + 8
place-label live = each_of_eight (λ s. slice_index (places live) (s + 8) ≡ slice_index live s + 8) refl refl refl refl refl refl refl refl

are-places : (c : After-places_of) → c.places_of.result ≡ places c.args.live.now
are-places c = grind (arith, lanes-are)

pub looked_up-requires-clause-long : goal.looked_up-requires-clause-long
looked_up-requires-clause-long c = ap length (are-places (goal.at.looked_up-requires-clause-long c).After-places_of)

pub looked_up-requires-clause-within : goal.looked_up-requires-clause-within
looked_up-requires-clause-within c =
    subst (Each1 (λ place. place < 16)) (sym (are-places (goal.at.looked_up-requires-clause-within c).After-places_of))
    (each-within c.args.live.now c.requires.within)

pub returns-clause-before : goal.returns-clause-before
returns-clause-before c s l =
    let live = c.args.live.now in
    let is = are-places (goal.at.returns-clause-before c).After-places_of in
    c.looked_up.ensures.each s (omega arith)
    ∙ ap (slice_index c.table_of.result) (ap (λ p. slice_index p s) is ∙ place-before live s l)
    ∙ c.table_of.ensures.before (slice_index live s) (c.requires.within s l)

pub returns-clause-labels : goal.returns-clause-labels
returns-clause-labels c s l =
    let live = c.args.live.now in
    let is = are-places (goal.at.returns-clause-labels c).After-places_of in
    c.looked_up.ensures.each (s + 8) (omega arith)
    ∙ ap (slice_index c.table_of.result) (ap (λ p. slice_index p (s + 8)) is ∙ place-label live s l)
    ∙ c.table_of.ensures.labels (slice_index live s) (c.requires.within s l)
