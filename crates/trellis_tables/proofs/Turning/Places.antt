-- What stands at each place of what was turned, and what one more number changes.
use Rattle.trellis_tables.proofs.Names.{◌≡◌, ℕ, ◌+◌, ◌-◌, ◌%◌, ◌<◌, ◌≤◌, ◌⊎◌, inl, inr, List, [], ◌∷◌, ◌++◌, length, get_or, take, sum}
use Rattle.trellis_tables.proofs.Names.{arith, refl, sym, ◌∙◌, ap, cases_lt, nat_tests, common_steps, ext_get_or, length_push}
use Rattle.trellis_tables.proofs.Names.{length-map-range_with_len, get_or-map-range_with_len, turned, before, unturned_at, unturned}
use Rattle.std.proofs.lemmas.List.{take-append-le, take_all}
use Rattle.std.proofs.lemmas.List.Sums.{sum_by_more, sum_by-append}
use Rattle.trellis_tables.specs.Differential.Turned.{turned_at}

pub length-turned : (q : List ℕ) → length (turned q) ≡ length q
length-turned q = length-map-range_with_len (turned_at q) 0 (length q)

pub length-unturned : (y : List ℕ) → length (unturned y) ≡ length y
length-unturned y = length-map-range_with_len (unturned_at y) 0 (length y)

pub get_or-turned : (q : List ℕ) (n : ℕ) → n < length q → get_or (turned q) n 0 ≡ turned_at q n
get_or-turned q n within = get_or-map-range_with_len (turned_at q) 0 (length q) n n 0 within (omega arith)

pub get_or-unturned : (y : List ℕ) (n : ℕ) → n < length y → get_or (unturned y) n 0 ≡ unturned_at y n
get_or-unturned y n within = get_or-map-range_with_len (unturned_at y) 0 (length y) n n 0 within (omega arith)

-- one turn more
pub sum-take_more : (q : List ℕ) (n : ℕ) → n < length q → sum (take (n + 1) q) ≡ sum (take n q) + get_or q n 0
sum-take_more q n within = sum_by_more (λ x. x) q n 0 within

pub sum-snoc : (q : List ℕ) (turn : ℕ) → sum (q ++ turn ∷ []) ≡ sum q + turn
sum-snoc q turn = sum_by-append (λ (x : ℕ). x) q (turn ∷ []) ∙ omega arith

-- earlier places do not see what follows
turned_at-append : (q : List ℕ) (turn n : ℕ) → n < length q → turned_at (q ++ turn ∷ []) n ≡ turned_at q n
turned_at-append q turn n within = let h : n + 1 ≤ length q = omega arith in rw (take-append-le (n + 1) q (turn ∷ []) h) refl

before-append : (y : List ℕ) (last n : ℕ) → n ≤ length y → before (y ++ last ∷ []) n ≡ before y n
before-append y last n within = grind (arith, common_steps, nat_tests)

unturned_at-append : (y : List ℕ) (last n : ℕ) → n < length y → unturned_at (y ++ last ∷ []) n ≡ unturned_at y n
unturned_at-append y last n within = grind (arith, common_steps, before-append)

-- what stands at a place of a list with one number more
front : (xs : List ℕ) (x n : ℕ) → n < length xs → get_or (xs ++ x ∷ []) n 0 ≡ get_or xs n 0
front xs x n within = grind (arith, common_steps)

end : (xs : List ℕ) (x n : ℕ) → n ≡ length xs → get_or (xs ++ x ∷ []) n 0 ≡ x
end xs x n e = grind (arith, common_steps)

pub turned-snoc : (q : List ℕ) (turn : ℕ) → turned (q ++ turn ∷ []) ≡ turned q ++ ((sum q + turn) % 4) ∷ []
turned-snoc q turn =
    ext_get_or 0 (turned (q ++ turn ∷ [])) (turned q ++ ((sum q + turn) % 4) ∷ []) long
    (λ n within. each n (omega (arith, length-turned (q ++ turn ∷ []), length_push q turn)) (cases_lt n (length q)))
  where
    long : length (turned (q ++ turn ∷ [])) ≡ length (turned q ++ ((sum q + turn) % 4) ∷ [])
    long = length-turned (q ++ turn ∷ []) ∙ length_push q turn ∙ ap (λ n. n + 1) (sym (length-turned q))
        ∙ sym (length_push (turned q) ((sum q + turn) % 4))

    each : (n : ℕ) → n ≤ length q → (n < length q) ⊎ (length q ≤ n)
        → get_or (turned (q ++ turn ∷ [])) n 0 ≡ get_or (turned q ++ ((sum q + turn) % 4) ∷ []) n 0
    each n within (inl less) =
        get_or-turned (q ++ turn ∷ []) n (omega (arith, length_push q turn)) ∙ turned_at-append q turn n less ∙ sym (get_or-turned q n less)
        ∙ sym (front (turned q) ((sum q + turn) % 4) n (omega (arith, length-turned q)))
    each n within (inr last) =
        let all : take (n + 1) (q ++ turn ∷ []) ≡ q ++ turn ∷ [] = take_all (n + 1) (q ++ turn ∷ []) (omega (arith, length_push q turn)) in
        get_or-turned (q ++ turn ∷ []) n (omega (arith, length_push q turn)) ∙ ap (λ l. sum l % 4) all ∙ ap (λ s. s % 4) (sum-snoc q turn)
        ∙ sym (end (turned q) ((sum q + turn) % 4) n (omega (arith, length-turned q)))

pub unturned-snoc : (y : List ℕ) (last : ℕ) → unturned (y ++ last ∷ []) ≡ unturned y ++ ((last + 4 - before y (length y)) % 4) ∷ []
unturned-snoc y last =
    ext_get_or 0 (unturned (y ++ last ∷ [])) (unturned y ++ ((last + 4 - before y (length y)) % 4) ∷ []) long
    (λ n within. each n (omega (arith, length-unturned (y ++ last ∷ []), length_push y last)) (cases_lt n (length y)))
  where
    long : length (unturned (y ++ last ∷ [])) ≡ length (unturned y ++ ((last + 4 - before y (length y)) % 4) ∷ [])
    long = length-unturned (y ++ last ∷ []) ∙ length_push y last ∙ ap (λ n. n + 1) (sym (length-unturned y))
        ∙ sym (length_push (unturned y) ((last + 4 - before y (length y)) % 4))

    each : (n : ℕ) → n ≤ length y → (n < length y) ⊎ (length y ≤ n)
        → get_or (unturned (y ++ last ∷ [])) n 0 ≡ get_or (unturned y ++ ((last + 4 - before y (length y)) % 4) ∷ []) n 0
    each n within (inl less) =
        get_or-unturned (y ++ last ∷ []) n (omega (arith, length_push y last)) ∙ unturned_at-append y last n less
        ∙ sym (get_or-unturned y n less)
        ∙ sym (front (unturned y) ((last + 4 - before y (length y)) % 4) n (omega (arith, length-unturned y)))
    each n within (inr past) =
        let place : n ≡ length y = omega arith in
        get_or-unturned (y ++ last ∷ []) n (omega (arith, length_push y last))
        ∙ rw (end y last n place, before-append y last n within, place) refl
        ∙ sym (end (unturned y) ((last + 4 - before y (length y)) % 4) n (omega (arith, length-unturned y)))

-- what stands before the place behind the last
pub before-snoc : (y : List ℕ) (last : ℕ) → before (y ++ last ∷ []) (length (y ++ last ∷ [])) ≡ last
before-snoc y last = grind (arith, common_steps, nat_tests)
