-- The order from the last label, where both lists go on by one label.
use Rattle.exact_decoder.proofs.Names.{◌≡◌, ℕ, ◌+◌, ◌<◌, inl, inr, List, [], ◌∷◌, ◌++◌, length, arith, refl, ap, append_cancel_right}
use Rattle.exact_decoder.proofs.Names.{LessFromLast}

pub Less-last : (a b : List ℕ) (x y : ℕ) → length a ≡ length b → x < y → LessFromLast (a ++ x ∷ []) (b ++ y ∷ [])
Less-last [] [] x y h l = inr (refl, l)
Less-last [] (z ∷ b) x y h l = absurd (omega arith)
Less-last (w ∷ a) [] x y h l = absurd (omega arith)
Less-last (w ∷ a) (z ∷ b) x y h l = inl (Less-last a b x y (omega arith) l)

pub Less-front : (a b : List ℕ) (x : ℕ) → LessFromLast a b → LessFromLast (a ++ x ∷ []) (b ++ x ∷ [])
Less-front [] b x h = absurd h
Less-front (w ∷ a) [] x h = absurd h
Less-front (w ∷ a) (z ∷ b) x (inl h) = inl (Less-front a b x h)
Less-front (w ∷ a) (z ∷ b) x (inr (e, l)) = inr (ap (λ t. t ++ x ∷ []) e, l)

-- with one last label, the fronts decide
pub Less-of_front : (a b : List ℕ) (x : ℕ) → length a ≡ length b → LessFromLast (a ++ x ∷ []) (b ++ x ∷ []) → LessFromLast a b
Less-of_front [] [] x n (inl h) = h
Less-of_front [] [] x n (inr (e, l)) = absurd (omega arith)
Less-of_front [] (z ∷ b) x n h = absurd (omega arith)
Less-of_front (w ∷ a) [] x n h = absurd (omega arith)
Less-of_front (w ∷ a) (z ∷ b) x n (inl h) = inl (Less-of_front a b x (omega arith) h)
Less-of_front (w ∷ a) (z ∷ b) x n (inr (e, l)) = inr (append_cancel_right a b (x ∷ []) e, l)

-- a list that isn't empty has a last element
pub snoc_of : (labels : List ℕ) (n : ℕ) → length labels ≡ n + 1 → (front : List ℕ) × (label : ℕ) × (labels ≡ front ++ label ∷ [])
snoc_of [] n h = absurd (omega arith)
snoc_of (x ∷ []) n h = ([], x, refl)
snoc_of (x ∷ y ∷ labels) n h = let r = snoc_of (y ∷ labels) (length labels) (omega arith) in (x ∷ r.0, r.1, ap (λ t. x ∷ t) r.2)
