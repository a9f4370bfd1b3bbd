-- Lists of parts as octets.
use Rattle.xid_params.proofs.Names.{◌≡◌, ℕ, ◌/◌, ◌%◌, ◌⊎◌, inl, inr, Bool, List, [], ◌∷◌, ◌++◌, length, cond, append_assoc, arith, refl}
use Rattle.xid_params.proofs.Names.{sym, ◌∙◌, ap, flat_map, Part, group_octets, parameter_octets, named}

-- A part is known by the octets in front.
pub record IsFree (spell : Part → List ℕ) : Type 0 where
  pub free : (a b : Part) (x y : List ℕ) → spell a ++ x ≡ spell b ++ y → (a ≡ b) × (x ≡ y)

pub cut-append : (a b x y : List ℕ) → length a ≡ length b → a ++ x ≡ b ++ y → (a ≡ b) × (x ≡ y)
cut-append [] [] x y l e = (refl, e)
cut-append [] (v ∷ b) x y l e = absurd (omega arith)
cut-append (u ∷ a) [] x y l e = absurd (omega arith)
cut-append (u ∷ a) (v ∷ b) x y l e =
    let same : length a ≡ length b = omega arith in
    let rest : a ++ x ≡ b ++ y = cc in
    let p = cut-append a b x y same rest in
    let head : u ≡ v = cc in
    (ap (λ h. h ∷ a) head ∙ ap (λ t. v ∷ t) p.0, p.1)

part-is : (i j : ℕ) (v w : List ℕ) → i ≡ j → v ≡ w
    → (let p : Part = record { identifier = i; value = v } in p) ≡ record { identifier = j; value = w }
part-is i j v w e f = cc

parameter-free' : (i j : ℕ) (v w x y : List ℕ) → i ∷ length v ∷ v ++ x ≡ j ∷ length w ∷ w ++ y
    → (i ≡ j) × (length v ≡ length w) × (v ++ x ≡ w ++ y)
parameter-free' i j v w x y e = (cc, cc, cc)

pub parameter-free : IsFree parameter_octets
parameter-free = record {
  free = λ a b x y e.
      let p = parameter-free' a.identifier b.identifier a.value b.value x y e in
      let q = cut-append a.value b.value x y p.1 p.2 in
      (part-is a.identifier b.identifier a.value b.value p.0 q.0, q.1);
}

group-free' : (i j h k l m : ℕ) (v w : List ℕ) → i ∷ h ∷ l ∷ v ≡ j ∷ k ∷ m ∷ w → (i ≡ j) × (h ≡ k) × (l ≡ m) × (v ≡ w)
group-free' i j h k l m v w e = (cc, cc, cc, cc)

same-number : (m n : ℕ) → m / 256 ≡ n / 256 → m % 256 ≡ n % 256 → m ≡ n
same-number m n h l = omega arith

pub group-free : IsFree group_octets
group-free = record {
  free = λ a b x y e.
      let p = group-free' a.identifier b.identifier (length a.value / 256) (length b.value / 256) (length a.value % 256)
      (length b.value % 256) (a.value ++ x) (b.value ++ y) e in
      let q = cut-append a.value b.value x y (same-number (length a.value) (length b.value) p.1 p.2) p.3 in
      (part-is a.identifier b.identifier a.value b.value p.0 q.0, q.1);
}

-- ys goes on behind xs
pub record GoesOn (spell : Part → List ℕ) (xs ys : List Part) (x y : List ℕ) : Type 0 where
  pub more : List Part
  pub parts_are : ys ≡ xs ++ more
  pub rest_is : x ≡ flat_map spell more ++ y

-- xs has one more part at least than ys
pub record IsLonger (spell : Part → List ℕ) (xs ys : List Part) (x y : List ℕ) : Type 0 where
  pub next : Part
  pub more : List Part
  pub parts_are : xs ≡ ys ++ next ∷ more
  pub rest_is : y ≡ spell next ++ (flat_map spell more ++ x)

-- of two ways to begin one list with parts one is the beginning of the other
pub compare : (spell : Part → List ℕ) → IsFree spell → (xs ys : List Part) (x y : List ℕ) → flat_map spell xs ++ x ≡ flat_map spell ys ++ y
    → GoesOn spell xs ys x y ⊎ IsLonger spell xs ys x y
compare spell free [] ys x y e = inl (record { more = ys; parts_are = refl; rest_is = e })
compare spell free (a ∷ xs) [] x y e =
    inr (record { next = a; more = xs; parts_are = refl; rest_is = sym e ∙ append_assoc (spell a) (flat_map spell xs) x })
compare spell free (a ∷ xs) (b ∷ ys) x y e =
    let p = free.free a b (flat_map spell xs ++ x) (flat_map spell ys ++ y)
    (sym (append_assoc (spell a) (flat_map spell xs) x) ∙ e ∙ append_assoc (spell b) (flat_map spell ys) y) in
    elim (compare spell free xs ys x y p.1) [
      | inl g ↦ inl (record { more = g.more; parts_are = ap (λ h. h ∷ ys) (sym p.0) ∙ ap (λ t. a ∷ t) g.parts_are; rest_is = g.rest_is })
      | inr g ↦ inr (record {
        next = g.next;
        more = g.more;
        parts_are = ap (λ h. h ∷ xs) p.0 ∙ ap (λ t. b ∷ t) g.parts_are;
        rest_is = g.rest_is;
      })
    ]

one-more : (b : Bool) (a : Part) (xs ys zs : List Part) → zs ≡ xs ++ ys → cond b (a ∷ zs) zs ≡ cond b (a ∷ xs) xs ++ ys
one-more q0 a xs ys zs e = grind (arith)

pub named-append : (identifier : ℕ) (xs ys : List Part) → named identifier (xs ++ ys) ≡ named identifier xs ++ named identifier ys
named-append identifier [] ys = refl
named-append identifier (a ∷ xs) ys = grind (arith, one-more, named-append identifier xs ys)
