-- What is touched where some names stand behind others.
use Rattle.line_world.proofs.Cited.{arith, inl, inr, ℕ, List, [], ◌∷◌, ◌++◌, sym, FolderState, AreApart, OnlyPuts, KeepsEach}
use Rattle.outside_calls.specs.Outputs.{IsNoneOf, AreNoneOf, SomeRose}
use Rattle.outside_calls.proofs.Putting.{none-front}

none-behind : (name : List ℕ) (front behind : List (List ℕ)) → IsNoneOf name (front ++ behind) → IsNoneOf name behind
none-behind name [] behind apart = apart
none-behind name (first ∷ front) behind apart = none-behind name front behind apart.1

pub puts-front : (a b : FolderState) (front behind : List (List ℕ)) → OnlyPuts a b front → OnlyPuts a b (front ++ behind)
puts-front a b front behind p = grind (arith, none-front)

pub puts-behind : (a b : FolderState) (front behind : List (List ℕ)) → OnlyPuts a b behind → OnlyPuts a b (front ++ behind)
puts-behind a b front behind p = grind (arith, none-behind)

pub rose-front : (before now : List ℕ → ℕ) (front behind : List (List ℕ)) → SomeRose before now front
    → SomeRose before now (front ++ behind)
rose-front before now [] behind rose = absurd rose
rose-front before now (name ∷ front) behind (inl rose) = inl rose
rose-front before now (name ∷ front) behind (inr rose) = inr (rose-front before now front behind rose)

pub rose-behind : (before now : List ℕ → ℕ) (front behind : List (List ℕ)) → SomeRose before now behind
    → SomeRose before now (front ++ behind)
rose-behind before now [] behind rose = rose
rose-behind before now (name ∷ front) behind rose = inr (rose-behind before now front behind rose)

-- names that are apart from one another, in two parts
pub apart-front : (front behind : List (List ℕ)) → AreApart (front ++ behind) → AreApart front
apart-front [] behind apart = tt
apart-front (name ∷ front) behind apart = (none-front name front behind apart.0, apart-front front behind apart.1)

pub apart-behind : (front behind : List (List ℕ)) → AreApart (front ++ behind) → AreApart behind
apart-behind [] behind apart = apart
apart-behind (name ∷ front) behind apart = apart-behind front behind apart.1

pub inputs-front : (front behind inputs : List (List ℕ)) → AreNoneOf (front ++ behind) inputs → AreNoneOf front inputs
inputs-front [] behind inputs apart = tt
inputs-front (name ∷ front) behind inputs apart = (apart.0, inputs-front front behind inputs apart.1)

pub inputs-behind : (front behind inputs : List (List ℕ)) → AreNoneOf (front ++ behind) inputs → AreNoneOf behind inputs
inputs-behind [] behind inputs apart = apart
inputs-behind (name ∷ front) behind inputs apart = inputs-behind front behind inputs apart.1

-- a name that stands behind some is none of these
stands-apart : (front : List (List ℕ)) (name : List ℕ) (behind : List (List ℕ)) → AreApart (front ++ name ∷ behind) → IsNoneOf name front
stands-apart [] name behind apart = tt
stands-apart (first ∷ front) name behind apart =
    (λ e. (none-behind first front (name ∷ behind) apart.0).0 (sym e), stands-apart front name behind apart.1)

none-without : (other : List ℕ) (front : List (List ℕ)) (name : List ℕ) (behind : List (List ℕ)) → IsNoneOf other (front ++ name ∷ behind)
    → IsNoneOf other (front ++ behind)
none-without other [] name behind apart = apart.1
none-without other (first ∷ front) name behind apart = (apart.0, none-without other front name behind apart.1)

without : (front : List (List ℕ)) (name : List ℕ) (behind : List (List ℕ)) → AreApart (front ++ name ∷ behind) → AreApart (front ++ behind)
without [] name behind apart = apart.1
without (first ∷ front) name behind apart = (none-without first front name behind apart.0, without front name behind apart.1)

-- names behind others are kept where the others alone are touched, and the other way round
pub keeps-front : (a b : FolderState) (front behind : List (List ℕ)) → AreApart (front ++ behind) → OnlyPuts a b behind
    → KeepsEach a b front
keeps-front a b [] behind apart p = tt
keeps-front a b (name ∷ front) behind apart p =
    (p.names name (none-behind name front behind apart.0), keeps-front a b front behind apart.1 p)

pub keeps-behind : (a b : FolderState) (front behind : List (List ℕ)) → AreApart (front ++ behind) → OnlyPuts a b front
    → KeepsEach a b behind
keeps-behind a b front [] apart p = tt
keeps-behind a b front (name ∷ behind) apart p = (
  p.names name (stands-apart front name behind apart),
  keeps-behind a b front behind (without front name behind apart) p,
)
