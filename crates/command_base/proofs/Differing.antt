-- Names that the test of octets tells apart differ.
use Rattle.command_base.proofs.Names.{arith, ◌≡◌, ◌≢◌, ◌∙◌, ℕ, Bool, true, ◌&&◌, List, [], ◌∷◌, sym, ap, are_apart, AreApart, IsNoneOf}
use Rattle.std.proofs.Common.{not}
use Rattle.std.specs.Str.{bytes_eq}
use Rattle.std.proofs.lemmas.Slice.Eq.{bytes_eq-Decides}
use Rattle.outside_calls.specs.Outputs.{AreNoneOf}
use Rattle.command_base.specs.Apart.{is_none_of}

-- both halves of a test
left : (a b : Bool) → a && b ≡ true → a ≡ true
left a b e = grind (arith)

right : (a b : Bool) → a && b ≡ true → b ≡ true
right a b e = grind (arith)

differ : (a b : List ℕ) → not (bytes_eq a b) ≡ true → a ≢ b
differ a b e same = cc (sym e ∙ ap not ((bytes_eq-Decides a b).1 same))

none : (name : List ℕ) (names : List (List ℕ)) → is_none_of name names ≡ true → IsNoneOf name names
none name [] e = tt
none name (first ∷ others) e = (
  differ name first (left (not (bytes_eq name first)) (is_none_of name others) e),
  none name others (right (not (bytes_eq name first)) (is_none_of name others) e),
)

-- the first output by itself
first-apart : (name : List ℕ) (inputs names : List (List ℕ)) → are_apart inputs (name ∷ names) ≡ true
    → is_none_of name inputs && is_none_of name names ≡ true
first-apart name inputs names e = left (is_none_of name inputs && is_none_of name names) (are_apart inputs names) e

others-apart : (name : List ℕ) (inputs names : List (List ℕ)) → are_apart inputs (name ∷ names) ≡ true → are_apart inputs names ≡ true
others-apart name inputs names e = right (is_none_of name inputs && is_none_of name names) (are_apart inputs names) e

pub outputs-differ : (inputs outputs : List (List ℕ)) → are_apart inputs outputs ≡ true → AreApart outputs
outputs-differ inputs [] e = tt
outputs-differ inputs (name ∷ names) e = (
  none name names (right (is_none_of name inputs) (is_none_of name names) (first-apart name inputs names e)),
  outputs-differ inputs names (others-apart name inputs names e),
)

pub none-of-inputs : (inputs outputs : List (List ℕ)) → are_apart inputs outputs ≡ true → AreNoneOf outputs inputs
none-of-inputs inputs [] e = tt
none-of-inputs inputs (name ∷ names) e = (
  none name inputs (left (is_none_of name inputs) (is_none_of name names) (first-apart name inputs names e)),
  none-of-inputs inputs names (others-apart name inputs names e),
)
