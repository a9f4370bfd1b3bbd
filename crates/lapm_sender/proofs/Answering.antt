-- What follows on an acknowledgement.
use Rattle.std.proofs.Common.{◌≡◌, Option, Some, None, refl}
use Rattle.std.specs.Option.{option_map}

-- a function after another one, of what there may be
pub option-twice : {A B C : Type 0} (f : B → C) (g : A → B) (a : Option A) → option_map f (option_map g a) ≡ option_map (λ x. f (g x)) a
option-twice f g None = refl
option-twice f g (Some x) = refl
