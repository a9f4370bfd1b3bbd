-- What an output holds after one step more.
use Rattle.outside_calls.proofs.Names.{◌∙◌, inl, inr, ℕ, List, [], ◌++◌, Some, refl, sym, ap, subst, FolderState, GoesOn, KeepsName, Adds}
use Rattle.outside_calls.proofs.Names.{Appended, PartlyAppended}
use Rattle.std.proofs.Common.{append-nil, append_assoc}
use Rattle.shared_terms.specs.Prefix.{IsPrefixOf}
use Rattle.outside_calls.proofs.Steps.{octets-held}
use Rattle.outside_calls.specs.Outputs.{Holds, HoldsFront, HoldsPart}
use Rattle.outside_calls.proofs.OnlyOutputs.{told_earlier}

pub Holds-kept : (a b : FolderState) (name octets : List ℕ) → GoesOn a b → Holds a name octets → KeepsName a b name → Holds b name octets
Holds-kept a b name octets g holds kept told = let was = told_earlier g name told in kept was ∙ holds was

pub Holds-more : (a b : FolderState) (name octets piece : List ℕ) → GoesOn a b → Holds a name octets → Appended a b name piece
    → Holds b name (octets ++ piece)
Holds-more a b name octets piece g holds put told =
    let was = told_earlier g name told in put was ∙ ap (λ xs. Some (xs ++ piece)) (octets-held a name octets (holds was))

pub Holds-add : (a b : FolderState) (name octets piece : List ℕ) → GoesOn a b → Holds a name octets → Adds a b name piece
    → Holds b name (octets ++ piece)
Holds-add a b name octets piece g holds adds = elim adds [
  | inl none ↦ subst (Holds b name) (sym (append-nil octets) ∙ ap (λ xs. octets ++ xs) (sym none.0))
      (Holds-kept a b name octets g holds none.1)
  | inr put ↦ Holds-more a b name octets piece g holds put
]

-- a failed append leaves a part of the piece
pub HoldsPart-more : (a b : FolderState) (name octets piece : List ℕ) → GoesOn a b → Holds a name octets → PartlyAppended a b name piece
    → HoldsPart b name octets piece
HoldsPart-more a b name octets piece g holds put told = let was = told_earlier g name told in elim (put was) [
  | inl kept ↦ ([], (piece, refl), kept ∙ holds was ∙ ap Some (sym (append-nil octets)))
  | inr part ↦ (part.0, part.1, part.2 ∙ ap (λ xs. Some (xs ++ part.0)) (octets-held a name octets (holds was)))
]

pub HoldsFront-part : (f : FolderState) (name octets piece : List ℕ) → HoldsPart f name octets piece → HoldsFront f name (octets ++ piece)
HoldsFront-part f name octets piece holds told =
    let h = holds told in (octets ++ h.0, (h.1.0, append_assoc octets h.0 h.1.0 ∙ ap (λ xs. octets ++ xs) h.1.1), h.2)

pub HoldsFront-more : (a b : FolderState) (name octets piece : List ℕ) → GoesOn a b → Holds a name octets → PartlyAppended a b name piece
    → HoldsFront b name (octets ++ piece)
HoldsFront-more a b name octets piece g holds put = HoldsFront-part b name octets piece (HoldsPart-more a b name octets piece g holds put)

pub HoldsFront-all : (f : FolderState) (name octets : List ℕ) → Holds f name octets → HoldsFront f name octets
HoldsFront-all f name octets holds told = (octets, ([], append-nil octets), holds told)

pub HoldsFront-longer : (f : FolderState) (name octets longer : List ℕ) → HoldsFront f name octets → IsPrefixOf octets longer
    → HoldsFront f name longer
HoldsFront-longer f name octets longer holds p told =
    let h = holds told in (h.0, (h.1.0 ++ p.0, sym (append_assoc h.0 h.1.0 p.0) ∙ ap (λ xs. xs ++ p.0) h.1.1 ∙ p.1), h.2)
