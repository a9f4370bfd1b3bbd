-- The files of a run: those that are sent, as they were before it, and those that are received, however it ends.
use Rattle.run_inputs.proofs.Names.{◌≡◌, inl, inr, ℕ, ◌≤◌, List, [], ◌++◌, refl, sym, ◌∙◌, ap, arith, IsWithin, octets-kept, told_later}
use Rattle.run_inputs.proofs.Names.{FolderState, octets_at}
use Rattle.std.proofs.Common.{IsTrue, take}
use Rattle.std.proofs.Common.{append_assoc}
use Rattle.std.proofs.lemmas.List.{take_all}
use Rattle.shared_terms.specs.Prefix.{IsPrefixOf}
use Rattle.outside_calls.specs.Folder.{GoesOn, KeepsName}
use Rattle.outside_calls.specs.Outputs.{Holds, HoldsPart, KeptOrEmpty}
use Rattle.outside_calls.proofs.Steps.{KeepsName-trans}
use Rattle.turn_bound.specs.Limits.{file_limit}
use Rattle.run_inputs.specs.Files.{KeptOrPrefix}

-- a file as it was before all of them
pub file-is : (old next : FolderState) (name file : List ℕ) (limit : ℕ) → GoesOn old next → KeepsName old next name
    → IsWithin old name limit
    → limit ≤ file_limit
    → (IsTrue (next.tells name) → file ≡ take file_limit (octets_at next name)) → IsTrue (old.tells name) → file ≡ octets_at old name
file-is old next name file limit on kept within few known told =
    let same : octets_at next name ≡ octets_at old name = octets-kept old next name kept told in
    known (told_later on name told) ∙ ap (take file_limit) same ∙ take_all file_limit (octets_at old name) (omega (arith, within told, few))

-- what a received file holds begins the file that was read
pub prefix-of : (old before : FolderState) (got sent file taken : List ℕ) → GoesOn old before
    → (IsTrue (old.tells sent) → file ≡ octets_at old sent) → Holds before got taken → IsPrefixOf taken file
    → KeptOrPrefix old before got sent
prefix-of old before got sent file taken g reads holds p = inr (λ ts tg. (taken, holds (told_later g got tg), (p.0, p.1 ∙ reads ts)))

-- and so it does with a part of what comes behind it
pub part-of : (old before : FolderState) (got sent file taken more : List ℕ) → GoesOn old before
    → (IsTrue (old.tells sent) → file ≡ octets_at old sent) → HoldsPart before got taken more → IsPrefixOf (taken ++ more) file
    → KeptOrPrefix old before got sent
part-of old before got sent file taken more g reads holds p =
    inr (λ ts tg. let h = holds (told_later g got tg) in
    (taken ++ h.0, h.2, (h.1.0 ++ p.0, regroup h.0 h.1.0 h.1.1 ∙ p.1 ∙ reads ts)))
  where
    regroup : (part rest : List ℕ) → part ++ rest ≡ more → (taken ++ part) ++ (rest ++ p.0) ≡ (taken ++ more) ++ p.0
    regroup part rest e = sym (append_assoc (taken ++ part) rest p.0)
        ∙ ap (λ x. x ++ p.0) (append_assoc taken part rest ∙ ap (λ x. taken ++ x) e)

pub empty-of : (old before : FolderState) (got sent : List ℕ) → GoesOn old before → KeptOrEmpty old before got
    → KeptOrPrefix old before got sent
empty-of old before got sent g (inl k) = inl k
empty-of old before got sent g (inr h) = inr (λ ts tg. ([], h (told_later g got tg), (octets_at old sent, refl)))

-- and so it stays behind what keeps that name
pub prefix-later : (old before new : FolderState) (got sent : List ℕ) → GoesOn old before → KeepsName before new got
    → KeptOrPrefix old before got sent → KeptOrPrefix old new got sent
prefix-later old before new got sent g k (inl h) = inl (KeepsName-trans old before new got g h k)
prefix-later old before new got sent g k (inr h) = inr (λ ts tg. let p = h ts tg in (p.0, k (told_later g got tg) ∙ p.1, p.2))
