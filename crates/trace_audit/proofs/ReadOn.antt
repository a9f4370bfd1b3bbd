-- The octets of a text where it is to be read on.
use Rattle.trace_audit.proofs.Cited.{◌≡◌, ◌∙◌, ℕ, ◌-◌, ◌<◌, ◌≤◌, List, [], length, length-take, take, drop, Some, sym, ap, arith, take_all}
use Rattle.trace_audit.proofs.Cited.{HasWindow, Comparison}
use Rattle.std.proofs.Common.{min, length-drop, take-take}
use Rattle.std.proofs.lemmas.List.{take_min, drop-take, drop_all}
use Rattle.trace_audit.specs.Compared.{place_of}
use Rattle.trace_audit.specs.declared.comparison.Comparison.TheVariants.{Agrees, Differs}

-- they are those that are read, as far as the text ends at a limit
pub window-read : (c : Comparison) (at limit : ℕ) (text window : List ℕ) (size count : ℕ) → place_of c ≡ Some at → at ≤ limit
    → take count window ≡ take count (drop at text) → count ≡ min (min size (limit - at)) (length text - at)
    → HasWindow (take limit text) c size (take count window)
window-read (Agrees place lines) at limit text window size count e low front is =
    let same : at ≡ place = cc in
    let room : ℕ = limit - at in
    let rest : List ℕ = drop at text in
    let cut : drop at (take limit text) ≡ take room rest =
    ap (λ (n : ℕ). drop at (take n text)) (omega (arith, low)) ∙ drop-take at room text in
    let long : length rest ≡ length text - at = length-drop at text in
    let short : length (take room rest) ≡ min room (length rest) = length-take room rest in
    let few : min size (length (take room rest)) ≡ count = omega (arith, short, long, is) in
    front ∙ sym (take-take count room rest (omega (arith, is))) ∙ ap (λ (n : ℕ). take n (take room rest)) (sym few)
    ∙ take_min size (take room rest) ∙ ap (take size) (sym cut) ∙ ap (λ (p : ℕ). take size (drop p (take limit text))) same
window-read (Differs number cause) at limit text window size count e low front is = tt

-- none behind the limit
pub window-none : (c : Comparison) (at limit : ℕ) (text window : List ℕ) (size : ℕ) → place_of c ≡ Some at → limit < at
    → HasWindow (take limit text) c size (take 0 window)
window-none (Agrees place lines) at limit text window size e high =
    let same : at ≡ place = cc in
    let none : drop at (take limit text) ≡ [] = drop_all at (take limit text) (omega (arith, length-take limit text, high)) in
    sym (take_all size [] (omega arith)) ∙ ap (take size) (sym none) ∙ ap (λ (p : ℕ). take size (drop p (take limit text))) same
window-none (Differs number cause) at limit text window size e high = tt
