-- Why digits don't decode.
use Rattle.std.proofs.Common.{◌≡◌, ◌∙◌, inl, inr, ℕ, ◌*◌, ◌/◌, ◌%◌, ◌+◌, List, length, sym, ap, subst, arith, MatchResult, Result, Ok, Err}
use Rattle.std.proofs.lemmas.Bool.{cases_eq}
use Rattle.hex.specs.Hex.{decode_sized}
use Rattle.hex.specs.declared.error.FromHexError.{FromHexError}
use Rattle.hex.specs.declared.error.FromHexError.TheVariants.{OddLength}
use Rattle.hex.proofs.HexLemmas.{decode_of-err, decode_sized-twice, decode_sized-odd}
use Rattle.frame_commands.specs.Explaining.Digits.{IsBadHex, IsFirstOther, place_named}

abbrev error_or : {X : Type 0} → FromHexError → Result X FromHexError → FromHexError
error_or d (Ok x) = d
error_or d (Err e) = e

pub written-err : (d : Result (List ℕ) FromHexError) (r : Result (Unit {0}) FromHexError) (out : List ℕ) (e : FromHexError)
    → MatchResult d (λ bytes. (r ≡ Ok tt) × (out ≡ bytes)) (λ f. r ≡ Err f) → r ≡ Err e → d ≡ Err e
written-err (Ok bytes) r out e h g = cc (sym h.0 ∙ g)
written-err (Err f) r out e h g = ap (λ (x : FromHexError). Err x) (ap (error_or e) (sym h ∙ g))

-- digits that don't decode are an odd number, or one of them is none, which the error names
pub why : (s : List ℕ) (n : ℕ) (e : FromHexError) → n ≡ length s / 2 → decode_sized s n ≡ Err e → IsBadHex s (place_named (length s) e)
why s n e half h =
    elim (cases_eq (length s % 2) 1) [
      | inl odd ↦
          let is : OddLength ≡ e = ap (error_or OddLength) (sym (decode_sized-odd s n odd) ∙ h) in
          inl (odd, sym (ap (place_named (length s)) is))
      | inr other ↦
          let even : length s % 2 ≡ 0 = omega arith in
          let twice : length s ≡ 2 * n = omega arith in
          elim (decode_of-err s e (sym (decode_sized-twice s n twice) ∙ h)) [
            | inl odd ↦ absurd (other odd.0)
            | inr r ↦
                let place : place_named (length s) e ≡ 0 + r.0 = ap (place_named (length s)) r.1 in
                let same : r.0 ≡ place_named (length s) e = omega arith in
                inr (even, subst (IsFirstOther s) same (record { within = r.2; other = r.3; before = r.4 }))
          ]
    ]
