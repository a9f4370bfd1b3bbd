-- An octet more that a meter measures.
use Rattle.gateway.proofs.Names.{◌≡◌, ◌∙◌, ℕ, suc, ◌+◌, ◌*◌, ◌/◌, ◌%◌, ◌<◌, ℤ, pos, Bool, List, [], ◌∷◌, ◌++◌, get_or, refl, sym, ap, subst}
use Rattle.gateway.proofs.Names.{arith, append_assoc, low_bits, bits_of, heard, samples_in, Mode, Sample}
use Rattle.frame_check.specs.Bits.{octet_bits}
use Rattle.frame_check.proofs.BitLists.{bits_of-snoc}
use Rattle.noise_bound.specs.Margins.{Measured, MarginStands}

-- two fours are an octet
pub two-fours : (a b : ℕ) → a < 16 → b < 16 → low_bits 4 a ++ low_bits 4 b ≡ octet_bits (a + 16 * b)
two-fours a b la lb =
    let n : ℕ = a + 16 * b in
    let e0 : a % 2 ≡ n % 2 = omega arith in
    let e1 : a / 2 % 2 ≡ n / 2 % 2 = omega arith in
    let e2 : a / 2 / 2 % 2 ≡ n / 2 / 2 % 2 = omega arith in
    let e3 : a / 2 / 2 / 2 % 2 ≡ n / 2 / 2 / 2 % 2 = omega arith in
    let e4 : b % 2 ≡ n / 2 / 2 / 2 / 2 % 2 = omega arith in
    let e5 : b / 2 % 2 ≡ n / 2 / 2 / 2 / 2 / 2 % 2 = omega arith in
    let e6 : b / 2 / 2 % 2 ≡ n / 2 / 2 / 2 / 2 / 2 / 2 % 2 = omega arith in
    let e7 : b / 2 / 2 / 2 % 2 ≡ n / 2 / 2 / 2 / 2 / 2 / 2 / 2 % 2 = omega arith in
    rw (e0, e1, e2, e3, e4, e5, e6, e7) refl

-- a margin has measured these bits
pub record Measures (mode : Mode) (m : Measured) (bits : List Bool) (samples : List Sample) : Type 0 where
  pub octets : List ℕ
  pub bits_are : bits ≡ bits_of octets
  pub measured : MarginStands mode m octets samples

-- two samples more
pub two-samples : (parts : List ℤ) (place : ℕ) (first second : Sample)
    → first.re ≡ get_or parts (2 * (2 * place)) (pos 0) → first.im ≡ get_or parts (2 * (2 * place) + 1) (pos 0)
    → second.re ≡ get_or parts (2 * (2 * place + 1)) (pos 0) → second.im ≡ get_or parts (2 * (2 * place + 1) + 1) (pos 0)
    → samples_in (2 * (place + 1)) parts ≡ (samples_in (2 * place) parts ++ first ∷ []) ++ second ∷ []
two-samples parts place first second fr fi sr si =
    let two : 2 * (place + 1) ≡ suc (suc (2 * place)) = omega arith in
    let one : suc (2 * place) ≡ 2 * place + 1 = omega arith in
    let re : get_or parts (2 * suc (2 * place)) (pos 0) ≡ second.re = ap (λ n. get_or parts (2 * n) (pos 0)) one ∙ sym sr in
    let im : get_or parts (2 * suc (2 * place) + 1) (pos 0) ≡ second.im = ap (λ n. get_or parts (2 * n + 1) (pos 0)) one ∙ sym si in
    ap (λ n. samples_in n parts) two
    ∙ (λ i. (samples_in (2 * place) parts ++ record { re = sym fr i; im = sym fi i } ∷ []) ++ record { re = re i; im = im i } ∷ [])

pub measures-more : (mode : Mode) (new : Measured) (past : List Bool) (samples : List Sample) (octets bits : List ℕ) (parts : List ℤ)
    (place octet : ℕ)
    (first second : Sample) → past ++ heard (8 * place) bits ≡ bits_of octets
    → heard (8 * place + 8) bits ≡ heard (8 * place) bits ++ octet_bits octet
    → samples_in (2 * (place + 1)) parts ≡ (samples_in (2 * place) parts ++ first ∷ []) ++ second ∷ []
    → MarginStands mode new (octets ++ octet ∷ []) (((samples ++ samples_in (2 * place) parts) ++ first ∷ []) ++ second ∷ [])
    → Measures mode new (past ++ heard (8 * (place + 1)) bits) (samples ++ samples_in (2 * (place + 1)) parts)
measures-more mode new past samples octets bits parts place octet first second before more two m =
    let eight : 8 * (place + 1) ≡ 8 * place + 8 = omega arith in
    let all : samples ++ samples_in (2 * (place + 1)) parts ≡ ((samples ++ samples_in (2 * place) parts) ++ first ∷ []) ++ second ∷ [] =
    ap (λ xs. samples ++ xs) two ∙ sym (append_assoc samples (samples_in (2 * place) parts ++ first ∷ []) (second ∷ []))
    ∙ ap (λ xs. xs ++ second ∷ []) (sym (append_assoc samples (samples_in (2 * place) parts) (first ∷ []))) in
    record {
      octets = octets ++ octet ∷ [];
      bits_are = ap (λ n. past ++ heard n bits) eight ∙ ap (λ xs. past ++ xs) more
          ∙ sym (append_assoc past (heard (8 * place) bits) (octet_bits octet)) ∙ ap (λ xs. xs ++ octet_bits octet) before
          ∙ sym (bits_of-snoc octets octet);
      measured = subst (λ (xs : List Sample). MarginStands mode new (octets ++ octet ∷ []) xs) (sym all) m;
    }
